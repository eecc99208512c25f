-- The views of borrowed and of owned commits.
use Rattle.std.specs.Prelude.{All, map}
use Rattle.bstr.specs.BStr.{bstr_bytes}
use Rattle.bstr.specs.Owned.{bstring_bytes}
use Rattle.gixobj_actor.specs.ActorWriting.{encode_owned_actor}
use Rattle.gixobj_hash.specs.Hash.{encode_id_hex}
use Rattle.gixobj_parse.specs.HeaderReading.{BorrowsOneLine, header_of, owned_header_of}
use Rattle.gixobj_grammar.specs.Commit.{CommitLines}
use Rattle.gixobj_commit.specs.declared.commit.Commit.{Commit}
use Rattle.gixobj_commit.specs.declared.commit.CommitRef.{CommitRef}
use Rattle.gixobj_hash.specs.Optional.{bytes_if_some, owned_bytes_if_some}

-- the parts of a borrowed commit
abbrev pub commit_lines : CommitRef → CommitLines
commit_lines commit = record {
  tree = bstr_bytes commit.tree;
  parents = map bstr_bytes commit.parents.items;
  author = bstr_bytes commit.author;
  committer = bstr_bytes commit.committer;
  encoding = bytes_if_some commit.encoding;
  extra_headers = map header_of commit.extra_headers.items;
  message = bstr_bytes commit.message;
}

-- header values of one line are borrowed, values of several lines are owned
abbrev pub BorrowsOneLineValues : CommitRef → Type 0
BorrowsOneLineValues commit = All (λ header. BorrowsOneLine header.1) commit.extra_headers.items

-- the parts of an owned commit: ids in lower-case hex, and actors and times encoded
abbrev pub owned_commit_lines : Commit → CommitLines
owned_commit_lines commit = record {
  tree = encode_id_hex commit.tree;
  parents = map encode_id_hex commit.parents.items;
  author = encode_owned_actor commit.author;
  committer = encode_owned_actor commit.committer;
  encoding = owned_bytes_if_some commit.encoding;
  extra_headers = map owned_header_of commit.extra_headers.items;
  message = bstring_bytes commit.message;
}
