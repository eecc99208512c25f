-- Decoded commits that are copied and encoded again (gitdatamodel, "commits").
use Rattle.std.specs.Prelude.{◌≡◌, ◌⊎◌, ℕ, List, [], Some, map}
use Rattle.std.specs.Str.{str_to_ascii_lowercase}
use Rattle.gixobj_actor.specs.ActorWriting.{IsCanonical, IsUnwritable}
use Rattle.gixobj_streams.specs.Streams.{AppendsPrefix, SinkView}
use Rattle.gixobj_streams.specs.declared.encode.Error.{Error}
use Rattle.gixobj_streams.specs.declared.encode.Error.TheVariants as error
use Rattle.gixobj_grammar.specs.Commit.{CommitLines}

-- the parts of an owned copy: ids in lower case, actors normalized by their decoder and encoder, all else unchanged
pub record AreNormalizedPartsOfCommit (commit own : CommitLines) : Type 0 where
  pub tree : own.tree ≡ str_to_ascii_lowercase commit.tree
  pub parents : own.parents ≡ map str_to_ascii_lowercase commit.parents
  pub author : IsCanonical commit.author own.author
  pub committer : IsCanonical commit.committer own.committer
  pub encoding : own.encoding ≡ commit.encoding
  pub extra_headers : own.extra_headers ≡ commit.extra_headers
  pub message : own.message ≡ commit.message

-- the commit has an empty message encoding
abbrev pub HasEmptyEncoding : CommitLines → Type 0
HasEmptyEncoding commit = commit.encoding ≡ Some []

-- the error of encoding the owned copy of a decoded commit. Writer: the sink failed after a proper prefix;
-- IllegalActor: an actor can't be written; EmptyValue: the message encoding is empty
abbrev pub IsNormalizedCommitError : CommitLines → SinkView → SinkView → List ℕ → Error → Type 0
IsNormalizedCommitError commit before after content (error.Writer cause) = AppendsPrefix before after content cause
IsNormalizedCommitError commit before after content error.IllegalActor = IsUnwritable commit.author
    ⊎ IsUnwritable commit.committer
IsNormalizedCommitError commit before after content error.EmptyValue = HasEmptyEncoding commit
IsNormalizedCommitError commit before after content _ = ⊥
