-- States what the decoded lines of a commit are in each state of the decoder, and the complete commit at the end;
-- `EntireCommits` uses it.
use Rattle.std.proofs.Common.{◌≡◌, ◌≢◌, ℕ, List, [], ◌∷◌, ◌++◌, All, Option, Some, None, refl, sym, ap, subst, ◌∙◌, append_assoc}
use Rattle.std.proofs.lemmas.List.{append-nil}
use Rattle.std.proofs.lemmas.List.Concat.{flat_map-append}
use Rattle.std.proofs.lemmas.List.Elements.{All-nil, All-push}
use Rattle.std.specs.List.{flat_map}
use Rattle.std.specs.Prelude.{codes}
use Rattle.gixobj_hash.specs.HeaderFormat.{BeginsWithField, Header, DecodesToHeader}
use Rattle.gixobj_hash.specs.FieldFormat.{encode_field}
use Rattle.gixobj_hash.specs.Runs.{BeginsWithPieces}
use Rattle.gixobj_hash.specs.Hash.Hex.{IsIdHexOfKind}
use Rattle.gixobj_hash.specs.declared.hash.kind.Kind.{Kind}
use Rattle.gixobj_grammar.specs.Commit.{DecodesToHeaders, BeginsCommit, CommitLines, DecodesToCommit, IsEncoding, before_encoding, encode_encoding, encode_ids}
use Rattle.gixobj_grammar.specs.Commit.{encode_parent}
use Rattle.gixobj_grammar.specs.CommitBuilding.{gather, gathered, empty_commit}
use Rattle.gixobj_grammar.specs.Lines.{BeginsWithLine, LineView, author_comes, committer_comes, encoding_comes, first_header_comes, first_message_comes}
use Rattle.gixobj_grammar.specs.Lines.{header_comes, header_line, message_comes, parent_comes, tree_comes}
use Rattle.gixobj_actor.specs.Actor.{NamesActor}
use Rattle.gixobj_grammar.specs.declared.lines.State.{State}
use Rattle.gixobj_grammar.specs.declared.lines.State.TheVariants as state

-- ---- the state of the decoder

-- no message encoding and no header was decoded
abbrev pub LacksHeaders : CommitLines → Type 0
LacksHeaders commit = (commit.encoding ≡ None) × (commit.extra_headers ≡ [])

-- the ids that were decoded
pub record ReadsIds (kind : Kind) (commit : CommitLines) : Type 0 where
  pub tree : IsIdHexOfKind kind commit.tree
  pub parents : All (IsIdHexOfKind kind) commit.parents
  pub lacks : LacksHeaders commit

-- in this state, before the rest, the bytes begin with the lines of the commit built so far
abbrev pub Reads : Kind → List ℕ → State → List ℕ → CommitLines → Type 0
Reads kind bytes state.Tree rest commit = (bytes ≡ rest) × (commit.parents ≡ []) × LacksHeaders commit
Reads kind bytes state.Parents rest commit = (bytes ≡ encode_ids commit ++ rest) × ReadsIds kind commit
Reads kind bytes state.Committer rest commit = (bytes ≡ encode_ids commit ++ encode_field (codes "author") commit.author ++ rest)
    × ReadsIds kind commit
    × NamesActor commit.author
Reads kind bytes state.Encoding rest commit = BeginsCommit kind bytes commit rest × LacksHeaders commit
Reads kind bytes state.ExtraHeaders rest commit = BeginsCommit kind bytes commit rest × (commit.encoding ≡ None → commit.extra_headers ≢ [])
Reads kind bytes state.End rest commit = DecodesToCommit kind bytes commit

-- ---- joins

tree_append_no_parents : (bytes tree input rest : List ℕ) (parents : List (List ℕ)) → bytes ≡ input → input ≡ tree ++ rest → parents ≡ []
    → bytes ≡ tree ++ flat_map encode_parent parents ++ rest
tree_append_no_parents bytes tree input rest parents is joined none = rw (is, joined, none, append-nil tree) refl

parents_append_snoc : (bytes tree input hex rest : List ℕ) (parents : List (List ℕ)) → bytes ≡ tree ++ flat_map encode_parent parents ++ input
    → input ≡ encode_parent hex ++ rest
    → bytes ≡ tree ++ flat_map encode_parent (parents ++ hex ∷ []) ++ rest
parents_append_snoc bytes tree input hex rest parents is joined =
    let each : flat_map encode_parent (parents ++ hex ∷ []) ≡ flat_map encode_parent parents ++ encode_parent hex =
    flat_map-append encode_parent parents (hex ∷ []) ∙ ap (λ (it : List ℕ). flat_map encode_parent parents ++ it) (append-nil (encode_parent hex)) in
    rw (is, joined, each) (simp append_assoc)

append_after_prefix : (bytes prefix input part rest : List ℕ) → bytes ≡ prefix ++ input → input ≡ part ++ rest → bytes ≡ prefix ++ part ++ rest
append_after_prefix bytes prefix input part rest is joined = rw (is, joined) (simp append_assoc)

append_no_headers : (bytes prefix rest : List ℕ) (encoding : Option (List ℕ)) → bytes ≡ prefix ++ rest → encoding ≡ None
    → bytes ≡ prefix ++ encode_encoding encoding ++ [] ++ rest
append_no_headers bytes prefix rest encoding is none = rw (is, none) (sym (simp append-nil))

append_encoding_field : (bytes prefix input headers rest name : List ℕ) (encoding : Option (List ℕ))
    → bytes ≡ prefix ++ encode_encoding encoding ++ headers ++ input
    → encoding ≡ None → headers ≡ [] → input ≡ encode_field (codes "encoding") name ++ rest
    → bytes ≡ prefix ++ encode_field (codes "encoding") name ++ [] ++ rest
append_encoding_field bytes prefix input headers rest name encoding is none bare joined = rw (is, none, bare, joined) (simp (append_assoc, append-nil))

-- ---- headers

decodes_to_headers_snoc : (bytes first : List ℕ) (headers : List Header) (header : Header) → DecodesToHeaders bytes headers → DecodesToHeader first header
    → DecodesToHeaders (bytes ++ first) (headers ++ header ∷ [])
decodes_to_headers_snoc bytes first [] header none is = (first, [], rw none (sym (append-nil first)), is, refl)
decodes_to_headers_snoc bytes first (other ∷ headers) header (prefix, rest, joined, it, others) is = (
  prefix,
  rest ++ first,
  ap (λ (it : List ℕ). it ++ first) joined ∙ append_assoc prefix rest first,
  it,
  decodes_to_headers_snoc rest first headers header others is,
)

pub is_encoding_snoc : (encoding : Option (List ℕ)) (headers : List Header) (header : Header) → IsEncoding encoding headers
    → (encoding ≡ None → headers ≢ [])
    → IsEncoding encoding (headers ++ header ∷ [])
is_encoding_snoc (Some encoding) headers header is filled = is
is_encoding_snoc None [] header is filled = absurd (filled refl refl)
is_encoding_snoc None (first ∷ headers) header is filled = is

pub is_encoding_snoc_first : (encoding : Option (List ℕ)) (headers : List Header) (header : Header) → encoding ≡ None → headers ≡ []
    → header.name ≢ codes "encoding"
    → IsEncoding encoding (headers ++ header ∷ [])
is_encoding_snoc_first encoding headers header none bare other = rw (none, bare) other

pub headers_snoc_not_nil : (headers : List Header) (header : Header) → headers ++ header ∷ [] ≢ []
headers_snoc_not_nil [] header same = cc same
headers_snoc_not_nil (first ∷ headers) header same = cc same

nil_of_decodes_to_no_headers : (bytes : List ℕ) (headers : List Header) → headers ≡ [] → DecodesToHeaders bytes headers → bytes ≡ []
nil_of_decodes_to_no_headers bytes [] same are = are
nil_of_decodes_to_no_headers bytes (header ∷ headers) same are = cc same

-- a header is appended to the decoded ones
pub begins_commit_gather_header : (kind : Kind) (bytes input first rest : List ℕ) (commit : CommitLines) (header : Header)
    → BeginsCommit kind bytes commit input
    → input ≡ first ++ rest → DecodesToHeader first header
    → IsEncoding commit.encoding (commit.extra_headers ++ header ∷ []) → BeginsCommit kind bytes (gather commit (header_line header)) rest
begins_commit_gather_header kind bytes input first rest commit header begins joined is encoding =
    record {
      headers_encoding = begins.headers_encoding ++ first;
      joined = begins.joined ∙ ap (λ (it : List ℕ). before_encoding commit ++ encode_encoding commit.encoding ++ begins.headers_encoding ++ it) joined
          ∙ sym (simp append_assoc);
      tree = begins.tree;
      parents = begins.parents;
      author = begins.author;
      committer = begins.committer;
      encoding = encoding;
      extra_headers = decodes_to_headers_snoc begins.headers_encoding first commit.extra_headers header begins.extra_headers is;
    }

begins_commit_with_encoding : (kind : Kind) (bytes input encoding rest : List ℕ) (commit : CommitLines) → BeginsCommit kind bytes commit input
    → LacksHeaders commit
    → BeginsWithField (codes "encoding") input encoding rest
    → BeginsCommit kind bytes (record commit { encoding = Some encoding }) rest
begins_commit_with_encoding kind bytes input encoding rest commit begins lacks has =
    record {
      headers_encoding = [];
      joined = append_encoding_field bytes (before_encoding commit) input begins.headers_encoding rest encoding commit.encoding begins.joined lacks.0
          (nil_of_decodes_to_no_headers begins.headers_encoding commit.extra_headers lacks.1 begins.extra_headers) has.joined;
      tree = begins.tree;
      parents = begins.parents;
      author = begins.author;
      committer = begins.committer;
      encoding = has.one_line;
      extra_headers = subst (λ (it : List Header). DecodesToHeaders [] it) (sym lacks.1) refl;
    }

begins_commit_with_committer : (kind : Kind) (bytes input line rest : List ℕ) (commit : CommitLines)
    → bytes ≡ encode_ids commit ++ encode_field (codes "author") commit.author ++ input → ReadsIds kind commit → NamesActor commit.author
    → input ≡ encode_field (codes "committer") line ++ rest → NamesActor line → BeginsCommit kind bytes (record commit { committer = line }) rest
begins_commit_with_committer kind bytes input line rest commit is ids author joined names =
    let to_author = encode_ids commit ++ encode_field (codes "author") commit.author in
    record {
      headers_encoding = [];
      joined = append_no_headers bytes (to_author ++ encode_field (codes "committer") line) rest commit.encoding
          (append_after_prefix bytes to_author input (encode_field (codes "committer") line) rest is joined) ids.lacks.0;
      tree = ids.tree;
      parents = ids.parents;
      author = author;
      committer = names;
      encoding = rw (ids.lacks.0, ids.lacks.1) tt;
      extra_headers = subst (λ (it : List Header). DecodesToHeaders [] it) (sym ids.lacks.1) refl;
    }

decodes_to_commit_with_message : (kind : Kind) (bytes input message : List ℕ) (commit : CommitLines) → BeginsCommit kind bytes commit input
    → input ≡ 10 ∷ message
    → DecodesToCommit kind bytes (record commit { message = message })
decodes_to_commit_with_message kind bytes input message commit begins is =
    record {
      headers_encoding = begins.headers_encoding;
      joined = begins.joined ∙ ap (λ (it : List ℕ). before_encoding commit ++ encode_encoding commit.encoding ++ begins.headers_encoding ++ it) is;
      tree = begins.tree;
      parents = begins.parents;
      author = begins.author;
      committer = begins.committer;
      encoding = begins.encoding;
      extra_headers = begins.extra_headers;
    }

-- ---- one more line

pub reads_gather : (kind : Kind) (bytes : List ℕ) (commit : CommitLines) (before : State) (input : List ℕ) (line : LineView) (following : State)
    (rest : List ℕ)
    → BeginsWithLine kind before input line following rest
    → Reads kind bytes before input commit → Reads kind bytes following rest (gather commit line)
reads_gather kind bytes commit before input line after rest (tree_comes _ hex _ has) (is, none, lacks) = (
  tree_append_no_parents bytes (encode_field (codes "tree") hex) input rest commit.parents is has.0.joined none,
  record
      { tree = has.1; parents = subst (All (IsIdHexOfKind kind)) (sym none) (All-nil (IsIdHexOfKind kind)); lacks = lacks },
)
reads_gather kind bytes commit before input line after rest (parent_comes _ hex _ has) (is, ids) = (
  parents_append_snoc bytes (encode_field (codes "tree") commit.tree) input hex rest commit.parents is has.0.joined,
  record
      { tree = ids.tree; parents = All-push (IsIdHexOfKind kind) commit.parents hex ids.parents has.1; lacks = ids.lacks },
)
reads_gather kind bytes commit before input line after rest (author_comes _ actor _ has) (is, ids) = (
  append_after_prefix bytes (encode_ids commit) input (encode_field (codes "author") actor) rest is has.0.joined,
  record
      { tree = ids.tree; parents = ids.parents; lacks = ids.lacks },
  has.1,
)
reads_gather kind bytes commit before input line after rest (committer_comes _ actor _ has) (is, ids, author) =
    (begins_commit_with_committer kind bytes input actor rest commit is ids author has.0.joined has.1, ids.lacks)
reads_gather kind bytes commit before input line after rest (encoding_comes _ encoding _ has) (begins, lacks) =
    (begins_commit_with_encoding kind bytes input encoding rest commit begins lacks has, λ none. cc none)
reads_gather kind bytes commit before input line after rest (first_header_comes _ header _ has other) (begins, lacks) = (
  begins_commit_gather_header kind bytes input has.encoded rest commit header begins has.joined has.written
      (is_encoding_snoc_first commit.encoding commit.extra_headers header lacks.0 lacks.1 other),
  λ none. headers_snoc_not_nil commit.extra_headers header,
)
reads_gather kind bytes commit before input line after rest (header_comes _ header _ has) (begins, filled) = (
  begins_commit_gather_header kind bytes input has.encoded rest commit header begins has.joined has.written
      (is_encoding_snoc commit.encoding commit.extra_headers header begins.encoding filled),
  λ none. headers_snoc_not_nil commit.extra_headers header,
)
reads_gather kind bytes commit before input line after rest (first_message_comes _ message is) (begins, lacks) =
    decodes_to_commit_with_message kind bytes input message commit begins is
reads_gather kind bytes commit before input line after rest (message_comes _ message is) (begins, filled) =
    decodes_to_commit_with_message kind bytes input message commit begins is

pub reads_gathered : (kind : Kind) (bytes : List ℕ) (commit : CommitLines) (before : State) (input : List ℕ) (lines : List LineView) (following : State)
    (rest : List ℕ) → BeginsWithPieces (BeginsWithLine kind) before input lines following rest
    → Reads kind bytes before input commit → Reads kind bytes following rest (gathered commit lines)
reads_gathered kind bytes commit before input [] following rest (same_state, same_input) reads = rw (← same_state, ← same_input) reads
reads_gathered kind bytes commit before input (line ∷ lines) following rest (next, after, has, more) reads =
    reads_gathered kind bytes (gather commit line) next after lines following rest more
    (reads_gather kind bytes commit before input line next after has reads)

-- the lines of the encoding from its start
pub reads_gathered_of_empty : (kind : Kind) (bytes : List ℕ) (lines : List LineView) (following : State) (rest : List ℕ)
    → BeginsWithPieces (BeginsWithLine kind) state.Tree bytes lines following rest → Reads kind bytes following rest (gathered empty_commit lines)
reads_gathered_of_empty kind bytes lines following rest begins_with = reads_gathered kind bytes empty_commit state.Tree bytes lines following rest begins_with
    (refl, refl, (refl, refl))
