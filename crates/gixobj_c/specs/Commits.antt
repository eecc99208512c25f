-- Results of the call about the tokens of commits.
use Rattle.std.specs.Prelude.{◌≡◌, ◌<◌, ◌≤◌, ◌+◌, ◌++◌, ◌==◌, ◌⊎◌, ℕ, All, List, Option, Some, None, drop}
use Rattle.std.specs.Prelude.{if◌then◌else◌, length}
use Rattle.std.specs.List.{flat_map}
use Rattle.gixobj_c_codes.specs.Codes.{at_end, bad_offset, done, malformed, out_of_memory, unknown_code}
use Rattle.gixobj_c.specs.Spans.{IsEmptyAt, IsSpanBefore}
use Rattle.gixobj_c.specs.declared.commits.CommitToken.{CommitToken}
use Rattle.gixobj_c.specs.declared.commits.Cursor.{Cursor}
use Rattle.gixobj_hash.specs.HeaderFormat.{Header, encode_continuation, value_of_lines}
use Rattle.gixobj_hash.specs.FieldFormat.{encode_line}
use Rattle.gixobj_hash.specs.Runs.{HasNoPiece}
use Rattle.gixobj_hash.specs.Bytes.{newline}
use Rattle.gixobj_hash.specs.ByteStrings.{IsByteFree}
use Rattle.gixobj_hash.specs.declared.hash.kind.Kind.{Kind}
use Rattle.gixobj_grammar.specs.Lines.{BeginsWithLine, LineView, NeedsAllocation, author_line, committer_line}
use Rattle.gixobj_grammar.specs.Lines.{encoding_line, header_line, message_line, parent_line, tree_line}
use Rattle.gixobj_grammar.specs.declared.lines.State.{State}
use Rattle.gixobj_grammar.specs.declared.lines.State.TheVariants as state

-- the state of this number
abbrev pub state_of_code : ℕ → Option State
state_of_code code = if code == 0 then Some state.Tree else if code == 1 then Some state.Parents else if code == 2 then
    Some state.Committer else if code == 3 then Some state.Encoding else if code == 4 then Some state.ExtraHeaders else
    if code == 5 then Some state.End else None

-- the bytes are the lines of a header as they are encoded, and this is the value that they decode to
pub record AreLinesOf (value bytes : List ℕ) : Type 0 where
  pub first : List ℕ
  pub more : List (List ℕ)
  pub joined : bytes ≡ encode_line first ++ flat_map encode_continuation more
  pub one_line : IsByteFree newline first
  pub each_one_line : All (λ line. IsByteFree newline line) more
  pub decoded : value ≡ value_of_lines first more

-- the token at the offset has this kind and no name; this number of bytes follows its value
pub record IsValueToken (commit : List ℕ) (offset number : ℕ) (bytes : List ℕ) (after : ℕ) (token : CommitToken)
    : Type 0 where
  pub kind : token.kind ≡ number
  pub name : IsEmptyAt offset token.name
  pub value : IsSpanBefore commit bytes after token.value

-- the token at the offset has the name of the header and, one byte after it, its lines, which the rest follows
pub record IsHeaderToken (commit : List ℕ) (offset : ℕ) (header : Header) (rest : List ℕ) (token : CommitToken)
    : Type 0 where
  pub bytes : List ℕ
  pub kind : token.kind ≡ 6
  pub start : token.name.start ≡ offset
  pub name : IsSpanBefore commit header.name (length bytes + length rest + 1) token.name
  pub value : IsSpanBefore commit bytes (length rest) token.value
  pub lines : AreLinesOf header.value bytes

-- the token at the offset is that of this line, which the rest follows: after a value on one line comes a newline
abbrev pub IsTokenOfLine : List ℕ → ℕ → LineView → List ℕ → CommitToken → Type 0
IsTokenOfLine commit offset (tree_line hex) rest token = IsValueToken commit offset 1 hex (length rest + 1) token
IsTokenOfLine commit offset (parent_line hex) rest token = IsValueToken commit offset 2 hex (length rest + 1) token
IsTokenOfLine commit offset (author_line actor) rest token = IsValueToken commit offset 3 actor (length rest + 1) token
IsTokenOfLine commit offset (committer_line actor) rest token =
    IsValueToken commit offset 4 actor (length rest + 1) token
IsTokenOfLine commit offset (encoding_line encoding) rest token =
    IsValueToken commit offset 5 encoding (length rest + 1) token
IsTokenOfLine commit offset (header_line header) rest token = IsHeaderToken commit offset header rest token
IsTokenOfLine commit offset (message_line message) rest token = IsValueToken commit offset 7 message 0 token

-- a line begins at this offset of the commit, and this rest follows it
abbrev pub BeginsWithLineAt : List ℕ → ℕ → LineView → List ℕ → Type 0
BeginsWithLineAt commit offset line rest =
    (kind : Kind) × (before after : State) × BeginsWithLine kind before (drop offset commit) line after rest

-- a line begins at the offset in the state `before`; the token is that of the line, and the cursor is after it
pub record IsTokenAt (kind : Kind) (commit : List ℕ) (before : State) (offset : ℕ) (cursor : Cursor)
    (token : CommitToken) : Type 0 where
  pub line : LineView
  pub after : State
  pub state : state_of_code cursor.state ≡ Some after
  pub begins : BeginsWithLine kind before (drop offset commit) line after (drop cursor.offset commit)
  pub within : cursor.offset ≤ length commit
  pub token_of_line : IsTokenOfLine commit offset line (drop cursor.offset commit) token

-- why no token is decoded at the offset in the state `before`
abbrev pub IsTokenStatus : Kind → List ℕ → State → ℕ → ℕ → Type 0
IsTokenStatus kind commit before offset status = ((status ≡ at_end) × (offset ≡ length commit))
    ⊎ (((status ≡ malformed) × (offset < length commit)
    × HasNoPiece (BeginsWithLine kind) before (drop offset commit))
    ⊎ (((status ≡ out_of_memory) × (offset < length commit) × NeedsAllocation before (drop offset commit))
    ⊎ ((status ≡ bad_offset) × (length commit < offset))))

-- the token at a cursor with this state and this offset, or why there is none
abbrev pub IsCommitTokenCall : Option Kind → List ℕ → Option State → ℕ → Cursor → Cursor → CommitToken → CommitToken
    → ℕ → Type 0
IsCommitTokenCall (Some kind) commit (Some before) offset old new token_old token_new status =
    ((status ≡ done) × IsTokenAt kind commit before offset new token_new)
    ⊎ (IsTokenStatus kind commit before offset status × (new ≡ old) × (token_new ≡ token_old))
IsCommitTokenCall _ commit _ offset old new token_old token_new status =
    (status ≡ unknown_code) × (new ≡ old) × (token_new ≡ token_old)
