-- The lines of a commit and their order (gitdatamodel, "commits").
use Rattle.std.specs.Prelude.{◌≡◌, ◌≢◌, ℕ, List, [], ◌∷◌, codes, ⊤}
use Rattle.bstr.specs.BStr.{bstr_bytes}
use Rattle.gixobj_actor.specs.Actor.{IsActorOf, NamesActor, actor_view}
use Rattle.gixobj_parse.specs.HeaderReading.{BorrowsOneLine, BeginsWithIdField, header_of}
use Rattle.gixobj_hash.specs.HeaderFormat.{BeginsWithSeveralLines, BeginsWithField, BeginsWithHeader, Header}
use Rattle.gixobj_hash.specs.HeaderFormat.{BeginsWithOtherName}
use Rattle.gixobj_hash.specs.Runs.{IsPieceError}
use Rattle.gixobj_hash.specs.Hash.{IsIdHex}
use Rattle.gixobj_hash.specs.declared.decode.Error.{Error}
use Rattle.gixobj_hash.specs.declared.hash.kind.Kind.{Kind}
use Rattle.gixobj_grammar.specs.declared.lines.Line.{Line}
use Rattle.gixobj_grammar.specs.declared.lines.Line.TheVariants as line
use Rattle.gixobj_grammar.specs.declared.lines.State.{State}
use Rattle.gixobj_grammar.specs.declared.lines.State.TheVariants as state
use Rattle.gixobj_hash.specs.Bytes.{newline}

-- the content of a line, or of a header of several lines: hex, an actor's line, an encoding, a header or the message
pub data LineView : Type 0 where
  tree_line : List ℕ → LineView
  parent_line : List ℕ → LineView
  author_line : List ℕ → LineView
  committer_line : List ℕ → LineView
  encoding_line : List ℕ → LineView
  header_line : Header → LineView
  message_line : List ℕ → LineView

-- the content of a decoded line
abbrev pub line_view : Line → LineView
line_view (line.Tree hex) = tree_line (bstr_bytes hex)
line_view (line.Parent hex) = parent_line (bstr_bytes hex)
line_view (line.Author bytes actor) = author_line (bstr_bytes bytes)
line_view (line.Committer bytes actor) = committer_line (bstr_bytes bytes)
line_view (line.Encoding encoding) = encoding_line (bstr_bytes encoding)
line_view (line.ExtraHeader header) = header_line (header_of header)
line_view (line.Message message) = message_line (bstr_bytes message)

-- the actor of a decoded line is the one that its bytes decode to, and a header's value is borrowed if it has one
-- line
abbrev pub IsParsedLine : Line → Type 0
IsParsedLine (line.Author bytes actor) = IsActorOf (bstr_bytes bytes) (actor_view actor)
IsParsedLine (line.Committer bytes actor) = IsActorOf (bstr_bytes bytes) (actor_view actor)
IsParsedLine (line.ExtraHeader header) = BorrowsOneLine header.1
IsParsedLine _ = ⊤

-- the id of a line is the hex of an id
abbrev pub HasHex : LineView → Type 0
HasHex (tree_line hex) = IsIdHex hex
HasHex (parent_line hex) = IsIdHex hex
HasHex _ = ⊤

-- the input begins with a field of this name whose value is an actor, and the rest follows
abbrev pub BeginsWithActorField : List ℕ → List ℕ → List ℕ → List ℕ → Type 0
BeginsWithActorField name input bytes rest = BeginsWithField name input bytes rest × NamesActor bytes

-- the input begins with no field of this name whose value is an actor
abbrev pub BeginsWithNoActorField : List ℕ → List ℕ → Type 0
BeginsWithNoActorField name input = (bytes rest : List ℕ) → ¬ BeginsWithActorField name input bytes rest

-- in this state the input begins with this line, and the rest follows in the next state
pub data BeginsWithLine (kind : Kind) : State → List ℕ → LineView → State → List ℕ → Type 0 where
  tree_comes : (input hex rest : List ℕ) → BeginsWithIdField (codes "tree") kind input hex rest
      → BeginsWithLine kind state.Tree input (tree_line hex) state.Parents rest
  parent_comes : (input hex rest : List ℕ) → BeginsWithIdField (codes "parent") kind input hex rest
      → BeginsWithLine kind state.Parents input (parent_line hex) state.Parents rest
  author_comes : (input bytes rest : List ℕ) → BeginsWithActorField (codes "author") input bytes rest
      → BeginsWithLine kind state.Parents input (author_line bytes) state.Committer rest
  committer_comes : (input bytes rest : List ℕ) → BeginsWithActorField (codes "committer") input bytes rest
      → BeginsWithLine kind state.Committer input (committer_line bytes) state.Encoding rest
  encoding_comes : (input encoding rest : List ℕ) → BeginsWithField (codes "encoding") input encoding rest
      → BeginsWithLine kind state.Encoding input (encoding_line encoding) state.ExtraHeaders rest
  first_header_comes : (input : List ℕ) (header : Header) (rest : List ℕ) → BeginsWithHeader input header rest
      → header.name ≢ codes "encoding"
      → BeginsWithLine kind state.Encoding input (header_line header) state.ExtraHeaders rest
  header_comes : (input : List ℕ) (header : Header) (rest : List ℕ) → BeginsWithHeader input header rest
      → BeginsWithLine kind state.ExtraHeaders input (header_line header) state.ExtraHeaders rest
  first_message_comes : (input message : List ℕ) → input ≡ newline ∷ message
      → BeginsWithLine kind state.Encoding input (message_line message) state.End []
  message_comes : (input message : List ℕ) → input ≡ newline ∷ message
      → BeginsWithLine kind state.ExtraHeaders input (message_line message) state.End []

-- in this state the input begins with some line, and the rest follows in the next state
abbrev pub BeginsWithSomeLine : Kind → State → List ℕ → State → List ℕ → Type 0
BeginsWithSomeLine kind before input after rest = (line : LineView) × BeginsWithLine kind before input line after rest

-- a header of several lines may come in this state; directly after the committer its name is not `encoding`, since
-- the encoding has one line
abbrev pub MayFold : State → List ℕ → Type 0
MayFold state.Encoding input = BeginsWithOtherName (codes "encoding") input
MayFold state.ExtraHeaders input = ⊤
MayFold _ input = ⊥

-- a header of several lines comes, whose value is allocated
abbrev pub NeedsAllocation : State → List ℕ → Type 0
NeedsAllocation before input = MayFold before input × BeginsWithSeveralLines input

-- why no line is decoded: the input begins with none, or a header of several lines needs an allocation
abbrev pub IsLineError : Kind → State → List ℕ → Error → Type 0
IsLineError kind = IsPieceError (BeginsWithLine kind) NeedsAllocation
