-- The first extra header of a name in the encoding of a commit (gitdatamodel, "commits").
use Rattle.std.specs.Prelude.{◌≡◌, ℕ, List, Option, Some, None, ◌++◌}
use Rattle.std.specs.Cow.{cow_slice_items}
use Rattle.gixobj_hash.specs.HeaderFormat.{Header}
use Rattle.gixobj_hash.specs.Runs as runs
use Rattle.gixobj_hash.specs.Runs.{BeginsWithOtherPieces, broken, complete}
use Rattle.gixobj_hash.specs.declared.decode.Error.{Error}
use Rattle.gixobj_hash.specs.declared.decode.Error.TheVariants.{Malformed, OutOfMemory}
use Rattle.gixobj_hash.specs.declared.hash.kind.Kind.{Kind}
use Rattle.gixobj_grammar.specs.Lines.{BeginsWithLine, LineView, NeedsAllocation, header_line}
use Rattle.gixobj_grammar.specs.declared.lines.State.{State}
use Rattle.gixobj_grammar.specs.declared.lines.State.TheVariants as state
use Rattle.gixobj_grammar.specs.declared.headers.FoundHeader.{FoundHeader}

-- the line is a header of this name
abbrev pub IsNamedLine : List ℕ → LineView → Type 0
IsNamedLine name (header_line header) = header.name ≡ name
IsNamedLine name _ = ⊥

-- the first header of this name has this value, and the others are all bytes except that header
pub record HasNamedHeader (kind : Kind) (name content value others : List ℕ) : Type 0 where
  pub before : State
  pub following : State
  pub input : List ℕ
  pub rest : List ℕ
  pub header : Header
  pub prefix : List ℕ
  pub begins_with : BeginsWithOtherPieces (BeginsWithLine kind) (IsNamedLine name) state.Tree content before input
  pub comes : BeginsWithLine kind before input (header_line header) following rest
  pub named : header.name ≡ name
  pub received : value ≡ header.value
  pub joined : content ≡ prefix ++ input
  pub remaining : others ≡ prefix ++ rest

-- the bytes decode to lines, to their end, and none of them is a header of this name
abbrev pub HasNoNamedHeader : Kind → List ℕ → List ℕ → Type 0
HasNoNamedHeader kind name content =
    runs.YieldsNone (BeginsWithLine kind) (IsNamedLine name) state.Tree content complete

-- the first header of this name, with the bytes before it and after it, or none
abbrev pub FindsNamedHeader : Kind → List ℕ → List ℕ → Option FoundHeader → Type 0
FindsNamedHeader kind name content (Some it) =
    HasNamedHeader kind name content (cow_slice_items it.value) (it.before.now ++ it.after.now)
FindsNamedHeader kind name content None = HasNoNamedHeader kind name content

-- Malformed: after lines that are no header of this name comes a malformed one; OutOfMemory: after such lines comes a
-- header of several lines, whose value allocates
abbrev pub IsNamedHeaderError : Kind → List ℕ → List ℕ → Error → Type 0
IsNamedHeaderError kind name content Malformed =
    runs.YieldsNone (BeginsWithLine kind) (IsNamedLine name) state.Tree content broken
IsNamedHeaderError kind name content OutOfMemory =
    (before : State) × (input : List ℕ)
    × BeginsWithOtherPieces (BeginsWithLine kind) (IsNamedLine name) state.Tree content before input
    × NeedsAllocation before input
