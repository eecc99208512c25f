-- Results of decoding header fields.
use Rattle.std.specs.Prelude.{◌≡◌, ℕ, List, ◌∷◌, ◌++◌, All, Contains}
use Rattle.std.specs.Cow.{cow_slice_items}
use Rattle.std.specs.List.{flat_map}
use Rattle.std.specs.declared.alloc.Global.{Global}
use Rattle.std.specs.declared.borrow.CowSlice.{CowSlice}
use Rattle.std.specs.declared.borrow.CowSlice.TheVariants as slice
use Rattle.bstr.specs.BStr.{bstr_bytes}
use Rattle.bstr.specs.Owned.{bstring_bytes}
use Rattle.bstr.specs.declared.bstr.BStr.{BStr}
use Rattle.bstr.specs.declared.bstring.BString.{BString}
use Rattle.gixobj_hash.specs.HeaderFormat.{BeginsWithSeveralLines, EndsHeader, BeginsWithField, BeginsWithNoHeader}
use Rattle.gixobj_hash.specs.HeaderFormat.{Header, encode_continuation}
use Rattle.gixobj_hash.specs.FieldFormat.{encode_line}
use Rattle.gixobj_hash.specs.ByteStrings.{IsByteFree}
use Rattle.gixobj_hash.specs.Hash.Hex.{IsIdHexOfKind}
use Rattle.gixobj_hash.specs.declared.decode.Error.{Error}
use Rattle.gixobj_hash.specs.declared.decode.Error.TheVariants.{Malformed, OutOfMemory}
use Rattle.gixobj_hash.specs.Kind.{kind_name}
use Rattle.gixobj_hash.specs.declared.hash.kind.Kind.{Kind}
use Rattle.gixobj_hash.specs.declared.kind.Kind as object
use Rattle.gixobj_hash.specs.Bytes.{newline}

-- the input begins with the field of this name whose value is this id of this kind in hex, and the rest follows
abbrev pub BeginsWithIdField : List ℕ → Kind → List ℕ → List ℕ → List ℕ → Type 0
BeginsWithIdField name kind input hex rest = BeginsWithField name input hex rest × IsIdHexOfKind kind hex

-- the input does not begin with a field of this name whose value is an id of this kind in hex
abbrev pub BeginsWithNoIdField : List ℕ → Kind → List ℕ → Type 0
BeginsWithNoIdField name kind input = (hex rest : List ℕ) → ¬ BeginsWithIdField name kind input hex rest

-- the input does not begin with a field of this name whose value names a kind of objects
abbrev pub BeginsWithNoKindField : List ℕ → List ℕ → Type 0
BeginsWithNoKindField name input =
    (kind : object.Kind) (rest : List ℕ) → ¬ BeginsWithField name input (kind_name kind) rest

-- the header of a borrowed name and a value that may be borrowed
abbrev pub header_of : BStr × CowSlice ℕ Global → Header
header_of it = record { name = bstr_bytes it.0; value = cow_slice_items it.1 }

-- a value of one line is borrowed, and a value of several lines is owned
abbrev pub BorrowsOneLine : CowSlice ℕ Global → Type 0
BorrowsOneLine (slice.Borrowed line) = IsByteFree newline line.now
BorrowsOneLine (slice.Owned lines) = Contains lines.items newline

-- the header of an owned name and an owned value
abbrev pub owned_header_of : BString × BString → Header
owned_header_of it = record { name = bstring_bytes it.0; value = bstring_bytes it.1 }

-- Malformed: the input does not begin with a header; OutOfMemory: the header has several lines, whose value allocates
abbrev pub IsHeaderFieldError : List ℕ → Error → Type 0
IsHeaderFieldError input Malformed = BeginsWithNoHeader input
IsHeaderFieldError input OutOfMemory = BeginsWithSeveralLines input

-- the input begins with these continuation lines, and the rest, which follows them, begins with none
pub record BeginsWithContinuations (input : List ℕ) (more : List (List ℕ)) (rest : List ℕ) : Type 0 where
  pub joined : input ≡ flat_map encode_continuation more ++ rest
  pub each_one_line : All (λ line. IsByteFree newline line) more
  pub ends : EndsHeader rest

-- the input does not begin with complete continuation lines: one of them lacks its newline
abbrev pub BeginsWithNoContinuations : List ℕ → Type 0
BeginsWithNoContinuations input = (more : List (List ℕ)) (rest : List ℕ) → ¬ BeginsWithContinuations input more rest

-- the value is the first line and the continuation lines of the input, each with its newline, and the rest follows
abbrev pub IsUnfolded : List ℕ → List ℕ → List ℕ → List ℕ → Type 0
IsUnfolded first input value rest = (more : List (List ℕ)) × BeginsWithContinuations input more rest
    × (value ≡ flat_map encode_line (first ∷ more))
