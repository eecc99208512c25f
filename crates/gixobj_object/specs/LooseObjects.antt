-- Decoding of loose objects: a header, and a content of the size in the header (gitformat-loose, "Loose object
-- format").
use Rattle.std.specs.Prelude.{◌≡◌, ◌⊎◌, ◌≤◌, ◌^◌, ℕ, List, ⊤}
use Rattle.gixobj_hash.specs.Decode.{BeginsWithLooseHeader, HasContent, IsShort, IsLooseHeaderError}
use Rattle.gixobj_hash.specs.declared.decode.Error.{Error}
use Rattle.gixobj_hash.specs.declared.decode.LooseContentError.{LooseContentError}
use Rattle.gixobj_hash.specs.declared.decode.LooseContentError.TheVariants as content
use Rattle.gixobj_hash.specs.declared.decode.LooseHeaderDecodeError.{LooseHeaderDecodeError}
use Rattle.gixobj_hash.specs.declared.decode.LooseHeaderDecodeError.TheVariants as header
use Rattle.gixobj_hash.specs.declared.hash.kind.Kind as hash
use Rattle.gixobj_hash.specs.declared.kind.Kind.{Kind}
use Rattle.gixobj_object.specs.ObjectReading.{DecodesToObject, IsObjectDecodeError}
use Rattle.gixobj_object.specs.declared.object.borrowed.ObjectRef.{ObjectRef}
use Rattle.gixobj_object.specs.declared.object.borrowed.decode.LooseDecodeError.{LooseDecodeError}
use Rattle.gixobj_object.specs.declared.object.borrowed.decode.LooseDecodeError.TheVariants.{InvalidContent}
use Rattle.gixobj_object.specs.declared.object.borrowed.decode.LooseDecodeError.TheVariants.{InvalidHeader, OutOfMemory}

-- the size in the header is 2^64 or more, which no header states
abbrev pub IsTooLarge : List ℕ → ℕ → Type 0
IsTooLarge input size = (kind : Kind) × (rest : List ℕ) × BeginsWithLooseHeader input kind size rest × (2 ^ 64 ≤ size)

-- the input begins with this loose object, with ids of this hash kind
abbrev pub IsLooseObject : hash.Kind → List ℕ → ObjectRef → Type 0
IsLooseObject hash input it = (kind : Kind) × (content : List ℕ) × HasContent input kind content
    × DecodesToObject hash kind content it

-- the error of the content of the loose object at the start of the input
abbrev pub IsContentError : hash.Kind → List ℕ → Error → Type 0
IsContentError hash input error = (kind : Kind) × (content : List ℕ) × HasContent input kind content
    × IsObjectDecodeError hash kind content error

-- the error is an invalid header
abbrev pub IsInvalidHeader : LooseHeaderDecodeError → Type 0
IsInvalidHeader (header.InvalidHeader message) = ⊤
IsInvalidHeader _ = ⊥

-- conversion of an error of loose content. The error of a header is unchanged. A content that is too short is an
-- invalid header, or out of memory if its size is 2^64 or more
abbrev pub ConvertsContentError : LooseContentError → LooseDecodeError → Type 0
ConvertsContentError (content.Header error) it = it ≡ InvalidHeader error
ConvertsContentError (content.Short size) (InvalidHeader error) = IsInvalidHeader error
ConvertsContentError (content.Short size) (OutOfMemory said) = (2 ^ 64 ≤ size) × (said ≡ size)
ConvertsContentError (content.Short size) (InvalidContent error) = ⊥

-- InvalidHeader: the header is invalid, or fewer bytes follow than its size; InvalidContent: the content does not
-- decode; OutOfMemory: the size is 2^64 or more
abbrev pub IsLooseObjectError : hash.Kind → List ℕ → LooseDecodeError → Type 0
IsLooseObjectError hash input (InvalidHeader error) = IsLooseHeaderError input error
    ⊎ (IsShort input × IsInvalidHeader error)
IsLooseObjectError hash input (InvalidContent error) = IsContentError hash input error
IsLooseObjectError hash input (OutOfMemory size) = IsTooLarge input size
