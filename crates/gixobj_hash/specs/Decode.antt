-- How loose headers and loose objects decode (gitformat-loose, "Loose object format").
pub mod Errors
use Rattle.std.specs.Prelude.{◌≡◌, ◌≢◌, ◌≤◌, ◌<◌, ◌^◌, ◌⊎◌, ℕ, List, [], ◌∷◌, ◌++◌, IsTrue, IsFalse, length, take}
use Rattle.std.specs.Str.Parse.{IsNumeral, digits_value, starts_with_minus, without_leading_sign}
use Rattle.bstr.specs.Owned.{bstring_bytes}
use Rattle.gixobj_hash.specs.declared.decode.LooseContentError.{LooseContentError}
use Rattle.gixobj_hash.specs.declared.decode.LooseContentError.TheVariants.{Header, Short}
use Rattle.gixobj_hash.specs.declared.decode.LooseHeaderDecodeError.{LooseHeaderDecodeError}
use Rattle.gixobj_hash.specs.declared.decode.LooseHeaderDecodeError.TheVariants.{InvalidHeader, ObjectHeader}
use Rattle.gixobj_hash.specs.declared.decode.LooseHeaderDecodeError.TheVariants.{OutOfMemory, ParseIntegerError}
use Rattle.gixobj_hash.specs.declared.decode.ParseIntegerErrorKind.{ParseIntegerErrorKind}
use Rattle.gixobj_hash.specs.declared.decode.ParseIntegerErrorKind.TheVariants.{Empty, InvalidDigit, NegOverflow}
use Rattle.gixobj_hash.specs.declared.decode.ParseIntegerErrorKind.TheVariants.{PosOverflow}
use Rattle.gixobj_hash.specs.declared.kind.Error.TheVariants as kind_error
use Rattle.gixobj_hash.specs.declared.kind.Kind.{Kind}
use Rattle.gixobj_hash.specs.Kind.{IsUnknownKindName, kind_name}
use Rattle.gixobj_hash.specs.ByteStrings.{IsByteFree, SplitsAt}
use Rattle.gixobj_hash.specs.Bytes.{space}

-- the bytes of a size after its sign, or all of them without a sign
abbrev pub size_digits : List ℕ → List ℕ
size_digits bytes = without_leading_sign bytes

-- the number of these digits, in decimal
abbrev pub size_value : List ℕ → ℕ
size_value bytes = digits_value 10 (size_digits bytes)

-- the bytes decode to this size: at most one sign, and then decimal digits. The size fits 64 bits, and after a minus
-- it is 0
pub record DecodesToSize (bytes : List ℕ) (size : ℕ) : Type 0 where
  pub digits : IsNumeral 10 (size_digits bytes)
  pub value : size ≡ size_value bytes
  pub fits : size < 2 ^ 64
  pub minus : IsTrue (starts_with_minus bytes) → size ≡ 0

-- the size is invalid, and this is the first fault that applies
abbrev pub HasSizeFault : List ℕ → ParseIntegerErrorKind → Type 0
HasSizeFault bytes Empty = size_digits bytes ≡ []
HasSizeFault bytes InvalidDigit = (size_digits bytes ≢ []) × ¬ (IsNumeral 10 (size_digits bytes))
HasSizeFault bytes PosOverflow = IsNumeral 10 (size_digits bytes) × IsFalse (starts_with_minus bytes)
    × (2 ^ 64 ≤ size_value bytes)
HasSizeFault bytes NegOverflow = IsNumeral 10 (size_digits bytes) × IsTrue (starts_with_minus bytes)
    × (size_value bytes ≢ 0)

-- the error for an invalid size, with a copy of its bytes; out of memory if the copy fails
abbrev pub IsSizeError : List ℕ → LooseHeaderDecodeError → Type 0
IsSizeError bytes (ParseIntegerError fault message copy) = HasSizeFault bytes fault × (bstring_bytes copy ≡ bytes)
IsSizeError bytes OutOfMemory = (fault : ParseIntegerErrorKind) × HasSizeFault bytes fault
IsSizeError bytes _ = ⊥

-- the bytes are a loose header: the name of the kind, a space, the size and a zero byte
pub record IsLooseHeader (bytes : List ℕ) (kind : Kind) (size : ℕ) : Type 0 where
  pub size_bytes : List ℕ
  pub joined : bytes ≡ kind_name kind ++ space ∷ size_bytes ++ 0 ∷ []
  pub decodes : DecodesToSize size_bytes size

-- the input begins with a loose header of this kind and size, and the rest follows
abbrev pub BeginsWithLooseHeader : List ℕ → Kind → ℕ → List ℕ → Type 0
BeginsWithLooseHeader input kind size rest =
    (header : List ℕ) × (input ≡ header ++ rest) × IsLooseHeader header kind size

-- the input begins with a loose object: a header that states this kind and the length of the content, and then the
-- content. Any bytes may follow
abbrev pub HasContent : List ℕ → Kind → List ℕ → Type 0
HasContent input kind content = (rest : List ℕ) × BeginsWithLooseHeader input kind (length content) (content ++ rest)

-- fewer bytes follow the header than it states
abbrev pub IsShort : List ℕ → Type 0
IsShort input = (kind : Kind) × (size : ℕ) × (rest : List ℕ) × BeginsWithLooseHeader input kind size rest
    × (length rest < size)

-- the input begins with a loose header, whose length is `used`
abbrev pub HasLooseHeaderOfLength : List ℕ → Kind → ℕ → ℕ → Type 0
HasLooseHeaderOfLength input kind size used = (used ≤ length input) × IsLooseHeader (take used input) kind size

-- the bytes before the first space are an unknown kind
abbrev pub HasUnknownKind : List ℕ → List ℕ → Type 0
HasUnknownKind input token = (rest : List ℕ) × SplitsAt space input token rest × IsUnknownKindName token

-- a kind's name and a space come first, and no zero byte follows them
abbrev pub HasNoZeroByte : List ℕ → Type 0
HasNoZeroByte input = (kind : Kind) × (rest : List ℕ) × (input ≡ kind_name kind ++ space ∷ rest) × IsByteFree 0 rest

-- a kind's name and a space come first, and the bytes between them and the next zero byte have this size fault
abbrev pub HasFaultySize : List ℕ → List ℕ → ParseIntegerErrorKind → Type 0
HasFaultySize input bytes fault =
    (kind : Kind) × (after rest : List ℕ) × (input ≡ kind_name kind ++ space ∷ after) × SplitsAt 0 after bytes rest
    × HasSizeFault bytes fault

-- why the input does not begin with a loose header: the first of no space, an unknown kind, no zero byte, an invalid
-- size. The errors of the kind and the size have a copy; out of memory replaces them if it fails
abbrev pub IsLooseHeaderError : List ℕ → LooseHeaderDecodeError → Type 0
IsLooseHeaderError input (InvalidHeader message) = IsByteFree space input ⊎ HasNoZeroByte input
IsLooseHeaderError input (ObjectHeader (kind_error.InvalidObjectKind copy)) = HasUnknownKind input (bstring_bytes copy)
IsLooseHeaderError input (ObjectHeader kind_error.OutOfMemory) = ⊥
IsLooseHeaderError input (ParseIntegerError fault message copy) = HasFaultySize input (bstring_bytes copy) fault
IsLooseHeaderError input OutOfMemory =
    ((token : List ℕ) × HasUnknownKind input token)
    ⊎ ((bytes : List ℕ) × (fault : ParseIntegerErrorKind) × HasFaultySize input bytes fault)

-- why the input does not begin with a loose object: an invalid header, or fewer bytes after it than the size that it
-- states
abbrev pub IsLooseContentError : List ℕ → LooseContentError → Type 0
IsLooseContentError input (Header error) = IsLooseHeaderError input error
IsLooseContentError input (Short size) = (kind : Kind) × (rest : List ℕ) × BeginsWithLooseHeader input kind size rest
    × (length rest < size)
