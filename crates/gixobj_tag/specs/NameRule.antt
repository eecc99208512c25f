-- The names that a tag may have (git-check-ref-format, "DESCRIPTION"; git-tag, "<tagname>"). A name is what follows
-- `refs/tags/` in that of the reference, so `@` alone is one.
use Rattle.std.specs.Prelude.{◌≡◌, ◌<◌, ◌⊎◌, ℕ, List, [], ◌∷◌, ◌++◌, All, Contains, codes}
use Rattle.gixobj_streams.specs.declared.encode.Error.{Error as WriterError}
use Rattle.gixobj_streams.specs.declared.encode.Error.TheVariants as writer
use Rattle.gixobj_streams.specs.declared.encode.RefNameFault.{RefNameFault}
use Rattle.gixobj_streams.specs.declared.encode.RefNameFault.TheVariants as fault
use Rattle.gixobj_tag.specs.declared.name.Error.{Error}
use Rattle.gixobj_tag.specs.declared.name.Error.TheVariants.{InvalidRefName, StartsWithDash}
use Rattle.gixobj_hash.specs.Bytes.{slash}
use Rattle.gixobj_hash.specs.ByteStrings.{IsByteFree}

-- ---- occurrences and parts

-- the bytes begin with this prefix
abbrev pub BeginsWith : List ℕ → List ℕ → Type 0
BeginsWith prefix bytes = (rest : List ℕ) × (bytes ≡ prefix ++ rest)

-- the bytes end with this suffix
abbrev pub EndsWith : List ℕ → List ℕ → Type 0
EndsWith end bytes = (prefix : List ℕ) × (bytes ≡ prefix ++ end)

-- the inner bytes occur in the bytes
abbrev pub Holds : List ℕ → List ℕ → Type 0
Holds inner bytes = (prefix rest : List ℕ) × (bytes ≡ prefix ++ inner ++ rest)

-- a part of the name: it has no slash in it, and a slash or an end of the name on either side
pub record IsPart (name part : List ℕ) : Type 0 where
  pub before : List ℕ
  pub following : List ℕ
  pub joined : name ≡ before ++ part ++ following
  pub opens : (before ≡ []) ⊎ EndsWith (slash ∷ []) before
  pub closes : (following ≡ []) ⊎ BeginsWith (slash ∷ []) following
  pub one : IsByteFree slash part

-- ---- faults

-- the byte of a backslash
abbrev pub backslash : ℕ
backslash = 92

-- the control character DEL
abbrev pub delete : ℕ
delete = 127

-- the byte is a control character, a space, or one with a meaning in git's revisions, refspecs and patterns
abbrev pub IsForbidden : ℕ → Type 0
IsForbidden byte = (byte < 32) ⊎ (byte ≡ delete) ⊎ Contains (codes " ~^:?*[") byte

-- the name has this fault
abbrev pub HasFault : RefNameFault → List ℕ → Type 0
-- it is empty
HasFault fault.Empty name = name ≡ []
-- a part begins with a dot
HasFault fault.DotStart name = (part : List ℕ) × IsPart name part × BeginsWith (codes ".") part
-- a part ends as git's lock files do
HasFault fault.LockSuffix name = (part : List ℕ) × IsPart name part × EndsWith (codes ".lock") part
-- two dots follow each other
HasFault fault.DoubleDot name = Holds (codes "..") name
-- an at sign precedes an opening brace
HasFault fault.AtBrace name = Holds (codes "@{") name
-- there is a backslash
HasFault fault.Backslash name = Contains name backslash
-- there is a forbidden byte
HasFault fault.InvalidByte name = (byte : ℕ) × Contains name byte × IsForbidden byte
-- a slash is first or last, or two follow each other
HasFault fault.BadSlash name = BeginsWith (slash ∷ []) name ⊎ EndsWith (slash ∷ []) name
    ⊎ Holds (slash ∷ slash ∷ []) name
-- the last byte is a dot
HasFault fault.DotEnd name = EndsWith (codes ".") name

-- the faults, in the order in which they are tested
abbrev pub faults : List RefNameFault
faults = fault.Empty ∷ fault.DotStart ∷ fault.LockSuffix ∷ fault.DoubleDot ∷ fault.AtBrace ∷ fault.Backslash
    ∷ fault.InvalidByte ∷ fault.BadSlash ∷ fault.DotEnd ∷ []

-- the first fault that the name has
pub record IsFirstFault (name : List ℕ) (first : RefNameFault) : Type 0 where
  pub before : List RefNameFault
  pub after : List RefNameFault
  pub joined : faults ≡ before ++ first ∷ after
  pub none : All (λ earlier. ¬ HasFault earlier name) before
  pub here : HasFault first name

-- the name has no fault
abbrev pub HasNoFault : List ℕ → Type 0
HasNoFault name = (each : RefNameFault) → ¬ HasFault each name

-- ---- names of tags

-- the name begins with a dash, as an option of a command does
abbrev pub BeginsWithDash : List ℕ → Type 0
BeginsWithDash name = BeginsWith (codes "-") name

-- a tag may have this name: it has no fault and doesn't begin with a dash
abbrev pub IsTagName : List ℕ → Type 0
IsTagName name = HasNoFault name × ¬ BeginsWithDash name

-- the error of a name: its first fault or, without one, the dash
abbrev pub IsTagNameError : List ℕ → Error → Type 0
IsTagNameError name (InvalidRefName first) = IsFirstFault name first
IsTagNameError name StartsWithDash = HasNoFault name × BeginsWithDash name

-- the error of writing for the error of a name
abbrev pub writer_error : Error → WriterError
writer_error StartsWithDash = writer.StartsWithDash
writer_error (InvalidRefName first) = writer.InvalidRefName first
