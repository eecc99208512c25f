-- The error for an unknown kind of object.
use Rattle.std.specs.Prelude.{◌≡◌, ℕ, List}
use Rattle.bstr.specs.Owned.{bstring_bytes}
use Rattle.gixobj_hash.specs.declared.kind.Error.{Error}
use Rattle.gixobj_hash.specs.declared.kind.Error.TheVariants.{InvalidObjectKind, OutOfMemory}
use Rattle.gixobj_hash.specs.Kind.{IsUnknownKindName}

-- the error for an unknown kind, with a copy of its name; out of memory if the copy fails
abbrev pub IsKindNameError : List ℕ → Error → Type 0
IsKindNameError token (InvalidObjectKind copy) = IsUnknownKindName token × (bstring_bytes copy ≡ token)
IsKindNameError token OutOfMemory = IsUnknownKindName token
