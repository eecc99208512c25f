-- Conversion of objects of any kind into their trees, blobs, commits or tags.
use Rattle.std.specs.Prelude.{◌≡◌, ◌≢◌, MatchOption, MatchResult, Option, Result}
use Rattle.gixobj_hash.specs.declared.kind.Kind.{Kind}

-- the part of an object of this kind, or none for an object of another kind
abbrev pub IsPartOrNone : {Part Object : Type 0} → (Object → Kind) → Kind → (Part → Object) → Object → Option Part
    → Type 0
IsPartOrNone kind_of kind made_of object result =
    MatchOption result (kind_of object ≢ kind) (λ part. object ≡ made_of part)

-- the part of an object of this kind, or the object itself, unchanged, for another kind
abbrev pub IsPartOrBack : {Part Object : Type 0} → (Object → Kind) → Kind → (Part → Object) → Object
    → Result Part Object → Type 0
IsPartOrBack kind_of kind made_of object result = MatchResult result (λ part. object ≡ made_of part)
    (λ back. (back ≡ object) × (kind_of object ≢ kind))
