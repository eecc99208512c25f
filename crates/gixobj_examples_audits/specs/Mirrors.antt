-- Roots of two stores that are compared by their ids, and the errors of the comparison.
use Rattle.std.specs.Prelude.{◌≡◌, ◌≢◌, ◌⊎◌, ◌↔◌, ℕ, Bool, IsTrue}
use Rattle.gix_object.specs.Files.{NamedFiles, SameFiles, Table, Trees}
use Rattle.gix_object.specs.Hash.{id_kind}
use Rattle.gix_object.specs.Openings.{OfTrees}
use Rattle.gix_object.specs.Stores.{Objects}
use Rattle.gix_object.specs.Tables.{AgreesWithStore}
use Rattle.gix_object.specs.hash.hash.object_id.ObjectId.{ObjectId}
use Rattle.gixobj_examples_audits.specs.Canonical.{AgreesWithBoth, IsCanonicalRoot, IsUnreadBelow}
use Rattle.gixobj_examples_audits.specs.declared.mirrors.MirrorError.{MirrorError}
use Rattle.gixobj_examples_audits.specs.declared.mirrors.MirrorError.TheVariants as mirror

-- the answer is yes if and only if both roots have the same files, at every depth; in each table that agrees with the
-- root's store, if one agrees with both stores
abbrev pub DecidesSameFiles : Trees → Trees → ObjectId → ObjectId → Bool → Type 0
DecidesSameFiles trees others root copy same = (T U shared : Table) → AgreesWithStore T trees
    → AgreesWithStore U others → AgreesWithBoth shared trees others
    → IsTrue same ↔ ((n : ℕ) → SameFiles (NamedFiles T n root) (NamedFiles U n copy))

-- the root isn't canonical in the store
abbrev pub IsNotCanonical : Objects → ℕ → ObjectId → Type 0
IsNotCanonical objects depth root = OfTrees objects (λ trees. ¬ IsCanonicalRoot trees (id_kind root) depth root)

-- the root is canonical in the store
abbrev pub IsCanonicalIn : Objects → ℕ → ObjectId → Type 0
IsCanonicalIn objects depth root = OfTrees objects (λ trees. IsCanonicalRoot trees (id_kind root) depth root)

-- the errors of the comparison: the kinds differ; or a root isn't canonical, or a tree isn't found or well-formed. The
-- copy's errors only come if the root is canonical
abbrev pub IsMirrorError : Objects → (ObjectId → Bool) → Objects → (ObjectId → Bool) → ObjectId → ObjectId → ℕ
    → MirrorError → Type 0
IsMirrorError objects may_fail others its_may_fail root copy depth mirror.Kind = id_kind root ≢ id_kind copy
IsMirrorError objects may_fail others its_may_fail root copy depth (mirror.Root error) = (id_kind root ≡ id_kind copy)
    × IsUnreadBelow objects may_fail (id_kind root) depth root error
IsMirrorError objects may_fail others its_may_fail root copy depth (mirror.Copy error) = (id_kind root ≡ id_kind copy)
    × IsCanonicalIn objects depth root × IsUnreadBelow others its_may_fail (id_kind copy) depth copy error
IsMirrorError objects may_fail others its_may_fail root copy depth (mirror.NotCanonical id) =
    (id_kind root ≡ id_kind copy) × (((id ≡ root) × IsNotCanonical objects depth root)
    ⊎ ((id ≡ copy) × IsCanonicalIn objects depth root × IsNotCanonical others depth copy))
