-- The order and the equality of ids.
use Rattle.std.specs.Prelude.{◌≡◌, ℕ, Bool, false, List, nat_eq}
use Rattle.std.specs.Cmp.Lexicographic.{slice_cmp, pointwise}
use Rattle.std.specs.Ordering.{nat_cmp, on, then_cmp}
use Rattle.std.specs.declared.cmp.Ordering.{Ordering}
use Rattle.gixobj_hash.specs.Hash.{hash_len, id_bytes, id_kind}
use Rattle.gixobj_hash.specs.declared.hash.object_id.ObjectId.{ObjectId}
use Rattle.gixobj_hash.specs.declared.hash.object_id.ObjectId.TheVariants.{Sha1, Sha256}

-- ids compare by their bytes, and then by their lengths; the lengths never decide between two ids of a program
abbrev pub id_cmp : ObjectId → ObjectId → Ordering
id_cmp = then_cmp (on id_bytes (slice_cmp nat_cmp)) (on (λ id. hash_len (id_kind id)) nat_cmp)

-- E is the equality of hash functions and bytes
pub record ComparesIds (E : ObjectId → ObjectId → Bool) : Type 0 where
  pub sha1 : (a b : List ℕ) → E (Sha1 a) (Sha1 b) ≡ pointwise nat_eq a b
  pub sha256 : (a b : List ℕ) → E (Sha256 a) (Sha256 b) ≡ pointwise nat_eq a b
  pub shorter : (a b : List ℕ) → E (Sha1 a) (Sha256 b) ≡ false
  pub longer : (a b : List ℕ) → E (Sha256 a) (Sha1 b) ≡ false
