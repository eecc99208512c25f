-- Equality of ids is decidable.
use Rattle.std.proofs.Common.{◌≡◌, ◌≢◌, ◌⊎◌, ℕ, true, false, List, ⊎_elim, ap, inl, inr, refl}
use Rattle.std.specs.Cmp.Lexicographic.{bytes_decides, pointwise}
use Rattle.std.specs.Prelude.{nat_eq}
use Rattle.gixobj_hash.specs.declared.hash.object_id.ObjectId.{ObjectId}
use Rattle.gixobj_hash.specs.declared.hash.object_id.ObjectId.TheVariants as id

lists_eq_or_ne : (xs ys : List ℕ) → (xs ≡ ys) ⊎ (xs ≢ ys)
lists_eq_or_ne xs ys = elim (pointwise nat_eq xs ys) as (λ b. pointwise nat_eq xs ys ≡ b → (xs ≡ ys) ⊎ (xs ≢ ys)) [
  | true ↦ λ passes. inl ((bytes_decides xs ys).0 passes)
  | false ↦ λ fails. inr (λ same. cc ((bytes_decides xs ys).1 same, fails))
] refl

pub id_eq_or_ne : (x y : ObjectId) → (x ≡ y) ⊎ (x ≢ y)
id_eq_or_ne (id.Sha1 xs) (id.Sha1 ys) = ⊎_elim (λ same. inl (ap id.Sha1 same)) (λ other. inr (λ same. other (cc same))) (lists_eq_or_ne xs ys)
id_eq_or_ne (id.Sha1 xs) (id.Sha256 ys) = inr (λ same. cc same)
id_eq_or_ne (id.Sha256 xs) (id.Sha1 ys) = inr (λ same. cc same)
id_eq_or_ne (id.Sha256 xs) (id.Sha256 ys) = ⊎_elim (λ same. inl (ap id.Sha256 same)) (λ other. inr (λ same. other (cc same))) (lists_eq_or_ne xs ys)
