-- Two ids that compare as equal are the same id.
use Rattle.std.proofs.Common.{◌≡◌, ℕ, List, true, ap, refl}
use Rattle.std.specs.Cmp.Lexicographic.{slice_cmp}
use Rattle.std.specs.FinMap.{nat_cmp-IsAntisymmetric, slice_cmp-IsAntisymmetric}
use Rattle.std.specs.Ordering.{is_eq, nat_cmp, ordering_then}
use Rattle.std.specs.declared.cmp.Ordering.{Ordering}
use Rattle.std.specs.declared.cmp.Ordering.TheVariants.{Less, Equal, Greater}
use Rattle.gixobj_hash.specs.Hash.Order.{id_cmp}
use Rattle.gixobj_hash.specs.declared.hash.object_id.ObjectId.{ObjectId}
use Rattle.gixobj_hash.specs.declared.hash.object_id.ObjectId.TheVariants.{Sha1, Sha256}

equal_of_then_equal : (o : Ordering) → is_eq (ordering_then o Equal) ≡ true → o ≡ Equal
equal_of_then_equal Less same = cc same
equal_of_then_equal Equal same = refl
equal_of_then_equal Greater same = cc same

then_less_ne_equal : (o : Ordering) → ¬ (is_eq (ordering_then o Less) ≡ true)
then_less_ne_equal Less same = cc same
then_less_ne_equal Equal same = cc same
then_less_ne_equal Greater same = cc same

then_greater_ne_equal : (o : Ordering) → ¬ (is_eq (ordering_then o Greater) ≡ true)
then_greater_ne_equal Less same = cc same
then_greater_ne_equal Equal same = cc same
then_greater_ne_equal Greater same = cc same

bytes_antisymmetric : (a b : List ℕ) → slice_cmp nat_cmp a b ≡ Equal → a ≡ b
bytes_antisymmetric = slice_cmp-IsAntisymmetric nat_cmp-IsAntisymmetric

pub same_id_of_is_eq : (x y : ObjectId) → is_eq (id_cmp x y) ≡ true → x ≡ y
same_id_of_is_eq (Sha1 a) (Sha1 b) same = ap Sha1 (bytes_antisymmetric a b (equal_of_then_equal (slice_cmp nat_cmp a b) same))
same_id_of_is_eq (Sha256 a) (Sha256 b) same = ap Sha256 (bytes_antisymmetric a b (equal_of_then_equal (slice_cmp nat_cmp a b) same))
same_id_of_is_eq (Sha1 a) (Sha256 b) same = absurd (then_less_ne_equal (slice_cmp nat_cmp a b) same)
same_id_of_is_eq (Sha256 a) (Sha1 b) same = absurd (then_greater_ne_equal (slice_cmp nat_cmp a b) same)
