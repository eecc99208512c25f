-- The order of ids is total and agrees with `==` and with the hash, as the traits require.
use Rattle.std.specs.Prelude.{◌≡◌, Bool, true, false, [], ◌∷◌, refl}
use Rattle.std.proofs.Common.{ap, sym, ◌∙◌}
use mathlib.Core.Bool.{true≢false}
use Rattle.std.specs.Cmp.{IsPartialOrder, IsTotalOrder, partial_order_from_agreeing_total, then_total, on_total}
use Rattle.std.specs.Cmp.{nat_cmp_total}
use Rattle.std.specs.Cmp.Lexicographic.{slice_cmp, on_texts, texts_ties, bytes_decides}
use Rattle.std.specs.Ordering.{as_partial_cmp, is_eq, nat_cmp, ordering_then}
use Rattle.std.specs.declared.cmp.Ordering.{Ordering}
use Rattle.std.specs.declared.cmp.Ordering.TheVariants.{Less, Equal, Greater}
use Rattle.gixobj_hash.specs.Hash.{hash_len, id_bytes, id_kind}
use Rattle.gixobj_hash.specs.Hash.Order.{ComparesIds, id_cmp}
use Rattle.gixobj_hash.specs.declared.hash.object_id.ObjectId.{ObjectId}
use Rattle.gixobj_hash.specs.declared.hash.object_id.ObjectId.TheVariants.{Sha1, Sha256}

then_equal : (o : Ordering) → is_eq o ≡ is_eq (ordering_then o Equal)
then_equal Less = refl
then_equal Equal = refl
then_equal Greater = refl

never_equal : (o p : Ordering) → is_eq p ≡ false → false ≡ is_eq (ordering_then o p)
never_equal Less p unequal = refl
never_equal Equal p unequal = sym unequal
never_equal Greater p unequal = refl

pub id_ties : (E : ObjectId → ObjectId → Bool) → ComparesIds E → (x y : ObjectId) → E x y ≡ is_eq (id_cmp x y)
id_ties E by (Sha1 a) (Sha1 b) = by.sha1 a b ∙ texts_ties a b ∙ then_equal (slice_cmp nat_cmp a b)
id_ties E by (Sha256 a) (Sha256 b) = by.sha256 a b ∙ texts_ties a b ∙ then_equal (slice_cmp nat_cmp a b)
id_ties E by (Sha1 a) (Sha256 b) = by.shorter a b ∙ never_equal (slice_cmp nat_cmp a b) Less refl
id_ties E by (Sha256 a) (Sha1 b) = by.longer a b ∙ never_equal (slice_cmp nat_cmp a b) Greater refl

pub id_cmp_total : IsTotalOrder id_cmp
id_cmp_total = then_total (on_texts id_bytes) (on_total (λ id. hash_len (id_kind id)) nat_cmp_total)

pub id_partial_order : (E : ObjectId → ObjectId → Bool) → ComparesIds E → IsPartialOrder E (as_partial_cmp id_cmp)
id_partial_order E by = partial_order_from_agreeing_total id_cmp id_cmp_total (λ x y. refl) (id_ties E by)

same_bytes : (E : ObjectId → ObjectId → Bool) → ComparesIds E → (x y : ObjectId) → E x y ≡ true
    → id_bytes x ≡ id_bytes y
same_bytes E by (Sha1 a) (Sha1 b) equal = (bytes_decides a b).0 (sym (by.sha1 a b) ∙ equal)
same_bytes E by (Sha256 a) (Sha256 b) equal = (bytes_decides a b).0 (sym (by.sha256 a b) ∙ equal)
same_bytes E by (Sha1 a) (Sha256 b) equal = absurd (true≢false (sym equal ∙ by.shorter a b))
same_bytes E by (Sha256 a) (Sha1 b) equal = absurd (true≢false (sym equal ∙ by.longer a b))

pub id_alike : (E : ObjectId → ObjectId → Bool) → ComparesIds E → (x y : ObjectId) → E x y ≡ true
    → id_bytes x ∷ [] ≡ id_bytes y ∷ []
id_alike E by x y equal = ap (λ bytes. bytes ∷ []) (same_bytes E by x y equal)
