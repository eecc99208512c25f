-- Lemmas that the body of a tag splits into message and signature in one way, for entire tags and tokens of tags.
use Rattle.std.proofs.Common.{◌≡◌, ◌+◌, ℕ, List, ◌∷◌, ◌++◌, Option, Some, IsFalse, IsTrue, ap, arith, drop, length, refl, subst, sym, take, ◌∙◌}
use Rattle.std.proofs.Math.Seq.{drop-append_seam, take-append_seam}
use Rattle.std.proofs.lemmas.Bool.{true≢false}
use Rattle.gixobj_parse.proofs.MarkerPlaces.{no_marker_and_marker_place, marker_place_unique}
use Rattle.gixobj_grammar.specs.TagBodies.{IsBody, IsParted, are_newlines, after_a_newline, newlines_alone, signed, signed_at_once, unsigned}

-- ---- unique split

append_split_unique : (a b x y : List ℕ) → length a ≡ length b → a ++ x ≡ b ++ y → (a ≡ b) × (x ≡ y)
append_split_unique a b x y long same =
    let prefixes : take (length a) (a ++ x) ≡ take (length b) (b ++ y) = ap (take (length a)) same ∙ ap (λ (it : ℕ). take it (b ++ y)) long in
    let rests : drop (length a) (a ++ x) ≡ drop (length b) (b ++ y) = ap (drop (length a)) same ∙ ap (λ (it : ℕ). drop it (b ++ y)) long in
    (sym (take-append_seam a x) ∙ prefixes ∙ take-append_seam b y, sym (drop-append_seam a x) ∙ rests ∙ drop-append_seam b y)

parting_unique : (bytes m n : List ℕ) (s t : Option (List ℕ)) → IsParted bytes m s → IsParted bytes n t → (m ≡ n) × (s ≡ t)
parting_unique bytes m n s t (unsigned _ none) (unsigned _ none') = (refl, refl)
parting_unique bytes m n s t (unsigned _ none) (signed_at_once _ format is) = absurd (no_marker_and_marker_place bytes 0 format is none)
parting_unique bytes m n s t (unsigned _ none) (signed _ message signature format joined is) =
    absurd (no_marker_and_marker_place bytes (length message + 1) format is none)
parting_unique bytes m n s t (signed_at_once _ format is) (unsigned _ none) = absurd (no_marker_and_marker_place bytes 0 format is none)
parting_unique bytes m n s t (signed_at_once _ format is) (signed_at_once _ format' is') = (refl, refl)
parting_unique bytes m n s t (signed_at_once _ format is) (signed _ message signature format' joined is') =
    let same = (marker_place_unique bytes 0 (length message + 1) format format' is is').0 in absurd (omega (arith, same))
parting_unique bytes m n s t (signed _ message signature format joined is) (unsigned _ none) =
    absurd (no_marker_and_marker_place bytes (length message + 1) format is none)
parting_unique bytes m n s t (signed _ message signature format joined is) (signed_at_once _ format' is') =
    let same = (marker_place_unique bytes (length message + 1) 0 format format' is is').0 in absurd (omega (arith, same))
parting_unique bytes m n s t (signed _ message signature format joined is) (signed _ message' signature' format' joined' is') =
    let same = (marker_place_unique bytes (length message + 1) (length message' + 1) format format' is is').0 in
    let long : length message ≡ length message' = omega (arith, same) in
    let parts = append_split_unique message message' (10 ∷ signature) (10 ∷ signature') long (sym joined ∙ joined') in
    (parts.0, ap Some (cc parts.1))

-- ---- bodies

newlines_tail_are_newlines : (body bytes : List ℕ) → body ≡ 10 ∷ bytes → IsTrue (are_newlines body) → IsFalse (are_newlines bytes) → ⊥
newlines_tail_are_newlines body bytes same are more =
    let all : IsTrue (are_newlines (10 ∷ bytes)) = subst (λ (it : List ℕ). IsTrue (are_newlines it)) same are in
    true≢false (sym all ∙ more)

pub body_unique : (body m n : List ℕ) (s t : Option (List ℕ)) → IsBody body m s → IsBody body n t → (m ≡ n) × (s ≡ t)
body_unique body m n s t (newlines_alone _ are) (newlines_alone _ are') = (refl, refl)
body_unique body m n s t (newlines_alone _ are) (after_a_newline _ bytes message signature joined more parted) =
    absurd (newlines_tail_are_newlines body bytes joined are more)
body_unique body m n s t (after_a_newline _ bytes message signature joined more parted) (newlines_alone _ are) =
    absurd (newlines_tail_are_newlines body bytes joined are more)
body_unique body m n s t (after_a_newline _ bytes message signature joined more parted)
    (after_a_newline _ bytes' message' signature' joined' more' parted') =
    let same : bytes ≡ bytes' = cc (sym joined ∙ joined') in
    parting_unique bytes message message' signature signature' parted (subst (λ (it : List ℕ). IsParted it message' signature') (sym same) parted')
