-- Spans of parts of a input, and that a input has one span of a class.
use Rattle.std.proofs.Common.{◌≡◌, ◌≢◌, ◌<◌, ◌≤◌, ℕ, zero, suc, Bool, add-one, ap, arith, false, not, ◌&&◌, true, List, [], ◌∷◌, ◌++◌, take, drop, length}
use Rattle.std.proofs.Common.{get_or, drop-cons, refl, sym, subst, ◌∙◌}
use Rattle.std.specs.List.{list_all}
use Rattle.std.proofs.lemmas.Bool.{and_parts}
use Rattle.std.proofs.lemmas.List.{append-nil, take-append-drop}
use Rattle.gixobj_fsck.specs.Spans.{EndsSpan, IsSpan, is_of_class}
use Rattle.gixobj_fsck.specs.declared.spans.Class.{Class}
use Rattle.gixobj_fsck.specs.declared.spans.Class.TheVariants as class
use Rattle.memchr.specs.Find.{is_byte3}
use Rattle.std.proofs.lemmas.List.Folds.{list_all_more}

-- a byte that isn't of the class ends a span
pub span_of_take : (class : Class) (input : List ℕ) (index : ℕ) → index < length input → list_all (is_of_class class) (take index input) ≡ true
    → is_of_class class (get_or input index 0) ≢ true → IsSpan class input (take index input) (drop index input)
span_of_take class input index within all other = record {
  joined = sym (take-append-drop index input);
  within = all;
  ends = subst (EndsSpan class) (sym (drop-cons input index 0 within)) other;
}

-- the end of the input ends a span
pub span_of_all : (class : Class) (input : List ℕ) → list_all (is_of_class class) input ≡ true → IsSpan class input input []
span_of_all class input all = record { joined = sym (append-nil input); within = all; ends = tt }

-- a input has one span of a class
pub span_unique : (class : Class) (input a x b y : List ℕ) → IsSpan class input a x → IsSpan class input b y → (a ≡ b) × (x ≡ y)
span_unique class input a x b y one other = go a b one.within other.within one.ends other.ends (sym one.joined ∙ other.joined)
  where
    go : (a b : List ℕ) → list_all (is_of_class class) a ≡ true → list_all (is_of_class class) b ≡ true → EndsSpan class x → EndsSpan class y
        → a ++ x ≡ b ++ y → (a ≡ b) × (x ≡ y)
    go [] [] all_a all_b ends_x ends_y same = (refl, same)
    go [] (byte ∷ b) all_a all_b ends_x ends_y same =
        absurd (subst (EndsSpan class) same ends_x (and_parts (is_of_class class byte) (list_all (is_of_class class) b) all_b).0)
    go (byte ∷ a) [] all_a all_b ends_x ends_y same =
        absurd (subst (EndsSpan class) (sym same) ends_y (and_parts (is_of_class class byte) (list_all (is_of_class class) a) all_a).0)
    go (byte ∷ a) (other ∷ b) all_a all_b ends_x ends_y same =
        let tails : a ++ x ≡ b ++ y = cc same in
        let rest = go a b (and_parts (is_of_class class byte) (list_all (is_of_class class) a) all_a).1
        (and_parts (is_of_class class other) (list_all (is_of_class class) b) all_b).1 ends_x ends_y tails in
        let heads : byte ≡ other = cc same in
        (cc (heads, rest.0), rest.1)

-- the bytes before the first of `<`, `>` and a newline are of a name
pub names_before : (input : List ℕ) (index : ℕ) → index ≤ length input
    → ((k : ℕ) → 0 ≤ k → k < index → is_byte3 60 62 10 (get_or input k 0) ≡ true → ⊥) → list_all (is_of_class class.Name) (take index input) ≡ true
names_before input zero within none = refl
names_before input (suc index) within none =
    let before = names_before input index (omega arith) (λ k low high. none k low (omega arith)) in
    let other = none index (omega arith) (omega arith) in
    let here : is_of_class class.Name (get_or input index 0) ≡ true = not_of_false (is_byte3 60 62 10 (get_or input index 0)) other in
    let more = list_all_more (is_of_class class.Name) input index 0 (omega arith) in
    ap (λ (n : ℕ). list_all (is_of_class class.Name) (take n input)) (sym (add-one index)) ∙ more ∙ both before here
  where
    not_of_false : (test : Bool) → (test ≡ true → ⊥) → not test ≡ true
    not_of_false true false_is = absurd (false_is refl)
    not_of_false false false_is = refl

    both : {x y : Bool} → x ≡ true → y ≡ true → (x && y) ≡ true
    both a b = rw a b

-- the byte found isn't of a name
pub not_name_of_found : (byte : ℕ) → is_byte3 60 62 10 byte ≡ true → is_of_class class.Name byte ≢ true
not_name_of_found byte found name = let e : not true ≡ true = ap not (sym found) ∙ name in cc
