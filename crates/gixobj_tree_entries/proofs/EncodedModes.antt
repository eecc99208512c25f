-- The bytes before the first space, or all bytes without one, are the only digits of a mode.
use Rattle.std.proofs.Common.{◌≡◌, ◌≢◌, ◌<◌, ℕ, List, [], ◌∷◌, ◌++◌, arith, refl, sym, ap, ◌∙◌}
use Rattle.std.proofs.lemmas.List.Elements.{All-cons, All-head, All-nil, All-tail}
use Rattle.std.specs.Char.{digit_value}
use Rattle.std.specs.Str.Parse.{AllDigits}
use Rattle.gixobj_tree_entries.specs.Mode.{EndsMode}
use Rattle.gixobj_hash.specs.ByteStrings.{IsByteFree}

octal_digit_ne_space : (byte : ℕ) → digit_value byte < 8 → byte ≢ 32
octal_digit_ne_space byte digit space =
    let value : digit_value byte ≡ 36 = ap digit_value space in
    omega arith

pub octal_digits_space_free : (digits : List ℕ) → AllDigits 8 digits → IsByteFree 32 digits
octal_digits_space_free [] octal = All-nil (λ it. it ≢ 32)
octal_digits_space_free (digit ∷ digits) octal = All-cons (λ it. it ≢ 32) digit digits (octal_digit_ne_space digit octal.0)
    (octal_digits_space_free digits octal.1)

pub split_at_space_unique : (a x b y : List ℕ) → IsByteFree 32 a → IsByteFree 32 b → EndsMode x → EndsMode y → a ++ x ≡ b ++ y → (a ≡ b) × (x ≡ y)
split_at_space_unique [] x [] y free_a free_b ends_x ends_y same = (refl, same)
split_at_space_unique [] [] (second ∷ b) y free_a free_b ends_x ends_y same = cc same
split_at_space_unique [] (first ∷ x) (second ∷ b) y free_a free_b ends_x ends_y same =
    let heads : first ≡ second = cc same in
    absurd (All-head (λ it. it ≢ 32) second b free_b (sym heads ∙ ends_x))
split_at_space_unique (first ∷ a) x [] [] free_a free_b ends_x ends_y same = cc same
split_at_space_unique (first ∷ a) x [] (second ∷ y) free_a free_b ends_x ends_y same =
    let heads : first ≡ second = cc same in
    absurd (All-head (λ it. it ≢ 32) first a free_a (heads ∙ ends_y))
split_at_space_unique (first ∷ a) x (second ∷ b) y free_a free_b ends_x ends_y same =
    let tails : a ++ x ≡ b ++ y = cc same in
    let rest = split_at_space_unique a x b y (All-tail (λ it. it ≢ 32) first a free_a) (All-tail (λ it. it ≢ 32) second b free_b) ends_x ends_y tails in
    let heads : first ≡ second = cc same in
    (cc (heads, rest.0), rest.1)
