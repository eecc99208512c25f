-- The digits of a mode that git writes, if they don't begin with 0.
use Rattle.std.proofs.Common.{◌≡◌, ◌≢◌, ◌<◌, ◌≤◌, ◌+◌, ◌*◌, ◌∙◌, ℕ, Bool, List, [], ◌∷◌, arith, inl, inr, length, lit<, refl, slice_index, subst, sym}
use Rattle.std.specs.Char.{digit_value}
use Rattle.std.specs.Str.Parse.{AllDigits, IsNumeral, digits_value, digits_value_after}
use Rattle.gixobj_tree_entries.proofs.ModesRoundTrip.{mode_round_trips}
use Rattle.gixobj_tree_entries.specs.Mode.{DecodesToMode, encode_mode, old_tree_type}
use Rattle.gixobj_fsck_laws.specs.CleanTrees.{IsGitMode}

octal_digit_byte : (digit : ℕ) → digit_value digit < 8 → digit ≡ 48 + digit_value digit
octal_digit_byte digit small = grind (arith, small)

-- digits of one length with one number are the same
digits_injective : (m n : ℕ) (a b : List ℕ) → length a ≡ length b → AllDigits 8 a → AllDigits 8 b
    → digits_value_after 8 m a ≡ digits_value_after 8 n b → (a ≡ b) × (m ≡ n)
digits_injective m n [] [] len octal octal' same = (refl, same)
digits_injective m n [] (d ∷ b) len octal octal' same = absurd (omega (arith, len))
digits_injective m n (c ∷ a) [] len octal octal' same = absurd (omega (arith, len))
digits_injective m n (c ∷ a) (d ∷ b) len octal octal' same =
    let rest = digits_injective (m * 8 + digit_value c) (n * 8 + digit_value d) a b (omega (arith, len)) octal.1 octal'.1 same in
    let sums : m * 8 + digit_value c ≡ n * 8 + digit_value d = rest.1 in
    let low : digit_value c < 8 = octal.0 in
    let low' : digit_value d < 8 = octal'.0 in
    let heads : digit_value c ≡ digit_value d = omega (arith, sums, low, low') in
    let byte : c ≡ 48 + digit_value c = octal_digit_byte c low in
    let byte' : d ≡ 48 + digit_value d = octal_digit_byte d low' in
    let first : c ≡ d = omega (arith, byte, byte', heads) in
    let tails : a ≡ b = rest.0 in
    (cc (first, tails), omega (arith, sums, heads))

value_after_ge : (m : ℕ) (digits : List ℕ) → m ≤ digits_value_after 8 m digits
value_after_ge m [] = omega arith
value_after_ge m (d ∷ digits) = let more = value_after_ge (m * 8 + digit_value d) digits in omega (arith, more)

-- a number from 4096 to 32767 has five digits
five_digits : (a : ℕ) (rest : List ℕ) → AllDigits 8 (a ∷ rest) → 0 < digit_value a → 4096 ≤ digits_value 8 (a ∷ rest)
    → digits_value 8 (a ∷ rest) < 32768 → length (a ∷ rest) ≡ 5
five_digits a [] octal some minimum maximum = absurd (omega (arith, octal.0, minimum))
five_digits a (b ∷ []) octal some minimum maximum = absurd (omega (arith, octal.0, octal.1.0, minimum))
five_digits a (b ∷ c ∷ []) octal some minimum maximum = absurd (omega (arith, octal.0, octal.1.0, octal.1.1.0, minimum))
five_digits a (b ∷ c ∷ d ∷ []) octal some minimum maximum =
    absurd (omega (arith, octal.0, octal.1.0, octal.1.1.0, octal.1.1.1.0, minimum))
five_digits a (b ∷ c ∷ d ∷ e ∷ []) octal some minimum maximum = refl
five_digits a (b ∷ c ∷ d ∷ e ∷ f ∷ rest) octal some minimum maximum =
    let more = value_after_ge ((((((0 * 8 + digit_value a) * 8 + digit_value b) * 8 + digit_value c) * 8 + digit_value d) * 8 + digit_value e) * 8
    + digit_value f) rest in
    absurd (omega (arith, more, some, maximum))

-- a number from 32768 to 65535 has six digits
six_digits : (a : ℕ) (rest : List ℕ) → AllDigits 8 (a ∷ rest) → 0 < digit_value a → 32768 ≤ digits_value 8 (a ∷ rest)
    → digits_value 8 (a ∷ rest) < 65536 → length (a ∷ rest) ≡ 6
six_digits a [] octal some minimum maximum = absurd (omega (arith, octal.0, minimum))
six_digits a (b ∷ []) octal some minimum maximum = absurd (omega (arith, octal.0, octal.1.0, minimum))
six_digits a (b ∷ c ∷ []) octal some minimum maximum = absurd (omega (arith, octal.0, octal.1.0, octal.1.1.0, minimum))
six_digits a (b ∷ c ∷ d ∷ []) octal some minimum maximum =
    absurd (omega (arith, octal.0, octal.1.0, octal.1.1.0, octal.1.1.1.0, minimum))
six_digits a (b ∷ c ∷ d ∷ e ∷ []) octal some minimum maximum =
    absurd (omega (arith, octal.0, octal.1.0, octal.1.1.0, octal.1.1.1.0, octal.1.1.1.1.0, minimum))
six_digits a (b ∷ c ∷ d ∷ e ∷ f ∷ []) octal some minimum maximum = refl
six_digits a (b ∷ c ∷ d ∷ e ∷ f ∷ g ∷ rest) octal some minimum maximum =
    let more = value_after_ge (((((((0 * 8 + digit_value a) * 8 + digit_value b) * 8 + digit_value c) * 8 + digit_value d) * 8 + digit_value e) * 8
    + digit_value f) * 8 + digit_value g) rest in
    absurd (omega (arith, more, some, maximum))

-- the digits of a number without a first 0
abbrev pub AreDigitsOf : ℕ → List ℕ → Type 0
AreDigitsOf mode digits = IsNumeral 8 digits × (slice_index digits 0 ≢ 48) × (digits_value 8 digits ≡ mode)

first_digit_pos : (a : ℕ) → digit_value a < 8 → a ≢ 48 → 0 < digit_value a
first_digit_pos a low other =
    let byte : a ≡ 48 + digit_value a = octal_digit_byte a low in
    omega (arith, byte, other)

of_six : (mode : ℕ) (digits wanted : List ℕ) → AreDigitsOf mode digits → 32768 ≤ mode → mode < 65536 → length wanted ≡ 6
    → AllDigits 8 wanted → digits_value 8 wanted ≡ mode → digits ≡ wanted
of_six mode [] wanted are minimum maximum len octal value = absurd (omega (arith, are.0.0))
of_six mode (a ∷ rest) wanted are minimum maximum len octal value =
    let some = first_digit_pos a are.0.1.0 are.1 in
    let is : digits_value 8 (a ∷ rest) ≡ mode = are.2 in
    let six = six_digits a rest are.0.1 some (omega (arith, is, minimum)) (omega (arith, is, maximum)) in
    (digits_injective 0 0 (a ∷ rest) wanted (six ∙ sym len) are.0.1 octal (is ∙ sym value)).0

of_five : (mode : ℕ) (digits wanted : List ℕ) → AreDigitsOf mode digits → 4096 ≤ mode → mode < 32768 → length wanted ≡ 5
    → AllDigits 8 wanted → digits_value 8 wanted ≡ mode → digits ≡ wanted
of_five mode [] wanted are minimum maximum len octal value = absurd (omega (arith, are.0.0))
of_five mode (a ∷ rest) wanted are minimum maximum len octal value =
    let some = first_digit_pos a are.0.1.0 are.1 in
    let is : digits_value 8 (a ∷ rest) ≡ mode = are.2 in
    let five = five_digits a rest are.0.1 some (omega (arith, is, minimum)) (omega (arith, is, maximum)) in
    (digits_injective 0 0 (a ∷ rest) wanted (five ∙ sym len) are.0.1 octal (is ∙ sym value)).0

-- git writes the mode and decodes it to itself
pub git_mode_decodes : (strict : Bool) (mode : ℕ) → IsGitMode strict mode → DecodesToMode (encode_mode mode) mode
git_mode_decodes strict mode is =
    mode_round_trips mode (let low : mode < 65536 = grind (arith, is) in low)
    (λ old. grind (arith, is, old))

canonical_at : (mode : ℕ) (digits : List ℕ) (known : ℕ) → mode ≡ known → AreDigitsOf mode digits
    → (AreDigitsOf known digits → digits ≡ encode_mode known) → digits ≡ encode_mode mode
canonical_at mode digits known same are have =
    let P : ℕ → Type 0 = λ it. digits ≡ encode_mode it in
    let Q : ℕ → Type 0 = λ it. AreDigitsOf it digits in
    subst P (sym same) (have (subst Q same are))

-- the digits of a mode that git writes are those that git writes
pub canonical_digits : (strict : Bool) (mode : ℕ) (digits : List ℕ) → IsGitMode strict mode → AreDigitsOf mode digits
    → digits ≡ encode_mode mode
canonical_digits strict mode digits (inl is) are = canonical_at mode digits 33188 is are
    (λ (known : AreDigitsOf 33188 digits). of_six 33188 digits (encode_mode 33188) known (omega arith) (omega arith) refl
    (git_mode_decodes strict 33188 (inl refl)).octal refl)
canonical_digits strict mode digits (inr (inl is)) are = canonical_at mode digits 33261 is are
    (λ (known : AreDigitsOf 33261 digits). of_six 33261 digits (encode_mode 33261) known (omega arith) (omega arith) refl
    (git_mode_decodes strict 33261 (inr (inl refl))).octal refl)
canonical_digits strict mode digits (inr (inr (inl is))) are = canonical_at mode digits 40960 is are
    (λ (known : AreDigitsOf 40960 digits). of_six 40960 digits (encode_mode 40960) known (omega arith) (omega arith) refl
    (git_mode_decodes strict 40960 (inr (inr (inl refl)))).octal refl)
canonical_digits strict mode digits (inr (inr (inr (inl is)))) are = canonical_at mode digits 16384 is are
    (λ (known : AreDigitsOf 16384 digits). of_five 16384 digits (encode_mode 16384) known (omega arith) (omega arith) refl
    (git_mode_decodes strict 16384 (inr (inr (inr (inl refl))))).octal refl)
canonical_digits strict mode digits (inr (inr (inr (inr (inl is))))) are = canonical_at mode digits 57344 is are
    (λ (known : AreDigitsOf 57344 digits). of_six 57344 digits (encode_mode 57344) known (omega arith) (omega arith) refl
    (git_mode_decodes strict 57344 (inr (inr (inr (inr (inl refl)))))).octal refl)
canonical_digits strict mode digits (inr (inr (inr (inr (inr is))))) are = canonical_at mode digits 33204 is.1 are
    (λ (known : AreDigitsOf 33204 digits). of_six 33204 digits (encode_mode 33204) known (omega arith) (omega arith) refl
    (git_mode_decodes strict 33204 (inr (inr (inr (inr (inr (is.0, refl))))))).octal refl)
