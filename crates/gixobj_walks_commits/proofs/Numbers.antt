-- A line has one number at most, and the parts that `seconds_of` splits from it are those of its number.
use Rattle.std.proofs.Common.{◌≡◌, ◌≢◌, ◌<◌, ◌==◌, ◌⊎◌, ◌∙◌, ℕ, Bool, true, false, List, [], ◌∷◌, ◌++◌, ap, append_assoc, arith, inl, inr, length, refl, subst}
use Rattle.std.proofs.Common.{sym}
use Rattle.std.proofs.lemmas.Bool.{true≢false}
use Rattle.std.proofs.lemmas.Bool.Decides.{nat_tests}
use Rattle.std.proofs.Math.Decide.{ℕ_discrete}
use Rattle.std.proofs.lemmas.List.Elements.{All-cons, All-head, All-tail, All-nil}
use Rattle.std.specs.Char.{digit_value, is_ascii_digit}
use Rattle.std.specs.List.{AllPass}
use Rattle.std.specs.Prelude.{slice_index}
use Rattle.std.specs.Str.Parse.{IsNumeral, digits_value, starts_with_minus, without_leading_sign}
use Rattle.gixobj_hash.proofs.Digits.{all_digits_of_all_pass, all_pass_of_all_digits, digit_value_lt_ten, is_ascii_digit_of_value}
use Rattle.gixobj_hash.proofs.Splits.{no_split_of_byte_free, split_parts_unique}
use Rattle.gixobj_hash.specs.ByteStrings.{IsByteFree, SplitsAt}
use Rattle.gixobj_walks_commits.specs.Seconds.{EndsRun, HasNumber, HasSeconds, in_64_bits, is_white_space, number_value}

-- ---- runs of bytes that pass a test

passing_byte_begins : (test : ℕ → Bool) (byte : ℕ) (bytes rest after : List ℕ) → AllPass test (byte ∷ bytes) → EndsRun test rest
    → rest ≡ byte ∷ after → ⊥
passing_byte_begins test byte bytes rest after passes ends same =
    let fails : test byte ≡ false = (let P : List ℕ → Type 0 = EndsRun test in subst P same ends) in
    true≢false (sym (All-head (λ it. test it ≡ true) byte bytes passes) ∙ fails)

run_unique : (test : ℕ → Bool) (a x b y : List ℕ) → AllPass test a → AllPass test b → EndsRun test x → EndsRun test y → a ++ x ≡ b ++ y
    → (a ≡ b) × (x ≡ y)
run_unique test [] x [] y pass_a pass_b ends_x ends_y same = (refl, same)
run_unique test [] x (byte ∷ b) y pass_a pass_b ends_x ends_y same = absurd (passing_byte_begins test byte b x (b ++ y) pass_b ends_x same)
run_unique test (byte ∷ a) x [] y pass_a pass_b ends_x ends_y same =
    absurd (passing_byte_begins test byte a y (a ++ x) pass_a ends_y (sym same))
run_unique test (byte ∷ a) x (other ∷ b) y pass_a pass_b ends_x ends_y same =
    let tails : a ++ x ≡ b ++ y = cc same in
    let heads : byte ≡ other = cc same in
    let P : ℕ → Type 0 = λ it. test it ≡ true in
    let rest = run_unique test a x b y (All-tail P byte a pass_a) (All-tail P other b pass_b) ends_x ends_y tails in
    (cc (heads, rest.0), rest.1)

-- ---- signs

-- the bytes begin with a minus, with a plus, or with no sign
data Sign (bytes : List ℕ) : Type 0 where
  minus_comes : (rest : List ℕ) → bytes ≡ 45 ∷ rest → Sign bytes
  plus_comes : (rest : List ℕ) → bytes ≡ 43 ∷ rest → Sign bytes
  no_sign_comes : (slice_index bytes 0 == 45) ≡ false → (slice_index bytes 0 == 43) ≡ false → Sign bytes

sign_of_cons : (byte : ℕ) (rest : List ℕ) → Sign (byte ∷ rest)
sign_of_cons byte rest = elim (byte == 45) as (λ b. (byte == 45) ≡ b → Sign (byte ∷ rest)) [
  | true ↦ λ is. minus_comes rest (ap (λ (it : ℕ). it ∷ rest) (grind (arith, nat_tests, is)))
  | false ↦ λ no_minus. elim (byte == 43) as (λ b. (byte == 43) ≡ b → Sign (byte ∷ rest)) [
    | true ↦ λ is. plus_comes rest (ap (λ (it : ℕ). it ∷ rest) (grind (arith, nat_tests, is)))
    | false ↦ λ no_plus. no_sign_comes no_minus no_plus
  ] refl
] refl

sign_of : (bytes : List ℕ) → Sign bytes
sign_of [] = no_sign_comes refl refl
sign_of (byte ∷ rest) = sign_of_cons byte rest

unsigned_of_no_sign : (byte : ℕ) (rest : List ℕ) → (byte == 45) ≡ false → (byte == 43) ≡ false → without_leading_sign (byte ∷ rest) ≡ byte ∷ rest
unsigned_of_no_sign byte rest no_minus no_plus = rw (no_minus, no_plus) refl

-- the bytes after a number don't change its sign and its digits
unsigned_append : (number rest : List ℕ) → IsNumeral 10 (without_leading_sign number) → Sign number
    → (starts_with_minus (number ++ rest) ≡ starts_with_minus number) × (without_leading_sign (number ++ rest) ≡ without_leading_sign number ++ rest)
unsigned_append number rest numeral (minus_comes after is) = rw is (refl, refl)
unsigned_append number rest numeral (plus_comes after is) = rw is (refl, refl)
unsigned_append [] rest numeral (no_sign_comes no_minus no_plus) = absurd (omega (arith, numeral.0))
unsigned_append (byte ∷ bytes) rest numeral (no_sign_comes no_minus no_plus) = (
  refl,
  unsigned_of_no_sign byte (bytes ++ rest) no_minus no_plus ∙ ap (λ (it : List ℕ). it ++ rest) (sym (unsigned_of_no_sign byte bytes no_minus no_plus)),
)

digit_is_no_white_space : (byte : ℕ) → digit_value byte < 10 → is_white_space byte ≡ false
digit_is_no_white_space byte digit = grind (arith, nat_tests, digit)

-- a number does not begin with white space
number_ends_white_space : (number rest : List ℕ) → IsNumeral 10 (without_leading_sign number) → Sign number → EndsRun is_white_space (number ++ rest)
number_ends_white_space number rest numeral (minus_comes after is) = rw is refl
number_ends_white_space number rest numeral (plus_comes after is) = rw is refl
number_ends_white_space [] rest numeral (no_sign_comes no_minus no_plus) = absurd (omega (arith, numeral.0))
number_ends_white_space (byte ∷ bytes) rest numeral (no_sign_comes no_minus no_plus) =
    let P : List ℕ → Type 0 = IsNumeral 10 in
    let digits : IsNumeral 10 (byte ∷ bytes) = subst P (unsigned_of_no_sign byte bytes no_minus no_plus) numeral in
    digit_is_no_white_space byte digits.1.0

-- the number that begins the bytes, with these digits
record BeginsWithNumber (bytes digits rest : List ℕ) : Type 0 where
  number : List ℕ
  joined : bytes ≡ number ++ rest
  unsigned : without_leading_sign number ≡ digits
  sign : starts_with_minus number ≡ starts_with_minus bytes

number_of_unsigned : (bytes digits rest : List ℕ) → Sign bytes → without_leading_sign bytes ≡ digits ++ rest → 0 < length digits
    → BeginsWithNumber bytes digits rest
number_of_unsigned bytes digits rest (minus_comes after is) unsigned some =
    let same : after ≡ digits ++ rest = sym (ap without_leading_sign is) ∙ unsigned in
    record { number = 45 ∷ digits; joined = is ∙ ap (λ (it : List ℕ). 45 ∷ it) same; unsigned = refl; sign = sym (ap starts_with_minus is) }
number_of_unsigned bytes digits rest (plus_comes after is) unsigned some =
    let same : after ≡ digits ++ rest = sym (ap without_leading_sign is) ∙ unsigned in
    record { number = 43 ∷ digits; joined = is ∙ ap (λ (it : List ℕ). 43 ∷ it) same; unsigned = refl; sign = sym (ap starts_with_minus is) }
number_of_unsigned bytes [] rest (no_sign_comes no_minus no_plus) unsigned some = absurd (omega (arith, some))
number_of_unsigned [] (digit ∷ digits) rest (no_sign_comes no_minus no_plus) unsigned some = absurd (cc unsigned)
number_of_unsigned (byte ∷ bytes) (digit ∷ digits) rest (no_sign_comes no_minus no_plus) unsigned some =
    let same : byte ∷ bytes ≡ digit ∷ (digits ++ rest) = sym (unsigned_of_no_sign byte bytes no_minus no_plus) ∙ unsigned in
    let first : byte ≡ digit = cc same in
    let tests : ((digit == 45) ≡ false) × ((digit == 43) ≡ false) = rw (← first) (no_minus, no_plus) in
    record {
      number = digit ∷ digits;
      joined = same;
      unsigned = unsigned_of_no_sign digit digits tests.0 tests.1;
      sign = tests.0 ∙ sym no_minus;
    }

-- ---- one number

line_append_assoc : (before gap number rest : List ℕ) → before ++ 62 ∷ gap ++ number ++ rest ≡ before ++ 62 ∷ (gap ++ (number ++ rest))
line_append_assoc before gap number rest = simp append_assoc

-- the bytes after the first `>` and white space begin with the number
number_begins_rest : (line before after gap bytes number : List ℕ) → (has : HasNumber line number) → SplitsAt 62 line before after → after ≡ gap ++ bytes
    → AllPass is_white_space gap → EndsRun is_white_space bytes → number ++ has.rest ≡ bytes
number_begins_rest line before after gap bytes number has split joined blank ends =
    let same = split_parts_unique 62 has.before (has.gap ++ (number ++ has.rest)) before after has.first split.first
    (sym (line_append_assoc has.before has.gap number has.rest) ∙ sym has.joined ∙ split.joined) in
    (run_unique is_white_space has.gap (number ++ has.rest) gap bytes has.blank blank
    (number_ends_white_space number has.rest has.digits (sign_of number)) ends (same.1 ∙ joined)).1

-- the digits of a number
number_digits : (number : List ℕ) → IsNumeral 10 (without_leading_sign number) → AllPass is_ascii_digit (without_leading_sign number)
number_digits number numeral = all_pass_of_all_digits 10 is_ascii_digit is_ascii_digit_of_value (without_leading_sign number) numeral.1

number_value_unique : (line a b : List ℕ) → HasNumber line a → HasNumber line b → number_value a ≡ number_value b
number_value_unique line a b first second =
    let split : SplitsAt 62 line second.before (second.gap ++ (b ++ second.rest)) =
    record { joined = second.joined ∙ line_append_assoc second.before second.gap b second.rest; first = second.first } in
    let same = number_begins_rest line second.before (second.gap ++ (b ++ second.rest)) second.gap (b ++ second.rest) a first split refl second.blank
    (number_ends_white_space b second.rest second.digits (sign_of b)) in
    let parts = unsigned_append a first.rest first.digits (sign_of a) in
    let others = unsigned_append b second.rest second.digits (sign_of b) in
    let digits = (run_unique is_ascii_digit (without_leading_sign a) first.rest (without_leading_sign b) second.rest (number_digits a first.digits)
    (number_digits b second.digits) first.ends second.ends (sym parts.1 ∙ ap without_leading_sign same ∙ others.1)).0 in
    let sign = sym parts.0 ∙ ap starts_with_minus same ∙ others.0 in
    ap (λ (it : Bool). in_64_bits it (digits_value 10 (without_leading_sign a))) sign
    ∙ ap (λ (it : List ℕ). in_64_bits (starts_with_minus b) (digits_value 10 it)) digits

-- a line has one number of seconds
pub seconds_are_unique : (line : List ℕ) (a b : ℕ) → HasSeconds line a → HasSeconds line b → a ≡ b
seconds_are_unique line a b (inl first) (inl second) = first.2 ∙ number_value_unique line first.0 second.0 first.1 second.1 ∙ sym second.2
seconds_are_unique line a b (inl first) (inr second) = absurd (second.0 first.0 first.1)
seconds_are_unique line a b (inr first) (inl second) = absurd (first.0 second.0 second.1)
seconds_are_unique line a b (inr first) (inr second) = first.1 ∙ sym second.1

-- ---- the parts that are split

pub no_seconds_without_greater_than : (line : List ℕ) → IsByteFree 62 line → HasSeconds line 0
no_seconds_without_greater_than line free = inr (
  λ number has.
      let P : List ℕ → Type 0 = IsByteFree 62 in
      let joined : line ≡ has.before ++ 62 ∷ (has.gap ++ (number ++ has.rest)) = has.joined ∙ line_append_assoc has.before has.gap number has.rest in
      no_split_of_byte_free 62 has.before (has.gap ++ (number ++ has.rest)) (subst P joined free),
  refl,
)

-- the parts of a line that are split from the left
pub record SplitsNumber (line bytes digits : List ℕ) : Type 0 where
  pub before : List ℕ
  pub after : List ℕ
  pub gap : List ℕ
  pub rest : List ℕ
  pub split : SplitsAt 62 line before after
  pub joined : after ≡ gap ++ bytes
  pub blank : AllPass is_white_space gap
  pub filled : EndsRun is_white_space bytes
  pub unsigned : without_leading_sign bytes ≡ digits ++ rest
  pub digits_pass : AllPass is_ascii_digit digits
  pub ends : EndsRun is_ascii_digit rest

pub no_seconds_without_digit : (line bytes digits : List ℕ) → SplitsNumber line bytes digits → length digits ≡ 0 → HasSeconds line 0
no_seconds_without_digit line bytes digits splits none = inr (
  λ number has.
      let same = number_begins_rest line splits.before splits.after splits.gap bytes number has splits.split splits.joined splits.blank splits.filled in
      let parts = unsigned_append number has.rest has.digits (sign_of number) in
      let alike = (run_unique is_ascii_digit (without_leading_sign number) has.rest digits splits.rest (number_digits number has.digits)
      splits.digits_pass has.ends splits.ends (sym parts.1 ∙ ap without_leading_sign same ∙ splits.unsigned)).0 in
      absurd (omega (arith, has.digits.0, none, ap length alike)),
  refl,
)

pub numeral_of_digits : (digits : List ℕ) → AllPass is_ascii_digit digits → 0 < length digits → IsNumeral 10 digits
numeral_of_digits digits passes some = (some, all_digits_of_all_pass 10 is_ascii_digit digit_value_lt_ten digits passes)

pub seconds_of_digits : (line bytes digits : List ℕ) → SplitsNumber line bytes digits → 0 < length digits
    → HasSeconds line (in_64_bits (starts_with_minus bytes) (digits_value 10 digits))
seconds_of_digits line bytes digits splits some =
    let begins = number_of_unsigned bytes digits splits.rest (sign_of bytes) splits.unsigned some in
    let N : List ℕ → Type 0 = IsNumeral 10 in
    let has : HasNumber line begins.number = record {
      before = splits.before;
      gap = splits.gap;
      rest = splits.rest;
      joined = splits.split.joined ∙ ap (λ (it : List ℕ). splits.before ++ 62 ∷ it) (splits.joined ∙ ap (λ (it : List ℕ). splits.gap ++ it) begins.joined)
          ∙ sym (line_append_assoc splits.before splits.gap begins.number splits.rest);
      first = splits.split.first;
      blank = splits.blank;
      digits = subst N (sym begins.unsigned) (numeral_of_digits digits splits.digits_pass some);
      ends = splits.ends;
    } in
    inl (
      begins.number,
      has,
      ap (λ (it : Bool). in_64_bits it (digits_value 10 digits)) (sym begins.sign)
          ∙ ap (λ (it : List ℕ). in_64_bits (starts_with_minus begins.number) (digits_value 10 it)) (sym begins.unsigned),
    )

-- ---- each line has seconds

record Run (test : ℕ → Bool) (bytes : List ℕ) : Type 0 where
  run : List ℕ
  rest : List ℕ
  joined : bytes ≡ run ++ rest
  passes : AllPass test run
  ends : EndsRun test rest

run_cons : (test : ℕ → Bool) (byte : ℕ) (bytes : List ℕ) → Run test bytes → Run test (byte ∷ bytes)
run_cons test byte bytes more = elim (test byte) as (λ b. test byte ≡ b → Run test (byte ∷ bytes)) [
  | true ↦ λ is. record {
    run = byte ∷ more.run;
    rest = more.rest;
    joined = ap (λ (it : List ℕ). byte ∷ it) more.joined;
    passes = All-cons (λ it. test it ≡ true) byte more.run is more.passes;
    ends = more.ends;
  }
  | false ↦ λ is. record { run = []; rest = byte ∷ bytes; joined = refl; passes = All-nil (λ it. test it ≡ true); ends = is }
] refl

run_of : (test : ℕ → Bool) (bytes : List ℕ) → Run test bytes
run_of test [] = record { run = []; rest = []; joined = refl; passes = All-nil (λ it. test it ≡ true); ends = tt }
run_of test (byte ∷ bytes) = run_cons test byte bytes (run_of test bytes)

abbrev SplitsOnce : List ℕ → Type 0
SplitsOnce line = (before : List ℕ) × (after : List ℕ) × SplitsAt 62 line before after

split_cons : (byte : ℕ) (line : List ℕ) → SplitsOnce line ⊎ IsByteFree 62 line → SplitsOnce (byte ∷ line) ⊎ IsByteFree 62 (byte ∷ line)
split_cons byte line rest = elim (ℕ_discrete byte 62) [
  | yes same ↦ inl ([], line, record { joined = ap (λ (it : ℕ). it ∷ line) same; first = All-nil (λ it. it ≢ 62) })
  | no other ↦ elim rest [
    | inl split ↦ inl (
      byte ∷ split.0,
      split.1,
      record { joined = ap (λ (it : List ℕ). byte ∷ it) split.2.joined; first = All-cons (λ it. it ≢ 62) byte split.0 other split.2.first },
    )
    | inr free ↦ inr (All-cons (λ it. it ≢ 62) byte line other free)
  ]
]

split_of : (line : List ℕ) → SplitsOnce line ⊎ IsByteFree 62 line
split_of [] = inr (All-nil (λ it. it ≢ 62))
split_of (byte ∷ line) = split_cons byte line (split_of line)

abbrev SomeSeconds : List ℕ → Type 0
SomeSeconds line = (seconds : ℕ) × HasSeconds line seconds

seconds_of_splits : (line bytes digits : List ℕ) → SplitsNumber line bytes digits → SomeSeconds line
seconds_of_splits line bytes [] splits = (0, no_seconds_without_digit line bytes [] splits refl)
seconds_of_splits line bytes (digit ∷ digits) splits = (_, seconds_of_digits line bytes (digit ∷ digits) splits (omega arith))

seconds_of_split : (line : List ℕ) → SplitsOnce line → SomeSeconds line
seconds_of_split line (before, after, split) =
    let gap = run_of is_white_space after in
    let digits = run_of is_ascii_digit (without_leading_sign gap.rest) in
    seconds_of_splits line gap.rest digits.run (record {
      before = before;
      after = after;
      gap = gap.run;
      rest = digits.rest;
      split = split;
      joined = gap.joined;
      blank = gap.passes;
      filled = gap.ends;
      unsigned = digits.joined;
      digits_pass = digits.passes;
      ends = digits.ends;
    })

-- each line has seconds
pub seconds_exist : (line : List ℕ) → (seconds : ℕ) × HasSeconds line seconds
seconds_exist line = elim (split_of line) [
  | inl split ↦ seconds_of_split line split
  | inr free ↦ (0, no_seconds_without_greater_than line free)
]
