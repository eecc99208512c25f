-- Lemmas about single hex digits of either case, and about steps of decoding.
use Rattle.std.proofs.Common.{◌≡◌, ◌<◌, ◌||◌, ◌&&◌, ℕ, zero, suc, Bool, true, false, not, inl, inr, Option, Some, None, Result, Ok, Err, arith, refl}
use Rattle.std.proofs.lemmas.Bool.{and_parts, cases_lt}
use Rattle.hex.specs.Hex.{digit_or_error, hex_digit_value, ◌>>=◌}
use Rattle.hex.specs.declared.error.FromHexError.{FromHexError}
use Rattle.gixobj_hash.specs.Hash.{is_lower_hex_digit}

-- the test holds for each number below the bound
abbrev pub all_below : (ℕ → Bool) → ℕ → Bool
all_below p zero = true
all_below p (suc n) = p n && all_below p n

pub all_pass_at : (p : ℕ → Bool) (n number : ℕ) → all_below p n ≡ true → number < n → p number ≡ true
all_pass_at p zero number all low = absurd (omega arith)
all_pass_at p (suc n) number all low =
    let parts = and_parts (p n) (all_below p n) all in
    elim (cases_lt number n) [
      | inl below ↦ all_pass_at p n number parts.1 below
      | inr top ↦ (let same : number ≡ n = omega arith in rw same parts.0)
    ]

pub true_of_cond : (a b : Bool) → (not a || b) ≡ true → a ≡ true → b ≡ true
true_of_cond true b either first = either
true_of_cond false b either first = cc first

pub hex_value_lt_sixteen : (byte value : ℕ) → hex_digit_value byte ≡ Some value → value < 16
hex_value_lt_sixteen byte value reads = grind arith

-- a bind that succeeds has two steps that succeed
pub ok_of_bind : {A B : Type 0} (r : Result A FromHexError) (f : A → Result B FromHexError) (y : B) → (r >>= f) ≡ Ok y → (x : A) × (r ≡ Ok x) × (f x ≡ Ok y)
ok_of_bind (Ok x) f y ok = (x, refl, ok)
ok_of_bind (Err e) f y ok = cc ok

pub hex_digit_value_some : (byte i value : ℕ) (o : Option ℕ) → digit_or_error byte i o ≡ Ok value → o ≡ Some value
hex_digit_value_some byte i value (Some v) ok = cc ok
hex_digit_value_some byte i value None ok = cc ok

abbrev pub IsLower : ℕ → Type 0
IsLower byte = is_lower_hex_digit byte ≡ true
