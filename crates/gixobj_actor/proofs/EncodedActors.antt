-- An encoded actor is a line that decodes to it. The law `actor_round_trips` uses it.
use Rattle.std.proofs.Common.{◌≡◌, ◌≢◌, ◌<◌, ◌+◌, ◌/◌, ◌%◌, ℕ, suc, Bool, true, false, List, [], ◌∷◌, ◌++◌, arith, inl, refl, sym, ap, ◌∙◌, append_assoc}
use Rattle.std.proofs.Common.{append-nil, All, codes}
use Rattle.std.proofs.lemmas.Bool.{true≢false}
use Rattle.std.proofs.lemmas.Bool.Decides.{nat_tests}
use Rattle.std.proofs.lemmas.Fmt.{decimal_is_IsNumeral}
use Rattle.std.proofs.lemmas.List.Elements.{All-append, All-cons, All-nil}
use Rattle.std.specs.Char.{is_ascii_digit}
use Rattle.std.specs.Fmt.{signed_decimal}
use Rattle.std.specs.Int.{w64}
use Rattle.std.specs.List.{AllPass}
use Rattle.std.specs.Prelude.{ℤ, pos, negsuc, unsigned_abs, FitsSigned, decimal}
use Rattle.std.specs.Str.Parse.{AllDigits}
use Rattle.gixobj_hash.proofs.Digits.{is_ascii_digit_of_value}
use Rattle.gixobj_actor.specs.Actor.{IsActorLine, encode_actor, is_time_byte}
use Rattle.gixobj_actor.specs.ActorWriting.{IsLegalActor}
use Rattle.gixobj_actor.specs.Date.{IsOffset, is_below_zero, encode_offset, encode_offset_parts, encode_time, two_digits}
use Rattle.gixobj_hash.specs.ByteStrings.{IsByteFree}

abbrev IsTimed : ℕ → Type 0
IsTimed byte = is_time_byte byte ≡ true

digit_is_time_byte : (byte : ℕ) → is_ascii_digit byte ≡ true → IsTimed byte
digit_is_time_byte byte passes = rw passes refl

digits_are_time_bytes : (bytes : List ℕ) → AllDigits 10 bytes → AllPass is_time_byte bytes
digits_are_time_bytes [] digits = All-nil IsTimed
digits_are_time_bytes (byte ∷ bytes) digits =
    All-cons IsTimed byte bytes (digit_is_time_byte byte (is_ascii_digit_of_value byte digits.0)) (digits_are_time_bytes bytes digits.1)

decimal_digit_is_ascii_digit : (digit : ℕ) → digit < 10 → is_ascii_digit (48 + digit) ≡ true
decimal_digit_is_ascii_digit digit small = grind (arith, nat_tests)

two_digits_are_time_bytes : (number : ℕ) → number < 100 → AllPass is_time_byte (two_digits number)
two_digits_are_time_bytes number small =
    let tens = digit_is_time_byte (48 + number / 10) (decimal_digit_is_ascii_digit (number / 10) (omega arith)) in
    let ones = digit_is_time_byte (48 + number % 10) (decimal_digit_is_ascii_digit (number % 10) (omega arith)) in
    All-cons IsTimed (48 + number / 10) ((48 + number % 10) ∷ []) tens (All-cons IsTimed (48 + number % 10) [] ones (All-nil IsTimed))

offset_parts_are_time_bytes : (is_minus : Bool) (hours minutes : ℕ) → hours < 100 → minutes < 100
    → AllPass is_time_byte (encode_offset_parts is_minus hours minutes)
offset_parts_are_time_bytes true hours minutes small small' =
    All-append IsTimed (45 ∷ two_digits hours) (two_digits minutes) (All-cons IsTimed 45 (two_digits hours) refl (two_digits_are_time_bytes hours small))
    (two_digits_are_time_bytes minutes small')
offset_parts_are_time_bytes false hours minutes small small' =
    All-append IsTimed (43 ∷ two_digits hours) (two_digits minutes) (All-cons IsTimed 43 (two_digits hours) refl (two_digits_are_time_bytes hours small))
    (two_digits_are_time_bytes minutes small')

encode_offset_all_time_bytes : (offset : ℤ) → IsOffset offset → AllPass is_time_byte (encode_offset offset)
encode_offset_all_time_bytes offset proper = offset_parts_are_time_bytes (is_below_zero offset) (unsigned_abs offset / 60 / 60)
    (unsigned_abs offset / 60 % 60) (omega arith)
    (omega arith)

signed_decimal_all_time_bytes : (seconds : ℤ) → FitsSigned w64 seconds → AllPass is_time_byte (signed_decimal seconds)
signed_decimal_all_time_bytes (pos size) fits = digits_are_time_bytes (decimal size) (decimal_is_IsNumeral size (omega arith)).0.1
signed_decimal_all_time_bytes (negsuc size) fits = All-cons IsTimed 45 (decimal (suc size)) refl
    (digits_are_time_bytes (decimal (suc size)) (decimal_is_IsNumeral (suc size) (omega arith)).0.1)

pub encode_time_all_time_bytes : (seconds offset : ℤ) → FitsSigned w64 seconds → IsOffset offset → AllPass is_time_byte (encode_time seconds offset)
encode_time_all_time_bytes seconds offset fits proper =
    All-append IsTimed (signed_decimal seconds) (32 ∷ encode_offset offset) (signed_decimal_all_time_bytes seconds fits)
    (All-cons IsTimed 32 (encode_offset offset) refl (encode_offset_all_time_bytes offset proper))

-- a byte that no time has does not occur in a time
byte_free_of_all_time_bytes : (byte : ℕ) (time : List ℕ) → is_time_byte byte ≡ false → AllPass is_time_byte time → IsByteFree byte time
byte_free_of_all_time_bytes byte time fails passes k d below same = true≢false (sym (passes k d below) ∙ ap is_time_byte same ∙ fails)

-- a byte that occurs in no part of an actor does not occur in its encoding
encode_actor_is_byte_free : (byte : ℕ) (name email time : List ℕ) → 32 ≢ byte → 60 ≢ byte → 62 ≢ byte
    → IsByteFree byte name → IsByteFree byte email → IsByteFree byte time → IsByteFree byte (encode_actor name email time)
encode_actor_is_byte_free byte name email time space opening closing free_name free_email free_time =
    let P : ℕ → Type 0 = λ it. it ≢ byte in
    let opened : All P (codes " <") = All-cons P 32 (60 ∷ []) space (All-cons P 60 [] opening (All-nil P)) in
    let closed : All P (codes "> ") = All-cons P 62 (32 ∷ []) closing (All-cons P 32 [] space (All-nil P)) in
    let prefix = All-append P (name ++ codes " <") email (All-append P name (codes " <") free_name opened) free_email in
    All-append P (name ++ codes " <" ++ email ++ codes "> ") time (All-append P (name ++ codes " <" ++ email) (codes "> ") prefix closed) free_time

encode_actor_in_parts : (name email time : List ℕ) → encode_actor name email time ≡ (name ++ 32 ∷ []) ++ 60 ∷ email ++ 62 ∷ (32 ∷ []) ++ time ++ []
encode_actor_in_parts name email time = simp (append_assoc, append-nil)

encode_actor_is_line_of_time : (name email time : List ℕ) → IsLegalActor name email → AllPass is_time_byte time
    → IsActorLine (encode_actor name email time) name email time []
encode_actor_is_line_of_time name email time legal timed =
    let O : ℕ → Type 0 = λ it. it ≢ 60 in
    let C : ℕ → Type 0 = λ it. it ≢ 62 in
    let tail = All-cons C 32 time (omega arith) (byte_free_of_all_time_bytes 62 time refl timed) in
    record {
      name_bytes = name ++ 32 ∷ [];
      gap = 32 ∷ [];
      joined = encode_actor_in_parts name email time;
      one_line = encode_actor_is_byte_free 10 name email time (omega arith) (omega arith) (omega arith) legal.0.2 legal.1.2
          (byte_free_of_all_time_bytes 10 time refl timed);
      first = All-append O name (32 ∷ []) legal.0.0 (All-cons O 32 [] (omega arith) (All-nil O));
      last = All-append C (32 ∷ time) [] tail (All-nil C);
      named = inl refl;
      spaced = inl refl;
      timed = timed;
      ends = tt;
    }

pub encode_actor_is_actor_line : (name email : List ℕ) (seconds offset : ℤ) → IsLegalActor name email → FitsSigned w64 seconds → IsOffset offset
    → IsActorLine (encode_actor name email (encode_time seconds offset)) name email (encode_time seconds offset) []
encode_actor_is_actor_line name email seconds offset legal fits proper = encode_actor_is_line_of_time name email (encode_time seconds offset) legal
    (encode_time_all_time_bytes seconds offset fits proper)

-- an encoded actor and the bytes after it: the name, the email, and the end of the line
pub encode_actor_append : (name email time terminator : List ℕ)
    → encode_actor name email time ++ terminator ≡ name ++ codes " <" ++ email ++ (codes "> " ++ time ++ terminator)
encode_actor_append name email time terminator = simp append_assoc
