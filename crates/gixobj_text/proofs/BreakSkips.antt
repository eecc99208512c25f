-- Skipping bytes that begin no line break: for the split of a message into title and body.
use Rattle.std.proofs.Common.{◌++◌, ◌==◌, ◌≡◌, ◌≢◌, ◌<◌, ◌≤◌, ◌∙◌, ◌∷◌, List, None, Some, [], ap, append-nil, arith, cond, false, length, length-take-le, refl}
use Rattle.std.proofs.Common.{subst, sym, take, drop, take-append-drop, true, Bool, ℕ}
use Rattle.std.proofs.lemmas.Bool.Decides.{nat_tests}
use Rattle.std.proofs.lemmas.List.{drop_more, get_or-take}
use Rattle.std.proofs.lemmas.List.Elements.{All-from_get_or, All-head, All-tail}
use Rattle.bstr.proofs.Computing.{computing}
use Rattle.bstr.specs.Bytes.{is_in}
use Rattle.bstr.specs.Find.{IsFirstByte, Nowhere, Passes}
use Rattle.gixobj_hash.specs.ByteStrings.{IsByteFree}
use Rattle.gixobj_text.specs.LineBreaks.{BeginsBreak, IsFromBreak, IsUnsplit, after_next_break, after_carriage_return, after_two_breaks}
use Rattle.gixobj_text.proofs.SplitTitles.{is_unsplit_refl, is_unsplit_step}

abbrev break_bytes : List ℕ
break_bytes = 10 ∷ 13 ∷ []

newline_in_break_bytes : is_in break_bytes 10 ≡ true
unfolding computing
newline_in_break_bytes = refl

return_in_break_bytes : is_in break_bytes 13 ≡ true
unfolding computing
return_in_break_bytes = refl

take_is_break_byte_free : (bytes : List ℕ) (position byte : ℕ) → is_in break_bytes byte ≡ true → position ≤ length bytes
    → Nowhere (Passes (is_in break_bytes) bytes) 0 position
    → IsByteFree byte (take position bytes)
take_is_break_byte_free bytes position byte test within none =
    All-from_get_or (λ it. it ≢ byte) (take position bytes) 0 (λ i below same.
    let bound : i < position = omega (arith, below, length-take-le position bytes within) in
    none i (omega arith) bound (ap (is_in break_bytes) (sym (get_or-take position bytes i 0 bound) ∙ same) ∙ test))

pub is_from_break_at_position : (bytes : List ℕ) (position : ℕ) → IsFirstByte (is_in break_bytes) bytes (Some position)
    → IsFromBreak bytes (drop position bytes)
is_from_break_at_position bytes position (none, here) =
    let within : position ≤ length bytes = omega (arith, none.high) in
    record {
      plain = take position bytes;
      joined = sym (take-append-drop position bytes);
      no_newline = take_is_break_byte_free bytes position 10 newline_in_break_bytes within none.before;
      no_return = take_is_break_byte_free bytes position 13 return_in_break_bytes within none.before;
      begins = subst BeginsBreak (sym (drop_more bytes position 0 none.high)) here;
    }

take_len : (bytes : List ℕ) → take (length bytes) bytes ≡ bytes
take_len [] = refl
take_len (byte ∷ bytes) = ap (λ (rest : List ℕ). byte ∷ rest) (take_len bytes)

pub is_from_break_nil : (bytes : List ℕ) → IsFirstByte (is_in break_bytes) bytes None → IsFromBreak bytes []
is_from_break_nil bytes none =
    record {
      plain = bytes;
      joined = sym (append-nil bytes);
      no_newline = subst (IsByteFree 10) (take_len bytes) (take_is_break_byte_free bytes (length bytes) 10 newline_in_break_bytes (omega arith) none);
      no_return = subst (IsByteFree 13) (take_len bytes) (take_is_break_byte_free bytes (length bytes) 13 return_in_break_bytes (omega arith) none);
      begins = tt;
    }

eqb_false_of_ne : (byte other : ℕ) → byte ≢ other → (byte == other) ≡ false
eqb_false_of_ne byte other is = grind (arith, nat_tests)

no_two_breaks_of_other_byte : (byte : ℕ) (rest : List ℕ) → byte ≢ 10 → byte ≢ 13 → None ≡ after_two_breaks (byte ∷ rest)
no_two_breaks_of_other_byte byte rest newline return =
    sym (ap (λ (b : Bool). after_next_break (cond b (Some rest) (cond (byte == 13) (after_carriage_return rest) None))) (eqb_false_of_ne byte 10 newline)
    ∙ ap (λ (b : Bool). after_next_break (cond b (after_carriage_return rest) None)) (eqb_false_of_ne byte 13 return))

is_unsplit_after_plain : (message plain rest : List ℕ) → IsUnsplit message (plain ++ rest) → IsByteFree 10 plain → IsByteFree 13 plain → IsUnsplit message rest
is_unsplit_after_plain message [] rest it newline return = it
is_unsplit_after_plain message (byte ∷ plain) rest it newline return =
    let none = no_two_breaks_of_other_byte byte (plain ++ rest) (All-head (λ it. it ≢ 10) byte plain newline) (All-head (λ it. it ≢ 13) byte plain return) in
    is_unsplit_after_plain message plain rest (is_unsplit_step message (byte ∷ plain ++ rest) byte (plain ++ rest) it refl none)
    (All-tail (λ it. it ≢ 10) byte plain newline) (All-tail (λ it. it ≢ 13) byte plain return)

is_unsplit_from_break : (message bytes rest : List ℕ) → IsUnsplit message bytes → IsFromBreak bytes rest → IsUnsplit message rest
is_unsplit_from_break message bytes rest it past = is_unsplit_after_plain message past.plain rest
    (subst (IsUnsplit message) past.joined it) past.no_newline past.no_return

pub is_unsplit_at_begin : (message rest : List ℕ) → IsFromBreak message rest → IsUnsplit message rest
is_unsplit_at_begin message rest past = is_unsplit_from_break message message rest (is_unsplit_refl message) past

pub is_unsplit_at_next : (message rest : List ℕ) (byte : ℕ) (after next : List ℕ) → IsUnsplit message rest → rest ≡ byte ∷ after
    → None ≡ after_two_breaks rest
    → IsFromBreak after next → IsUnsplit message next
is_unsplit_at_next message rest byte after next it is none past = is_unsplit_from_break message after next
    (is_unsplit_step message rest byte after it is none) past
