-- Content decodes to a trailer if and only if `trailer_parts` finds these parts; the law `trailer_line_decodes` uses
-- it.
use Rattle.std.proofs.Common.{◌+◌, ◌≡◌, ◌≢◌, ◌++◌, ◌∷◌, ◌∙◌, ◌==◌, ◌||◌, ap, append_assoc, arith, drop, length, subst, sym, refl, ℕ, Bool, true, false, cond}
use Rattle.std.proofs.Common.{List, [], Option, Some, None}
use Rattle.std.proofs.lemmas.Bool.Decides.{nat_tests}
use Rattle.std.proofs.lemmas.List.{drop_at, take-append-drop, take_at}
use Rattle.std.proofs.lemmas.List.Elements.{All-head}
use Rattle.std.specs.List.{AllPass, prefix_len, take_while}
use Rattle.gixobj_hash.specs.ByteStrings.{is_filled}
use Rattle.gixobj_text.proofs.LongestPrefixes.{prefix_len_append, take_while_all_pass}
use Rattle.gixobj_text.specs.BodyLines.{DecodesToTrailer, TrailerParts, after_colon, after_gap, after_token, is_gap_byte, is_token_byte, trailer_parts}
use Rattle.gixobj_text.specs.BodyLines.{with_value}

eq_of_eqb : (a b : ℕ) → (a == b) ≡ true → a ≡ b
eq_of_eqb a b is = grind (arith, nat_tests)

-- ---- the parts decode

bytes_of_after_colon : (bytes value : List ℕ) → after_colon bytes ≡ Some value → bytes ≡ 58 ∷ value
bytes_of_after_colon [] value is = cc is
bytes_of_after_colon (byte ∷ rest) value is = bytes_of_after_colon_of_flag (byte == 58) refl is
  where
    bytes_of_after_colon_of_flag : (b : Bool) → (byte == 58) ≡ b → cond b (Some rest) None ≡ Some value → byte ∷ rest ≡ 58 ∷ value
    bytes_of_after_colon_of_flag true colon is =
        let same : rest ≡ value = cc is in
        ap (λ (k : ℕ). k ∷ rest) (eq_of_eqb byte 58 colon) ∙ ap (λ (r : List ℕ). 58 ∷ r) same
    bytes_of_after_colon_of_flag false colon is = cc is

parts_of_with_value : (token : List ℕ) (found : Option (List ℕ)) (parts : TrailerParts)
    → cond (is_filled token) (with_value token found) None ≡ Some parts → (token ≡ parts.0) × (found ≡ Some parts.1) × (token ≢ [])
parts_of_with_value [] found parts is = cc is
parts_of_with_value (byte ∷ token) None parts is = cc is
parts_of_with_value (byte ∷ token) (Some value) parts is =
    let same : (byte ∷ token, value) ≡ parts = cc is in
    (ap (λ (p : TrailerParts). p.0) same, ap (λ (p : TrailerParts). Some p.1) same, λ none. cc none)

-- content decodes to the parts that `trailer_parts` finds
pub decodes_to_trailer_of_parts : (bytes : List ℕ) (parts : TrailerParts) → trailer_parts bytes ≡ Some parts → DecodesToTrailer bytes parts.0 parts.1
decodes_to_trailer_of_parts bytes parts is =
    let it = parts_of_with_value (take_while is_token_byte bytes) (after_gap (after_token bytes)) parts is in
    let gap : List ℕ = take_while is_gap_byte (after_token bytes) in
    let colon = bytes_of_after_colon (drop (prefix_len is_gap_byte (after_token bytes)) (after_token bytes)) parts.1 it.1 in
    let split : after_token bytes ≡ gap ++ 58 ∷ parts.1 =
    sym (take-append-drop (prefix_len is_gap_byte (after_token bytes)) (after_token bytes)) ∙ ap (λ (r : List ℕ). gap ++ r) colon in
    record {
      gap = gap;
      joined = sym (take-append-drop (prefix_len is_token_byte bytes) bytes)
          ∙ ap (λ (r : List ℕ). take_while is_token_byte bytes ++ r) split
          ∙ ap (λ (token : List ℕ). token ++ (gap ++ 58 ∷ parts.1)) it.0
          ∙ sym (append_assoc parts.0 gap (58 ∷ parts.1));
      some = subst (λ (token : List ℕ). token ≢ []) it.0 it.2;
      of_token = subst (AllPass is_token_byte) it.0 (take_while_all_pass is_token_byte bytes);
      of_gap = take_while_all_pass is_gap_byte (after_token bytes);
    }

-- ---- the converse

gap_byte_is_no_token_byte : (byte : ℕ) (a b : Bool) → (byte == 32) ≡ a → (byte == 9) ≡ b → (a || b) ≡ true → is_token_byte byte ≡ false
gap_byte_is_no_token_byte byte true b space tab is = subst (λ (k : ℕ). is_token_byte k ≡ false) (sym (eq_of_eqb byte 32 space)) refl
gap_byte_is_no_token_byte byte false true space tab is = subst (λ (k : ℕ). is_token_byte k ≡ false) (sym (eq_of_eqb byte 9 tab)) refl
gap_byte_is_no_token_byte byte false false space tab is = cc is

prefix_len_token_at_gap : (gap value : List ℕ) → AllPass is_gap_byte gap → prefix_len is_token_byte (gap ++ 58 ∷ value) ≡ 0
prefix_len_token_at_gap [] value gaps = refl
prefix_len_token_at_gap (byte ∷ gap) value gaps =
    ap (λ (b : Bool). cond b (1 + prefix_len is_token_byte (gap ++ 58 ∷ value)) 0)
    (gap_byte_is_no_token_byte byte (byte == 32) (byte == 9) refl refl (All-head (λ it. is_gap_byte it ≡ true) byte gap gaps))

after_gap_append : (gap value : List ℕ) → AllPass is_gap_byte gap → after_gap (gap ++ 58 ∷ value) ≡ Some value
after_gap_append gap value gaps =
    ap after_colon (drop_at gap (58 ∷ value) (prefix_len is_gap_byte (gap ++ 58 ∷ value))
    (sym (prefix_len_append is_gap_byte gap (58 ∷ value) gaps refl)))

with_value_of_filled : (token value : List ℕ) → token ≢ [] → cond (is_filled token) (with_value token (Some value)) None ≡ Some (token, value)
with_value_of_filled [] value some = absurd (some refl)
with_value_of_filled (byte ∷ token) value some = refl

trailer_parts_append : (token gap value : List ℕ) → token ≢ [] → AllPass is_token_byte token → AllPass is_gap_byte gap
    → trailer_parts (token ++ gap ++ 58 ∷ value) ≡ Some (token, value)
trailer_parts_append token gap value some tokens gaps =
    let content : List ℕ = token ++ (gap ++ 58 ∷ value) in
    let len : length token ≡ prefix_len is_token_byte content =
    sym (prefix_len_append is_token_byte token (gap ++ 58 ∷ value) tokens (prefix_len_token_at_gap gap value gaps)) in
    ap trailer_parts (append_assoc token gap (58 ∷ value))
    ∙ ap (λ (it : List ℕ). cond (is_filled it) (with_value it (after_gap (after_token content))) None)
    (take_at token (gap ++ 58 ∷ value) (prefix_len is_token_byte content) len)
    ∙ ap (λ (bytes : List ℕ). cond (is_filled token) (with_value token (after_gap bytes)) None)
    (drop_at token (gap ++ 58 ∷ value) (prefix_len is_token_byte content) len)
    ∙ ap (λ (found : Option (List ℕ)). cond (is_filled token) (with_value token found) None) (after_gap_append gap value gaps)
    ∙ with_value_of_filled token value some

-- `trailer_parts` finds the parts of content that decodes to a trailer: it has at most one token and one value
pub trailer_parts_of_decoded : (bytes token value : List ℕ) → DecodesToTrailer bytes token value → trailer_parts bytes ≡ Some (token, value)
trailer_parts_of_decoded bytes token value it = ap trailer_parts it.joined ∙ trailer_parts_append token it.gap value it.some it.of_token it.of_gap
