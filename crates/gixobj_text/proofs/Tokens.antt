-- Steps over the token and the gap of a trailer line: for `TrailerDecoding` and the calls of `trailer_lines`.
use Rattle.std.proofs.Common.{◌-◌, ◌≤◌, ◌≡◌, ◌≢◌, ◌∷◌, ◌∙◌, ◌==◌, ap, arith, length, length-drop, refl, subst, sym, take, ℕ, Bool, true, false, cond, suc, List}
use Rattle.std.proofs.Common.{[], Option, Some, None}
use Rattle.std.proofs.lemmas.Bool.Decides.{nat_tests}
use Rattle.std.proofs.lemmas.List.Sums.{prefix_len-le-length, take_while-cons}
use Rattle.std.specs.List.{prefix_len, take_while}
use Rattle.std.specs.Prelude.{is_some}
use Rattle.gixobj_hash.specs.ByteStrings.{is_filled}
use Rattle.gixobj_text.proofs.LongestPrefixes.{drop_prefix_len_cons}
use Rattle.gixobj_text.specs.BodyLines.{TrailerParts, after_colon, after_gap, after_token, is_gap_byte, is_token_byte, trailer_parts, with_value}

eqb_false_of_ne : (a b : ℕ) → a ≢ b → (a == b) ≡ false
eqb_false_of_ne a b is = grind (arith, nat_tests)

-- ---- the bytes after a token and after a gap

pub after_token_of_token_byte : (bytes rest : List ℕ) (byte : ℕ) → bytes ≡ byte ∷ rest → is_token_byte byte ≡ true
    → after_token bytes ≡ after_token rest
after_token_of_token_byte bytes rest byte joined is = ap after_token joined ∙ drop_prefix_len_cons is_token_byte byte rest true is

pub after_token_of_other_byte : (bytes rest : List ℕ) (byte : ℕ) → bytes ≡ byte ∷ rest → is_token_byte byte ≡ false → after_token bytes ≡ bytes
after_token_of_other_byte bytes rest byte joined is =
    ap after_token joined ∙ drop_prefix_len_cons is_token_byte byte rest false is ∙ sym joined

pub after_token_len_le : (bytes : List ℕ) → length (after_token bytes) ≤ length bytes
after_token_len_le bytes =
    let len : length (after_token bytes) ≡ length bytes - prefix_len is_token_byte bytes = length-drop (prefix_len is_token_byte bytes) bytes in
    omega arith

pub after_gap_at_colon : (bytes rest : List ℕ) (byte : ℕ) → bytes ≡ byte ∷ rest → byte ≡ 58 → after_gap bytes ≡ Some rest
after_gap_at_colon bytes rest byte joined is =
    ap after_gap joined ∙ subst (λ (k : ℕ). after_gap (k ∷ rest) ≡ Some rest) (sym is) refl

pub after_gap_of_space : (bytes rest : List ℕ) (byte : ℕ) → bytes ≡ byte ∷ rest → is_gap_byte byte ≡ true → after_gap bytes ≡ after_gap rest
after_gap_of_space bytes rest byte joined gap = ap after_gap joined ∙ ap after_colon (drop_prefix_len_cons is_gap_byte byte rest true gap)

pub after_gap_of_other_byte : (bytes rest : List ℕ) (byte : ℕ) → bytes ≡ byte ∷ rest → byte ≢ 58 → is_gap_byte byte ≡ false
    → after_gap bytes ≡ None
after_gap_of_other_byte bytes rest byte joined is gap =
    ap after_gap joined ∙ ap after_colon (drop_prefix_len_cons is_gap_byte byte rest false gap)
    ∙ ap (λ (b : Bool). cond b (Some rest) None) (eqb_false_of_ne byte 58 is)

-- ---- the parts of a trailer line

take_while_token_cons : (byte : ℕ) (rest : List ℕ) (b : Bool) → is_token_byte byte ≡ b
    → take_while is_token_byte (byte ∷ rest) ≡ cond b (byte ∷ take_while is_token_byte rest) []
take_while_token_cons byte rest b is = take_while-cons is_token_byte byte rest
    ∙ ap (λ (c : Bool). cond c (byte ∷ take_while is_token_byte rest) []) is

-- the parts of content that begins with this token
abbrev parts_with_token : List ℕ → List ℕ → Option TrailerParts
parts_with_token content token = cond (is_filled token) (with_value token (after_gap (after_token content))) None

trailer_parts_cons : (byte : ℕ) (rest : List ℕ) → is_token_byte byte ≡ true
    → trailer_parts (byte ∷ rest) ≡ with_value (byte ∷ take_while is_token_byte rest) (after_gap (after_token rest))
trailer_parts_cons byte rest is =
    ap (parts_with_token (byte ∷ rest)) (take_while_token_cons byte rest true is)
    ∙ ap (λ (bytes : List ℕ). with_value (byte ∷ take_while is_token_byte rest) (after_gap bytes))
    (after_token_of_token_byte (byte ∷ rest) rest byte refl is)

pub trailer_parts_of_token : (content rest : List ℕ) (byte : ℕ) → content ≡ byte ∷ rest → is_token_byte byte ≡ true
    → trailer_parts content ≡ with_value (take (length content - length (after_token rest)) content) (after_gap (after_token rest))
trailer_parts_of_token content rest byte joined is =
    subst (λ (bytes : List ℕ). trailer_parts bytes
    ≡ with_value (take (length bytes - length (after_token rest)) bytes) (after_gap (after_token rest))) (sym joined)
    (trailer_parts_cons byte rest is ∙ ap (λ (n : ℕ). with_value (take n (byte ∷ rest)) (after_gap (after_token rest))) len_sub_len_after_token)
  where
    len_sub_len_after_token : suc (prefix_len is_token_byte rest) ≡ length (byte ∷ rest) - length (after_token rest)
    len_sub_len_after_token =
        let after_len : length (after_token rest) ≡ length rest - prefix_len is_token_byte rest = length-drop (prefix_len is_token_byte rest) rest in
        let bound : prefix_len is_token_byte rest ≤ length rest = prefix_len-le-length is_token_byte rest in
        omega arith

pub trailer_parts_none : (content rest : List ℕ) (byte : ℕ) → content ≡ byte ∷ rest → is_token_byte byte ≡ false → trailer_parts content ≡ None
trailer_parts_none content rest byte joined is =
    ap trailer_parts joined ∙ ap (parts_with_token (byte ∷ rest)) (take_while_token_cons byte rest false is)

is_some_with_value : (token : List ℕ) (found : Option (List ℕ)) → is_some (with_value token found) ≡ is_some found
is_some_with_value token None = refl
is_some_with_value token (Some value) = refl

pub trailer_parts_is_some : (content rest : List ℕ) (byte : ℕ) → content ≡ byte ∷ rest → is_token_byte byte ≡ true
    → is_some (trailer_parts content) ≡ is_some (after_gap (after_token rest))
trailer_parts_is_some content rest byte joined is =
    ap is_some (ap trailer_parts joined ∙ trailer_parts_cons byte rest is)
    ∙ is_some_with_value (byte ∷ take_while is_token_byte rest) (after_gap (after_token rest))

pub trailer_parts_is_none : (content rest : List ℕ) (byte : ℕ) → content ≡ byte ∷ rest → is_token_byte byte ≡ false
    → is_some (trailer_parts content) ≡ false
trailer_parts_is_none content rest byte joined is = ap is_some (trailer_parts_none content rest byte joined is)
