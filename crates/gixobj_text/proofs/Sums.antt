-- The summary of a title is made of its pieces between newlines, without trailing white space; the functions of
-- `summary` use these lemmas.
use Rattle.std.proofs.Common.{◌++◌, ◌+◌, ◌-◌, ◌<◌, ◌∙◌, ◌∷◌, ◌≡◌, ◌≢◌, Bool, List, None, Some, [], ap, append-nil, append_assoc, arith, cond, drop, false}
use Rattle.std.proofs.Common.{length, length-drop, map, refl, reverse, slice_index, suc, sym, take, true, zero, ℕ}
use Rattle.std.proofs.lemmas.Bool.{eqb-true, ne_eqb, eq-eqb, cond-true, cond-false}
use Rattle.std.proofs.lemmas.List.{reverse-append, reverse-reverse}
use Rattle.std.proofs.lemmas.List.Sums.{take_while-cons}
use Rattle.std.specs.Prelude.{◌==◌}
use Rattle.std.specs.Char.{is_ascii_whitespace, is_whitespace}
use Rattle.std.specs.List.{flat_map, list_all, onto_first, prefix_len, take_while}
use Rattle.bstr.specs.Find.{IsFirstByte, is_byte}
use Rattle.bstr.specs.Owned.{joined}
use Rattle.bstr.specs.Trim.{trim_end_by}
use Rattle.gixobj_text.proofs.LongestPrefixes.{drop_prefix_len_cons}
use Rattle.gixobj_text.specs.SummaryPieces.{has_more, is_multiline, summary_of_rest}
use Rattle.gixobj_text.specs.Titles.{without_trailing_but_last, pieces_of, summary_of, summary_of_pieces, without_trailing}
use Rattle.gixobj_hash.specs.ByteStrings.{is_filled, trimmed}

abbrev Pieces : Type 0
Pieces = List (List ℕ)

-- ---- pieces

pieces_of_first_newline : (content : List ℕ) (position : ℕ) → position < length content → slice_index content position ≡ 10
    → ((k : ℕ) → k < position → slice_index content k ≢ 10)
    → pieces_of content ≡ take position content ∷ pieces_of (drop (suc position) content)
pieces_of_first_newline [] position below is before = absurd (omega arith)
pieces_of_first_newline (byte ∷ rest) zero below is before = cond-true _ _ _ (eq-eqb byte 10 is)
pieces_of_first_newline (byte ∷ rest) (suc position) below is before =
    let other : byte ≢ 10 = before 0 (omega arith) in
    cond-false _ _ _ (ne_eqb byte 10 other) ∙ ap (onto_first byte)
    (pieces_of_first_newline rest position (omega arith) is (λ k under. before (suc k) (omega arith)))

pieces_of_no_newline : (content : List ℕ) → ((k : ℕ) → k < length content → slice_index content k ≢ 10) → pieces_of content ≡ content ∷ []
pieces_of_no_newline [] none = refl
pieces_of_no_newline (byte ∷ rest) none =
    let other : byte ≢ 10 = none 0 (omega arith) in
    cond-false _ _ _ (ne_eqb byte 10 other) ∙ ap (onto_first byte) (pieces_of_no_newline rest (λ k under. none (suc k) (omega arith)))

pub pieces_of_split : (content piece rest : List ℕ) (position : ℕ) → IsFirstByte (is_byte 10) content (Some position) → piece ≡ take position content
    → rest ≡ drop (position + 1) content → pieces_of content ≡ piece ∷ pieces_of rest
pieces_of_split content piece rest position (none, here) first after =
    pieces_of_first_newline content position none.high (eqb-true (slice_index content position) 10 here)
    (λ k below is. none.before k (omega arith) below (eq-eqb (slice_index content k) 10 is))
    ∙ ap (λ (p : List ℕ). p ∷ pieces_of (drop (suc position) content)) (sym first)
    ∙ ap (λ (r : List ℕ). piece ∷ pieces_of r) (ap (λ (n : ℕ). drop n content) (let is : suc position ≡ position + 1 = omega arith in is) ∙ sym after)

pub split_rest_len_lt : (content rest : List ℕ) (position : ℕ) → IsFirstByte (is_byte 10) content (Some position) → rest ≡ drop (position + 1) content
    → length rest < length content
split_rest_len_lt content rest position (none, here) is =
    let below : position < length content = none.high in
    let remaining : length rest ≡ length content - (position + 1) = ap length is ∙ length-drop (position + 1) content in
    omega arith

pub pieces_of_newline_free : (content : List ℕ) → IsFirstByte (is_byte 10) content None → pieces_of content ≡ content ∷ []
pieces_of_newline_free content none = pieces_of_no_newline content (λ k below is. none k (omega arith) below (eq-eqb (slice_index content k) 10 is))

prepended_pieces_ne_nil : (b : Bool) (byte : ℕ) (pieces : Pieces) → cond b ([] ∷ pieces) (onto_first byte pieces) ≢ []
prepended_pieces_ne_nil true byte pieces = λ is. cc is
prepended_pieces_ne_nil false byte [] = λ is. cc is
prepended_pieces_ne_nil false byte (piece ∷ pieces) = λ is. cc is

pieces_of_ne_nil : (content : List ℕ) → pieces_of content ≢ []
pieces_of_ne_nil [] = λ is. cc is
pieces_of_ne_nil (byte ∷ rest) = prepended_pieces_ne_nil (byte == 10) byte (pieces_of rest)

-- ---- trailing white space

abbrev dropped : List ℕ → List ℕ
dropped bytes = reverse (drop (prefix_len is_ascii_whitespace bytes) bytes)

pub without_trailing_space : (bytes prefix : List ℕ) (byte : ℕ) → bytes ≡ prefix ++ byte ∷ [] → is_ascii_whitespace byte ≡ true
    → without_trailing bytes ≡ without_trailing prefix
without_trailing_space bytes prefix byte joined is = ap dropped (ap reverse joined ∙ reverse-append prefix (byte ∷ []))
    ∙ ap reverse (drop_prefix_len_cons is_ascii_whitespace byte (reverse prefix) true is)

pub without_trailing_of_other : (bytes prefix : List ℕ) (byte : ℕ) → bytes ≡ prefix ++ byte ∷ [] → is_ascii_whitespace byte ≡ false
    → without_trailing bytes ≡ bytes
without_trailing_of_other bytes prefix byte joined is =
    ap dropped (ap reverse joined ∙ reverse-append prefix (byte ∷ []))
    ∙ ap reverse (drop_prefix_len_cons is_ascii_whitespace byte (reverse prefix) false is)
    ∙ ap reverse (sym (reverse-append prefix (byte ∷ []))) ∙ reverse-reverse (prefix ++ byte ∷ []) ∙ sym joined

pub without_trailing_nil : (bytes : List ℕ) → length bytes ≡ 0 → without_trailing bytes ≡ bytes
without_trailing_nil [] is = refl
without_trailing_nil (byte ∷ bytes) is = absurd (omega arith)

-- ---- the end trimmed

take_len_take : (n : ℕ) (bytes : List ℕ) → take (length (take n bytes)) bytes ≡ take n bytes
take_len_take zero bytes = refl
take_len_take (suc n) [] = refl
take_len_take (suc n) (byte ∷ bytes) = ap (λ (bs : List ℕ). byte ∷ bs) (take_len_take n bytes)

pub take_trimmed_len : (bytes trimmed : List ℕ) → trimmed ≡ trim_end_by is_whitespace bytes → take (length trimmed) bytes ≡ trim_end_by is_whitespace bytes
take_trimmed_len bytes trimmed is = ap (λ (t : List ℕ). take (length t) bytes) is ∙ take_len_take _ bytes

-- ---- the summary

abbrev spaced : Pieces → List ℕ
spaced pieces = flat_map (λ (it : List ℕ). (32 ∷ []) ++ it) pieces

abbrev trim : List ℕ → List ℕ
trim bytes = trim_end_by is_whitespace bytes

cond_congruent : (b : Bool) (x y z w : List ℕ) → x ≡ y → z ≡ w → cond b x z ≡ cond b y w
cond_congruent true x y z w one two = one
cond_congruent false x y z w one two = two

summary_of_rest_cons : (out piece : List ℕ) (pieces : Pieces) → summary_of_rest out (piece ∷ pieces)
    ≡ cond (list_all is_filled (piece ∷ pieces)) (out ++ spaced (without_trailing_but_last (piece ∷ pieces)))
    (trim (out ++ spaced (map without_trailing (take_while is_filled (piece ∷ pieces)))))
summary_of_rest_cons out [] [] = ap trim (sym (append-nil out))
summary_of_rest_cons out [] (next ∷ pieces) = ap trim (sym (append-nil out))
summary_of_rest_cons out (byte ∷ piece) [] = ap (λ (bytes : List ℕ). out ++ bytes) (sym (append-nil (32 ∷ byte ∷ piece)))
summary_of_rest_cons out (byte ∷ piece) (next ∷ pieces) =
    let trimmed_piece : List ℕ = 32 ∷ without_trailing (byte ∷ piece) in
    summary_of_rest_cons (out ++ trimmed_piece) next pieces
    ∙ cond_congruent (list_all is_filled (next ∷ pieces)) _ _ _ _
    (append_assoc out trimmed_piece (spaced (without_trailing_but_last (next ∷ pieces))))
    (ap trim (append_assoc out trimmed_piece (spaced (map without_trailing (take_while is_filled (next ∷ pieces)))))
    ∙ ap (λ (ps : Pieces). trim (out ++ spaced (map without_trailing ps)))
    (sym (take_while-cons is_filled (byte ∷ piece) (next ∷ pieces))))

summary_of_pieces_cons : (first : List ℕ) (pieces : Pieces) → pieces ≢ [] → summary_of_rest (without_trailing first) pieces ≡ summary_of_pieces (first ∷ pieces)
summary_of_pieces_cons first [] some = absurd (some refl)
summary_of_pieces_cons first (piece ∷ pieces) some = summary_of_rest_cons (without_trailing first) piece pieces

pub summary_of_first_piece : (first rest : List ℕ) → summary_of_rest (without_trailing first) (pieces_of rest) ≡ summary_of_pieces (first ∷ pieces_of rest)
summary_of_first_piece first rest = summary_of_pieces_cons first (pieces_of rest) (pieces_of_ne_nil rest)

summary_of_rest_filled_cons : (out : List ℕ) (piece : List ℕ) (pieces : Pieces) → pieces ≢ [] → is_filled piece ≡ true
    → summary_of_rest out (piece ∷ pieces) ≡ summary_of_rest (out ++ 32 ∷ without_trailing piece) pieces
summary_of_rest_filled_cons out piece [] some is = absurd (some refl)
summary_of_rest_filled_cons out piece (next ∷ pieces) some is =
    ap (λ (b : Bool). cond b (summary_of_rest (out ++ 32 ∷ without_trailing piece) (next ∷ pieces)) (trim out)) is

is_filled_of_len : (piece : List ℕ) (b : Bool) → b ≡ false → b ≡ (length piece == 0) → is_filled piece ≡ true
is_filled_of_len [] b not is = cc (not, is)
is_filled_of_len (byte ∷ piece) b not is = refl

nil_of_len_test : (piece : List ℕ) (b : Bool) → b ≡ true → b ≡ (length piece == 0) → piece ≡ []
nil_of_len_test [] b so is = refl
nil_of_len_test (byte ∷ piece) b so is = let zero_is : length (byte ∷ piece) ≡ 0 = eqb-true (length (byte ∷ piece)) 0 (sym is ∙ so) in absurd (omega arith)

pub summary_of_next_piece : (out content piece rest : List ℕ) (b : Bool) → pieces_of content ≡ piece ∷ pieces_of rest → b ≡ false → b ≡ (length piece == 0)
    → summary_of_rest (out ++ 32 ∷ without_trailing piece) (pieces_of rest) ≡ summary_of_rest out (pieces_of content)
summary_of_next_piece out content piece rest b is not test =
    sym (ap (summary_of_rest out) is ∙ summary_of_rest_filled_cons out piece (pieces_of rest) (pieces_of_ne_nil rest)
    (is_filled_of_len piece b not test))

summary_of_rest_empty_cons : (out : List ℕ) (pieces : Pieces) → summary_of_rest out ([] ∷ pieces) ≡ trim out
summary_of_rest_empty_cons out [] = refl
summary_of_rest_empty_cons out (next ∷ pieces) = refl

pub summary_at_empty_piece : (out content piece rest : List ℕ) (b : Bool) → pieces_of content ≡ piece ∷ pieces_of rest → b ≡ true → b ≡ (length piece == 0)
    → trim_end_by is_whitespace out ≡ summary_of_rest out (pieces_of content)
summary_at_empty_piece out content piece rest b is so test =
    sym (ap (summary_of_rest out) (is ∙ ap (λ (p : List ℕ). p ∷ pieces_of rest) (nil_of_len_test piece b so test))
    ∙ summary_of_rest_empty_cons out (pieces_of rest))

pub summary_of_last_piece : (out content : List ℕ) (b : Bool) → pieces_of content ≡ content ∷ [] → b ≡ false → b ≡ (length content == 0)
    → out ++ 32 ∷ content ≡ summary_of_rest out (pieces_of content)
summary_of_last_piece out content b is not test =
    sym (ap (summary_of_rest out) is ∙ ap (λ (c : Bool). cond c (out ++ 32 ∷ content) (trim out)) (is_filled_of_len content b not test))

pub summary_of_empty_last_piece : (out content : List ℕ) (b : Bool) → pieces_of content ≡ content ∷ [] → b ≡ true → b ≡ (length content == 0)
    → trim_end_by is_whitespace out ≡ summary_of_rest out (pieces_of content)
summary_of_empty_last_piece out content b is so test = sym (ap (summary_of_rest out) (is ∙ ap (λ (p : List ℕ). p ∷ []) (nil_of_len_test content b so test))
    ∙ summary_of_rest_empty_cons out [])

pub summary_of_one_piece : (content inner : List ℕ) → inner ≡ trimmed content → pieces_of inner ≡ inner ∷ [] → inner ≡ summary_of content
summary_of_one_piece content inner is one = sym (ap (λ (t : List ℕ). summary_of_pieces (pieces_of t)) (sym is) ∙ ap summary_of_pieces one ∙ append-nil inner)

pub is_of_lines_false : (content inner : List ℕ) → inner ≡ trimmed content → pieces_of inner ≡ inner ∷ [] → is_multiline content ≡ false
is_of_lines_false content inner is one = ap (λ (t : List ℕ). has_more (pieces_of t)) (sym is) ∙ ap has_more one

has_more_cons : (piece : List ℕ) (pieces : Pieces) → pieces ≢ [] → has_more (piece ∷ pieces) ≡ true
has_more_cons piece [] some = absurd (some refl)
has_more_cons piece (next ∷ pieces) some = refl

pub is_of_lines_true : (content inner piece rest : List ℕ) → inner ≡ trimmed content → pieces_of inner ≡ piece ∷ pieces_of rest → is_multiline content ≡ true
is_of_lines_true content inner piece rest is more = ap (λ (t : List ℕ). has_more (pieces_of t)) (sym is) ∙ ap has_more more
    ∙ has_more_cons piece (pieces_of rest)
    (pieces_of_ne_nil rest)
