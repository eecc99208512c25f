-- Trailer lines and their values are decoded line by line; the functions of `trailer_lines` and `trailers` use these
-- lemmas.
use Rattle.std.proofs.Common.{◌++◌, ◌+◌, ◌<◌, ◌∙◌, ◌∷◌, ◌≡◌, ◌≢◌, ◌≤◌, Bool, List, None, Option, Some, [], ap, append-nil, append_assoc, arith, cond, false}
use Rattle.std.proofs.Common.{filter, length, length-append, map, refl, sym, true, ℕ}
use Rattle.std.proofs.lemmas.Bool.Decides.{nat_tests}
use Rattle.std.proofs.lemmas.List.Sums.{take_while-cons}
use Rattle.std.specs.Char.{is_ascii_whitespace}
use Rattle.std.specs.Prelude.{is_some, ◌&&◌, not}
use Rattle.std.specs.List.{flat_map, take_while}
use Rattle.bstr.specs.Owned.{joined}
use Rattle.bstr.specs.Text.{lines_of}
use Rattle.bstr.proofs.lemmas.LineLemmas.{lines-nil}
use Rattle.gixobj_text.specs.FirstLines.{HasLastLines, IsFirstLine}
use Rattle.gixobj_text.specs.BodyLines.{TrailerParts, begins_indented, is_blank, is_continuation_line, is_indented, is_token_byte, parts_of_line, trimmed_line}
use Rattle.gixobj_text.specs.BodyLines.{trailer_parts}
use Rattle.gixobj_text.specs.Trailers.{trailers_of, trailers_of_bytes, unfolded, with_trailer}
use Rattle.gixobj_hash.specs.ByteStrings.{is_filled, trimmed}
use Rattle.gixobj_text.proofs.LastLines.{last_lines_step}
use Rattle.gixobj_text.proofs.Tokens.{trailer_parts_none}
use Rattle.gixobj_text.specs.Unfolding.{IsNextTrailer, has_lines, first_is_folded, with_folded, with_piece, with_pieces}

abbrev Lines : Type 0
Lines = List (List ℕ)

-- ---- continuation lines aren't trailer lines

whitespace_is_no_token_byte : (byte : ℕ) → is_ascii_whitespace byte ≡ true → is_token_byte byte ≡ false
whitespace_is_no_token_byte byte is = grind (arith, nat_tests)

no_trailer_parts_of_indented : (bytes : List ℕ) → begins_indented bytes ≡ true → trailer_parts bytes ≡ None
no_trailer_parts_of_indented [] is = refl
no_trailer_parts_of_indented (byte ∷ rest) is = trailer_parts_none (byte ∷ rest) rest byte refl (whitespace_is_no_token_byte byte is)

right_of_not_and : (a b : Bool) → (not a && b) ≡ true → b ≡ true
right_of_not_and true b is = cc is
right_of_not_and false b is = is

pub parts_of_continuation_line : (line : List ℕ) → is_continuation_line line ≡ true → parts_of_line line ≡ None
parts_of_continuation_line line is = no_trailer_parts_of_indented (trimmed_line line) (right_of_not_and (is_blank line) (is_indented line) is)

-- ---- skipping a line that isn't a trailer line

pub trailers_of_bytes_skip : (bytes line rest : List ℕ) → IsFirstLine bytes line rest → parts_of_line line ≡ None
    → trailers_of_bytes bytes ≡ trailers_of_bytes rest
trailers_of_bytes_skip bytes line rest first none =
    ap trailers_of first.lines
    ∙ ap (λ (parts : Option TrailerParts). with_trailer parts (take_while is_continuation_line (lines_of rest)) (trailers_of_bytes rest)) none

pub first_is_folded_skip : (bytes line rest : List ℕ) → IsFirstLine bytes line rest → parts_of_line line ≡ None
    → first_is_folded (lines_of bytes) ≡ first_is_folded
    (lines_of rest)
first_is_folded_skip bytes line rest first none =
    ap first_is_folded first.lines ∙ ap (λ (parts : Option TrailerParts). cond (is_some parts) (has_lines (take_while is_continuation_line (lines_of rest)))
    (first_is_folded (lines_of rest))) none

pub rest_len_lt : (bytes line rest : List ℕ) → IsFirstLine bytes line rest → length rest < length bytes
rest_len_lt bytes line rest first = by_line bytes line rest first.joined first.some
  where
    by_line : (bytes line rest : List ℕ) → bytes ≡ line ++ rest → line ≢ [] → length rest < length bytes
    by_line bytes [] rest joined some = absurd (some refl)
    by_line bytes (byte ∷ line) rest joined some =
        let is : length bytes ≡ length (byte ∷ line) + length rest = ap length joined ∙ length-append (byte ∷ line) rest in omega arith

pub is_next_trailer_at_line : (entire bytes line rest token first : List ℕ) → trailers_of_bytes bytes ≡ trailers_of_bytes entire
    → first_is_folded (lines_of bytes) ≡ first_is_folded (lines_of entire) → length bytes ≤ length entire → HasLastLines entire bytes
    → IsFirstLine bytes line rest → Some (token, first) ≡ parts_of_line line → IsNextTrailer entire token first rest
is_next_trailer_at_line entire bytes line rest token first trailers folded bound last one is =
    let less : length rest < length bytes = rest_len_lt bytes line rest one in
    record {
      trailers = sym trailers ∙ ap trailers_of one.lines
          ∙ ap (λ (parts : Option TrailerParts). with_trailer parts (take_while is_continuation_line (lines_of rest)) (trailers_of_bytes rest)) (sym is);
      folded = sym folded ∙ ap first_is_folded one.lines
          ∙ ap (λ (parts : Option TrailerParts). cond (is_some parts) (has_lines (take_while is_continuation_line (lines_of rest)))
          (first_is_folded (lines_of rest)))
          (sym is);
      shorter = omega arith;
      last_lines = last_lines_step entire bytes line rest last one;
    }

pub trailers_of_bytes_nil : (bytes : List ℕ) → bytes ≡ [] → trailers_of_bytes bytes ≡ []
trailers_of_bytes_nil bytes none = ap trailers_of (ap lines_of none ∙ lines-nil)

-- ---- the lines of a value

pub no_continuation_lines_at_end : (bytes : List ℕ) → bytes ≡ [] → take_while is_continuation_line (lines_of bytes) ≡ []
no_continuation_lines_at_end bytes none = ap (take_while is_continuation_line) (ap lines_of none ∙ lines-nil)

pub take_while_folded_cons : (b : Bool) (line : List ℕ) (lines : Lines) → is_continuation_line line ≡ b
    → take_while is_continuation_line (line ∷ lines) ≡ cond b
    (line ∷ take_while is_continuation_line lines) []
take_while_folded_cons b line lines is = take_while-cons is_continuation_line line lines
    ∙ ap (λ (c : Bool). cond c (line ∷ take_while is_continuation_line lines) []) is

pub with_folded_cons : (items bytes line rest : List ℕ) → IsFirstLine bytes line rest → is_continuation_line line ≡ true
    → with_folded items (lines_of bytes) ≡ with_folded
    (with_piece items (trimmed (trimmed_line line))) (lines_of rest)
with_folded_cons items bytes line rest first is =
    ap (λ (ls : Lines). with_pieces items (map trimmed (map trimmed_line ls)))
    (ap (take_while is_continuation_line) first.lines ∙ take_while_folded_cons true line (lines_of rest) is)

pub with_folded_at_unfolded : (items bytes line rest : List ℕ) → IsFirstLine bytes line rest → is_continuation_line line ≡ false
    → with_folded items (lines_of bytes) ≡ items
with_folded_at_unfolded items bytes line rest first is =
    ap (λ (ls : Lines). with_pieces items (map trimmed (map trimmed_line ls)))
    (ap (take_while is_continuation_line) first.lines ∙ take_while_folded_cons false line (lines_of rest) is)

pub with_folded_at_end : (items bytes : List ℕ) → bytes ≡ [] → with_folded items (lines_of bytes) ≡ items
with_folded_at_end items bytes none = ap (λ (ls : Lines). with_pieces items (map trimmed (map trimmed_line ls))) (no_continuation_lines_at_end bytes none)

-- ---- the unfolded value

abbrev spaced : Lines → List ℕ
spaced pieces = flat_map (λ (it : List ℕ). (32 ∷ []) ++ it) pieces

with_pieces_of_filled_items : (byte : ℕ) (items : List ℕ) (pieces : Lines)
    → with_pieces (byte ∷ items) pieces ≡ (byte ∷ items) ++ spaced (filter is_filled pieces)
with_pieces_of_filled_items byte items [] = sym (append-nil (byte ∷ items))
with_pieces_of_filled_items byte items ([] ∷ pieces) = with_pieces_of_filled_items byte items pieces
with_pieces_of_filled_items byte items ((one ∷ piece) ∷ pieces) =
    with_pieces_of_filled_items byte (items ++ 32 ∷ one ∷ piece) pieces ∙ append_assoc (byte ∷ items) (32 ∷ one ∷ piece) (spaced (filter is_filled pieces))

with_pieces_nil_is_joined : (pieces : Lines) → with_pieces [] pieces ≡ joined (32 ∷ []) (filter is_filled pieces)
with_pieces_nil_is_joined [] = refl
with_pieces_nil_is_joined ([] ∷ pieces) = with_pieces_nil_is_joined pieces
with_pieces_nil_is_joined ((byte ∷ piece) ∷ pieces) = with_pieces_of_filled_items byte piece pieces

with_pieces_eq_unfolded : (first : List ℕ) (lines : Lines) → has_lines lines ≡ true → with_pieces (with_piece [] (trimmed first))
    (map trimmed (map trimmed_line lines))
    ≡ unfolded first (map trimmed_line lines)
with_pieces_eq_unfolded first [] some = cc some
with_pieces_eq_unfolded first (line ∷ lines) some = with_pieces_nil_is_joined (map trimmed (first ∷ map trimmed_line (line ∷ lines)))

pub with_folded_eq_unfolded : (first : List ℕ) (lines : Lines) → has_lines (take_while is_continuation_line lines) ≡ true
    → with_folded (with_piece [] (trimmed first)) lines ≡ unfolded first (map trimmed_line (take_while is_continuation_line lines))
with_folded_eq_unfolded first lines some = with_pieces_eq_unfolded first (take_while is_continuation_line lines) some

-- the value of one line
unfolded_of_no_lines : (first : List ℕ) (lines : Lines) → has_lines lines ≡ false → unfolded first (map trimmed_line lines) ≡ trimmed first
unfolded_of_no_lines first [] none = refl
unfolded_of_no_lines first (line ∷ lines) none = cc none

pub unfolded_eq_trimmed : (first : List ℕ) (lines : Lines) → has_lines (take_while is_continuation_line lines) ≡ false
    → unfolded first (map trimmed_line (take_while is_continuation_line lines)) ≡ trimmed first
unfolded_eq_trimmed first lines none = unfolded_of_no_lines first (take_while is_continuation_line lines) none
