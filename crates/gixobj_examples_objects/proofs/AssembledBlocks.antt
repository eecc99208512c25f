-- The lines of an assembled message are its trailer block; the laws of `laws` use it.
use Rattle.std.proofs.Common.{◌≡◌, ◌≢◌, ◌<◌, ◌↔◌, ◌∙◌, ◌+◌, ◌||◌, ◌++◌, ◌∷◌, ℕ, [], Bool, List, Option, Some, ap, append-nil, arith, cond, false, inl, inr}
use Rattle.std.proofs.Common.{length, map, refl, slice_index, subst, suc, sym, true, zero, None}
use Rattle.std.proofs.lemmas.Bool.Decides.{nat_tests}
use Rattle.std.proofs.lemmas.List.Elements.{All-cons, All-head, All-nil, All-tail}
use Rattle.std.proofs.lemmas.List.Sums.{sum_by-cons, take_while-cons}
use Rattle.std.specs.Char.{is_ascii_whitespace}
use Rattle.std.specs.List.{AllPass, list_all, take_while}
use Rattle.std.specs.Prelude.{◌&&◌, ◌-◌, All, IsFalse, IsTrue, is_some, not}
use Rattle.bstr.specs.Text.{lines_of}
use Rattle.bstr.proofs.lemmas.LineLemmas.{lines-append, lines-nil, lines-one}
use Rattle.gix_object.specs.BodyLines.{DecodesToTrailer, TrailerParts, begins_indented, is_blank, is_continuation_line, is_gap_byte, is_git_generated}
use Rattle.gix_object.specs.BodyLines.{is_indented, is_token_byte, is_trailer_line, parts_of_line, trailer_parts, trimmed_line, without_last_byte}
use Rattle.gix_object.specs.ByteStrings.{IsByteFree}
use Rattle.gix_object.specs.MessageTrailers.{HasTrailers}
use Rattle.gix_object.specs.TrailerBlocks.{HasBlock, count_others, counts_as_trailer, trailer_count}
use Rattle.gix_object.specs.Trailers.{TrailerView, trailers_of, with_trailer}
use Rattle.gixobj_examples_objects.proofs.AssembledTitles.{title_of_assembled}
use Rattle.gixobj_examples_objects.proofs.CarriageReturns.{without_last_same}
use Rattle.gixobj_examples_objects.specs.Assembled.{IsLineTrailer, IsTitleLine, assembled_message, trailer_content, trailer_line, trailer_lines}

-- ---- the content of a trailer's line

pub without_last_append : (byte y : ℕ) (xs ys : List ℕ) → without_last_byte byte (xs ++ y ∷ ys) ≡ xs ++ without_last_byte byte (y ∷ ys)
without_last_append byte y [] ys = refl
without_last_append byte y (x ∷ []) ys = refl
without_last_append byte y (x ∷ z ∷ xs) ys = ap (λ (l : List ℕ). x ∷ l) (without_last_append byte y (z ∷ xs) ys)

-- after a space, a value without a final carriage return has none
no_return_after_space : (value : List ℕ) → without_last_byte 13 value ≡ value → without_last_byte 13 (58 ∷ 32 ∷ value) ≡ 58 ∷ 32 ∷ value
no_return_after_space [] no_return = refl
no_return_after_space (x ∷ value) no_return = ap (λ (l : List ℕ). 58 ∷ 32 ∷ l) no_return

trimmed_trailer_line : (trailer : TrailerView) → IsLineTrailer trailer → trimmed_line (trailer_line trailer) ≡ trailer_content trailer
trimmed_trailer_line trailer is =
    ap (λ (l : List ℕ). without_last_byte 13 l) (without_last_same 10 (trailer_content trailer))
    ∙ without_last_append 13 58 trailer.token (32 ∷ trailer.value)
    ∙ ap (λ (l : List ℕ). trailer.token ++ l) (no_return_after_space trailer.value is.no_return)

-- ---- the kind of a trailer's line

token_byte_is_no_whitespace : (byte : ℕ) → is_token_byte byte ≡ true → is_ascii_whitespace byte ≡ false
token_byte_is_no_whitespace byte is = grind (arith, nat_tests)

not_blank_of_token : (token rest : List ℕ) → token ≢ [] → AllPass is_token_byte token → list_all is_ascii_whitespace (token ++ rest) ≡ false
not_blank_of_token [] rest some of_token = absurd (some refl)
not_blank_of_token (byte ∷ token) rest some of_token =
    ap (λ (b : Bool). b && list_all is_ascii_whitespace (token ++ rest))
    (token_byte_is_no_whitespace byte (All-head (λ it. is_token_byte it ≡ true) byte token of_token))

begins_with_token : (token rest : List ℕ) → token ≢ [] → AllPass is_token_byte token → (byte : ℕ) × (more : List ℕ) × (token ++ rest ≡ byte ∷ more)
    × (is_ascii_whitespace byte ≡ false)
begins_with_token [] rest some of_token = absurd (some refl)
begins_with_token (byte ∷ token) rest some of_token =
    (byte, token ++ rest, refl, token_byte_is_no_whitespace byte (All-head (λ it. is_token_byte it ≡ true) byte token of_token))

-- the law that a trailer line decodes to its parts
abbrev pub TrailerLineDecodes : Type 0
TrailerLineDecodes = (content token value : List ℕ) → DecodesToTrailer content token value ↔ (trailer_parts content ≡ Some (token, value))

-- what counts of a line of a block: it is a trailer line of these parts, and isn't blank and not indented
record IsLineOf (trailer : TrailerView) (line : List ℕ) : Type 0 where
  parts : parts_of_line line ≡ Some (trailer.token, 32 ∷ trailer.value)
  blank : is_blank line ≡ false
  indented : is_indented line ≡ false

line_of_trailer : TrailerLineDecodes → (trailer : TrailerView) → IsLineTrailer trailer → IsLineOf trailer (trailer_line trailer)
line_of_trailer decodes trailer is =
    let content = trimmed_trailer_line trailer is in
    let (byte, more, begins, other) = begins_with_token trailer.token (58 ∷ 32 ∷ trailer.value) is.some is.of_token in
    record {
      parts = ap trailer_parts content ∙ (decodes (trailer_content trailer) trailer.token (32 ∷ trailer.value)).0 (record {
        gap = [];
        joined = ap (λ (l : List ℕ). l ++ 58 ∷ 32 ∷ trailer.value) (sym (append-nil trailer.token));
        some = is.some;
        of_token = is.of_token;
        of_gap = All-nil (λ it. is_gap_byte it ≡ true);
      });
      blank = ap (λ (l : List ℕ). list_all is_ascii_whitespace l) content
          ∙ not_blank_of_token trailer.token (58 ∷ 32 ∷ trailer.value) is.some is.of_token;
      indented = ap begins_indented (content ∙ begins) ∙ other;
    }

is_trailer_of_line : (trailer : TrailerView) (line : List ℕ) → IsLineOf trailer line → is_trailer_line line ≡ true
is_trailer_of_line trailer line is = ap (λ (parts : Option TrailerParts). is_some parts) is.parts

counts_of_line : (trailer : TrailerView) (line : List ℕ) → IsLineOf trailer line → counts_as_trailer line ≡ true
counts_of_line trailer line is = ap (λ (b : Bool). is_git_generated line || b) (is_trailer_of_line trailer line is) ∙ or_true (is_git_generated line)
  where
    or_true : (b : Bool) → (b || true) ≡ true
    or_true true = refl
    or_true false = refl

no_continuation_of_line : (trailer : TrailerView) (line : List ℕ) → IsLineOf trailer line → is_continuation_line line ≡ false
no_continuation_of_line trailer line is = ap (λ (b : Bool). not (is_blank line) && b) is.indented ∙ and_false (not (is_blank line))
  where
    and_false : (b : Bool) → (b && false) ≡ false
    and_false true = refl
    and_false false = refl

-- ---- the lines of a block

-- the bytes before the newline of a line have none
pub ends_line : (content : List ℕ) → slice_index (content ++ 10 ∷ []) (length (content ++ 10 ∷ []) - 1) ≡ 10
ends_line [] = refl
ends_line (x ∷ []) = refl
ends_line (x ∷ y ∷ content) =
    let one : length (x ∷ y ∷ content ++ 10 ∷ []) - 1 ≡ suc (length (y ∷ content ++ 10 ∷ []) - 1) = omega arith in
    ap (λ (k : ℕ). slice_index (x ∷ y ∷ content ++ 10 ∷ []) k) one ∙ ends_line (y ∷ content)

no_newline_inside : (content : List ℕ) → IsByteFree 10 content → (k : ℕ) → k + 1 < length (content ++ 10 ∷ []) → slice_index (content ++ 10 ∷ []) k ≢ 10
no_newline_inside [] free k low = absurd (omega (arith, low))
no_newline_inside (x ∷ content) free zero low = All-head (λ (it : ℕ). it ≢ 10) x content free
no_newline_inside (x ∷ content) free (suc k) low = no_newline_inside content (All-tail (λ (it : ℕ). it ≢ 10) x content free) k (omega (arith, low))

line_not_empty : (content : List ℕ) → 0 < length (content ++ 10 ∷ [])
line_not_empty [] = omega arith
line_not_empty (x ∷ content) = omega arith

pub lines_of_line_append : (content rest : List ℕ) → IsByteFree 10 content → lines_of ((content ++ 10 ∷ []) ++ rest) ≡ (content ++ 10 ∷ []) ∷ lines_of rest
lines_of_line_append content rest free =
    let line = content ++ 10 ∷ [] in
    lines-append (length line) line rest (omega arith) (inr (ends_line content))
    ∙ ap (λ (ls : List (List ℕ)). ls ++ lines_of rest) (lines-one line (line_not_empty content) (no_newline_inside content free))

free_append : (xs ys : List ℕ) → IsByteFree 10 xs → IsByteFree 10 ys → IsByteFree 10 (xs ++ ys)
free_append [] ys free others = others
free_append (x ∷ xs) ys free others = All-cons (λ (it : ℕ). it ≢ 10) x (xs ++ ys) (All-head (λ (it : ℕ). it ≢ 10) x xs free)
    (free_append xs ys (All-tail (λ (it : ℕ). it ≢ 10) x xs free) others)

free_of_token : (token : List ℕ) → AllPass is_token_byte token → IsByteFree 10 token
free_of_token [] of_token = All-nil (λ (it : ℕ). it ≢ 10)
free_of_token (byte ∷ token) of_token = All-cons (λ (it : ℕ). it ≢ 10) byte token
    (λ is. cc (sym (All-head (λ it. is_token_byte it ≡ true) byte token of_token) ∙ ap is_token_byte is))
    (free_of_token token (All-tail (λ it. is_token_byte it ≡ true) byte token of_token))

free_content : (trailer : TrailerView) → IsLineTrailer trailer → IsByteFree 10 (trailer_content trailer)
free_content trailer is = free_append trailer.token (58 ∷ 32 ∷ trailer.value) (free_of_token trailer.token is.of_token)
    (All-cons (λ (it : ℕ). it ≢ 10) 58 (32 ∷ trailer.value) (λ same. cc same)
    (All-cons (λ (it : ℕ). it ≢ 10) 32 trailer.value (λ same. cc same) is.one_line))

pub lines_of_trailers : (trailers : List TrailerView) → All IsLineTrailer trailers → lines_of (trailer_lines trailers) ≡ map trailer_line trailers
lines_of_trailers [] all = lines-nil
lines_of_trailers (trailer ∷ trailers) all =
    lines_of_line_append (trailer_content trailer) (trailer_lines trailers) (free_content trailer (All-head IsLineTrailer trailer trailers all))
    ∙ ap (λ (ls : List (List ℕ)). trailer_line trailer ∷ ls) (lines_of_trailers trailers (All-tail IsLineTrailer trailer trailers all))

-- ---- the block

pub no_others : TrailerLineDecodes → (above : Bool) (trailers : List TrailerView) → All IsLineTrailer trailers
    → count_others above (map trailer_line trailers) ≡ 0
no_others decodes above [] all = refl
no_others decodes above (trailer ∷ trailers) all =
    let is = line_of_trailer decodes trailer (All-head IsLineTrailer trailer trailers all) in
    ap (λ (b : Bool). cond b (count_others true (map trailer_line trailers))
    (cond (is_indented (trailer_line trailer)) ((cond above 0 1) + count_others above (map trailer_line trailers))
    (1 + count_others false (map trailer_line trailers)))) (counts_of_line trailer (trailer_line trailer) is)
    ∙ no_others decodes true trailers (All-tail IsLineTrailer trailer trailers all)

pub some_trailers : TrailerLineDecodes → (trailers : List TrailerView) → trailers ≢ [] → All IsLineTrailer trailers
    → 0 < trailer_count (map trailer_line trailers)
some_trailers decodes [] some all = absurd (some refl)
some_trailers decodes (trailer ∷ trailers) some all =
    let is = line_of_trailer decodes trailer (All-head IsLineTrailer trailer trailers all) in
    let count : trailer_count (map trailer_line (trailer ∷ trailers)) ≡ 1 + trailer_count (map trailer_line trailers) =
    sum_by-cons (λ (line : List ℕ). cond (counts_as_trailer line) 1 0) (trailer_line trailer) (map trailer_line trailers)
    ∙ ap (λ (b : Bool). cond b 1 0 + trailer_count (map trailer_line trailers)) (counts_of_line trailer (trailer_line trailer) is) in
    subst (λ (n : ℕ). 0 < n) (sym count) (positive (trailer_count (map trailer_line trailers)))
  where
    positive : (n : ℕ) → 0 < 1 + n
    positive n = omega arith

pub none_blank : TrailerLineDecodes → (trailers : List TrailerView) → All IsLineTrailer trailers
    → All (λ line. IsFalse (is_blank line)) (map trailer_line trailers)
none_blank decodes [] all = All-nil (λ (line : List ℕ). IsFalse (is_blank line))
none_blank decodes (trailer ∷ trailers) all = All-cons (λ (line : List ℕ). IsFalse (is_blank line)) (trailer_line trailer) (map trailer_line trailers)
    (line_of_trailer decodes trailer (All-head IsLineTrailer trailer trailers all)).blank
    (none_blank decodes trailers (All-tail IsLineTrailer trailer trailers all))

pub map_not_nil : (trailers : List TrailerView) → trailers ≢ [] → map trailer_line trailers ≢ []
map_not_nil [] some none = some refl
map_not_nil (trailer ∷ trailers) some none = cc none

block_of_trailers : TrailerLineDecodes → (trailers : List TrailerView) → trailers ≢ [] → All IsLineTrailer trailers
    → HasBlock (lines_of (trailer_lines trailers)) 0
block_of_trailers decodes trailers some all = record {
  before = [];
  run = map trailer_line trailers;
  after = [];
  last = record {
    joined = lines_of_trailers trailers all ∙ sym (append-nil (map trailer_line trailers));
    some = map_not_nil trailers some;
    none_blank = none_blank decodes trailers all;
    all_blank = All-nil (λ (line : List ℕ). IsTrue (is_blank line));
    ends = inl refl;
  };
  block = inl (some_trailers decodes trailers some all, no_others decodes false trailers all);
  starts = inl (refl, refl);
}

-- ---- the trailers

no_continuation : TrailerLineDecodes → (trailers : List TrailerView) → All IsLineTrailer trailers
    → take_while is_continuation_line (map trailer_line trailers) ≡ []
no_continuation decodes [] all = refl
no_continuation decodes (trailer ∷ trailers) all =
    let is = line_of_trailer decodes trailer (All-head IsLineTrailer trailer trailers all) in
    take_while-cons is_continuation_line (trailer_line trailer) (map trailer_line trailers)
    ∙ ap (λ (b : Bool). cond b (trailer_line trailer ∷ take_while is_continuation_line (map trailer_line trailers)) [])
    (no_continuation_of_line trailer (trailer_line trailer) is)

pub trailers_of_lines : TrailerLineDecodes → (trailers : List TrailerView) → All IsLineTrailer trailers → trailers_of (map trailer_line trailers) ≡ trailers
trailers_of_lines decodes [] all = refl
trailers_of_lines decodes (trailer ∷ trailers) all =
    let its = All-head IsLineTrailer trailer trailers all in
    let others = All-tail IsLineTrailer trailer trailers all in
    let is = line_of_trailer decodes trailer its in
    ap (λ (parts : Option TrailerParts). with_trailer parts (take_while is_continuation_line (map trailer_line trailers))
    (trailers_of (map trailer_line trailers))) is.parts
    ∙ ap (λ (ls : List (List ℕ)). with_trailer (Some (trailer.token, 32 ∷ trailer.value)) ls (trailers_of (map trailer_line trailers)))
    (no_continuation decodes trailers others)
    ∙ ap (λ (v : List ℕ). record { token = trailer.token; value = v } ∷ trailers_of (map trailer_line trailers)) its.value
    ∙ ap (λ (ts : List TrailerView). trailer ∷ ts) (trailers_of_lines decodes trailers others)

pub trailers_of_assembled : TrailerLineDecodes → (title : List ℕ) (trailers : List TrailerView) → IsTitleLine title
    → All IsLineTrailer trailers → HasTrailers (assembled_message title trailers) trailers
trailers_of_assembled decodes title [] is all = (
  [],
  record { title = title; body = None; split = title_of_assembled title [] is; has = refl },
  sym (ap trailers_of lines-nil),
)
trailers_of_assembled decodes title (trailer ∷ trailers) is all =
    let lines = trailer_lines (trailer ∷ trailers) in (
      lines,
      record {
        title = title;
        body = Some lines;
        split = title_of_assembled title (trailer ∷ trailers) is;
        has = (0, inl (block_of_trailers decodes (trailer ∷ trailers) (λ none. cc none) all), refl);
      },
      sym (ap trailers_of (lines_of_trailers (trailer ∷ trailers) all) ∙ trailers_of_lines decodes (trailer ∷ trailers) all),
    )
