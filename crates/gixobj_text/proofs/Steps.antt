-- Steps over the lines of a body end at the first trailer, and then after the trailers of a message block;
-- `at_trailer`, `skip_trailers` and the iterator over blocks use these lemmas.
use Rattle.std.proofs.Common.{◌++◌, ◌+◌, ◌-◌, ◌<◌, ◌==◌, ◌∙◌, ◌∷◌, ◌≡◌, ◌≢◌, ◌≤◌, All, Bool, List, [], ap, append-nil, append_assoc, arith, drop, false, length}
use Rattle.std.proofs.Common.{length-append, length-drop, not, refl, subst, sym, take, take-append-drop, true, ℕ}
use Rattle.std.proofs.lemmas.List.Elements.{All-nil, All-tail}
use Rattle.std.proofs.lemmas.List.Folds.{concat-append}
use Rattle.std.specs.Prelude.{◌||◌}
use Rattle.std.specs.List.{concat}
use Rattle.bstr.specs.Text.{lines_of}
use Rattle.bstr.proofs.lemmas.LineLemmas.{lines-nil}
use Rattle.bstr.proofs.lemmas.RestLemmas.{concat-lines_of}
use Rattle.gixobj_text.proofs.SplitTitles.{title_is_prefix}
use Rattle.gixobj_text.specs.FirstLines.{IsFirstLine}
use Rattle.gixobj_text.specs.MessageBlocks.{AreTrailers, EndsTrailers, IsBlockOfLines, IsFirstMessageBlock}
use Rattle.gixobj_text.specs.BodyLines.{is_continuation_line, is_trailer_line}
use Rattle.gixobj_text.specs.LineSteps.{BeginsTrailer, ContinuesTrailer, IsAtTrailer, IsAfterTrailers, HasConsumedAll, NoTrailer}
use Rattle.gixobj_text.proofs.OneLine.{all_snoc}

abbrev Lines : Type 0
Lines = List (List ℕ)

pub has_consumed_all_refl : (P : List ℕ → Type 0) (content : List ℕ) → HasConsumedAll P content content
has_consumed_all_refl P content = record { consumed = []; joined = refl; lines = refl; all = All-nil P }

has_consumed_all_snoc : (P : List ℕ → Type 0) (entire content line rest : List ℕ) → HasConsumedAll P entire content → IsFirstLine content line rest → P line
    → HasConsumedAll P entire rest
has_consumed_all_snoc P entire content line rest it first is = record {
  consumed = it.consumed ++ line ∷ [];
  joined = it.joined ∙ ap (λ (bytes : List ℕ). concat it.consumed ++ bytes) first.joined ∙ sym (append_assoc (concat it.consumed) line rest)
      ∙ ap (λ (bytes : List ℕ). bytes ++ rest) (ap (λ (bytes : List ℕ). concat it.consumed ++ bytes) (sym (append-nil line))
      ∙ sym (concat-append it.consumed (line ∷ [])));
  lines = it.lines ∙ ap (λ (ls : Lines). it.consumed ++ ls) first.lines ∙ sym (append_assoc it.consumed (line ∷ []) (lines_of rest));
  all = all_snoc P it.consumed line it.all is;
}

pub has_consumed_non_trailer_step : (entire content line rest : List ℕ) → HasConsumedAll NoTrailer entire content → IsFirstLine content line rest
    → is_trailer_line line ≡ false
    → HasConsumedAll NoTrailer entire rest
has_consumed_non_trailer_step entire content line rest it first is = has_consumed_all_snoc NoTrailer entire content line rest it first is

pub has_consumed_trailer_step : (entire content line rest : List ℕ) → HasConsumedAll ContinuesTrailer entire content → IsFirstLine content line rest
    → (is_trailer_line line || is_continuation_line line) ≡ true → HasConsumedAll ContinuesTrailer entire rest
has_consumed_trailer_step entire content line rest it first is = has_consumed_all_snoc ContinuesTrailer entire content line rest it first is

lines_of_nil : (content : List ℕ) → content ≡ [] → lines_of content ≡ []
lines_of_nil content nothing = ap lines_of nothing ∙ lines-nil

pub is_at_trailer_at_end : (entire content : List ℕ) → HasConsumedAll NoTrailer entire content → content ≡ [] → IsAtTrailer entire content
is_at_trailer_at_end entire content it nothing = record { consumes = it; begins = subst BeginsTrailer (sym (lines_of_nil content nothing)) tt }

pub is_at_trailer_at_line : (entire content line rest : List ℕ) → HasConsumedAll NoTrailer entire content → IsFirstLine content line rest
    → is_trailer_line line ≡ true
    → IsAtTrailer entire content
is_at_trailer_at_line entire content line rest it first is = record { consumes = it; begins = subst BeginsTrailer (sym first.lines) is }

pub is_after_trailers_at_end : (entire content : List ℕ) → HasConsumedAll ContinuesTrailer entire content → content ≡ [] → IsAfterTrailers entire content
is_after_trailers_at_end entire content it nothing = record { consumes = it; ends = subst EndsTrailers (sym (lines_of_nil content nothing)) tt }

pub is_after_trailers_at_line : (entire content line rest : List ℕ) → HasConsumedAll ContinuesTrailer entire content → IsFirstLine content line rest
    → (is_trailer_line line || is_continuation_line line) ≡ false → IsAfterTrailers entire content
is_after_trailers_at_line entire content line rest it first is = record { consumes = it; ends = subst EndsTrailers (sym first.lines) is }

-- ---- a block

are_trailers_of_all_continue : (taken rest : Lines) → BeginsTrailer (taken ++ rest) → All ContinuesTrailer taken → AreTrailers taken
are_trailers_of_all_continue [] rest begins all = tt
are_trailers_of_all_continue (line ∷ taken) rest begins all = (begins, All-tail ContinuesTrailer line taken all)

nil_of_begins_and_ends : (rest : Lines) → BeginsTrailer rest → EndsTrailers rest → rest ≡ []
nil_of_begins_and_ends [] begins ends = refl
nil_of_begins_and_ends (line ∷ rest) begins ends = by_tests (is_trailer_line line) (is_continuation_line line) begins ends
  where
    by_tests : (a b : Bool) → a ≡ true → (a || b) ≡ false → line ∷ rest ≡ []
    by_tests true b is not = cc not
    by_tests false b is not = cc is

rest_nil_of_no_trailers : (taken rest : Lines) → BeginsTrailer (taken ++ rest) → EndsTrailers rest → taken ≡ [] → rest ≡ []
rest_nil_of_no_trailers [] rest begins ends is = nil_of_begins_and_ends rest begins ends
rest_nil_of_no_trailers (line ∷ taken) rest begins ends is = cc is

is_block_of_steps : (from trailers rest : List ℕ) (at : IsAtTrailer from trailers) (after : IsAfterTrailers trailers rest)
    → IsBlockOfLines (lines_of from) at.consumes.consumed after.consumes.consumed (lines_of rest)
is_block_of_steps from trailers rest at after =
    let begins : BeginsTrailer (after.consumes.consumed ++ lines_of rest) = subst BeginsTrailer after.consumes.lines at.begins in
    record {
      split = at.consumes.lines ∙ ap (λ (ls : Lines). at.consumes.consumed ++ ls) after.consumes.lines
          ∙ sym (append_assoc at.consumes.consumed after.consumes.consumed (lines_of rest));
      message = at.consumes.all;
      trailers = are_trailers_of_all_continue after.consumes.consumed (lines_of rest) begins after.consumes.all;
      none = rest_nil_of_no_trailers after.consumes.consumed (lines_of rest) begins after.ends;
      ends = after.ends;
    }

pub is_first_block_of_steps : (start : ℕ) (content from trailers rest message taken : List ℕ) → content ≢ [] → from ≡ drop start content
    → IsAtTrailer from trailers
    → IsAfterTrailers trailers rest
    → message ≡ take (length content - length trailers) content → taken ≡ take (length trailers - length rest) trailers
    → IsFirstMessageBlock start content (record { message = message; trailers = taken }) rest
is_first_block_of_steps start content from trailers rest message taken some is at after first second =
    let joined : content ≡ (take start content ++ concat at.consumes.consumed) ++ trailers =
    sym (take-append-drop start content) ∙ ap (λ (bytes : List ℕ). take start content ++ bytes) (sym is ∙ at.consumes.joined)
    ∙ sym (append_assoc (take start content) (concat at.consumes.consumed) trailers) in
    record {
      some = some;
      skipped = at.consumes.consumed;
      consumed = after.consumes.consumed;
      lines = subst (λ (bytes : List ℕ). IsBlockOfLines (lines_of bytes) at.consumes.consumed after.consumes.consumed (lines_of rest)) is
          (is_block_of_steps from trailers rest at after);
      message = first ∙ title_is_prefix (take start content ++ concat at.consumes.consumed) trailers content joined;
      trailers = second ∙ title_is_prefix (concat after.consumes.consumed) rest trailers after.consumes.joined;
    }

trailer_line_len_positive : (line : List ℕ) → is_trailer_line line ≡ true → 0 < length line
trailer_line_len_positive [] is = cc is
trailer_line_len_positive (byte ∷ line) is = omega arith

len_positive_of_ne_nil : (content : List ℕ) → content ≢ [] → 0 < length content
len_positive_of_ne_nil [] some = absurd (some refl)
len_positive_of_ne_nil (byte ∷ content) some = omega arith

rest_len_lt_of_trailers : (taken : Lines) (trailers rest : List ℕ) (n : ℕ) → 0 < n → length trailers ≤ n → trailers ≡ concat taken ++ rest
    → BeginsTrailer (taken ++ lines_of rest) → EndsTrailers (lines_of rest) → length rest < n
rest_len_lt_of_trailers [] trailers rest n some is_short joined begins ends =
    let nothing : rest ≡ [] = sym (concat-lines_of rest) ∙ ap concat (nil_of_begins_and_ends (lines_of rest) begins ends) in
    let is : length rest ≡ 0 = ap length nothing in
    omega arith
rest_len_lt_of_trailers (line ∷ taken) trailers rest n some is_short joined begins ends =
    let one : 0 < length line = trailer_line_len_positive line begins in
    let all : length trailers ≡ length ((line ++ concat taken) ++ rest) = ap length joined in
    let sum : length ((line ++ concat taken) ++ rest) ≡ length (line ++ concat taken) + length rest = length-append (line ++ concat taken) rest in
    let inner : length (line ++ concat taken) ≡ length line + length (concat taken) = length-append line (concat taken) in
    omega arith

pub block_rest_len_lt : (start : ℕ) (content from trailers rest : List ℕ) → content ≢ [] → from ≡ drop start content → IsAtTrailer from trailers
    → IsAfterTrailers trailers rest → length rest < length content
block_rest_len_lt start content from trailers rest some is at after =
    let some_bytes : 0 < length content = len_positive_of_ne_nil content some in
    let drops : length from ≡ length content - start = ap length is ∙ length-drop start content in
    let all : length from ≡ length (concat at.consumes.consumed) + length trailers = ap length at.consumes.joined
    ∙ length-append (concat at.consumes.consumed) trailers in
    rest_len_lt_of_trailers after.consumes.consumed trailers rest (length content) some_bytes (omega arith) after.consumes.joined
    (subst BeginsTrailer after.consumes.lines at.begins)
    after.ends

pub trailers_len_le : (start : ℕ) (content from trailers : List ℕ) → from ≡ drop start content → IsAtTrailer from trailers
    → length trailers ≤ length content
trailers_len_le start content from trailers is at =
    let drops : length from ≡ length content - start = ap length is ∙ length-drop start content in
    let all : length from ≡ length (concat at.consumes.consumed) + length trailers = ap length at.consumes.joined
    ∙ length-append (concat at.consumes.consumed) trailers in
    omega arith

pub block_rest_len_le : (trailers rest : List ℕ) → IsAfterTrailers trailers rest → length rest ≤ length trailers
block_rest_len_le trailers rest after =
    let all : length trailers ≡ length (concat after.consumes.consumed) + length rest = ap length after.consumes.joined
    ∙ length-append (concat after.consumes.consumed) rest in
    omega arith

pub not_nil_of_some : (content : List ℕ) (b : Bool) → b ≡ false → b ≡ (length content == 0) → content ≢ []
not_nil_of_some [] b not is = cc (not, is)
not_nil_of_some (byte ∷ content) b not is = λ nothing. cc nothing
