-- A body has at most one list of blocks; the law `blocks_are_unique` uses it.
use Rattle.std.proofs.Common.{◌++◌, ◌∙◌, ◌∷◌, ◌≡◌, All, Bool, List, [], ap, append_assoc, cond, drop, false, refl, subst, sym, take, true, ℕ}
use Rattle.std.proofs.lemmas.List.Elements.{All-cons, All-head, All-nil, All-tail}
use Rattle.std.specs.Prelude.{◌||◌}
use Rattle.std.specs.List.{concat}
use Rattle.bstr.specs.Text.{lines_of}
use Rattle.bstr.proofs.lemmas.RestLemmas.{concat-lines_of}
use Rattle.gixobj_text.specs.MessageBlocks.{AreBlocksFrom, AreTrailers, BlockView, EndsTrailers, IsBlockOfLines, IsFirstMessageBlock}
use Rattle.gixobj_text.specs.MessageBlocks.AreBlocksFrom.{block, none}
use Rattle.gixobj_text.specs.BodyLines.{is_continuation_line, is_trailer_line}
use Rattle.gixobj_text.specs.LineSteps.{BeginsTrailer, ContinuesTrailer, NoTrailer}

abbrev Lines : Type 0
Lines = List (List ℕ)

abbrev continues_trailer : List ℕ → Bool
continues_trailer line = is_trailer_line line || is_continuation_line line

-- ---- the parts of lines, by recursion

-- the lines before the first trailer line, and those from it on
abbrev skipped_of : Lines → Lines
skipped_of [] = []
skipped_of (line ∷ lines) = cond (is_trailer_line line) [] (line ∷ skipped_of lines)

abbrev after_skipped : Lines → Lines
after_skipped [] = []
after_skipped (line ∷ lines) = cond (is_trailer_line line) (line ∷ lines) (after_skipped lines)

-- the consecutive trailers at the start, and the lines after them
abbrev taken_of : Lines → Lines
taken_of [] = []
taken_of (line ∷ lines) = cond (continues_trailer line) (line ∷ taken_of lines) []

abbrev after_taken : Lines → Lines
after_taken [] = []
after_taken (line ∷ lines) = cond (continues_trailer line) (after_taken lines) (line ∷ lines)

skipped_of_append : (skipped rest : Lines) → All NoTrailer skipped → BeginsTrailer rest → (skipped_of (skipped ++ rest) ≡ skipped)
    × (after_skipped (skipped ++ rest) ≡ rest)
skipped_of_append [] [] all begins = (refl, refl)
skipped_of_append [] (line ∷ rest) all begins =
    (ap (λ (b : Bool). cond b [] (line ∷ skipped_of rest)) begins, ap (λ (b : Bool). cond b (line ∷ rest) (after_skipped rest)) begins)
skipped_of_append (line ∷ skipped) rest all begins =
    let here = All-head NoTrailer line skipped all in
    let later = skipped_of_append skipped rest (All-tail NoTrailer line skipped all) begins in (
      ap (λ (b : Bool). cond b [] (line ∷ skipped_of (skipped ++ rest))) here ∙ ap (λ (ls : Lines). line ∷ ls) later.0,
      ap (λ (b : Bool). cond b (line ∷ (skipped ++ rest)) (after_skipped (skipped ++ rest))) here ∙ later.1,
    )

taken_of_append : (taken rest : Lines) → All ContinuesTrailer taken → EndsTrailers rest → (taken_of (taken ++ rest) ≡ taken)
    × (after_taken (taken ++ rest) ≡ rest)
taken_of_append [] [] all ends = (refl, refl)
taken_of_append [] (line ∷ rest) all ends =
    (ap (λ (b : Bool). cond b (line ∷ taken_of rest) []) ends, ap (λ (b : Bool). cond b (after_taken rest) (line ∷ rest)) ends)
taken_of_append (line ∷ taken) rest all ends =
    let here = All-head ContinuesTrailer line taken all in
    let later = taken_of_append taken rest (All-tail ContinuesTrailer line taken all) ends in (
      ap (λ (b : Bool). cond b (line ∷ taken_of (taken ++ rest)) []) here ∙ ap (λ (ls : Lines). line ∷ ls) later.0,
      ap (λ (b : Bool). cond b (after_taken (taken ++ rest)) (line ∷ (taken ++ rest))) here ∙ later.1,
    )

-- ---- the parts are unique

or_true_of_left : (a b : Bool) → a ≡ true → (a || b) ≡ true
or_true_of_left true b is = refl
or_true_of_left false b is = cc is

all_continue_of_are_trailers : (taken : Lines) → AreTrailers taken → All ContinuesTrailer taken
all_continue_of_are_trailers [] trailers = All-nil ContinuesTrailer
all_continue_of_are_trailers (line ∷ taken) trailers = All-cons ContinuesTrailer line taken
    (or_true_of_left (is_trailer_line line) (is_continuation_line line) trailers.0) trailers.1

begins_trailer_append : (taken rest : Lines) → AreTrailers taken → (taken ≡ [] → rest ≡ []) → BeginsTrailer (taken ++ rest)
begins_trailer_append [] rest trailers last = subst BeginsTrailer (sym (last refl)) tt
begins_trailer_append (line ∷ taken) rest trailers last = trailers.0

record SplitsBlock (lines skipped taken rest : Lines) : Type 0 where
  skipped_eq : skipped ≡ skipped_of lines
  taken_eq : taken ≡ taken_of (after_skipped lines)
  rest_eq : rest ≡ after_taken (after_skipped lines)

parts_of_block_of_lines : (lines skipped taken rest : Lines) → IsBlockOfLines lines skipped taken rest → SplitsBlock lines skipped taken rest
parts_of_block_of_lines lines skipped taken rest it =
    let joined : lines ≡ skipped ++ (taken ++ rest) = it.split ∙ append_assoc skipped taken rest in
    let first = skipped_of_append skipped (taken ++ rest) it.message (begins_trailer_append taken rest it.trailers it.none) in
    let second = taken_of_append taken rest (all_continue_of_are_trailers taken it.trailers) it.ends in
    let after : after_skipped lines ≡ taken ++ rest = ap after_skipped joined ∙ first.1 in
    record {
      skipped_eq = sym (ap skipped_of joined ∙ first.0);
      taken_eq = sym (ap taken_of after ∙ second.0);
      rest_eq = sym (ap after_taken after ∙ second.1);
    }

abbrev view : List ℕ → List ℕ → BlockView
view message trailers = record { message = message; trailers = trailers }

block_view_eq_of_fields : (one other : BlockView) → one.message ≡ other.message → one.trailers ≡ other.trailers → one ≡ other
block_view_eq_of_fields one other message trailers =
    ap (λ (it : List ℕ). view it one.trailers) message ∙ ap (λ (it : List ℕ). view other.message it) trailers

first_message_block_unique : (start : ℕ) (bytes : List ℕ) (one other : BlockView) (rest rest2 : List ℕ) → IsFirstMessageBlock start bytes one rest
    → IsFirstMessageBlock start bytes other rest2 → (one ≡ other) × (rest ≡ rest2)
first_message_block_unique start bytes one other rest rest2 it it2 =
    let first = parts_of_block_of_lines (lines_of (drop start bytes)) it.skipped it.consumed (lines_of rest) it.lines in
    let second = parts_of_block_of_lines (lines_of (drop start bytes)) it2.skipped it2.consumed (lines_of rest2) it2.lines in
    let skipped : it.skipped ≡ it2.skipped = first.skipped_eq ∙ sym second.skipped_eq in
    let taken : it.consumed ≡ it2.consumed = first.taken_eq ∙ sym second.taken_eq in
    let after : lines_of rest ≡ lines_of rest2 = first.rest_eq ∙ sym second.rest_eq in (
      block_view_eq_of_fields one other
          (it.message ∙ ap (λ (ls : Lines). take start bytes ++ concat ls) skipped ∙ sym it2.message)
          (it.trailers ∙ ap (λ (ls : Lines). concat ls) taken ∙ sym it2.trailers),
      sym (concat-lines_of rest) ∙ ap (λ (ls : Lines). concat ls) after ∙ concat-lines_of rest2,
    )

pub blocks_unique : (start : ℕ) (body : List ℕ) (blocks blocks2 : List BlockView) → AreBlocksFrom start body blocks → AreBlocksFrom start body blocks2
    → blocks ≡ blocks2
blocks_unique start body blocks blocks2 (none _) (none _) = refl
blocks_unique start body blocks blocks2 (none _) (block _ _ one rest later it more) = absurd (it.some refl)
blocks_unique start body blocks blocks2 (block _ _ one rest later it more) (none _) = absurd (it.some refl)
blocks_unique start body blocks blocks2 (block _ _ one rest later it more) (block _ _ other rest2 later2 it2 more2) =
    let same = first_message_block_unique start body one other rest rest2 it it2 in
    ap (λ (b : BlockView). b ∷ later) same.0
    ∙ ap (λ (bs : List BlockView). other ∷ bs) (blocks_unique 0 rest later later2 more
    (subst (λ (bytes : List ℕ). AreBlocksFrom 0 bytes later2) (sym same.1) more2))
