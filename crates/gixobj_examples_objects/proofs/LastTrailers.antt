-- The last trailer of a message, and the line for which an iterator over its trailers allocates.
use Rattle.std.proofs.Common.{◌≡◌, ◌++◌, ◌∙◌, ◌∷◌, Bool, Err, List, None, Ok, OnErr, Option, Result, Some, [], ap, append_assoc, cond, false, map, option_map}
use Rattle.std.proofs.Common.{refl, sym, true, ℕ}
use Rattle.std.proofs.lemmas.List.Sums.{take_while-cons}
use Rattle.std.specs.Iterator.{Yields}
use Rattle.std.specs.List.{last_or, take_while}
use Rattle.bstr.specs.Text.{lines_of}
use Rattle.gix_object.specs.BodyLines.{is_continuation_line, is_trailer_line}
use Rattle.gix_object.specs.FirstLines.{HasLastLines}
use Rattle.gix_object.specs.MessageTrailers.{HasTrailerBlock}
use Rattle.gix_object.specs.TrailerSteps.{NextTrailer, next_allocates, remaining_bytes}
use Rattle.gix_object.specs.Unfolding.{has_lines, first_is_folded}
use Rattle.gix_object.specs.message.commit.message.body.trailers.TrailerRef.{TrailerRef}
use Rattle.gix_object.specs.message.commit.message.body.trailers.Trailers.{Trailers}
use Rattle.gixobj_examples_objects.specs.Signers.{HasContinuedLine}

abbrev Lines : Type 0
Lines = List (List ℕ)

-- ---- the last element

pub last_or_snoc : {A : Type 0} (o : Option A) (xs : List A) (x : A) → last_or o (xs ++ x ∷ []) ≡ Some x
last_or_snoc o [] x = refl
last_or_snoc o (y ∷ xs) x = last_or_snoc (Some y) xs x

pub last_or_map : {A B : Type 0} (f : A → B) (o : Option A) (xs : List A) → option_map f (last_or o xs) ≡ last_or (option_map f o) (map f xs)
last_or_map f o [] = refl
last_or_map f o (x ∷ xs) = last_or_map f (Some x) xs

pub map_snoc : {A B : Type 0} (f : A → B) (xs : List A) (x : A) → map f (xs ++ x ∷ []) ≡ map f xs ++ f x ∷ []
map_snoc f [] x = refl
map_snoc f (y ∷ xs) x = ap (λ (ys : List _). f y ∷ ys) (map_snoc f xs x)

pub on_err_of : {X E : Type 0} (r : Result X E) (P : Type 0) → P → OnErr r P
on_err_of (Ok x) P holds = tt
on_err_of (Err e) P holds = holds

-- ---- a line that continues another

abbrev HasFolded : Lines → Type 0
HasFolded lines = (before : Lines) × (line : List ℕ) × (after : Lines) × (lines ≡ before ++ line ∷ after) × (is_continuation_line line ≡ true)

has_folded_cons : (line : List ℕ) (lines : Lines) → HasFolded lines → HasFolded (line ∷ lines)
has_folded_cons line lines (before, one, after, is, folds) = (line ∷ before, one, after, ap (λ (rest : Lines). line ∷ rest) is, folds)

has_folded_cons_of_test : (b : Bool) (line : List ℕ) (lines : Lines) → is_continuation_line line ≡ b
    → has_lines (cond b (line ∷ take_while is_continuation_line lines) []) ≡ true
    → HasFolded (line ∷ lines)
has_folded_cons_of_test true line lines is some = ([], line, lines, refl, is)
has_folded_cons_of_test false line lines is some = absurd (cc some)

has_folded_of_take_while : (lines : Lines) → has_lines (take_while is_continuation_line lines) ≡ true → HasFolded lines
has_folded_of_take_while [] some = absurd (cc some)
has_folded_of_take_while (line ∷ lines) some =
    has_folded_cons_of_test (is_continuation_line line) line lines refl (sym (ap has_lines (take_while-cons is_continuation_line line lines)) ∙ some)

has_folded_cons_of_cond : (b : Bool) (line : List ℕ) (lines : Lines) → (first_is_folded lines ≡ true → HasFolded lines)
    → cond b (has_lines (take_while is_continuation_line lines)) (first_is_folded lines) ≡ true → HasFolded (line ∷ lines)
has_folded_cons_of_cond true line lines later is = has_folded_cons line lines (has_folded_of_take_while lines is)
has_folded_cons_of_cond false line lines later is = has_folded_cons line lines (later is)

has_folded_of_first_is_folded : (lines : Lines) → first_is_folded lines ≡ true → HasFolded lines
has_folded_of_first_is_folded [] is = absurd (cc is)
has_folded_of_first_is_folded (line ∷ lines) is = has_folded_cons_of_cond (is_trailer_line line) line lines (has_folded_of_first_is_folded lines) is

-- ---- the remaining lines

has_last_lines_of_yields : (start : Trailers) (seen : List TrailerRef) (at : Trailers) → Yields NextTrailer start (map (λ it. Ok it) seen) at
    → HasLastLines (remaining_bytes start) (remaining_bytes at)
has_last_lines_of_yields start [] at same = record { skipped = []; joined = ap (λ (it : Trailers). lines_of (remaining_bytes it)) same }
has_last_lines_of_yields start (one ∷ seen) at (middle, step, more) =
    let rest = has_last_lines_of_yields middle seen at more in
    record {
      skipped = step.3.skipped ++ rest.skipped;
      joined = step.3.joined ∙ ap (λ (lines : Lines). step.3.skipped ++ lines) rest.joined
          ∙ sym (append_assoc step.3.skipped rest.skipped (lines_of (remaining_bytes at)));
    }

pub has_continued_line : (message : List ℕ) (start : Trailers) (seen : List TrailerRef) (at : Trailers) → HasTrailerBlock message (remaining_bytes start)
    → Yields NextTrailer start (map (λ it. Ok it) seen) at → next_allocates at ≡ true → HasContinuedLine message
has_continued_line message start seen at block yields folded =
    let last = has_last_lines_of_yields start seen at yields in
    let it = has_folded_of_first_is_folded (lines_of (remaining_bytes at)) folded in
    record {
      block = remaining_bytes start;
      before = last.skipped ++ it.0;
      line = it.1;
      after = it.2;
      is_block = block;
      lines = last.joined ∙ ap (λ (lines : Lines). last.skipped ++ lines) it.3 ∙ sym (append_assoc last.skipped it.0 (it.1 ∷ it.2));
      continues = it.4;
    }
