-- One more line extends the last run, ends it or begins one, and adds to the counts of a run; `Scans`, `Counted`,
-- `LastRuns` and `Steps` use these lemmas.
use Rattle.std.proofs.Common.{◌++◌, ◌+◌, ◌∙◌, ◌∷◌, ◌≡◌, ◌≢◌, All, Bool, List, [], ap, append-nil, append_assoc, arith, cond, false, inr, refl, sym, true, ℕ}
use Rattle.std.proofs.lemmas.List.Elements.{All-cons, All-head, All-nil, All-tail}
use Rattle.std.specs.Prelude.{IsFalse, IsTrue, ◌||◌}
use Rattle.std.specs.List.{list_any}
use Rattle.gixobj_text.specs.RunCounts.{other_count_of}
use Rattle.gixobj_text.specs.BodyLines.{is_blank, is_indented}
use Rattle.gixobj_text.specs.Scanning.{is_below_trailer_after}
use Rattle.gixobj_text.specs.TrailerBlocks.{EndsBlank, IsLastRun, counts_as_trailer, count_others}

abbrev pub Lines : Type 0
Lines = List (List ℕ)

abbrev pub Blank : List ℕ → Type 0
Blank line = IsTrue (is_blank line)

abbrev pub Filled : List ℕ → Type 0
Filled line = IsFalse (is_blank line)

pub all_snoc : (P : List ℕ → Type 0) (lines : Lines) (line : List ℕ) → All P lines → P line → All P (lines ++ line ∷ [])
all_snoc P [] line all it = All-cons P line [] it (All-nil P)
all_snoc P (first ∷ lines) line all it = All-cons P first (lines ++ line ∷ []) (All-head P first lines all)
    (all_snoc P lines line (All-tail P first lines all) it)

snoc_ne_nil : (run : Lines) (line : List ℕ) → run ++ line ∷ [] ≢ []
snoc_ne_nil [] line = λ is. cc is
snoc_ne_nil (first ∷ run) line = λ is. cc is

-- ---- the last run

-- a blank line follows the run
pub is_last_run_snoc_blank : (lines before run after : Lines) (line : List ℕ) → Blank line → IsLastRun lines before run after
    → IsLastRun (lines ++ line ∷ []) before run (after ++ line ∷ [])
is_last_run_snoc_blank lines before run after line blank last = record {
  joined = ap (λ (ls : Lines). ls ++ line ∷ []) last.joined ∙ append_assoc (before ++ run) after (line ∷ []);
  some = last.some;
  none_blank = last.none_blank;
  all_blank = all_snoc Blank after line last.all_blank blank;
  ends = last.ends;
}

-- another line continues the run, if no line follows the run yet
pub is_last_run_snoc_filled : (lines before run : Lines) (line : List ℕ) → Filled line → IsLastRun lines before run []
    → IsLastRun (lines ++ line ∷ []) before (run ++ line ∷ []) []
is_last_run_snoc_filled lines before run line filled last = record {
  joined = ap (λ (ls : Lines). ls ++ line ∷ []) (last.joined ∙ append-nil (before ++ run)) ∙ append_assoc before run (line ∷ [])
      ∙ sym (append-nil (before ++ (run ++ line ∷ [])));
  some = snoc_ne_nil run line;
  none_blank = all_snoc Filled run line last.none_blank filled;
  all_blank = last.all_blank;
  ends = last.ends;
}

-- another line begins a run after lines that end in a blank line
pub is_last_run_snoc_first : (lines : Lines) (line : List ℕ) → Filled line → EndsBlank lines → IsLastRun (lines ++ line ∷ []) lines (line ∷ []) []
is_last_run_snoc_first lines line filled ends = record {
  joined = sym (append-nil (lines ++ line ∷ []));
  some = λ is. cc is;
  none_blank = All-cons Filled line [] filled (All-nil Filled);
  all_blank = All-nil Blank;
  ends = ends;
}

pub ends_blank_snoc : (lines : Lines) (line : List ℕ) → Blank line → EndsBlank (lines ++ line ∷ [])
ends_blank_snoc lines line blank = inr (lines, line, refl, blank)

-- ---- counts

count_others_of_one_line : (t i above : Bool) → cond t (count_others true []) (cond i (cond above 0 1 + count_others above []) (1 + count_others false []))
    ≡ cond t 0
    (cond i (cond above 0 1) 1)
count_others_of_one_line true i above = refl
count_others_of_one_line false true true = refl
count_others_of_one_line false true false = refl
count_others_of_one_line false false above = refl

add_eq_add_add : (k c f w : ℕ) → c ≡ f + w → k + c ≡ (k + f) + w
add_eq_add_add k c f w is = grind (arith)

eq_zero_add : (a b : ℕ) → a ≡ b → a ≡ 0 + b
eq_zero_add a b is = grind (arith)

count_others_cons_of_flags : (t i above : Bool) (a b c d e f : ℕ) (x y z : Bool) (line : List ℕ) → a ≡ d + other_count_of x line → b ≡ e + other_count_of y line
    → c ≡ f + other_count_of z line
    → cond t a (cond i (cond above 0 1 + b) (1 + c)) ≡ cond t d (cond i (cond above 0 1 + e) (1 + f)) + other_count_of (cond t x (cond i y z)) line
count_others_cons_of_flags true i above a b c d e f x y z line first second third = first
count_others_cons_of_flags false true true a b c d e f x y z line first second third = add_eq_add_add 0 b e (other_count_of y line) second
count_others_cons_of_flags false true false a b c d e f x y z line first second third = add_eq_add_add 1 b e (other_count_of y line) second
count_others_cons_of_flags false false above a b c d e f x y z line first second third = add_eq_add_add 1 c f (other_count_of z line) third

pub count_others_snoc : (above : Bool) (run : Lines) (line : List ℕ) → count_others above (run ++ line ∷ []) ≡ count_others above run + other_count_of
    (is_below_trailer_after above run) line
count_others_snoc above [] line = eq_zero_add (count_others above (line ∷ [])) (other_count_of above line)
    (count_others_of_one_line (counts_as_trailer line) (is_indented line) above)
count_others_snoc above (first ∷ run) line =
    count_others_cons_of_flags (counts_as_trailer first) (is_indented first) above _ _ _ _ _ _ (is_below_trailer_after true run)
    (is_below_trailer_after above run)
    (is_below_trailer_after false run) line
    (count_others_snoc true run line) (count_others_snoc above run line) (count_others_snoc false run line)

is_below_trailer_cons_of_flags : (t i : Bool) (a b c x y z : Bool) (t2 i2 : Bool) → a ≡ cond t2 true (cond i2 x false) → b ≡ cond t2 true (cond i2 y false)
    → c ≡ cond t2 true (cond i2 z false)
    → cond t a (cond i b c) ≡ cond t2 true (cond i2 (cond t x (cond i y z)) false)
is_below_trailer_cons_of_flags true i a b c x y z t2 i2 first second third = first
is_below_trailer_cons_of_flags false true a b c x y z t2 i2 first second third = second
is_below_trailer_cons_of_flags false false a b c x y z t2 i2 first second third = third

pub is_below_trailer_snoc : (above : Bool) (run : Lines) (line : List ℕ) → is_below_trailer_after above (run ++ line ∷ []) ≡ cond (counts_as_trailer line) true
    (cond (is_indented line) (is_below_trailer_after above run) false)
is_below_trailer_snoc above [] line = refl
is_below_trailer_snoc above (first ∷ run) line =
    is_below_trailer_cons_of_flags (counts_as_trailer first) (is_indented first) _ _ _ (is_below_trailer_after true run) (is_below_trailer_after above run)
    (is_below_trailer_after false run) (counts_as_trailer line) (is_indented line)
    (is_below_trailer_snoc true run line) (is_below_trailer_snoc above run line) (is_below_trailer_snoc false run line)

or_assoc : (a b c : Bool) → a || (b || c) ≡ (a || b) || c
or_assoc true b c = refl
or_assoc false b c = refl

or_false : (a : Bool) → a || false ≡ a
or_false true = refl
or_false false = refl

pub list_any_snoc : (p : List ℕ → Bool) (run : Lines) (line : List ℕ) → list_any p (run ++ line ∷ []) ≡ (list_any p run || p line)
list_any_snoc p [] line = or_false (p line)
list_any_snoc p (first ∷ run) line = ap (λ (b : Bool). p first || b) (list_any_snoc p run line) ∙ or_assoc (p first) (list_any p run) (p line)
