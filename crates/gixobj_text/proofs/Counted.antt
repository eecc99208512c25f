-- The counts of a run after one more line.
use Rattle.std.proofs.Common.{◌≡◌, ◌++◌, ◌∷◌, ◌∙◌, ◌+◌, ap, sym, refl, ℕ, Bool, true, false, cond, List, []}
use Rattle.std.specs.Prelude.{◌||◌, count_by, fold}
use Rattle.gixobj_text.specs.RunCounts.{Counts, other_count_of}
use Rattle.gixobj_text.specs.BodyLines.{is_indented, is_git_generated}
use Rattle.gixobj_text.specs.TrailerBlocks.{counts_as_trailer, count_others}
use Rattle.gixobj_text.specs.declared.commit.message.body.line_counts.LineCounts.{LineCounts}
use Rattle.gixobj_text.proofs.OneLine.{is_below_trailer_snoc, list_any_snoc, count_others_snoc}

abbrev counted : (List ℕ → Bool) → List ℕ → ℕ
counted p line = cond (p line) 1 0

fold_count_snoc : (p : List ℕ → Bool) (start : ℕ) (run : List (List ℕ)) (line : List ℕ)
    → fold (λ (a : ℕ) (x : List ℕ). a + cond (p x) 1 0) start (run ++ line ∷ []) ≡ fold (λ (a : ℕ) (x : List ℕ). a + cond (p x) 1 0) start run + counted p line
fold_count_snoc p start [] line = refl
fold_count_snoc p start (first ∷ run) line = fold_count_snoc p (start + counted p first) run line

count_by_snoc : (p : List ℕ → Bool) (run : List (List ℕ)) (line : List ℕ) → count_by p (run ++ line ∷ []) ≡ count_by p run + counted p line
count_by_snoc p run line = fold_count_snoc p 0 run line

-- the counts after one more line are those of the longer run
pub counts_snoc : (run : List (List ℕ)) (line : List ℕ) (old new : LineCounts) → Counts run old
    → new.trailers ≡ old.trailers + cond (counts_as_trailer line) 1 0
    → new.others ≡ old.others + other_count_of old.above line
    → new.recognised ≡ (old.recognised || is_git_generated line)
    → new.above ≡ cond (counts_as_trailer line) true (cond (is_indented line) old.above false)
    → Counts (run ++ line ∷ []) new
counts_snoc run line old new it trailers other recognised above = record {
  trailers = trailers ∙ ap (λ (n : ℕ). n + cond (counts_as_trailer line) 1 0) it.trailers ∙ sym (count_by_snoc counts_as_trailer run line);
  others = other ∙ ap (λ (n : ℕ). n + other_count_of old.above line) it.others ∙ ap (λ (b : Bool). count_others false run + other_count_of b line) it.above
      ∙ sym (count_others_snoc false run line);
  recognised = recognised ∙ ap (λ (b : Bool). b || is_git_generated line) it.recognised ∙ sym (list_any_snoc is_git_generated run line);
  above = above ∙ ap (λ (b : Bool). cond (counts_as_trailer line) true (cond (is_indented line) b false)) it.above ∙ sym (is_below_trailer_snoc false run line);
}
