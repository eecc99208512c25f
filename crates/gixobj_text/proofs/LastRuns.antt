-- Lines have at most one last run: for `Scans`, `OneAnswer` and `BlockRows`.
use Rattle.std.proofs.Common.{◌++◌, ◌∙◌, ◌∷◌, ◌≡◌, ◌≢◌, All, Bool, List, [], ap, append_assoc, cond, false, inl, inr, not, refl, subst, sym, true, ℕ}
use Rattle.std.proofs.lemmas.List.Elements.{All-head, All-tail}
use Rattle.std.specs.Prelude.{◌&&◌}
use Rattle.gixobj_text.specs.BodyLines.{is_blank}
use Rattle.gixobj_text.specs.TrailerBlocks.{EndsBlank, HasNoBlock, IsTrailerBlock, IsLastRun}
use Rattle.gixobj_text.proofs.OneLine.{Blank, Filled, Lines}

-- the lines before the last run, the run, and the lines after it
pub record Parts : Type 0 where
  pub before : Lines
  pub run : Lines
  pub after : Lines

abbrev is_none : Lines → Bool
is_none [] = true
is_none (line ∷ lines) = false

-- the parts with one more line at the start, which is blank or not
abbrev pub before_it : List ℕ → Bool → Parts → Parts
before_it line blank it =
    cond (is_none it.run)
    (cond blank (record { before = []; run = []; after = line ∷ it.after }) (record { before = []; run = line ∷ []; after = it.after }))
    (cond (is_none it.before && not blank) (record { before = []; run = line ∷ it.run; after = it.after })
    (record { before = line ∷ it.before; run = it.run; after = it.after }))

abbrev pub parts_of : Lines → Parts
parts_of [] = record { before = []; run = []; after = [] }
parts_of (line ∷ lines) = before_it line (is_blank line) (parts_of lines)

parts_of_cons : (line : List ℕ) (b : Bool) (before run after lines : Lines) → is_blank line ≡ b
    → parts_of lines ≡ record { before = before; run = run; after = after }
    → parts_of (line ∷ lines) ≡ before_it line b (record { before = before; run = run; after = after })
parts_of_cons line b before run after lines blank is = ap (λ (it : Parts). before_it line (is_blank line) it) is
    ∙ ap (λ (c : Bool). before_it line c (record { before = before; run = run; after = after })) blank

parts_of_blank : (after : Lines) → All Blank after → parts_of after ≡ record { before = []; run = []; after = after }
parts_of_blank [] all = refl
parts_of_blank (line ∷ after) all = parts_of_cons line true [] [] after after (All-head Blank line after all)
    (parts_of_blank after (All-tail Blank line after all))

parts_of_run_append : (run after : Lines) → run ≢ [] → All Filled run → All Blank after
    → parts_of (run ++ after) ≡ record { before = []; run = run; after = after }
parts_of_run_append [] after some filled blank = absurd (some refl)
parts_of_run_append (line ∷ []) after some filled blank = parts_of_cons line false [] [] after after (All-head Filled line [] filled)
    (parts_of_blank after blank)
parts_of_run_append (line ∷ next ∷ run) after some filled blank =
    parts_of_cons line false [] (next ∷ run) after ((next ∷ run) ++ after) (All-head Filled line (next ∷ run) filled)
    (parts_of_run_append (next ∷ run) after (λ none. cc none) (All-tail Filled line (next ∷ run) filled) blank)

-- lines that end in a blank line still do without their first line
ends_blank_tail : (first next : List ℕ) (lines : Lines) → EndsBlank (first ∷ next ∷ lines) → EndsBlank (next ∷ lines)
ends_blank_tail first next lines (inl none) = cc none
ends_blank_tail first next lines (inr ([], last, is, blank)) = cc is
ends_blank_tail first next lines (inr (one ∷ prefix, last, is, blank)) = inr (prefix, last, cc is, blank)

blank_of_ends_blank : (line : List ℕ) → EndsBlank (line ∷ []) → Blank line
blank_of_ends_blank line (inl none) = cc none
blank_of_ends_blank line (inr ([], last, is, blank)) = let same : last ≡ line = cc is in subst Blank same blank
blank_of_ends_blank line (inr (one ∷ [], last, is, blank)) = cc is
blank_of_ends_blank line (inr (one ∷ two ∷ prefix, last, is, blank)) = cc is

parts_of_append : (before run after : Lines) → EndsBlank before → run ≢ [] → All Filled run → All Blank after → parts_of (before ++ (run ++ after)) ≡ record
    { before = before; run = run; after = after }
parts_of_append [] run after ends some filled blank = parts_of_run_append run after some filled blank
parts_of_append (line ∷ []) [] after ends some filled blank = absurd (some refl)
parts_of_append (line ∷ []) (first ∷ run) after ends some filled blank =
    parts_of_cons line true [] (first ∷ run) after ((first ∷ run) ++ after) (blank_of_ends_blank line ends)
    (parts_of_run_append (first ∷ run) after some filled blank)
parts_of_append (line ∷ next ∷ before) [] after ends some filled blank = absurd (some refl)
parts_of_append (line ∷ next ∷ before) (first ∷ run) after ends some filled blank =
    parts_of_cons line (is_blank line) (next ∷ before) (first ∷ run) after ((next ∷ before) ++ ((first ∷ run) ++ after)) refl
    (parts_of_append (next ∷ before) (first ∷ run) after (ends_blank_tail line next before ends) some filled blank)

-- the parts of lines are those of their last run
pub parts_of_last_run : (lines before run after : Lines) → IsLastRun lines before run after
    → parts_of lines ≡ record { before = before; run = run; after = after }
parts_of_last_run lines before run after last =
    ap parts_of (last.joined ∙ append_assoc before run after) ∙ parts_of_append before run after last.ends last.some last.none_blank last.all_blank

pub no_block_of_parts : (lines : Lines) → ¬ IsTrailerBlock (parts_of lines).run → HasNoBlock lines
no_block_of_parts lines other before run after last block =
    other (subst IsTrailerBlock (sym (ap (λ (it : Parts). it.run) (parts_of_last_run lines before run after last))) block)
