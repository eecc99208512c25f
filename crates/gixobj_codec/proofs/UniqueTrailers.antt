-- A message has at most one title, one body and one list of trailers, and a body at most one block start; the laws of
-- messages use these lemmas.
use Rattle.std.proofs.Common.{◌++◌, ◌+◌, ◌∙◌, ◌∷◌, ◌≡◌, ◌≢◌, ◌≤◌, List, None, Option, Some, [], ap, append_assoc, arith, drop, inl, inr, length, length-append}
use Rattle.std.proofs.Common.{refl, subst, sym, zero-add, ℕ}
use Rattle.std.specs.List.{concat}
use Rattle.bstr.specs.Text.{lines_of}
use Rattle.gixobj_text.specs.LineBreaks.{after_two_breaks}
use Rattle.gixobj_text.specs.BodyLines.{trimmed_line}
use Rattle.gixobj_text.specs.MessageTrailers.{BodyHasTrailerBlock, HasTrailerBlock, HasTrailers}
use Rattle.gixobj_text.specs.Titles.{HasBreaks, IsBreak, IsSplitAtBreaks, SplitsTitle}
use Rattle.gixobj_text.specs.Titles.IsBreak.{alone, after_return}
use Rattle.gixobj_text.specs.TrailerBlocks.{HasBlock, IsTrailerBlockStart, StartsAfter}
use Rattle.gixobj_text.specs.Trailers.{TrailerView, trailers_of_bytes}
use Rattle.gixobj_text.proofs.LastRuns.{Parts, parts_of_last_run}

abbrev Lines : Type 0
Lines = List (List ℕ)

-- ---- title and body

append_split_unique : (a b x y : List ℕ) → length a ≡ length b → a ++ x ≡ b ++ y → (a ≡ b) × (x ≡ y)
append_split_unique [] [] x y long is = (refl, is)
append_split_unique [] (byte ∷ b) x y long is = absurd (omega arith)
append_split_unique (byte ∷ a) [] x y long is = absurd (omega arith)
append_split_unique (byte ∷ a) (other ∷ b) x y long is =
    let tails : (a ≡ b) × (x ≡ y) = append_split_unique a b x y (omega arith) (cc is) in
    let heads : byte ≡ other = cc is in
    (ap (λ (n : ℕ). n ∷ a) heads ∙ ap (λ (bytes : List ℕ). other ∷ bytes) tails.0, tails.1)

after_two_breaks_append : (first second rest : List ℕ) → IsBreak first → IsBreak second → after_two_breaks (first ++ second ++ rest) ≡ Some rest
after_two_breaks_append first second rest alone alone = refl
after_two_breaks_append first second rest alone after_return = refl
after_two_breaks_append first second rest after_return alone = refl
after_two_breaks_append first second rest after_return after_return = refl

has_breaks_append_assoc : (message title body : List ℕ) → (it : HasBreaks message title body) → message ≡ title ++ (it.first ++ it.second ++ body)
has_breaks_append_assoc message title body it =
    it.joined ∙ append_assoc (title ++ it.first) it.second body ∙ append_assoc title it.first (it.second ++ body)
    ∙ ap (λ (bytes : List ℕ). title ++ bytes) (sym (append_assoc it.first it.second body))

split_at_breaks_unique : (message title body title2 body2 : List ℕ) → IsSplitAtBreaks message title body → IsSplitAtBreaks message title2 body2
    → (title ≡ title2)
    × (body ≡ body2)
split_at_breaks_unique message title body title2 body2 one other =
    let bound : length title ≤ length title2 = one.minimum title2 body2 other.here in
    let other_bound : length title2 ≤ length title = other.minimum title body one.here in
    let prefixes = append_split_unique title title2 (one.here.first ++ one.here.second ++ body) (other.here.first ++ other.here.second ++ body2) (omega arith)
    (sym (has_breaks_append_assoc message title body one.here) ∙ has_breaks_append_assoc message title2 body2 other.here) in
    let bodies : Some body ≡ Some body2 =
    sym (after_two_breaks_append one.here.first one.here.second body one.here.breaks.0 one.here.breaks.1) ∙ ap after_two_breaks prefixes.1
    ∙ after_two_breaks_append other.here.first other.here.second body2 other.here.breaks.0 other.here.breaks.1 in
    (prefixes.0, cc bodies)

pub title_split_unique : (message title title2 : List ℕ) (body body2 : Option (List ℕ)) → SplitsTitle message title body → SplitsTitle message title2 body2
    → (title ≡ title2) × (body ≡ body2)
title_split_unique message title title2 (Some body) (Some body2) (one, some) (other, some2) =
    let same = split_at_breaks_unique message title body title2 body2 one other in (same.0, ap (λ (it : List ℕ). Some it) same.1)
title_split_unique message title title2 (Some body) None (one, some) (inl other) =
    absurd (some (split_at_breaks_unique message title body title2 [] one other).1)
title_split_unique message title title2 (Some body) None (one, some) (inr (all, none)) = absurd (none title body one.here)
title_split_unique message title title2 None (Some body2) (inl one) (other, some) =
    absurd (some (split_at_breaks_unique message title2 body2 title [] other one).1)
title_split_unique message title title2 None (Some body2) (inr (all, none)) (other, some) = absurd (none title2 body2 other.here)
title_split_unique message title title2 None None (inl one) (inl other) = ((split_at_breaks_unique message title [] title2 [] one other).0, refl)
title_split_unique message title title2 None None (inl one) (inr (all, none)) = absurd (none title [] one.here)
title_split_unique message title title2 None None (inr (all, none)) (inl other) = absurd (none title2 [] other.here)
title_split_unique message title title2 None None (inr (all, none)) (inr (all2, none2)) = (all ∙ sym all2, refl)

-- ---- the start of a block

start_of : Lines → ℕ
start_of [] = 0
start_of (line ∷ []) = 0
start_of (line ∷ blank ∷ []) = length (trimmed_line line)
start_of (line ∷ next ∷ more ∷ lines) = length line + start_of (next ∷ more ∷ lines)

start_of_cons_cons : (line next : List ℕ) (lines : Lines) → lines ≢ [] → start_of (line ∷ next ∷ lines) ≡ length line + start_of (next ∷ lines)
unfolding start_of
start_of_cons_cons line next [] some = absurd (some refl)
start_of_cons_cons line next (more ∷ lines) some = refl

append_two_ne_nil : (prefix : Lines) (line blank : List ℕ) → prefix ++ line ∷ blank ∷ [] ≢ []
append_two_ne_nil [] line blank = λ is. cc is
append_two_ne_nil (first ∷ prefix) line blank = λ is. cc is

start_of_append_two : (prefix : Lines) (line blank : List ℕ) → start_of (prefix ++ line ∷ blank ∷ []) ≡ length (concat prefix) + length (trimmed_line line)
unfolding start_of
start_of_append_two [] line blank = sym (zero-add (length (trimmed_line line)))
start_of_append_two (first ∷ []) line blank =
    let long : length (concat (first ∷ [])) ≡ length first + 0 = length-append first [] in omega arith
start_of_append_two (first ∷ second ∷ prefix) line blank =
    let later : start_of ((second ∷ prefix) ++ line ∷ blank ∷ []) ≡ length (concat (second ∷ prefix)) + length (trimmed_line line) =
    start_of_append_two (second ∷ prefix) line blank in
    let here : start_of (first ∷ second ∷ (prefix ++ line ∷ blank ∷ [])) ≡ length first + start_of (second ∷ (prefix ++ line ∷ blank ∷ [])) =
    start_of_cons_cons first second (prefix ++ line ∷ blank ∷ []) (append_two_ne_nil prefix line blank) in
    let long : length (concat (first ∷ second ∷ prefix)) ≡ length first + length (concat (second ∷ prefix)) =
    length-append first (concat (second ∷ prefix)) in
    omega arith

starts_after_eq_start_of : (before : Lines) (start : ℕ) → StartsAfter before start → start ≡ start_of before
unfolding start_of
starts_after_eq_start_of before start (inl (none, is)) = is ∙ sym (ap start_of none)
starts_after_eq_start_of before start (inr (inl (blank, one, is))) = is ∙ sym (ap start_of one)
starts_after_eq_start_of before start (inr (inr (prefix, line, blank, joined, is))) = is ∙ sym (start_of_append_two prefix line blank)
    ∙ sym (ap start_of joined)

has_block_start_unique : (lines : Lines) (start start2 : ℕ) → HasBlock lines start → HasBlock lines start2 → start ≡ start2
has_block_start_unique lines start start2 one other =
    let same : one.before ≡ other.before =
    ap (λ (it : Parts). it.before)
    (sym (parts_of_last_run lines one.before one.run one.after one.last) ∙ parts_of_last_run lines other.before other.run other.after other.last) in
    starts_after_eq_start_of one.before start one.starts ∙ ap start_of same ∙ sym (starts_after_eq_start_of other.before start2 other.starts)

pub block_start_unique : (body : List ℕ) (start start2 : ℕ) → IsTrailerBlockStart body start → IsTrailerBlockStart body start2 → start ≡ start2
block_start_unique body start start2 (inl one) (inl other) = has_block_start_unique (lines_of body) start start2 one other
block_start_unique body start start2 (inl one) (inr (none, is)) = absurd (none one.before one.run one.after one.last one.block)
block_start_unique body start start2 (inr (none, is)) (inl other) = absurd (none other.before other.run other.after other.last other.block)
block_start_unique body start start2 (inr (none, is)) (inr (none2, is2)) = is ∙ sym is2

-- ---- the trailers of a message

block_of_body_unique : (body : Option (List ℕ)) (block block2 : List ℕ) → BodyHasTrailerBlock body block → BodyHasTrailerBlock body block2
    → block ≡ block2
block_of_body_unique None block block2 one other = one ∙ sym other
block_of_body_unique (Some body) block block2 (start, at, is) (start2, at2, is2) =
    is ∙ ap (λ (n : ℕ). drop n body) (block_start_unique body start start2 at at2) ∙ sym is2

pub trailer_block_unique : (message block block2 : List ℕ) → HasTrailerBlock message block → HasTrailerBlock message block2 → block ≡ block2
trailer_block_unique message block block2 one other =
    let same : one.body ≡ other.body = (title_split_unique message one.title other.title one.body other.body one.split other.split).1 in
    block_of_body_unique other.body block block2 (subst (λ (body : Option (List ℕ)). BodyHasTrailerBlock body block) same one.has) other.has

pub trailers_unique : (message : List ℕ) (trailers trailers2 : List TrailerView) → HasTrailers message trailers → HasTrailers message trailers2
    → trailers ≡ trailers2
trailers_unique message trailers trailers2 (block, has, is) (block2, has2, is2) =
    is ∙ ap (λ (bytes : List ℕ). trailers_of_bytes bytes) (trailer_block_unique message block block2 has has2) ∙ sym is2
