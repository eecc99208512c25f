-- A scan of all lines of a body ends at its last run, whose counts decide where a trailer block starts; the functions
-- of `scan` use these lemmas.
use Rattle.std.proofs.Common.{◌*◌, ◌++◌, ◌+◌, ◌<◌, ◌∙◌, ◌∷◌, ◌≡◌, ◌≢◌, ◌≤◌, ◌⊎◌, All, Bool, List, [], ap, append-nil, append_assoc, arith, false, inl, inr}
use Rattle.std.proofs.Common.{length, length-append, refl, subst, sym, true, ℕ}
use Rattle.std.proofs.lemmas.List.Elements.{All-head, All-tail}
use Rattle.std.proofs.lemmas.List.Folds.{concat-append}
use Rattle.std.specs.Prelude.{IsTrue, ◌↔◌}
use Rattle.std.specs.List.{concat}
use Rattle.bstr.specs.Text.{lines_of}
use Rattle.bstr.proofs.lemmas.LineLemmas.{lines-nil}
use Rattle.gixobj_text.specs.RunCounts.{Counts}
use Rattle.gixobj_text.specs.FirstLines.{IsFirstLine}
use Rattle.gixobj_text.specs.BodyLines.{is_blank, trimmed_line}
use Rattle.gixobj_text.specs.Scanned.{EndsAfter, HasRun, IsWalked, Scanned}
use Rattle.gixobj_text.specs.TrailerBlocks.{EndsBlank, IsTrailerBlock, IsTrailerBlockStart, IsLastRun, StartsAfter, count_others, trailer_count}
use Rattle.gixobj_text.specs.declared.commit.message.body.line_counts.LineCounts.{LineCounts}
use Rattle.gixobj_text.specs.declared.commit.message.body.scan.Scan.{Scan}
use Rattle.gixobj_text.proofs.LastRuns.{Parts, parts_of_last_run}
use Rattle.gixobj_text.proofs.OneLine.{Blank, Filled, Lines, all_snoc, is_last_run_snoc_blank, ends_blank_snoc, is_last_run_snoc_first, is_last_run_snoc_filled}

-- ---- one more line

concat_len_snoc : (lines : Lines) (line : List ℕ) (position : ℕ) → position ≡ length (concat lines)
    → position + length line ≡ length (concat (lines ++ line ∷ []))
concat_len_snoc lines line position is =
    let joined : length (concat (lines ++ line ∷ [])) ≡ length (concat lines ++ (line ++ [])) = ap length (concat-append lines (line ∷ [])) in
    let first : length (concat lines ++ (line ++ [])) ≡ length (concat lines) + length (line ++ []) = length-append (concat lines) (line ++ []) in
    let second : length (line ++ []) ≡ length line + 0 = length-append line [] in
    omega arith

-- a block after a blank line starts after the content of the line before it
starts_after_snoc : (lines : Lines) (blank : List ℕ) (end : ℕ) → EndsAfter lines end → StartsAfter (lines ++ blank ∷ []) end
starts_after_snoc lines blank end (inl (none, is)) = inr (inl (blank, ap (λ (ls : Lines). ls ++ blank ∷ []) none, is))
starts_after_snoc lines blank end (inr (prefix, line, joined, is)) =
    inr (inr (prefix, line, blank, ap (λ (ls : Lines). ls ++ blank ∷ []) joined ∙ append_assoc prefix (line ∷ []) (blank ∷ []), is))

ends_after_snoc : (lines : Lines) (line : List ℕ) (position end : ℕ) → position ≡ length (concat lines) → end ≡ position + length (trimmed_line line)
    → EndsAfter (lines ++ line ∷ []) end
ends_after_snoc lines line position end at is = inr (lines, line, refl, is ∙ ap (λ (n : ℕ). n + length (trimmed_line line)) at)

has_run_snoc_blank : (lines : Lines) (line : List ℕ) (old new : Scan) → Blank line → HasRun lines old → new.going ≡ false → new.start ≡ old.start
    → new.run ≡ old.run → HasRun (lines ++ line ∷ []) new
has_run_snoc_blank lines line old new blank it going start run = record {
  before = it.before;
  run = it.run;
  after = it.after ++ line ∷ [];
  last = is_last_run_snoc_blank lines it.before it.run it.after line blank it.last;
  going = λ is. cc (going, is);
  starts = subst (λ (n : ℕ). StartsAfter it.before n) (sym start) it.starts;
  counts = subst (λ (r : LineCounts). Counts it.run r) (sym run) it.counts;
}

pub scanned_snoc_blank : (lines : Lines) (line : List ℕ) (old new : Scan) → Scanned lines old → Blank line
    → new.position ≡ old.position + length line → new.last ≡ old.position + length (trimmed_line line) → new.next ≡ old.last → new.start ≡ old.start
    → new.going ≡ false
    → new.some ≡ old.some → new.run ≡ old.run
    → Scanned (lines ++ line ∷ []) new
scanned_snoc_blank lines line old new it blank position last next start going some run = record {
  position = position ∙ concat_len_snoc lines line old.position it.position;
  last = ends_after_snoc lines line old.position new.last it.position last;
  next = λ is. (
    subst (λ (n : ℕ). StartsAfter (lines ++ line ∷ []) n) (sym next) (starts_after_snoc lines line old.last it.last),
    ends_blank_snoc lines line blank,
  );
  none = λ is. (all_snoc Blank lines line (it.none (sym some ∙ is)).0 blank, going);
  some = λ is. has_run_snoc_blank lines line old new blank (it.some (sym some ∙ is)) going start run;
}

has_run_snoc_filled : (lines : Lines) (line : List ℕ) (old new : Scan) → Filled line → (it : HasRun lines old) → it.after ≡ [] → new.start ≡ old.start
    → Counts (it.run ++ line ∷ []) new.run → HasRun (lines ++ line ∷ []) new
has_run_snoc_filled lines line old new filled it none start counts = record {
  before = it.before;
  run = it.run ++ line ∷ [];
  after = [];
  last = is_last_run_snoc_filled lines it.before it.run line filled (subst (λ (after : Lines). IsLastRun lines it.before it.run after) none it.last);
  going = λ is. refl;
  starts = subst (λ (n : ℕ). StartsAfter it.before n) (sym start) it.starts;
  counts = counts;
}

some_of_going : (some going : Bool) → (some ≡ false → going ≡ false) → going ≡ true → some ≡ true
some_of_going true going none is = refl
some_of_going false going none is = cc (none refl, is)

pub scanned_snoc_filled : (lines : Lines) (line : List ℕ) (old new : Scan) → Scanned lines old → Filled line → old.going ≡ true
    → new.position ≡ old.position + length line → new.last ≡ old.position + length (trimmed_line line) → new.start ≡ old.start → new.going ≡ true
    → new.some ≡ true
    → ((run : Lines) → Counts run old.run → Counts (run ++ line ∷ []) new.run)
    → Scanned (lines ++ line ∷ []) new
scanned_snoc_filled lines line old new it filled goes position last start going some counts =
    let was : HasRun lines old = it.some (some_of_going old.some old.going (λ none. (it.none none).1) goes) in
    record {
      position = position ∙ concat_len_snoc lines line old.position it.position;
      last = ends_after_snoc lines line old.position new.last it.position last;
      next = λ is. cc (going, is);
      none = λ is. cc (some, is);
      some = λ is. has_run_snoc_filled lines line old new filled was (was.going goes) start (counts was.run was.counts);
    }

has_run_snoc_first : (lines : Lines) (line : List ℕ) (old new : Scan) → Filled line → StartsAfter lines old.next → EndsBlank lines → new.start ≡ old.next
    → Counts (line ∷ []) new.run → HasRun (lines ++ line ∷ []) new
has_run_snoc_first lines line old new filled starts ends start counts = record {
  before = lines;
  run = line ∷ [];
  after = [];
  last = is_last_run_snoc_first lines line filled ends;
  going = λ is. refl;
  starts = subst (λ (n : ℕ). StartsAfter lines n) (sym start) starts;
  counts = counts;
}

pub scanned_snoc_first : (lines : Lines) (line : List ℕ) (old new : Scan) → Scanned lines old → Filled line → old.going ≡ false
    → new.position ≡ old.position + length line → new.last ≡ old.position + length (trimmed_line line) → new.start ≡ old.next → new.going ≡ true
    → new.some ≡ true
    → Counts (line ∷ []) new.run
    → Scanned (lines ++ line ∷ []) new
scanned_snoc_first lines line old new it filled goes position last start going some counts = record {
  position = position ∙ concat_len_snoc lines line old.position it.position;
  last = ends_after_snoc lines line old.position new.last it.position last;
  next = λ is. cc (going, is);
  none = λ is. cc (some, is);
  some = λ is. has_run_snoc_first lines line old new filled (it.next goes).0 (it.next goes).1 start counts;
}

-- ---- the scan

pub is_walked_nil : (body : List ℕ) (it : Scan) → Scanned [] it → it.position ≡ 0 → it.run.trailers ≤ 0 → it.run.others ≤ 0 → IsWalked body body it
is_walked_nil body it scanned position trailers other = record {
  lines = [];
  joined = refl;
  scanned = scanned;
  position = omega arith;
  trailers = omega arith;
  others = omega arith;
}

pub is_walked_snoc : (body bytes line rest : List ℕ) (old new : Scan) → IsWalked body bytes old → IsFirstLine bytes line rest
    → ((lines : Lines) → Scanned lines old → Scanned (lines ++ line ∷ []) new)
    → new.position ≡ old.position + length line → new.run.trailers ≤ new.position → new.run.others ≤ new.position
    → IsWalked body rest new
is_walked_snoc body bytes line rest old new it first step position trailers other =
    let joined : length bytes ≡ length line + length rest = ap length first.joined ∙ length-append line rest in
    let before : old.position + length bytes ≡ length body = it.position in
    record {
      lines = it.lines ++ line ∷ [];
      joined = it.joined ∙ ap (λ (ls : Lines). it.lines ++ ls) first.lines ∙ sym (append_assoc it.lines (line ∷ []) (lines_of rest));
      scanned = step it.lines it.scanned;
      position = omega arith;
      trailers = trailers;
      others = other;
    }

pub scanned_of_walked : (body rest : List ℕ) (it : Scan) → IsWalked body rest it → rest ≡ [] → Scanned (lines_of body) it
scanned_of_walked body rest it walked none =
    subst (λ (ls : Lines). Scanned ls it)
    (sym (walked.joined ∙ ap (λ (bytes : List ℕ). walked.lines ++ lines_of bytes) none ∙ ap (λ (ls : Lines). walked.lines ++ ls) lines-nil
    ∙ append-nil walked.lines)) walked.scanned

-- ---- the end of the scan

-- the counts describe a trailer block
abbrev SaysBlock : LineCounts → Type 0
SaysBlock it = ((0 < it.trailers) × (it.others ≡ 0)) ⊎ (IsTrue it.recognised × (it.others ≤ 3 * it.trailers))

trailer_block_of_counts : (run : Lines) (it : LineCounts) → Counts run it → SaysBlock it → IsTrailerBlock run
trailer_block_of_counts run it counts (inl (some, none)) = inl (subst (λ (n : ℕ). 0 < n) counts.trailers some, sym counts.others ∙ none)
trailer_block_of_counts run it counts (inr (is, bound)) =
    inr (
      sym counts.recognised ∙ is,
      subst (λ (n : ℕ). n ≤ 3 * trailer_count run) counts.others
          (subst (λ (n : ℕ). it.others ≤ 3 * n) counts.trailers bound),
    )

says_block_of_trailer_block : (run : Lines) (it : LineCounts) → Counts run it → IsTrailerBlock run → SaysBlock it
says_block_of_trailer_block run it counts (inl (some, none)) = inl (subst (λ (n : ℕ). 0 < n) (sym counts.trailers) some, counts.others ∙ none)
says_block_of_trailer_block run it counts (inr (is, bound)) =
    inr (
      counts.recognised ∙ is,
      subst (λ (n : ℕ). n ≤ 3 * it.trailers) (sym counts.others)
          (subst (λ (n : ℕ). count_others false run ≤ 3 * n) (sym counts.trailers) bound),
    )

pub is_block_start_at_run : (body : List ℕ) (it : Scan) (is : Bool) → Scanned (lines_of body) it → it.some ≡ true → (IsTrue is ↔ SaysBlock it.run) → is ≡ true
    → IsTrailerBlockStart body it.start
is_block_start_at_run body it is scanned some says so =
    let has : HasRun (lines_of body) it = scanned.some some in
    inl (record {
      before = has.before;
      run = has.run;
      after = has.after;
      last = has.last;
      block = trailer_block_of_counts has.run it.run has.counts (says.0 so);
      starts = has.starts;
    })

-- lines have at most one last run
last_run_unique : (lines before run after before2 run2 after2 : Lines) → IsLastRun lines before run after → IsLastRun lines before2 run2 after2 → run2 ≡ run
last_run_unique lines before run after before2 run2 after2 one other =
    ap (λ (it : Parts). it.run) (sym (parts_of_last_run lines before2 run2 after2 other) ∙ parts_of_last_run lines before run after one)

pub is_block_start_at_end : (body : List ℕ) (it : Scan) (is : Bool) → Scanned (lines_of body) it → it.some ≡ true → (IsTrue is ↔ SaysBlock it.run)
    → is ≡ false
    → IsTrailerBlockStart body (length body)
is_block_start_at_end body it is scanned some says not =
    let has : HasRun (lines_of body) it = scanned.some some in
    inr (
      λ before run after last block.
          let same : run ≡ has.run = last_run_unique (lines_of body) has.before has.run has.after before run after has.last last in
          let so : is ≡ true = says.1 (says_block_of_trailer_block has.run it.run has.counts (subst IsTrailerBlock same block)) in
          cc (so, not),
      refl,
    )

-- blank lines have no run
no_filled_run_in_blank_lines : (before run after : Lines) → run ≢ [] → All Filled run → All Blank (before ++ run ++ after) → ⊥
no_filled_run_in_blank_lines before [] after some filled blank = some refl
no_filled_run_in_blank_lines [] (line ∷ run) after some filled blank =
    let is : is_blank line ≡ true = All-head Blank line (run ++ after) blank in
    let not : is_blank line ≡ false = All-head Filled line run filled in
    cc (is, not)
no_filled_run_in_blank_lines (one ∷ before) (line ∷ run) after some filled blank = no_filled_run_in_blank_lines before (line ∷ run) after some filled
    (All-tail Blank one (before ++ (line ∷ run) ++ after) blank)

pub is_block_start_without_run : (body : List ℕ) (it : Scan) → Scanned (lines_of body) it → it.some ≡ false → IsTrailerBlockStart body (length body)
is_block_start_without_run body it scanned none =
    inr (
      λ before run after last block. no_filled_run_in_blank_lines before run after last.some last.none_blank
          (subst (λ (ls : Lines). All Blank ls) last.joined (scanned.none none).0),
      refl,
    )
