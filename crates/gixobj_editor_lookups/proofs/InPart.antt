-- Directories on a path that are opened in part, by the end of the opening: for `Edited`, `Removing`, `RemovedAt` and
-- `CursorPrefixes`.
use Rattle.std.proofs.Common.{true, ◌≡◌, ◌∙◌, ◌≤◌, ℕ, Bool, List, [], ◌∷◌, ◌++◌, Option, Some, None, append-nil, append_assoc, arith, length, refl, sym, ap}
use Rattle.std.proofs.Common.{subst}
use Rattle.gixobj_tree_entries.specs.Entries.{EntryView}
use Rattle.gixobj_hash.specs.declared.hash.object_id.ObjectId.{ObjectId}
use Rattle.gixobj_editor_files.specs.Edits.{Opens, arrived, counted}
use Rattle.gixobj_editor_files.specs.Files.{Path, Trees}
use Rattle.gixobj_editor_files.specs.OpeningStops.{CountsEachLookup, StopsOpening, IsNextUnopened}
use Rattle.gixobj_editor_files.specs.Opening.{Dirs}
use Rattle.gixobj_editor_files.specs.Unopened.{is_unopened, looked_up_entry, unopened_count}
use Rattle.gixobj_editor_files.proofs.StoppedOpenings.{failed_ids, halted_count, halts_next, halts_opens}
use Rattle.gixobj_editor_files.proofs.UnopenedCounts.{opens_at_most}
use Rattle.gixobj_store.specs.Stores.{Objects}
use Rattle.gixobj_editor_lookups.specs.Openings.{IsOpenErrorAt}
use Rattle.gixobj_editor_lookups.specs.declared.opening.Error as directory
use Rattle.gixobj_editor_lookups.specs.FailedOpenings.{IsErrorAfterLookup, IsLookupError, OpensInPart, edit_error}
use Rattle.gixobj_editor_lookups.specs.declared.error.Error.{Error}

-- the next directory on a path is the next on each longer path
is_next_unopened_append : (trees : Trees) (dirs : Dirs) (head more after : Path) (it : ObjectId) → IsNextUnopened trees dirs head more it
    → IsNextUnopened trees dirs head (more ++ after) it
is_next_unopened_append trees dirs head more after it (name, rest, e, is, unopened, seen, named) =
    (name, rest ++ after, e, ap (λ p. p ++ after) is, unopened, seen, named)

-- the error of an opening that halts, by the lookup that failed
error_after_lookup_of_open_error : (objects : Objects) (may_fail : ObjectId → Bool) (failed_lookup : Option ObjectId) (why : directory.Error)
    → IsOpenErrorAt objects may_fail failed_lookup why → IsErrorAfterLookup objects may_fail (failed_ids failed_lookup) (edit_error why)
error_after_lookup_of_open_error objects may_fail None why at = subst (λ (e : directory.Error). IsLookupError (edit_error e) → ⊥) (sym at) (λ it. it)
error_after_lookup_of_open_error objects may_fail (Some id) why at = (why, at, refl)

module _ {StopsBefore : EntryView → Type 0} (objects : Objects) (may_fail : ObjectId → Bool) (trees : Trees) where
  -- nothing was opened
  pub none_in_part : (path : Path) (dirs : Dirs) (n : ℕ) (failure : Error) → (¬ IsLookupError failure)
      → OpensInPart StopsBefore objects may_fail trees path dirs dirs n n failure
  none_in_part path dirs n failure other = record {
    reached = [];
    more = path;
    on_the_way = refl;
    looked_up = [];
    opens = arrived dirs;
    failed_lookup = [];
    cause = other;
    next = λ it is. absurd (cc is);
    lookups = refl;
    at_most_unopened = omega arith;
  }

  -- the directories on a prefix were opened, and each lookup succeeded
  pub prefix_in_part : (path head more : Path) → path ≡ head ++ more → (old new : Dirs) (queries : List ObjectId) → Opens StopsBefore trees head old new queries
      → length queries ≤ unopened_count trees old path → (n m : ℕ) → m ≡ counted n queries → (failure : Error) → (¬ IsLookupError failure)
      → OpensInPart StopsBefore objects may_fail trees path old new n m failure
  prefix_in_part path head more is old new queries opens at_most n m count failure other = record {
    reached = head;
    more = more;
    on_the_way = is;
    looked_up = queries;
    opens = opens;
    failed_lookup = [];
    cause = other;
    next = λ it is. absurd (cc is);
    lookups = count ∙ ap (counted n) (sym (append-nil queries));
    at_most_unopened = subst (λ ids. length ids ≤ unopened_count trees old path) (sym (append-nil queries)) at_most;
  }

  pub opened_in_part : (path head : Path) (last : List ℕ) (after : Path) → path ≡ head ++ last ∷ after → (old new : Dirs) (queries : List ObjectId)
      → Opens StopsBefore trees head old new queries → (n m : ℕ) → m ≡ counted n queries → (failure : Error) → (¬ IsLookupError failure)
      → OpensInPart StopsBefore objects may_fail trees path old new n m failure
  opened_in_part path head last after is old new queries opens n m count failure other =
      prefix_in_part path head (last ∷ after) is old new queries opens
      (subst (λ p. length queries ≤ unopened_count trees old p) (sym is) (opens_at_most trees head last after old new queries opens)) n m count failure other

  -- the opening halted
  pub halted_in_part : (path head : Path) (last : List ℕ) (after : Path) → path ≡ head ++ last ∷ after
      → (old new : Dirs) (queries : List ObjectId) (failed_lookup : Option ObjectId)
      → StopsOpening StopsBefore trees head old new queries failed_lookup → (n m : ℕ) → m ≡ counted n queries
      → (why : directory.Error) → IsOpenErrorAt objects may_fail failed_lookup why
      → OpensInPart StopsBefore objects may_fail trees path old new n m (edit_error why)
  halted_in_part path head last after is old new queries failed_lookup halts n m count why at =
      let came = halts_opens trees head old new queries failed_lookup halts in
      record {
        reached = came.0;
        more = came.1 ++ last ∷ after;
        on_the_way = is ∙ ap (λ p. p ++ last ∷ after) came.4 ∙ append_assoc came.0 came.1 (last ∷ after);
        looked_up = came.2;
        opens = came.5;
        failed_lookup = came.3;
        cause = subst (λ ids. IsErrorAfterLookup objects may_fail ids (edit_error why)) (sym came.7)
            (error_after_lookup_of_open_error objects may_fail failed_lookup why at);
        next = λ it is. is_next_unopened_append trees old came.0 came.1 (last ∷ after) it (came.8 it is);
        lookups = count ∙ ap (counted n) came.6;
        at_most_unopened = subst (λ ids. length ids ≤ unopened_count trees old path) came.6
            (subst (λ p. length queries ≤ unopened_count trees old p) (sym is) (halted_count trees head last after old new queries failed_lookup halts));
      }

-- each lookup of an opening is counted
module _ {StopsBefore : EntryView → Type 0} (trees : Trees) where
  -- the opening halted
  pub halted_counts : (path head : Path) (last : List ℕ) (after : Path) → path ≡ head ++ last ∷ after
      → (old new : Dirs) (queries : List ObjectId) (failed_lookup : Option ObjectId)
      → StopsOpening StopsBefore trees head old new queries failed_lookup → (n m : ℕ) → m ≡ counted n queries
      → CountsEachLookup StopsBefore trees path old new n m
  halted_counts path head last after is old new queries failed_lookup halts n m count =
      let r = halts_next trees head old new queries failed_lookup halts in
      record {
        reached = r.0;
        more = r.1 ∷ (r.2 ++ last ∷ after);
        on_the_way = is ∙ ap (λ p. p ++ last ∷ after) r.4 ∙ append_assoc r.0 (r.1 ∷ r.2) (last ∷ after);
        looked_up = r.3;
        opens = r.5;
        last_lookup = failed_ids failed_lookup;
        lookups = count ∙ ap (counted n) r.6;
        next = λ it (name, next, rest, e, more_is, unopened, seen, named).
            let same : r.1 ≡ name = cc more_is in
            r.7 e (subst (λ w. is_unopened trees old (r.0 ++ w ∷ []) ≡ true) (sym same) unopened)
            (subst (λ w. looked_up_entry trees (r.0 ++ w ∷ []) old ≡ Some e) (sym same) seen)
            ∙ ap (λ (x : ObjectId). x ∷ []) named;
      }

  -- the directories above the last name are opened
  pub opened_counts : (path head : Path) (last : List ℕ) → path ≡ head ++ last ∷ [] → (old new : Dirs) (queries : List ObjectId)
      → Opens StopsBefore trees head old new queries → (n m : ℕ) → m ≡ counted n queries → CountsEachLookup StopsBefore trees path old new n m
  opened_counts path head last is old new queries opens n m count = record {
    reached = head;
    more = last ∷ [];
    on_the_way = is;
    looked_up = queries;
    opens = opens;
    last_lookup = [];
    lookups = count ∙ ap (counted n) (sym (append-nil queries));
    next = λ it (name, next, rest, e, more_is, unopened, seen, named). absurd (cc more_is);
  }
