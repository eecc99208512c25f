-- Stores that keep trees, and tables that agree with them.
use Rattle.std.proofs.Common.{◌≡◌, ◌+◌, ℕ, zero, suc, List, [], ◌∷◌, ◌++◌, Some, ap, length, refl, subst, sym, take, ◌∙◌}
use Rattle.std.proofs.Math.Seq.{take-append-add}
use Rattle.gixobj_store.specs.Stores.{Objects}
use Rattle.gixobj_editor_files.specs.Files.{Table}
use Rattle.gixobj_tree_entries.specs.Entries.{Pair}
use Rattle.gixobj_editor_files.specs.Tables.{AgreesWithPairs}
use Rattle.gixobj_store_keep.proofs.Trees.{with_trees_append}
use Rattle.gixobj_store_keep.specs.Keeping.{with_trees}
use Rattle.gixobj_editor.specs.RunTables.{AgreesWithObjects}
use Rattle.gixobj_editor.proofs.KeptPairs.{all_first, all_then}

-- keeping two lists of trees, one after the other, is keeping their concatenation
pub with_trees_append_stored : (first then : List Pair) (old between new : Objects) → between ≡ with_trees first old → new ≡ with_trees then between
    → new ≡ with_trees (first ++ then) old
with_trees_append_stored first then old between new before after = after ∙ ap (with_trees then) before ∙ sym (with_trees_append first then old)

pub agrees_with_prefix : (T : Table) (first then : List Pair) → AgreesWithPairs T (first ++ then) → AgreesWithPairs T first
agrees_with_prefix T = all_first (λ pair. T.tree_at pair.0 ≡ Some pair.1)

pub agrees_with_suffix : (T : Table) (first then : List Pair) → AgreesWithPairs T (first ++ then) → AgreesWithPairs T then
agrees_with_suffix T = all_then (λ pair. T.tree_at pair.0 ≡ Some pair.1)

-- each prefix of a prefix is a prefix of the entire list
take_is_take_of_append : (xs ys : List Pair) (count : ℕ) → (some : ℕ) × (take some (xs ++ ys) ≡ take count xs)
take_is_take_of_append [] ys zero = (zero, refl)
take_is_take_of_append [] ys (suc count) = (zero, refl)
take_is_take_of_append (x ∷ xs) ys zero = (zero, refl)
take_is_take_of_append (x ∷ xs) ys (suc count) = let later = take_is_take_of_append xs ys count in (suc later.0, ap (λ (rest : List Pair). x ∷ rest) later.1)

-- the table agrees with the store after each number of these trees is kept
abbrev pub AgreesThroughout : Table → List Pair → Objects → Type 0
AgreesThroughout T pairs objects = (count : ℕ) → AgreesWithObjects T (with_trees (take count pairs) objects)

pub agrees_throughout_prefix : (T : Table) (first then : List Pair) (objects : Objects) → AgreesThroughout T (first ++ then) objects
    → AgreesThroughout T first objects
agrees_throughout_prefix T first then objects agrees count =
    let some = take_is_take_of_append first then count in
    subst (λ (pairs : List Pair). AgreesWithObjects T (with_trees pairs objects)) some.1 (agrees some.0)

pub agrees_throughout_suffix : (T : Table) (first then : List Pair) (old new : Objects) → new ≡ with_trees first old → AgreesThroughout T (first ++ then) old
    → AgreesThroughout T then new
agrees_throughout_suffix T first then old new kept agrees count =
    subst (λ (objects : Objects). AgreesWithObjects T (with_trees (take count then) objects)) (sym kept)
    (subst (AgreesWithObjects T) (with_trees_append first (take count then) old)
    (subst (λ (pairs : List Pair). AgreesWithObjects T (with_trees pairs old)) (take-append-add first then count) (agrees (length first + count))))
