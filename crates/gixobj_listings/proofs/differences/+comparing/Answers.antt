-- The changes of a pair of entries, of both sides of it, and of a comparison of two directories: the goals of
-- `changes_at`, `changes_between` and `opened_changes`, which call each other.
use Rattle.std.proofs.Common.{◌≡◌, ◌↔◌, ◌∙◌, ◌++◌, ◌+◌, ◌-◌, [], ◌∷◌, arith, ap, map, subst, sym, true, false, Some}
use Rattle.std.specs.List.{AllByRecursion}
use Rattle.std.specs.Option.{option_copied}
use Rattle.bstr.specs.Owned.{bstring_bytes}
use Rattle.gix_object.specs.Entries.{EntryView}
use Rattle.gix_object.specs.Mode.{is_tree_mode}
use Rattle.gix_object.specs.WellFormed.{IsEntryName}
use Rattle.gixobj_listings.proofs.ChangesErrors.{changes_error_inside, changes_error_of_left, changes_error_of_pair, changes_error_of_right}
use Rattle.gixobj_listings.proofs.ChangesOfPairs.{StartsInPair}
use Rattle.gixobj_listings.proofs.EntryPairs.{all_after_first_pair, order_after_first_pair}
use Rattle.gixobj_listings.proofs.EntryTests.{is_tree_mode_of_test}
use Rattle.gixobj_listings.proofs.FileListings.{all_by_recursion_append}
use Rattle.gixobj_listings.proofs.OrderedChanges.{changes_in_order_snoc, pairs_before_rest, starts_in_pair_snoc}
use Rattle.gixobj_listings.proofs.PairChanges.{changes_snoc}
use Rattle.gixobj_listings.proofs.PairReturns.{added_at_pair, added_in_order, changes_inside_directories, changes_of_added, changes_of_removed}
use Rattle.gixobj_listings.proofs.PairReturns.{changes_of_sides, directories_at_pair, removed_at_pair, removed_in_order}
use Rattle.gixobj_listings.proofs.PairSteps.{left_of_rest, merges_of_nothing, merges_snoc, named_of_starts, right_of_rest, sides_of_first_pair}
use Rattle.gixobj_listings.proofs.Rooted.{if_err_weaken, if_ok_weaken}
use Rattle.gixobj_listings.proofs.StoreChanges.{has_changes_at_equal, has_changes_at_files, has_changes_of_roots}
use Rattle.gixobj_listings.proofs.CompleteMerges.{among_between, have_merge}
use Rattle.gixobj_listings.specs.Changes.{AreChangesInOrder, ChangeView, IsChangeOfPairs, ListsChange, with_name_first}
use Rattle.gixobj_listings.specs.Differences.{IsReadIfAlone, HasChangesAt, IsChangesError, IsChangesErrorAt, pair_view}
use Rattle.gixobj_listings.specs.Roots.{IsRoot}
use Rattle.gixobj_listings.proofs.differences.+comparing.Goals as goal

pub changes_at-returns-in_ok-additions-in-None-Some-clause-changes : goal.changes_at-returns-in_ok-additions-in-None-Some-clause-changes
changes_at-returns-in_ok-additions-in-None-Some-clause-changes g t c =
    let objects = g.S.Store.objects c.args.store.now in
    let before = option_copied c.args.pair.before in
    let after = option_copied c.args.pair.after in
    changes_of_added objects c.args.depth before after c.in-None-Some.after.now c.in_ok-files_at-in-None-Some.field-0.items
    c.in_ok-additions-in-None-Some.field-0.items c.in-None-Some.ensures
    c.in-None-Some.ensures' c.in_ok-additions-in-None-Some.ensures c.in_ok-files_at-in-None-Some.ensures.files

pub changes_at-returns-in_ok-additions-in-None-Some-clause-ordered : goal.changes_at-returns-in_ok-additions-in-None-Some-clause-ordered
changes_at-returns-in_ok-additions-in-None-Some-clause-ordered g t c =
    added_in_order c.in_ok-files_at-in-None-Some.field-0.items c.in_ok-additions-in-None-Some.field-0.items c.in_ok-additions-in-None-Some.ensures
    c.in_ok-files_at-in-None-Some.ensures.ordered

pub changes_at-returns-in_ok-additions-in-None-Some-clause-paths : goal.changes_at-returns-in_ok-additions-in-None-Some-clause-paths
changes_at-returns-in_ok-additions-in-None-Some-clause-paths g t c =
    let before = option_copied c.args.pair.before in
    let after = option_copied c.args.pair.after in
    added_at_pair c.args.depth (bstring_bytes c.args.pair.name.now) before after c.requires.name c.in-None-Some.after.now c.in-None-Some.ensures'
    c.in_ok-files_at-in-None-Some.field-0.items c.in_ok-additions-in-None-Some.field-0.items c.in_ok-additions-in-None-Some.ensures
    c.in_ok-files_at-in-None-Some.ensures.paths

pub changes_at-returns-in_ok-removals-in-Some-None-clause-changes : goal.changes_at-returns-in_ok-removals-in-Some-None-clause-changes
changes_at-returns-in_ok-removals-in-Some-None-clause-changes g t c =
    let objects = g.S.Store.objects c.args.store.now in
    let before = option_copied c.args.pair.before in
    let after = option_copied c.args.pair.after in
    changes_of_removed objects c.args.depth before after c.in-Some-None.before.now c.in_ok-files_at-in-Some-None.field-0.items
    c.in_ok-removals-in-Some-None.field-0.items c.in-Some-None.ensures
    c.in-Some-None.ensures' c.in_ok-removals-in-Some-None.ensures c.in_ok-files_at-in-Some-None.ensures.files

pub changes_at-returns-in_ok-removals-in-Some-None-clause-ordered : goal.changes_at-returns-in_ok-removals-in-Some-None-clause-ordered
changes_at-returns-in_ok-removals-in-Some-None-clause-ordered g t c =
    removed_in_order c.in_ok-files_at-in-Some-None.field-0.items c.in_ok-removals-in-Some-None.field-0.items c.in_ok-removals-in-Some-None.ensures
    c.in_ok-files_at-in-Some-None.ensures.ordered

pub changes_at-returns-in_ok-removals-in-Some-None-clause-paths : goal.changes_at-returns-in_ok-removals-in-Some-None-clause-paths
changes_at-returns-in_ok-removals-in-Some-None-clause-paths g t c =
    let before = option_copied c.args.pair.before in
    let after = option_copied c.args.pair.after in
    removed_at_pair c.args.depth (bstring_bytes c.args.pair.name.now) before after c.requires.name c.in-Some-None.before.now c.in-Some-None.ensures
    c.in_ok-files_at-in-Some-None.field-0.items c.in_ok-removals-in-Some-None.field-0.items c.in_ok-removals-in-Some-None.ensures
    c.in_ok-files_at-in-Some-None.ensures.paths

pub changes_at-returns-in-Some-Some-clause-changes : goal.changes_at-returns-in-Some-Some-clause-changes
changes_at-returns-in-Some-Some-clause-changes g t c =
    let objects = g.S.Store.objects c.args.store.now in
    let before = option_copied c.args.pair.before in
    let after = option_copied c.args.pair.after in
    if_ok_weaken c.changes_between.result _ _ c.changes_between.ensures.changes
    (λ changes are. changes_of_sides objects c.args.depth before after (Some c.in-Some-Some.before.now) (Some c.in-Some-Some.after.now) changes.items
    c.in-Some-Some.ensures c.in-Some-Some.ensures' are)

pub changes_at-returns-in_err-files_at-in-None-Some-clause-error : goal.changes_at-returns-in_err-files_at-in-None-Some-clause-error
changes_at-returns-in_err-files_at-in-None-Some-clause-error g t c =
    let objects = g.S.Store.objects c.args.store.now in
    let may_fail = g.S.Store.may_fail c.args.store.now in
    if_err_weaken c.from_residual.result _ _ c.from_residual.ensures.1
    (λ error is. subst (IsChangesErrorAt objects may_fail c.args.depth (pair_view c.args.pair)) (sym is)
    (changes_error_of_right objects may_fail c.args.depth c.in-None-Some.after.now (option_copied c.args.pair.before) (option_copied c.args.pair.after)
    c.in-None-Some.ensures c.in-None-Some.ensures' c.in_err-files_at-in-None-Some.field-0.0 c.in_err-files_at-in-None-Some.ensures.error))

pub changes_at-returns-in_err-files_at-in-Some-None-clause-error : goal.changes_at-returns-in_err-files_at-in-Some-None-clause-error
changes_at-returns-in_err-files_at-in-Some-None-clause-error g t c =
    let objects = g.S.Store.objects c.args.store.now in
    let may_fail = g.S.Store.may_fail c.args.store.now in
    if_err_weaken c.from_residual-in_err-files_at-in-Some-None.result _ _ c.from_residual-in_err-files_at-in-Some-None.ensures.1
    (λ error is. subst (IsChangesErrorAt objects may_fail c.args.depth (pair_view c.args.pair)) (sym is)
    (changes_error_of_left objects may_fail c.args.depth c.in-Some-None.before.now (option_copied c.args.pair.before) (option_copied c.args.pair.after)
    c.in-Some-None.ensures c.in-Some-None.ensures' c.in_err-files_at-in-Some-None.field-0.0 c.in_err-files_at-in-Some-None.ensures.error))

pub changes_between-returns-in-Err-clause-error : goal.changes_between-returns-in-Err-clause-error
changes_between-returns-in-Err-clause-error g t c =
    let e = c.args.before.now in
    let other = c.args.after.now in
    let e_kind : is_tree_mode e.mode ≡ true = is_tree_mode_of_test _ _ _ _ c.before-2.view_is c.is_tree.ensures c.if-not-is_tree.false in
    let other_kind : is_tree_mode other.mode ≡ true = sym c.requires.name.2 ∙ e_kind in
    changes_error_inside (g.S.Store.objects c.args.store.now) (g.S.Store.may_fail c.args.store.now) c.args.depth _ e _ other c.before-2.view_is
    c.after.view_is (e_kind, c.requires.filled.0) (other_kind, c.requires.filled.1) c.requires.name.1
    (λ same. c.is_same_version.ensures.different c.if-is_same_version.false (ap (λ (y : EntryView). y.mode) same, ap (λ (y : EntryView). y.id) same))
    c.in-Err.error c.within.result (c.in-Err.ensures {u = tt}).error c.within.ensures

pub changes_between-returns-then-is_same_version-clause-changes : goal.changes_between-returns-then-is_same_version-clause-changes
changes_between-returns-then-is_same_version-clause-changes g t c =
    let objects = g.S.Store.objects c.args.store.now in
    let e = c.args.before.now in
    let other = c.args.after.now in
    let same = c.is_same_version.ensures.equal c.if-is_same_version.true in
    subst (HasChangesAt objects c.args.depth (Some e, Some other)) (sym c.new.ensures.items) (has_changes_at_equal objects c.args.depth e other same.0 same.1)

pub changes_between-returns-then-not-is_tree-clause-changes : goal.changes_between-returns-then-not-is_tree-clause-changes
changes_between-returns-then-not-is_tree-clause-changes g t c =
    let objects = g.S.Store.objects c.args.store.now in
    let e = c.args.before.now in
    let other = c.args.after.now in
    let e_kind : is_tree_mode e.mode ≡ false = is_tree_mode_of_test _ _ _ _ c.before-2.view_is c.is_tree.ensures c.if-not-is_tree.true in
    let other_kind : is_tree_mode other.mode ≡ false = sym c.requires.name.2 ∙ e_kind in
    subst (HasChangesAt objects c.args.depth (Some e, Some other)) (sym c.in_ok-one_change.ensures)
    (has_changes_at_files objects c.args.depth e other c.requires.filled.0 c.requires.filled.1 e_kind other_kind
    (λ mode id. c.is_same_version.ensures.different c.if-is_same_version.false (mode, id)))

pub changes_between-returns-in-Ok-clause-changes : goal.changes_between-returns-in-Ok-clause-changes
changes_between-returns-in-Ok-clause-changes g t c =
    let objects = g.S.Store.objects c.args.store.now in
    let e = c.args.before.now in
    let other = c.args.after.now in
    let e_kind : is_tree_mode e.mode ≡ true = is_tree_mode_of_test _ _ _ _ c.before-2.view_is c.is_tree.ensures c.if-not-is_tree.false in
    let other_kind : is_tree_mode other.mode ≡ true = sym c.requires.name.2 ∙ e_kind in
    changes_inside_directories c.id_equality_is_decidable.ensures objects c.args.depth _ _ e other c.before-2.view_is c.after.view_is c.in-Ok.changes.items
    c.requires.filled.0 c.requires.filled.1 e_kind other_kind (c.in-Ok.ensures {u = tt}).read (c.in-Ok.ensures {u = tt}).changes

pub changes_between-returns-in-Ok-clause-paths : goal.changes_between-returns-in-Ok-clause-paths
changes_between-returns-in-Ok-clause-paths g t c =
    let e = c.args.before.now in
    let other = c.args.after.now in
    let e_kind : is_tree_mode e.mode ≡ true = is_tree_mode_of_test _ _ _ _ c.before-2.view_is c.is_tree.ensures c.if-not-is_tree.false in
    let other_kind : is_tree_mode other.mode ≡ true = sym c.requires.name.2 ∙ e_kind in
    directories_at_pair e other e_kind other_kind c.in-Ok.changes.items (c.in-Ok.ensures {u = tt}).paths

pub opened_changes-loop-pair-init : goal.opened_changes-loop-pair-init
opened_changes-loop-pair-init g t c =
    let objects = g.S.Store.objects c.args.store.now in
    let lefts = c.deref-left.result.now in
    let rights = c.deref-right.result.now in
    let left_same : lefts ≡ c.in_ok-before.before = c.deref-left.ensures.value ∙ c.before-2.view_is in
    let right_same : rights ≡ c.in_ok-after.after = c.deref-right.ensures.value ∙ c.after.view_is in
    let from : IsRoot objects c.args.from lefts = subst (IsRoot objects c.args.from) (sym left_same) c.in_ok-before.ensures.found in
    let to : IsRoot objects c.args.to rights = subst (IsRoot objects c.args.to) (sym right_same) c.in_ok-after.ensures.found in
    let none = c.new-changes.ensures.items in
    record {
      left_of = λ e has. has;
      right_of = λ e has. has;
      left_names = from.well_formed.names;
      right_names = to.well_formed.names;
      left_order = from.well_formed.ascending;
      right_order = to.well_formed.ascending;
      merged = (
        [],
        (λ more merged. merged),
        tt,
        tt,
        subst (AllByRecursion (StartsInPair [])) (sym none) tt,
        λ trees fits T n agrees le change. ((λ h. subst (λ changes. ListsChange changes change) none h), λ h. absurd h),
      );
      ordered = subst AreChangesInOrder (sym none) tt;
    }

pub opened_changes-returns-in_err-below-clause-error : goal.opened_changes-returns-in_err-below-clause-error
opened_changes-returns-in_err-below-clause-error g t c =
    let objects = g.S.Store.objects c.args.store.now in
    let lefts = c.deref-left.result.now in
    let rights = c.deref-right.result.now in
    let left_same : lefts ≡ c.in_ok-before.before = c.deref-left.ensures.value ∙ c.before-2.view_is in
    let right_same : rights ≡ c.in_ok-after.after = c.deref-right.ensures.value ∙ c.after.view_is in
    let from : IsRoot objects c.args.from lefts = subst (IsRoot objects c.args.from) (sym left_same) c.in_ok-before.ensures.found in
    let to : IsRoot objects c.args.to rights = subst (IsRoot objects c.args.to) (sym right_same) c.in_ok-after.ensures.found in
    let may_fail = g.S.Store.may_fail c.args.store.now in
    let pair = c.in-Some.pair in
    let first = (c.in-Some.ensures {u = tt}).next.first in
    let now = c.loop-pair.invariant in
    let some = c.if-depth-eq0.false in
    let depth : c.args.depth - 1 + 1 ≡ c.args.depth = omega arith in
    let left = c.loop-pair.left.now in
    let right = c.loop-pair.right.now in
    let sides = sides_of_first_pair left right lefts rights pair first now.left_of now.right_of in
    let pairs = now.merged.0 in
    let more = have_merge pair.left.now pair.right.now in
    let merged = merges_snoc lefts rights left right pair first pairs now.merged.1 more.0 more.1 in
    if_err_weaken c.from_residual-in_err-below.result _ _ c.from_residual-in_err-below.ensures.1
    (λ error is. subst (IsChangesError objects may_fail c.args.depth c.args.from c.args.to) (sym is)
    (subst (λ n. IsChangesError objects may_fail n c.args.from c.args.to c.in_err-below.field-0.0) depth
    (changes_error_of_pair objects may_fail (c.args.depth - 1) c.args.from c.args.to lefts rights from to ((pairs ++ pair_view pair ∷ []) ++ more.0) merged
    (pair_view pair).0 (pair_view pair).1 (among_between pairs (pair_view pair) more.0) sides.0 sides.1
    c.in_err-below.field-0.0 c.in_err-below.ensures.error)))

pub opened_changes-loop-pair-preserved : goal.opened_changes-loop-pair-preserved
opened_changes-loop-pair-preserved g t c =
    let objects = g.S.Store.objects c.args.store.now in
    let lefts = c.deref-left.result.now in
    let rights = c.deref-right.result.now in
    let left_same : lefts ≡ c.in_ok-before.before = c.deref-left.ensures.value ∙ c.before-2.view_is in
    let right_same : rights ≡ c.in_ok-after.after = c.deref-right.ensures.value ∙ c.after.view_is in
    let from : IsRoot objects c.args.from lefts = subst (IsRoot objects c.args.from) (sym left_same) c.in_ok-before.ensures.found in
    let to : IsRoot objects c.args.to rights = subst (IsRoot objects c.args.to) (sym right_same) c.in_ok-after.ensures.found in
    let pair = c.in-Some.pair in
    let next = (c.in-Some.ensures {u = tt}).next in
    let now = c.loop-pair.invariant in
    let left = c.loop-pair.left.now in
    let right = c.loop-pair.right.now in
    let name = bstring_bytes pair.name.now in
    let pairs = now.merged.0 in
    let changes = c.loop-pair.changes.items in
    let below = c.in_ok-below.below.items in
    let added : c.add_before.new.changes.items ≡ changes ++ map (with_name_first name) below = c.in_ok-add_before.ensures in
    let names = all_after_first_pair (λ e. IsEntryName e.name) left right pair next.first now.left_names now.right_names in
    let order = order_after_first_pair left right pair next.first now.left_order now.right_order in
    record {
      left_of = λ e has. now.left_of e (left_of_rest left right pair next.first e has);
      right_of = λ e has. now.right_of e (right_of_rest left right pair next.first e has);
      left_names = names.0;
      right_names = names.1;
      left_order = order.0;
      right_order = order.1;
      merged = (
        pairs ++ pair_view pair ∷ [],
        merges_snoc lefts rights left right pair next.first pairs now.merged.1,
        all_by_recursion_append (IsReadIfAlone objects) pairs (pair_view pair ∷ []) now.merged.2 (c.in_ok-below.ensures.alone, tt),
        pairs_before_rest left right pair next.first now.left_order now.right_order pairs now.merged.3,
        subst (AllByRecursion (StartsInPair (pairs ++ pair_view pair ∷ []))) (sym added)
            (starts_in_pair_snoc pairs (pair_view pair) name next.name changes below now.merged.4 c.in_ok-below.ensures.paths),
        λ trees fits T n agrees le. subst (λ list. (change : ChangeView) → ListsChange list change ↔ IsChangeOfPairs T n (pairs ++ pair_view pair ∷ []) change)
            (sym added) (changes_snoc T n pairs (pair_view pair) name changes below next.name (now.merged.5 trees fits T n agrees le)
            (c.in_ok-below.ensures.changes trees fits T n agrees (omega (arith, le)))),
      );
      ordered = subst AreChangesInOrder (sym added)
          (changes_in_order_snoc left right pair next.first name next.name pairs now.merged.3 changes below now.merged.4 c.in_ok-below.ensures.paths now.ordered
          c.in_ok-below.ensures.ordered);
    }

pub opened_changes-returns-clause-changes : goal.opened_changes-returns-clause-changes
opened_changes-returns-clause-changes g t c =
    let objects = g.S.Store.objects c.args.store.now in
    let lefts = c.deref-left.result.now in
    let rights = c.deref-right.result.now in
    let left_same : lefts ≡ c.in_ok-before.before = c.deref-left.ensures.value ∙ c.before-2.view_is in
    let right_same : rights ≡ c.in_ok-after.after = c.deref-right.ensures.value ∙ c.after.view_is in
    let from : IsRoot objects c.args.from lefts = subst (IsRoot objects c.args.from) (sym left_same) c.in_ok-before.ensures.found in
    let to : IsRoot objects c.args.to rights = subst (IsRoot objects c.args.to) (sym right_same) c.in_ok-after.ensures.found in
    let now = c.loop-pair.invariant in
    let none = c.in_default.ensures.none in
    has_changes_of_roots c.id_equality_is_decidable.ensures objects c.args.depth c.if-depth-eq0.false c.args.from c.args.to lefts rights from to now.merged.0
    (merges_of_nothing lefts rights c.loop-pair.left.now c.loop-pair.right.now none.0 none.1 now.merged.0 now.merged.1) now.merged.2 c.loop-pair.changes.items
    now.merged.5

pub opened_changes-returns-clause-paths : goal.opened_changes-returns-clause-paths
opened_changes-returns-clause-paths g t c =
    let now = c.loop-pair.invariant in
    named_of_starts now.merged.0 c.loop-pair.changes.items now.merged.4
