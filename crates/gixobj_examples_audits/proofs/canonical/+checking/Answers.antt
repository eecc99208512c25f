use Rattle.std.proofs.Common.{◌≡◌, ◌∙◌, ◌-◌, ◌≢◌, [], ap, length, refl, subst, sym, take, true, false}
use Rattle.std.specs.List.{AllByRecursion}
use Rattle.std.proofs.lemmas.Bool.{eq-eqb}
use Rattle.std.proofs.lemmas.List.{take_all}
use Rattle.gix_object.specs.Files.{is_null}
use Rattle.gix_object.specs.Mode.{is_tree_mode}
use Rattle.gixobj_listings.specs.Roots.{IsRoot}
use Rattle.gixobj_examples_audits.specs.Canonical.{IsCanonicalTree, IsCanonicalEntry, IsUnreadBelow}
use Rattle.gixobj_examples_audits.proofs.StoredTrees.{all_take_snoc, canonical_of_directory, canonical_of_entries, entry_is_null_of_test, error_below_tree}
use Rattle.gixobj_examples_audits.proofs.StoredTrees.{error_of_directory, if_err_weaken, is_tree_mode_of_test, not_canonical_of_entry, not_canonical_of_null}
use Rattle.gixobj_examples_audits.proofs.canonical.+checking.Goals as goal

pub is_canonical_entry-returns-then-is_null-clause-canonical : goal.is_canonical_entry-returns-then-is_null-clause-canonical
is_canonical_entry-returns-then-is_null-clause-canonical g t c = λ trees fits.
    not_canonical_of_null trees c.args.hash c.args.depth c.args.entry.now
    (entry_is_null_of_test c.null_id_test_decides.ensures _ _ _ _ c.entry.view_is c.is_null.ensures c.if-is_null.true)

pub is_canonical_entry-returns-clause-canonical : goal.is_canonical_entry-returns-clause-canonical
is_canonical_entry-returns-clause-canonical g t c =
    let some : is_null c.args.entry.now.id ≡ false =
    entry_is_null_of_test c.null_id_test_decides.ensures _ _ _ _ c.entry.view_is c.is_null.ensures c.if-is_null.false in
    let is : is_tree_mode c.args.entry.now.mode ≡ true = is_tree_mode_of_test _ _ _ _ c.entry.view_is c.is_tree.ensures c.if-not-is_tree.false in
    canonical_of_directory (g.S.Store.objects c.args.store.now) c.args.hash c.args.depth _ c.args.entry.now c.entry.view_is some is
    (c.is_plain_directory.ensures.0 c.if-not-is_plain_directory.false) c.is_canonical_tree.result c.is_canonical_tree.ensures.canonical

pub is_canonical_entry-returns-clause-error : goal.is_canonical_entry-returns-clause-error
is_canonical_entry-returns-clause-error g t c =
    let some : is_null c.args.entry.now.id ≡ false =
    entry_is_null_of_test c.null_id_test_decides.ensures _ _ _ _ c.entry.view_is c.is_null.ensures c.if-is_null.false in
    let is : is_tree_mode c.args.entry.now.mode ≡ true = is_tree_mode_of_test _ _ _ _ c.entry.view_is c.is_tree.ensures c.if-not-is_tree.false in
    error_of_directory (g.S.Store.objects c.args.store.now) (g.S.Store.may_fail c.args.store.now) c.args.hash c.args.depth _ c.args.entry.now
    c.entry.view_is some is (c.is_plain_directory.ensures.0 c.if-not-is_plain_directory.false) c.is_canonical_tree.result c.is_canonical_tree.ensures.error

pub is_canonical_tree-returns-in_err-tree-clause-error : goal.is_canonical_tree-returns-in_err-tree-clause-error
is_canonical_tree-returns-in_err-tree-clause-error g t c =
    if_err_weaken c.from_residual.result _ _ c.from_residual.ensures.1
    (λ error is. subst (IsUnreadBelow (g.S.Store.objects c.args.store.now) (g.S.Store.may_fail c.args.store.now) c.args.hash c.args.depth c.args.id) (sym is)
    ([], (c.if-depth-eq0.false, c.is_looked_up.ensures.0 c.if-not-is_looked_up.false, c.in_err-tree.ensures.error)))

pub is_canonical_tree-returns-in_err-is_canonical_entry-clause-error : goal.is_canonical_tree-returns-in_err-is_canonical_entry-clause-error
is_canonical_tree-returns-in_err-is_canonical_entry-clause-error g t c =
    let objects = g.S.Store.objects c.args.store.now in
    let may_fail = g.S.Store.may_fail c.args.store.now in
    let items = c.deref-entry-items.result.now in
    let same : items ≡ c.in_ok-tree.tree = c.deref-entry-items.ensures.value ∙ c.tree.view_is in
    let root : IsRoot objects c.args.id items = subst (IsRoot objects c.args.id) (sym same) c.in_ok-tree.ensures.found in
    if_err_weaken c.from_residual-in_err-is_canonical_entry.result _ _ c.from_residual-in_err-is_canonical_entry.ensures.1
    (λ error is. subst (IsUnreadBelow objects may_fail c.args.hash c.args.depth c.args.id) (sym is)
    (error_below_tree objects may_fail c.args.hash c.args.depth c.if-depth-eq0.false c.args.id (c.is_looked_up.ensures.0 c.if-not-is_looked_up.false) items
    root c.loop-entry.entry-index c.entry-item.result c.loop-entry-test.true c.entry-item.is c.loop-entry.invariant
    c.in_err-is_canonical_entry.field-0.0 c.in_err-is_canonical_entry.ensures.error))

pub is_canonical_tree-returns-then-not-branch-clause-canonical : goal.is_canonical_tree-returns-then-not-branch-clause-canonical
is_canonical_tree-returns-then-not-branch-clause-canonical g t c = λ trees fits.
    let objects = g.S.Store.objects c.args.store.now in
    let items = c.deref-entry-items.result.now in
    let same : items ≡ c.in_ok-tree.tree = c.deref-entry-items.ensures.value ∙ c.tree.view_is in
    let root : IsRoot objects c.args.id items = subst (IsRoot objects c.args.id) (sym same) c.in_ok-tree.ensures.found in
    not_canonical_of_entry objects trees fits c.args.hash c.args.id items (c.is_looked_up.ensures.0 c.if-not-is_looked_up.false) root
    c.args.depth c.loop-entry.entry-index c.entry-item.result c.loop-entry-test.true c.entry-item.is c.in_ok-is_canonical_entry.field-0
    (c.in_ok-is_canonical_entry.ensures.canonical trees fits) c.if-not-branch.true

pub is_canonical_tree-loop-entry-preserved : goal.is_canonical_tree-loop-entry-preserved
is_canonical_tree-loop-entry-preserved g t c = λ trees fits.
    all_take_snoc (IsCanonicalEntry trees c.args.hash (IsCanonicalTree trees c.args.hash (c.args.depth - 1))) c.deref-entry-items.result.now
    c.loop-entry.entry-index c.entry-item.result c.loop-entry-test.true c.entry-item.is (c.loop-entry.invariant trees fits)
    ((c.in_ok-is_canonical_entry.ensures.canonical trees fits).0 c.if-not-branch.false)

pub is_canonical_tree-returns-clause-canonical : goal.is_canonical_tree-returns-clause-canonical
is_canonical_tree-returns-clause-canonical g t c = λ trees fits.
    let objects = g.S.Store.objects c.args.store.now in
    let items = c.deref-entry-items.result.now in
    let same : items ≡ c.in_ok-tree.tree = c.deref-entry-items.ensures.value ∙ c.tree.view_is in
    let root : IsRoot objects c.args.id items = subst (IsRoot objects c.args.id) (sym same) c.in_ok-tree.ensures.found in
    let all : take c.loop-entry.entry-index items ≡ items = take_all c.loop-entry.entry-index items c.loop-entry-test.false in
    let filled : items ≢ [] = λ none.
    let zero = eq-eqb _ 0 (sym c.deref-entry-items.ensures.len ∙ ap length none) in
    let test = c.is_empty.ensures in
    let otherwise = c.if-is_empty.false in
    cc (zero, test, otherwise) in (
      (λ yes. canonical_of_entries objects trees fits c.args.hash c.args.id items (c.is_looked_up.ensures.0 c.if-not-is_looked_up.false) root c.args.depth
          c.if-depth-eq0.false filled (subst (AllByRecursion (IsCanonicalEntry trees c.args.hash (IsCanonicalTree trees c.args.hash (c.args.depth - 1)))) all
          (c.loop-entry.invariant trees fits))),
      λ is. refl,
    )
