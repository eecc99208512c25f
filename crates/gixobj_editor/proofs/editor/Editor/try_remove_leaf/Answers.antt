-- The directories above the path are opened as far as they exist, and then the leaf is removed: the clauses of
-- `try_remove_leaf`.
use Rattle.std.proofs.Common.{◌∙◌, inl, inr, sym, ap, subst}
use Rattle.gixobj_editor_files.specs.Opening.{Dirs}
use Rattle.gixobj_editor_files.specs.State.{State, open_dirs}
use Rattle.gixobj_editor_open.specs.Paths.{names_of}
use Rattle.gixobj_editor_lookups.specs.Openings.{AreTreesOf}
use Rattle.gixobj_editor_open.proofs.Results.{if_err_weaken}
use Rattle.gixobj_editor_lookups.proofs.NamedTrees.{trees_of_objects_exist}
use Rattle.gixobj_editor_files.proofs.WrittenTrees.{on_err_of}
use Rattle.gixobj_editor_lookups.specs.RemovalErrors.{IsLeafDirectoryError}
use Rattle.gixobj_editor.specs.Removals.{IsLeafRemovalError}
use Rattle.gixobj_editor.proofs.Edited.{counted_at, map_dirs_eq, same_state, stay_at, state_of}
use Rattle.gixobj_editor_lookups.specs.declared.opening.NotLookedUp.TheVariants as not_looked_up
use Rattle.gixobj_editor.proofs.RemovedAt.{no_lookup_of_leaf, rejected_at, removed_at, known_at}
use Rattle.gixobj_editor.proofs.OpenedOn.{in_part_on, opened_on, taken_on}
use Rattle.gixobj_store.specs.Stores.{StoreModel}
use Rattle.gixobj_editor_lookups.specs.EditNames.{directory_of}
use Rattle.gixobj_editor_lookups.specs.FailedOpenings.{IsLookupError}
use Rattle.gixobj_editor.specs.FailedEdits.{IsAfterFailedEdit}
use Rattle.gixobj_editor_lookups.specs.declared.error.Error.{Error}
use Rattle.gixobj_editor_lookups.proofs.Removing.{opened_above_counts}
use Rattle.gixobj_editor_open.specs.Nested.{dirs_of}
use Rattle.gixobj_editor.proofs.editor.Editor.try_remove_leaf.Goals as goal

pub returns-in_err-open_for_removal-clause-after_error : goal.returns-in_err-open_for_removal-clause-after_error
returns-in_err-open_for_removal-clause-after_error g c =
    if_err_weaken c.from_residual.result _ _ c.from_residual.ensures.1 (λ error is trees fits.
    let model : StoreModel g.row.S.Denot = record { objects = g.S.Store.objects; may_fail = g.S.Store.may_fail } in
    let s = c.self.inside in
    let stored = ap (λ (o : State _). o.store) c.self.view_is in
    let bad = (c.in_err-open_for_removal.ensures {u = tt}).after_error trees (subst (λ o. AreTreesOf (g.S.Store.objects o) trees) (sym stored) fits) in
    let after = stay_at s.store s.object_hash (names_of s.prefix.items) trees model not_looked_up.Unopened s.root c.open_for_removal.new.root s.lookups
    c.open_for_removal.new.lookups c.args.self.now c.self.view_is (names_of c.args.path.now) c.in_err-open_for_removal.field-0.0 bad.0 c.self.invariant
    c.open_for_removal.ensures.bases in
    subst (λ (e : Error). IsAfterFailedEdit model trees c.args.self.now (names_of c.args.path.now) e
    (state_of s.store s.object_hash (names_of s.prefix.items) c.open_for_removal.new.root c.open_for_removal.new.lookups)) (sym is) after)

pub returns-in_err-open_for_removal-clause-error : goal.returns-in_err-open_for_removal-clause-error
returns-in_err-open_for_removal-clause-error g c =
    if_err_weaken c.from_residual.result _ _ c.from_residual.ensures.1 (λ error is trees fits.
    let s = c.self.inside in
    let stored = ap (λ (o : State _). o.store) c.self.view_is in
    let path = names_of c.args.path.now in
    let bad = (c.in_err-open_for_removal.ensures {u = tt}).after_error trees (subst (λ o. AreTreesOf (g.S.Store.objects o) trees) (sym stored) fits) in
    let entire = subst (λ (d : Dirs). IsLeafRemovalError (g.S.Store.objects s.store)
    (g.S.Store.may_fail s.store) trees d path c.in_err-open_for_removal.field-0.0) (sym (map_dirs_eq s.root)) (inl bad.1) in
    subst (IsLeafRemovalError (g.S.Store.objects c.args.self.now.store) (g.S.Store.may_fail c.args.self.now.store) trees (open_dirs c.args.self.now) path)
    (sym is)
    (subst (λ (o : State _). IsLeafRemovalError (g.S.Store.objects o.store) (g.S.Store.may_fail o.store) trees
    (open_dirs o) path c.in_err-open_for_removal.field-0.0) c.self.view_is entire))

pub invariant_of-self : goal.invariant_of-self
invariant_of-self g c =
    let s = c.self.inside in
    let named = trees_of_objects_exist (g.S.Store.objects s.store) in
    let bad = (c.in_err-open_for_removal.ensures {u = tt}).after_error named.0 named.1 in
    in_part_on named.0 s.root c.open_for_removal.new.root c.open_for_removal.ensures.bases c.self.invariant (g.S.Store.objects s.store)
    (g.S.Store.may_fail s.store) (names_of c.args.path.now) s.lookups c.open_for_removal.new.lookups c.in_err-open_for_removal.field-0.0 bad.0

pub invariant_of-self-in_err-check_leaf : goal.invariant_of-self-in_err-check_leaf
invariant_of-self-in_err-check_leaf g c =
    let s = c.self.inside in
    let named = trees_of_objects_exist (g.S.Store.objects s.store) in
    let ok = (c.in_ok-open_for_removal.ensures {u = tt}).opened named.0 named.1 in
    opened_on named.0 s.root c.open_for_removal.new.root c.open_for_removal.ensures.bases c.self.invariant (directory_of (names_of c.args.path.now)) ok.0 ok.1

pub invariant_of-self-2 : goal.invariant_of-self-2
invariant_of-self-2 g c =
    let s = c.self.inside in
    let path = names_of c.args.path.now in
    let named = trees_of_objects_exist (g.S.Store.objects s.store) in
    let ok = (c.in_ok-open_for_removal.ensures {u = tt}).opened named.0 named.1 in
    taken_on named.0 s.root c.open_for_removal.new.root c.open_for_removal.ensures.bases c.self.invariant c.take.new.self c.take.ensures.bases
    (directory_of path) path ok.0 ok.1 c.take.ensures.dirs

pub returns-in_err-check_leaf-clause-after_error : goal.returns-in_err-check_leaf-clause-after_error
returns-in_err-check_leaf-clause-after_error g c =
    if_err_weaken c.from_residual-in_err-check_leaf.result _ _ c.from_residual-in_err-check_leaf.ensures.1 (λ error is trees fits.
    let s = c.self.inside in
    let stored = ap (λ (o : State _). o.store) c.self.view_is in
    let ok = (c.in_ok-open_for_removal.ensures {u = tt}).opened trees (subst (λ o. AreTreesOf (g.S.Store.objects o) trees) (sym stored) fits) in
    rejected_at s.store s.object_hash (names_of s.prefix.items) trees not_looked_up.Unopened
    (record { objects = g.S.Store.objects; may_fail = g.S.Store.may_fail }) s.root c.open_for_removal.new.root s.lookups
    c.open_for_removal.new.lookups c.args.self.now c.self.view_is (names_of c.args.path.now) ok.0
    (ok.1, ok.3) ok.2 error
    (subst (λ (e : Error). ¬ IsLookupError e) (sym is) (no_lookup_of_leaf (names_of c.args.path.now) _ (c.in_err-check_leaf.ensures {u = tt}).error.3))
    c.self.invariant c.open_for_removal.ensures.bases)

pub returns-in_err-check_leaf-clause-error : goal.returns-in_err-check_leaf-clause-error
returns-in_err-check_leaf-clause-error g c =
    if_err_weaken c.from_residual-in_err-check_leaf.result _ _ c.from_residual-in_err-check_leaf.ensures.1 (λ error is trees fits.
    let s = c.self.inside in
    let path = names_of c.args.path.now in
    let stored = ap (λ (o : State _). o.store) c.self.view_is in
    let ok = (c.in_ok-open_for_removal.ensures {u = tt}).opened trees (subst (λ o. AreTreesOf (g.S.Store.objects o) trees) (sym stored) fits) in
    let bad = (c.in_err-check_leaf.ensures {u = tt}).error in
    let seen = known_at s.store s.object_hash (names_of s.prefix.items) trees not_looked_up.Unopened s.root c.open_for_removal.new.root s.lookups
    c.args.self.now
    c.self.view_is path ok.0 (ok.1, ok.3) in
    inr ((bad.0, sym seen ∙ bad.1, bad.2), subst (IsLeafDirectoryError path) (sym is) bad.3))

pub returns-clause-removed : goal.returns-clause-removed
returns-clause-removed g c = λ trees fits.
    let s = c.self.inside in
    let stored = ap (λ (o : State _). o.store) c.self.view_is in
    let ok = (c.in_ok-open_for_removal.ensures {u = tt}).opened trees (subst (λ o. AreTreesOf (g.S.Store.objects o) trees) (sym stored) fits) in
    let seen = known_at s.store s.object_hash (names_of s.prefix.items) trees not_looked_up.Unopened s.root c.open_for_removal.new.root s.lookups
    c.args.self.now
    c.self.view_is (names_of c.args.path.now) ok.0 (ok.1, ok.3) in
    record {
      removed = removed_at s.store s.object_hash (names_of s.prefix.items) trees not_looked_up.Unopened s.root c.open_for_removal.new.root c.take.new.self
          s.lookups
          c.open_for_removal.new.lookups c.args.self.now c.self.view_is (names_of c.args.path.now) ok.0 (ok.1, ok.3) ok.2 c.take.ensures.dirs c.self.invariant
          c.open_for_removal.ensures.bases c.take.ensures.bases;
      leaf = λ e is. (c.in_ok-check_leaf.ensures {u = tt}).accepted e (seen ∙ is);
    }

pub returns-in_err-open_for_removal-clause-unchanged : goal.returns-in_err-open_for_removal-clause-unchanged
returns-in_err-open_for_removal-clause-unchanged g c =
    on_err_of c.from_residual.result _ (λ bad.
    let s = c.self.inside in
    let same = c.open_for_removal.ensures.unchanged bad in
    same_state s.store s.object_hash (names_of s.prefix.items) s.root c.open_for_removal.new.root s.lookups c.open_for_removal.new.lookups c.args.self.now
    c.self.view_is same.0 c.open_for_removal.ensures.bases same.1)

pub returns-in_err-check_leaf-clause-unchanged : goal.returns-in_err-check_leaf-clause-unchanged
returns-in_err-check_leaf-clause-unchanged g c =
    on_err_of c.from_residual-in_err-check_leaf.result _ (λ bad.
    let s = c.self.inside in
    let same = c.open_for_removal.ensures.unchanged bad in
    same_state s.store s.object_hash (names_of s.prefix.items) s.root c.open_for_removal.new.root s.lookups c.open_for_removal.new.lookups c.args.self.now
    c.self.view_is same.0 c.open_for_removal.ensures.bases same.1)

-- each lookup is counted
pub returns-in_err-open_for_removal-clause-lookups : goal.returns-in_err-open_for_removal-clause-lookups
returns-in_err-open_for_removal-clause-lookups g c =
    if_err_weaken c.from_residual.result _ _ c.from_residual.ensures.1 (λ error is trees fits memory.
    let s = c.self.inside in
    let stored = ap (λ (o : State _). o.store) c.self.view_is in
    let bad = (c.in_err-open_for_removal.ensures {u = tt}).lookups trees (subst (λ o. AreTreesOf (g.S.Store.objects o) trees) (sym stored) fits) in
    counted_at s.store s.object_hash (names_of s.prefix.items) trees s.root c.open_for_removal.new.root s.lookups c.open_for_removal.new.lookups
    c.args.self.now c.self.view_is (names_of c.args.path.now) (bad (sym is ∙ memory)))

pub returns-in_err-check_leaf-clause-lookups : goal.returns-in_err-check_leaf-clause-lookups
returns-in_err-check_leaf-clause-lookups g c =
    if_err_weaken c.from_residual-in_err-check_leaf.result _ _ c.from_residual-in_err-check_leaf.ensures.1 (λ error is trees fits memory.
    let s = c.self.inside in
    let path = names_of c.args.path.now in
    let stored = ap (λ (o : State _). o.store) c.self.view_is in
    let ok = (c.in_ok-open_for_removal.ensures {u = tt}).opened trees (subst (λ o. AreTreesOf (g.S.Store.objects o) trees) (sym stored) fits) in
    counted_at s.store s.object_hash (names_of s.prefix.items) trees s.root c.open_for_removal.new.root s.lookups c.open_for_removal.new.lookups
    c.args.self.now c.self.view_is path
    (opened_above_counts trees path (dirs_of s.root) (dirs_of c.open_for_removal.new.root) ok.0 ok.1 s.lookups c.open_for_removal.new.lookups ok.2))
