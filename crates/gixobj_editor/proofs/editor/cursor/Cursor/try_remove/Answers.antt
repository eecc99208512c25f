-- The directories above the path are opened from the prefix, and then the entry is removed at the path from the root.
use Rattle.std.proofs.Common.{◌≡◌, ◌≢◌, ◌∙◌, ◌⊎◌, List, None, [], inl, inr, ap, refl, subst, sym}
use Rattle.gixobj_editor_files.specs.Edits.{IsNoTree, Opens, removed_dirs}
use Rattle.gixobj_editor_files.specs.Files.{Path}
use Rattle.gixobj_editor_files.specs.Opening.{Dirs}
use Rattle.gixobj_editor_files.specs.OpeningStops.{CountsEachLookup}
use Rattle.gixobj_editor_files.specs.State.{State, open_dirs}
use Rattle.gixobj_editor_files.proofs.WrittenTrees.{on_err_of}
use Rattle.gixobj_editor_open.specs.Nested.{dirs_of}
use Rattle.gixobj_editor_open.specs.Paths.{names_of}
use Rattle.gixobj_editor_open.proofs.Results.{if_err_weaken}
use Rattle.gixobj_store.specs.Stores.{StoreModel}
use Rattle.gixobj_editor_lookups.specs.EditNames.{StartsInvalid, directory_of, from_root}
use Rattle.gixobj_editor_lookups.specs.FailedOpenings.{IsLookupError}
use Rattle.gixobj_editor_lookups.specs.Openings.{AreTreesOf}
use Rattle.gixobj_editor_lookups.specs.declared.error.Error.{Error}
use Rattle.gixobj_editor_lookups.specs.declared.opening.NotLookedUp.TheVariants as not_looked_up
use Rattle.gixobj_editor_lookups.proofs.NamedTrees.{trees_of_objects_exist}
use Rattle.gixobj_editor_lookups.proofs.Removing.{opened_above_counts}
use Rattle.gixobj_editor.specs.Cursors.{IsCursorEditError}
use Rattle.gixobj_editor.specs.FailedEdits.{IsAfterFailedEdit}
use Rattle.gixobj_editor.specs.Removals.{IsRemovalError, IsRemoved, IsRemovedUpTo}
use Rattle.gixobj_editor.proofs.CursorPrefixes.{names_of_open, stays_failed, stays_removed}
use Rattle.gixobj_editor.proofs.Edited.{counted_at, map_dirs, map_dirs_eq, same_state, state_of, stay_at}
use Rattle.gixobj_editor.proofs.OpenedOn.{in_part_on, taken_on}
use Rattle.gixobj_editor.proofs.RemovedAt.{removed_at}
use Rattle.gixobj_editor.proofs.WrittenBelow.{prefix_is_open}
use Rattle.gixobj_editor.proofs.editor.cursor.Cursor.try_remove.Goals as goal

pub open_for_removal_below-requires-clause-is_open : goal.open_for_removal_below-requires-clause-is_open
open_for_removal_below-requires-clause-is_open g c =
    let s = c.editor.inside in
    subst (λ (l : List _). dirs_of s.root (names_of l) ≢ None) (sym c.deref.ensures.value)
    (prefix_is_open s.store s.object_hash (names_of s.prefix.items) s.root s.lookups c.args.self.now.editor.now c.editor.view_is c.args.self.now.is_open)

pub open_for_removal_below-requires-clause-names : goal.open_for_removal_below-requires-clause-names
open_for_removal_below-requires-clause-names g c =
    let s = c.editor.inside in
    names_of_open (dirs_of s.root) c.editor.invariant.opened (names_of c.deref.result.now)
    (subst (λ (l : List _). dirs_of s.root (names_of l) ≢ None) (sym c.deref.ensures.value)
    (prefix_is_open s.store s.object_hash (names_of s.prefix.items) s.root s.lookups c.args.self.now.editor.now c.editor.view_is c.args.self.now.is_open))

pub returns-in_err-path-clause-after_error : goal.returns-in_err-path-clause-after_error
returns-in_err-path-clause-after_error g c = if_err_weaken c.from_residual.result _ _ c.from_residual.ensures.1 (λ error is trees fits.
    let model : StoreModel g.row.S.Denot = record { objects = g.S.Store.objects; may_fail = g.S.Store.may_fail } in
    let s = c.editor.inside in
    let old = c.args.self.now.editor.now in
    let path = names_of c.args.path.now in
    let owned : names_of c.deref.result.now ≡ names_of s.prefix.items = ap names_of c.deref.ensures.value in
    let at : names_of c.deref.result.now ≡ old.prefix = owned ∙ ap (λ (o : State _). o.prefix) c.editor.view_is in
    let entire = from_root (names_of c.deref.result.now) path in
    let stored = ap (λ (o : State _). o.store) c.editor.view_is in
    let mid = c.open_for_removal_below.new.root in
    let count = c.open_for_removal_below.new.lookups in
    let bad = (c.in_err-path.ensures {u = tt}).after_error trees (subst (λ o. AreTreesOf (g.S.Store.objects o) trees) (sym stored) fits) in
    let after = stay_at s.store s.object_hash (names_of s.prefix.items) trees model not_looked_up.Opened s.root mid s.lookups count
    old c.editor.view_is entire c.in_err-path.field-0.0 bad.0 c.editor.invariant c.open_for_removal_below.ensures.bases in
    subst (λ (p : Path). IsAfterFailedEdit model trees old (from_root p path) error (state_of s.store s.object_hash (names_of s.prefix.items) mid count)) at
    (subst (λ (e : Error). IsAfterFailedEdit model trees old entire e (state_of s.store s.object_hash (names_of s.prefix.items) mid count)) (sym is) after))

pub returns-in_err-path-clause-error : goal.returns-in_err-path-clause-error
returns-in_err-path-clause-error g c = if_err_weaken c.from_residual.result _ _ c.from_residual.ensures.1 (λ error is trees fits.
    let s = c.editor.inside in
    let old = c.args.self.now.editor.now in
    let path = names_of c.args.path.now in
    let owned : names_of c.deref.result.now ≡ names_of s.prefix.items = ap names_of c.deref.ensures.value in
    let at : names_of c.deref.result.now ≡ old.prefix = owned ∙ ap (λ (o : State _). o.prefix) c.editor.view_is in
    let entire = from_root (names_of c.deref.result.now) path in
    let stored = ap (λ (o : State _). o.store) c.editor.view_is in
    let mid = c.open_for_removal_below.new.root in
    let count = c.open_for_removal_below.new.lookups in
    let bad = (c.in_err-path.ensures {u = tt}).after_error trees (subst (λ o. AreTreesOf (g.S.Store.objects o) trees) (sym stored) fits) in
    subst (λ (o : State _). IsCursorEditError path (IsRemovalError (g.S.Store.objects o.store) (g.S.Store.may_fail o.store) trees (open_dirs o)
    (from_root o.prefix path)) error) c.editor.view_is
    (subst (λ (d : Dirs). IsCursorEditError path (IsRemovalError (g.S.Store.objects s.store) (g.S.Store.may_fail s.store) trees d
    (from_root (names_of s.prefix.items) path)) error) (sym (map_dirs_eq s.root))
    (subst (λ (p : Path). IsCursorEditError path (IsRemovalError (g.S.Store.objects s.store) (g.S.Store.may_fail s.store) trees (dirs_of s.root)
    (from_root p path)) error) owned
    (subst (λ (e : Error). IsCursorEditError path (IsRemovalError (g.S.Store.objects s.store) (g.S.Store.may_fail s.store) trees (dirs_of s.root)
    entire) e) (sym is) bad.1))))

pub returns-in_err-path-clause-lookups : goal.returns-in_err-path-clause-lookups
returns-in_err-path-clause-lookups g c = if_err_weaken c.from_residual.result _ _ c.from_residual.ensures.1 (λ error is trees fits memory.
    let s = c.editor.inside in
    let old = c.args.self.now.editor.now in
    let path = names_of c.args.path.now in
    let owned : names_of c.deref.result.now ≡ names_of s.prefix.items = ap names_of c.deref.ensures.value in
    let at : names_of c.deref.result.now ≡ old.prefix = owned ∙ ap (λ (o : State _). o.prefix) c.editor.view_is in
    let entire = from_root (names_of c.deref.result.now) path in
    let stored = ap (λ (o : State _). o.store) c.editor.view_is in
    let mid = c.open_for_removal_below.new.root in
    let count = c.open_for_removal_below.new.lookups in
    let bad = (c.in_err-path.ensures {u = tt}).lookups trees (subst (λ o. AreTreesOf (g.S.Store.objects o) trees) (sym stored) fits) in
    subst (λ (p : Path). CountsEachLookup IsNoTree trees (from_root p path) (open_dirs old) (map_dirs mid) old.lookups count) at
    (counted_at s.store s.object_hash (names_of s.prefix.items) trees s.root mid s.lookups count
    old c.editor.view_is entire (bad (sym is ∙ memory))))

pub returns-in_err-path-clause-unchanged : goal.returns-in_err-path-clause-unchanged
returns-in_err-path-clause-unchanged g c = on_err_of c.from_residual.result _ (λ bad.
    let s = c.editor.inside in
    let old = c.args.self.now.editor.now in
    let path = names_of c.args.path.now in
    let owned : names_of c.deref.result.now ≡ names_of s.prefix.items = ap names_of c.deref.ensures.value in
    let at : names_of c.deref.result.now ≡ old.prefix = owned ∙ ap (λ (o : State _). o.prefix) c.editor.view_is in
    let entire = from_root (names_of c.deref.result.now) path in
    let stored = ap (λ (o : State _). o.store) c.editor.view_is in
    let mid = c.open_for_removal_below.new.root in
    let count = c.open_for_removal_below.new.lookups in
    let same = c.open_for_removal_below.ensures.unchanged (subst (λ (p : Path). StartsInvalid (from_root p path)) (sym at) bad) in
    same_state s.store s.object_hash (names_of s.prefix.items) s.root mid s.lookups count old c.editor.view_is same.0
    c.open_for_removal_below.ensures.bases same.1)

pub invariant_of-editor : goal.invariant_of-editor
invariant_of-editor g c =
    let s = c.editor.inside in
    let named = trees_of_objects_exist (g.S.Store.objects s.store) in
    let bad = (c.in_err-path.ensures {u = tt}).after_error named.0 named.1 in
    in_part_on named.0 s.root c.open_for_removal_below.new.root c.open_for_removal_below.ensures.bases c.editor.invariant (g.S.Store.objects s.store)
    (g.S.Store.may_fail s.store)
    (from_root (names_of c.deref.result.now) (names_of c.args.path.now)) s.lookups c.open_for_removal_below.new.lookups c.in_err-path.field-0.0 bad.0

pub invariant_of-self : goal.invariant_of-self
invariant_of-self g c =
    let model : StoreModel g.row.S.Denot = record { objects = g.S.Store.objects; may_fail = g.S.Store.may_fail } in
    let s = c.editor.inside in
    let old = c.args.self.now.editor.now in
    let path = names_of c.args.path.now in
    let owned : names_of c.deref.result.now ≡ names_of s.prefix.items = ap names_of c.deref.ensures.value in
    let at : names_of c.deref.result.now ≡ old.prefix = owned ∙ ap (λ (o : State _). o.prefix) c.editor.view_is in
    let entire = from_root (names_of c.deref.result.now) path in
    let stored = ap (λ (o : State _). o.store) c.editor.view_is in
    let mid = c.open_for_removal_below.new.root in
    let count = c.open_for_removal_below.new.lookups in
    let named = trees_of_objects_exist (g.S.Store.objects s.store) in
    let bad = (c.in_err-path.ensures {u = tt}).after_error named.0 named.1 in
    let after = stay_at s.store s.object_hash (names_of s.prefix.items) named.0 model not_looked_up.Opened s.root mid s.lookups count
    old c.editor.view_is entire c.in_err-path.field-0.0 bad.0 c.editor.invariant c.open_for_removal_below.ensures.bases in
    record {
      is_open = (stays_failed model named.0 old (state_of s.store s.object_hash (names_of s.prefix.items) mid count) entire c.in_err-path.field-0.0
          after).1 c.args.self.now.is_open;
    }

-- ---- the removal

pub invariant_of-editor-2 : goal.invariant_of-editor-2
invariant_of-editor-2 g c =
    let s = c.editor.inside in
    let entire = from_root (names_of c.deref.result.now) (names_of c.args.path.now) in
    let joined : names_of c.deref-2.result.now ≡ entire = ap names_of c.deref-2.ensures.value ∙ (c.in_ok-path.ensures {u = tt}).path in
    let named = trees_of_objects_exist (g.S.Store.objects s.store) in
    let ok = (c.in_ok-path.ensures {u = tt}).opened named.0 named.1 in
    taken_on named.0 s.root c.open_for_removal_below.new.root c.open_for_removal_below.ensures.bases c.editor.invariant c.take.new.self c.take.ensures.bases
    (directory_of entire) entire ok.0 ok.1
    (λ at. c.take.ensures.dirs at ∙ ap (λ (p : Path). removed_dirs p (dirs_of c.open_for_removal_below.new.root) at) joined)

pub invariant_of-self-2 : goal.invariant_of-self-2
invariant_of-self-2 g c =
    let s = c.editor.inside in
    let old = c.args.self.now.editor.now in
    let path = names_of c.args.path.now in
    let owned : names_of c.deref.result.now ≡ names_of s.prefix.items = ap names_of c.deref.ensures.value in
    let at : names_of c.deref.result.now ≡ old.prefix = owned ∙ ap (λ (o : State _). o.prefix) c.editor.view_is in
    let entire = from_root (names_of c.deref.result.now) path in
    let stored = ap (λ (o : State _). o.store) c.editor.view_is in
    let mid = c.open_for_removal_below.new.root in
    let count = c.open_for_removal_below.new.lookups in
    let joined : names_of c.deref-2.result.now ≡ entire = ap names_of c.deref-2.ensures.value ∙ (c.in_ok-path.ensures {u = tt}).path in
    let named = trees_of_objects_exist (g.S.Store.objects s.store) in
    let ok = (c.in_ok-path.ensures {u = tt}).opened named.0 named.1 in
    let done = removed_at s.store s.object_hash (names_of s.prefix.items) named.0 not_looked_up.Opened s.root mid c.take.new.self s.lookups
    count old c.editor.view_is entire ok.0 (ok.1, ok.3) ok.2
    (λ q. c.take.ensures.dirs q ∙ ap (λ (p : Path). removed_dirs p (dirs_of mid) q) joined) c.editor.invariant c.open_for_removal_below.ensures.bases
    c.take.ensures.bases in
    let new : State g.row.S.Denot = (state_of s.store s.object_hash (names_of s.prefix.items) c.take.new.self count) in
    record {
      is_open = (stays_removed named.0 old new path
          (subst (λ (p : Path). IsRemovedUpTo IsNoTree named.0 old (from_root p path) new) at done)).1 c.args.self.now.is_open;
    }

pub returns-clause-removed : goal.returns-clause-removed
returns-clause-removed g c = λ trees fits.
    let s = c.editor.inside in
    let old = c.args.self.now.editor.now in
    let path = names_of c.args.path.now in
    let owned : names_of c.deref.result.now ≡ names_of s.prefix.items = ap names_of c.deref.ensures.value in
    let at : names_of c.deref.result.now ≡ old.prefix = owned ∙ ap (λ (o : State _). o.prefix) c.editor.view_is in
    let entire = from_root (names_of c.deref.result.now) path in
    let stored = ap (λ (o : State _). o.store) c.editor.view_is in
    let mid = c.open_for_removal_below.new.root in
    let count = c.open_for_removal_below.new.lookups in
    let joined : names_of c.deref-2.result.now ≡ entire = ap names_of c.deref-2.ensures.value ∙ (c.in_ok-path.ensures {u = tt}).path in
    let ok = (c.in_ok-path.ensures {u = tt}).opened trees (subst (λ o. AreTreesOf (g.S.Store.objects o) trees) (sym stored) fits) in
    let done = removed_at s.store s.object_hash (names_of s.prefix.items) trees not_looked_up.Opened s.root mid c.take.new.self s.lookups
    count old c.editor.view_is entire ok.0 (ok.1, ok.3) ok.2
    (λ q. c.take.ensures.dirs q ∙ ap (λ (p : Path). removed_dirs p (dirs_of mid) q) joined) c.editor.invariant c.open_for_removal_below.ensures.bases
    c.take.ensures.bases in
    subst (λ (p : Path). IsRemoved trees old (from_root p path) (state_of s.store s.object_hash (names_of s.prefix.items) c.take.new.self count)) at done
