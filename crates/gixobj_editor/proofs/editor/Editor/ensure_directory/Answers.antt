-- Ensuring a directory opens the directories on the path, and then makes the missing ones: the clauses of
-- `ensure_directory`.
use Rattle.std.proofs.Common.{◌≡◌, ◌∙◌, [], refl, sym, ap, subst}
use Rattle.std.proofs.lemmas.List.Elements.{recursion_from_All}
use Rattle.gixobj_tree.specs.WellFormed.{IsEntryName}
use Rattle.gixobj_editor_files.specs.Edits.{IsNoTree, Opens, ensured_dirs}
use Rattle.gixobj_editor_files.specs.State.{State, open_dirs}
use Rattle.gixobj_editor_files.specs.Unopened.{with_empty_name}
use Rattle.gixobj_editor_open.specs.Paths.{names_of}
use Rattle.gixobj_editor_open.specs.Nested.{Opened, dirs_of}
use Rattle.gixobj_editor_lookups.specs.Openings.{AreTreesOf, IsOpenErrorAt}
use Rattle.gixobj_editor_open.proofs.Results.{if_err_weaken}
use Rattle.gixobj_store.specs.Stores.{StoreModel}
use Rattle.gixobj_editor_lookups.specs.EditNames.{IsFirstNameError}
use Rattle.gixobj_editor_lookups.specs.FailedOpenings.{IsLookupError}
use Rattle.gixobj_editor.specs.FailedEdits.{IsAfterFailedEdit}
use Rattle.gixobj_editor_lookups.specs.declared.error.Error.{Error}
use Rattle.gixobj_editor.specs.Cursors.{IsCursorError}
use Rattle.gixobj_editor.proofs.EnsuredAt.{ensured_at, ensured_path_is_open, cursor_error_of_name, rejects_at, path_not_nil}
use Rattle.gixobj_editor_lookups.proofs.ValidNames.{no_lookup_of_name, no_memory_of_name}
use Rattle.gixobj_editor.proofs.Edited.{OpenedOn, OpenedSo, counted_at, halted_so, opened_so, unchanged_at, state_of}
use Rattle.gixobj_editor_lookups.proofs.NamedTrees.{trees_of_objects_exist}
use Rattle.gixobj_editor_lookups.specs.declared.opening.NotLookedUp.TheVariants as not_looked_up
use Rattle.gixobj_editor.proofs.OpenedOn.{ensured_on, halted_on, opened_on}
use Rattle.gixobj_editor_lookups.proofs.InPart.{halted_counts, opened_counts}
use Rattle.gixobj_editor.proofs.editor.Editor.ensure_directory.Goals as goal

pub returns-in_err-validate_names-clause-error : goal.returns-in_err-validate_names-clause-error
returns-in_err-validate_names-clause-error g c = if_err_weaken c.from_residual.result _ _ c.from_residual.ensures.1 (λ error is trees fits.
    subst (IsCursorError (g.S.Store.objects c.args.self.now.store) (g.S.Store.may_fail c.args.self.now.store) trees (open_dirs c.args.self.now)
    (names_of c.args.path.now)) (sym is)
    (cursor_error_of_name (g.S.Store.objects c.args.self.now.store) (g.S.Store.may_fail c.args.self.now.store) trees (open_dirs c.args.self.now)
    (names_of c.args.path.now) c.in_err-validate_names.field-0.0 (c.in_err-validate_names.ensures {u = tt}).error))

pub returns-in_err-validate_names-clause-after_error : goal.returns-in_err-validate_names-clause-after_error
returns-in_err-validate_names-clause-after_error g c =
    if_err_weaken c.from_residual.result _ _ c.from_residual.ensures.1 (λ error is trees fits.
    let s = c.self.inside in
    let bad = (c.in_err-validate_names.ensures {u = tt}).error in
    unchanged_at s.store s.object_hash (names_of s.prefix.items) trees (record { objects = g.S.Store.objects; may_fail = g.S.Store.may_fail }) s.root
    s.lookups c.args.self.now c.self.view_is (with_empty_name (names_of c.args.path.now)) error
    (no_lookup_of_name (names_of c.args.path.now) error (subst (IsFirstNameError (names_of c.args.path.now)) (sym is) bad)) c.self.invariant)

pub returns-in_err-open_along-clause-after_error : goal.returns-in_err-open_along-clause-after_error
returns-in_err-open_along-clause-after_error g c =
    if_err_weaken c.from_residual-in_err-open_along.result _ _ c.from_residual-in_err-open_along.ensures.1 (λ error gives trees fits.
    let model : StoreModel g.row.S.Denot = record { objects = g.S.Store.objects; may_fail = g.S.Store.may_fail } in
    let s = c.self.inside in
    let path = names_of c.args.path.now in
    let stored = ap (λ (o : State _). o.store) c.self.view_is in
    let bad = (c.in_err-open_along.ensures {u = tt}).stopped_opening trees (subst (λ o. AreTreesOf (g.S.Store.objects o) trees) (sym stored) fits) in
    let after = halted_so s.store s.object_hash (names_of s.prefix.items) trees model s.root c.open_along.new.node s.lookups c.open_along.new.lookups
    c.args.self.now c.self.view_is (with_empty_name path) path [] refl bad.0 bad.1 bad.2 bad.3 c.in_err-open_along.field-0.0 bad.4 c.self.invariant
    c.open_along.ensures.bases in
    subst (λ (e : Error). IsAfterFailedEdit model trees c.args.self.now (with_empty_name path) e
    (state_of s.store s.object_hash (names_of s.prefix.items) c.open_along.new.node c.open_along.new.lookups)) (sym gives) after)

pub returns-in_err-open_along-clause-error : goal.returns-in_err-open_along-clause-error
returns-in_err-open_along-clause-error g c =
    if_err_weaken c.from_residual-in_err-open_along.result _ _ c.from_residual-in_err-open_along.ensures.1 (λ error gives trees fits.
    let s = c.self.inside in
    let path = names_of c.args.path.now in
    let stored = ap (λ (o : State _). o.store) c.self.view_is in
    let bad = (c.in_err-open_along.ensures {u = tt}).stopped_opening trees (subst (λ o. AreTreesOf (g.S.Store.objects o) trees) (sym stored) fits) in
    subst (IsCursorError (g.S.Store.objects c.args.self.now.store) (g.S.Store.may_fail c.args.self.now.store) trees (open_dirs c.args.self.now) path)
    (sym gives)
    (rejects_at s.store s.object_hash (names_of s.prefix.items) trees (g.S.Store.objects c.args.self.now.store)
    (g.S.Store.may_fail c.args.self.now.store) s.root c.open_along.new.node s.lookups c.args.self.now c.self.view_is path
    (c.in_ok-validate_names.ensures {u = tt}).accepted c.self.invariant.opened
    bad.0 bad.1 bad.2 c.in_err-open_along.field-0.0
    (subst (λ o. IsOpenErrorAt (g.S.Store.objects o) (g.S.Store.may_fail o) bad.1 c.in_err-open_along.field-0.0) stored bad.4)))

-- allocation of the names fails
pub returns-in_err-prefix-clause-after_error : goal.returns-in_err-prefix-clause-after_error
returns-in_err-prefix-clause-after_error g c =
    if_err_weaken c.from_residual-in_err-prefix.result _ _ c.from_residual-in_err-prefix.ensures.1 (λ error gives trees fits.
    let s = c.self.inside in
    let path = names_of c.args.path.now in
    let stored = ap (λ (o : State _). o.store) c.self.view_is in
    let ok = (c.in_ok-open_along.ensures {u = tt}).opened trees (subst (λ o. AreTreesOf (g.S.Store.objects o) trees) (sym stored) fits) in
    opened_so s.store s.object_hash (names_of s.prefix.items) trees (record { objects = g.S.Store.objects; may_fail = g.S.Store.may_fail })
    not_looked_up.Opened s.root c.open_along.new.node s.lookups c.open_along.new.lookups c.args.self.now c.self.view_is (with_empty_name path) path
    [] refl ok.0 ok.1 ok.2
    error (subst (λ (e : Error). ¬ IsLookupError e) (sym gives) (λ it. it)) c.self.invariant c.open_along.ensures.bases)

pub returns-in_err-prefix-clause-error : goal.returns-in_err-prefix-clause-error
returns-in_err-prefix-clause-error g c =
    if_err_weaken c.from_residual-in_err-prefix.result _ _ c.from_residual-in_err-prefix.ensures.1 (λ error gives trees fits.
    subst (IsCursorError (g.S.Store.objects c.args.self.now.store) (g.S.Store.may_fail c.args.self.now.store) trees (open_dirs c.args.self.now)
    (names_of c.args.path.now)) (sym gives)
    ((c.in_ok-validate_names.ensures {u = tt}).accepted, (c.in_err-prefix.ensures {u = tt}).allocates))

pub ensure_directory-requires : goal.ensure_directory-requires
ensure_directory-requires g c = recursion_from_All IsEntryName (names_of c.args.path.now) (c.in_ok-validate_names.ensures {u = tt}).accepted

pub returns-in_err-ensure_directory-clause-after_error : goal.returns-in_err-ensure_directory-clause-after_error
returns-in_err-ensure_directory-clause-after_error g c =
    if_err_weaken c.from_residual-in_err-ensure_directory.result _ _ c.from_residual-in_err-ensure_directory.ensures.1 (λ error gives trees fits.
    let s = c.self.inside in
    let path = names_of c.args.path.now in
    let stored = ap (λ (o : State _). o.store) c.self.view_is in
    let ok = (c.in_ok-open_along.ensures {u = tt}).opened trees (subst (λ o. AreTreesOf (g.S.Store.objects o) trees) (sym stored) fits) in
    let same : c.ensure_directory.new.self ≡ c.open_along.new.node = (c.in_err-ensure_directory.ensures {u = tt}).unchanged in
    opened_so s.store s.object_hash (names_of s.prefix.items) trees (record { objects = g.S.Store.objects; may_fail = g.S.Store.may_fail })
    not_looked_up.Opened s.root c.ensure_directory.new.self s.lookups c.open_along.new.lookups c.args.self.now c.self.view_is (with_empty_name path) path
    [] refl ok.0
    (subst (λ (ds : Opened). Opens IsNoTree trees path (dirs_of s.root) (dirs_of ds) ok.0) (sym same) ok.1) ok.2
    error (subst (λ (e : Error). ¬ IsLookupError e) (sym gives) (λ it. it)) c.self.invariant
    (subst (λ (ds : Opened). OpenedSo s.root ds) (sym same) c.open_along.ensures.bases))

pub returns-in_err-ensure_directory-clause-error : goal.returns-in_err-ensure_directory-clause-error
returns-in_err-ensure_directory-clause-error g c =
    if_err_weaken c.from_residual-in_err-ensure_directory.result _ _ c.from_residual-in_err-ensure_directory.ensures.1 (λ error gives trees fits.
    let path = names_of c.args.path.now in
    subst (IsCursorError (g.S.Store.objects c.args.self.now.store) (g.S.Store.may_fail c.args.self.now.store) trees (open_dirs c.args.self.now) path)
    (sym gives) (
      (c.in_ok-validate_names.ensures {u = tt}).accepted,
      path_not_nil path (dirs_of c.open_along.new.node)
          (c.open_along.ensures.still_opened c.self.invariant.opened) (c.in_err-ensure_directory.ensures {u = tt}).unopened,
    ))

pub invariant_of-self : goal.invariant_of-self
invariant_of-self g c =
    let s = c.self.inside in
    let named = trees_of_objects_exist (g.S.Store.objects s.store) in
    let bad = (c.in_err-open_along.ensures {u = tt}).stopped_opening named.0 named.1 in
    halted_on named.0 s.root c.open_along.new.node c.open_along.ensures.bases c.self.invariant (names_of c.args.path.now) bad.0 bad.1 bad.2

pub invariant_of-self-in_err-prefix : goal.invariant_of-self-in_err-prefix
invariant_of-self-in_err-prefix g c =
    let s = c.self.inside in
    let named = trees_of_objects_exist (g.S.Store.objects s.store) in
    let ok = (c.in_ok-open_along.ensures {u = tt}).opened named.0 named.1 in
    opened_on named.0 s.root c.open_along.new.node c.open_along.ensures.bases c.self.invariant (names_of c.args.path.now) ok.0 ok.1

pub invariant_of-self-in_err-ensure_directory : goal.invariant_of-self-in_err-ensure_directory
invariant_of-self-in_err-ensure_directory g c =
    let s = c.self.inside in
    let named = trees_of_objects_exist (g.S.Store.objects s.store) in
    let ok = (c.in_ok-open_along.ensures {u = tt}).opened named.0 named.1 in
    let same : c.ensure_directory.new.self ≡ c.open_along.new.node = (c.in_err-ensure_directory.ensures {u = tt}).unchanged in
    subst OpenedOn (sym same) (opened_on named.0 s.root c.open_along.new.node c.open_along.ensures.bases c.self.invariant (names_of c.args.path.now) ok.0 ok.1)

pub invariant_of-self-2 : goal.invariant_of-self-2
invariant_of-self-2 g c =
    let s = c.self.inside in
    let path = names_of c.args.path.now in
    let named = trees_of_objects_exist (g.S.Store.objects s.store) in
    let ok = (c.in_ok-open_along.ensures {u = tt}).opened named.0 named.1 in
    ensured_on named.0 s.root c.open_along.new.node c.open_along.ensures.bases c.self.invariant c.ensure_directory.new.self
    (c.in_ok-ensure_directory.ensures {u = tt}).bases
    s.object_hash path (c.in_ok-validate_names.ensures {u = tt}).accepted ok.0 ok.1
    (λ at. (c.in_ok-ensure_directory.ensures {u = tt}).dirs at ∙ ap (λ null. ensured_dirs path null (dirs_of c.open_along.new.node) at)
    c.null-null.ensures.value)

pub returns-clause-is_open : goal.returns-clause-is_open
returns-clause-is_open g c = ensured_path_is_open (names_of c.args.path.now) c.null-null.result c.open_along.new.node c.ensure_directory.new.self
    (c.in_ok-ensure_directory.ensures {u = tt}).dirs (names_of c.in_ok-prefix.prefix.items) (c.in_ok-prefix.ensures {u = tt}).names

pub returns-clause-ensured : goal.returns-clause-ensured
returns-clause-ensured g c = λ trees fits.
    let s = c.self.inside in
    let path = names_of c.args.path.now in
    let stored = ap (λ (o : State _). o.store) c.self.view_is in
    let ok = (c.in_ok-open_along.ensures {u = tt}).opened trees (subst (λ o. AreTreesOf (g.S.Store.objects o) trees) (sym stored) fits) in
    ensured_at s.store s.object_hash (names_of s.prefix.items) trees s.root c.open_along.new.node c.ensure_directory.new.self s.lookups c.open_along.new.lookups
    c.args.self.now c.self.view_is path ok.0 (c.in_ok-validate_names.ensures {u = tt}).accepted ok.1
    (λ at. (c.in_ok-ensure_directory.ensures {u = tt}).dirs at ∙ ap (λ null. ensured_dirs path null (dirs_of c.open_along.new.node) at)
    c.null-null.ensures.value)
    ok.2 c.self.invariant
    c.open_along.ensures.bases (c.in_ok-ensure_directory.ensures {u = tt}).bases (names_of c.in_ok-prefix.prefix.items) (c.in_ok-prefix.ensures {u = tt}).names

-- each lookup is counted
pub returns-in_err-validate_names-clause-lookups : goal.returns-in_err-validate_names-clause-lookups
returns-in_err-validate_names-clause-lookups g c = if_err_weaken c.from_residual.result _ _ c.from_residual.ensures.1 (λ error is trees fits memory.
    let path = names_of c.args.path.now in
    absurd (no_memory_of_name path error (subst (IsFirstNameError path) (sym is) (c.in_err-validate_names.ensures {u = tt}).error) memory))

pub returns-in_err-open_along-clause-lookups : goal.returns-in_err-open_along-clause-lookups
returns-in_err-open_along-clause-lookups g c =
    if_err_weaken c.from_residual-in_err-open_along.result _ _ c.from_residual-in_err-open_along.ensures.1 (λ error gives trees fits memory.
    let s = c.self.inside in
    let path = names_of c.args.path.now in
    let stored = ap (λ (o : State _). o.store) c.self.view_is in
    let bad = (c.in_err-open_along.ensures {u = tt}).stopped_opening trees (subst (λ o. AreTreesOf (g.S.Store.objects o) trees) (sym stored) fits) in
    counted_at s.store s.object_hash (names_of s.prefix.items) trees s.root c.open_along.new.node s.lookups c.open_along.new.lookups c.args.self.now
    c.self.view_is (with_empty_name path)
    (halted_counts trees (with_empty_name path) path [] [] refl (dirs_of s.root) (dirs_of c.open_along.new.node) bad.0 bad.1 bad.2 s.lookups
    c.open_along.new.lookups bad.3))

pub returns-in_err-prefix-clause-lookups : goal.returns-in_err-prefix-clause-lookups
returns-in_err-prefix-clause-lookups g c =
    if_err_weaken c.from_residual-in_err-prefix.result _ _ c.from_residual-in_err-prefix.ensures.1 (λ error gives trees fits memory.
    let s = c.self.inside in
    let path = names_of c.args.path.now in
    let stored = ap (λ (o : State _). o.store) c.self.view_is in
    let ok = (c.in_ok-open_along.ensures {u = tt}).opened trees (subst (λ o. AreTreesOf (g.S.Store.objects o) trees) (sym stored) fits) in
    counted_at s.store s.object_hash (names_of s.prefix.items) trees s.root c.open_along.new.node s.lookups c.open_along.new.lookups c.args.self.now
    c.self.view_is (with_empty_name path)
    (opened_counts trees (with_empty_name path) path [] refl (dirs_of s.root) (dirs_of c.open_along.new.node) ok.0 ok.1 s.lookups
    c.open_along.new.lookups ok.2))

pub returns-in_err-ensure_directory-clause-lookups : goal.returns-in_err-ensure_directory-clause-lookups
returns-in_err-ensure_directory-clause-lookups g c =
    if_err_weaken c.from_residual-in_err-ensure_directory.result _ _ c.from_residual-in_err-ensure_directory.ensures.1 (λ error gives trees fits memory.
    let s = c.self.inside in
    let path = names_of c.args.path.now in
    let stored = ap (λ (o : State _). o.store) c.self.view_is in
    let ok = (c.in_ok-open_along.ensures {u = tt}).opened trees (subst (λ o. AreTreesOf (g.S.Store.objects o) trees) (sym stored) fits) in
    let same : c.ensure_directory.new.self ≡ c.open_along.new.node = (c.in_err-ensure_directory.ensures {u = tt}).unchanged in
    counted_at s.store s.object_hash (names_of s.prefix.items) trees s.root c.ensure_directory.new.self s.lookups c.open_along.new.lookups c.args.self.now
    c.self.view_is (with_empty_name path)
    (opened_counts trees (with_empty_name path) path [] refl (dirs_of s.root) (dirs_of c.ensure_directory.new.self) ok.0
    (subst (λ (ds : Opened). Opens IsNoTree trees path (dirs_of s.root) (dirs_of ds) ok.0) (sym same) ok.1) s.lookups c.open_along.new.lookups ok.2))
