-- The directories above the path are opened, and then the entry is inserted: the clauses of `try_upsert`.
use Rattle.std.proofs.Common.{◌≡◌, ◌∙◌, [], sym, ap, subst}
use Rattle.std.proofs.lemmas.List.Elements.{recursion_from_All}
use Rattle.bstr.specs.Owned.{bstring_bytes}
use Rattle.gixobj_tree.specs.WellFormed.{IsEntryName}
use Rattle.gixobj_tree_entries.specs.Mode.{mode_of_kind}
use Rattle.gixobj_editor_files.specs.Edits.{IsNoTree, Opens, upserted_dirs}
use Rattle.gixobj_editor_files.specs.State.{State, open_dirs}
use Rattle.gixobj_editor_open.specs.Paths.{names_of}
use Rattle.gixobj_editor_open.specs.Nested.{Opened, dirs_of}
use Rattle.gixobj_editor_lookups.specs.Openings.{AreTreesOf, IsOpenErrorAt}
use Rattle.gixobj_editor_open.proofs.Results.{if_err_weaken}
use Rattle.gixobj_editor_open.proofs.Steps.{names_of_nil}
use Rattle.gixobj_store.specs.Stores.{StoreModel}
use Rattle.gixobj_editor_lookups.specs.EditNames.{IsFirstNameError}
use Rattle.gixobj_editor.specs.Upserts.{IsUpsertError}
use Rattle.gixobj_editor_lookups.specs.FailedOpenings.{IsLookupError}
use Rattle.gixobj_editor.specs.FailedEdits.{IsAfterFailedEdit}
use Rattle.gixobj_editor_lookups.specs.declared.error.Error.{Error}
use Rattle.gixobj_editor_lookups.proofs.ValidNames.{no_lookup_of_name, no_memory_of_name}
use Rattle.gixobj_editor.proofs.Edited.{OpenedOn, OpenedSo, counted_at, edited_bases_idle, halted_so, is_upserted_unchanged, is_opened_of_editor, opened_so}
use Rattle.gixobj_editor.proofs.Edited.{fails, unchanged_at, upserted_at, state_of}
use Rattle.gixobj_editor_lookups.specs.declared.opening.NotLookedUp.TheVariants as not_looked_up
use Rattle.gixobj_editor_lookups.proofs.NamedTrees.{trees_of_objects_exist}
use Rattle.gixobj_editor_lookups.proofs.OpeningsBelow.{upsert_error_of_name}
use Rattle.gixobj_editor_lookups.proofs.Paths.{names_of_snoc}
use Rattle.gixobj_editor.proofs.OpenedOn.{halted_on, opened_on, inserted_on}
use Rattle.gixobj_editor_lookups.proofs.InPart.{halted_counts, opened_counts}
use Rattle.gixobj_editor.proofs.editor.Editor.try_upsert.Goals as goal

pub returns-in_err-validate_names-clause-error : goal.returns-in_err-validate_names-clause-error
returns-in_err-validate_names-clause-error g c = if_err_weaken c.from_residual.result _ _ c.from_residual.ensures.1 (λ error is trees fits.
    subst (IsUpsertError (g.S.Store.objects c.args.self.now.store) (g.S.Store.may_fail c.args.self.now.store) trees (open_dirs c.args.self.now)
    (names_of c.args.path.now)) (sym is)
    (upsert_error_of_name (g.S.Store.objects c.args.self.now.store) (g.S.Store.may_fail c.args.self.now.store) trees (open_dirs c.args.self.now)
    (names_of c.args.path.now) c.in_err-validate_names.field-0.0 (c.in_err-validate_names.ensures {u = tt}).error))

pub returns-in_err-validate_names-clause-after_error : goal.returns-in_err-validate_names-clause-after_error
returns-in_err-validate_names-clause-after_error g c =
    if_err_weaken c.from_residual.result _ _ c.from_residual.ensures.1 (λ error is trees fits.
    let s = c.self.inside in
    let bad = (c.in_err-validate_names.ensures {u = tt}).error in
    unchanged_at s.store s.object_hash (names_of s.prefix.items) trees (record { objects = g.S.Store.objects; may_fail = g.S.Store.may_fail }) s.root
    s.lookups c.args.self.now c.self.view_is (names_of c.args.path.now) error
    (no_lookup_of_name (names_of c.args.path.now) error (subst (IsFirstNameError (names_of c.args.path.now)) (sym is) bad)) c.self.invariant)

pub returns-in_default-clause-upserted : goal.returns-in_default-clause-upserted
returns-in_default-clause-upserted g c = λ trees fits. is_upserted_unchanged trees c.args.self.now (names_of c.args.path.now)
    (names_of_nil c.args.path.now c.in_default.ensures.cases) (mode_of_kind c.args.kind) c.args.id
    (is_opened_of_editor c.self.inside.store c.self.inside.object_hash (names_of c.self.inside.prefix.items) c.self.inside.root c.self.inside.lookups
    c.args.self.now
    c.self.view_is c.self.invariant.opened)
    (edited_bases_idle c.self.inside.store c.self.inside.object_hash (names_of c.self.inside.prefix.items) c.self.inside.root c.self.inside.lookups
    c.args.self.now
    c.self.view_is)

pub returns-in_err-open_along-clause-after_error : goal.returns-in_err-open_along-clause-after_error
returns-in_err-open_along-clause-after_error g c =
    if_err_weaken c.from_residual-in_err-open_along.result _ _ c.from_residual-in_err-open_along.ensures.1 (λ error gives trees fits.
    let model : StoreModel g.row.S.Denot = record { objects = g.S.Store.objects; may_fail = g.S.Store.may_fail } in
    let s = c.self.inside in
    let is = names_of_snoc c.args.path.now c.in-Some.directory.now c.in-Some._last.now c.in-Some.ensures.cases.0 in
    let stored = ap (λ (o : State _). o.store) c.self.view_is in
    let bad = (c.in_err-open_along.ensures {u = tt}).stopped_opening trees (subst (λ o. AreTreesOf (g.S.Store.objects o) trees) (sym stored) fits) in
    let after = halted_so s.store s.object_hash (names_of s.prefix.items) trees model s.root c.open_along.new.node s.lookups c.open_along.new.lookups
    c.args.self.now
    c.self.view_is (names_of c.args.path.now) (names_of c.in-Some.directory.now) (bstring_bytes c.in-Some._last.now) is bad.0 bad.1 bad.2 bad.3
    c.in_err-open_along.field-0.0 bad.4 c.self.invariant c.open_along.ensures.bases in
    subst (λ (e : Error). IsAfterFailedEdit model trees c.args.self.now (names_of c.args.path.now) e
    (state_of s.store s.object_hash (names_of s.prefix.items) c.open_along.new.node c.open_along.new.lookups)) (sym gives) after)

pub returns-in_err-open_along-clause-error : goal.returns-in_err-open_along-clause-error
returns-in_err-open_along-clause-error g c =
    if_err_weaken c.from_residual-in_err-open_along.result _ _ c.from_residual-in_err-open_along.ensures.1 (λ error gives trees fits.
    let s = c.self.inside in
    let is = names_of_snoc c.args.path.now c.in-Some.directory.now c.in-Some._last.now c.in-Some.ensures.cases.0 in
    let stored = ap (λ (o : State _). o.store) c.self.view_is in
    let bad = (c.in_err-open_along.ensures {u = tt}).stopped_opening trees (subst (λ o. AreTreesOf (g.S.Store.objects o) trees) (sym stored) fits) in
    subst (IsUpsertError (g.S.Store.objects c.args.self.now.store) (g.S.Store.may_fail c.args.self.now.store) trees (open_dirs c.args.self.now)
    (names_of c.args.path.now)) (sym gives)
    (fails s.store s.object_hash (names_of s.prefix.items) trees (g.S.Store.objects c.args.self.now.store)
    (g.S.Store.may_fail c.args.self.now.store) s.root
    c.open_along.new.node s.lookups c.args.self.now c.self.view_is (names_of c.args.path.now) (names_of c.in-Some.directory.now)
    (bstring_bytes c.in-Some._last.now)
    is (c.in_ok-validate_names.ensures {u = tt}).accepted bad.0 bad.1 bad.2 c.in_err-open_along.field-0.0
    (subst (λ o. IsOpenErrorAt (g.S.Store.objects o) (g.S.Store.may_fail o) bad.1 c.in_err-open_along.field-0.0) stored bad.4)))

pub insert_entry-requires : goal.insert_entry-requires
insert_entry-requires g c = recursion_from_All IsEntryName (names_of c.args.path.now) (c.in_ok-validate_names.ensures {u = tt}).accepted

pub returns-in_err-insert_entry-clause-after_error : goal.returns-in_err-insert_entry-clause-after_error
returns-in_err-insert_entry-clause-after_error g c =
    if_err_weaken c.from_residual-in_err-insert_entry.result _ _ c.from_residual-in_err-insert_entry.ensures.1 (λ error gives trees fits.
    let s = c.self.inside in
    let is = names_of_snoc c.args.path.now c.in-Some.directory.now c.in-Some._last.now c.in-Some.ensures.cases.0 in
    let stored = ap (λ (o : State _). o.store) c.self.view_is in
    let ok = (c.in_ok-open_along.ensures {u = tt}).opened trees (subst (λ o. AreTreesOf (g.S.Store.objects o) trees) (sym stored) fits) in
    let same : c.insert_entry.new.self ≡ c.open_along.new.node = (c.in_err-insert_entry.ensures {u = tt}).unchanged in
    opened_so s.store s.object_hash (names_of s.prefix.items) trees (record { objects = g.S.Store.objects; may_fail = g.S.Store.may_fail })
    not_looked_up.Opened s.root c.insert_entry.new.self s.lookups c.open_along.new.lookups
    c.args.self.now c.self.view_is (names_of c.args.path.now) (names_of c.in-Some.directory.now) (bstring_bytes c.in-Some._last.now) is ok.0
    (subst (λ (ds : Opened). Opens IsNoTree trees (names_of c.in-Some.directory.now) (dirs_of s.root) (dirs_of ds) ok.0) (sym same) ok.1) ok.2
    error (subst (λ (e : Error). ¬ IsLookupError e) (sym gives) (λ it. it)) c.self.invariant
    (subst (λ (ds : Opened). OpenedSo s.root ds) (sym same) c.open_along.ensures.bases))

pub invariant_of-self : goal.invariant_of-self
invariant_of-self g c =
    let s = c.self.inside in
    let named = trees_of_objects_exist (g.S.Store.objects s.store) in
    let bad = (c.in_err-open_along.ensures {u = tt}).stopped_opening named.0 named.1 in
    halted_on named.0 s.root c.open_along.new.node c.open_along.ensures.bases c.self.invariant (names_of c.in-Some.directory.now) bad.0 bad.1 bad.2

pub invariant_of-self-in_err-insert_entry : goal.invariant_of-self-in_err-insert_entry
invariant_of-self-in_err-insert_entry g c =
    let s = c.self.inside in
    let named = trees_of_objects_exist (g.S.Store.objects s.store) in
    let ok = (c.in_ok-open_along.ensures {u = tt}).opened named.0 named.1 in
    let same : c.insert_entry.new.self ≡ c.open_along.new.node = (c.in_err-insert_entry.ensures {u = tt}).unchanged in
    subst OpenedOn (sym same) (opened_on named.0 s.root c.open_along.new.node c.open_along.ensures.bases c.self.invariant
    (names_of c.in-Some.directory.now) ok.0 ok.1)

pub invariant_of-self-2 : goal.invariant_of-self-2
invariant_of-self-2 g c =
    let s = c.self.inside in
    let path = names_of c.args.path.now in
    let is = names_of_snoc c.args.path.now c.in-Some.directory.now c.in-Some._last.now c.in-Some.ensures.cases.0 in
    let named = trees_of_objects_exist (g.S.Store.objects s.store) in
    let ok = (c.in_ok-open_along.ensures {u = tt}).opened named.0 named.1 in
    inserted_on named.0 s.root c.open_along.new.node c.open_along.ensures.bases c.self.invariant c.insert_entry.new.self
    (c.in_ok-insert_entry.ensures {u = tt}).bases
    s.object_hash path (names_of c.in-Some.directory.now) (bstring_bytes c.in-Some._last.now) is (c.in_ok-validate_names.ensures {u = tt}).accepted
    (mode_of_kind c.args.kind) c.args.id ok.0 ok.1
    (λ at. (c.in_ok-insert_entry.ensures {u = tt}).dirs at
    ∙ ap (λ mode. upserted_dirs (names_of c.args.path.now) mode c.args.id c.null-null.result (dirs_of c.open_along.new.node) at) c.into.ensures
    ∙ ap (λ null. upserted_dirs (names_of c.args.path.now) (mode_of_kind c.args.kind) c.args.id null (dirs_of c.open_along.new.node) at)
    c.null-null.ensures.value)

pub returns-clause-upserted : goal.returns-clause-upserted
returns-clause-upserted g c = λ trees fits.
    let s = c.self.inside in
    let is = names_of_snoc c.args.path.now c.in-Some.directory.now c.in-Some._last.now c.in-Some.ensures.cases.0 in
    let stored = ap (λ (o : State _). o.store) c.self.view_is in
    let ok = (c.in_ok-open_along.ensures {u = tt}).opened trees (subst (λ o. AreTreesOf (g.S.Store.objects o) trees) (sym stored) fits) in
    upserted_at s.store s.object_hash (names_of s.prefix.items) trees s.root c.open_along.new.node c.insert_entry.new.self s.lookups
    c.open_along.new.lookups
    c.args.self.now c.self.view_is (names_of c.args.path.now) (names_of c.in-Some.directory.now) (bstring_bytes c.in-Some._last.now)
    (mode_of_kind c.args.kind) c.args.id ok.0 is (c.in_ok-validate_names.ensures {u = tt}).accepted ok.1
    (λ at. (c.in_ok-insert_entry.ensures {u = tt}).dirs at
    ∙ ap (λ mode. upserted_dirs (names_of c.args.path.now) mode c.args.id c.null-null.result (dirs_of c.open_along.new.node) at) c.into.ensures
    ∙ ap (λ null. upserted_dirs (names_of c.args.path.now) (mode_of_kind c.args.kind) c.args.id null (dirs_of c.open_along.new.node) at)
    c.null-null.ensures.value) ok.2 c.self.invariant c.open_along.ensures.bases (c.in_ok-insert_entry.ensures {u = tt}).bases

-- each lookup is counted
pub returns-in_err-validate_names-clause-lookups : goal.returns-in_err-validate_names-clause-lookups
returns-in_err-validate_names-clause-lookups g c = if_err_weaken c.from_residual.result _ _ c.from_residual.ensures.1 (λ error is trees fits memory.
    let path = names_of c.args.path.now in
    absurd (no_memory_of_name path error (subst (IsFirstNameError path) (sym is) (c.in_err-validate_names.ensures {u = tt}).error) memory))

pub returns-in_err-open_along-clause-lookups : goal.returns-in_err-open_along-clause-lookups
returns-in_err-open_along-clause-lookups g c =
    if_err_weaken c.from_residual-in_err-open_along.result _ _ c.from_residual-in_err-open_along.ensures.1 (λ error gives trees fits memory.
    let s = c.self.inside in
    let path = names_of c.args.path.now in
    let is = names_of_snoc c.args.path.now c.in-Some.directory.now c.in-Some._last.now c.in-Some.ensures.cases.0 in
    let stored = ap (λ (o : State _). o.store) c.self.view_is in
    let bad = (c.in_err-open_along.ensures {u = tt}).stopped_opening trees (subst (λ o. AreTreesOf (g.S.Store.objects o) trees) (sym stored) fits) in
    counted_at s.store s.object_hash (names_of s.prefix.items) trees s.root c.open_along.new.node s.lookups c.open_along.new.lookups c.args.self.now
    c.self.view_is path
    (halted_counts trees path (names_of c.in-Some.directory.now) (bstring_bytes c.in-Some._last.now) [] is (dirs_of s.root)
    (dirs_of c.open_along.new.node) bad.0 bad.1 bad.2 s.lookups c.open_along.new.lookups bad.3))

pub returns-in_err-insert_entry-clause-lookups : goal.returns-in_err-insert_entry-clause-lookups
returns-in_err-insert_entry-clause-lookups g c =
    if_err_weaken c.from_residual-in_err-insert_entry.result _ _ c.from_residual-in_err-insert_entry.ensures.1 (λ error gives trees fits memory.
    let s = c.self.inside in
    let path = names_of c.args.path.now in
    let directory = names_of c.in-Some.directory.now in
    let is = names_of_snoc c.args.path.now c.in-Some.directory.now c.in-Some._last.now c.in-Some.ensures.cases.0 in
    let stored = ap (λ (o : State _). o.store) c.self.view_is in
    let ok = (c.in_ok-open_along.ensures {u = tt}).opened trees (subst (λ o. AreTreesOf (g.S.Store.objects o) trees) (sym stored) fits) in
    let same : c.insert_entry.new.self ≡ c.open_along.new.node = (c.in_err-insert_entry.ensures {u = tt}).unchanged in
    counted_at s.store s.object_hash (names_of s.prefix.items) trees s.root c.insert_entry.new.self s.lookups c.open_along.new.lookups c.args.self.now
    c.self.view_is path
    (opened_counts trees path directory (bstring_bytes c.in-Some._last.now) is (dirs_of s.root) (dirs_of c.insert_entry.new.self) ok.0
    (subst (λ (ds : Opened). Opens IsNoTree trees directory (dirs_of s.root) (dirs_of ds) ok.0) (sym same) ok.1) s.lookups c.open_along.new.lookups ok.2))
