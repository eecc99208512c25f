-- The directories above the path are opened from the prefix, and then the entry is inserted at the path from the root.
use Rattle.std.proofs.Common.{Err, List, None, Ok, Result, false, length, ◌≡◌, ◌≢◌, ◌∙◌, ◌∷◌, [], inl, inr, ap, refl, subst, sym}
use Rattle.gixobj_editor_files.specs.Files.{Path}
use Rattle.gixobj_editor_files.specs.Opening.{Dirs}
use Rattle.gixobj_editor_files.specs.State.{State, open_dirs}
use Rattle.gixobj_editor_open.specs.Nested.{dirs_of}
use Rattle.gixobj_editor_open.specs.Paths.{AreNames, names_of}
use Rattle.gixobj_editor_open.proofs.Results.{if_err_weaken}
use Rattle.gixobj_store.specs.Stores.{StoreModel}
use Rattle.gixobj_editor_lookups.specs.EditNames.{directory_of, from_root}
use Rattle.gixobj_editor_lookups.specs.FailedOpenings.{IsLookupError}
use Rattle.gixobj_editor_lookups.specs.Openings.{AreTreesOf}
use Rattle.gixobj_editor_lookups.specs.declared.error.Error.{Error}
use Rattle.gixobj_editor_lookups.specs.declared.error.Error.TheVariants as error
use Rattle.gixobj_editor_lookups.specs.declared.opening.NotLookedUp.TheVariants as not_looked_up
use Rattle.gixobj_editor_lookups.proofs.NamedTrees.{trees_of_objects_exist}
use Rattle.gixobj_editor_files.specs.OpeningStops.{CountsEachLookup}
use Rattle.gixobj_editor.specs.FailedEdits.{IsAfterFailedEdit}
use Rattle.gixobj_editor.proofs.WrittenBelow.{prefix_is_open}
use Rattle.gixobj_editor_files.specs.Edits.{IsNoTree, Opens, upserted_dirs}
use Rattle.gixobj_editor_open.specs.Nested.{Opened}
use Rattle.gixobj_editor_open.proofs.Steps.{names_of_nil}
use Rattle.gixobj_tree.specs.WellFormed.{IsEntryName}
use Rattle.bstr.specs.Owned.{bstring_bytes}
use Rattle.bstr.specs.declared.bstring.BString.{BString}
use Rattle.gixobj_tree_entries.specs.Mode.{mode_bits, mode_of_kind}
use Rattle.std.specs.Prelude.{◌==◌, OnErr, OnOk}
use Rattle.std.proofs.lemmas.Bool.{eqb-true}
use Rattle.std.proofs.lemmas.List.Elements.{recursion_from_All}
use Rattle.gixobj_editor_lookups.proofs.InPart.{opened_counts}
use Rattle.gixobj_editor_lookups.proofs.OpeningsBelow.{ends_of_names, from_root_filled, no_name_error_of_memory}
use Rattle.gixobj_editor.specs.Cursors.{IsCursorEditError}
use Rattle.gixobj_editor.specs.Upserts.{IsNameError, IsUpsertError, IsUpserted}
use Rattle.gixobj_editor.proofs.CursorPrefixes.{Stays, names_of_open, stays_failed, stays_upserted}
use Rattle.gixobj_editor.proofs.Edited.{OpenedOn, OpenedSo, counted_at, edited_bases_idle, is_opened_of_editor, is_upserted_unchanged, map_dirs, map_dirs_eq}
use Rattle.gixobj_editor.proofs.Edited.{opened_so, same_state, state_of, stay_at, upserted_at}
use Rattle.gixobj_editor.proofs.OpenedOn.{in_part_on, inserted_on, opened_on}
use Rattle.gixobj_editor.proofs.editor.cursor.Cursor.try_upsert.Goals as goal

pub open_for_upsert_below-requires-clause-is_open : goal.open_for_upsert_below-requires-clause-is_open
open_for_upsert_below-requires-clause-is_open g c =
    let s = c.editor.inside in
    subst (λ (l : List _). dirs_of s.root (names_of l) ≢ None) (sym c.deref.ensures.value)
    (prefix_is_open s.store s.object_hash (names_of s.prefix.items) s.root s.lookups c.args.self.now.editor.now c.editor.view_is c.args.self.now.is_open)

pub open_for_upsert_below-requires-clause-names : goal.open_for_upsert_below-requires-clause-names
open_for_upsert_below-requires-clause-names g c =
    let s = c.editor.inside in
    names_of_open (dirs_of s.root) c.editor.invariant.opened (names_of c.deref.result.now)
    (subst (λ (l : List _). dirs_of s.root (names_of l) ≢ None) (sym c.deref.ensures.value)
    (prefix_is_open s.store s.object_hash (names_of s.prefix.items) s.root s.lookups c.args.self.now.editor.now c.editor.view_is c.args.self.now.is_open))

pub returns-in_err-path-clause-after_error : goal.returns-in_err-path-clause-after_error
returns-in_err-path-clause-after_error g c = if_err_weaken c.from_residual.result _ _ c.from_residual.ensures.1 (λ error is trees fits.
    let model : StoreModel g.row.S.Denot = record { objects = g.S.Store.objects; may_fail = g.S.Store.may_fail } in
    let s = c.editor.inside in
    let old = c.args.self.now.editor.now in
    let path = names_of c.args.path.now in
    let owned : names_of c.deref.result.now ≡ names_of s.prefix.items = ap names_of c.deref.ensures.value in
    let at : names_of c.deref.result.now ≡ old.prefix = owned ∙ ap (λ (o : State _). o.prefix) c.editor.view_is in
    let stored = ap (λ (o : State _). o.store) c.editor.view_is in
    let bad = (c.in_err-path.ensures {u = tt}).after_error trees (subst (λ o. AreTreesOf (g.S.Store.objects o) trees) (sym stored) fits) in
    let after = stay_at s.store s.object_hash (names_of s.prefix.items) trees model not_looked_up.Opened s.root c.open_for_upsert_below.new.root s.lookups
    c.open_for_upsert_below.new.lookups
    old c.editor.view_is (from_root (names_of c.deref.result.now) path) c.in_err-path.field-0.0 bad.0 c.editor.invariant
    c.open_for_upsert_below.ensures.bases in
    subst (λ (p : Path). IsAfterFailedEdit model trees old (from_root p path) error
    (state_of s.store s.object_hash (names_of s.prefix.items) c.open_for_upsert_below.new.root c.open_for_upsert_below.new.lookups)) at
    (subst (λ (e : Error). IsAfterFailedEdit model trees old (from_root (names_of c.deref.result.now) path) e
    (state_of s.store s.object_hash (names_of s.prefix.items) c.open_for_upsert_below.new.root c.open_for_upsert_below.new.lookups)) (sym is) after))

pub returns-in_err-path-clause-error : goal.returns-in_err-path-clause-error
returns-in_err-path-clause-error g c = if_err_weaken c.from_residual.result _ _ c.from_residual.ensures.1 (λ error is trees fits.
    let s = c.editor.inside in
    let old = c.args.self.now.editor.now in
    let path = names_of c.args.path.now in
    let owned : names_of c.deref.result.now ≡ names_of s.prefix.items = ap names_of c.deref.ensures.value in
    let at : names_of c.deref.result.now ≡ old.prefix = owned ∙ ap (λ (o : State _). o.prefix) c.editor.view_is in
    let stored = ap (λ (o : State _). o.store) c.editor.view_is in
    let bad = (c.in_err-path.ensures {u = tt}).after_error trees (subst (λ o. AreTreesOf (g.S.Store.objects o) trees) (sym stored) fits) in
    subst (λ (o : State _). IsCursorEditError path (IsUpsertError (g.S.Store.objects o.store) (g.S.Store.may_fail o.store) trees (open_dirs o)
    (from_root o.prefix path)) error) c.editor.view_is
    (subst (λ (d : Dirs). IsCursorEditError path (IsUpsertError (g.S.Store.objects s.store) (g.S.Store.may_fail s.store) trees d
    (from_root (names_of s.prefix.items) path)) error) (sym (map_dirs_eq s.root))
    (subst (λ (p : Path). IsCursorEditError path (IsUpsertError (g.S.Store.objects s.store) (g.S.Store.may_fail s.store) trees (dirs_of s.root)
    (from_root p path)) error) owned
    (subst (λ (e : Error). IsCursorEditError path (IsUpsertError (g.S.Store.objects s.store) (g.S.Store.may_fail s.store) trees (dirs_of s.root)
    (from_root (names_of c.deref.result.now) path)) e) (sym is) bad.1))))

pub returns-in_err-path-clause-lookups : goal.returns-in_err-path-clause-lookups
returns-in_err-path-clause-lookups g c = if_err_weaken c.from_residual.result _ _ c.from_residual.ensures.1 (λ error is trees fits memory.
    let s = c.editor.inside in
    let old = c.args.self.now.editor.now in
    let path = names_of c.args.path.now in
    let owned : names_of c.deref.result.now ≡ names_of s.prefix.items = ap names_of c.deref.ensures.value in
    let at : names_of c.deref.result.now ≡ old.prefix = owned ∙ ap (λ (o : State _). o.prefix) c.editor.view_is in
    let stored = ap (λ (o : State _). o.store) c.editor.view_is in
    let bad = (c.in_err-path.ensures {u = tt}).lookups trees (subst (λ o. AreTreesOf (g.S.Store.objects o) trees) (sym stored) fits) in
    subst (λ (p : Path). CountsEachLookup IsNoTree trees (from_root p path) (open_dirs old) (map_dirs c.open_for_upsert_below.new.root) old.lookups
    c.open_for_upsert_below.new.lookups) at
    (counted_at s.store s.object_hash (names_of s.prefix.items) trees s.root c.open_for_upsert_below.new.root s.lookups c.open_for_upsert_below.new.lookups
    old c.editor.view_is (from_root (names_of c.deref.result.now) path) (bad (sym is ∙ memory))))

pub invariant_of-editor : goal.invariant_of-editor
invariant_of-editor g c =
    let s = c.editor.inside in
    let named = trees_of_objects_exist (g.S.Store.objects s.store) in
    let bad = (c.in_err-path.ensures {u = tt}).after_error named.0 named.1 in
    in_part_on named.0 s.root c.open_for_upsert_below.new.root c.open_for_upsert_below.ensures.bases c.editor.invariant (g.S.Store.objects s.store)
    (g.S.Store.may_fail s.store)
    (from_root (names_of c.deref.result.now) (names_of c.args.path.now)) s.lookups c.open_for_upsert_below.new.lookups c.in_err-path.field-0.0 bad.0

pub invariant_of-self-in-Break-1 : goal.invariant_of-self-in-Break-1
invariant_of-self-in-Break-1 g c =
    let model : StoreModel g.row.S.Denot = record { objects = g.S.Store.objects; may_fail = g.S.Store.may_fail } in
    let s = c.editor.inside in
    let old = c.args.self.now.editor.now in
    let path = names_of c.args.path.now in
    let owned : names_of c.deref.result.now ≡ names_of s.prefix.items = ap names_of c.deref.ensures.value in
    let at : names_of c.deref.result.now ≡ old.prefix = owned ∙ ap (λ (o : State _). o.prefix) c.editor.view_is in
    let named = trees_of_objects_exist (g.S.Store.objects s.store) in
    let bad = (c.in_err-path.ensures {u = tt}).after_error named.0 named.1 in
    let after = stay_at s.store s.object_hash (names_of s.prefix.items) named.0 model not_looked_up.Opened s.root c.open_for_upsert_below.new.root
    s.lookups c.open_for_upsert_below.new.lookups
    old c.editor.view_is (from_root (names_of c.deref.result.now) path) c.in_err-path.field-0.0 bad.0 c.editor.invariant
    c.open_for_upsert_below.ensures.bases in
    record {
      is_open = (stays_failed model named.0 old _ (from_root (names_of c.deref.result.now) path) c.in_err-path.field-0.0 after).1
          c.args.self.now.is_open;
    }

pub returns-then-is_empty-clause-upserted : goal.returns-then-is_empty-clause-upserted
returns-then-is_empty-clause-upserted g c = λ trees fits.
    let s = c.editor.inside in
    let old = c.args.self.now.editor.now in
    is_upserted_unchanged trees old (from_root old.prefix (names_of c.args.path.now))
    (ap (from_root old.prefix) (names_of_nil c.args.path.now (eqb-true (length c.args.path.now) 0 (sym (c.if-is_empty.ensures {u = tt}))))) (mode_of_kind
    c.args.kind) c.args.id
    (is_opened_of_editor s.store s.object_hash (names_of s.prefix.items) s.root s.lookups old c.editor.view_is c.editor.invariant.opened)
    (edited_bases_idle s.store s.object_hash (names_of s.prefix.items) s.root s.lookups old c.editor.view_is)

pub returns-in_err-path-clause-unchanged : goal.returns-in_err-path-clause-unchanged
returns-in_err-path-clause-unchanged g c = if_err_weaken c.from_residual.result _ _ c.from_residual.ensures.1 (λ error is name.
    let s = c.editor.inside in
    let same = (c.in_err-path.ensures {u = tt}).unchanged (subst IsNameError is name) in
    same_state s.store s.object_hash (names_of s.prefix.items) s.root c.open_for_upsert_below.new.root s.lookups c.open_for_upsert_below.new.lookups
    c.args.self.now.editor.now c.editor.view_is same.0 c.open_for_upsert_below.ensures.bases same.1)

-- ---- the insertion

filled_of : (path : List BString) → false ≡ (length path == 0) → names_of path ≢ []
filled_of [] some none = absurd (cc some)
filled_of (name ∷ path) some none = cc none

-- the result is that of an insertion, or the directory is unchanged
by_result : {X E : Type 0} (r : Result X E) (P P' Q R : Type 0) → OnOk r P → OnOk r P' → OnErr r Q → (P → P' → R) → (Q → R) → R
by_result (Ok x) P P' Q R p p' q accepted rejected = accepted p p'
by_result (Err e) P P' Q R p p' q accepted rejected = rejected q

pub insert_entry-requires : goal.insert_entry-requires
insert_entry-requires g c =
    let ok = c.in_ok-path.ensures {u = tt} in
    recursion_from_All IsEntryName (names_of c.deref-2.result.now) (subst AreNames (sym (ap names_of c.deref-2.ensures.value ∙ ok.path)) ok.names)

pub returns-in_err-insert_entry-clause-after_error : goal.returns-in_err-insert_entry-clause-after_error
returns-in_err-insert_entry-clause-after_error g c =
    if_err_weaken c.from_residual-in_err-insert_entry.result _ _ c.from_residual-in_err-insert_entry.ensures.1 (λ error is trees fits.
    let model : StoreModel g.row.S.Denot = record { objects = g.S.Store.objects; may_fail = g.S.Store.may_fail } in
    let s = c.editor.inside in
    let old = c.args.self.now.editor.now in
    let path = names_of c.args.path.now in
    let entire = from_root (names_of c.deref.result.now) path in
    let at : names_of c.deref.result.now ≡ old.prefix = ap names_of c.deref.ensures.value ∙ ap (λ (o : State _). o.prefix) c.editor.view_is in
    let stored = ap (λ (o : State _). o.store) c.editor.view_is in
    let filled = filled_of c.args.path.now (c.if-is_empty.ensures {u = tt}) in
    let ends = ends_of_names entire (from_root_filled (names_of c.deref.result.now) path filled) in
    let ok = (c.in_ok-path.ensures {u = tt}).opened trees (subst (λ o. AreTreesOf (g.S.Store.objects o) trees) (sym stored) fits) in
    let same : c.insert_entry.new.self ≡ c.open_for_upsert_below.new.root = (c.in_err-insert_entry.ensures {u = tt}).unchanged in
    let opens : Opens IsNoTree trees ends.0 (dirs_of s.root) (dirs_of c.insert_entry.new.self) ok.0 =
    subst (λ (ds : Opened). Opens IsNoTree trees ends.0 (dirs_of s.root) (dirs_of ds) ok.0) (sym same)
    (subst (λ (p : Path). Opens IsNoTree trees p (dirs_of s.root) (dirs_of c.open_for_upsert_below.new.root) ok.0) ends.3 ok.1) in
    let after = opened_so s.store s.object_hash (names_of s.prefix.items) trees model not_looked_up.Opened s.root c.insert_entry.new.self s.lookups
    c.open_for_upsert_below.new.lookups old c.editor.view_is entire ends.0 ends.1 ends.2 ok.0 opens ok.2
    error (subst (λ (e : Error). ¬ IsLookupError e) (sym is) (λ it. it)) c.editor.invariant
    (subst (λ (ds : Opened). OpenedSo s.root ds) (sym same) c.open_for_upsert_below.ensures.bases) in
    subst (λ (p : Path). IsAfterFailedEdit model trees old (from_root p path) error
    (state_of s.store s.object_hash (names_of s.prefix.items) c.insert_entry.new.self c.open_for_upsert_below.new.lookups)) at after)

pub returns-in_err-insert_entry-clause-error : goal.returns-in_err-insert_entry-clause-error
returns-in_err-insert_entry-clause-error g c =
    if_err_weaken c.from_residual-in_err-insert_entry.result _ _ c.from_residual-in_err-insert_entry.ensures.1 (λ error is trees fits.
    inr (is, filled_of c.args.path.now (c.if-is_empty.ensures {u = tt})))

pub returns-in_err-insert_entry-clause-lookups : goal.returns-in_err-insert_entry-clause-lookups
returns-in_err-insert_entry-clause-lookups g c =
    if_err_weaken c.from_residual-in_err-insert_entry.result _ _ c.from_residual-in_err-insert_entry.ensures.1 (λ error is trees fits memory.
    let s = c.editor.inside in
    let old = c.args.self.now.editor.now in
    let path = names_of c.args.path.now in
    let entire = from_root (names_of c.deref.result.now) path in
    let at : names_of c.deref.result.now ≡ old.prefix = ap names_of c.deref.ensures.value ∙ ap (λ (o : State _). o.prefix) c.editor.view_is in
    let stored = ap (λ (o : State _). o.store) c.editor.view_is in
    let filled = filled_of c.args.path.now (c.if-is_empty.ensures {u = tt}) in
    let ends = ends_of_names entire (from_root_filled (names_of c.deref.result.now) path filled) in
    let ok = (c.in_ok-path.ensures {u = tt}).opened trees (subst (λ o. AreTreesOf (g.S.Store.objects o) trees) (sym stored) fits) in
    let same : c.insert_entry.new.self ≡ c.open_for_upsert_below.new.root = (c.in_err-insert_entry.ensures {u = tt}).unchanged in
    let opens : Opens IsNoTree trees ends.0 (dirs_of s.root) (dirs_of c.insert_entry.new.self) ok.0 =
    subst (λ (ds : Opened). Opens IsNoTree trees ends.0 (dirs_of s.root) (dirs_of ds) ok.0) (sym same)
    (subst (λ (p : Path). Opens IsNoTree trees p (dirs_of s.root) (dirs_of c.open_for_upsert_below.new.root) ok.0) ends.3 ok.1) in
    subst (λ (p : Path). CountsEachLookup IsNoTree trees (from_root p path) (open_dirs old) (map_dirs c.insert_entry.new.self) old.lookups
    c.open_for_upsert_below.new.lookups) at
    (counted_at s.store s.object_hash (names_of s.prefix.items) trees s.root c.insert_entry.new.self s.lookups c.open_for_upsert_below.new.lookups
    old c.editor.view_is entire
    (opened_counts trees entire ends.0 ends.1 ends.2 (dirs_of s.root) (dirs_of c.insert_entry.new.self) ok.0 opens s.lookups
    c.open_for_upsert_below.new.lookups ok.2)))

pub returns-in_err-insert_entry-clause-unchanged : goal.returns-in_err-insert_entry-clause-unchanged
returns-in_err-insert_entry-clause-unchanged g c =
    if_err_weaken c.from_residual-in_err-insert_entry.result _ _ c.from_residual-in_err-insert_entry.ensures.1 (λ error is name.
    absurd (no_name_error_of_memory error is name))

-- the directories and their bases after the insertion, accepted or rejected
pub invariant_of-editor-2 : goal.invariant_of-editor-2
invariant_of-editor-2 g c =
    let s = c.editor.inside in
    let path = names_of c.args.path.now in
    let entire = from_root (names_of c.deref.result.now) path in
    let mid = c.open_for_upsert_below.new.root in
    let new = c.insert_entry.new.self in
    let filled = filled_of c.args.path.now (c.if-is_empty.ensures {u = tt}) in
    let ends = ends_of_names entire (from_root_filled (names_of c.deref.result.now) path filled) in
    let named = trees_of_objects_exist (g.S.Store.objects s.store) in
    let joined : names_of c.deref-2.result.now ≡ entire = ap names_of c.deref-2.ensures.value ∙ (c.in_ok-path.ensures {u = tt}).path in
    let ok = (c.in_ok-path.ensures {u = tt}).opened named.0 named.1 in
    by_result c.insert_entry.result _ _ _ (OpenedOn new) c.insert_entry.ensures.dirs c.insert_entry.ensures.bases c.insert_entry.ensures.unchanged
    (λ dirs bases. inserted_on named.0 s.root mid c.open_for_upsert_below.ensures.bases c.editor.invariant new bases
    s.object_hash entire ends.0 ends.1 ends.2 (c.in_ok-path.ensures {u = tt}).names (mode_of_kind c.args.kind) c.args.id ok.0
    (subst (λ (p : Path). Opens IsNoTree named.0 p (dirs_of s.root) (dirs_of mid) ok.0) ends.3 ok.1)
    (λ at. dirs at
    ∙ ap (λ (p : Path). upserted_dirs p (mode_bits c.into.result) c.args.id c.null-null.result (dirs_of mid) at) joined
    ∙ ap (λ mode. upserted_dirs entire mode c.args.id c.null-null.result (dirs_of mid) at) c.into.ensures
    ∙ ap (λ null. upserted_dirs entire (mode_of_kind c.args.kind) c.args.id null (dirs_of mid) at) c.null-null.ensures.value))
    (λ same. subst OpenedOn (sym same) (opened_on named.0 s.root mid c.open_for_upsert_below.ensures.bases c.editor.invariant
    (directory_of entire) ok.0 ok.1))

pub invariant_of-self-2 : goal.invariant_of-self-2
invariant_of-self-2 g c =
    let model : StoreModel g.row.S.Denot = record { objects = g.S.Store.objects; may_fail = g.S.Store.may_fail } in
    let s = c.editor.inside in
    let old = c.args.self.now.editor.now in
    let path = names_of c.args.path.now in
    let entire = from_root (names_of c.deref.result.now) path in
    let at : names_of c.deref.result.now ≡ old.prefix = ap names_of c.deref.ensures.value ∙ ap (λ (o : State _). o.prefix) c.editor.view_is in
    let mid = c.open_for_upsert_below.new.root in
    let count = c.open_for_upsert_below.new.lookups in
    let ds = c.insert_entry.new.self in
    let new : State g.row.S.Denot = state_of s.store s.object_hash (names_of s.prefix.items) ds count in
    let filled = filled_of c.args.path.now (c.if-is_empty.ensures {u = tt}) in
    let ends = ends_of_names entire (from_root_filled (names_of c.deref.result.now) path filled) in
    let named = trees_of_objects_exist (g.S.Store.objects s.store) in
    let joined : names_of c.deref-2.result.now ≡ entire = ap names_of c.deref-2.ensures.value ∙ (c.in_ok-path.ensures {u = tt}).path in
    let ok = (c.in_ok-path.ensures {u = tt}).opened named.0 named.1 in
    let opens = subst (λ (p : Path). Opens IsNoTree named.0 p (dirs_of s.root) (dirs_of mid) ok.0) ends.3 ok.1 in
    let kept : Stays old new = by_result c.insert_entry.result _ _ _ (Stays old new) c.insert_entry.ensures.dirs c.insert_entry.ensures.bases
    c.insert_entry.ensures.unchanged
    (λ dirs bases. stays_upserted named.0 old new path (mode_of_kind c.args.kind) c.args.id
    (subst (λ (p : Path). IsUpserted named.0 old (from_root p path) (mode_of_kind c.args.kind) c.args.id new) at
    (upserted_at s.store s.object_hash (names_of s.prefix.items) named.0 s.root mid ds s.lookups count old c.editor.view_is entire ends.0 ends.1
    (mode_of_kind c.args.kind) c.args.id ok.0 ends.2 (c.in_ok-path.ensures {u = tt}).names opens
    (λ q. dirs q
    ∙ ap (λ (p : Path). upserted_dirs p (mode_bits c.into.result) c.args.id c.null-null.result (dirs_of mid) q) joined
    ∙ ap (λ mode. upserted_dirs entire mode c.args.id c.null-null.result (dirs_of mid) q) c.into.ensures
    ∙ ap (λ null. upserted_dirs entire (mode_of_kind c.args.kind) c.args.id null (dirs_of mid) q) c.null-null.ensures.value)
    ok.2 c.editor.invariant c.open_for_upsert_below.ensures.bases bases)))
    (λ same. stays_failed model named.0 old new entire error.OutOfMemory
    (opened_so s.store s.object_hash (names_of s.prefix.items) named.0 model not_looked_up.Opened s.root ds s.lookups count old c.editor.view_is
    entire ends.0 ends.1 ends.2 ok.0
    (subst (λ (d : Opened). Opens IsNoTree named.0 ends.0 (dirs_of s.root) (dirs_of d) ok.0) (sym same) opens) ok.2 error.OutOfMemory (λ it. it)
    c.editor.invariant (subst (λ (d : Opened). OpenedSo s.root d) (sym same) c.open_for_upsert_below.ensures.bases))) in
    record { is_open = kept.1 c.args.self.now.is_open }

pub returns-clause-upserted : goal.returns-clause-upserted
returns-clause-upserted g c = λ trees fits.
    let s = c.editor.inside in
    let old = c.args.self.now.editor.now in
    let path = names_of c.args.path.now in
    let entire = from_root (names_of c.deref.result.now) path in
    let at : names_of c.deref.result.now ≡ old.prefix = ap names_of c.deref.ensures.value ∙ ap (λ (o : State _). o.prefix) c.editor.view_is in
    let stored = ap (λ (o : State _). o.store) c.editor.view_is in
    let filled = filled_of c.args.path.now (c.if-is_empty.ensures {u = tt}) in
    let ends = ends_of_names entire (from_root_filled (names_of c.deref.result.now) path filled) in
    let joined : names_of c.deref-2.result.now ≡ entire = ap names_of c.deref-2.ensures.value ∙ (c.in_ok-path.ensures {u = tt}).path in
    let ok = (c.in_ok-path.ensures {u = tt}).opened trees (subst (λ o. AreTreesOf (g.S.Store.objects o) trees) (sym stored) fits) in
    let done = upserted_at s.store s.object_hash (names_of s.prefix.items) trees s.root c.open_for_upsert_below.new.root c.insert_entry.new.self s.lookups
    c.open_for_upsert_below.new.lookups old c.editor.view_is entire ends.0 ends.1 (mode_of_kind c.args.kind) c.args.id ok.0 ends.2
    (c.in_ok-path.ensures {u = tt}).names
    (subst (λ (p : Path). Opens IsNoTree trees p (dirs_of s.root) (dirs_of c.open_for_upsert_below.new.root) ok.0) ends.3 ok.1)
    (λ q. (c.in_ok-insert_entry.ensures {u = tt}).dirs q
    ∙ ap (λ (p : Path). upserted_dirs p (mode_bits c.into.result) c.args.id c.null-null.result (dirs_of c.open_for_upsert_below.new.root) q) joined
    ∙ ap (λ mode. upserted_dirs entire mode c.args.id c.null-null.result (dirs_of c.open_for_upsert_below.new.root) q) c.into.ensures
    ∙ ap (λ null. upserted_dirs entire (mode_of_kind c.args.kind) c.args.id null (dirs_of c.open_for_upsert_below.new.root) q)
    c.null-null.ensures.value) ok.2 c.editor.invariant c.open_for_upsert_below.ensures.bases (c.in_ok-insert_entry.ensures {u = tt}).bases in
    subst (λ (p : Path). IsUpserted trees old (from_root p path) (mode_of_kind c.args.kind) c.args.id
    (state_of s.store s.object_hash (names_of s.prefix.items) c.insert_entry.new.self c.open_for_upsert_below.new.lookups)) at done
