-- The id that the entry of a written directory gets: that of its emitted tree if it is changed, its own if it isn't, and
-- none if the tree is empty. They are the clauses of `written_id`.
use Rattle.std.proofs.Common.{◌≡◌, ◌≢◌, ◌∙◌, ℕ, [], ◌∷◌, List, Ok, Err, refl, sym, ap, subst, append-nil}
use Rattle.std.specs.Fn.{CalledAt}
use Rattle.gixobj_tree_entries.specs.Entries.{EntryView, Pair}
use Rattle.gixobj_hash.specs.declared.hash.object_id.ObjectId.{ObjectId}
use Rattle.gixobj_editor_files.specs.Emission.{entry_unless_null}
use Rattle.gixobj_editor_files.specs.WrittenTrees.{so_far}
use Rattle.gixobj_editor_write.specs.Calls.{IsStorable}
use Rattle.gixobj_editor_write.specs.Frames.{EmitsWritten}
use Rattle.gixobj_editor_write.specs.WriteErrors.{IsWriteError}
use Rattle.gixobj_editor_open.proofs.Results.{if_err_weaken}
use Rattle.gixobj_editor_write.proofs.Emitting.{folds_to_one, nil_of_is_empty, not_nil_of_not_empty, stopped_after_folds, stopped_at_call}
use Rattle.gixobj_editor_write.proofs.TakenTrees.{adds_nil, adds_pair}
use Rattle.gixobj_editor_write.proofs.WrittenEntries.{emits_written_empty, emits_written_unchanged, emits_written_changed}
use Rattle.gixobj_editor_write.proofs.walk.written_id.Goals as goal

pub returns-then-has_no_entries-clause-emitted : goal.returns-then-has_no_entries-clause-emitted
returns-then-has_no_entries-clause-emitted g c =
    let written_tree = so_far c.args.base.now c.args.written_tree in
    let none = nil_of_is_empty written_tree (c.if-has_no_entries.ensures c.args.base.now c.requires.shares_base) in
    ([], 0, adds_nil c.args.pairs.now.items, refl, refl, emits_written_empty c.args.base.now c.args.entry.now written_tree none)

pub returns-then-is_base-clause-emitted : goal.returns-then-is_base-clause-emitted
returns-then-is_base-clause-emitted g c =
    let e = c.args.entry.now in
    let written_tree = so_far c.args.base.now c.args.written_tree in
    let filled = not_nil_of_not_empty written_tree (c.if-has_no_entries.ensures c.args.base.now c.requires.shares_base) in
    let emits = subst (λ id. EmitsWritten c.args.base.now e written_tree [] (entry_unless_null e id) 1) (sym (ap (λ (x : EntryView). x.id) c.entry.view_is))
    (emits_written_unchanged c.args.base.now e written_tree filled (c.if-is_base.ensures.0 refl)) in
    ([], 1, adds_nil c.args.pairs.now.items, c.count.ensures, refl, emits)

pub returns-in_err-tree-clause-error : goal.returns-in_err-tree-clause-error
returns-in_err-tree-clause-error g c =
    let e = c.args.entry.now in
    let base = c.args.base.now in
    let written_tree = so_far base c.args.written_tree in
    let filled = not_nil_of_not_empty written_tree (c.if-has_no_entries.ensures base c.requires.shares_base) in
    let changed : written_tree ≢ base = λ is. absurd (cc (c.if-is_base.ensures.1 is)) in
    if_err_weaken c.from_residual.result _ _ c.from_residual.ensures.1
    (stopped_at_call (λ f p h. CalledAt g.F.FnMut f p.1 (Ok p.0) h) (λ f tree x h. CalledAt g.F.FnMut f tree (Err x) h)
    (λ more. (kept : List EntryView) × (n : ℕ) × EmitsWritten base e written_tree more kept n) c.args.out.now c.args.out.now [] ((e.id, written_tree) ∷ []) refl
    (entry_unless_null e e.id, 0, emits_written_changed base e written_tree filled changed e.id))

pub emit_tree-requires-clause-storable : goal.emit_tree-requires-clause-storable
emit_tree-requires-clause-storable g c = subst IsStorable (sym c.in_ok-tree.ensures.tree) c.requires.storable

pub returns-in_err-id-clause-error : goal.returns-in_err-id-clause-error
returns-in_err-id-clause-error g c =
    let e = c.args.entry.now in
    let base = c.args.base.now in
    let written_tree = so_far base c.args.written_tree in
    let filled = not_nil_of_not_empty written_tree (c.if-has_no_entries.ensures base c.requires.shares_base) in
    let changed : written_tree ≢ base = λ is. absurd (cc (c.if-is_base.ensures.1 is)) in
    let tree = c.in_ok-tree.tree in
    let made : written_tree ≡ tree = sym c.in_ok-tree.ensures.tree in
    if_err_weaken c.from_residual-in_err-id.result _ _ c.from_residual-in_err-id.ensures.1
    (λ error is. subst (IsWriteError (λ f p h. CalledAt g.F.FnMut f p.1 (Ok p.0) h) (λ f tree x h. CalledAt g.F.FnMut f tree (Err x) h)
    (λ more. (kept : List EntryView) × (n : ℕ) × EmitsWritten base e written_tree more kept n) c.args.out.now c.emit_tree.new.out) (sym is)
    (stopped_after_folds (λ f p h. CalledAt g.F.FnMut f p.1 (Ok p.0) h) (λ f tree x h. CalledAt g.F.FnMut f tree (Err x) h)
    (λ ps. (id : ObjectId) × (ps ≡ (id, tree) ∷ [])) (λ more. (kept : List EntryView) × (n : ℕ) × EmitsWritten base e written_tree more kept n)
    c.args.out.now c.args.out.now c.emit_tree.new.out [] refl
    (λ qs one. (
      [],
      (
        entry_unless_null e one.0,
        0,
        subst (λ ps. EmitsWritten base e written_tree ps (entry_unless_null e one.0) 0) (ap (λ t'. (one.0, t') ∷ []) made ∙ sym (append-nil qs ∙ one.1))
            (emits_written_changed base e written_tree filled changed one.0),
      ),
    ))
    c.in_err-id.field-0.0 c.in_err-id.ensures.error))

pub returns-clause-emitted : goal.returns-clause-emitted
returns-clause-emitted g c =
    let e = c.args.entry.now in
    let base = c.args.base.now in
    let written_tree = so_far base c.args.written_tree in
    let filled = not_nil_of_not_empty written_tree (c.if-has_no_entries.ensures base c.requires.shares_base) in
    let changed : written_tree ≢ base = λ is. absurd (cc (c.if-is_base.ensures.1 is)) in
    let tree = c.in_ok-tree.tree in
    let made : written_tree ≡ tree = sym c.in_ok-tree.ensures.tree in
    let emitted = c.in_ok-id.ensures.emitted in
    let gave = λ (f : g.row.F.Denot) (p : Pair) (h : g.row.F.Denot). CalledAt g.F.FnMut f p.1 (Ok p.0) h in (
      (c.in_ok-id.id, tree) ∷ [],
      0,
      adds_pair _ _ (c.in_ok-id.id, tree) (λ none. filled (made ∙ none)) emitted.0,
      refl,
      folds_to_one gave c.args.out.now (c.in_ok-id.id, tree) c.emit_tree.new.out emitted.1,
      subst (λ t'. EmitsWritten base e written_tree ((c.in_ok-id.id, t') ∷ []) (entry_unless_null e c.in_ok-id.id) 0) made
          (emits_written_changed base e written_tree filled changed c.in_ok-id.id),
    )
