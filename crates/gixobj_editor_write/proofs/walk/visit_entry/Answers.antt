-- What the visit of an entry emits: nothing for one without an open directory, the tree of a leaf, or nothing yet for one
-- whose directory begins. They are the clauses of `visit_entry`.
use Rattle.std.proofs.Common.{◌≡◌, ◌≢◌, ◌∙◌, ℕ, [], ◌∷◌, ◌++◌, List, Option, Some, None, Ok, Err, refl, sym, ap, subst, append-nil}
use Rattle.std.specs.Fn.{CalledAt}
use Rattle.std.specs.Option.{option_copied}
use denote.Ref.{Bor}
use Rattle.gixobj_tree_entries.specs.Entries.{EntryView, Pair}
use Rattle.gixobj_hash.specs.declared.hash.object_id.ObjectId.{ObjectId}
use Rattle.gixobj_editor_files.specs.Emission.{EmitsBelow, entry_unless_null, of_entries}
use Rattle.gixobj_editor_files.specs.Opening.{Dirs}
use Rattle.gixobj_editor_write.specs.Frames.{child_weight}
use Rattle.gixobj_editor_write.specs.TakenTrees.{Adds, child_leaf_trees}
use Rattle.gixobj_editor_open.specs.Nested.{base_side, bases_of, dirs_of, entries_side}
use Rattle.gixobj_editor_write.specs.WriteErrors.{IsWriteError, EmitsEntry, child_side}
use Rattle.gixobj_editor_open.specs.declared.open.Child.{Child}
use Rattle.gixobj_editor_open.proofs.Results.{if_err_weaken}
use Rattle.gixobj_editor_write.proofs.Emitting.{emits_below_of_both, emits_entry_open, emits_entry_unopened, emits_entry_written, folds_to_one}
use Rattle.gixobj_editor_write.proofs.Emitting.{side_of_open_child, stopped_after_folds, stopped_at_call, walk_exists_of_open}
use Rattle.gixobj_editor_write.proofs.TakenTrees.{adds_blank_tree, adds_leaf_trees_of_child, adds_nil, leaf_tree_has_base_or_is_emitted, some_unique}
use Rattle.gixobj_editor_write.proofs.walk.visit_entry.Goals as goal

pub returns-in_default-clause-emitted : goal.returns-in_default-clause-emitted
returns-in_default-clause-emitted g c =
    let e = c.args.entry.now in
    let inside = child_side entries_side (option_copied c.args.child) in
    let based = child_side base_side (option_copied c.args.child) in
    let none : inside [] ≡ None = ap (λ o. child_side entries_side (option_copied o) []) c.in_default.is in (
      [],
      subst (λ id. EmitsEntry inside based e [] (entry_unless_null e id) 0) (sym (ap (λ (x : EntryView). x.id) c.entry.view_is))
          (emits_entry_unopened inside based e none),
      subst
          (λ (o : Option (Bor Child)). Adds c.args.pairs.now.items c.args.pairs.now.items (child_leaf_trees (option_copied o)) [])
          (sym c.in_default.is)
          (adds_nil c.args.pairs.now.items),
      refl,
    )

pub returns-in-Some-leaf-clause-emitted : goal.returns-in-Some-leaf-clause-emitted
returns-in-Some-leaf-clause-emitted g c =
    let e = c.args.entry.now in
    let inside = child_side entries_side (option_copied c.args.child) in
    let based = child_side base_side (option_copied c.args.child) in
    let child = c.in-Some.child.now in
    let there = side_of_open_child entries_side c.args.child c.in-Some.child c.in-Some.is in
    let base = side_of_open_child base_side c.args.child c.in-Some.child c.in-Some.is in
    let tree = c.in-Some-leaf.tree.now in
    let some = (rw c.in-Some-leaf.is at c.in_ok-leaf.ensures.found) in
    let goes = leaf_tree_has_base_or_is_emitted child.open tree some.0 some.1 some.2 in
    let found : EmitsBelow inside based [] tree 0 = emits_below_of_both _ _ inside based there base [] tree 0 goes.found in
    let changed : based [] ≢ Some tree = λ is. goes.changed (some_unique _ _ (sym is ∙ sym (ap (λ (d : Dirs). d []) base) ∙ goes.based)) in
    let emitted = c.in_ok-emitted_id.ensures.emitted in
    let id = c.in_ok-emitted_id.emitted_id in
    let gave = λ (f : g.row.F.Denot) (p : Pair) (h : g.row.F.Denot). CalledAt g.F.FnMut f p.1 (Ok p.0) h in (
      (id, tree) ∷ [],
      emits_entry_written inside based e [] tree 0 id goes.filled changed found,
      adds_leaf_trees_of_child c.args.child c.in-Some.child c.in-Some.is (tree ∷ []) goes.adds c.args.pairs.now.items c.emit_leaf_tree.new.pairs.items
          ((id, tree) ∷ [])
          (adds_blank_tree c.args.pairs.now.items c.emit_leaf_tree.new.pairs.items (id, []) tree refl emitted.0),
      folds_to_one gave c.args.out.now (id, tree) c.emit_leaf_tree.new.out emitted.1,
    )

pub returns-in_err-emitted_id-clause-error : goal.returns-in_err-emitted_id-clause-error
returns-in_err-emitted_id-clause-error g c =
    let e = c.args.entry.now in
    let inside = child_side entries_side (option_copied c.args.child) in
    let based = child_side base_side (option_copied c.args.child) in
    let child = c.in-Some.child.now in
    let there = side_of_open_child entries_side c.args.child c.in-Some.child c.in-Some.is in
    let base = side_of_open_child base_side c.args.child c.in-Some.child c.in-Some.is in
    let tree = c.in-Some-leaf.tree.now in
    let some = (rw c.in-Some-leaf.is at c.in_ok-leaf.ensures.found) in
    let goes = leaf_tree_has_base_or_is_emitted child.open tree some.0 some.1 some.2 in
    let found : EmitsBelow inside based [] tree 0 = emits_below_of_both _ _ inside based there base [] tree 0 goes.found in
    let changed : based [] ≢ Some tree = λ is. goes.changed (some_unique _ _ (sym is ∙ sym (ap (λ (d : Dirs). d []) base) ∙ goes.based)) in
    if_err_weaken c.from_residual-in_err-emitted_id.result _ _ c.from_residual-in_err-emitted_id.ensures.1
    (λ error is. subst (IsWriteError (λ f p h. CalledAt g.F.FnMut f p.1 (Ok p.0) h) (λ f tree x h. CalledAt g.F.FnMut f tree (Err x) h)
    (λ inner. (kept : List EntryView) × (n : ℕ) × EmitsEntry inside based e inner kept n) c.args.out.now c.emit_leaf_tree.new.out) (sym is)
    (stopped_after_folds (λ f p h. CalledAt g.F.FnMut f p.1 (Ok p.0) h) (λ f tree x h. CalledAt g.F.FnMut f tree (Err x) h)
    (λ ps. (id : ObjectId) × (ps ≡ (id, tree) ∷ [])) (λ inner. (kept : List EntryView) × (n : ℕ) × EmitsEntry inside based e inner kept n)
    c.args.out.now c.args.out.now c.emit_leaf_tree.new.out [] refl
    (λ qs one. (
      [],
      (
        entry_unless_null e one.0,
        0,
        subst (λ ps. EmitsEntry inside based e ps (entry_unless_null e one.0) 0) (sym (append-nil qs ∙ one.1))
            (emits_entry_written inside based e [] tree 0 one.0 goes.filled changed found),
      ),
    ))
    c.in_err-emitted_id.field-0.0 c.in_err-emitted_id.ensures.error))

pub returns-in_err-leaf-clause-error : goal.returns-in_err-leaf-clause-error
returns-in_err-leaf-clause-error g c =
    let e = c.args.entry.now in
    let inside = child_side entries_side (option_copied c.args.child) in
    let based = child_side base_side (option_copied c.args.child) in
    let child = c.in-Some.child.now in
    let there = side_of_open_child entries_side c.args.child c.in-Some.child c.in-Some.is in
    let base = side_of_open_child base_side c.args.child c.in-Some.child c.in-Some.is in
    let root = c.leaf_tree.ensures.root in
    let rest = walk_exists_of_open child.open root.0 in
    let found = of_entries (dirs_of child.open) (bases_of child.open) root.0 rest.0 rest.1 rest.2 root.1 rest.3 in
    let seen = emits_entry_open inside based e rest.0 rest.1 rest.2 (emits_below_of_both _ _ inside based there base rest.0 rest.1 rest.2 found) in
    if_err_weaken c.from_residual.result _ _ c.from_residual.ensures.1
    (stopped_at_call (λ f p h. CalledAt g.F.FnMut f p.1 (Ok p.0) h) (λ f tree x h. CalledAt g.F.FnMut f tree (Err x) h)
    (λ inner. (kept : List EntryView) × (n : ℕ) × EmitsEntry inside based e inner kept n) c.args.out.now c.args.out.now [] (rest.0 ++ seen.0) refl
    (seen.1, seen.2, seen.3))

pub returns-clause-emitted : goal.returns-clause-emitted
returns-clause-emitted g c =
    let root = c.leaf_tree.ensures.root in (
      [],
      (
        record {
          dirs = sym (side_of_open_child entries_side c.args.child c.in-Some.child c.in-Some.is);
          bases = sym (side_of_open_child base_side c.args.child c.in-Some.child c.in-Some.is);
          trees = ap (λ (o : Option (Bor Child)). child_leaf_trees (option_copied o)) c.in-Some.is ∙ (rw c.in_default-leaf.is at c.in_ok-leaf.ensures.none);
          weight = ap (λ (o : Option (Bor Child)). child_weight (option_copied o)) c.in-Some.is;
          root = root;
        },
        refl,
      ),
      adds_nil c.args.pairs.now.items,
      refl,
    )
