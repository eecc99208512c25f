-- A write of a directory returns the pairs of its emitted trees, with the moved leaf trees, leaves the written tree
-- open alone, and fails as the walk does. They are the clauses of `write_settled`.
use Rattle.std.proofs.Common.{arith, ◌≡◌, ◌≢◌, ◌∙◌, ◌++◌, ℕ, length, [], ◌∷◌, List, Ok, Err, refl, sym, ap, subst, append-nil}
use Rattle.std.specs.Fn.{CalledAt}
use Rattle.gixobj_tree_entries.specs.Entries.{EntryView, Pair}
use Rattle.gixobj_tree.specs.WellFormed.{EachLater}
use Rattle.gixobj_hash.specs.declared.hash.object_id.ObjectId.{ObjectId}
use Rattle.gixobj_editor_write.specs.WriteErrors.{IsWriteError}
use Rattle.gixobj_editor_files.specs.Edits.{raised}
use Rattle.gixobj_editor_files.specs.Emission.{EmitsSome, EmitsBelow}
use Rattle.gixobj_editor_open.specs.Nested.{Opened, bases_of, below, child_list, dirs_of, opened, parts}
use Rattle.gixobj_editor_open.proofs.Results.{if_err_weaken}
use Rattle.gixobj_editor_write.proofs.Emitting.{folds_to_append, folds_to_one, callable_after_folds, emits_some_append, stopped_after_folds, stopped_at_call}
use Rattle.std.specs.Prelude.{reverse}
use Rattle.std.proofs.lemmas.List.{reverse-reverse, with_items_is}
use Rattle.gixobj_editor_write.specs.TakenTrees.{Fills}
use Rattle.gixobj_editor_open.specs.LeafTrees.{inside_of, leaf_trees}
use Rattle.gixobj_editor_files.specs.Bases.{base_edited}
use Rattle.gixobj_editor_open.specs.declared.open.Child.{Child}
use Rattle.gixobj_editor_open.specs.declared.open.Children.{Children}
use Rattle.gixobj_editor_open.proofs.BaseSteps.{base_edited_of_written}
use Rattle.gixobj_editor_open.proofs.Levels.{bases_of_nil, dirs_of_nil}
use Rattle.gixobj_editor_open.proofs.Ordered.{level_names_apart}
use Rattle.gixobj_editor_files.proofs.FilteredEntries.{is_filtered_tree_of_walk}
use Rattle.gixobj_editor_write.proofs.TakenTrees.{leaf_trees_len_le, some_unique}
use Rattle.gixobj_editor_write.proofs.write.write_settled.Goals as goal

pub returns-in_err-written_tree-clause-error : goal.returns-in_err-written_tree-clause-error
returns-in_err-written_tree-clause-error g c =
    let dirs = dirs_of c.args.node.now in
    let bases = bases_of c.args.node.now in
    if_err_weaken c.from_residual.result _ _ c.from_residual.ensures.1
    (λ error is. subst (IsWriteError (λ f p h. CalledAt g.F.FnMut f p.1 (Ok p.0) h) (λ f tree x h. CalledAt g.F.FnMut f tree (Err x) h)
    (EmitsSome dirs bases) c.args.out.now c.emit_below_copied.new.out) (sym is)
    (stopped_after_folds (λ f p h. CalledAt g.F.FnMut f p.1 (Ok p.0) h) (λ f tree x h. CalledAt g.F.FnMut f tree (Err x) h)
    (λ ps. (written_tree : List EntryView) × (n : ℕ) × EmitsBelow dirs bases ps written_tree n) (EmitsSome dirs bases)
    c.args.out.now c.args.out.now c.emit_below_copied.new.out [] refl (λ qs found. emits_some_append dirs bases qs found.0 found.1 found.2)
    c.in_err-written_tree.field-0.0
    (c.in_err-written_tree.ensures {u = tt}).error))

pub returns-in_err-complete_trees-clause-error : goal.returns-in_err-complete_trees-clause-error
returns-in_err-complete_trees-clause-error g c =
    let dirs = dirs_of c.args.node.now in
    let bases = bases_of c.args.node.now in
    let ok = (c.in_ok-written_tree.ensures {u = tt}).emitted in
    let more = emits_some_append dirs bases ok.0 c.in_ok-written_tree.written_tree ok.1 ok.2 in
    if_err_weaken c.from_residual-in_err-complete_trees.result _ _ c.from_residual-in_err-complete_trees.ensures.1
    (stopped_at_call (λ f p h. CalledAt g.F.FnMut f p.1 (Ok p.0) h) (λ f tree x h. CalledAt g.F.FnMut f tree (Err x) h)
    (EmitsSome dirs bases) c.args.out.now c.emit_below_copied.new.out ok.0 more.0 ok.5 more.1)

pub returns-in_err-id-clause-error : goal.returns-in_err-id-clause-error
returns-in_err-id-clause-error g c =
    let dirs = dirs_of c.args.node.now in
    let bases = bases_of c.args.node.now in
    let ok = (c.in_ok-written_tree.ensures {u = tt}).emitted in
    let written_tree = c.in_ok-written_tree.written_tree in
    if_err_weaken c.from_residual-in_err-id.result _ _ c.from_residual-in_err-id.ensures.1
    (λ error is. subst (IsWriteError (λ f p h. CalledAt g.F.FnMut f p.1 (Ok p.0) h) (λ f tree x h. CalledAt g.F.FnMut f tree (Err x) h)
    (EmitsSome dirs bases) c.args.out.now c.emit.new.out) (sym is)
    (stopped_after_folds (λ f p h. CalledAt g.F.FnMut f p.1 (Ok p.0) h) (λ f tree x h. CalledAt g.F.FnMut f tree (Err x) h)
    (λ ps. (id : ObjectId) × (ps ≡ (id, written_tree) ∷ [])) (EmitsSome dirs bases)
    c.args.out.now c.emit_below_copied.new.out c.emit.new.out ok.0 ok.5
    (λ qs one. ([], (raised 0 ok.1, (ok.0, one.0, written_tree, (ok.1, ok.2, refl), ap (λ ps. ok.0 ++ ps) (append-nil qs ∙ one.1))))) c.in_err-id.field-0.0
    (c.in_err-id.ensures {u = tt}).error))

pub returns-clause-written : goal.returns-clause-written
returns-clause-written g c =
    let ok = (c.in_ok-written_tree.ensures {u = tt}).emitted in
    let written_tree = c.in_ok-written_tree.written_tree in
    let emitted = (c.in_ok-id.ensures {u = tt}).emitted in
    let room = c.push.ensures.succeeds (c.in_ok-id.ensures {u = tt}).has_capacity in
    let node = c.args.node.now in
    let all = leaf_trees (inside_of node) in
    let inside : leaf_trees (below (parts (child_list c.node.inside.children))) ≡ all = ap (λ (ds : Opened). leaf_trees (inside_of ds)) c.node.view_is in
    let pairs_are : c.emit.new.pairs.items ≡ ok.4.0 = c.emit.ensures.items ∙ ok.4.1 ∙ ap (λ ps. ps ++ ok.4.0) c.new-trees.ensures.items in
    let was : leaf_trees (below (parts (child_list c.replace-children.result))) ≡ all =
    ap (λ (cs : Children). leaf_trees (below (parts (child_list cs)))) c.replace-children.ensures.value ∙ inside in
    let taken : reverse c.take_leaf_trees.new.trees.items ≡ all =
    ap reverse (c.take_leaf_trees.ensures.items ∙ ap (λ l. l ++ reverse (leaf_trees (below (parts (child_list c.replace-children.result)))))
    (c.in_ok-complete_trees.ensures {u = tt}).items)
    ∙ reverse-reverse (leaf_trees (below (parts (child_list c.replace-children.result)))) ∙ was in
    let fills : Fills ok.4.0 (reverse c.take_leaf_trees.new.trees.items) ok.0 = subst (λ ts. Fills ok.4.0 ts ok.0) (sym taken) ok.4.2 in
    let filled : c.fill.new.pairs ≡ ok.0 =
    c.fill.ensures ok.0 (subst (λ us. Fills us (reverse c.take_leaf_trees.new.trees.items) ok.0) (sym (c.deref_mut.ensures.value ∙ pairs_are)) fills) in
    let back = with_items_is c.emit.new.pairs c.fill.new.pairs (c.fill.auto.pairs ∙ c.deref_mut.ensures.len) in
    let pushed = (rw room at c.push.ensures.items) ∙ ap (λ ps. ps ++ (c.in_ok-id.id, written_tree) ∷ []) (back ∙ filled) in
    let remaining : opened c.take_written_entries.new.entries c.node.inside.base (parts (child_list c.replace-children.new.dest))
    ≡ opened written_tree c.node.inside.base [] =
    ap (λ (es : List EntryView). opened es c.node.inside.base (parts (child_list c.replace-children.new.dest))) c.take_written_entries.ensures
    ∙ ap (λ (cs : Children). opened written_tree c.node.inside.base (parts (child_list cs))) c.replace-children.ensures.after
    ∙ ap (λ (cs : List Child). opened written_tree c.node.inside.base (parts cs)) c.new.ensures.list in
    let gave = λ (f : g.row.F.Denot) (p : Pair) (h : g.row.F.Denot). CalledAt g.F.FnMut f p.1 (Ok p.0) h in (
      ok.0,
      written_tree,
      (ok.1, ok.2, ok.3),
      pushed,
      folds_to_append gave c.args.out.now ok.0 c.emit_below_copied.new.out ((c.in_ok-id.id, written_tree) ∷ []) c.emit.new.out ok.5
          (folds_to_one gave c.emit_below_copied.new.out (c.in_ok-id.id, written_tree) c.emit.new.out emitted),
      (c.in_ok-written_tree.ensures {u = tt}).storable,
      (c.node.inside.base, remaining),
    )

pub emit-requires-clause-callable : goal.emit-requires-clause-callable
emit-requires-clause-callable g c = let ok = (c.in_ok-written_tree.ensures {u = tt}).emitted in
    callable_after_folds _ (λ f p h. CalledAt g.F.FnMut f p.1 (Ok p.0) h) c.args.out.now
    ok.0 c.emit_below_copied.new.out ok.5 c.requires

pub returns-clause-bases : goal.returns-clause-bases
returns-clause-bases g c =
    let written_tree = c.in_ok-written_tree.written_tree in
    let node = c.args.node.now in
    let remaining : opened c.take_written_entries.new.entries c.node.inside.base (parts (child_list c.replace-children.new.dest))
    ≡ opened written_tree c.node.inside.base [] =
    ap (λ (es : List EntryView). opened es c.node.inside.base (parts (child_list c.replace-children.new.dest))) c.take_written_entries.ensures
    ∙ ap (λ (cs : Children). opened written_tree c.node.inside.base (parts (child_list cs))) c.replace-children.ensures.after
    ∙ ap (λ (cs : List Child). opened written_tree c.node.inside.base (parts cs)) c.new.ensures.list in
    let ps = parts (child_list c.node.inside.children) in
    λ at. subst (λ (ds : Opened). bases_of ds at ≡ base_edited (dirs_of node at) (dirs_of ds at) (bases_of node at)) (sym remaining)
    (base_edited_of_written node c.node.inside.entries written_tree c.node.inside.base (dirs_of_nil node c.node.inside.entries ps c.node.view_is)
    (bases_of_nil node c.node.inside.entries ps c.node.view_is) at)

pub take_written_entries-requires-clause-filtered : goal.take_written_entries-requires-clause-filtered
take_written_entries-requires-clause-filtered g c =
    let ok = (c.in_ok-written_tree.ensures {u = tt}).emitted in
    is_filtered_tree_of_walk (dirs_of c.args.node.now) (bases_of c.args.node.now) ok.0 c.in_ok-written_tree.written_tree ok.1 c.node.inside.entries ok.2
    (dirs_of_nil c.args.node.now c.node.inside.entries (parts (child_list c.node.inside.children)) c.node.view_is)

pub take_written_entries-requires-clause-non_null : goal.take_written_entries-requires-clause-non_null
take_written_entries-requires-clause-non_null g c = (c.in_ok-written_tree.ensures {u = tt}).storable.no_nulls

pub take_written_entries-requires-clause-is_at : goal.take_written_entries-requires-clause-is_at
take_written_entries-requires-clause-is_at g c = λ is_written.
    let node = c.args.node.now in
    some_unique c.in_ok-written_tree.written_tree c.node.inside.entries (sym ((c.in_ok-written_tree.ensures {u = tt}).is_at is_written)
    ∙ dirs_of_nil node c.node.inside.entries
    (parts (child_list c.node.inside.children)) c.node.view_is)

pub take_leaf_trees-requires-clause-apart : goal.take_leaf_trees-requires-clause-apart
take_leaf_trees-requires-clause-apart g c = subst (λ (cs : Children). EachLater (λ x y. x.0 ≢ y.0) (parts (child_list cs)))
    (sym c.replace-children.ensures.value) (level_names_apart c.node.invariant.level)

pub take_leaf_trees-requires-clause-has_capacity : goal.take_leaf_trees-requires-clause-has_capacity
take_leaf_trees-requires-clause-has_capacity g c =
    let ok = (c.in_ok-written_tree.ensures {u = tt}).emitted in
    let fewer = leaf_trees_len_le ok.4.0 (leaf_trees (inside_of c.args.node.now)) ok.0 ok.4.2 in
    let pairs = ap length (ok.4.1 ∙ ap (λ ps. ps ++ ok.4.0) c.new-trees.ensures.items) in
    let trees = ap (λ (cs : Children). length (leaf_trees (below (parts (child_list cs))))) c.replace-children.ensures.value
    ∙ ap (λ (ds : Opened). length (leaf_trees (inside_of ds))) c.node.view_is in
    let made = c.in_ok-complete_trees.ensures {u = tt} in
    omega (arith, fewer, pairs, trees, made.exact, made.len, c.len.ensures, c.emit_below_copied.new.pairs.ok.0)
