use Rattle.std.proofs.Common.{◌∙◌, ℕ, [], List, Some, Ok, Err, refl, sym, ap, subst}
use Rattle.std.specs.Fn.{CalledAt}
use Rattle.gixobj_tree_entries.specs.Entries.{EntryView}
use Rattle.gixobj_editor_write.specs.Calls.{IsStorable}
use Rattle.gixobj_editor_files.specs.Emission.{EmitsBelow, of_entries}
use Rattle.gixobj_editor_open.specs.Nested.{Opened, bases_of, dirs_of}
use Rattle.gixobj_editor_write.specs.TakenTrees.{Adds}
use Rattle.gixobj_editor_open.specs.LeafTrees.{inside_of, leaf_trees}
use Rattle.gixobj_editor_open.proofs.Results.{if_err_weaken}
use Rattle.gixobj_editor_write.proofs.Emitting.{stopped_at_call, walk_exists_of_open}
use Rattle.gixobj_editor_open.proofs.Levels.{dirs_of_nil}
use Rattle.gixobj_editor_write.proofs.TakenTrees.{adds_nil, leaf_tree_has_base_or_is_emitted}
use Rattle.gixobj_editor_write.proofs.write.emit_below_copied.Goals as goal

pub returns-in_err-entries-clause-error : goal.returns-in_err-entries-clause-error
returns-in_err-entries-clause-error g c =
    let some = (rw c.in-Some.is at (c.in_ok-leaf.ensures {u = tt}).found) in
    let goes = leaf_tree_has_base_or_is_emitted c.args.node.now c.in-Some.tree.now some.0 some.1 some.2 in
    if_err_weaken c.from_residual-in_err-entries.result _ _ c.from_residual-in_err-entries.ensures.1
    (stopped_at_call (λ f p h. CalledAt g.F.FnMut f p.1 (Ok p.0) h) (λ f tree x h. CalledAt g.F.FnMut f tree (Err x) h)
    (λ ps. (written_tree : List EntryView) × (n : ℕ) × EmitsBelow (dirs_of c.args.node.now) (bases_of c.args.node.now) ps written_tree n) c.args.out.now
    c.args.out.now []
    [] refl
    (c.in-Some.tree.now, 0, goes.found))

pub returns-in-Some-clause-emitted : goal.returns-in-Some-clause-emitted
returns-in-Some-clause-emitted g c =
    let some = (rw c.in-Some.is at (c.in_ok-leaf.ensures {u = tt}).found) in
    let goes = leaf_tree_has_base_or_is_emitted c.args.node.now c.in-Some.tree.now some.0 some.1 some.2 in
    let pairs = c.args.pairs.now.items in
    let adds = subst (λ ts. Adds pairs pairs ts []) (sym (ap (λ (ds : Opened). leaf_trees (inside_of ds)) some.1)) (adds_nil pairs) in
    ([], 0, rw ((c.in_ok-entries.ensures {u = tt}) ∙ c.deref.ensures.value ∙ c.tree.view_is) goes.found, refl, adds, refl)

pub returns-in-Some-clause-storable : goal.returns-in-Some-clause-storable
returns-in-Some-clause-storable g c = subst IsStorable (sym ((c.in_ok-entries.ensures {u = tt}) ∙ c.deref.ensures.value ∙ c.tree.view_is))
    (rw c.in-Some.is at (c.in_ok-leaf.ensures {u = tt}).storable)

pub returns-in-Some-clause-is_at : goal.returns-in-Some-clause-is_at
returns-in-Some-clause-is_at g c = λ _.
    let some = (rw c.in-Some.is at (c.in_ok-leaf.ensures {u = tt}).found) in
    dirs_of_nil c.args.node.now c.in-Some.tree.now [] (sym some.1) ∙ ap Some (sym ((c.in_ok-entries.ensures {u = tt}) ∙ c.deref.ensures.value ∙ c.tree.view_is))

pub returns-in_err-leaf-clause-error : goal.returns-in_err-leaf-clause-error
returns-in_err-leaf-clause-error g c =
    let node = c.args.node.now in
    let root = c.leaf_tree.ensures.root in
    let rest = walk_exists_of_open node root.0 in
    if_err_weaken c.from_residual.result _ _ c.from_residual.ensures.1
    (stopped_at_call (λ f p h. CalledAt g.F.FnMut f p.1 (Ok p.0) h) (λ f tree x h. CalledAt g.F.FnMut f tree (Err x) h)
    (λ ps. (written_tree : List EntryView) × (n : ℕ) × EmitsBelow (dirs_of node) (bases_of node) ps written_tree n) c.args.out.now c.args.out.now [] rest.0 refl
    (rest.1, rest.2, of_entries (dirs_of node) (bases_of node) root.0 _ _ _ root.1 rest.3))
