use Rattle.std.proofs.Common.{◌≢◌, ◌∙◌, ◌++◌, [], List, length, arith, ap, subst, sym}
use Rattle.gixobj_editor_open.specs.LeafTrees.{inside_of, leaf_trees}
use Rattle.gixobj_editor_write.specs.Moves.{moved_on}
use Rattle.gixobj_editor_open.specs.Nested.{IsLevel, Opened, Part, below, child_list, parts}
use Rattle.gixobj_editor_write.proofs.Moves.{is_level_moved_on, leaf_trees_moved_on, length_moved_on, length_moved_out_le}
use Rattle.gixobj_editor_open.proofs.Ordered.{level_names_apart}
use Rattle.gixobj_editor_write.proofs.moving.move_on.Goals as goal

pub invariant_of-rest : goal.invariant_of-rest
invariant_of-rest c =
    let was = c.into_parts-entries.ensures.level in
    let ps = parts (child_list c.into_parts-entries.result.2) in
    record {
      level = subst (λ (qs : List Part). IsLevel c.into_parts-entries.result.0 qs) (sym c.move_on_in_children-last.ensures.moved)
          (is_level_moved_on c.args.first ps was.level);
      filled = c.move_on_in_children-last.ensures.filled was.filled;
    }

pub returns-clause-trees : goal.returns-clause-trees
returns-clause-trees c =
    let first = c.args.first in
    let ps = parts (child_list c.into_parts-entries.result.2) in
    ap (λ (qs : List Part). leaf_trees (below qs) ++ leaf_trees c.move_on_in_children-last.result) c.move_on_in_children-last.ensures.moved
    ∙ ap (λ (ds : Opened). leaf_trees (below (moved_on first ps)) ++ leaf_trees ds) c.move_on_in_children-last.ensures.last
    ∙ leaf_trees_moved_on first ps (level_names_apart c.into_parts-entries.ensures.level.level)
    ∙ ap (λ (ds : Opened). leaf_trees first ++ leaf_trees (inside_of ds)) c.into_parts-entries.ensures.all

pub returns-clause-sizes : goal.returns-clause-sizes
returns-clause-sizes c =
    let first = c.args.first in
    let ps = parts (child_list c.into_parts-entries.result.2) in
    omega (
      arith,
      length_moved_on first ps,
      ap (λ (qs : List Part). length (below qs)) c.move_on_in_children-last.ensures.moved,
      ap (λ (ds : Opened). length ds) c.move_on_in_children-last.ensures.last,
      ap (λ (ds : Opened). length ds) c.into_parts-entries.ensures.all,
    )

pub returns-clause-fewer : goal.returns-clause-fewer
returns-clause-fewer c =
    let first = c.args.first in
    let ps = parts (child_list c.into_parts-entries.result.2) in
    let some : below ps ≢ [] = λ none. c.requires (sym (ap inside_of c.into_parts-entries.ensures.all) ∙ none) in
    omega (
      arith,
      length_moved_out_le first ps some,
      ap (λ (ds : Opened). length ds) c.move_on_in_children-last.ensures.last,
      ap (λ (ds : Opened). length ds) c.into_parts-entries.ensures.all,
    )
