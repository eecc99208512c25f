use Rattle.std.proofs.Common.{arith, ◌∙◌, ◌++◌, List, length, ap, sym}
use Rattle.gixobj_editor_open.specs.LeafTrees.{inside_of, leaf_trees}
use Rattle.gixobj_editor_open.specs.Nested.{Opened, below, child_list, parts}
use Rattle.gixobj_editor_open.specs.declared.open.Child.{Child}
use Rattle.gixobj_editor_open.proofs.PieceEnds.{is_pieced_level_before_last, length_before_last}
use Rattle.gixobj_editor_open.proofs.LeafTrees.{taken_off_of_parts}
use Rattle.gixobj_editor_open.proofs.Ordered.{level_names_apart}
use Rattle.gixobj_editor_open.proofs.open.Open.split_last.Goals as goal

pub invariant_of-rest : goal.invariant_of-rest
invariant_of-rest c =
    let popped = c.in-Some.ensures {u = tt} in
    is_pieced_level_before_last c.into_parts-entries.result.2 c.pop.new.self c.in-Some.last popped.last popped.filled c.into_parts-entries.ensures.level

pub returns-clause-sizes : goal.returns-clause-sizes
returns-clause-sizes c = omega (
  arith,
  length_before_last c.into_parts-entries.result.2 c.pop.new.self c.in-Some.last (c.in-Some.ensures {u = tt}).last,
  ap (λ (ds : Opened). length ds) c.into_parts-entries.ensures.all,
  ap (λ (ds : Opened). length ds) c.into_open.ensures,
)

pub returns-clause-trees : goal.returns-clause-trees
returns-clause-trees c =
    let level = c.into_parts-entries.ensures.level.level in
    let new = child_list c.pop.new.self in
    let off = taken_off_of_parts (child_list c.into_parts-entries.result.2) new c.in-Some.last (c.in-Some.ensures {u = tt}).last (level_names_apart level) in
    ap (λ (ds : Opened). leaf_trees (below (parts new)) ++ leaf_trees ds) c.into_open.ensures
    ∙ sym off.last
    ∙ ap (λ (ds : Opened). leaf_trees (inside_of ds)) c.into_parts-entries.ensures.all

pub returns-in_default-clause-none : goal.returns-in_default-clause-none
returns-in_default-clause-none c =
    sym (ap inside_of c.into_parts-entries.ensures.all) ∙ ap (λ (cs : List Child). below (parts cs)) (c.in_default.ensures {u = tt}).none.0
