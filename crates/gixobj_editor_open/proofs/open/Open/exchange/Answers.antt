use Rattle.std.proofs.Common.{sym}
use Rattle.bstr.specs.Owned.{bstring_bytes}
use Rattle.gixobj_editor_open.specs.Nested.{child_list}
use Rattle.gixobj_editor_open.proofs.Exchanges.{filled_of_base, has_inner_of_child, has_inner_of_none, is_exchanged}
use Rattle.gixobj_editor_open.proofs.Pieces.{IsFound, is_changed, is_child, is_pieced_level_with_open}
use Rattle.gixobj_editor_open.proofs.open.Open.exchange.Goals as goal

pub returns-in_default-clause-open : goal.returns-in_default-clause-open
returns-in_default-clause-open c = sym (has_inner_of_none (bstring_bytes c.args.name.now) (child_list c.self.inside.children) c.args.self.now
    c.self.inside.entries c.self.inside.base c.self.view_is (c.in_default.ensures {u = tt}).none)

pub invariant_of-self : goal.invariant_of-self
invariant_of-self c =
    let it = c.in-Some.ensures {u = tt} in
    let found : IsFound (bstring_bytes c.args.name.now) c.self.inside.children _ _ c.at_mut-child.result.now =
    record { within = it.within; found = it.found; is = c.at_mut-child.ensures.value } in
    is_pieced_level_with_open found c.swap.new.x c.self.invariant

pub returns-clause-open : goal.returns-clause-open
returns-clause-open c =
    let it = c.in-Some.ensures {u = tt} in
    let found : IsFound (bstring_bytes c.args.name.now) c.self.inside.children _ _ c.at_mut-child.result.now =
    record { within = it.within; found = it.found; is = c.at_mut-child.ensures.value } in
    sym (has_inner_of_child c.args.self.now c.self.inside.entries c.self.inside.base c.self.view_is c.self.invariant.level (is_child found)
    (filled_of_base c.at_mut-child.result.now.open c.base_tree.result.now c.base_tree.ensures.base))

pub returns-clause-exchanged : goal.returns-clause-exchanged
returns-clause-exchanged c =
    let it = c.in-Some.ensures {u = tt} in
    let found : IsFound (bstring_bytes c.args.name.now) c.self.inside.children _ _ c.at_mut-child.result.now =
    record { within = it.within; found = it.found; is = c.at_mut-child.ensures.value } in
    rw (c.swap.ensures.x_after, c.swap.ensures.y_after)
    (λ _. is_exchanged c.args.self.now c.self.inside.entries c.self.inside.base c.self.view_is c.self.invariant.level (is_child found)
    (filled_of_base c.at_mut-child.result.now.open c.base_tree.result.now c.base_tree.ensures.base) c.args.other.now
    (filled_of_base c.args.other.now c.base_tree-2.result.now c.base_tree-2.ensures.base) _ (is_changed found c.args.other.now)
    c.base_tree.ensures.root)
