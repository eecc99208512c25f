-- The map gets the number of the new id, or is unchanged.
use Rattle.std.proofs.Common.{◌≡◌, Some, sym, subst, length}
use Rattle.std.proofs.lemmas.Grind.{common_steps}
use Rattle.std.proofs.Common.{arith, rules}
use Rattle.std.specs.BTreeMap.{Updates}
use Rattle.gixobj_hash.specs.Hash.Order.{id_cmp}
use Rattle.gixobj_walks.specs.Named.{IsUnnamed}
use Rattle.gixobj_walks.specs.Numbers.{AreNumbers}
use Rattle.gixobj_walks.proofs.CommitNumbers.{numbers_of_push, numbers_unchanged}
use Rattle.gixobj_walks.proofs.names.CommitNames.push.Goals as goal

pub invariant_of-self-in-Ok : goal.invariant_of-self-in-Ok
invariant_of-self-in-Ok c =
    let ids = c.self.inside.ids.items in
    let unnamed = subst (λ it. IsUnnamed it c.args.id) (sym c.self.view_is) c.requires in
    let number : c.len-number.result ≡ length ids = search rules in
    let updates = subst (λ it. Updates id_cmp c.self.inside.numbers c.insert.new.self c.args.id (Some it)) number c.in-Ok.ensures.updates in
    subst (λ it. AreNumbers it c.insert.new.self) (sym c.in_ok-push.ensures.items)
    (numbers_of_push ids c.self.inside.numbers c.insert.new.self c.args.id c.self.invariant unnamed updates)

pub invariant_of-self-in-Err : goal.invariant_of-self-in-Err
invariant_of-self-in-Err c =
    let items : c.pop.new.self.items ≡ c.self.inside.ids.items = grind (arith, common_steps) in
    subst (λ it. AreNumbers it c.insert.new.self) (sym items)
    (numbers_unchanged c.self.inside.ids.items c.self.inside.numbers c.insert.new.self c.in-Err.ensures.err c.self.invariant)
