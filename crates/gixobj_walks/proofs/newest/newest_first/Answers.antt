-- The ids come as the commits by their dates.
use Rattle.std.proofs.Common.{◌↔◌, Contains, subst, sym}
use Rattle.gixobj_walks.specs.Named.{named_graph}
use Rattle.gixobj_walks.specs.Newest.{AreNewestFirst, IsNameOf}
use Rattle.gixobj_walks.proofs.NewestLists.{names_of_dated, newest_of_sorted}
use Rattle.gixobj_walks.proofs.newest.newest_first.Goals as goal

pub returns-clause-exact : goal.returns-clause-exact
returns-clause-exact c = λ id. subst (λ ids. Contains ids id ↔ IsNameOf c.args.known.now.names c.args.numbers.now id)
    (sym c.in_ok-ids.ensures)
    (names_of_dated c.args.known.now.names c.args.known.now.reading.nodes c.args.numbers.now c.in_ok-dated.dated.keys
    c.in_ok-dated.ensures.dated id)

pub returns-clause-order : goal.returns-clause-order
returns-clause-order c = subst (λ ids. AreNewestFirst (named_graph c.args.known.now.names c.args.known.now.reading.nodes) ids)
    (sym c.in_ok-ids.ensures)
    (newest_of_sorted c.args.known.now.names c.args.known.now.reading.nodes c.requires.parents c.requires.lengths c.args.numbers.now
    c.in_ok-dated.dated.keys c.in_ok-dated.ensures.dated.each c.in_ok-dated.ensures.ordered)
