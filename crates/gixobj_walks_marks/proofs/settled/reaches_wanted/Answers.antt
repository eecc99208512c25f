use Rattle.std.proofs.Common.{◌↔◌, Bool, IsTrue, List, subst}
use Rattle.gixobj_walks_marks.specs.Chosen.{AreWantedMarked}
use Rattle.gixobj_walks_marks.proofs.SettledAt.{reaches_wanted_answer}
use Rattle.gixobj_walks_marks.proofs.settled.reaches_wanted.Goals as goal

pub returns-clause-exact : goal.returns-clause-exact
returns-clause-exact c = reaches_wanted_answer c.args.nodes.now c.args.left.now c.args.right.now c.in_ok-marked.marked.items
    c.mark_start.new.marked.items c.args.start c.are_wanted_marked.result c.in_ok-marked.ensures.none
    c.in_ok-mark_start.ensures.added
    (subst (λ (xs : List Bool). IsTrue c.are_wanted_marked.result
    ↔ AreWantedMarked c.args.nodes.now c.args.left.now c.args.right.now xs)
    c.deref.ensures.value c.are_wanted_marked.ensures)
