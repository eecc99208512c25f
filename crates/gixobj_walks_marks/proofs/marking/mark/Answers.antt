use Rattle.gixobj_walks_marks.proofs.Spread.{spreads_to_marked, spreads_to_unmarked}
use Rattle.gixobj_walks_marks.proofs.marking.mark.Goals as goal

pub returns-in_ok-push : goal.returns-in_ok-push
returns-in_ok-push c = spreads_to_unmarked c.args.marked.now c.args.stack.now.items c.push.new.self.items c.args.number
    c.requires c.if-not-marked-number.true c.in_ok-push.ensures.items

pub returns-else-not-marked-number : goal.returns-else-not-marked-number
returns-else-not-marked-number c = spreads_to_marked c.args.marked.now c.args.stack.now.items c.args.number c.requires
    c.if-not-marked-number.false
