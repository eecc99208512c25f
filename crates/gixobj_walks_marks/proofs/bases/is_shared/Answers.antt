use Rattle.std.proofs.Common.{false, get_or}
use Rattle.gixobj_walks_marks.proofs.Marked.{read_marked, read_unmarked}
use Rattle.gixobj_walks_marks.proofs.Tests.{and_else, and_then, mark_decides}
use Rattle.gixobj_walks_marks.proofs.bases.is_shared.Goals as goal

pub returns-then-left-number : goal.returns-then-left-number
returns-then-left-number c = and_then (get_or c.args.right.now c.args.number false)
    (read_marked c.args.left.now c.args.number c.requires.left c.if-left-number.true)
    (mark_decides c.args.right.now c.args.number c.requires.right)

pub returns-else-left-number : goal.returns-else-left-number
returns-else-left-number c = and_else (get_or c.args.left.now c.args.number false) c.if-left-number.false
    (read_unmarked c.args.left.now c.args.number c.if-left-number.false)
