use Rattle.std.proofs.Common.{heap_items}
use Rattle.gixobj_walks_marks.specs.Readings.{ReplacesNext}
use Rattle.gixobj_walks_marks.proofs.reading.replace_next.Given as goal

-- as many commits are added as the loop has run
abbrev pub invariant-loop : goal.invariant-loop
invariant-loop l = ReplacesNext l.number l.counter l.initial.nodes.items l.initial.left.items l.initial.right.items
    l.nodes.items l.left.items l.right.items (heap_items l.queue) l.read
