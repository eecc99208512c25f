use Rattle.std.proofs.Common.{take}
use Rattle.std.specs.List.Sorted.{IsStrictlySortedBy}
use Rattle.gixobj_walks.specs.Newest.{AreDated, dated_cmp}
use Rattle.gixobj_walks.proofs.newest.by_date.Given as goal

-- the commits of the numbers so far are in the set
abbrev pub invariant-loop-number : goal.invariant-loop-number
invariant-loop-number l = record {
  dated : AreDated l.known.names l.known.reading.nodes (take l.number-index l.numbers) l.dated.keys;
  ordered : IsStrictlySortedBy dated_cmp l.dated.keys;
}
