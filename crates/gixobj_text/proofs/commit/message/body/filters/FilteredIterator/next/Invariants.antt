use Rattle.std.proofs.Common.{◌≡◌, ◌≤◌, length}
use Rattle.gixobj_text.specs.Filters.{SkipsUnfiltered}
use Rattle.gixobj_text.proofs.commit.message.body.filters.FilteredIterator.next.Given as goal

-- the iterator has skipped trailers that the filter doesn't keep
abbrev pub invariant-trailers : goal.invariant-trailers
invariant-trailers l = record {
  passes : SkipsUnfiltered l.fn.self.filter l.fn.self.trailers l.self.trailers;
  filter : l.self.filter ≡ l.fn.self.filter;
  within : length l.self.trailers.cursor.now ≤ length l.fn.self.trailers.cursor.now;
}

abbrev pub decreases-trailers : goal.decreases-trailers
decreases-trailers l = length l.self.trailers.cursor.now
