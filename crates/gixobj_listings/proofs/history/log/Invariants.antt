use Rattle.std.proofs.Common.{◌≡◌, Some, length}
use Rattle.gixobj_listings.specs.Histories.{FollowsFirstParents}
use Rattle.gixobj_listings.proofs.history.log.Given as goal

-- the commits so far lead to the next one
abbrev pub invariant-loop : goal.invariant-loop
invariant-loop g l = record {
  follows : FollowsFirstParents (g.S.Store.objects l.fn.store) (Some l.fn.tip) l.commits.items (Some l.id);
  len : length l.commits.items ≡ l.counter;
}
