use Rattle.std.proofs.Common.{◌≡◌, ◌≤◌, ◌+◌, length, map}
use Rattle.std.specs.Iterator.{IsFinite, size}
use Rattle.gixobj_commit.specs.ExtraHeaders.{HasNoHeaderNamed, pair_of}
use Rattle.gixobj_commit.proofs.extra_headers.ExtraHeaders.find_pos.Given as goal

abbrev pub invariant-loop-key : goal.invariant-loop-key
invariant-loop-key g l = record {
  may_go_on : g.I.Iterator.can_next l.key-iterator;
  ends : IsFinite (g.I.Iterator.remaining l.key-iterator);
  counted : l.index ≡ length l.yielded;
  fits : l.index + size (g.I.Iterator.remaining l.key-iterator) ≤ size (g.I.Iterator.remaining l.fn.self.inner);
  others : HasNoHeaderNamed l.name (map pair_of l.yielded);
}
