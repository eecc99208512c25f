use Rattle.std.proofs.Common.{◌≤◌, map}
use Rattle.std.specs.Iterator.{IsFinite, size}
use Rattle.gixobj_commit.specs.ExtraHeaders.{HasNoHeaderNamed, pair_of}
use Rattle.gixobj_commit.proofs.extra_headers.next_value.Given as goal

abbrev pub invariant-headers : goal.invariant-headers
invariant-headers g l = record {
  may_go_on : g.I.Iterator.can_next l.headers;
  ends : IsFinite (g.I.Iterator.remaining l.headers);
  fewer : size (g.I.Iterator.remaining l.headers) ≤ size (g.I.Iterator.remaining l.fn.headers);
  others : HasNoHeaderNamed l.name (map pair_of l.yielded);
}
