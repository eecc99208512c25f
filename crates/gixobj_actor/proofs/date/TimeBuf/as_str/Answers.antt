-- The buffer holds ASCII, and therefore UTF-8.
use Rattle.std.proofs.lemmas.Str.{IsUtf8-from_ascii}
use Rattle.gixobj_actor.proofs.date.TimeBuf.as_str.Goals as goal

pub unreachable-requires : goal.unreachable-requires
unreachable-requires c = (c.in-Err.ensures).cases.0 (IsUtf8-from_ascii _ (rw c.as_bytes.ensures c.self.invariant.1))
