use Rattle.std.proofs.KnownBytes.{Keeps-trans}
use Rattle.gixobj_streams.proofs.streams.FromReadSource.read_some.Goals as goal

pub returns-in_default-clause-bytes : goal.returns-in_default-clause-bytes
returns-in_default-clause-bytes g c = Keeps-trans _ _ _ c.loop.invariant.kept (c.in-Err.ensures).bytes
