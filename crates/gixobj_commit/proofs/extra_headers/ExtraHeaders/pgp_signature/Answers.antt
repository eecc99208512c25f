use Rattle.std.proofs.Common.{rules}
use Rattle.gixobj_commit.proofs.extra_headers.ExtraHeaders.pgp_signature.Goals as goal

pub returns : goal.returns
returns g c = search rules
