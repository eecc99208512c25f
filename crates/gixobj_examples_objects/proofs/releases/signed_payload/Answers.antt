use Rattle.std.proofs.Common.{inr, refl}
use Rattle.gixobj_examples_objects.proofs.releases.signed_payload.Goals as goal

pub returns-in-Ok-clause-error : goal.returns-in-Ok-clause-error
returns-in-Ok-clause-error g c = inr (c.in-Ok.signed, c.in-Err-written.error, c.in-Ok.ensures.signed, refl, c.in-Err-written.ensures.error)
