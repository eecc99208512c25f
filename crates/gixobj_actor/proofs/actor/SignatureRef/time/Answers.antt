use Rattle.gixobj_actor.proofs.actor.SignatureRef.time.Goals as goal

pub returns-clause-none : goal.returns-clause-none
returns-clause-none c = rw (← c.as_bytes.ensures) c.parse_header.ensures.none
