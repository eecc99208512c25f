use Rattle.gixobj_signature.proofs.signature.verify.ssh.calls.novalidate_arguments_of.Goals as goal

pub returns : goal.returns
returns c = rw (← c.deref.ensures.value) (rw (← c.in_ok-words.ensures) c.in_ok-push_arguments.ensures)
