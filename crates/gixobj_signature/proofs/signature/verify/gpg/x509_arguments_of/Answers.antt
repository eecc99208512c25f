use Rattle.gixobj_signature.proofs.signature.verify.gpg.x509_arguments_of.Goals as goal

pub returns : goal.returns
returns c = rw (← c.deref.ensures.value) c.in_ok-words.ensures
