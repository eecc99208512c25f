use Rattle.gixobj_tag.proofs.tag.with_format.Goals as goal

pub returns-in_default-from_signature : goal.returns-in_default-from_signature
returns-in_default-from_signature c = rw c.in-Some.is (rw c.as_bytes.ensures at c.in_default-from_signature.ensures.none)
