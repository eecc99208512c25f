use Rattle.gixobj_commit.proofs.extra_headers.read_tag.Goals as goal

pub returns-in-Err : goal.returns-in-Err
returns-in-Err c = (c.in-Err.ensures.error.0, rw c.as_bytes.ensures at c.in-Err.ensures.error.1)
