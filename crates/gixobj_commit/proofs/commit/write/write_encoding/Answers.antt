use Rattle.std.proofs.Common.{sym}
use Rattle.gixobj_commit.proofs.commit.write.write_encoding.Goals as goal

pub returns-in-Some-clause-no_error : goal.returns-in-Some-clause-no_error
returns-in-Some-clause-no_error g c = rw (c.in-Some.is, sym c.as_bytes.ensures) c.header_field.ensures.no_error

pub returns-in-Some-clause-error : goal.returns-in-Some-clause-error
returns-in-Some-clause-error g c = rw (c.in-Some.is, sym c.as_bytes.ensures) c.header_field.ensures.error

pub returns-in-Some-clause-room : goal.returns-in-Some-clause-room
returns-in-Some-clause-room g c = rw (c.in-Some.is, sym c.as_bytes.ensures) c.header_field.ensures.room
