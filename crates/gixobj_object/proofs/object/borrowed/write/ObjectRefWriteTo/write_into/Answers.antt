-- The contract of the object is that of the call for its tree or its tag.
use Rattle.gixobj_object.proofs.object.borrowed.write.ObjectRefWriteTo.write_into.Goals as goal

pub returns-in-Tree-clause-no_error : goal.returns-in-Tree-clause-no_error
returns-in-Tree-clause-no_error g c = rw c.in-Tree.is c.write_into.ensures.no_error

pub returns-in-Tree-clause-error : goal.returns-in-Tree-clause-error
returns-in-Tree-clause-error g c = rw c.in-Tree.is c.write_into.ensures.error

pub returns-in-Tag-clause-no_error : goal.returns-in-Tag-clause-no_error
returns-in-Tag-clause-no_error g c = rw c.in-Tag.is c.write_into-in-Tag.ensures.no_error

pub returns-in-Tree-clause-room : goal.returns-in-Tree-clause-room
returns-in-Tree-clause-room g c = rw c.in-Tree.is c.write_into.ensures.room

pub returns-in-Tag-clause-room : goal.returns-in-Tag-clause-room
returns-in-Tag-clause-room g c = rw c.in-Tag.is c.write_into-in-Tag.ensures.room

pub returns-in-Commit-clause-room : goal.returns-in-Commit-clause-room
returns-in-Commit-clause-room g c = rw c.in-Commit.is c.write_into-in-Commit.ensures.room
