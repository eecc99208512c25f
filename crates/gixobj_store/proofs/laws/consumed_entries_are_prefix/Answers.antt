use Rattle.gixobj_store.proofs.Walks as law
use Rattle.gixobj_store.proofs.laws.consumed_entries_are_prefix.Goals as goal

pub returns-clause-starts : goal.returns-clause-starts
returns-clause-starts c = law.has_consumed_nil

pub returns-clause-continues : goal.returns-clause-continues
returns-clause-continues c = law.has_consumed_snoc

pub returns-clause-ends : goal.returns-clause-ends
returns-clause-ends c = law.yields_entries_complete

pub returns-clause-stops : goal.returns-clause-stops
returns-clause-stops c = law.yields_entries_broken
