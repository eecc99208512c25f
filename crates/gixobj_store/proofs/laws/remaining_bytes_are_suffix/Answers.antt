use Rattle.gixobj_store.proofs.Walks as law
use Rattle.gixobj_store.proofs.laws.remaining_bytes_are_suffix.Goals as goal

pub returns-clause-starts : goal.returns-clause-starts
returns-clause-starts c = law.is_tail_refl

pub returns-clause-continues : goal.returns-clause-continues
returns-clause-continues c = law.is_tail_after_entry
