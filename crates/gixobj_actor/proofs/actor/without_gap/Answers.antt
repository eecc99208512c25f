-- The skipped space is the gap.
use Rattle.std.proofs.Common.{◌∷◌, [], inl, refl, rules}
use Rattle.gixobj_actor.proofs.actor.without_gap.Goals as goal

pub returns-in-Some-eq32-default : goal.returns-in-Some-eq32-default
returns-in-Some-eq32-default c = (32 ∷ [], search rules, inl refl)
