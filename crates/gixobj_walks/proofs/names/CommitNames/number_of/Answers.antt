-- The lookup finds the number of the id.
use Rattle.std.proofs.Common.{◌∙◌, MatchOption, subst}
use Rattle.gixobj_walks.specs.Named.{Names, IsUnnamed}
use Rattle.gixobj_walks.proofs.CommitNumbers.{number_of_lookup}
use Rattle.gixobj_walks.proofs.names.CommitNames.number_of.Goals as goal

pub returns : goal.returns
returns c = record {
  found = subst (λ ids. MatchOption c.copied.result (IsUnnamed ids c.args.id.now) (λ number. Names ids number c.args.id.now)) c.self.view_is
      (number_of_lookup _ _ c.self.invariant c.args.id.now c.copied.result (c.copied.ensures ∙ c.get.ensures.value));
}
