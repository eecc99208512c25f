-- Only the id becomes known.
use Rattle.std.proofs.Common.{[], ◌∷◌}
use Rattle.std.proofs.lemmas.Result.{IfOk-weaker}
use Rattle.gixobj_walks.specs.Named.{AreOfEither}
use Rattle.gixobj_walks.proofs.KnownIds.{known_already, known_appended}
use Rattle.gixobj_walks.proofs.names.number_in.Goals as goal

pub returns-in-Some-clause-known : goal.returns-in-Some-clause-known
returns-in-Some-clause-known c = known_already c.args.names.now (c.args.id ∷ [])

pub returns-in-None-clause-known : goal.returns-in-None-clause-known
returns-in-None-clause-known c = IfOk-weaker c.push.result _ (λ number. AreOfEither c.push.new.self c.args.names.now (c.args.id ∷ []))
    (λ number it. known_appended c.args.names.now c.push.new.self c.args.id it.1) c.push.ensures.pushed
