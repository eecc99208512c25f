use Rattle.std.proofs.Common.{◌≡◌, map, take}
use Rattle.gixobj_signature_reports.specs.Calls.{pair_view}
use Rattle.gixobj_signature_reports.proofs.arguments.environment_of.Given as goal

-- each variable that was consumed has its copy
abbrev pub invariant-loop-one : goal.invariant-loop-one
invariant-loop-one l = map pair_view l.copies.items ≡ map pair_view (take l.one-index l.environment)
