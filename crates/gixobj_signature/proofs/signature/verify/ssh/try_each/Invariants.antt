use Rattle.std.proofs.Common.{drop, map, None}
use Rattle.std.specs.Option.{option_map}
use Rattle.bstr.specs.Owned.{bstring_bytes}
use Rattle.gixobj_signature_reports.specs.Calls.{output_view}
use Rattle.gixobj_signature.specs.Plans.{IsRemainingPlan}
use Rattle.gixobj_signature.specs.SignedBytes.{signed_bytes}
use Rattle.gixobj_signature.specs.Verifiers.{ssh_of, ssh_program_of}
use Rattle.gixobj_signature.specs.Verifying.{tries}
use Rattle.gixobj_signature.proofs.signature.verify.ssh.try_each.Given as goal

-- the calls for the remaining principals remain of the entire plan
abbrev pub invariant-loop-principal : goal.invariant-loop-principal
invariant-loop-principal g l =
    IsRemainingPlan g.R.Runner.runs
    (tries (ssh_program_of l.by) (ssh_of l.by) l.signature (signed_bytes l.signed) (map bstring_bytes (drop l.principal-index l.principals))
    (option_map output_view l.last)) l.runner
    (tries (ssh_program_of l.by) (ssh_of l.by) l.signature (signed_bytes l.signed) (map bstring_bytes l.principals) None) l.fn.runner
