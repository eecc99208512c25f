use Rattle.std.proofs.Common.{rules, ◌≡◌, sym, subst, inr, cond, None, [], Result, Err}
use Rattle.gixobj_signature_reports.specs.Calls.{output_view, ran}
use Rattle.gixobj_signature.specs.Plans.{IsCarriedOut}
use Rattle.gixobj_signature_reports.specs.declared.report.Outcome.{Outcome}
use Rattle.gixobj_signature.specs.SignedBytes.{signed_bytes}
use Rattle.gixobj_signature.specs.Verifiers.{ssh_of, ssh_program_of}
use Rattle.gixobj_signature.specs.Verifying.{principals_in, error_view, ssh_verify_plan, tries, verify_view}
use Rattle.gixobj_signature.specs.VerifyingCalls.{principals_call}
use Rattle.gixobj_signature.specs.declared.signature.verify.Error.{Error}
use Rattle.gixobj_signature.specs.declared.signature.verify.Error.TheVariants as verify
use Rattle.gixobj_signature.proofs.Steps.{begins_plan_refl, carried_out_of_no_answer}
use Rattle.gixobj_signature.proofs.signature.verify.ssh.verify_ssh.Goals as goal

-- the call for the principals failed
pub returns-in_err-found : goal.returns-in_err-found
returns-in_err-found g c =
    let same : c.from_residual.result ≡ Err c.in_err-found.field-0.0 = search rules in
    subst (λ (it : Result Outcome Error). IsCarriedOut g.R.Runner.runs
    (ssh_verify_plan (ssh_program_of c.args.by.now) (ssh_of c.args.by.now) c.args.signature.now (signed_bytes c.args.signed.now)) c.args.runner.now
    (verify_view it) c.find_principals.new.runner) (sym same)
    (carried_out_of_no_answer g.R.Runner.runs (principals_call (ssh_program_of c.args.by.now) (ssh_of c.args.by.now) c.args.signature.now)
    (λ it. tries (ssh_program_of c.args.by.now) (ssh_of c.args.by.now) c.args.signature.now (signed_bytes c.args.signed.now)
    (cond it.success (principals_in it.stdout) []) None)
    (error_view c.in_err-found.field-0.0) c.args.runner.now c.find_principals.new.runner c.in_err-found.ensures)

-- the principals were listed, and then memory ran out
pub returns-in_err-principals : goal.returns-in_err-principals
returns-in_err-principals g c =
    let same : c.from_residual-in_err-principals.result ≡ Err verify.OutOfMemory = search rules in
    subst (λ (it : Result Outcome Error). IsCarriedOut g.R.Runner.runs
    (ssh_verify_plan (ssh_program_of c.args.by.now) (ssh_of c.args.by.now) c.args.signature.now (signed_bytes c.args.signed.now)) c.args.runner.now
    (verify_view it) c.find_principals.new.runner) (sym same)
    (inr (
      ran (output_view c.in_ok-found.found),
      c.find_principals.new.runner,
      c.in_ok-found.ensures,
      begins_plan_refl g.R.Runner.runs _ c.find_principals.new.runner,
    ))
