use Rattle.std.proofs.Common.{rules, ◌≡◌, sym, subst, map, None, Result, Err}
use Rattle.std.specs.Option.{option_map}
use Rattle.bstr.specs.Owned.{bstring_bytes}
use Rattle.gixobj_signature_reports.specs.Calls.{output_view}
use Rattle.gixobj_signature.specs.Plans.{IsCarriedOut}
use Rattle.gixobj_signature_reports.specs.Outcomes.{outcome_view}
use Rattle.gixobj_signature_reports.specs.declared.report.Outcome.{Outcome}
use Rattle.gixobj_signature.specs.SignedBytes.{signed_bytes}
use Rattle.gixobj_signature.specs.Verifiers.{ssh_of, ssh_program_of}
use Rattle.gixobj_signature.specs.Verifying.{error_view, reported, tries, verify_view}
use Rattle.gixobj_signature.specs.declared.signature.verify.Error.{Error}
use Rattle.gixobj_signature.specs.declared.signature.verify.Error.TheVariants as verify
use Rattle.gixobj_signature.proofs.Steps.{item_accepted, item_more, item_no_memory, item_failed, remaining_plan_at_end}
use Rattle.gixobj_signature.proofs.signature.verify.ssh.try_each.Goals as goal

-- the call for a principal failed
pub returns-in_err-output : goal.returns-in_err-output
returns-in_err-output g c =
    let entire = tries (ssh_program_of c.args.by.now) (ssh_of c.args.by.now) c.args.signature.now (signed_bytes c.args.signed.now)
    (map bstring_bytes c.args.principals.now) None in
    let same : c.from_residual.result ≡ Err c.in_err-output.field-0.0 = search rules in
    subst (λ (it : Result Outcome Error). IsCarriedOut g.R.Runner.runs entire c.args.runner.now (verify_view it) c.verify_principal.new.runner) (sym same)
    (item_failed g.R.Runner.runs (ssh_program_of c.args.by.now) (ssh_of c.args.by.now) c.args.signature.now
    (signed_bytes c.args.signed.now) c.args.principals.now c.loop-principal.principal-index c.principal-item.result
    (option_map output_view c.loop-principal.last) entire c.loop-principal.runner c.args.runner.now c.loop-principal-test.true c.principal-item.is
    c.loop-principal.invariant
    (error_view c.in_err-output.field-0.0) c.verify_principal.new.runner c.in_err-output.ensures)

-- a principal was accepted, and then memory ran out
pub returns-in_err-accepted_by : goal.returns-in_err-accepted_by
returns-in_err-accepted_by g c =
    let entire = tries (ssh_program_of c.args.by.now) (ssh_of c.args.by.now) c.args.signature.now (signed_bytes c.args.signed.now)
    (map bstring_bytes c.args.principals.now) None in
    let same : c.from_residual-in_err-accepted_by.result ≡ Err verify.OutOfMemory = search rules in
    subst (λ (it : Result Outcome Error). IsCarriedOut g.R.Runner.runs entire c.args.runner.now (verify_view it) c.verify_principal.new.runner) (sym same)
    (item_no_memory g.R.Runner.runs (ssh_program_of c.args.by.now) (ssh_of c.args.by.now) c.args.signature.now
    (signed_bytes c.args.signed.now) c.args.principals.now c.loop-principal.principal-index c.principal-item.result
    (option_map output_view c.loop-principal.last) entire c.loop-principal.runner c.args.runner.now c.loop-principal-test.true c.principal-item.is
    c.loop-principal.invariant
    (output_view c.in_ok-output.output) c.verify_principal.new.runner c.in_ok-output.ensures)

-- a principal was accepted
pub returns-then-is_accepted : goal.returns-then-is_accepted
returns-then-is_accepted g c =
    let entire = tries (ssh_program_of c.args.by.now) (ssh_of c.args.by.now) c.args.signature.now (signed_bytes c.args.signed.now)
    (map bstring_bytes c.args.principals.now) None in
    item_accepted g.R.Runner.runs (ssh_program_of c.args.by.now) (ssh_of c.args.by.now) c.args.signature.now
    (signed_bytes c.args.signed.now) c.args.principals.now c.loop-principal.principal-index c.principal-item.result
    (option_map output_view c.loop-principal.last) entire c.loop-principal.runner c.args.runner.now c.loop-principal-test.true c.principal-item.is
    c.loop-principal.invariant
    (output_view c.in_ok-output.output) c.verify_principal.new.runner (reported (outcome_view c.in_ok-accepted_by.field-0)) c.in_ok-output.ensures
    (search rules) c.in_ok-accepted_by.ensures

-- a principal wasn't accepted
pub loop-principal-preserved : goal.loop-principal-preserved
loop-principal-preserved g c =
    let entire = tries (ssh_program_of c.args.by.now) (ssh_of c.args.by.now) c.args.signature.now (signed_bytes c.args.signed.now)
    (map bstring_bytes c.args.principals.now) None in
    item_more g.R.Runner.runs (ssh_program_of c.args.by.now) (ssh_of c.args.by.now) c.args.signature.now (signed_bytes c.args.signed.now) c.args.principals.now
    c.loop-principal.principal-index c.principal-item.result
    (option_map output_view c.loop-principal.last) entire c.loop-principal.runner c.args.runner.now c.loop-principal-test.true c.principal-item.is
    c.loop-principal.invariant
    (output_view c.in_ok-output.output) c.verify_principal.new.runner c.in_ok-output.ensures (search rules)

-- no principal remains
pub returns : goal.returns
returns g c =
    let entire = tries (ssh_program_of c.args.by.now) (ssh_of c.args.by.now) c.args.signature.now (signed_bytes c.args.signed.now)
    (map bstring_bytes c.args.principals.now) None in
    remaining_plan_at_end g.R.Runner.runs (ssh_program_of c.args.by.now) (ssh_of c.args.by.now) c.args.signature.now
    (signed_bytes c.args.signed.now) c.args.principals.now
    c.loop-principal.principal-index
    (option_map output_view c.loop-principal.last) entire c.loop-principal.runner c.args.runner.now c.loop-principal-test.false c.loop-principal.invariant
    (verify_view c.end_with.result) c.end_with.new.runner c.end_with.ensures
