-- The outcome of a verification of the signature's bytes.
use Rattle.std.proofs.Common.{◌≡◌, ◌∙◌, IfOk, List, ℕ, subst, true}
use Rattle.std.specs.Cow.{cow_slice_items}
use Rattle.bstr.specs.BStr.{bstr_bytes}
use Rattle.gix_object.specs.Outcomes.{outcome_view}
use Rattle.gix_object.specs.SignedBytes.{signed_bytes}
use Rattle.gix_object.specs.Verifiers.{verify_options_view}
use Rattle.gixobj_examples_objects.specs.AcceptedSignatures.{IsOutcomeOfVerifying, Vouches}
use Rattle.gixobj_examples_objects.proofs.Accepted.{vouches_of_valid_outcome}
use Rattle.gixobj_examples_objects.proofs.releases.verified.Goals as goal

pub returns-clause-outcome : goal.returns-clause-outcome
returns-clause-outcome g c =
    let options = verify_options_view c.args.options in
    let signed = signed_bytes c.args.found.1 in
    let shown : bstr_bytes c.new.result ≡ cow_slice_items c.args.found.0 = c.new.ensures ∙ c.as_slice.ensures.value in
    subst (λ (bytes : List ℕ). IsOutcomeOfVerifying g.R.Runner.runs options bytes signed c.args.runner.now c.verify.result c.verify.new.runner) shown
    (c.verify.ensures.format, c.verify.ensures.is_format, c.verify.ensures.called)

pub returns-clause-accepted : goal.returns-clause-accepted
returns-clause-accepted g c =
    let options = verify_options_view c.args.options in
    let signed = signed_bytes c.args.found.1 in
    let shown : bstr_bytes c.new.result ≡ cow_slice_items c.args.found.0 = c.new.ensures ∙ c.as_slice.ensures.value in
    subst (λ (bytes : List ℕ). IfOk c.verify.result (λ outcome. (outcome_view outcome).valid ≡ true
    → Vouches g.R.Runner.runs options bytes signed c.args.runner.now (outcome_view outcome) c.verify.new.runner)) shown
    (vouches_of_valid_outcome g.R.Runner.runs options (bstr_bytes c.new.result) signed c.verify.ensures.format c.args.runner.now c.verify.new.runner
    c.verify.result
    c.verify.ensures.called)
