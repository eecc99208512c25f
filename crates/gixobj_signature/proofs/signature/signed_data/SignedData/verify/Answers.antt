use Rattle.std.proofs.Common.{List, ℕ, None, Some, refl, subst, sym}
use Rattle.bstr.specs.BStr.{bstr_bytes}
use Rattle.gixobj_signature.specs.Plans.{IsCarriedOut, Plan}
use Rattle.gixobj_parse.specs.Markers.{BeginsWithNoMarker}
use Rattle.gixobj_signature.specs.SignedBytes.{signed_bytes}
use Rattle.gixobj_signature.specs.Verifiers.{verify_options_view}
use Rattle.gixobj_signature.specs.Verifying.{VerifyOutcome, unsupported}
use Rattle.gixobj_signature.proofs.Unmarked.{verify_plan_of_no_format}
use Rattle.gixobj_signature.proofs.signature.signed_data.SignedData.verify.Goals as goal

pub returns-in-None : goal.returns-in-None
returns-in-None g c = record {
  format = None;
  is_format = subst (λ (bytes : List ℕ). BeginsWithNoMarker bytes) c.as_bytes.ensures c.in-None.ensures.none;
  called = subst (λ (plan : Plan VerifyOutcome). IsCarriedOut g.R.Runner.runs plan c.args.runner.now (Some unsupported) c.args.runner.now)
      (sym (verify_plan_of_no_format (verify_options_view c.args.options) (bstr_bytes c.args.signature) (signed_bytes c.args.self.now))) (refl, refl);
  consumed = tt;
}
