-- Plans for signatures without a marker.
use Rattle.std.proofs.Common.{◌≡◌, List, ℕ, None, refl}
use Rattle.gixobj_signature.specs.Plans.{done}
use Rattle.gixobj_signature.specs.Verifiers.{VerifyOptionsView, by_open_pgp, by_ssh, by_x509}
use Rattle.gixobj_signature.specs.Verifying.{unsupported, verify_plan}

-- without a marker the plan makes no call, for any options
pub verify_plan_of_no_format : (it : VerifyOptionsView) (signature signed : List ℕ) → verify_plan it signature signed None ≡ done unsupported
verify_plan_of_no_format (by_open_pgp by) signature signed = refl
verify_plan_of_no_format (by_x509 by) signature signed = refl
verify_plan_of_no_format (by_ssh by ssh) signature signed = refl
