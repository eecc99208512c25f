-- Worked examples of reports, computed from the definitions; no proof uses them.
use Rattle.std.proofs.Common.{◌≡◌, List, [], ◌++◌, None, Some, ℕ, codes, refl}
use Rattle.bstr.proofs.Computing.{computing}
use Rattle.gixobj_parse.specs.declared.signature.Format.TheVariants as format
use Rattle.gixobj_signature_reports.specs.GpgReports.{gpg_report}
use Rattle.gixobj_signature_reports.specs.Outcomes.{OutcomeView}
use Rattle.gixobj_signature_reports.specs.SshReports.{ssh_report}
use Rattle.gixobj_signature_reports.specs.Trust.{trust_of}
use Rattle.gixobj_signature_reports.specs.declared.report.Status.TheVariants as status
use Rattle.gixobj_signature_reports.specs.declared.report.TrustLevel.TheVariants as trust

-- ---- OpenPGP

abbrev good_lines : List ℕ
good_lines = codes "[GNUPG:] GOODSIG 0123456789ABCDEF Fixture Signer\n[GNUPG:] VALIDSIG FINGERPRINT 0 0 0 0 0 0 0 0 PRIMARY\n[GNUPG:] TRUST_FULLY 0 pgp\n"

abbrev two_lines : List ℕ
two_lines = good_lines ++ codes "[GNUPG:] GOODSIG A B\n"

abbrev good : OutcomeView
good = gpg_report format.OpenPgp [] good_lines

abbrev two : OutcomeView
two = gpg_report format.OpenPgp [] two_lines

good_status_is_good : good.status ≡ status.Good
unfolding computing
good_status_is_good = refl

good_trust_is_full : good.trust_level ≡ trust.Fully
unfolding computing
good_trust_is_full = refl

good_key_is_found : good.key ≡ Some (codes "0123456789ABCDEF")
unfolding computing
good_key_is_found = refl

good_signer_is_found : good.signer ≡ Some (codes "Fixture Signer")
unfolding computing
good_signer_is_found = refl

good_fingerprint_is_found : good.fingerprint ≡ Some (codes "FINGERPRINT")
unfolding computing
good_fingerprint_is_found = refl

good_primary_is_found : good.primary_key_fingerprint ≡ Some (codes "PRIMARY")
unfolding computing
good_primary_is_found = refl

-- a second status is an error, and hides neither the trust nor the fingerprints
two_status_is_error : two.status ≡ status.Error
unfolding computing
two_status_is_error = refl

two_has_no_key : two.key ≡ None
unfolding computing
two_has_no_key = refl

two_has_no_signer : two.signer ≡ None
unfolding computing
two_has_no_signer = refl

two_trust_is_full : two.trust_level ≡ trust.Fully
unfolding computing
two_trust_is_full = refl

two_fingerprint_is_found : two.fingerprint ≡ Some (codes "FINGERPRINT")
unfolding computing
two_fingerprint_is_found = refl

two_primary_is_found : two.primary_key_fingerprint ≡ Some (codes "PRIMARY")
unfolding computing
two_primary_is_found = refl

-- ---- SSH

abbrev ssh_good : OutcomeView
ssh_good = ssh_report (codes "Good \"git\" signature for Fixture Signer with ED25519 key SHA256:fixture\n") (Some (codes "Fixture Signer")) trust.Fully

abbrev ssh_bad : OutcomeView
ssh_bad = ssh_report (codes "invalid signature") None trust.Undefined

ssh_good_status_is_good : ssh_good.status ≡ status.Good
unfolding computing
ssh_good_status_is_good = refl

ssh_good_key_is_found : ssh_good.key ≡ Some (codes "SHA256:fixture")
unfolding computing
ssh_good_key_is_found = refl

ssh_good_fingerprint_is_found : ssh_good.fingerprint ≡ Some (codes "SHA256:fixture")
unfolding computing
ssh_good_fingerprint_is_found = refl

ssh_bad_status_is_bad : ssh_bad.status ≡ status.Bad
unfolding computing
ssh_bad_status_is_bad = refl

ssh_bad_has_no_key : ssh_bad.key ≡ None
unfolding computing
ssh_bad_has_no_key = refl

-- ---- trust

trust_of_never : trust_of (codes "NEVER") ≡ Some trust.Never
unfolding computing
trust_of_never = refl

trust_of_marginal : trust_of (codes "Marginal") ≡ Some trust.Marginal
unfolding computing
trust_of_marginal = refl

trust_of_unknown_is_none : trust_of (codes "unknown") ≡ None
unfolding computing
trust_of_unknown_is_none = refl
