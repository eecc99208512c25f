-- The plans of verification, and the outcomes of their answers.
use Rattle.std.specs.Prelude.{ℕ, Bool, false, List, [], ◌∷◌, ◌++◌, Option, Some, None, Result, Ok, Err, if◌then◌else◌}
use Rattle.std.specs.Prelude.{codes, filter, map, nat_eq, ◌&&◌}
use Rattle.std.specs.List.{starts_with}
use Rattle.std.specs.Str.{encode_utf8_all}
use Rattle.bstr.specs.BStr.{bstr_bytes}
use Rattle.bstr.specs.Owned.{bstring_bytes}
use Rattle.bstr.specs.Text.{lines_of, without_terminator}
use Rattle.bstr.specs.Utf8.{lossy_chars}
use Rattle.bstr.specs.declared.bstr.BStr.{BStr}
use Rattle.gixobj_signature_reports.specs.Calls.{Answer, CallView, Failure, OutputView, failed, no_file, no_memory}
use Rattle.gixobj_signature_reports.specs.Calls.{no_time, not_spawned, not_reported, output_view, ran}
use Rattle.gixobj_signature_reports.specs.GpgReports.{gpg_report}
use Rattle.gixobj_signature_reports.specs.Outcomes.{OutcomeView, evaluated, outcome_view}
use Rattle.gixobj_signature.specs.Plans.{IsCarriedOut, Plan, AllocatesForCalls, run_then, done, no_more}
use Rattle.gixobj_signature_reports.specs.SshReports.{ssh_report}
use Rattle.gixobj_signature_reports.specs.declared.call.Output.{Output}
use Rattle.gixobj_signature_reports.specs.declared.call.RunError.{RunError}
use Rattle.gixobj_signature_reports.specs.declared.call.RunError.TheVariants as run
use Rattle.gixobj_signature_reports.specs.declared.report.Outcome.{Outcome}
use Rattle.gixobj_signature_reports.specs.declared.report.TrustLevel.{TrustLevel}
use Rattle.gixobj_signature_reports.specs.declared.report.TrustLevel.TheVariants as trust
use Rattle.gixobj_parse.specs.Markers.{BeginsWithMarker, BeginsWithNoMarker}
use Rattle.gixobj_parse.specs.declared.signature.Format.{Format}
use Rattle.gixobj_parse.specs.declared.signature.Format.TheVariants as format
use Rattle.gixobj_signature.specs.SignedBytes.{signed_bytes}
use Rattle.gixobj_signature.specs.Verifiers.{VerifyOptionsView, ProgramView, SshView, by_open_pgp, by_ssh, by_x509}
use Rattle.gixobj_signature.specs.Verifiers.{verify_options_view}
use Rattle.gixobj_signature.specs.VerifyingCalls.{novalidate_call, open_pgp_call, principal_call, principals_call}
use Rattle.gixobj_signature.specs.VerifyingCalls.{x509_call}
use Rattle.gixobj_signature.specs.declared.signature.signed_data.SignedData.{SignedData}
use Rattle.gixobj_signature.specs.declared.signature.verify.Error.{Error}
use Rattle.gixobj_signature.specs.declared.signature.verify.Error.TheVariants as verify
use Rattle.gixobj_signature.specs.declared.signature.verify.Options.{Options}
use Rattle.gixobj_hash.specs.ByteStrings.{is_filled, trimmed}

-- an outcome of verifying: a report; no known marker; the formats of program and signature, which differ; a program
-- that didn't run to its end
pub data VerifyOutcome : Type 0 where
  reported : OutcomeView → VerifyOutcome
  unsupported : VerifyOutcome
  mismatch : Format → Format → VerifyOutcome
  not_run : Failure → VerifyOutcome

-- the format of the marker with which the signature begins, or none without a marker
abbrev pub IsFormatOf : List ℕ → Option Format → Type 0
IsFormatOf signature (Some format) = BeginsWithMarker format signature
IsFormatOf signature None = BeginsWithNoMarker signature

-- the rest of the plan after an answer, chosen by its output
abbrev pub on_output : Answer → (OutputView → Plan VerifyOutcome) → Plan VerifyOutcome
on_output (ran it) next = next it
on_output (failed why) next = done (not_run why)
on_output no_memory next = no_more

-- ---- OpenPGP and X.509: one call

-- the outcome of an OpenPGP or X.509 program's output: its report, evaluated by the minimum trust
abbrev pub gpg_verified : Format → ProgramView → OutputView → VerifyOutcome
gpg_verified format by it = reported (evaluated it.success by.minimum (gpg_report format it.stderr it.stdout))

-- the plan of an OpenPGP or X.509 program: this call
abbrev pub gpg_verify_plan : Format → ProgramView → CallView → Plan VerifyOutcome
gpg_verify_plan format by call = run_then call (λ answer. on_output answer (λ it. done (gpg_verified format by it)))

-- ---- SSH: a call for the principals, and then others

-- the bytes as UTF-8, with a replacement for those that are none
abbrev pub lossy : List ℕ → List ℕ
lossy bytes = encode_utf8_all (lossy_chars bytes)

-- the principals of this output: its lines without white space at their ends, but not the empty ones, in lossy UTF-8
abbrev pub principals_in : List ℕ → List (List ℕ)
principals_in stdout = map lossy (filter is_filled (map trimmed (map without_terminator (lines_of stdout))))

-- the output for people: standard output, and then standard error
abbrev pub human : OutputView → List ℕ
human it = it.stdout ++ it.stderr

-- the outcome of an SSH program's output with this success, trust and signer, evaluated by the minimum trust
abbrev pub ssh_verified : ProgramView → Bool → TrustLevel → Option (List ℕ) → OutputView → VerifyOutcome
ssh_verified by success trusted signer it =
    reported (evaluated success by.minimum (ssh_report (human it) signer trusted))

-- a call for a principal accepts it: it succeeds, and its standard output begins with Good
abbrev pub accepts : OutputView → Bool
accepts it = it.success && starts_with nat_eq it.stdout (codes "Good")

-- the rest without an accepted principal: the last call for one is reported, without a signer. If none was made, the
-- check for any key is reported, and it counts as unsuccessful
abbrev pub rest_plan : ProgramView → SshView → List ℕ → List ℕ → Option OutputView → Plan VerifyOutcome
rest_plan by ssh signature signed (Some last) = done (ssh_verified by last.success trust.Fully None last)
rest_plan by ssh signature signed None =
    run_then (novalidate_call by ssh signature signed) (λ answer. on_output answer (λ it.
    done (ssh_verified by false trust.Undefined None it)))

-- a call for each principal, up to the first that is accepted
unfoldable pub tries : ProgramView → SshView → List ℕ → List ℕ → List (List ℕ) → Option OutputView → Plan VerifyOutcome
tries by ssh signature signed [] last = rest_plan by ssh signature signed last
tries by ssh signature signed (principal ∷ principals) last =
    run_then (principal_call by ssh signature signed principal) (λ answer. on_output answer (λ it.
    if accepts it then done (ssh_verified by it.success trust.Fully (Some principal) it)
    else tries by ssh signature signed principals (Some it)))

-- the plan of an SSH program: the principals are listed and then tried. There are none if that call doesn't succeed
abbrev pub ssh_verify_plan : ProgramView → SshView → List ℕ → List ℕ → Plan VerifyOutcome
ssh_verify_plan by ssh signature signed =
    run_then (principals_call by ssh signature) (λ answer. on_output answer (λ it.
    tries by ssh signature signed (if it.success then principals_in it.stdout else []) None))

-- ---- all formats

-- the plan of verification: no call without a marker, and none if the marker isn't of the program's format
abbrev pub verify_plan : VerifyOptionsView → List ℕ → List ℕ → Option Format → Plan VerifyOutcome
verify_plan it signature signed None = done unsupported
verify_plan (by_open_pgp by) signature signed (Some format.OpenPgp) =
    gpg_verify_plan format.OpenPgp by (open_pgp_call by signature signed)
verify_plan (by_x509 by) signature signed (Some format.X509) =
    gpg_verify_plan format.X509 by (x509_call by signature signed)
verify_plan (by_ssh by ssh) signature signed (Some format.Ssh) = ssh_verify_plan by ssh signature signed
verify_plan (by_open_pgp by) signature signed (Some other) = done (mismatch format.OpenPgp other)
verify_plan (by_x509 by) signature signed (Some other) = done (mismatch format.X509 other)
verify_plan (by_ssh by ssh) signature signed (Some other) = done (mismatch format.Ssh other)

-- ---- results of calls

-- the outcome that a result reports, or none if memory ran out
abbrev pub verify_view : Result Outcome Error → Option VerifyOutcome
verify_view (Ok it) = Some (reported (outcome_view it))
verify_view (Err verify.UnsupportedFormat) = Some unsupported
verify_view (Err (verify.FormatMismatch program signature)) = Some (mismatch program signature)
verify_view (Err (verify.TemporaryFile why)) = Some (not_run (no_file (bstring_bytes why)))
verify_view (Err (verify.Spawn why)) = Some (not_run (not_spawned (bstring_bytes why)))
verify_view (Err (verify.Communicate why)) = Some (not_run (not_reported (bstring_bytes why)))
verify_view (Err (verify.CommitTime why)) = Some (not_run (no_time (bstring_bytes why)))
verify_view (Err verify.OutOfMemory) = None

-- the result is that of this plan between these states of the runner; if memory ran out, a prefix of its calls was made
abbrev pub IsOutcomeOf : {S : Type 0} → (S → CallView → Answer → S → Type 0) → Plan VerifyOutcome → S
    → Result Outcome Error
    → S → Type 0
IsOutcomeOf runs plan old result new = IsCarriedOut runs plan old (verify_view result) new

-- the result of verifying this signature of these bytes is that of the plan for its marker's format. Memory ran out
-- only if the plan makes a call
pub record Verifies {S : Type 0} (runs : S → CallView → Answer → S → Type 0) (options : Options) (signature : BStr)
    (signed : SignedData) (old : S) (result : Result Outcome Error) (new : S) : Type 0 where
  pub format : Option Format
  pub is_format : IsFormatOf (bstr_bytes signature) format
  pub called : IsOutcomeOf runs
      (verify_plan (verify_options_view options) (bstr_bytes signature) (signed_bytes signed) format) old result new
  pub consumed : AllocatesForCalls
      (verify_plan (verify_options_view options) (bstr_bytes signature) (signed_bytes signed) format)
      (verify_view result)

-- the error of verifying for an error of the runner
abbrev pub failed_run : RunError → Error
failed_run (run.TemporaryFile why) = verify.TemporaryFile why
failed_run (run.Spawn why) = verify.Spawn why
failed_run (run.Communicate why) = verify.Communicate why
failed_run (run.CommitTime why) = verify.CommitTime why
failed_run run.OutOfMemory = verify.OutOfMemory

-- the outcome that an error reports, or none if memory ran out
abbrev pub error_view : Error → Option VerifyOutcome
error_view error = verify_view (Err error)

-- the runner made this call and returned this output; or the error is one of the plan that makes this call and ends
abbrev pub WasCalled : {S : Type 0} → (S → CallView → Answer → S → Type 0) → CallView → S → Result Output Error → S
    → Type 0
WasCalled runs call s (Ok output) t = runs s call (ran (output_view output)) t
WasCalled runs call s (Err error) t = IsCarriedOut runs (run_then call (λ answer. on_output answer (λ it. no_more))) s
    (error_view error) t
