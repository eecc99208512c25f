-- The calls of programs that sign, and the outcomes of their answers.
use Rattle.std.specs.Prelude.{◌≡◌, ℕ, Bool, false, List, [], ◌∷◌, ◌++◌, Option, Some, None, Result, Ok, Err}
use Rattle.std.specs.Prelude.{if◌then◌else◌, codes, map, nat_eq, ◌&&◌, ◌==◌}
use Rattle.std.specs.List.{list_any, starts_with}
use Rattle.bstr.specs.Owned.{bstring_bytes}
use Rattle.bstr.specs.Text.{lines_of, without_terminator}
use Rattle.bstr.specs.declared.bstring.BString.{BString}
use Rattle.gixobj_streams.specs.declared.encode.Error as encode
use Rattle.gixobj_hash.specs.declared.decode.Error as decode
use Rattle.gixobj_hash.specs.Bytes.{carriage_return, newline}
use Rattle.gixobj_signature_reports.specs.Fields.{after_prefix, either}
use Rattle.gixobj_parse.specs.declared.signature.Format.{Format}
use Rattle.gixobj_parse.specs.declared.signature.Format.TheVariants as format
use Rattle.gixobj_signature_reports.specs.Calls.{Answer, CallView, Failure, OutputView, WordView, failed, file, no_file}
use Rattle.gixobj_signature_reports.specs.Calls.{no_memory, no_time, not_spawned, not_reported, pair_view, ran, plain}
use Rattle.gixobj_signature_reports.specs.Pieces.{git_arguments}
use Rattle.gixobj_signature.specs.Plans.{IsCarriedOut, Plan, run_then, done, no_more}
use Rattle.gixobj_signature.specs.declared.signature.sign.Options.{Options}
use Rattle.gixobj_signature.specs.declared.signature.sign.Error.{Error}
use Rattle.gixobj_signature.specs.declared.signature.sign.Error.TheVariants as sign

-- the format, program, arguments, key and environment with which an object is signed
pub record SignOptionsView : Type 0 where
  pub format : Format
  pub program : List ℕ
  pub arguments : List (List ℕ)
  pub key : List ℕ
  pub environment : List (List ℕ × List ℕ)

-- the view of the options of signing
abbrev pub sign_options_view : Options → SignOptionsView
sign_options_view it = record {
  format = it.format;
  program = bstring_bytes it.program;
  arguments = map bstring_bytes it.program_arguments.items;
  key = bstring_bytes it.signing_key;
  environment = map pair_view it.environment.items;
}

-- the literal SSH key of a signing key, or none if it is the path of a key file (git-config, "user.signingKey")
abbrev pub literal_key : List ℕ → Option (List ℕ)
literal_key key =
    either (after_prefix (codes "key::") key) (if starts_with nat_eq key (codes "ssh-") then Some key else None)

-- ---- the calls

-- OpenPGP and X.509: the payload is the input
abbrev pub gpg_call : SignOptionsView → List ℕ → CallView
gpg_call it payload = record {
  program = it.program;
  words = map plain it.arguments ++ plain (codes "--status-fd=2") ∷ plain (codes "-bsau") ∷ plain it.key ∷ [];
  environment = it.environment;
  files = [];
  input = Some payload;
  result = None;
}

-- SSH: a call with these arguments and files and no input, which may write the signature next to the file of this index
abbrev pub leaving_call : SignOptionsView → List WordView → List (List ℕ) → ℕ → CallView
leaving_call it words files result = record {
  program = it.program;
  words = words;
  environment = it.environment;
  files = files;
  input = None;
  result = Some result;
}

-- SSH: the key is in a file of the caller, and the payload is file 0
abbrev pub path_call : SignOptionsView → List ℕ → CallView
path_call it payload =
    leaving_call it (git_arguments it.arguments (codes "sign") ++ plain (codes "-f") ∷ plain it.key ∷ file 0 ∷ [])
    (payload ∷ []) 0

-- SSH: the key is file 0, and the payload is file 1
abbrev pub literal_call : SignOptionsView → List ℕ → List ℕ → CallView
literal_call it key payload =
    leaving_call it (git_arguments it.arguments (codes "sign") ++ plain (codes "-f") ∷ file 0 ∷ plain
    (codes "-U") ∷ file 1 ∷ [])
    (key ∷ payload ∷ []) 1

-- the call of an SSH program by its literal key, if there is one
abbrev pub ssh_call_by : Option (List ℕ) → SignOptionsView → List ℕ → CallView
ssh_call_by None it payload = path_call it payload
ssh_call_by (Some key) it payload = literal_call it key payload

-- the call of an SSH program for the key of the options
abbrev pub ssh_call : SignOptionsView → List ℕ → CallView
ssh_call it payload = ssh_call_by (literal_key it.key) it payload

-- ---- outcomes of the answers

-- an outcome of signing: the signature, or why there is none; `program_failed` has the standard error of the program
pub data SignOutcome : Type 0 where
  signature : List ℕ → SignOutcome
  copy_failed : decode.Error → SignOutcome
  encode_failed : encode.Error → SignOutcome
  without_key : SignOutcome
  not_run : Failure → SignOutcome
  program_failed : List ℕ → List ℕ → SignOutcome
  not_confirmed : SignOutcome
  without_signature : SignOutcome

-- the byte is a carriage return, and the next one is a newline
abbrev pub is_return_before : ℕ → List ℕ → Bool
is_return_before byte [] = false
is_return_before byte (next ∷ rest) = byte == carriage_return && next == newline

-- the bytes without each carriage return directly before a newline
abbrev pub without_returns : List ℕ → List ℕ
without_returns [] = []
without_returns (byte ∷ rest) =
    if is_return_before byte rest then without_returns rest else byte ∷ without_returns rest

-- a line of the standard error reports that a signature was made (gnupg, doc/DETAILS, "SIG_CREATED")
abbrev pub confirms : List ℕ → Bool
confirms stderr =
    list_any (λ line. starts_with nat_eq line (codes "[GNUPG:] SIG_CREATED "))
    (map without_terminator (lines_of stderr))

-- the failure that signing reports: its calls have no time, so a time that couldn't be formatted counts as no
-- communication
abbrev pub sign_fails : Failure → Failure
sign_fails (no_time why) = not_reported why
sign_fails other = other

-- the outcome of an OpenPGP or X.509 program's output: it has to succeed and to report the signature, which is its
-- standard output
abbrev pub gpg_signed : List ℕ → OutputView → SignOutcome
gpg_signed program it =
    if it.success then (if confirms it.stderr then signature (without_returns it.stdout) else not_confirmed)
    else program_failed program it.stderr

-- the signature in the file that an SSH program wrote, if it wrote one
abbrev pub written_signature : Option (List ℕ) → SignOutcome
written_signature (Some bytes) = signature (without_returns bytes)
written_signature None = without_signature

-- the outcome of an SSH program's output: it has to succeed and to write a signature file
abbrev pub ssh_signed : List ℕ → OutputView → SignOutcome
ssh_signed program it = if it.success then written_signature it.result else program_failed program it.stderr

-- the rest of the plan after the answer of a signing program
abbrev pub on_signer : (OutputView → SignOutcome) → Answer → Plan SignOutcome
on_signer signed (ran it) = done (signed it)
on_signer signed (failed why) = done (not_run (sign_fails why))
on_signer signed no_memory = no_more

-- the plan of an OpenPGP or X.509 program: one call
abbrev pub gpg_plan : SignOptionsView → List ℕ → Plan SignOutcome
gpg_plan it payload = run_then (gpg_call it payload) (on_signer (gpg_signed it.program))

-- the plan of an SSH program: one call
abbrev pub ssh_plan : SignOptionsView → List ℕ → Plan SignOutcome
ssh_plan it payload = run_then (ssh_call it payload) (on_signer (ssh_signed it.program))

-- the plan by the format of the signature
abbrev pub by_format : Format → SignOptionsView → List ℕ → Plan SignOutcome
by_format format.OpenPgp it payload = gpg_plan it payload
by_format format.X509 it payload = gpg_plan it payload
by_format format.Ssh it payload = ssh_plan it payload

-- the plan by the key: without a byte in it, no call
abbrev pub with_key : List ℕ → SignOptionsView → List ℕ → Plan SignOutcome
with_key [] it payload = done without_key
with_key (byte ∷ rest) it payload = by_format it.format it payload

-- the plan of signing: no call for an empty key, else one call by the format
abbrev pub sign_plan : SignOptionsView → List ℕ → Plan SignOutcome
sign_plan it payload = with_key it.key it payload

-- ---- results of calls

-- the outcome that an error reports, or none if memory ran out
abbrev pub signer_error : Error → Option SignOutcome
signer_error (sign.Decode error) = Some (copy_failed error)
signer_error (sign.Encode error) = Some (encode_failed error)
signer_error sign.MissingSigningKey = Some without_key
signer_error (sign.TemporaryFile why) = Some (not_run (no_file (bstring_bytes why)))
signer_error (sign.Spawn why) = Some (not_run (not_spawned (bstring_bytes why)))
signer_error (sign.Communicate why) = Some (not_run (not_reported (bstring_bytes why)))
signer_error (sign.Failed program output) = Some (program_failed (bstring_bytes program) (bstring_bytes output))
signer_error sign.MissingSignatureConfirmation = Some not_confirmed
signer_error sign.MissingSshSignature = Some without_signature
signer_error sign.OutOfMemory = None

-- the outcome that a result reports, or none if memory ran out
abbrev pub sign_view : Result BString Error → Option SignOutcome
sign_view (Ok it) = Some (signature (bstring_bytes it))
sign_view (Err error) = signer_error error

-- the result is that of this plan between these states of the runner; if memory ran out, a prefix of its calls was made
abbrev pub Signs : {S : Type 0} → (S → CallView → Answer → S → Type 0) → Plan SignOutcome → S → Result BString Error → S
    → Type 0
Signs runs plan old result new = IsCarriedOut runs plan old (sign_view result) new

-- the outcome of an answer without output, or none if memory ran out
abbrev pub not_run_view : Answer → Option SignOutcome
not_run_view (ran it) = None
not_run_view (failed why) = Some (not_run (sign_fails why))
not_run_view no_memory = None

-- the error of this failed program, which wrote these bytes to its standard error
abbrev pub IsFailed : BString → List ℕ → Error → Type 0
IsFailed program stderr error = (output : BString) × (error ≡ sign.Failed program output)
    × (bstring_bytes output ≡ stderr)
