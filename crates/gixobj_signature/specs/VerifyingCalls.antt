-- The calls of programs that verify. In each of them file 0 is the signature.
use Rattle.std.specs.Prelude.{ℕ, List, [], ◌∷◌, ◌++◌, Option, Some, None, codes, map}
use Rattle.gixobj_signature_reports.specs.Calls.{CallView, WordView, file, plain, verify_time}
use Rattle.gixobj_signature_reports.specs.Pieces.{git_arguments}
use Rattle.gixobj_signature.specs.Verifiers.{ProgramView, SshView}

-- a call of the program with these arguments, files and input
abbrev pub full_call : ProgramView → List WordView → List (List ℕ) → Option (List ℕ) → CallView
full_call it words files input = record {
  program = it.program;
  words = words;
  environment = it.environment;
  files = files;
  input = input;
  result = None;
}

-- ---- OpenPGP: the signed data is the input

-- the arguments of an OpenPGP program (gpg(1), "--verify")
abbrev pub open_pgp_arguments : ProgramView → List WordView
open_pgp_arguments it =
    map plain it.arguments
    ++ plain (codes "--keyid-format=long") ∷ plain (codes "--status-fd=1") ∷ plain (codes "--verify") ∷ file 0 ∷ plain
    (codes "-") ∷ []

-- the call of an OpenPGP program
unfoldable pub open_pgp_call : ProgramView → List ℕ → List ℕ → CallView
open_pgp_call it signature signed = full_call it (open_pgp_arguments it) (signature ∷ []) (Some signed)

-- ---- X.509: the signed data is file 1

-- the arguments of an X.509 program
abbrev pub x509_arguments : ProgramView → List WordView
x509_arguments it = map plain it.arguments ++ plain (codes "--status-fd=1") ∷ plain (codes "--verify") ∷ file 0 ∷ file 1
    ∷ []

-- the call of an X.509 program
unfoldable pub x509_call : ProgramView → List ℕ → List ℕ → CallView
x509_call it signature signed = full_call it (x509_arguments it) (signature ∷ signed ∷ []) None

-- ---- SSH: the signed data is the input, and the output is in English

-- the program with the environment variables LANG and LC_ALL, both C, after its own
abbrev pub in_english : ProgramView → ProgramView
in_english it =
    record it { environment = it.environment ++ (codes "LANG", codes "C") ∷ (codes "LC_ALL", codes "C") ∷ [] }

-- the call that lists the principals of the key, with an empty input (ssh-keygen(1), "-Y find-principals")
unfoldable pub principals_call : ProgramView → SshView → List ℕ → CallView
principals_call it ssh signature =
    full_call (in_english it)
    (map plain it.arguments
    ++ plain (codes "-Y") ∷ plain (codes "find-principals") ∷ plain (codes "-f") ∷ plain ssh.allowed ∷ plain
    (codes "-s") ∷ file 0
    ∷ verify_time ssh.seconds ssh.offset ∷ [])
    (signature ∷ []) (Some [])

-- the arguments of a verification for a principal, without the revocation file (ssh-keygen(1), "-Y verify")
abbrev pub principal_arguments : ProgramView → SshView → List ℕ → List WordView
principal_arguments it ssh principal =
    git_arguments it.arguments (codes "verify")
    ++ plain (codes "-f") ∷ plain ssh.allowed ∷ plain (codes "-I") ∷ plain principal ∷ plain (codes "-s") ∷ file 0
    ∷ verify_time ssh.seconds ssh.offset ∷ []

-- the arguments for the revocation file, if there is one
abbrev pub revocation_arguments : Option (List ℕ) → List WordView
revocation_arguments None = []
revocation_arguments (Some path) = plain (codes "-r") ∷ plain path ∷ []

-- the call that verifies the signature for a principal
unfoldable pub principal_call : ProgramView → SshView → List ℕ → List ℕ → List ℕ → CallView
principal_call it ssh signature signed principal =
    full_call (in_english it) (principal_arguments it ssh principal ++ revocation_arguments ssh.revoked)
    (signature ∷ [])
    (Some signed)

-- the arguments of a check of the signature for any key (ssh-keygen(1), "-Y check-novalidate")
abbrev pub novalidate_arguments : ProgramView → SshView → List WordView
novalidate_arguments it ssh =
    git_arguments it.arguments (codes "check-novalidate")
    ++ plain (codes "-s") ∷ file 0 ∷ verify_time ssh.seconds ssh.offset ∷ []

-- the call that checks the signature for any key
unfoldable pub novalidate_call : ProgramView → SshView → List ℕ → List ℕ → CallView
novalidate_call it ssh signature signed = full_call (in_english it) (novalidate_arguments it ssh) (signature ∷ [])
    (Some signed)
