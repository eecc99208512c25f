-- The options of verification as contracts see them.
use Rattle.std.specs.Prelude.{ℕ, ℤ, List, Option, map}
use Rattle.std.specs.Option.{option_map}
use Rattle.bstr.specs.Owned.{bstring_bytes}
use Rattle.gixobj_signature_reports.specs.Calls.{pair_view}
use Rattle.gixobj_signature_reports.specs.declared.report.TrustLevel.{TrustLevel}
use Rattle.gixobj_signature.specs.declared.signature.verify.Options.{Options}
use Rattle.gixobj_signature.specs.declared.signature.verify.Options.TheVariants as options
use Rattle.gixobj_signature.specs.declared.signature.verify.Program.{Program}
use Rattle.gixobj_signature.specs.declared.signature.verify.SshProgram.{SshProgram}
use Rattle.gixobj_signature.specs.declared.signature.verify.Verifier.{Verifier}
use Rattle.gixobj_signature.specs.declared.signature.verify.Verifier.TheVariants as verifier

-- a program, its arguments before the fixed ones, the environment variables set for it, and the minimum trust
pub record ProgramView : Type 0 where
  pub program : List ℕ
  pub arguments : List (List ℕ)
  pub environment : List (List ℕ × List ℕ)
  pub minimum : TrustLevel

-- the options of SSH alone: the paths of the files of allowed signers and of revoked keys, and the time of
-- verification. Its seconds are since the epoch, and its offset is in seconds
pub record SshView : Type 0 where
  pub allowed : List ℕ
  pub revoked : Option (List ℕ)
  pub seconds : ℤ
  pub offset : ℤ

-- the options by the format of the program
pub data VerifyOptionsView : Type 0 where
  by_open_pgp : ProgramView → VerifyOptionsView
  by_x509 : ProgramView → VerifyOptionsView
  by_ssh : ProgramView → SshView → VerifyOptionsView

-- the view of the options of verification
abbrev pub verify_options_view : Options → VerifyOptionsView
verify_options_view (options.OpenPgp program arguments environment minimum) =
    by_open_pgp (record {
      program = bstring_bytes program;
      arguments = map bstring_bytes arguments.items;
      environment = map pair_view environment.items;
      minimum = minimum;
    })
verify_options_view (options.X509 program arguments environment minimum) =
    by_x509 (record {
      program = bstring_bytes program;
      arguments = map bstring_bytes arguments.items;
      environment = map pair_view environment.items;
      minimum = minimum;
    })
verify_options_view (options.Ssh program arguments environment allowed revoked time minimum) =
    by_ssh (record {
      program = bstring_bytes program;
      arguments = map bstring_bytes arguments.items;
      environment = map pair_view environment.items;
      minimum = minimum;
    })
    (record {
      allowed = bstring_bytes allowed;
      revoked = option_map bstring_bytes revoked;
      seconds = time.seconds;
      offset = time.offset;
    })

-- the view of an OpenPGP or X.509 program with its options
abbrev pub program_of : Program → ProgramView
program_of it = record {
  program = bstring_bytes it.program;
  arguments = map bstring_bytes it.program_arguments.items;
  environment = map pair_view it.environment.items;
  minimum = it.minimum_trust;
}

-- the view of an SSH program with the options that all programs have
abbrev pub ssh_program_of : SshProgram → ProgramView
ssh_program_of it = record {
  program = bstring_bytes it.program;
  arguments = map bstring_bytes it.program_arguments.items;
  environment = map pair_view it.environment.items;
  minimum = it.minimum_trust;
}

-- the view of the options of SSH alone
abbrev pub ssh_of : SshProgram → SshView
ssh_of it = record {
  allowed = bstring_bytes it.allowed_signers;
  revoked = option_map bstring_bytes it.revocation_file;
  seconds = it.verify_time.seconds;
  offset = it.verify_time.offset;
}

-- the view of a verifier, which is that of its options
abbrev pub verifier_view : Verifier → VerifyOptionsView
verifier_view (verifier.OpenPgp it) = by_open_pgp (program_of it)
verifier_view (verifier.X509 it) = by_x509 (program_of it)
verifier_view (verifier.Ssh it) = by_ssh (ssh_program_of it) (ssh_of it)
