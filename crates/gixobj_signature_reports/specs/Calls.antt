-- Calls of external programs and their answers, as contracts see them.
use Rattle.std.specs.Prelude.{ℕ, ℤ, Bool, List, Option, Result, Ok, Err, map}
use Rattle.std.specs.Option.{option_map}
use Rattle.bstr.specs.Owned.{bstring_bytes}
use Rattle.bstr.specs.declared.bstring.BString.{BString}
use Rattle.gixobj_signature_reports.specs.declared.call.Call.{Call}
use Rattle.gixobj_signature_reports.specs.declared.call.Output.{Output}
use Rattle.gixobj_signature_reports.specs.declared.call.RunError.{RunError}
use Rattle.gixobj_signature_reports.specs.declared.call.RunError.TheVariants as run
use Rattle.gixobj_signature_reports.specs.declared.call.Word.{Word}
use Rattle.gixobj_signature_reports.specs.declared.call.Word.TheVariants as word

-- an argument of a call: its bytes; the path of the file of this index; a time of verification, in seconds since the
-- epoch and an offset in seconds
pub data WordView : Type 0 where
  plain : List ℕ → WordView
  file : ℕ → WordView
  verify_time : ℤ → ℤ → WordView

-- a call of a program
pub record CallView : Type 0 where
  pub program : List ℕ
  pub words : List WordView
  pub environment : List (List ℕ × List ℕ)
  pub files : List (List ℕ)
  pub input : Option (List ℕ)
  pub result : Option ℕ

-- the output of a program that ran to its end
pub record OutputView : Type 0 where
  pub success : Bool
  pub stdout : List ℕ
  pub stderr : List ℕ
  pub result : Option (List ℕ)

-- why a program didn't run to its end, with the runner's message: no file, not started, no communication, a time that
-- couldn't be formatted
pub data Failure : Type 0 where
  no_file : List ℕ → Failure
  not_spawned : List ℕ → Failure
  not_reported : List ℕ → Failure
  no_time : List ℕ → Failure

-- the answer of a runner: an output, a failure, or out of memory
pub data Answer : Type 0 where
  ran : OutputView → Answer
  failed : Failure → Answer
  no_memory : Answer

-- the view of an argument
abbrev pub word_view : Word → WordView
word_view (word.Text bytes) = plain (bstring_bytes bytes)
word_view (word.File number) = file number
word_view (word.VerifyTime time) = verify_time time.seconds time.offset

-- the name and the value of an environment variable, as bytes
abbrev pub pair_view : BString × BString → List ℕ × List ℕ
pair_view pair = (bstring_bytes pair.0, bstring_bytes pair.1)

-- the view of a call
abbrev pub call_view : Call → CallView
call_view call = record {
  program = bstring_bytes call.program;
  words = map word_view call.words.items;
  environment = map pair_view call.environment.items;
  files = map bstring_bytes call.files.items;
  input = option_map bstring_bytes call.input;
  result = call.result;
}

-- the view of an output
abbrev pub output_view : Output → OutputView
output_view it = record {
  success = it.success;
  stdout = it.stdout.items;
  stderr = it.stderr.items;
  result = option_map (λ v. v.items) it.result;
}

-- the view of what a run returned
abbrev pub answer_view : Result Output RunError → Answer
answer_view (Ok output) = ran (output_view output)
answer_view (Err (run.TemporaryFile why)) = failed (no_file (bstring_bytes why))
answer_view (Err (run.Spawn why)) = failed (not_spawned (bstring_bytes why))
answer_view (Err (run.Communicate why)) = failed (not_reported (bstring_bytes why))
answer_view (Err (run.CommitTime why)) = failed (no_time (bstring_bytes why))
answer_view (Err run.OutOfMemory) = no_memory
