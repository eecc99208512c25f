-- An error of `show` over an input that was read to its end is an error of the run.
use Rattle.std.proofs.Common.{ℕ, List, Option}
use Rattle.std.specs.Prelude.{codes}
use Rattle.gixobj_streams.specs.Streams.{SinkView}
use Rattle.gixobj_cli_show.specs.Engine.{ReadsAll, IsAnswerError}
use Rattle.gixobj_cli_show.specs.Show.{IsShowError}
use Rattle.gixobj_cli_show.specs.Arguments.{IsCommand}
use Rattle.gixobj_cli_show.specs.declared.failure.Failure.{Failure}
use Rattle.gixobj_cli_show.specs.declared.failure.Failure.TheVariants.{Usage, InputFailed, OutputFailed, OutOfMemory, BadHeader, ShortData, NotATree, BadTree}

pub answer_error_of_show : (arguments : List (List ℕ)) (rest rest' : Option (List ℕ)) (may_fail : Type 0)
    (out out' : SinkView) (error : Failure) (input : List ℕ)
    → IsCommand arguments (codes "show") → ReadsAll rest rest' input → IsShowError input error → IsAnswerError arguments rest rest' may_fail out out' error
answer_error_of_show arguments rest rest' may_fail out out' Usage input requests read rejected = absurd rejected
answer_error_of_show arguments rest rest' may_fail out out' InputFailed input requests read rejected = absurd rejected
answer_error_of_show arguments rest rest' may_fail out out' OutputFailed input requests read rejected = absurd rejected
answer_error_of_show arguments rest rest' may_fail out out' OutOfMemory input requests read rejected = requests
answer_error_of_show arguments rest rest' may_fail out out' BadHeader input requests read rejected = (requests, input, read, rejected)
answer_error_of_show arguments rest rest' may_fail out out' ShortData input requests read rejected = (requests, input, read, rejected)
answer_error_of_show arguments rest rest' may_fail out out' NotATree input requests read rejected = absurd rejected
answer_error_of_show arguments rest rest' may_fail out out' BadTree input requests read rejected = absurd rejected
