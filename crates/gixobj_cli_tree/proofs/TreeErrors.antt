-- An error of the entire input is an error of the list of its entries.
use Rattle.std.proofs.Common.{◌≡◌, ℕ, List, Option}
use Rattle.std.specs.Prelude.{codes}
use Rattle.gixobj_hash.specs.Decode.{IsLooseContentError}
use Rattle.gixobj_hash.specs.declared.decode.LooseContentError.{LooseContentError}
use Rattle.gixobj_hash.specs.declared.hash.kind.Kind as hash
use Rattle.gixobj_streams.specs.Streams.{SinkView}
use Rattle.gixobj_cli_tree.specs.Listing.{IsUnlisted, IsListError, IsListedTreeError, IsListingError}
use Rattle.gixobj_cli_show.proofs.Contents.{show_error_of_content}
use Rattle.gixobj_cli_show.specs.Engine.{ReadsAll, HasWrittenNothing}
use Rattle.gixobj_cli_show.specs.Failure.{content_error}
use Rattle.gixobj_cli_show.specs.Show.{IsShowError}
use Rattle.gixobj_cli_show.specs.Arguments.{IsCommandOfHash}
use Rattle.gixobj_cli_show.specs.declared.failure.Failure.{Failure}
use Rattle.gixobj_cli_show.specs.declared.failure.Failure.TheVariants.{Usage, InputFailed, OutputFailed, OutOfMemory, BadHeader, ShortData, NotATree, BadTree}

listed_tree_error_of_show_error : (input : List ℕ) (cause : Failure) → IsShowError input cause → IsListedTreeError input cause
listed_tree_error_of_show_error input Usage rejected = absurd rejected
listed_tree_error_of_show_error input InputFailed rejected = absurd rejected
listed_tree_error_of_show_error input OutputFailed rejected = absurd rejected
listed_tree_error_of_show_error input OutOfMemory rejected = rejected
listed_tree_error_of_show_error input BadHeader rejected = rejected
listed_tree_error_of_show_error input ShortData rejected = rejected
listed_tree_error_of_show_error input NotATree rejected = absurd rejected
listed_tree_error_of_show_error input BadTree rejected = absurd rejected

pub listed_tree_error_of_content : (input : List ℕ) (error : LooseContentError) → IsLooseContentError input error
    → IsListedTreeError input (content_error error)
listed_tree_error_of_content input error rejected = listed_tree_error_of_show_error input (content_error error) (show_error_of_content input error rejected)

pub list_error_of_answer : (arguments : List (List ℕ)) (rest rest' : Option (List ℕ)) (may_fail : Type 0)
    (out out' : SinkView) (cause : Failure) (hash : hash.Kind)
    (input : List ℕ)
    → IsCommandOfHash arguments (codes "tree") hash → ReadsAll rest rest' input → IsListingError hash input cause
    → IsListError arguments rest rest' may_fail out out' cause
list_error_of_answer arguments rest rest' may_fail out out' Usage hash input requests read rejected = absurd rejected
list_error_of_answer arguments rest rest' may_fail out out' InputFailed hash input requests read rejected = absurd rejected
list_error_of_answer arguments rest rest' may_fail out out' OutputFailed hash input requests read rejected = absurd rejected
list_error_of_answer arguments rest rest' may_fail out out' OutOfMemory hash input requests read rejected = (hash, requests)
list_error_of_answer arguments rest rest' may_fail out out' BadHeader hash input requests read rejected = ((hash, requests), input, read, rejected)
list_error_of_answer arguments rest rest' may_fail out out' ShortData hash input requests read rejected = ((hash, requests), input, read, rejected)
list_error_of_answer arguments rest rest' may_fail out out' NotATree hash input requests read rejected = ((hash, requests), input, read, rejected)
list_error_of_answer arguments rest rest' may_fail out out' BadTree hash input requests read rejected = (hash, input, requests, read, rejected)

-- an output is unchanged by a fact that follows from one by which it is unchanged
has_written_nothing_weaken : {A B : Type 0} → (A → B) → (cause : Failure) → HasWrittenNothing A cause → HasWrittenNothing B cause
has_written_nothing_weaken implies Usage remaining = implies remaining
has_written_nothing_weaken implies InputFailed remaining = implies remaining
has_written_nothing_weaken implies OutputFailed remaining = remaining
has_written_nothing_weaken implies OutOfMemory remaining = implies remaining
has_written_nothing_weaken implies BadHeader remaining = implies remaining
has_written_nothing_weaken implies ShortData remaining = implies remaining
has_written_nothing_weaken implies NotATree remaining = implies remaining
has_written_nothing_weaken implies BadTree remaining = implies remaining

-- a failed list over streams is a failed list over equal streams
pub is_unlisted_of_error : {A B may_fail : Type 0} (arguments : List (List ℕ)) (rest read read' : Option (List ℕ))
    (out out' out'' errors errors' errors'' : SinkView)
    (status : ℕ)
    → read ≡ read' → out' ≡ out'' → errors' ≡ errors'' → (A → B)
    → IsUnlisted arguments rest read may_fail out out' errors errors' A status → IsUnlisted arguments rest read' may_fail out out'' errors errors'' B status
is_unlisted_of_error arguments rest read read' out out' out'' errors errors' errors'' status same-read same-out same-errors implies it =
    (it.0, it.1, rw (← same-read, ← same-out) it.2, rw (← same-errors) it.3, has_written_nothing_weaken implies it.0 it.4)
