-- The error of an encoding is that of a writer to an empty list.
use Rattle.std.proofs.Common.{◌≡◌, ◌-◌, Err, [], List, Some, arith, rules, subst, ℕ}
use Rattle.std.specs.Prelude.{vec_capacity, vec_len}
use Rattle.std.specs.declared.alloc.Global.{Global}
use Rattle.std.specs.declared.io.ErrorKind.TheVariants.{OutOfMemory}
use Rattle.std.specs.declared.vec.Vec.{Vec}
use Rattle.gix_object.specs.Streams.{list_view}
use Rattle.gix_object.specs.Writing.{IsEncodingError, IsWritingError}
use Rattle.gix_object.specs.fields.encode.Error.{Error}
use Rattle.gix_object.specs.CommitViews.{owned_commit_lines}
use Rattle.gix_object.specs.CommitWriting.{IsOwnedCommitError, encode_commit}
use Rattle.gix_object.specs.commit.commit.Commit.{Commit}
use Rattle.gixobj_examples_objects.proofs.releases.written.Goals as goal

encoding_error_of_writing_error : (commit : Commit) (items : List ℕ) (room : ℕ) (after : Vec ℕ Global) (error : Error) → items ≡ [] → room ≡ 0
    → IsWritingError (IsOwnedCommitError commit) (record { held = Some items; room = room; failure = Some OutOfMemory }) (list_view after)
    (encode_commit (owned_commit_lines commit)) error
    → IsEncodingError (IsOwnedCommitError commit) (encode_commit (owned_commit_lines commit)) error
encoding_error_of_writing_error commit items room after error none full is =
    let At : List ℕ → ℕ → Type 0 = λ xs n. IsWritingError (IsOwnedCommitError commit) (record { held = Some xs; room = n; failure = Some OutOfMemory })
    (list_view after) (encode_commit (owned_commit_lines commit)) error in
    (after, subst (At []) full (subst (λ (xs : List ℕ). At xs room) none is))

pub returns-in_err-write_to_vec-clause-error : goal.returns-in_err-write_to_vec-clause-error
returns-in_err-write_to_vec-clause-error c =
    let content = c.new-content.result in
    let full : vec_capacity content - vec_len content ≡ 0 = omega arith in
    let is : c.from_residual.result ≡ Err c.in_err-write_to_vec.field-0.0 = search rules in
    rw is (encoding_error_of_writing_error c.args.commit.now content.items (vec_capacity content - vec_len content) c.write_to_vec.new.out
    c.in_err-write_to_vec.field-0.0 c.new-content.ensures.items full c.in_err-write_to_vec.ensures.error)
