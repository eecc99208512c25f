-- The parts of an owned commit, written one after the other, are its encoding, and an error is that of the first part
-- that fails. They are the clauses of `write_into`.
use Rattle.std.proofs.Common.{arith, codes}
use Rattle.std.proofs.lemmas.Result.{IfErr-weaker, IfOk-weaker, err_from_is_err_and}
use Rattle.gixobj_streams.proofs.Appends.{appends_all_append}
use Rattle.gixobj_streams.proofs.Errors.{lacks_room_after, lacks_room_of_result, writing_error_append}
use Rattle.gixobj_commit.proofs.CommitWrites.{author_or_later, committer_or_later, encoding_or_later, owned_commit_error_after_ids, owned_commit_in_parts}
use Rattle.gixobj_commit.proofs.CommitWrites.{owned_commit_error_of_author, owned_commit_error_of_committer, owned_commit_error_of_encoding}
use Rattle.gixobj_commit.proofs.CommitWrites.{owned_commit_rejects_nothing}
use Rattle.gixobj_commit.proofs.PartSteps.{appends_all_four, appends_first_of_four, appends_fourth_of_four, appends_second_of_four, appends_third_of_four}
use Rattle.gixobj_commit.proofs.PartSteps.{appends_all_three}
use Rattle.gixobj_hash.specs.Optional.{bytes_if_some}
use Rattle.gixobj_commit.specs.CommitWriting.{IsOwnedCommitError, IsEncodingLineError}
use Rattle.gixobj_actor.specs.ActorWriting.{IsActorFieldError}
use Rattle.gixobj_commit.proofs.commit.write.owned.CommitWriteTo.write_into.Goals as goal

pub returns-in_err-write_ids-clause-error : goal.returns-in_err-write_ids-clause-error
returns-in_err-write_ids-clause-error g c =
    let entire = owned_commit_in_parts c.args.self.now c.as_slice-parents.result.now c.borrowed-encoding.result c.as_slice-headers.result.now
    c.as_bytes-message.result.now
    c.as_slice-parents.ensures c.borrowed-encoding.ensures c.as_slice-headers.ensures.value c.as_bytes-message.ensures in
    let from = err_from_is_err_and c.from_residual.result c.from_residual.ensures.1 in
    rw (from.1, from.2) (appends_first_of_four _ _ _ _ _ _ _ entire c.in_err-write_ids.ensures.appended)

pub returns-in_err-trusted_header_signature-clause-error : goal.returns-in_err-trusted_header_signature-clause-error
returns-in_err-trusted_header_signature-clause-error g c =
    let entire = owned_commit_in_parts c.args.self.now c.as_slice-parents.result.now c.borrowed-encoding.result c.as_slice-headers.result.now
    c.as_bytes-message.result.now
    c.as_slice-parents.ensures c.borrowed-encoding.ensures c.as_slice-headers.ensures.value c.as_bytes-message.ensures in
    let from = err_from_is_err_and c.from_residual-in_err-trusted_header_signature.result c.from_residual-in_err-trusted_header_signature.ensures.1 in
    rw (from.1, from.2) (writing_error_append (IsActorFieldError (codes "author") c.args.self.now.author) (IsOwnedCommitError c.args.self.now)
    (g.S.Sink.view c.args.sink.now) (g.S.Sink.view c.write_ids.new.sink) (g.S.Sink.view c.trusted_header_signature.new.sink) _ _ _
    c.in_ok-write_ids.ensures.appended
    (λ value parts. owned_commit_error_of_author c.args.self.now c.as_slice-parents.result.now value parts c.as_slice-parents.ensures)
    (λ cause. appends_second_of_four _ _ _ _ _ _ _ _ entire c.in_ok-write_ids.ensures.appended)
    c.in_err-trusted_header_signature.field-0.0 c.in_err-trusted_header_signature.ensures.error)

pub returns-in_err-trusted_header_signature-2-clause-error : goal.returns-in_err-trusted_header_signature-2-clause-error
returns-in_err-trusted_header_signature-2-clause-error g c =
    let entire = owned_commit_in_parts c.args.self.now c.as_slice-parents.result.now c.borrowed-encoding.result c.as_slice-headers.result.now
    c.as_bytes-message.result.now
    c.as_slice-parents.ensures c.borrowed-encoding.ensures c.as_slice-headers.ensures.value c.as_bytes-message.ensures in
    let from = err_from_is_err_and c.from_residual-in_err-trusted_header_signature-2.result c.from_residual-in_err-trusted_header_signature-2.ensures.1 in
    rw (from.1, from.2) (writing_error_append (IsActorFieldError (codes "committer") c.args.self.now.committer) (IsOwnedCommitError c.args.self.now)
    (g.S.Sink.view c.args.sink.now) (g.S.Sink.view c.trusted_header_signature.new.sink) (g.S.Sink.view c.trusted_header_signature-2.new.sink) _ _ _
    (appends_all_append _ _ _ _ _ c.in_ok-write_ids.ensures.appended c.in_ok-trusted_header_signature.ensures.written)
    (λ value parts. owned_commit_error_of_committer c.args.self.now c.as_slice-parents.result.now value parts c.as_slice-parents.ensures
    c.in_ok-trusted_header_signature.ensures.encodable)
    (λ cause. appends_third_of_four _ _ _ _ _ _ _ _ _ entire c.in_ok-write_ids.ensures.appended c.in_ok-trusted_header_signature.ensures.written)
    c.in_err-trusted_header_signature-2.field-0.0 c.in_err-trusted_header_signature-2.ensures.error)

pub returns-clause-written : goal.returns-clause-written
returns-clause-written g c =
    let entire = owned_commit_in_parts c.args.self.now c.as_slice-parents.result.now c.borrowed-encoding.result c.as_slice-headers.result.now
    c.as_bytes-message.result.now
    c.as_slice-parents.ensures c.borrowed-encoding.ensures c.as_slice-headers.ensures.value c.as_bytes-message.ensures in
    IfOk-weaker c.write_rest.result _ _
    (λ _ rest. appends_all_four _ _ _ _ _ _ _ _ _ _ entire c.in_ok-write_ids.ensures.appended c.in_ok-trusted_header_signature.ensures.written
    c.in_ok-trusted_header_signature-2.ensures.written rest)
    c.write_rest.ensures.written

pub returns-clause-no_error : goal.returns-clause-no_error
returns-clause-no_error g c =
    IfOk-weaker c.write_rest.result _ _
    (λ _ none. owned_commit_rejects_nothing c.args.self.now c.borrowed-encoding.result c.borrowed-encoding.ensures
    c.in_ok-trusted_header_signature.ensures.encodable
    c.in_ok-trusted_header_signature-2.ensures.encodable none)
    c.write_rest.ensures.no_error

pub returns-clause-error : goal.returns-clause-error
returns-clause-error g c =
    let entire = owned_commit_in_parts c.args.self.now c.as_slice-parents.result.now c.borrowed-encoding.result c.as_slice-headers.result.now
    c.as_bytes-message.result.now
    c.as_slice-parents.ensures c.borrowed-encoding.ensures c.as_slice-headers.ensures.value c.as_bytes-message.ensures in
    IfErr-weaker c.write_rest.result _ _
    (writing_error_append (IsEncodingLineError (bytes_if_some c.borrowed-encoding.result)) (IsOwnedCommitError c.args.self.now) (g.S.Sink.view c.args.sink.now)
    (g.S.Sink.view c.trusted_header_signature-2.new.sink) (g.S.Sink.view c.write_rest.new.sink) _ _ _
    (appends_all_three _ _ _ _ _ _ _ c.in_ok-write_ids.ensures.appended c.in_ok-trusted_header_signature.ensures.written
    c.in_ok-trusted_header_signature-2.ensures.written)
    (λ value parts. owned_commit_error_of_encoding c.args.self.now c.as_slice-parents.result.now c.borrowed-encoding.result value parts
    c.as_slice-parents.ensures
    c.borrowed-encoding.ensures c.in_ok-trusted_header_signature.ensures.encodable c.in_ok-trusted_header_signature-2.ensures.encodable)
    (λ cause. appends_fourth_of_four _ _ _ _ _ _ _ _ _ _ entire c.in_ok-write_ids.ensures.appended c.in_ok-trusted_header_signature.ensures.written
    c.in_ok-trusted_header_signature-2.ensures.written))
    c.write_rest.ensures.error

pub returns-in_err-write_ids-clause-room : goal.returns-in_err-write_ids-clause-room
returns-in_err-write_ids-clause-room g c =
    let from = err_from_is_err_and c.from_residual.result c.from_residual.ensures.1 in
    rw (from.1, from.2) (λ value parts rejected. omega (
      arith,
      c.in_err-write_ids.ensures.appended.short,
      owned_commit_error_after_ids c.args.self.now c.as_slice-parents.result.now c.borrowed-encoding.result c.as_slice-parents.ensures
          c.borrowed-encoding.ensures
          value parts rejected,
    ))

pub returns-in_err-trusted_header_signature-clause-room : goal.returns-in_err-trusted_header_signature-clause-room
returns-in_err-trusted_header_signature-clause-room g c =
    let from = err_from_is_err_and c.from_residual-in_err-trusted_header_signature.result c.from_residual-in_err-trusted_header_signature.ensures.1 in
    rw (from.1, from.2) (lacks_room_after (IsActorFieldError (codes "author") c.args.self.now.author) (IsOwnedCommitError c.args.self.now) _ _ _ _ _
    c.in_ok-write_ids.ensures.appended
    (author_or_later c.args.self.now c.as_slice-parents.result.now c.borrowed-encoding.result c.as_slice-parents.ensures c.borrowed-encoding.ensures)
    c.in_err-trusted_header_signature.field-0.0 c.in_err-trusted_header_signature.ensures.error c.in_err-trusted_header_signature.ensures.room)

pub returns-in_err-trusted_header_signature-2-clause-room : goal.returns-in_err-trusted_header_signature-2-clause-room
returns-in_err-trusted_header_signature-2-clause-room g c =
    let from = err_from_is_err_and c.from_residual-in_err-trusted_header_signature-2.result c.from_residual-in_err-trusted_header_signature-2.ensures.1 in
    rw (from.1, from.2) (lacks_room_after (IsActorFieldError (codes "committer") c.args.self.now.committer) (IsOwnedCommitError c.args.self.now) _ _ _ _ _
    (appends_all_append _ _ _ _ _ c.in_ok-write_ids.ensures.appended c.in_ok-trusted_header_signature.ensures.written)
    (committer_or_later c.args.self.now c.as_slice-parents.result.now c.borrowed-encoding.result c.as_slice-parents.ensures c.borrowed-encoding.ensures
    c.in_ok-trusted_header_signature.ensures.encodable)
    c.in_err-trusted_header_signature-2.field-0.0 c.in_err-trusted_header_signature-2.ensures.error c.in_err-trusted_header_signature-2.ensures.room)

pub returns-clause-room : goal.returns-clause-room
returns-clause-room g c =
    lacks_room_of_result c.write_rest.result (IsEncodingLineError (bytes_if_some c.borrowed-encoding.result)) (IsOwnedCommitError c.args.self.now) _ _ _ _ _
    (appends_all_three _ _ _ _ _ _ _ c.in_ok-write_ids.ensures.appended c.in_ok-trusted_header_signature.ensures.written
    c.in_ok-trusted_header_signature-2.ensures.written)
    (encoding_or_later c.args.self.now c.as_slice-parents.result.now c.borrowed-encoding.result _ c.as_slice-parents.ensures c.borrowed-encoding.ensures
    c.in_ok-trusted_header_signature.ensures.encodable c.in_ok-trusted_header_signature-2.ensures.encodable)
    c.write_rest.ensures.error c.write_rest.ensures.room
