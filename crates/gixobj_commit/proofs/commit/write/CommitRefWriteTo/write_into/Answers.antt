-- The parts of a borrowed commit, written one after the other, are its encoding, and an error is that of the first part
-- that fails. They are the clauses of `write_into`.
use Rattle.gixobj_hash.proofs.HexIds.{decoded_id_decodes}
use Rattle.gixobj_hash.specs.Hash.Hex.{decoded_id}
use Rattle.std.proofs.Common.{◌≡◌, ◌++◌, List, ℕ, [], ap, arith, codes, inl, length, length-append, refl, sym, ◌∙◌}
use Rattle.std.proofs.lemmas.List.{append-nil}
use Rattle.std.proofs.lemmas.Result.{IfErr-weaker, IfOk-weaker, err_from_is_err_and}
use Rattle.bstr.specs.BStr.{bstr_bytes}
use Rattle.gixobj_streams.proofs.Errors.{lacks_room_of_result, writing_error_append}
use Rattle.gixobj_hash.specs.Hash.{IsIdHex}
use Rattle.gixobj_hash.specs.FieldFormat.{encode_field}
use Rattle.gixobj_streams.specs.Writing.{RejectedValue}
use Rattle.gixobj_commit.proofs.CommitWrites.{borrowed_commit_error_after, borrowed_commit_in_parts, ids_written, borrowed_commit_error_of_part, all_map}
use Rattle.gixobj_commit.proofs.PartSteps.{appends_all_four, appends_first_of_four, appends_fourth_of_four, appends_second_of_four, appends_third_of_four}
use Rattle.gixobj_commit.proofs.PartSteps.{appends_all_three}
use Rattle.gixobj_commit.specs.CommitViews.{commit_lines}
use Rattle.gixobj_hash.specs.Optional.{bytes_if_some}
use Rattle.gixobj_commit.specs.CommitWriting.{IsCommitLinesError, hex_parent, in_lower_case, IsEncodingLineError}
use Rattle.gixobj_commit.proofs.commit.write.CommitRefWriteTo.write_into.Goals as goal

pub write_hex_ids-requires : goal.write_hex_ids-requires
write_hex_ids-requires g c = record {
  tree = c.requires.tree;
  parents = rw c.as_slice-parents.ensures (all_map IsIdHex bstr_bytes c.args.self.now.parents.items c.requires.parents);
}

pub returns-in_err-write_hex_ids-clause-error : goal.returns-in_err-write_hex_ids-clause-error
returns-in_err-write_hex_ids-clause-error g c =
    let entire = borrowed_commit_in_parts c.args.self.now (decoded_id (bstr_bytes c.args.self.now.tree)) c.as_slice-parents.result.now
    c.as_bytes-author.result.now
    c.as_bytes-committer.result.now c.as_slice-headers.result.now c.as_bytes-message.result.now
    (decoded_id_decodes (bstr_bytes c.args.self.now.tree) c.requires.tree) c.as_slice-parents.ensures c.as_bytes-author.ensures c.as_bytes-committer.ensures
    c.as_slice-headers.ensures.value c.as_bytes-message.ensures in
    let from = err_from_is_err_and c.from_residual.result c.from_residual.ensures.1 in
    rw (from.1, from.2) (appends_first_of_four _ _ _ _ _ _ _ entire c.in_err-write_hex_ids.ensures.appended)

pub returns-in_err-trusted_header_field-clause-error : goal.returns-in_err-trusted_header_field-clause-error
returns-in_err-trusted_header_field-clause-error g c =
    let entire = borrowed_commit_in_parts c.args.self.now (decoded_id (bstr_bytes c.args.self.now.tree)) c.as_slice-parents.result.now
    c.as_bytes-author.result.now
    c.as_bytes-committer.result.now c.as_slice-headers.result.now c.as_bytes-message.result.now
    (decoded_id_decodes (bstr_bytes c.args.self.now.tree) c.requires.tree) c.as_slice-parents.ensures c.as_bytes-author.ensures c.as_bytes-committer.ensures
    c.as_slice-headers.ensures.value c.as_bytes-message.ensures in
    let from = err_from_is_err_and c.from_residual-in_err-trusted_header_field.result c.from_residual-in_err-trusted_header_field.ensures.1 in
    rw (from.1, from.2) (appends_second_of_four _ _ _ _ _ _ _ _ entire c.in_ok-write_hex_ids.ensures.appended c.in_err-trusted_header_field.ensures.appended)

pub returns-in_err-trusted_header_field-2-clause-error : goal.returns-in_err-trusted_header_field-2-clause-error
returns-in_err-trusted_header_field-2-clause-error g c =
    let entire = borrowed_commit_in_parts c.args.self.now (decoded_id (bstr_bytes c.args.self.now.tree)) c.as_slice-parents.result.now
    c.as_bytes-author.result.now
    c.as_bytes-committer.result.now c.as_slice-headers.result.now c.as_bytes-message.result.now
    (decoded_id_decodes (bstr_bytes c.args.self.now.tree) c.requires.tree) c.as_slice-parents.ensures c.as_bytes-author.ensures c.as_bytes-committer.ensures
    c.as_slice-headers.ensures.value c.as_bytes-message.ensures in
    let from = err_from_is_err_and c.from_residual-in_err-trusted_header_field-2.result c.from_residual-in_err-trusted_header_field-2.ensures.1 in
    rw (from.1, from.2) (appends_third_of_four _ _ _ _ _ _ _ _ _ entire c.in_ok-write_hex_ids.ensures.appended c.in_ok-trusted_header_field.ensures.appended
    c.in_err-trusted_header_field-2.ensures.appended)

pub returns-clause-written : goal.returns-clause-written
returns-clause-written g c =
    let entire = borrowed_commit_in_parts c.args.self.now (decoded_id (bstr_bytes c.args.self.now.tree)) c.as_slice-parents.result.now
    c.as_bytes-author.result.now
    c.as_bytes-committer.result.now c.as_slice-headers.result.now c.as_bytes-message.result.now
    (decoded_id_decodes (bstr_bytes c.args.self.now.tree) c.requires.tree) c.as_slice-parents.ensures c.as_bytes-author.ensures c.as_bytes-committer.ensures
    c.as_slice-headers.ensures.value c.as_bytes-message.ensures in
    IfOk-weaker c.write_rest.result _ _
    (λ _ rest. appends_all_four _ _ _ _ _ _ _ _ _ _ entire c.in_ok-write_hex_ids.ensures.appended c.in_ok-trusted_header_field.ensures.appended
    c.in_ok-trusted_header_field-2.ensures.appended rest)
    c.write_rest.ensures.written

pub returns-clause-no_error : goal.returns-clause-no_error
returns-clause-no_error g c =
    IfOk-weaker c.write_rest.result _ _ (λ _ none value parts rejected. none value [] (rejected.0, refl)) c.write_rest.ensures.no_error

pub returns-clause-error : goal.returns-clause-error
returns-clause-error g c =
    let entire = borrowed_commit_in_parts c.args.self.now (decoded_id (bstr_bytes c.args.self.now.tree)) c.as_slice-parents.result.now
    c.as_bytes-author.result.now
    c.as_bytes-committer.result.now c.as_slice-headers.result.now c.as_bytes-message.result.now
    (decoded_id_decodes (bstr_bytes c.args.self.now.tree) c.requires.tree) c.as_slice-parents.ensures c.as_bytes-author.ensures c.as_bytes-committer.ensures
    c.as_slice-headers.ensures.value c.as_bytes-message.ensures in
    IfErr-weaker c.write_rest.result _ _
    (writing_error_append (IsEncodingLineError (bytes_if_some c.args.self.now.encoding)) (IsCommitLinesError (in_lower_case (commit_lines c.args.self.now)))
    (g.S.Sink.view c.args.sink.now) (g.S.Sink.view c.trusted_header_field-2.new.sink) (g.S.Sink.view c.write_rest.new.sink) _ _ _
    (appends_all_three _ _ _ _ _ _ _ c.in_ok-write_hex_ids.ensures.appended c.in_ok-trusted_header_field.ensures.appended
    c.in_ok-trusted_header_field-2.ensures.appended)
    (λ value parts. borrowed_commit_error_of_part c.args.self.now (decoded_id (bstr_bytes c.args.self.now.tree)) c.as_slice-parents.result.now
    c.as_bytes-author.result.now
    c.as_bytes-committer.result.now value parts (decoded_id_decodes (bstr_bytes c.args.self.now.tree) c.requires.tree) c.as_slice-parents.ensures
    c.as_bytes-author.ensures c.as_bytes-committer.ensures)
    (λ cause. appends_fourth_of_four _ _ _ _ _ _ _ _ _ _ entire c.in_ok-write_hex_ids.ensures.appended c.in_ok-trusted_header_field.ensures.appended
    c.in_ok-trusted_header_field-2.ensures.appended))
    c.write_rest.ensures.error

pub returns-in_err-write_hex_ids-clause-room : goal.returns-in_err-write_hex_ids-clause-room
returns-in_err-write_hex_ids-clause-room g c =
    let ids = ids_written (decoded_id (bstr_bytes c.args.self.now.tree)) hex_parent c.as_slice-parents.result.now in
    let author = encode_field (codes "author") c.as_bytes-author.result.now in
    let committer = encode_field (codes "committer") c.as_bytes-committer.result.now in
    let after : (value : RejectedValue) (parts : List ℕ) → IsCommitLinesError (in_lower_case (commit_lines c.args.self.now)) value parts
    → parts ≡ (ids ++ author) ++ committer = λ value parts. borrowed_commit_error_after c.args.self.now
    (decoded_id (bstr_bytes c.args.self.now.tree)) c.as_slice-parents.result.now
    c.as_bytes-author.result.now c.as_bytes-committer.result.now value parts
    (decoded_id_decodes (bstr_bytes c.args.self.now.tree) c.requires.tree) c.as_slice-parents.ensures c.as_bytes-author.ensures
    c.as_bytes-committer.ensures in
    let from = err_from_is_err_and c.from_residual.result c.from_residual.ensures.1 in
    rw (from.1, from.2) (λ value parts rejected. omega (
      arith,
      c.in_err-write_hex_ids.ensures.appended.short,
      ap length (after value parts rejected),
      length-append (ids ++ author) committer,
      length-append ids author,
    ))

pub returns-in_err-trusted_header_field-clause-room : goal.returns-in_err-trusted_header_field-clause-room
returns-in_err-trusted_header_field-clause-room g c =
    let ids = ids_written (decoded_id (bstr_bytes c.args.self.now.tree)) hex_parent c.as_slice-parents.result.now in
    let author = encode_field (codes "author") c.as_bytes-author.result.now in
    let committer = encode_field (codes "committer") c.as_bytes-committer.result.now in
    let after : (value : RejectedValue) (parts : List ℕ) → IsCommitLinesError (in_lower_case (commit_lines c.args.self.now)) value parts
    → parts ≡ (ids ++ author) ++ committer = λ value parts. borrowed_commit_error_after c.args.self.now
    (decoded_id (bstr_bytes c.args.self.now.tree)) c.as_slice-parents.result.now
    c.as_bytes-author.result.now c.as_bytes-committer.result.now value parts
    (decoded_id_decodes (bstr_bytes c.args.self.now.tree) c.requires.tree) c.as_slice-parents.ensures c.as_bytes-author.ensures
    c.as_bytes-committer.ensures in
    let from = err_from_is_err_and c.from_residual-in_err-trusted_header_field.result c.from_residual-in_err-trusted_header_field.ensures.1 in
    rw (from.1, from.2) (λ value parts rejected. omega (
      arith,
      c.in_ok-write_hex_ids.ensures.appended.room,
      c.in_err-trusted_header_field.ensures.appended.short,
      ap length (after value parts rejected),
      length-append (ids ++ author) committer,
      length-append ids author,
    ))

pub returns-in_err-trusted_header_field-2-clause-room : goal.returns-in_err-trusted_header_field-2-clause-room
returns-in_err-trusted_header_field-2-clause-room g c =
    let ids = ids_written (decoded_id (bstr_bytes c.args.self.now.tree)) hex_parent c.as_slice-parents.result.now in
    let author = encode_field (codes "author") c.as_bytes-author.result.now in
    let committer = encode_field (codes "committer") c.as_bytes-committer.result.now in
    let after : (value : RejectedValue) (parts : List ℕ) → IsCommitLinesError (in_lower_case (commit_lines c.args.self.now)) value parts
    → parts ≡ (ids ++ author) ++ committer = λ value parts. borrowed_commit_error_after c.args.self.now
    (decoded_id (bstr_bytes c.args.self.now.tree)) c.as_slice-parents.result.now
    c.as_bytes-author.result.now c.as_bytes-committer.result.now value parts
    (decoded_id_decodes (bstr_bytes c.args.self.now.tree) c.requires.tree) c.as_slice-parents.ensures c.as_bytes-author.ensures
    c.as_bytes-committer.ensures in
    let from = err_from_is_err_and c.from_residual-in_err-trusted_header_field-2.result c.from_residual-in_err-trusted_header_field-2.ensures.1 in
    rw (from.1, from.2) (λ value parts rejected. omega (
      arith,
      c.in_ok-write_hex_ids.ensures.appended.room,
      c.in_ok-trusted_header_field.ensures.appended.room,
      c.in_err-trusted_header_field-2.ensures.appended.short,
      ap length (after value parts rejected),
      length-append (ids ++ author) committer,
      length-append ids author,
    ))

pub returns-clause-room : goal.returns-clause-room
returns-clause-room g c =
    let ids = ids_written (decoded_id (bstr_bytes c.args.self.now.tree)) hex_parent c.as_slice-parents.result.now in
    let author = encode_field (codes "author") c.as_bytes-author.result.now in
    let committer = encode_field (codes "committer") c.as_bytes-committer.result.now in
    let after : (value : RejectedValue) (parts : List ℕ) → IsCommitLinesError (in_lower_case (commit_lines c.args.self.now)) value parts
    → parts ≡ (ids ++ author) ++ committer = λ value parts. borrowed_commit_error_after c.args.self.now
    (decoded_id (bstr_bytes c.args.self.now.tree)) c.as_slice-parents.result.now
    c.as_bytes-author.result.now c.as_bytes-committer.result.now value parts
    (decoded_id_decodes (bstr_bytes c.args.self.now.tree) c.requires.tree) c.as_slice-parents.ensures c.as_bytes-author.ensures
    c.as_bytes-committer.ensures in
    lacks_room_of_result c.write_rest.result (IsEncodingLineError (bytes_if_some c.args.self.now.encoding))
    (IsCommitLinesError (in_lower_case (commit_lines c.args.self.now))) _ _ _ ((ids ++ author) ++ committer) _
    (appends_all_three _ _ _ _ _ _ _ c.in_ok-write_hex_ids.ensures.appended c.in_ok-trusted_header_field.ensures.appended
    c.in_ok-trusted_header_field-2.ensures.appended)
    (λ value parts rejected. inl ([], (rejected.0, refl), after value parts rejected ∙ sym (append-nil ((ids ++ author) ++ committer))))
    c.write_rest.ensures.error c.write_rest.ensures.room
