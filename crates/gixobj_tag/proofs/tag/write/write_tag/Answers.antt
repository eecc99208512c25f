-- The body follows the lines.
use Rattle.std.proofs.Common.{List, ℕ, ◌++◌}
use Rattle.std.proofs.lemmas.Result.{err_from_is_err_and}
use Rattle.std.specs.Prelude.{codes}
use Rattle.bstr.specs.BStr.{bstr_bytes}
use Rattle.gixobj_streams.proofs.Appends.{appends_prefix_first, appends_prefix_append, appends_all_append}
use Rattle.gixobj_streams.proofs.Errors.{writing_error_longer}
use Rattle.gixobj_hash.specs.FieldFormat.{encode_field}
use Rattle.gixobj_tag.specs.TagFormat.{encode_target_lines}
use Rattle.gixobj_tag.specs.TagWriting.{IsTagPartsError, encode_body}
use Rattle.gixobj_hash.specs.Optional.{bytes_if_some}
use Rattle.gixobj_tag.proofs.tag.write.write_tag.Goals as goal

pub returns-in_err-write_lines-clause-error : goal.returns-in_err-write_lines-clause-error
returns-in_err-write_lines-clause-error g c =
    let from = err_from_is_err_and c.from_residual.result c.from_residual.ensures.1 in
    let prefix : List ℕ = encode_target_lines (g.T.Target.target_line c.args.target.now) c.args.target_kind in
    let lines : List ℕ = (prefix ++ encode_field (codes "tag") (bstr_bytes c.args.name)) ++ g.A.Tagger.tagger_line c.args.tagger.now in
    let body = encode_body (bstr_bytes c.args.message) (bytes_if_some c.args.signature) in
    rw (from.1, from.2) (writing_error_longer (IsTagPartsError prefix (bstr_bytes c.args.name) (g.A.Tagger.rejects c.args.tagger.now)) _ _ lines (lines ++ body)
    (λ cause part. appends_prefix_first _ _ lines body part) c.in_err-write_lines.field-0.0 c.in_err-write_lines.ensures.error)

pub returns-in_err-write_body-clause-error : goal.returns-in_err-write_body-clause-error
returns-in_err-write_body-clause-error g c =
    let from = err_from_is_err_and c.from_residual-in_err-write_body.result c.from_residual-in_err-write_body.ensures.1 in
    let prefix : List ℕ = encode_target_lines (g.T.Target.target_line c.args.target.now) c.args.target_kind in
    let lines : List ℕ = (prefix ++ encode_field (codes "tag") (bstr_bytes c.args.name)) ++ g.A.Tagger.tagger_line c.args.tagger.now in
    let body = encode_body (bstr_bytes c.args.message) (bytes_if_some c.args.signature) in
    rw (from.1, from.2) (appends_prefix_append _ _ _ lines body c.in_ok-write_lines.ensures.written c.in_err-write_body.ensures.appended)

pub returns-clause-written : goal.returns-clause-written
returns-clause-written g c =
    let prefix : List ℕ = encode_target_lines (g.T.Target.target_line c.args.target.now) c.args.target_kind in
    let lines : List ℕ = (prefix ++ encode_field (codes "tag") (bstr_bytes c.args.name)) ++ g.A.Tagger.tagger_line c.args.tagger.now in
    let body = encode_body (bstr_bytes c.args.message) (bytes_if_some c.args.signature) in
    appends_all_append _ _ _ lines body c.in_ok-write_lines.ensures.written c.in_ok-write_body.ensures.appended

pub returns-clause-no_error : goal.returns-clause-no_error
returns-clause-no_error g c = c.in_ok-write_lines.ensures.no_error

pub returns-in_err-write_lines-clause-room : goal.returns-in_err-write_lines-clause-room
returns-in_err-write_lines-clause-room g c =
    let from = err_from_is_err_and c.from_residual.result c.from_residual.ensures.1 in
    rw (from.1, from.2) c.in_err-write_lines.ensures.room

pub returns-in_err-write_body-clause-room : goal.returns-in_err-write_body-clause-room
returns-in_err-write_body-clause-room g c =
    let from = err_from_is_err_and c.from_residual-in_err-write_body.result c.from_residual-in_err-write_body.ensures.1 in
    rw (from.1, from.2) (λ value parts rejected. absurd (c.in_ok-write_lines.ensures.no_error value parts rejected))
