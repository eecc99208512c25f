-- The lines are written in turn.
use Rattle.std.proofs.Common.{List, ℕ, ◌++◌, arith}
use Rattle.std.proofs.lemmas.Result.{IfErr-weaker, IfOk-weaker, err_from_is_err_and}
use Rattle.std.specs.Prelude.{codes}
use Rattle.bstr.specs.BStr.{bstr_bytes}
use Rattle.gixobj_streams.proofs.Appends.{appends_prefix_first, appends_prefix_append, appends_all_append}
use Rattle.gixobj_streams.proofs.Errors.{lacks_room_after, lacks_room_of_result, writing_error_append}
use Rattle.gixobj_hash.specs.FieldFormat.{encode_field}
use Rattle.gixobj_tag.proofs.TagWrites.{name_or_later, parts_after_target, parts_error_of_name, parts_error_of_tagger, parts_rejects_nothing, tagger_or_later}
use Rattle.gixobj_tag.specs.TagFormat.{encode_target_lines}
use Rattle.gixobj_tag.specs.TagWriting.{IsNameLineError, IsTagPartsError}
use Rattle.gixobj_tag.proofs.tag.write.write_lines.Goals as goal

pub returns-in_err-write_target-clause-error : goal.returns-in_err-write_target-clause-error
returns-in_err-write_target-clause-error g c =
    let from = err_from_is_err_and c.from_residual.result c.from_residual.ensures.1 in
    let prefix : List ℕ = encode_target_lines (g.T.Target.target_line c.args.target.now) c.args.target_kind in
    let name = encode_field (codes "tag") (bstr_bytes c.args.name) in
    rw (from.1, from.2) (appends_prefix_first _ _ (prefix ++ name) (g.A.Tagger.tagger_line c.args.tagger.now)
    (appends_prefix_first _ _ prefix name c.in_err-write_target.ensures.appended))

pub returns-in_err-write_name-clause-error : goal.returns-in_err-write_name-clause-error
returns-in_err-write_name-clause-error g c =
    let from = err_from_is_err_and c.from_residual-in_err-write_name.result c.from_residual-in_err-write_name.ensures.1 in
    let prefix : List ℕ = encode_target_lines (g.T.Target.target_line c.args.target.now) c.args.target_kind in
    let name = encode_field (codes "tag") (bstr_bytes c.args.name) in
    let tagger : List ℕ = g.A.Tagger.tagger_line c.args.tagger.now in
    rw (from.1, from.2) (writing_error_append (IsNameLineError (bstr_bytes c.args.name))
    (IsTagPartsError prefix (bstr_bytes c.args.name) (g.A.Tagger.rejects c.args.tagger.now)) _ _ _ prefix name ((prefix ++ name) ++ tagger)
    c.in_ok-write_target.ensures.appended (parts_error_of_name prefix (bstr_bytes c.args.name) (g.A.Tagger.rejects c.args.tagger.now))
    (λ cause part. appends_prefix_first _ _ (prefix ++ name) tagger (appends_prefix_append _ _ _ prefix name c.in_ok-write_target.ensures.appended part))
    c.in_err-write_name.field-0.0
    c.in_err-write_name.ensures.error)

pub returns-clause-written : goal.returns-clause-written
returns-clause-written g c =
    let prefix : List ℕ = encode_target_lines (g.T.Target.target_line c.args.target.now) c.args.target_kind in
    let name = encode_field (codes "tag") (bstr_bytes c.args.name) in
    IfOk-weaker c.write_tagger.result _ _
    (λ _ write_bytes. appends_all_append _ _ _ (prefix ++ name) (g.A.Tagger.tagger_line c.args.tagger.now)
    (appends_all_append _ _ _ prefix name c.in_ok-write_target.ensures.appended c.in_ok-write_name.ensures.written) write_bytes)
    c.write_tagger.ensures.written

pub returns-clause-no_error : goal.returns-clause-no_error
returns-clause-no_error g c =
    IfOk-weaker c.write_tagger.result _ _
    (λ _ none. parts_rejects_nothing (encode_target_lines (g.T.Target.target_line c.args.target.now) c.args.target_kind) (bstr_bytes c.args.name)
    (g.A.Tagger.rejects c.args.tagger.now) c.in_ok-write_name.ensures.valid none)
    c.write_tagger.ensures.no_error

pub returns-clause-error : goal.returns-clause-error
returns-clause-error g c =
    let prefix : List ℕ = encode_target_lines (g.T.Target.target_line c.args.target.now) c.args.target_kind in
    let name = encode_field (codes "tag") (bstr_bytes c.args.name) in
    let tagger : List ℕ = g.A.Tagger.tagger_line c.args.tagger.now in
    let before = appends_all_append _ _ _ prefix name c.in_ok-write_target.ensures.appended c.in_ok-write_name.ensures.written in
    IfErr-weaker c.write_tagger.result _ _
    (writing_error_append (g.A.Tagger.rejects c.args.tagger.now) (IsTagPartsError prefix (bstr_bytes c.args.name) (g.A.Tagger.rejects c.args.tagger.now)) _ _ _
    (prefix ++ name) tagger ((prefix ++ name) ++ tagger)
    before (λ value parts. parts_error_of_tagger prefix (bstr_bytes c.args.name)
    (g.A.Tagger.rejects c.args.tagger.now) value parts c.in_ok-write_name.ensures.valid)
    (λ cause. appends_prefix_append _ _ _ (prefix ++ name) tagger before)) c.write_tagger.ensures.error

pub returns-in_err-write_target-clause-room : goal.returns-in_err-write_target-clause-room
returns-in_err-write_target-clause-room g c =
    let from = err_from_is_err_and c.from_residual.result c.from_residual.ensures.1 in
    let prefix : List ℕ = encode_target_lines (g.T.Target.target_line c.args.target.now) c.args.target_kind in
    rw (from.1, from.2) (λ value parts rejected. omega (
      arith,
      c.in_err-write_target.ensures.appended.short,
      parts_after_target prefix (bstr_bytes c.args.name) (g.A.Tagger.rejects c.args.tagger.now) value parts rejected,
    ))

pub returns-in_err-write_name-clause-room : goal.returns-in_err-write_name-clause-room
returns-in_err-write_name-clause-room g c =
    let from = err_from_is_err_and c.from_residual-in_err-write_name.result c.from_residual-in_err-write_name.ensures.1 in
    let prefix : List ℕ = encode_target_lines (g.T.Target.target_line c.args.target.now) c.args.target_kind in
    let name = encode_field (codes "tag") (bstr_bytes c.args.name) in
    rw (from.1, from.2) (lacks_room_after (IsNameLineError (bstr_bytes c.args.name))
    (IsTagPartsError prefix (bstr_bytes c.args.name) (g.A.Tagger.rejects c.args.tagger.now)) _ _ _ prefix name c.in_ok-write_target.ensures.appended
    (name_or_later prefix (bstr_bytes c.args.name) (g.A.Tagger.rejects c.args.tagger.now)) c.in_err-write_name.field-0.0
    c.in_err-write_name.ensures.error c.in_err-write_name.ensures.room)

pub returns-clause-room : goal.returns-clause-room
returns-clause-room g c =
    let prefix : List ℕ = encode_target_lines (g.T.Target.target_line c.args.target.now) c.args.target_kind in
    let name = encode_field (codes "tag") (bstr_bytes c.args.name) in
    let tagger : List ℕ = g.A.Tagger.tagger_line c.args.tagger.now in
    let before = appends_all_append _ _ _ prefix name c.in_ok-write_target.ensures.appended c.in_ok-write_name.ensures.written in
    lacks_room_of_result c.write_tagger.result (g.A.Tagger.rejects c.args.tagger.now)
    (IsTagPartsError prefix (bstr_bytes c.args.name) (g.A.Tagger.rejects c.args.tagger.now)) _ _ _ (prefix ++ name) tagger before
    (tagger_or_later prefix (bstr_bytes c.args.name) (g.A.Tagger.rejects c.args.tagger.now) tagger c.in_ok-write_name.ensures.valid)
    c.write_tagger.ensures.error c.write_tagger.ensures.room
