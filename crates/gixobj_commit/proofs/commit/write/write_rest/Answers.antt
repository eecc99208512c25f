-- If a step fails, a prefix of its part is written after the parts before it.
use Rattle.std.proofs.Common.{List, ℕ, [], ◌∷◌, ◌++◌}
use Rattle.std.specs.List.{flat_map}
use Rattle.std.proofs.lemmas.List.{append-nil}
use Rattle.std.proofs.lemmas.Result.{err_from_is_err_and}
use Rattle.gixobj_streams.proofs.Appends.{appends_prefix_first, appends_prefix_append, appends_all_append}
use Rattle.gixobj_streams.proofs.Errors.{writing_error_longer}
use Rattle.gixobj_grammar.specs.Commit.{encode_encoding}
use Rattle.gixobj_hash.specs.Optional.{bytes_if_some}
use Rattle.gixobj_commit.specs.CommitWriting.{IsEncodingLineError}
use Rattle.gixobj_commit.proofs.commit.write.write_rest.Goals as goal

pub returns-in_err-write_encoding-clause-error : goal.returns-in_err-write_encoding-clause-error
returns-in_err-write_encoding-clause-error g c =
    let from = err_from_is_err_and c.from_residual.result c.from_residual.ensures.1 in
    let encoding = encode_encoding (bytes_if_some c.args.encoding) in
    let headers : List ℕ = flat_map g.T.Field.written c.args.headers.now in
    let message : List ℕ = 10 ∷ c.args.message.now in
    rw (from.1, from.2) (writing_error_longer (IsEncodingLineError (bytes_if_some c.args.encoding)) _ _ encoding ((encoding ++ headers) ++ message)
    (λ cause part. appends_prefix_first _ _ (encoding ++ headers) message (appends_prefix_first _ _ encoding headers part)) c.in_err-write_encoding.field-0.0
    c.in_err-write_encoding.ensures.error)

pub returns-in_err-write_each-clause-error : goal.returns-in_err-write_each-clause-error
returns-in_err-write_each-clause-error g c =
    let from = err_from_is_err_and c.from_residual-in_err-write_each.result c.from_residual-in_err-write_each.ensures.1 in
    let encoding = encode_encoding (bytes_if_some c.args.encoding) in
    let headers : List ℕ = flat_map g.T.Field.written c.args.headers.now in
    rw (from.1, from.2) (appends_prefix_first _ _ (encoding ++ headers) (10 ∷ c.args.message.now)
    (appends_prefix_append _ _ _ encoding headers c.in_ok-write_encoding.ensures.written c.in_err-write_each.ensures.appended))

pub returns-in_err-write_parts-clause-error : goal.returns-in_err-write_parts-clause-error
returns-in_err-write_parts-clause-error g c =
    let from = err_from_is_err_and c.from_residual-in_err-write_parts.result c.from_residual-in_err-write_parts.ensures.1 in
    let encoding = encode_encoding (bytes_if_some c.args.encoding) in
    let headers : List ℕ = flat_map g.T.Field.written c.args.headers.now in
    let before = appends_all_append _ _ _ encoding headers c.in_ok-write_encoding.ensures.written c.in_ok-write_each.ensures.appended in
    rw (from.1, from.2, ← append-nil c.args.message.now)
    (appends_prefix_append _ _ _ (encoding ++ headers) (10 ∷ (c.args.message.now ++ [])) before c.in_err-write_parts.ensures.appended)

pub returns-clause-written : goal.returns-clause-written
returns-clause-written g c =
    let encoding = encode_encoding (bytes_if_some c.args.encoding) in
    let headers : List ℕ = flat_map g.T.Field.written c.args.headers.now in
    let before = appends_all_append _ _ _ encoding headers c.in_ok-write_encoding.ensures.written c.in_ok-write_each.ensures.appended in
    rw (← append-nil c.args.message.now)
    (appends_all_append _ _ _ (encoding ++ headers) (10 ∷ (c.args.message.now ++ [])) before c.in_ok-write_parts.ensures.appended)

pub returns-clause-no_error : goal.returns-clause-no_error
returns-clause-no_error g c = c.in_ok-write_encoding.ensures.no_error

pub returns-in_err-write_encoding-clause-room : goal.returns-in_err-write_encoding-clause-room
returns-in_err-write_encoding-clause-room g c =
    let from = err_from_is_err_and c.from_residual.result c.from_residual.ensures.1 in
    rw (from.1, from.2) c.in_err-write_encoding.ensures.room

pub returns-in_err-write_each-clause-room : goal.returns-in_err-write_each-clause-room
returns-in_err-write_each-clause-room g c =
    let from = err_from_is_err_and c.from_residual-in_err-write_each.result c.from_residual-in_err-write_each.ensures.1 in
    rw (from.1, from.2) (λ value parts rejected. absurd (c.in_ok-write_encoding.ensures.no_error value parts rejected))

pub returns-in_err-write_parts-clause-room : goal.returns-in_err-write_parts-clause-room
returns-in_err-write_parts-clause-room g c =
    let from = err_from_is_err_and c.from_residual-in_err-write_parts.result c.from_residual-in_err-write_parts.ensures.1 in
    rw (from.1, from.2) (λ value parts rejected. absurd (c.in_ok-write_encoding.ensures.no_error value parts rejected))
