-- The bytes of one write extend the prefix that was written.
use Rattle.std.proofs.Common.{◌++◌, ◌∙◌, take}
use Rattle.std.proofs.lemmas.Result.{err_from_is_err_and}
use Rattle.gixobj_streams.proofs.Appends.{appends_append, append_take_drop, keeps_nil, rest_nil, rest_len_pos, writer_prefix, writer_appends}
use Rattle.gixobj_streams.proofs.streams.ToWriteSink.write_bytes.Goals as goal

pub loop-rest-preserved : goal.loop-rest-preserved
loop-rest-preserved g c =
    let before = c.loop-rest.invariant in
    let wrote = c.in_ok-count.ensures in
    record {
      prefix = before.prefix ++ take c.in_ok-count.count c.loop-rest.rest.now;
      joined = append_take_drop before.prefix c.args.bytes.now c.loop-rest.rest.now c.in_ok-count.count before.joined wrote.bound;
      held = appends_append _ _ _ before.prefix _ before.held wrote.bytes;
      same_loan = wrote.same_loan ∙ before.same_loan;
    }

pub returns-in_err-count-clause-appended : goal.returns-in_err-count-clause-appended
returns-in_err-count-clause-appended g c =
    let before = c.loop-rest.invariant in
    let p = err_from_is_err_and c.from_residual.result c.from_residual.ensures.1 in
    rw p.1 (writer_prefix _ _ _ _ before.prefix _ before.joined (rest_len_pos _ c.loop-rest-test.ensures) before.held c.in_err-count.ensures.bytes)

pub returns-then-count-eq0-clause-appended : goal.returns-then-count-eq0-clause-appended
returns-then-count-eq0-clause-appended g c =
    let before = c.loop-rest.invariant in
    writer_prefix _ _ _ _ before.prefix _ before.joined (rest_len_pos _ c.loop-rest-test.ensures) before.held
    (keeps_nil _ _ _ _ c.if-count-eq0.true c.in_ok-count.ensures.bytes)

pub returns-clause-appended : goal.returns-clause-appended
returns-clause-appended g c =
    let before = c.loop-rest.invariant in
    writer_appends _ _ _ before.prefix _ before.joined (rest_nil _ c.loop-rest-test.ensures) before.held
