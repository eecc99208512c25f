use Rattle.std.proofs.Common.{◌≡◌, rules}
use Rattle.gixobj_examples_edits.proofs.OneLog.{history_len_of_log}
use Rattle.gixobj_examples_edits.specs.HistoryLengths.{len_to_root}
use Rattle.gixobj_examples_edits.proofs.history.history_len.Goals as goal

pub returns-clause-unique : goal.returns-clause-unique
returns-clause-unique g c =
    let listed = c.in_ok-commits.field-0 in
    let same : c.log_len.result ≡ len_to_root listed.commits.items listed.end =
    first_of (search rules, cc (c.log_len.ensures, c.deref.ensures.value, c.in_ok-commits.commits-is, c.in_ok-commits.end-is)) in
    history_len_of_log c.log_is_unique.ensures (g.S.Store.objects c.args.store.now) (g.S.Store.may_fail c.args.store.now) c.args.max_commits c.args.tip
    listed.commits.items listed.end c.log_len.result c.in_ok-commits.ensures.listed c.in_ok-commits.ensures.bounded same
