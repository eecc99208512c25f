use Rattle.std.proofs.Common.{map, rules}
use Rattle.std.proofs.lemmas.Grind.{common_steps}
use Rattle.std.proofs.lemmas.Result.{err_from_is_err_and}
use Rattle.gixobj_tree_entries.proofs.EntryRuns.{first_entry_exists, malformed_tree_of_no_entry, begins_with_entries_of_views, decodes_to_tree_at_end}
use Rattle.gixobj_tree.proofs.tree.borrowed.TreeRef.from_bytes.Goals as goal
use Rattle.gixobj_tree_entries.specs.EntryViews.{entry_view}

pub returns-in_default-clause-error : goal.returns-in_default-clause-error
returns-in_default-clause-error c = malformed_tree_of_no_entry c.args.hash_kind c.args.bytes.now c.loop-rest.rest.now (map entry_view c.loop-rest.entries.items)
    (search rules) c.in_default.ensures.none c.loop-rest.invariant

pub returns-in_err-push-clause-error : goal.returns-in_err-push-clause-error
returns-in_err-push-clause-error c =
    let p = err_from_is_err_and c.from_residual.result c.from_residual.ensures.1 in
    rw (p.1, p.2) (first_entry_exists c.args.hash_kind c.args.bytes.now c.loop-rest.rest.now c.in-Some.following.now (map entry_view c.loop-rest.entries.items)
    (entry_view c.in-Some.entry) c.loop-rest.invariant c.in-Some.ensures.found)

pub loop-rest-preserved : goal.loop-rest-preserved
loop-rest-preserved c =
    begins_with_entries_of_views entry_view c.args.hash_kind c.args.bytes.now c.loop-rest.rest.now c.in-Some.following.now c.loop-rest.entries.items
    c.push.new.self.items
    c.in-Some.entry c.loop-rest.invariant c.in-Some.ensures.found c.in_ok-push.ensures.items

pub returns-clause-found : goal.returns-clause-found
returns-clause-found c = decodes_to_tree_at_end c.args.hash_kind c.args.bytes.now c.loop-rest.rest.now (map entry_view c.loop-rest.entries.items)
    (search (rules, common_steps)) c.loop-rest.invariant
