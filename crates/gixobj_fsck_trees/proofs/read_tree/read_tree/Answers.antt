use Rattle.std.proofs.Common.{◌≡◌, ◌≢◌, [], arith, length, rules}
use Rattle.gixobj_fsck_trees.proofs.RawEntryParts.{nil_of_len}
use Rattle.gixobj_fsck_trees.proofs.TreeReads.{begins_with_one_more, begins_with_some, end_of_begins, on_err, reads_tree_at_break, reads_tree_at_end}
use Rattle.gixobj_fsck_trees.specs.RawEntries.{EndsWithId}
use Rattle.gixobj_fsck_trees.specs.RawViews.{raw_entry_view, raw_entry_views}
use Rattle.gixobj_fsck_trees.proofs.read_tree.read_tree.Goals as goal

pub returns-in_default-clause-found : goal.returns-in_default-clause-found
returns-in_default-clause-found c =
    let ends : EndsWithId c.args.hash_kind c.args.bytes.now = search rules in
    let some : c.loop-rest.rest.now ≢ [] = search rules in
    reads_tree_at_break c.args.hash_kind c.args.bytes.now c.loop-rest.rest.now (raw_entry_views c.loop-rest.entries.items) ends some
    c.in_default.ensures.none c.loop-rest.invariant

pub loop-rest-preserved : goal.loop-rest-preserved
loop-rest-preserved c =
    begins_with_one_more c.args.hash_kind c.args.bytes.now c.loop-rest.rest.now c.in-Some.following.now c.loop-rest.entries.items
    c.push.new.self.items c.in-Some.entry c.loop-rest.invariant c.in-Some.ensures.found c.in-Some.ensures.offset c.in-Some.ensures.end
    c.in_ok-push.ensures.items

pub returns-clause-found : goal.returns-clause-found
returns-clause-found c =
    let ends : EndsWithId c.args.hash_kind c.args.bytes.now = search rules in
    let len : length c.loop-rest.rest.now ≡ 0 = search rules in
    reads_tree_at_end c.args.hash_kind c.args.bytes.now c.loop-rest.rest.now (raw_entry_views c.loop-rest.entries.items) ends
    (nil_of_len c.loop-rest.rest.now len) c.loop-rest.invariant

pub returns-in_err-push-clause-error : goal.returns-in_err-push-clause-error
returns-in_err-push-clause-error c =
    on_err c.from_residual.result _
    (begins_with_some c.args.hash_kind c.args.bytes.now c.loop-rest.rest.now c.in-Some.following.now (raw_entry_views c.loop-rest.entries.items)
    (raw_entry_view c.in-Some.entry) c.loop-rest.invariant c.in-Some.ensures.found)

pub returns-in_default-clause-end : goal.returns-in_default-clause-end
returns-in_default-clause-end c =
    let ended = end_of_begins c.args.hash_kind c.args.bytes.now c.loop-rest.rest.now (raw_entry_views c.loop-rest.entries.items)
    c.loop-rest.invariant in
    omega arith

pub returns-clause-end : goal.returns-clause-end
returns-clause-end c =
    let len : length c.loop-rest.rest.now ≡ 0 = search rules in
    let ended = end_of_begins c.args.hash_kind c.args.bytes.now c.loop-rest.rest.now (raw_entry_views c.loop-rest.entries.items)
    c.loop-rest.invariant in
    omega arith
