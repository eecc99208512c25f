use Rattle.std.proofs.Common.{◌≡◌, ◌++◌, ◌∷◌, [], rules}
use Rattle.std.proofs.lemmas.Result.{err_from_is_err_and}
use Rattle.std.specs.Prelude.{codes}
use Rattle.gixobj_grammar.proofs.OneLine.{line_len_lt}
use Rattle.gixobj_grammar.specs.Lines.{parent_comes, parent_line}
use Rattle.gixobj_grammar.specs.declared.lines.State.TheVariants as state
use Rattle.gixobj_parse.specs.HeaderReading.{BeginsWithNoIdField}
use Rattle.gixobj_walks_commits.proofs.CommitNodes.{commit_has_parent, commit_has_tree, committer_begins, no_parent_is_read, node_is_read, one_more_is_read}
use Rattle.gixobj_walks_commits.proofs.node.commit_node.Goals as goal

pub unreachable-requires : goal.unreachable-requires
unreachable-requires c = commit_has_tree c.args.hash_kind c.args.bytes.now c.if-not-is_commit.ensures c.in_default.ensures.none

pub loop-hex-init : goal.loop-hex-init
loop-hex-init c = rw c.new-parents.ensures.items
    (no_parent_is_read c.args.hash_kind c.args.bytes.now _ c.in-Some.rest.now c.if-not-is_commit.ensures c.in-Some.ensures.found)

pub loop-hex-smaller : goal.loop-hex-smaller
loop-hex-smaller c = line_len_lt c.args.hash_kind state.Parents c.loop-hex.rest.now (parent_line _) state.Parents c.in-Some-header_id.after.now
    (parent_comes c.loop-hex.rest.now _ c.in-Some-header_id.after.now c.in-Some-header_id.ensures.found)

pub returns-in_err-push-clause-error : goal.returns-in_err-push-clause-error
returns-in_err-push-clause-error c =
    let from = err_from_is_err_and c.from_residual.result c.from_residual.ensures.1 in
    rw (from.1, from.2) (commit_has_parent c.args.hash_kind c.args.bytes.now c.loop-hex.rest.now _ c.in-Some-header_id.after.now c.loop-hex.parents.items
    c.loop-hex.invariant c.in-Some-header_id.ensures.found)

pub loop-hex-preserved : goal.loop-hex-preserved
loop-hex-preserved c =
    let items : c.push.new.self.items ≡ c.loop-hex.parents.items ++ c.id_of_hex.result ∷ [] = search rules in
    rw items (one_more_is_read c.args.hash_kind c.args.bytes.now c.loop-hex.rest.now _ c.in-Some-header_id.after.now c.loop-hex.parents.items
    c.id_of_hex.result c.loop-hex.invariant c.in-Some-header_id.ensures.found c.id_of_hex.ensures.decodes)

pub committer_seconds-requires : goal.committer_seconds-requires
committer_seconds-requires c =
    let none : BeginsWithNoIdField (codes "parent") c.args.hash_kind c.loop-hex.rest.now = search rules in
    committer_begins c.args.hash_kind c.args.bytes.now c.loop-hex.rest.now c.loop-hex.parents.items c.loop-hex.invariant none

pub returns-clause-found : goal.returns-clause-found
returns-clause-found c =
    let none : BeginsWithNoIdField (codes "parent") c.args.hash_kind c.loop-hex.rest.now = search rules in
    node_is_read c.args.hash_kind c.args.bytes.now c.loop-hex.rest.now _ c.loop-hex.invariant none c.committer_seconds.ensures
