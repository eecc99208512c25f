-- The consumed input is the entries so far.
use Rattle.std.proofs.Common.{[], ◌∷◌, ◌++◌, rules}
use Rattle.std.proofs.lemmas.Grind.{common_steps}
use Rattle.gixobj_c.proofs.objects.is_tree.Goals as goal
use Rattle.gixobj_tree_entries.proofs.EntryRuns.{decodes_to_tree_at_end, malformed_tree_of_no_entry, begins_with_entries_nil, begins_with_entries_snoc}
use Rattle.gixobj_tree_entries.specs.EntryViews.{entry_view}

pub loop-rest-init : goal.loop-rest-init
loop-rest-init c = ([], begins_with_entries_nil c.args.hash c.args.bytes.now)

pub returns-in_default : goal.returns-in_default
returns-in_default c = λ it. malformed_tree_of_no_entry c.args.hash c.args.bytes.now c.loop-rest.rest.now c.loop-rest.invariant.0 (search rules)
    c.in_default.ensures.none c.loop-rest.invariant.1 it.0 it.1

pub loop-rest-preserved : goal.loop-rest-preserved
loop-rest-preserved c = (
  c.loop-rest.invariant.0 ++ entry_view c.in-Some.field-0-0 ∷ [],
  begins_with_entries_snoc c.args.hash c.args.bytes.now c.loop-rest.rest.now
      c.in-Some.following.now c.loop-rest.invariant.0 (entry_view c.in-Some.field-0-0) c.loop-rest.invariant.1 c.in-Some.ensures.found,
)

pub returns : goal.returns
returns c = (
  c.loop-rest.invariant.0,
  decodes_to_tree_at_end c.args.hash c.args.bytes.now c.loop-rest.rest.now c.loop-rest.invariant.0
      (search (rules, common_steps)) c.loop-rest.invariant.1,
)
