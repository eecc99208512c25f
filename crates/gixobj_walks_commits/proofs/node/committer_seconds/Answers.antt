-- The lines that are read are those of the author and of the committer.
use Rattle.gixobj_walks_commits.proofs.CommitNodes.{committer_follows, seconds_of_committer}
use Rattle.gixobj_walks_commits.proofs.node.committer_seconds.Goals as goal

pub unreachable-requires-in_default-header_field : goal.unreachable-requires-in_default-header_field
unreachable-requires-in_default-header_field c =
    c.in_default-header_field.ensures.none _ _ (committer_follows c.args.input.now c.requires.0 _ _ c.requires.1 c.in-Some.ensures.found)

pub returns : goal.returns
returns c = λ committer begins. seconds_of_committer c.args.input.now committer _ _ _ _ _ begins c.in-Some.ensures.found c.in-Some-header_field.ensures.found
    c.seconds_of.ensures
