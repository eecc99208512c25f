use Rattle.std.proofs.Common.{refl, subst}
use Rattle.gix_object.specs.CommitViews.{commit_lines}
use Rattle.gix_object.specs.RemainingParents.{remaining_parents}
use Rattle.gix_object.specs.hash.hash.object_id.ObjectId.{ObjectId}
use Rattle.gixobj_examples_edits.proofs.Commits.{first_hex_of_id, none_hex_of_id}
use Rattle.gixobj_examples_edits.specs.Ancestors.{NamesEncodedCommit}
use Rattle.gixobj_examples_edits.proofs.history.first_parent.Goals as goal

pub returns-in-Some-clause-found : goal.returns-in-Some-clause-found
returns-in-Some-clause-found g c =
    let commit = commit_lines c.in_ok-commit.commit in
    let is : NamesEncodedCommit (g.S.Store.objects c.args.store.now) c.args.id commit =
    subst (λ (it : ObjectId). NamesEncodedCommit (g.S.Store.objects c.args.store.now) it commit) c.as_oid.ensures c.in_ok-commit.ensures.found in
    let first = first_hex_of_id commit.parents (remaining_parents c.parents.result) c.in-Some.parent (remaining_parents c.next.new.self) c.parents.ensures
    c.in-Some.ensures.steps in
    (commit, is, first)

pub returns-clause-error : goal.returns-clause-error
returns-clause-error g c =
    let commit = commit_lines c.in_ok-commit.commit in
    let is : NamesEncodedCommit (g.S.Store.objects c.args.store.now) c.args.id commit =
    subst (λ (it : ObjectId). NamesEncodedCommit (g.S.Store.objects c.args.store.now) it commit) c.as_oid.ensures c.in_ok-commit.ensures.found in
    (refl, (commit, is, none_hex_of_id commit.parents (remaining_parents c.parents.result) c.parents.ensures c.in-None.ensures.steps.0))
