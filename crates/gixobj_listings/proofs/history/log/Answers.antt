use Rattle.std.proofs.Common.{None, Some, arith, ap, length, length-append, subst, ◌∷◌, []}
use Rattle.gix_object.specs.CommitViews.{commit_lines}
use Rattle.gix_object.specs.RemainingParents.{remaining_parents}
use Rattle.gix_object.specs.hash.hash.object_id.ObjectId.{ObjectId}
use Rattle.gixobj_listings.specs.Histories.{NamesCommit}
use Rattle.gixobj_listings.proofs.FirstParents.{follows_first_parents_push, has_first_parent_of_ids, has_no_first_parent_of_ids}
use Rattle.gixobj_listings.proofs.history.log.Goals as goal

pub returns-in-None-clause-listed : goal.returns-in-None-clause-listed
returns-in-None-clause-listed g c =
    let objects = g.S.Store.objects c.args.store.now in
    let commit = commit_lines c.in-Ok.commit in
    let names : NamesCommit objects c.loop.id commit =
    subst (λ (it : ObjectId). NamesCommit objects it commit) c.as_oid.ensures (c.in-Ok.ensures {u = tt}).found in
    follows_first_parents_push objects (Some c.args.tip) c.loop.commits.items c.push.new.self.items c.in_ok-logged.field-0 c.loop.id commit None
    c.in_ok-push.ensures.items c.loop.invariant.follows c.in_ok-logged.ensures.id names c.in_ok-logged.ensures.title c.in_ok-logged.ensures.author
    (has_no_first_parent_of_ids commit.parents (remaining_parents c.parents.result) c.parents.ensures c.in-None.ensures.steps.0)

pub loop-preserved : goal.loop-preserved
loop-preserved g c =
    let objects = g.S.Store.objects c.args.store.now in
    let commit = commit_lines c.in-Ok.commit in
    let names : NamesCommit objects c.loop.id commit =
    subst (λ (it : ObjectId). NamesCommit objects it commit) c.as_oid.ensures (c.in-Ok.ensures {u = tt}).found in
    record {
      follows = follows_first_parents_push objects (Some c.args.tip) c.loop.commits.items c.push.new.self.items c.in_ok-logged.field-0 c.loop.id commit
          (Some c.in-Some.parent) c.in_ok-push.ensures.items c.loop.invariant.follows c.in_ok-logged.ensures.id names c.in_ok-logged.ensures.title
          c.in_ok-logged.ensures.author
          (has_first_parent_of_ids commit.parents (remaining_parents c.parents.result) c.in-Some.parent (remaining_parents c.next.new.self) c.parents.ensures
          c.in-Some.ensures.steps);
      len = omega (arith, c.loop.invariant.len, ap length c.in_ok-push.ensures.items, length-append c.loop.commits.items (c.in_ok-logged.field-0 ∷ []));
    }
