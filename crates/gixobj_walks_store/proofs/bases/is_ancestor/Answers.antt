use Rattle.std.proofs.Common.{List, subst}
use Rattle.std.specs.Prelude.{◌↔◌, Contains, IsTrue}
use Rattle.gixobj_hash.specs.declared.hash.object_id.ObjectId.{ObjectId}
use Rattle.gixobj_walks_commits.specs.Nodes.{CommitGraph}
use Rattle.gixobj_walks_store.proofs.SearchedBases.{ancestor_by_bases}
use Rattle.gixobj_walks_store.proofs.bases.is_ancestor.Goals as goal

pub returns-clause-reached : goal.returns-clause-reached
returns-clause-reached g c = λ acyclic.
    let listed = subst (λ (ids : List ObjectId). IsTrue c.is_listed.result ↔ Contains ids c.args.ancestor) c.deref.ensures.value
    c.is_listed.ensures in
    let reached = ancestor_by_bases (CommitGraph (g.S.Store.objects c.args.store.now)) c.args.ancestor c.args.commit
    c.in_ok-bases.bases.items acyclic (c.in_ok-bases.ensures.bases acyclic) in (
      (λ is. reached.0 (listed.0 is)),
      (λ path. listed.1 (reached.1 path)),
    )
