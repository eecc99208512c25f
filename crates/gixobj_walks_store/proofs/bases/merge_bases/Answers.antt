-- What is looked up is of the store, and the merge bases of the search are those of the store's graph.
use Rattle.std.proofs.Common.{subst, sym}
use Rattle.std.proofs.lemmas.Result.{err_from_is_err_and}
use Rattle.gixobj_hash.specs.declared.hash.object_id.ObjectId.{ObjectId}
use Rattle.gixobj_walks_graph.specs.Graph.{NodeView}
use Rattle.gixobj_walks_commits.proofs.Nodes.{commit_graph_is_functional}
use Rattle.gixobj_walks_commits.specs.Nodes.{CommitGraph, IsFindNodeError}
use Rattle.gixobj_walks_store.proofs.SearchedBases.{bases_of_acyclic, newest_first_of_given, search_over_begins, search_over_continues}
use Rattle.gixobj_walks_store.proofs.bases.merge_bases.Goals as goal

pub commits-init : goal.commits-init
commits-init g c = search_over_begins (CommitGraph (g.S.Store.objects c.args.store.now)) c.args.one c.args.other c.in_ok-search.search
    c.in_ok-search.ensures.one c.in_ok-search.ensures.other c.in_ok-search.ensures.given c.in_ok-search.ensures.known

pub commits-preserved : goal.commits-preserved
commits-preserved g c =
    let objects = g.S.Store.objects c.args.store.now in
    let named = subst (λ (id : ObjectId). CommitGraph objects id c.in_ok-node.node) c.as_oid.ensures c.in_ok-node.ensures.found in
    let found = subst (λ parents. CommitGraph objects c.in-Some.id (record { parents = parents; seconds = c.node.inside.seconds }))
    (sym c.deref.ensures.value) (subst (λ (node : NodeView ObjectId). CommitGraph objects c.in-Some.id node) (sym c.node.view_is) named) in
    search_over_continues (CommitGraph objects) c.args.one c.args.other c.commits.search c.commits.invariant c.in_ok-search-2.search
    c.in-Some.id c.deref.result.now c.node.inside.seconds c.in_ok-search-2.ensures.one c.in_ok-search-2.ensures.other
    (λ id node. c.in_ok-search-2.ensures.given id c.in-Some.id node (sym c.in-Some.ensures.wanted)) found c.in-Some.ensures.known
    c.in_ok-search-2.ensures.known

pub returns-in_err-node-clause-error : goal.returns-in_err-node-clause-error
returns-in_err-node-clause-error g c =
    let p = err_from_is_err_and c.from_residual-in_err-node.result c.from_residual-in_err-node.ensures.1 in
    let failed = subst (λ (id : ObjectId). IsFindNodeError (g.S.Store.objects c.args.store.now) (g.S.Store.may_fail c.args.store.now)
    id c.in_err-node.field-0.0) c.as_oid.ensures c.in_err-node.ensures.error in
    rw (p.1, p.2) (c.in-Some.id, c.commits.invariant.reached c.in-Some.id c.in-Some.ensures.known, failed)

pub returns-clause-bases : goal.returns-clause-bases
returns-clause-bases g c = λ acyclic. bases_of_acyclic (CommitGraph (g.S.Store.objects c.args.store.now)) c.args.one c.args.other
    c.commits.search c.commits.invariant (commit_graph_is_functional (g.S.Store.objects c.args.store.now)) c.in_default.ensures.settled
    c.in_ok-ids.ids.items c.in_ok-ids.ensures.bases acyclic

pub returns-clause-order : goal.returns-clause-order
returns-clause-order g c = newest_first_of_given (CommitGraph (g.S.Store.objects c.args.store.now)) c.args.one c.args.other
    c.commits.search c.commits.invariant (commit_graph_is_functional (g.S.Store.objects c.args.store.now)) c.in_ok-ids.ids.items
    c.in_ok-ids.ensures.order
