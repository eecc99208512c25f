-- The names of the candidates are the merge bases.
use Rattle.std.proofs.Common.{◌≡◌, ◌↔◌, ℕ, Bool, List, [], ◌∷◌, Contains, subst, sym}
use Rattle.std.specs.Prelude.{IfOk, Option}
use Rattle.gixobj_hash.specs.declared.hash.object_id.ObjectId.{ObjectId}
use Rattle.gixobj_walks_graph.specs.Bases.{AreMergeBases}
use Rattle.gixobj_walks_graph.specs.Graph.{IsAcyclic, IsIncluded, NodeView}
use Rattle.gixobj_walks_graph.specs.Numbered.{Nodes, graph_at}
use Rattle.gixobj_walks_marks.specs.Marks.{HasMarks}
use Rattle.gixobj_walks_marks.specs.Settled.{IsCandidate, IsSettledBases}
use Rattle.gixobj_walks.specs.Named.{graph_of, named_graph}
use Rattle.gixobj_walks.specs.Newest.{AreNewestFirst}
use Rattle.gixobj_walks.proofs.NewestLists.{newest_in_larger}
use Rattle.gixobj_walks.specs.Search.{SearchView, searched_graph}
use Rattle.gixobj_walks.proofs.Machines.{ok_of_both}
use Rattle.gixobj_walks.proofs.Searches.{bases_in_each, bases_of_given, candidates_are_read}
use Rattle.gixobj_walks.proofs.bases.MergeBases.list.Goals as goal

-- the candidates by the marks that are read are those by the marks that are kept
abbrev Exact : Nodes → List Bool → List Bool → List ℕ → Type 0
Exact nodes left right numbers = (m n : ℕ) → HasMarks nodes (m ∷ []) left → HasMarks nodes (n ∷ []) right
    → (number : ℕ) → Contains numbers number ↔ IsCandidate (graph_at nodes) m n number

exact_as_kept : (nodes read : Nodes) (left read_left right read_right : List Bool) (numbers deref : List ℕ) → read ≡ nodes
    → read_left ≡ left → read_right ≡ right → deref ≡ numbers → Exact read read_left read_right numbers
    → Exact nodes left right deref
exact_as_kept nodes read left read_left right read_right numbers deref same_nodes same_left same_right same exact =
    subst (λ (ns : Nodes). Exact ns left right deref) same_nodes
    (subst (λ l. Exact read l right deref) same_left
    (subst (λ r. Exact read read_left r deref) same_right
    (subst (λ ns. Exact read read_left read_right ns) (sym same) exact)))

pub newest_first-requires-clause-read : goal.newest_first-requires-clause-read
newest_first-requires-clause-read c =
    let end = subst (λ (s : SearchView). IsSettledBases (searched_graph s) s.one s.other) (sym c.self.view_is) c.in-None.ensures.settled in
    candidates_are_read c.self.inside.known.names c.self.inside.known.reading c.self.inside.one c.self.inside.other
    c.self.inside.is_settled _ c.self.invariant c.deref.result.now
    (exact_as_kept c.self.inside.known.reading.nodes c.nodes.result.now c.self.inside.known.reading.left c.left.result.now
    c.self.inside.known.reading.right c.right.result.now c.in_ok-numbers.numbers.items c.deref.result.now
    c.nodes.ensures.nodes c.left.ensures.left c.right.ensures.right c.deref.ensures.value c.in_ok-numbers.ensures.exact) end

pub returns-clause-bases : goal.returns-clause-bases
returns-clause-bases c =
    let exact = exact_as_kept c.self.inside.known.reading.nodes c.nodes.result.now c.self.inside.known.reading.left c.left.result.now
    c.self.inside.known.reading.right c.right.result.now c.in_ok-numbers.numbers.items c.deref.result.now
    c.nodes.ensures.nodes c.left.ensures.left c.right.ensures.right c.deref.ensures.value c.in_ok-numbers.ensures.exact in
    subst (λ (s : SearchView). IfOk c.newest_first.result (λ ids. AreMergeBases (searched_graph s) s.one s.other ids.items))
    c.self.view_is
    (ok_of_both c.newest_first.result c.newest_first.ensures.exact c.newest_first.ensures.order
    (λ ids named first. bases_of_given c.self.inside.known.names c.self.inside.known.reading c.self.inside.one c.self.inside.other
    c.self.inside.is_settled _ c.self.invariant c.deref.result.now exact ids.items named first))

pub returns-clause-exact : goal.returns-clause-exact
returns-clause-exact c =
    let end = subst (λ (s : SearchView). IsSettledBases (searched_graph s) s.one s.other) (sym c.self.view_is) c.in-None.ensures.settled in
    let exact = exact_as_kept c.self.inside.known.reading.nodes c.nodes.result.now c.self.inside.known.reading.left c.left.result.now
    c.self.inside.known.reading.right c.right.result.now c.in_ok-numbers.numbers.items c.deref.result.now
    c.nodes.ensures.nodes c.left.ensures.left c.right.ensures.right c.deref.ensures.value c.in_ok-numbers.ensures.exact in
    subst (λ (s : SearchView). IfOk c.newest_first.result (λ ids. (commits : ObjectId → Option (NodeView ObjectId))
    → IsIncluded (searched_graph s) (graph_of commits) → IsAcyclic (graph_of commits)
    → AreMergeBases (graph_of commits) s.one s.other ids.items)) c.self.view_is
    (ok_of_both c.newest_first.result c.newest_first.ensures.exact c.newest_first.ensures.order
    (λ ids named first. bases_in_each c.self.inside.known.names c.self.inside.known.reading c.self.inside.one c.self.inside.other
    c.self.inside.is_settled _ c.self.invariant c.deref.result.now exact ids.items named first end))

pub returns-clause-order : goal.returns-clause-order
returns-clause-order c = subst (λ (s : SearchView). IfOk c.newest_first.result (λ ids. (commits : ObjectId → Option (NodeView ObjectId))
    → IsIncluded (searched_graph s) (graph_of commits) → AreNewestFirst (graph_of commits) ids.items)) c.self.view_is
    (ok_of_both c.newest_first.result c.newest_first.ensures.order c.newest_first.ensures.order
    (λ ids first again commits included.
    newest_in_larger (named_graph c.self.inside.known.names c.self.inside.known.reading.nodes) (graph_of commits) included ids.items first))
