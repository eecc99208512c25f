-- A list of the marked commits in order is a walk, if exactly the selected ones are marked, and each commit is read.
use Rattle.std.proofs.Common.{◌≡◌, ◌⊎◌, ◌↔◌, ◌<◌, ℕ, zero, suc, Bool, List, [], ◌∷◌, Contains, inl, inr, refl, sym, ap, subst, length, map}
use Rattle.std.proofs.Common.{Result, Ok, Err, IfErr, IfOk, Vec, Global, arith}
use Rattle.std.specs.List.{AllByRecursion}
use Rattle.gixobj_walks_graph.specs.Graph.{HasParent, IsReachedFrom, LeadsTo, NodeView}
use Rattle.gixobj_walks_graph.specs.Listing.{IsListing}
use Rattle.gixobj_walks_graph.specs.Numbered.{IsMarked, Nodes, graph_at}
use Rattle.gixobj_walks_graph.specs.Walks.{IsSelected, IsWalk}
use Rattle.gixobj_walks_graph.specs.declared.order.Order.{Order}
use Rattle.gixobj_walks_marks.specs.Marks.{HasMarks}
use Rattle.gixobj_walks_marks.proofs.Bottoms.{graph_at_is_functional}
use Rattle.gixobj_walks_marks.proofs.Marked.{marked_within}
use Rattle.gixobj_walks_marks.proofs.Paths.{ancestor_has_child, includes_path, reached_from_reaches, reaches_parent}
use Rattle.gixobj_walks_order.specs.Listed.{AreReached, HasSelectedChild, IsListError, graph_within}
use Rattle.gixobj_walks_order.specs.declared.error.ListError.{ListError}
use Rattle.gixobj_walks_order.specs.declared.error.ListError.TheVariants.{Cycle, OutOfMemory}
use Rattle.gixobj_walks_order.proofs.Lines.{topological_follows_lines}
use Rattle.gixobj_walks_order.proofs.Listings.{IsConvex, listing_is_children_first, listing_is_once}
use Rattle.gixobj_walks_order.proofs.Names.{AreNames, map_node, named_listing}
use Rattle.gixobj_walks_order.proofs.NewestFirst.{date_is_newest_first}
use Rattle.gixobj_walks_known.specs.Known.{IsKnownGraph, IsWalkError}

-- the selected commits by the marks of both sides, as code reads them
pub marks_of_chosen : (nodes : Nodes) (tips hidden : List ℕ) (left right chosen read_left read_right read_chosen : List Bool)
    → read_left ≡ left → read_right ≡ right → read_chosen ≡ chosen → HasMarks nodes tips left → HasMarks nodes hidden right
    → ((ns : Nodes) (ts hs : List ℕ) → HasMarks ns ts read_left → HasMarks ns hs read_right
    → (number : ℕ) → IsMarked chosen number ↔ IsSelected (graph_at ns) ts hs number)
    → (number : ℕ) → IsMarked read_chosen number ↔ IsSelected (graph_at nodes) tips hidden number
marks_of_chosen nodes tips hidden left right chosen read_left read_right read_chosen same_left same_right same_chosen on_left on_right
    selects =
    subst (λ (it : List Bool). (number : ℕ) → IsMarked it number ↔ IsSelected (graph_at nodes) tips hidden number) (sym same_chosen)
    (selects nodes tips hidden (subst (λ m. HasMarks nodes tips m) (sym same_left) on_left)
    (subst (λ m. HasMarks nodes hidden m) (sym same_right) on_right))

same_list : (xs : List ℕ) → map (λ (x : ℕ). x) xs ≡ xs
same_list [] = refl
same_list (x ∷ xs) = ap (λ it. x ∷ it) (same_list xs)

same_node : (node : NodeView ℕ) → node ≡ map_node (λ (x : ℕ). x) node
same_node node i = record { parents = sym (same_list node.parents) i; seconds = node.seconds }

all_known : (xs : List ℕ) → AllByRecursion (λ (x : ℕ). Unit {0}) xs
all_known [] = tt
all_known (x ∷ xs) = (tt, all_known xs)

module _ (nodes : Nodes) (tips hidden : List ℕ) (chosen : List Bool)
    (marks : (number : ℕ) → IsMarked chosen number ↔ IsSelected (graph_at nodes) tips hidden number)
    (known : IsKnownGraph nodes) (lengths : length chosen ≡ length nodes) where
  child_is_marked : (child number : ℕ) → IsReachedFrom (graph_at nodes) tips child
      → HasParent (graph_at nodes) child number → IsSelected (graph_at nodes) tips hidden number → IsMarked chosen child
  child_is_marked child number reached edge selected = (marks child).1 (record {
    reached = reached;
    shown = λ hides. selected.shown (reached_from_reaches (graph_at nodes) hidden child number hides
        (reaches_parent (graph_at nodes) child number edge));
  })

  reached_cases : (start number n : ℕ) → Contains tips start → LeadsTo (graph_at nodes) n start number
      → IsSelected (graph_at nodes) tips hidden number → Contains tips number ⊎ HasSelectedChild nodes chosen number
  reached_cases start number zero contained same selected = inl (subst (λ n. Contains tips n) same contained)
  reached_cases start number (suc n) contained steps selected =
      let child = ancestor_has_child (graph_at nodes) n start number steps in
      inr (record {
        child = child.0;
        chosen = child_is_marked child.0 number (start, contained, child.1) child.2 selected;
        parent = child.2;
      })

  pub marked_are_reached : AreReached nodes chosen tips
  marked_are_reached number marked =
      let selected = (marks number).0 marked in
      let from = selected.reached in
      reached_cases from.0 number from.2.0 from.1 from.2.1 selected

  convex : IsConvex (graph_at nodes) (IsMarked chosen)
  convex child id last marked edge path end_marked =
      let first = (marks child).0 marked in
      let final = (marks last).0 end_marked in
      (marks id).1 (record {
        reached = reached_from_reaches (graph_at nodes) tips child id first.reached (reaches_parent (graph_at nodes) child id edge);
        shown = λ hides. final.shown (reached_from_reaches (graph_at nodes) hidden id last hides path);
      })

  same_names : AreNames (λ (n : ℕ). n) (graph_at nodes) (graph_at nodes) (λ (n : ℕ). Unit {0}) (IsMarked chosen)
      (IsSelected (graph_at nodes) tips hidden)
  same_names = record {
    injective = λ i j i_known j_known same. same;
    read_known = λ i node read. tt;
    parents_known = λ i node read. all_known node.parents;
    named = λ i node read. subst (λ (n : NodeView ℕ). graph_at nodes i n) (same_node node) read;
    functional = graph_at_is_functional nodes;
    chosen = λ i is. (marks i).0 is;
    selected = λ i is_known is. (marks i).1 is;
    has_number = λ id is. (id, tt, refl);
    read = λ i is. known.read i (subst (λ n. i < n) lengths (marked_within chosen i is));
  }

  selected_listing : (order : Order) (ids : List ℕ) → IsListing (graph_at nodes) order (IsMarked chosen) tips ids
      → IsListing (graph_at nodes) order (IsSelected (graph_at nodes) tips hidden) tips ids
  selected_listing order ids listing =
      subst (λ it. IsListing (graph_at nodes) order (IsSelected (graph_at nodes) tips hidden) it ids) (same_list tips)
      (subst (λ it. IsListing (graph_at nodes) order (IsSelected (graph_at nodes) tips hidden) (map (λ (n : ℕ). n) tips) it) (same_list ids)
      (named_listing (λ (n : ℕ). n) (graph_at nodes) (graph_at nodes) (λ (n : ℕ). Unit {0}) (IsMarked chosen)
      (IsSelected (graph_at nodes) tips hidden) same_names order tips ids (all_known tips) listing))

  walk_of_list : (order : Order) (ids : List ℕ) → IsListing (graph_at nodes) order (IsMarked chosen) tips ids
      → ((number : ℕ) → Contains ids number ↔ IsMarked chosen number)
      → IsWalk (graph_at nodes) order tips hidden ids
  walk_of_list order ids listing exact =
      let selected = selected_listing order ids listing in
      record {
        exact = λ id. (
          (λ has. (marks id).0 ((exact id).0 has)),
          (λ is. (exact id).1 ((marks id).1 is)),
        );
        once = listing_is_once (graph_at nodes) order (IsMarked chosen) tips ids listing;
        children_first = listing_is_children_first (graph_at nodes) order (IsMarked chosen) tips ids listing convex;
        listing = selected;
        newest_first = date_is_newest_first (graph_at nodes) (IsSelected (graph_at nodes) tips hidden) order tips ids selected;
        follows_lines = topological_follows_lines (graph_at nodes) (IsSelected (graph_at nodes) tips hidden)
            (graph_at_is_functional nodes) order tips ids selected;
      }

  error_of_list : (error : ListError) → IsListError nodes chosen error → IsWalkError nodes tips hidden error
  error_of_list Cycle cycle = record {
    id = cycle.id;
    selected = (marks cycle.id).0 cycle.selected;
    ancestor = (
      cycle.ancestor.0,
      includes_path (graph_within (graph_at nodes) (IsMarked chosen))
          (graph_within (graph_at nodes) (IsSelected (graph_at nodes) tips hidden))
          (λ id node it. ((marks id).0 it.0, it.1)) (suc cycle.ancestor.0) cycle.id cycle.id cycle.ancestor.1,
    );
  }
  error_of_list OutOfMemory (number, marked) =
      let inside = subst (λ n. number < n) lengths (marked_within chosen number marked) in some_inside inside
    where
      some_inside : {count : ℕ} → number < count → zero < count
      some_inside less = omega (arith, less)

  pub errors_of_list : {T : Type 0} (outcome : Result T ListError) → IfErr outcome (IsListError nodes chosen)
      → IfErr outcome (IsWalkError nodes tips hidden)
  errors_of_list (Ok value) is = tt
  errors_of_list (Err error) is = error_of_list error is

  -- both of a list that was made
  pub lists_walk : (order : Order) (outcome : Result (Vec ℕ Global) ListError)
      → IfOk outcome (λ ids. IsListing (graph_at nodes) order (IsMarked chosen) tips ids.items)
      → IfOk outcome (λ ids. (number : ℕ) → Contains ids.items number ↔ IsMarked chosen number)
      → IfOk outcome (λ ids. IsWalk (graph_at nodes) order tips hidden ids.items)
  lists_walk order (Ok ids) listing exact = walk_of_list order ids.items listing exact
  lists_walk order (Err error) listing exact = tt
