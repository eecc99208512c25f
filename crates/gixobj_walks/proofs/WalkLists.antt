-- Lists of a walk: the numbers that are listed name a walk over what was given, and over each larger graph.
use Rattle.std.proofs.Common.{◌≡◌, ◌≢◌, ◌∙◌, ◌⊎◌, ◌↔◌, ℕ, zero, suc, ◌<◌, Bool, List, [], ◌∷◌, get_or, map, ⊎_elim, inl, inr, refl, sym, ap, subst, length}
use Rattle.std.proofs.Common.{arith}
use Rattle.std.proofs.lemmas.List.Elements.{Contains-get_or, recursion_from_All}
use Rattle.std.proofs.lemmas.Option.{get_or_from_slice_get, slice_get-get_or}
use Rattle.std.specs.Prelude.{Contains, Option, Some, slice_get}
use Rattle.std.specs.List.{AllByRecursion, AllZip}
use Rattle.gixobj_hash.proofs.SameIds.{id_eq_or_ne}
use Rattle.gixobj_hash.specs.declared.hash.object_id.ObjectId.{ObjectId}
use Rattle.gixobj_walks_graph.specs.Graph.{Graph, HasAncestor, HasParent, IsAcyclic, IsFunctional, IsIncluded, IsRead, IsReachedFrom, LeadsTo, NodeView}
use Rattle.gixobj_walks_graph.specs.Listing.{IsListing}
use Rattle.gixobj_walks_graph.specs.Numbered.{IsMarked, Nodes, graph_at}
use Rattle.gixobj_walks_graph.specs.Walks.{IsSelected, IsWalk}
use Rattle.gixobj_walks_graph.specs.declared.order.Order.{Order}
use Rattle.gixobj_walks_marks.proofs.Bottoms.{bottoms_are_reached, read_or_not}
use Rattle.gixobj_walks_marks.proofs.Marked.{marked_or_not, marked_within}
use Rattle.gixobj_walks_marks.specs.Marks.{HasMarks}
use Rattle.gixobj_walks_marks.proofs.Ends.{HaveBottoms, settled_walk_is_exact}
use Rattle.gixobj_walks_marks.proofs.Paths.{ancestor_has_child, includes_path, includes_reached_from, reached_from_reaches, reaches_itself, reaches_parent}
use Rattle.gixobj_walks_marks.specs.Readings.{ReadingView}
use Rattle.gixobj_walks_marks.specs.Settled.{IsBottom, IsSettledWalk, IsWanted}
use Rattle.gixobj_walks_order.proofs.Listings.{IsConvex, listing_is_children_first, listing_is_once}
use Rattle.gixobj_walks_order.proofs.Names.{AreNames, named_listing}
use Rattle.gixobj_walks_order.specs.Counts.{AreBelow}
use Rattle.gixobj_walks_order.specs.Listed.{AreMarkedRead, AreReached, HasSelectedChild, IsCycle, IsListError, graph_within}
use Rattle.gixobj_walks.proofs.GivenCommits.{same_names}
use Rattle.gixobj_walks.proofs.Machines.{names_of_zip}
use Rattle.gixobj_walks.proofs.NamedBases.{reaches_named}
use Rattle.gixobj_walks.proofs.NamedEnds.{selected_named, selected_numbered}
use Rattle.gixobj_walks.proofs.NamedPaths.{below_of_name, name_below, name_of_contained, name_unique, named_steps, numbered_parent, read_named, read_numbered}
use Rattle.gixobj_walks.proofs.NamedPaths.{reached_named, reached_numbered}
use Rattle.gixobj_walks.proofs.NamedWalks.{children_first_named, once_named, selected_are_named}
use Rattle.gixobj_walks.proofs.WalkEnds.{walk_of_listing, walk_of_settled}
use Rattle.gixobj_walks.specs.Machine.{IsWalking, WalkView, given_graph, names_of}
use Rattle.gixobj_walks.specs.WalkErrors.{IsWalkListError}
use Rattle.gixobj_walks_order.specs.declared.error.ListError.{ListError}
use Rattle.gixobj_walks_order.specs.declared.error.ListError.TheVariants.{Cycle, OutOfMemory}
use Rattle.gixobj_walks.specs.Named.{Names, graph_of, named_graph}

-- ---- names of numbers by their positions

zip_of_positions : {V : Type 0} (ids : List V) (d : V) (numbers : List ℕ) → AllByRecursion (λ number. number < length ids) numbers
    → AllZip (Names ids) numbers (map (λ number. get_or ids number d) numbers)
zip_of_positions ids d [] below = tt
zip_of_positions ids d (number ∷ numbers) below = (slice_get-get_or ids number d below.0, zip_of_positions ids d numbers below.1)

positions_of_zip : {V : Type 0} (ids : List V) (d : V) (numbers : List ℕ) (names : List V) → AllZip (Names ids) numbers names
    → map (λ number. get_or ids number d) numbers ≡ names
positions_of_zip ids d [] [] zip = refl
positions_of_zip ids d [] (name ∷ names) zip = absurd zip
positions_of_zip ids d (number ∷ numbers) [] zip = absurd zip
positions_of_zip ids d (number ∷ numbers) (name ∷ names) zip =
    let first = get_or_from_slice_get ids number name d zip.0 in
    let rest = positions_of_zip ids d numbers names zip.1 in
    λ i. first i ∷ rest i

-- the numbers of a list that has exactly marked ones are below the number of marks
pub below_of_marks : (numbers : List ℕ) (marked : List Bool) (bound : ℕ) → ((number : ℕ) → Contains numbers number ↔ IsMarked marked number)
    → length marked ≡ bound → AllByRecursion (λ number. number < bound) numbers
below_of_marks numbers marked bound exact lengths = recursion_from_All (λ number. number < bound) numbers
    (λ k d less. subst (λ n. get_or numbers k d < n) lengths
    (marked_within marked (get_or numbers k d) ((exact (get_or numbers k d)).0 (Contains-get_or numbers k d less))))

-- the selected commits by the marks of both sides
pub marks_of_selected : (nodes : Nodes) (tips hidden : List ℕ) (left right read_left read_right chosen : List Bool)
    → read_left ≡ left → read_right ≡ right → HasMarks nodes tips left → HasMarks nodes hidden right
    → ((ns : Nodes) (ts hs : List ℕ) → HasMarks ns ts read_left → HasMarks ns hs read_right
    → (number : ℕ) → IsMarked chosen number ↔ IsSelected (graph_at ns) ts hs number)
    → (number : ℕ) → IsMarked chosen number ↔ IsSelected (graph_at nodes) tips hidden number
marks_of_selected nodes tips hidden left right read_left read_right chosen same_left same_right on_left on_right selects =
    selects nodes tips hidden (subst (λ m. HasMarks nodes tips m) (sym same_left) on_left)
    (subst (λ m. HasMarks nodes hidden m) (sym same_right) on_right)

-- ---- ids have numbers or not

not_in_longer : (first : ObjectId) (ids : List ObjectId) (id : ObjectId) → first ≢ id → ((number : ℕ) → ¬ Names ids number id)
    → (number : ℕ) → ¬ Names (first ∷ ids) number id
not_in_longer first ids id other none zero name = other (cc)
not_in_longer first ids id other none (suc number) name = none number name

named_or_not : (ids : List ObjectId) (id : ObjectId) → ((number : ℕ) × Names ids number id) ⊎ ((number : ℕ) → ¬ Names ids number id)
named_or_not [] id = inr (λ number name. cc name)
named_or_not (first ∷ ids) id = ⊎_elim
    (λ same. inl (0, ap Some same))
    (λ other. ⊎_elim (λ it. inl (suc it.0, it.1)) (λ none. inr (not_in_longer first ids id other none)) (named_or_not ids id))
    (id_eq_or_ne first id)

some_injective : {X : Type 0} (x y : X) → Some x ≡ Some y → x ≡ y
some_injective x y same = cc

pub functional_of_function : {V : Type 0} (F : V → Option (NodeView V)) → IsFunctional (graph_of F)
functional_of_function F id node other is other_is = some_injective node other (sym is ∙ other_is)

module _ (ids : List ObjectId) (reading : ReadingView) (tips hidden : List ℕ) (settled : Bool)
    (is : IsWalking ids reading tips hidden settled) where
  abbrev Given : Graph ObjectId
  Given = named_graph ids reading.nodes

  pub read_or_not_named : (id : ObjectId) → IsRead (named_graph ids reading.nodes) id ⊎ (¬ IsRead (named_graph ids reading.nodes) id)
  read_or_not_named id = ⊎_elim
      (λ it. ⊎_elim (λ read. inl (read_named ids reading.nodes is.known is.lengths it.0 id read it.1))
      (λ unread. inr (λ read. unread (read_numbered ids reading.nodes is.distinct it.0 id read it.1)))
      (read_or_not reading.nodes it.0))
      (λ none. inr (λ (node, given). none given.number given.name))
      (named_or_not ids id)

  pub named_is_functional : IsFunctional (named_graph ids reading.nodes)
  named_is_functional id node other first second =
      let same = is.distinct second.number first.number id second.name first.name in
      let numbered : second.numbered ≡ first.numbered = some_injective second.numbered first.numbered
      (some_injective (Some second.numbered) (Some first.numbered)
      (sym (subst (λ n. slice_get reading.nodes n ≡ Some (Some second.numbered)) same second.read) ∙ first.read)) in
      let parents : node.parents ≡ other.parents = same_names ids first.numbered.parents node.parents other.parents first.parents
      (subst (λ (n : NodeView ℕ). AllZip (Names ids) n.parents other.parents) numbered second.parents) in
      let seconds : node.seconds ≡ other.seconds = first.seconds ∙ sym (second.seconds ∙ ap (λ (n : NodeView ℕ). n.seconds) numbered) in
      λ i. record { parents = parents i; seconds = seconds i }

  -- what starts reach has a name
  name_of_reached : (starts : List ℕ) (names : List ObjectId) → AllZip (Names ids) starts names → (number : ℕ)
      → IsReachedFrom (graph_at reading.nodes) starts number → (id : ObjectId) × Names ids number id
  name_of_reached starts names zip number (start, contained, (n, steps)) =
      let first = name_of_contained ids starts names zip start contained in
      let last = named_steps ids reading.nodes is.known is.lengths n start number first.0 steps first.1 in
      (last.0, last.1)

  cycle_named : (number : ℕ) → HasAncestor (graph_at reading.nodes) number number
      → (id : ObjectId) × HasAncestor (named_graph ids reading.nodes) id id
  cycle_named number (n, steps) =
      let below : number < length ids = subst (λ k. number < k) is.lengths
      (below_of_name reading.nodes number (Some steps.1.node) steps.1.named) in
      let name = name_below ids number below in
      let last = named_steps ids reading.nodes is.known is.lengths (suc n) number number name.0 steps name.1 in
      (name.0, (n, subst (λ v. LeadsTo (named_graph ids reading.nodes) (suc n) name.0 v) (name_unique ids number last.0 name.0 last.1 name.1) last.2))

  pub cycle_of_list : (chosen : List Bool) → IsCycle (graph_at reading.nodes) (IsMarked chosen)
      → (id : ObjectId) × HasAncestor (named_graph ids reading.nodes) id id
  cycle_of_list chosen cycle = cycle_named cycle.id (
    cycle.ancestor.0,
    includes_path (graph_within (graph_at reading.nodes) (IsMarked chosen)) (graph_at reading.nodes) (λ id node it. it.1)
        (suc cycle.ancestor.0) cycle.id cycle.id cycle.ancestor.1,
  )

  tip_names : AllZip (Names ids) tips (names_of ids tips)
  tip_names = names_of_zip ids tips is.tips_known

  hidden_names : AllZip (Names ids) hidden (names_of ids hidden)
  hidden_names = names_of_zip ids hidden is.hidden_known

  -- ---- bottoms

  bottom_named : (number : ℕ) (id : ObjectId) → Names ids number id → IsBottom (graph_at reading.nodes) tips hidden number
      → IsBottom (named_graph ids reading.nodes) (names_of ids tips) (names_of ids hidden) id
  bottom_named number id name bottom = record {
    read = read_named ids reading.nodes is.known is.lengths number id bottom.read name;
    selected = selected_named ids reading.nodes is.known is.lengths is.distinct tips hidden (names_of ids tips) (names_of ids hidden)
        tip_names hidden_names number id name bottom.selected;
    last = λ parent edge selected.
        let step = numbered_parent ids reading.nodes id parent edge in
        bottom.last step.1 (subst (λ n. HasParent (graph_at reading.nodes) n step.1) (is.distinct step.0 number id step.2 name) step.4)
        (selected_numbered ids reading.nodes is.known is.lengths is.distinct tips hidden (names_of ids tips) (names_of ids hidden)
        tip_names hidden_names step.1 parent step.3 selected);
  }

  have_bottoms_named : HaveBottoms (graph_at reading.nodes) tips hidden
      → HaveBottoms (named_graph ids reading.nodes) (names_of ids tips) (names_of ids hidden)
  have_bottoms_named bottoms id read selected none =
      let at = reached_numbered ids reading.nodes is.distinct tips (names_of ids tips) tip_names id selected.reached in
      bottoms at.0 (read_numbered ids reading.nodes is.distinct at.0 id read at.1)
      (selected_numbered ids reading.nodes is.known is.lengths is.distinct tips hidden (names_of ids tips) (names_of ids hidden)
      tip_names hidden_names at.0 id at.1 selected)
      (λ bottom last path.
      let below : bottom < length ids = subst (λ k. bottom < k) is.lengths
      (below_of_name reading.nodes bottom (Some last.read.0) last.read.1) in
      let name = name_below ids bottom below in
      none name.0 (bottom_named bottom name.0 name.1 last)
      (reaches_named ids reading.nodes is.known is.lengths is.distinct at.0 bottom id name.0 at.1 name.1 path))

  module _ (end : IsSettledWalk (named_graph ids reading.nodes) (names_of ids tips) (names_of ids hidden)) where
    wanted_named : (number : ℕ) (id : ObjectId) → Names ids number id → IsWanted (graph_at reading.nodes) tips hidden number
        → IsWanted (named_graph ids reading.nodes) (names_of ids tips) (names_of ids hidden) id
    wanted_named number id name wanted = record {
      unread = λ read. wanted.unread (read_numbered ids reading.nodes is.distinct number id read name);
      reached = ⊎_elim
          (λ reached. inl (reached_named ids reading.nodes is.known is.lengths tips (names_of ids tips) tip_names number id reached name))
          (λ reached. inr (reached_named ids reading.nodes is.known is.lengths hidden (names_of ids hidden) hidden_names number id reached name))
          wanted.reached;
    }

    name_of_wanted : (number : ℕ) → IsWanted (graph_at reading.nodes) tips hidden number → (id : ObjectId) × Names ids number id
    name_of_wanted number wanted = ⊎_elim (λ reached. name_of_reached tips (names_of ids tips) tip_names number reached)
        (λ reached. name_of_reached hidden (names_of ids hidden) hidden_names number reached) wanted.reached

    hides_numbered : (number : ℕ) → IsWanted (graph_at reading.nodes) tips hidden number
        → IsReachedFrom (graph_at reading.nodes) hidden number
    hides_numbered number wanted =
        let name = name_of_wanted number wanted in
        let it = reached_numbered ids reading.nodes is.distinct hidden (names_of ids hidden) hidden_names name.0
        (end.hides name.0 (wanted_named number name.0 name.1 wanted)) in
        subst (λ n. IsReachedFrom (graph_at reading.nodes) hidden n) (is.distinct it.0 number name.0 it.1 name.1) it.2

    selected_is_read : (id : ObjectId) → IsSelected (named_graph ids reading.nodes) (names_of ids tips) (names_of ids hidden) id
        → IsRead (named_graph ids reading.nodes) id
    selected_is_read id selected = ⊎_elim (λ read. read)
        (λ unread. absurd (selected.shown (end.hides id (record { unread = unread; reached = inl selected.reached }))))
        (read_or_not_named id)

    module _ (selected : List Bool) (marks : (number : ℕ) → IsMarked selected number ↔ IsSelected (graph_at reading.nodes) tips hidden number) where
      pub marked_are_read : AreMarkedRead reading.nodes selected
      marked_are_read number marked =
          let chosen = (marks number).0 marked in
          let name = name_of_reached tips (names_of ids tips) tip_names number chosen.reached in
          read_numbered ids reading.nodes is.distinct number name.0
          (selected_is_read name.0 (selected_named ids reading.nodes is.known is.lengths is.distinct tips hidden (names_of ids tips)
          (names_of ids hidden) tip_names hidden_names number name.0 name.1 chosen)) name.1

      child_is_selected : (child number : ℕ) → IsReachedFrom (graph_at reading.nodes) tips child
          → HasParent (graph_at reading.nodes) child number → IsSelected (graph_at reading.nodes) tips hidden number
          → IsMarked selected child
      child_is_selected child number reached edge chosen = (marks child).1 (record {
        reached = reached;
        shown = λ hides. chosen.shown (reached_from_reaches (graph_at reading.nodes) hidden child number hides
            (reaches_parent (graph_at reading.nodes) child number edge));
      })

      reached_cases : (start number n : ℕ) → Contains tips start → LeadsTo (graph_at reading.nodes) n start number
          → IsSelected (graph_at reading.nodes) tips hidden number
          → Contains tips number ⊎ HasSelectedChild reading.nodes selected number
      reached_cases start number zero contained same chosen = inl (subst (λ n. Contains tips n) same contained)
      reached_cases start number (suc n) contained steps chosen =
          let child = ancestor_has_child (graph_at reading.nodes) n start number steps in
          inr (record {
            child = child.0;
            chosen = child_is_selected child.0 number (start, contained, child.1) child.2 chosen;
            parent = child.2;
          })

      pub marked_are_reached : AreReached reading.nodes selected tips
      marked_are_reached number marked =
          let chosen = (marks number).0 marked in
          let from = chosen.reached in
          reached_cases from.0 number from.2.0 from.1 from.2.1 chosen

      convex : IsConvex (graph_at reading.nodes) (IsMarked selected)
      convex child id last marked edge path end_marked =
          let first = (marks child).0 marked in
          let final = (marks last).0 end_marked in
          (marks id).1 (record {
            reached = reached_from_reaches (graph_at reading.nodes) tips child id first.reached
                (reaches_parent (graph_at reading.nodes) child id edge);
            shown = λ hides. final.shown (reached_from_reaches (graph_at reading.nodes) hidden id last hides path);
          })

      are_names : (d : ObjectId) → AreNames (λ number. get_or ids number d) (graph_at reading.nodes) (named_graph ids reading.nodes)
          (λ number. number < length ids) (IsMarked selected)
          (IsSelected (named_graph ids reading.nodes) (names_of ids tips) (names_of ids hidden))
      are_names d = record {
        injective = λ i j i_known j_known same. is.distinct i j (get_or ids j d)
            (subst (λ v. Names ids i v) same (slice_get-get_or ids i d i_known)) (slice_get-get_or ids j d j_known);
        read_known = λ i node read. subst (λ n. i < n) is.lengths (below_of_name reading.nodes i (Some node) read);
        parents_known = λ i node read. subst (λ n. AllByRecursion (λ p. p < n) node.parents) is.lengths (is.known i node read);
        named = λ i node read. record {
          number = i;
          numbered = node;
          name = slice_get-get_or ids i d (subst (λ n. i < n) is.lengths (below_of_name reading.nodes i (Some node) read));
          read = read;
          parents = zip_of_positions ids d node.parents (subst (λ n. AllByRecursion (λ p. p < n) node.parents) is.lengths (is.known i node read));
          seconds = refl;
        };
        functional = named_is_functional;
        chosen = λ i marked.
            let chosen = (marks i).0 marked in
            let name = name_of_reached tips (names_of ids tips) tip_names i chosen.reached in
            subst (λ v. IsSelected (named_graph ids reading.nodes) (names_of ids tips) (names_of ids hidden) v)
            (sym (get_or_from_slice_get ids i name.0 d name.1))
            (selected_named ids reading.nodes is.known is.lengths is.distinct tips hidden (names_of ids tips) (names_of ids hidden)
            tip_names hidden_names i name.0 name.1 chosen);
        selected = λ i below chosen. (marks i).1 (selected_numbered ids reading.nodes is.known is.lengths is.distinct tips hidden
            (names_of ids tips) (names_of ids hidden) tip_names hidden_names i (get_or ids i d) (slice_get-get_or ids i d below) chosen);
        has_number = λ id chosen.
            let at = reached_numbered ids reading.nodes is.distinct tips (names_of ids tips) tip_names id chosen.reached in
            (at.0, below_of_name ids at.0 id at.1, get_or_from_slice_get ids at.0 id d at.1);
        read = marked_are_read;
      }

      pub walk_of_list : (d : ObjectId) (order : Order) (numbers : List ℕ) (names : List ObjectId) → AllZip (Names ids) numbers names
          → IsListing (graph_at reading.nodes) order (IsMarked selected) tips numbers
          → ((number : ℕ) → Contains numbers number ↔ IsMarked selected number)
          → IsWalk (named_graph ids reading.nodes) order (names_of ids tips) (names_of ids hidden) names
      walk_of_list d order numbers names zip listing exact = walk_of_listing (named_graph ids reading.nodes) named_is_functional order
          (names_of ids tips) (names_of ids hidden) names
          (selected_are_named ids reading.nodes is.known is.lengths is.distinct tips hidden (names_of ids tips) (names_of ids hidden)
          tip_names hidden_names numbers names zip
          (λ number. ((λ has. (marks number).0 ((exact number).0 has)), (λ chosen. (exact number).1 ((marks number).1 chosen)))))
          (once_named ids reading.nodes is.known is.lengths is.distinct numbers names zip
          (listing_is_once (graph_at reading.nodes) order (IsMarked selected) tips numbers listing))
          (children_first_named ids reading.nodes is.known is.lengths is.distinct numbers names zip
          (listing_is_children_first (graph_at reading.nodes) order (IsMarked selected) tips numbers listing convex))
          (subst (λ it. IsListing (named_graph ids reading.nodes) order
          (IsSelected (named_graph ids reading.nodes) (names_of ids tips) (names_of ids hidden)) it names)
          (positions_of_zip ids d tips (names_of ids tips) tip_names)
          (subst (λ it. IsListing (named_graph ids reading.nodes) order
          (IsSelected (named_graph ids reading.nodes) (names_of ids tips) (names_of ids hidden))
          (map (λ number. get_or ids number d) tips) it)
          (positions_of_zip ids d numbers names zip)
          (named_listing (λ number. get_or ids number d) (graph_at reading.nodes) (named_graph ids reading.nodes)
          (λ number. number < length ids) (IsMarked selected)
          (IsSelected (named_graph ids reading.nodes) (names_of ids tips) (names_of ids hidden)) (are_names d) order tips numbers
          is.tips_known listing)))

    -- ---- each graph that has what was given, if no commit is an ancestor of itself

    module _ (F : ObjectId → Option (NodeView ObjectId)) (included : IsIncluded (named_graph ids reading.nodes) (graph_of F))
        (acyclic : IsAcyclic (graph_of F)) where
      bottoms_in_each : HaveBottoms (named_graph ids reading.nodes) (names_of ids tips) (names_of ids hidden)
      bottoms_in_each =
          let given_acyclic : IsAcyclic (named_graph ids reading.nodes) = λ id path. acyclic id
          (path.0, includes_path (named_graph ids reading.nodes) (graph_of F) included (suc path.0) id id path.1) in
          let numbers_acyclic : IsAcyclic (graph_at reading.nodes) = λ number path.
          let it = cycle_named number path in given_acyclic it.0 it.1 in
          have_bottoms_named (bottoms_are_reached reading.nodes tips hidden reading.left reading.right is.left is.right numbers_acyclic
          hides_numbered)

      -- a walk over what was given is one over it
      pub walk_in_each : (order : Order) (names : List ObjectId)
          → IsWalk (named_graph ids reading.nodes) order (names_of ids tips) (names_of ids hidden) names
          → IsWalk (graph_of F) order (names_of ids tips) (names_of ids hidden) names
      walk_in_each = walk_of_settled (named_graph ids reading.nodes) (graph_of F) (names_of ids tips) (names_of ids hidden) included
          (functional_of_function F) acyclic read_or_not_named bottoms_in_each end

      -- what is selected of what was given is selected in it
      pub selected_in_each : (id : ObjectId) → IsSelected (named_graph ids reading.nodes) (names_of ids tips) (names_of ids hidden) id
          ↔ IsSelected (graph_of F) (names_of ids tips) (names_of ids hidden) id
      selected_in_each id =
          let exact = settled_walk_is_exact (named_graph ids reading.nodes) (graph_of F) (names_of ids tips) (names_of ids hidden) included
          (functional_of_function F) acyclic read_or_not_named bottoms_in_each end id in
          ((λ small. exact.0 (selected_is_read id small, small)), (λ large. (exact.1 large).1))

      -- a hidden commit reaches a tip in it exactly if the tip has the mark
      pub hidden_in_each : (number : ℕ) (id : ObjectId) → Names ids number id → Contains (names_of ids tips) id
          → IsMarked reading.right number ↔ IsReachedFrom (graph_of F) (names_of ids hidden) id
      hidden_in_each number id name tip = (
        (λ marked. includes_reached_from (named_graph ids reading.nodes) (graph_of F) included (names_of ids hidden) id
            (reached_named ids reading.nodes is.known is.lengths hidden (names_of ids hidden) hidden_names number id
            ((is.right number).0 marked) name)),
        (λ reached. ⊎_elim (λ marked. marked)
            (λ unmarked. absurd (((selected_in_each id).0 (record {
              reached = (id, tip, reaches_itself (named_graph ids reading.nodes) id);
              shown = λ hides.
                  let it = reached_numbered ids reading.nodes is.distinct hidden (names_of ids hidden) hidden_names id hides in
                  unmarked ((is.right number).1
                  (subst (λ n. IsReachedFrom (graph_at reading.nodes) hidden n) (is.distinct it.0 number id it.1 name) it.2));
            })).shown reached))
            (marked_or_not reading.right number)),
      )

pub error_of_list : (walk : WalkView) (nodes : Nodes) (chosen : List Bool) (error : ListError)
    → (IsCycle (graph_at nodes) (IsMarked chosen) → (id : ObjectId) × HasAncestor (given_graph walk) id id)
    → IsListError nodes chosen error → IsWalkListError walk error
error_of_list walk nodes chosen Cycle cycle is = cycle is
error_of_list walk nodes chosen OutOfMemory cycle is = tt

pub tips_are_below : (tips : List ℕ) (bound : ℕ) → AllByRecursion (λ number. number < bound) tips → AreBelow bound tips
tips_are_below [] bound below k less = absurd (omega arith)
tips_are_below (tip ∷ tips) bound below zero less = below.0
tips_are_below (tip ∷ tips) bound below (suc k) less = tips_are_below tips bound below.1 k (omega arith)
