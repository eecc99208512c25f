-- Commits that only one of two commits reaches: what is counted by numbers is the count by ids in each larger graph.
use Rattle.std.proofs.Common.{◌≡◌, ◌∙◌, ◌↔◌, ◌++◌, ◌+◌, ◌<◌, ℕ, suc, Bool, true, false, List, [], ◌∷◌, arith, get_or, length, refl, subst, sym}
use Rattle.std.proofs.Common.{length-append}
use Rattle.std.proofs.lemmas.List.Elements.{Contains-get_or, recursion_from_All}
use Rattle.std.proofs.lemmas.List.Kept.{AllPairs-from_increasing}
use Rattle.std.specs.List.{AllByRecursion, AllPairs, AllZip}
use Rattle.std.specs.List.Sorted.{IsStrictlyIncreasing}
use Rattle.std.specs.Prelude.{Contains, IsTrue, Option}
use Rattle.gixobj_hash.specs.declared.hash.object_id.ObjectId.{ObjectId}
use Rattle.gixobj_walks_graph.specs.Graph.{AreOnce, EachLater, HasCount, IsAcyclic, IsIncluded, IsRead, NodeView}
use Rattle.gixobj_walks_graph.specs.Numbered.{graph_at}
use Rattle.gixobj_walks_graph.specs.Walks.{IsSelected}
use Rattle.gixobj_walks_marks.proofs.Bottoms.{selected_by_marks}
use Rattle.gixobj_walks_marks.proofs.Marked.{marked_within}
use Rattle.gixobj_walks_marks.proofs.Tests.{lists_more}
use Rattle.gixobj_walks_marks.specs.Chosen.{IsChosen}
use Rattle.gixobj_walks_marks.specs.Marks.{HasMarks}
use Rattle.gixobj_walks_marks.specs.Readings.{ReadingView}
use Rattle.gixobj_walks_marks.specs.Settled.{IsSettledWalk}
use Rattle.gixobj_walks.proofs.Machines.{names_of_found, names_of_zip, settled_of_all_read}
use Rattle.gixobj_walks.proofs.NamedEnds.{settled_walk_named}
use Rattle.gixobj_walks.proofs.NamedWalks.{once_named, selected_are_named}
use Rattle.gixobj_walks.proofs.WalkLists.{selected_in_each}
use Rattle.gixobj_walks.specs.Difference.{AreSettledApart, HasChosenCount}
use Rattle.gixobj_walks.specs.Machine.{IsWalking, names_of}
use Rattle.gixobj_walks.specs.Named.{Names, graph_of, named_graph}
use Rattle.gixobj_walks.specs.Search.{IsSearching}

-- ---- lists

each_later_of_pairs : {X : Type 0} (R : X → X → Type 0) (xs : List X) → AllPairs R xs → EachLater R xs
each_later_of_pairs R [] pairs = tt
each_later_of_pairs R (x ∷ xs) pairs = (
  recursion_from_All (R x) xs (λ k d less. pairs 0 (suc k) d (omega arith) (omega (arith, less))),
  each_later_of_pairs R xs (λ i j d less inside. pairs (suc i) (suc j) d (omega (arith, less)) (omega (arith, inside))),
)

below_differs : (m n : ℕ) → m < n → ¬ (m ≡ n)
below_differs m n less same = omega (arith, less, same)

once_of_ascending : (numbers : List ℕ) → IsStrictlyIncreasing numbers → AreOnce numbers
once_of_ascending numbers ascending = each_later_of_pairs (λ m n. ¬ (m ≡ n)) numbers
    (λ i j d less inside. below_differs (get_or numbers i d) (get_or numbers j d)
    (AllPairs-from_increasing numbers ascending i j d less inside))

below_of_listed : (numbers : List ℕ) (bound : ℕ) → ((number : ℕ) → Contains numbers number → number < bound)
    → AllByRecursion (λ number. number < bound) numbers
below_of_listed numbers bound less = recursion_from_All (λ number. number < bound) numbers
    (λ k d inside. less (get_or numbers k d) (Contains-get_or numbers k d inside))

length_of_zip : {A B : Type 0} (R : A → B → Type 0) (xs : List A) (ys : List B) → AllZip R xs ys → length xs ≡ length ys
length_of_zip R [] [] zip = refl
length_of_zip R [] (y ∷ ys) zip = absurd zip
length_of_zip R (x ∷ xs) [] zip = absurd zip
length_of_zip R (x ∷ xs) (y ∷ ys) zip = let rest : length xs ≡ length ys = length_of_zip R xs ys zip.1 in omega arith

-- ---- counts by numbers

pub none_chosen : (left right : List Bool) → HasChosenCount left right 0 0
none_chosen left right = record {
  numbers = [];
  lists = record {
    exact = λ number. ((λ (k, below, is). absurd (omega (arith, below))), (λ (below, is). absurd (omega (arith, below))));
    ascending = λ k less. absurd (omega (arith, less));
  };
  count_is = refl;
  maximum = omega arith;
}

pub one_chosen : (left right : List Bool) (bound count : ℕ) (is : Bool) → (IsTrue is ↔ IsChosen left right bound)
    → HasChosenCount left right bound count → is ≡ true → HasChosenCount left right (bound + 1) (count + 1)
one_chosen left right bound count is decides has true_is =
    let more : length (has.numbers ++ bound ∷ []) ≡ length has.numbers + 1 = omega (arith, length-append has.numbers (bound ∷ [])) in
    record {
      numbers = has.numbers ++ bound ∷ [];
      lists = lists_more (IsChosen left right) bound has.numbers (has.numbers ++ bound ∷ []) true
          (subst (λ b. IsTrue b ↔ IsChosen left right bound) true_is decides) refl has.lists;
      count_is = omega (arith, has.count_is, more);
      maximum = omega (arith, has.maximum);
    }

pub not_chosen : (left right : List Bool) (bound count : ℕ) (is : Bool) → (IsTrue is ↔ IsChosen left right bound)
    → HasChosenCount left right bound count → is ≡ false → HasChosenCount left right (bound + 1) count
not_chosen left right bound count is decides has false_is = record {
  numbers = has.numbers;
  lists = lists_more (IsChosen left right) bound has.numbers has.numbers false
      (subst (λ b. IsTrue b ↔ IsChosen left right bound) false_is decides) refl has.lists;
  count_is = has.count_is;
  maximum = omega (arith, has.maximum);
}

-- ---- both sides

-- the same with the sides exchanged
exchanged : ReadingView → ReadingView
exchanged reading = record { nodes = reading.nodes; left = reading.right; right = reading.left; next = reading.next }

walking_exchanged : (ids : List ObjectId) (reading : ReadingView) (tips hidden : List ℕ) → IsWalking ids reading tips hidden false
    → IsWalking ids (exchanged reading) hidden tips false
unfolding exchanged
walking_exchanged ids reading tips hidden is = record {
  lengths = is.lengths;
  known = is.known;
  distinct = is.distinct;
  tips_known = is.hidden_known;
  hidden_known = is.tips_known;
  left = is.right;
  right = is.left;
  end = λ settled. absurd (cc settled);
}

name_of_start : (ids : List ObjectId) (number : ℕ) (id : ObjectId) → Names ids number id → names_of ids (number ∷ []) ≡ id ∷ []
name_of_start ids number id name = names_of_found ids (number ∷ []) (id ∷ []) (name, tt)

-- the end by numbers is the end by names
pub apart_end : (ids : List ObjectId) (reading : ReadingView) (one other : ObjectId) (settled : Bool)
    → ((m n : ℕ) → HasMarks reading.nodes (m ∷ []) reading.left → HasMarks reading.nodes (n ∷ []) reading.right → IsTrue settled
    → AreSettledApart (graph_at reading.nodes) m n)
    → (m n : ℕ) → Names ids m one → Names ids n other → IsWalking ids reading (m ∷ []) (n ∷ []) false → IsTrue settled
    → AreSettledApart (named_graph ids reading.nodes) one other
apart_end ids reading one other settled tested m n one_name other_name kept true_is =
    let both = tested m n kept.left kept.right true_is in
    record {
      left = settled_walk_named ids reading.nodes kept.known kept.lengths kept.distinct (m ∷ []) (n ∷ []) (one ∷ []) (other ∷ [])
          (one_name, tt) (other_name, tt) both.left;
      right = settled_walk_named ids reading.nodes kept.known kept.lengths kept.distinct (n ∷ []) (m ∷ []) (other ∷ []) (one ∷ [])
          (other_name, tt) (one_name, tt) both.right;
    }

settled_by_names : (ids : List ObjectId) (reading : ReadingView) (m n : ℕ) (one other : ObjectId) → Names ids m one → Names ids n other
    → IsSettledWalk (named_graph ids reading.nodes) (names_of ids (m ∷ [])) (names_of ids (n ∷ []))
    → IsSettledWalk (named_graph ids reading.nodes) (one ∷ []) (other ∷ [])
settled_by_names ids reading m n one other one_name other_name settled =
    subst (λ tips. IsSettledWalk (named_graph ids reading.nodes) tips (other ∷ [])) (name_of_start ids m one one_name)
    (subst (λ hidden. IsSettledWalk (named_graph ids reading.nodes) (names_of ids (m ∷ [])) hidden) (name_of_start ids n other other_name)
    settled)

pub apart_of_all_read : (ids : List ObjectId) (reading : ReadingView) (one other : ObjectId) (settled : Bool) (Ended : Type 0)
    → IsSearching ids reading one other settled Ended
    → ((number : ℕ) → number < length reading.nodes → IsRead (graph_at reading.nodes) number)
    → AreSettledApart (named_graph ids reading.nodes) one other
unfolding exchanged
apart_of_all_read ids reading one other settled Ended is read = record {
  left = settled_by_names ids reading is.one_number is.other_number one other is.one_name is.other_name
      (settled_of_all_read ids reading (is.one_number ∷ []) (is.other_number ∷ []) false is.kept read);
  right = settled_by_names ids reading is.other_number is.one_number other one is.other_name is.one_name
      (settled_of_all_read ids (exchanged reading) (is.other_number ∷ []) (is.one_number ∷ []) false
      (walking_exchanged ids reading (is.one_number ∷ []) (is.other_number ∷ []) is.kept) read);
}

-- what is counted on one side is the count of a walk in each graph that has what was given
count_of_side : (ids : List ObjectId) (reading : ReadingView) (m n : ℕ) (one other : ObjectId) → Names ids m one → Names ids n other
    → IsWalking ids reading (m ∷ []) (n ∷ []) false → IsSettledWalk (named_graph ids reading.nodes) (one ∷ []) (other ∷ [])
    → (F : ObjectId → Option (NodeView ObjectId)) → IsIncluded (named_graph ids reading.nodes) (graph_of F) → IsAcyclic (graph_of F)
    → length reading.left ≡ length reading.nodes → (count : ℕ)
    → HasChosenCount reading.left reading.right (length reading.left) count
    → HasCount (IsSelected (graph_of F) (one ∷ []) (other ∷ [])) count
count_of_side ids reading m n one other one_name other_name kept end F included acyclic lengths count has =
    let one_is = name_of_start ids m one one_name in
    let other_is = name_of_start ids n other other_name in
    let named_end = subst (λ tips. IsSettledWalk (named_graph ids reading.nodes) tips (names_of ids (n ∷ []))) (sym one_is)
    (subst (λ hidden. IsSettledWalk (named_graph ids reading.nodes) (one ∷ []) hidden) (sym other_is) end) in
    let same : (id : ObjectId) → IsSelected (named_graph ids reading.nodes) (one ∷ []) (other ∷ []) id
    ↔ IsSelected (graph_of F) (one ∷ []) (other ∷ []) id =
    λ id. subst (λ tips. IsSelected (named_graph ids reading.nodes) tips (other ∷ []) id ↔ IsSelected (graph_of F) tips (other ∷ []) id)
    one_is
    (subst (λ hidden. IsSelected (named_graph ids reading.nodes) (names_of ids (m ∷ [])) hidden id
    ↔ IsSelected (graph_of F) (names_of ids (m ∷ [])) hidden id) other_is
    (selected_in_each ids reading (m ∷ []) (n ∷ []) false kept named_end F included acyclic id)) in
    let below : AllByRecursion (λ number. number < length ids) has.numbers =
    below_of_listed has.numbers (length ids)
    (λ number inside. let less = ((has.lists.exact number).0 inside).0 in omega (arith, less, lengths, kept.lengths)) in
    let zip = names_of_zip ids has.numbers below in
    let marks = selected_by_marks reading.nodes (m ∷ []) (n ∷ []) reading.left reading.right kept.left kept.right in
    let named = selected_are_named ids reading.nodes kept.known kept.lengths kept.distinct (m ∷ []) (n ∷ []) (one ∷ []) (other ∷ [])
    (one_name, tt) (other_name, tt) has.numbers (names_of ids has.numbers) zip
    (λ number. (
      (λ inside. (marks number).0 ((has.lists.exact number).0 inside).1),
      (λ selected.
          let chosen = (marks number).1 selected in
          (has.lists.exact number).1 (marked_within reading.left number chosen.0, chosen)),
    )) in
    record {
      ids = names_of ids has.numbers;
      exact = λ id. ((λ inside. (same id).0 ((named id).0 inside)), (λ selected. (named id).1 ((same id).1 selected)));
      once = once_named ids reading.nodes kept.known kept.lengths kept.distinct has.numbers (names_of ids has.numbers) zip
          (once_of_ascending has.numbers has.lists.ascending);
      count_is = has.count_is ∙ length_of_zip (Names ids) has.numbers (names_of ids has.numbers) zip;
    }

module _ (ids : List ObjectId) (reading : ReadingView) (one other : ObjectId) (settled : Bool) (Ended : Type 0)
    (is : IsSearching ids reading one other settled Ended) (end : AreSettledApart (named_graph ids reading.nodes) one other)
    (F : ObjectId → Option (NodeView ObjectId)) (included : IsIncluded (named_graph ids reading.nodes) (graph_of F))
    (acyclic : IsAcyclic (graph_of F)) (left_length : length reading.left ≡ length reading.nodes)
    (right_length : length reading.right ≡ length reading.nodes) (count : ℕ) where
  pub count_left : HasChosenCount reading.left reading.right (length reading.left) count
      → HasCount (IsSelected (graph_of F) (one ∷ []) (other ∷ [])) count
  count_left has = count_of_side ids reading is.one_number is.other_number one other is.one_name is.other_name is.kept end.left
      F included acyclic left_length count has

  pub count_right : HasChosenCount reading.right reading.left (length reading.right) count
      → HasCount (IsSelected (graph_of F) (other ∷ []) (one ∷ [])) count
  unfolding exchanged
  count_right has = count_of_side ids (exchanged reading) is.other_number is.one_number other one is.other_name is.one_name
      (walking_exchanged ids reading (is.one_number ∷ []) (is.other_number ∷ []) is.kept) end.right
      F included acyclic right_length count has
