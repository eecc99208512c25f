-- What a walk keeps, when it begins and when it is given a commit.
use Rattle.std.proofs.Common.{◌≡◌, ◌∙◌, ◌++◌, ◌⊎◌, ◌↔◌, ℕ, ◌+◌, ◌-◌, ◌<◌, ◌≤◌, Bool, true, false, List, [], ◌∷◌, set, replicate, ⊎_elim, refl, sym, ap, subst}
use Rattle.std.proofs.Common.{length, length-append, length-set, arith}
use Rattle.std.proofs.lemmas.List.{length-replicate}
use Rattle.std.specs.Prelude.{Contains, Option, Some, None, Result, Ok, Err, IfNone, IfOk, IsTrue, slice_get}
use Rattle.std.specs.List.{AllByRecursion, AllZip}
use Rattle.gixobj_hash.specs.declared.hash.object_id.ObjectId.{ObjectId}
use Rattle.gixobj_walks_graph.specs.Graph.{NodeView}
use Rattle.gixobj_walks_graph.specs.Numbered.{AreParentsKnown, Nodes, graph_at}
use Rattle.gixobj_walks_marks.specs.Marks.{HasMarks}
use Rattle.gixobj_walks_marks.specs.Readings.{KeepsMarks, ReadingView}
use Rattle.gixobj_walks_marks.specs.Settled.{IsSettledWalk, IsWanted}
use Rattle.gixobj_walks_graph.specs.Graph.{IsRead}
use Rattle.gixobj_walks.proofs.NamedEnds.{settled_walk_named}
use Rattle.gixobj_walks.proofs.NamedPaths.{read_named, reached_numbered}
use Rattle.gixobj_walks_marks.proofs.Marked.{same_or_other, slice_get-set_other, slice_get-set_same}
use Rattle.gixobj_walks.proofs.GivenCommits.{get_in_shorter, given_one_more, length_longer, same_names}
use Rattle.gixobj_walks.proofs.LargerGraphs.{all_weaker}
use Rattle.gixobj_walks.proofs.NamedLists.{names_extend}
use Rattle.gixobj_walks.proofs.NamedPaths.{below_of_name, name_below, number_of_contained}
use Rattle.gixobj_walks.specs.Machine.{IsWalking, names_of, wanted_of}
use Rattle.gixobj_walks.specs.Named.{AreDistinct, Extends, Names, named_graph}

-- what follows if there is no value
pub none_weaker : {X : Type 0} (found : Option X) (P Q : Type 0) → (P → Q) → IfNone found P → IfNone found Q
none_weaker None P Q weaker is = weaker is
none_weaker (Some x) P Q weaker is = tt

-- what follows from two facts of a value
pub ok_of_both : {X E : Type 0} (result : Result X E) {P Q S : X → Type 0} → IfOk result P → IfOk result Q
    → ((x : X) → P x → Q x → S x) → IfOk result S
ok_of_both (Ok x) first second both = both x first second
ok_of_both (Err error) first second both = tt

-- ---- names of numbers

name_first : {V : Type 0} (ids : List V) (number : ℕ) (numbers : List ℕ) (id : V) → Names ids number id
    → names_of ids (number ∷ numbers) ≡ id ∷ names_of ids numbers
name_first ids number numbers id name = rw name

pub names_of_zip : {V : Type 0} (ids : List V) (numbers : List ℕ) → AllByRecursion (λ number. number < length ids) numbers
    → AllZip (Names ids) numbers (names_of ids numbers)
names_of_zip ids [] below = tt
names_of_zip ids (number ∷ numbers) below =
    let first = name_below ids number below.0 in
    subst (λ it. AllZip (Names ids) (number ∷ numbers) it) (sym (name_first ids number numbers first.0 first.1))
    (first.1, names_of_zip ids numbers below.1)

pub below_of_zip : {V : Type 0} (ids : List V) (numbers : List ℕ) (names : List V) → AllZip (Names ids) numbers names
    → AllByRecursion (λ number. number < length ids) numbers
below_of_zip ids [] names zip = tt
below_of_zip ids (number ∷ numbers) [] zip = absurd zip
below_of_zip ids (number ∷ numbers) (name ∷ names) zip = (below_of_name ids number name zip.0, below_of_zip ids numbers names zip.1)

-- a name of numbers has one of them
pub number_of_name : {V : Type 0} (ids : List V) (numbers : List ℕ) → AllByRecursion (λ number. number < length ids) numbers
    → (id : V) → Contains (names_of ids numbers) id → (number : ℕ) × Names ids number id
number_of_name ids numbers below id has =
    let it = number_of_contained ids numbers (names_of ids numbers) (names_of_zip ids numbers below) id has in
    (it.0, it.1)

length_extends : {V : Type 0} (old new : List V) → Extends old new → length old ≤ length new
length_extends old new (more, is) = omega (arith, ap length is, length-append old more)

pub below_extends : {V : Type 0} (old new : List V) → Extends old new → (numbers : List ℕ)
    → AllByRecursion (λ number. number < length old) numbers → AllByRecursion (λ number. number < length new) numbers
below_extends old new extends numbers below =
    let longer = length_extends old new extends in
    all_weaker (λ number. number < length old) (λ number. number < length new) (λ number less. omega (arith, less, longer)) numbers below

-- the names stay, whatever ids follow
pub names_of_extends : {V : Type 0} (old new : List V) → Extends old new → (numbers : List ℕ)
    → AllByRecursion (λ number. number < length old) numbers → names_of new numbers ≡ names_of old numbers
names_of_extends old new extends numbers below = same_names new numbers (names_of new numbers) (names_of old numbers)
    (names_of_zip new numbers (below_extends old new extends numbers below))
    (names_extend old new extends numbers (names_of old numbers) (names_of_zip old numbers below))

-- the names of numbers are the list that the numbers were found for
pub names_of_found : {V : Type 0} (ids : List V) (numbers : List ℕ) (names : List V) → AllZip (Names ids) numbers names
    → names_of ids numbers ≡ names
names_of_found ids numbers names zip = same_names ids numbers (names_of ids numbers) names
    (names_of_zip ids numbers (below_of_zip ids numbers names zip)) zip

-- ---- a commit is given

module _ (nodes : Nodes) (number added : ℕ) (parents : List ℕ) (seconds : ℕ) where
  larger : Nodes
  larger = set (nodes ++ replicate added None) number (Some (record { parents = parents; seconds = seconds }))

  pub length_larger : length (set (nodes ++ replicate added None) number (Some (record { parents = parents; seconds = seconds })))
      ≡ length nodes + added
  length_larger = length-set (nodes ++ replicate added None) number _ ∙ length-append nodes (replicate added None)
      ∙ ap (λ n. length nodes + n) (length-replicate added None)

  pub parents_known_larger : AreParentsKnown nodes → number < length nodes
      → AllByRecursion (λ parent. parent < length nodes + added) parents
      → AreParentsKnown (set (nodes ++ replicate added None) number (Some (record { parents = parents; seconds = seconds })))
  parents_known_larger known inside below other node is =
      subst (λ n. AllByRecursion (λ parent. parent < n) node.parents) (sym length_larger)
      (⊎_elim
      (λ same.
      let here : node ≡ record { parents = parents; seconds = seconds } =
      cc (
        slice_get-set_same (nodes ++ replicate added None) number (Some (record { parents = parents; seconds = seconds }))
            (length_longer nodes added number inside),
        is,
        same,
      ) in
      subst (λ (it : NodeView ℕ). AllByRecursion (λ parent. parent < length nodes + added) it.parents) (sym here) below)
      (λ apart.
      let before = get_in_shorter nodes added other node (sym (slice_get-set_other (nodes ++ replicate added None) number other _ apart) ∙ is) in
      all_weaker (λ parent. parent < length nodes) (λ parent. parent < length nodes + added) (λ parent less. omega (arith, less))
      node.parents (known other node before))
      (same_or_other number other))

-- what is wanted has a number, which is next
pub wanted_number : (settled : Bool) (ids : List ObjectId) (next : Option ℕ) (id : ObjectId) → wanted_of settled ids next ≡ Some id
    → (number : ℕ) × (settled ≡ false) × (next ≡ Some number) × Names ids number id
wanted_number true ids next id is = absurd (cc)
wanted_number false ids None id is = absurd (cc)
wanted_number false ids (Some number) id is = (number, refl, refl, is)

-- what is wanted is the name of the next number
pub wanted_unread : (settled : Bool) (ids : List ObjectId) (next : Option ℕ) (id : ObjectId) → wanted_of settled ids next ≡ Some id
    → wanted_of false ids next ≡ Some id
wanted_unread true ids next id is = absurd (cc)
wanted_unread false ids next id is = is

-- what is kept when a commit is given
pub walking_given : (old new : List ObjectId) (reading done : ReadingView) (tips hidden : List ℕ) (settled : Bool) (number added : ℕ)
    (parents : List ℕ) (seconds : ℕ) → IsWalking old reading tips hidden settled → Extends old new → AreDistinct new
    → number < length reading.nodes → added ≡ length new - length reading.nodes
    → AllByRecursion (λ parent. parent < length new) parents
    → done.nodes ≡ set (reading.nodes ++ replicate added None) number (Some (record { parents = parents; seconds = seconds }))
    → KeepsMarks reading.nodes reading.left done.nodes done.left → KeepsMarks reading.nodes reading.right done.nodes done.right
    → IsWalking new done tips hidden false
walking_given old new reading done tips hidden settled number added parents seconds is extends distinct inside count below nodes left right =
    let longer = length_extends old new extends in
    let total : length reading.nodes + added ≡ length new = omega (arith, longer, is.lengths) in
    let larger_length = length_larger reading.nodes number added parents seconds in
    record {
      lengths = ap length nodes ∙ larger_length ∙ total;
      known = subst (λ it. AreParentsKnown it) (sym nodes) (parents_known_larger reading.nodes number added parents seconds is.known inside
          (subst (λ n. AllByRecursion (λ parent. parent < n) parents) (sym total) below));
      distinct = distinct;
      tips_known = below_extends old new extends tips is.tips_known;
      hidden_known = below_extends old new extends hidden is.hidden_known;
      left = left tips is.left;
      right = right hidden is.right;
      end = λ settled. absurd (not_settled settled);
    }
  where
    not_settled : ¬ IsTrue false
    not_settled is = cc is

-- what is kept if a test says whether enough is read
pub walking_settled : (ids : List ObjectId) (reading : ReadingView) (tips hidden : List ℕ) → IsWalking ids reading tips hidden false
    → (settled : Bool) → (HasMarks reading.nodes tips reading.left → HasMarks reading.nodes hidden reading.right → IsTrue settled
    → IsSettledWalk (graph_at reading.nodes) tips hidden)
    → IsWalking ids reading tips hidden settled
walking_settled ids reading tips hidden is settled tested = record {
  lengths = is.lengths;
  known = is.known;
  distinct = is.distinct;
  tips_known = is.tips_known;
  hidden_known = is.hidden_known;
  left = is.left;
  right = is.right;
  end = tested is.left is.right;
}

-- the graph of the commits that were given
pub given_walk : (old new : List ObjectId) (nodes done : Nodes) (added number : ℕ) (parents : List ℕ) (seconds : ℕ) (id : ObjectId)
    (names : List ObjectId) → Extends old new → AreParentsKnown nodes → length nodes ≡ length old → Names old number id
    → slice_get nodes number ≡ Some None → AllZip (Names new) parents names
    → done ≡ set (nodes ++ replicate added None) number (Some (record { parents = parents; seconds = seconds }))
    → (v : ObjectId) (node : NodeView ObjectId) → named_graph new done v node
    ↔ ((named_graph old nodes v node) ⊎ ((v ≡ id) × (node ≡ record { parents = names; seconds = seconds })))
given_walk old new nodes done added number parents seconds id names extends known lengths name unread zip is v node =
    subst (λ it. named_graph new it v node
    ↔ ((named_graph old nodes v node) ⊎ ((v ≡ id) × (node ≡ record { parents = names; seconds = seconds })))) (sym is)
    (given_one_more old new nodes added number parents seconds id names extends known lengths name unread zip v node)

-- if everything that is known is read, nothing is wanted
module _ (ids : List ObjectId) (reading : ReadingView) (tips hidden : List ℕ) (settled : Bool)
    (is : IsWalking ids reading tips hidden settled) where
  nothing_wanted : ((number : ℕ) → number < length reading.nodes → IsRead (graph_at reading.nodes) number) → (id : ObjectId)
      → ¬ IsWanted (named_graph ids reading.nodes) (names_of ids tips) (names_of ids hidden) id
  nothing_wanted read id wanted = ⊎_elim
      (λ reached.
      let it = reached_numbered ids reading.nodes is.distinct tips (names_of ids tips) (names_of_zip ids tips is.tips_known) id reached in
      let below : it.0 < length reading.nodes = subst (λ n. it.0 < n) (sym is.lengths) (below_of_name ids it.0 id it.1) in
      wanted.unread (read_named ids reading.nodes is.known is.lengths it.0 id (read it.0 below) it.1))
      (λ reached.
      let it = reached_numbered ids reading.nodes is.distinct hidden (names_of ids hidden) (names_of_zip ids hidden is.hidden_known) id reached in
      let below : it.0 < length reading.nodes = subst (λ n. it.0 < n) (sym is.lengths) (below_of_name ids it.0 id it.1) in
      wanted.unread (read_named ids reading.nodes is.known is.lengths it.0 id (read it.0 below) it.1))
      wanted.reached

  pub settled_of_all_read : ((number : ℕ) → number < length reading.nodes → IsRead (graph_at reading.nodes) number)
      → IsSettledWalk (named_graph ids reading.nodes) (names_of ids tips) (names_of ids hidden)
  settled_of_all_read read = record {
    hides = λ id wanted. absurd (nothing_wanted read id wanted);
    below = λ id bottom wanted last. absurd (nothing_wanted read id wanted);
  }

  pub settled_of_test : settled ≡ true → IsSettledWalk (named_graph ids reading.nodes) (names_of ids tips) (names_of ids hidden)
  settled_of_test true_is = settled_walk_named ids reading.nodes is.known is.lengths is.distinct tips hidden (names_of ids tips)
      (names_of ids hidden) (names_of_zip ids tips is.tips_known) (names_of_zip ids hidden is.hidden_known)
      (is.end true_is)
