-- Entries of a known graph, and how many commits are marked.
use Rattle.std.proofs.Common.{◌≡◌, ◌≢◌, ◌∙◌, ◌↔◌, ◌+◌, ◌<◌, ℕ, zero, suc, Bool, true, false, List, [], ◌∷◌, Some, Contains, refl, sym, ap, subst}
use Rattle.std.proofs.Common.{All, None, length, ⊎_elim, arith, cond}
use Rattle.std.specs.Prelude.{count_by}
use Rattle.std.specs.List.{AllByRecursion}
use Rattle.std.proofs.lemmas.Bool.{false≢true}
use Rattle.std.proofs.lemmas.List.Elements.{Contains-append_cases, Contains-append_left, Contains-append_right}
use Rattle.std.proofs.lemmas.List.Sums.{sum_by-cons}
use Rattle.std.proofs.lemmas.Option.{get_or_from_slice_get, same_Some, slice_get-get_or, slice_get_within}
use Rattle.gixobj_walks_graph.specs.Graph.{AreOnce, NodeView}
use Rattle.gixobj_walks_graph.specs.Numbered.{IsMarked, Nodes}
use Rattle.gixobj_walks_marks.proofs.Marked.{from_each_contained, marked_within, nothing_contained, one_contained, one_contains}
use Rattle.gixobj_walks_known.specs.Known.{IsKnownEntry, IsKnownGraph}

-- ---- known graphs

pub known_from_entries : (nodes : Nodes) → All (IsKnownEntry (length nodes)) nodes → IsKnownGraph nodes
known_from_entries nodes all = record {
  read = λ number below.
      let it = all number None below in
      (it.0, slice_get-get_or nodes number None below ∙ ap Some it.1);
  parents = λ number node named.
      let below = slice_get_within nodes number (Some node) named in
      let it = all number None below in
      let same : Some it.0 ≡ Some node = sym it.1 ∙ get_or_from_slice_get nodes number (Some node) None named in
      subst (λ (n : NodeView ℕ). AllByRecursion (λ parent. parent < length nodes) n.parents) (same_Some it.0 node same) it.2;
}

pub entries_of_known : (nodes : Nodes) → IsKnownGraph nodes → All (IsKnownEntry (length nodes)) nodes
entries_of_known nodes known number d below =
    let it = known.read number below in (
      it.0,
      get_or_from_slice_get nodes number (Some it.0) d it.1,
      known.parents number it.0 it.1,
    )

-- ---- counts

marked_from : ℕ → List Bool → List ℕ
marked_from n [] = []
marked_from n (true ∷ marks) = n ∷ marked_from (n + 1) marks
marked_from n (false ∷ marks) = marked_from (n + 1) marks

length_of_marked : (n : ℕ) (marks : List Bool) → count_by (λ mark. mark) marks ≡ length (marked_from n marks)
unfolding marked_from
length_of_marked n [] = refl
length_of_marked n (true ∷ marks) =
    let rest = length_of_marked (n + 1) marks in
    let step = sum_by-cons (λ (mark : Bool). cond mark 1 0) true marks in
    omega (arith, rest, step)
length_of_marked n (false ∷ marks) =
    let rest = length_of_marked (n + 1) marks in
    let step = sum_by-cons (λ (mark : Bool). cond mark 1 0) false marks in
    omega (arith, rest, step)

-- a number of the list is that of a mark
marked_of_contained : (n : ℕ) (marks : List Bool) (number : ℕ) → Contains (marked_from n marks) number
    → (k : ℕ) × (number ≡ n + k) × IsMarked marks k
unfolding marked_from
marked_of_contained n [] number has = absurd (nothing_contained number has)
marked_of_contained n (true ∷ marks) number has = ⊎_elim
    (λ here. let same = one_contained n number here in (0, omega (arith, same), refl))
    (λ there.
    let it = marked_of_contained (n + 1) marks number there in
    let same = it.1 in (suc it.0, omega (arith, same), it.2))
    (Contains-append_cases (n ∷ []) (marked_from (n + 1) marks) number has)
marked_of_contained n (false ∷ marks) number has =
    let it = marked_of_contained (n + 1) marks number has in
    let same = it.1 in (suc it.0, omega (arith, same), it.2)

-- the number of a mark is in the list
contained_of_marked : (n : ℕ) (marks : List Bool) (k : ℕ) → IsMarked marks k → Contains (marked_from n marks) (n + k)
unfolding marked_from
contained_of_marked n [] k is = let inside = marked_within [] k is in absurd (omega (arith, inside))
contained_of_marked n (true ∷ marks) zero is =
    subst (λ m. Contains (n ∷ marked_from (n + 1) marks) m) (omega arith)
    (Contains-append_left (n ∷ []) (marked_from (n + 1) marks) n (one_contains n))
contained_of_marked n (true ∷ marks) (suc k) is =
    let same : (n + 1) + k ≡ n + suc k = omega arith in
    Contains-append_right (n ∷ []) (marked_from (n + 1) marks) (n + suc k)
    (subst (λ m. Contains (marked_from (n + 1) marks) m) same (contained_of_marked (n + 1) marks k is))
contained_of_marked n (false ∷ marks) zero is = absurd (false≢true (same_Some false true is))
contained_of_marked n (false ∷ marks) (suc k) is =
    let same : (n + 1) + k ≡ n + suc k = omega arith in
    subst (λ m. Contains (marked_from (n + 1) marks) m) same (contained_of_marked (n + 1) marks k is)

-- the list has each number once
once_marked : (n : ℕ) (marks : List Bool) → AreOnce (marked_from n marks)
unfolding marked_from
once_marked n [] = tt
once_marked n (true ∷ marks) = (
  from_each_contained (λ number. n ≢ number) (marked_from (n + 1) marks) (λ number has same.
      let it = marked_of_contained (n + 1) marks number has in
      let is = it.1 in omega (arith, is, same)),
  once_marked (n + 1) marks,
)
once_marked n (false ∷ marks) = once_marked (n + 1) marks

-- as many commits are selected as are marked
pub count_of_marks : {P : ℕ → Type 0} (marks : List Bool) → ((number : ℕ) → IsMarked marks number ↔ P number)
    → (ids : List ℕ) × ((number : ℕ) → Contains ids number ↔ P number) × AreOnce ids
    × (count_by (λ mark. mark) marks ≡ length ids)
count_of_marks {P} marks exact = (
  marked_from 0 marks,
  (λ number. (
    (λ has.
        let it = marked_of_contained 0 marks number has in
        let same : it.0 ≡ number = omega (arith, it.1) in
        (exact number).0 (subst (λ k. IsMarked marks k) same it.2)),
    (λ holds.
        let same : 0 + number ≡ number = omega arith in
        subst (λ k. Contains (marked_from 0 marks) k) same (contained_of_marked 0 marks number ((exact number).1 holds))),
  )),
  once_marked 0 marks,
  length_of_marked 0 marks,
)
