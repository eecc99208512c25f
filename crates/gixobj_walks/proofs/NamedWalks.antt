-- A walk by numbers is a walk by names.
use Rattle.std.proofs.Common.{◌≡◌, ◌≢◌, ℕ, suc, List, [], ◌∷◌, subst, length}
use Rattle.std.specs.Prelude.{Contains}
use Rattle.std.specs.List.{AllByRecursion, AllZip}
use Rattle.gixobj_walks_graph.specs.Graph.{AreOnce, EachLater, HasAncestor, LeadsTo}
use Rattle.gixobj_walks_graph.specs.Numbered.{AreParentsKnown, Nodes, graph_at}
use Rattle.gixobj_walks_graph.specs.Walks.{AreChildrenFirst, ListsSelected}
use Rattle.gixobj_walks.proofs.NamedEnds.{selected_named, selected_numbered}
use Rattle.gixobj_walks.proofs.NamedPaths.{name_of_contained, name_unique, number_of_contained, numbered_steps, reached_numbered}
use Rattle.gixobj_walks.specs.Named.{AreDistinct, Names, named_graph}

all_of_zip : {A B : Type 0} (Z : A → B → Type 0) (P : A → Type 0) (Q : B → Type 0) → ((a : A) (b : B) → Z a b → P a → Q b)
    → (xs : List A) (ys : List B) → AllZip Z xs ys → AllByRecursion P xs → AllByRecursion Q ys
all_of_zip Z P Q leads [] [] zip all = tt
all_of_zip Z P Q leads [] (y ∷ ys) zip all = absurd zip
all_of_zip Z P Q leads (x ∷ xs) [] zip all = absurd zip
all_of_zip Z P Q leads (x ∷ xs) (y ∷ ys) zip all = (leads x y zip.0 all.0, all_of_zip Z P Q leads xs ys zip.1 all.1)

each_later_of_zip : {A B : Type 0} (Z : A → B → Type 0) (R : A → A → Type 0) (S : B → B → Type 0)
    → ((a a' : A) (b b' : B) → Z a b → Z a' b' → R a a' → S b b') → (xs : List A) (ys : List B) → AllZip Z xs ys → EachLater R xs
    → EachLater S ys
each_later_of_zip Z R S leads [] [] zip each = tt
each_later_of_zip Z R S leads [] (y ∷ ys) zip each = absurd zip
each_later_of_zip Z R S leads (x ∷ xs) [] zip each = absurd zip
each_later_of_zip Z R S leads (x ∷ xs) (y ∷ ys) zip each = (
  all_of_zip Z (R x) (S y) (λ a b name it. leads x a y b zip.0 name it) xs ys zip.1 each.0,
  each_later_of_zip Z R S leads xs ys zip.1 each.1,
)

module _ {V : Type 0} (ids : List V) (nodes : Nodes) (known : AreParentsKnown nodes) (lengths : length nodes ≡ length ids)
    (distinct : AreDistinct ids) where
  pub once_named : (numbers : List ℕ) (names : List V) → AllZip (Names ids) numbers names → AreOnce numbers → AreOnce names
  once_named numbers names zip once = each_later_of_zip (Names ids) (λ m n. m ≢ n) (λ v w. v ≢ w)
      (λ m n v w name other apart same. apart (distinct m n w (subst (λ it. Names ids m it) same name) other)) numbers names zip once

  pub children_first_named : (numbers : List ℕ) (names : List V) → AllZip (Names ids) numbers names
      → AreChildrenFirst (graph_at nodes) numbers → AreChildrenFirst (named_graph ids nodes) names
  children_first_named numbers names zip first = each_later_of_zip (Names ids) (λ m n. ¬ HasAncestor (graph_at nodes) n m)
      (λ v w. ¬ HasAncestor (named_graph ids nodes) w v)
      (λ m n v w name other none path.
      let it = numbered_steps ids nodes distinct (suc path.0) n w v path.1 other in
      none (path.0, subst (λ k. LeadsTo (graph_at nodes) (suc path.0) n k) (distinct it.0 m v it.1 name) it.2)) numbers names zip first

  pub selected_are_named : (tips hidden : List ℕ) (tip_ids hidden_ids : List V) → AllZip (Names ids) tips tip_ids
      → AllZip (Names ids) hidden hidden_ids → (numbers : List ℕ) (names : List V) → AllZip (Names ids) numbers names
      → ListsSelected (graph_at nodes) tips hidden numbers → ListsSelected (named_graph ids nodes) tip_ids hidden_ids names
  selected_are_named tips hidden tip_ids hidden_ids tip_names hidden_names numbers names zip lists id = (
    (λ has.
        let it = number_of_contained ids numbers names zip id has in
        selected_named ids nodes known lengths distinct tips hidden tip_ids hidden_ids tip_names hidden_names it.0 id it.1 ((lists it.0).0 it.2)),
    (λ selected.
        let at = reached_numbered ids nodes distinct tips tip_ids tip_names id selected.reached in
        let number = selected_numbered ids nodes known lengths distinct tips hidden tip_ids hidden_ids tip_names hidden_names at.0 id at.1 selected in
        let found = name_of_contained ids numbers names zip at.0 ((lists at.0).1 number) in
        subst (λ it. Contains names it) (name_unique ids at.0 found.0 id found.1 at.1) found.2),
  )
