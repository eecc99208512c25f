-- The commits that a walk was given: one more after each read.
use Rattle.std.proofs.Common.{◌≡◌, ◌≢◌, ◌∙◌, ◌++◌, ◌⊎◌, ◌↔◌, ℕ, zero, suc, ◌<◌, List, [], ◌∷◌, set, replicate, ⊎_elim, inl, inr, refl, sym, ap, subst, length}
use Rattle.std.proofs.Common.{arith}
use Rattle.std.specs.Prelude.{Option, Some, None, slice_get}
use Rattle.std.specs.List.{AllByRecursion, AllZip}
use Rattle.gixobj_walks_graph.specs.Graph.{NodeView}
use Rattle.gixobj_walks_graph.specs.Numbered.{AreParentsKnown, Nodes}
use Rattle.gixobj_walks_marks.proofs.Marked.{same_or_other, slice_get-set_other, slice_get-set_same}
use Rattle.gixobj_walks.proofs.NamedLists.{name_extends, names_extend}
use Rattle.gixobj_walks.proofs.NamedPaths.{below_of_name, name_below, name_unique}
use Rattle.gixobj_walks.specs.Named.{Extends, Names, named_graph}

-- ---- names in a longer list

name_shortens : {V : Type 0} (old new : List V) → Extends old new → (number : ℕ) (id : V) → number < length old → Names new number id
    → Names old number id
name_shortens old new extends number id below name =
    let before = name_below old number below in
    subst (λ it. Names old number it) (name_unique new number before.0 id (name_extends old new extends number before.0 before.1) name) before.1

names_shorten : {V : Type 0} (old new : List V) → Extends old new → (numbers : List ℕ) (ids : List V)
    → AllByRecursion (λ number. number < length old) numbers → AllZip (Names new) numbers ids → AllZip (Names old) numbers ids
names_shorten old new extends [] [] below zip = tt
names_shorten old new extends [] (id ∷ ids) below zip = absurd zip
names_shorten old new extends (number ∷ numbers) [] below zip = absurd zip
names_shorten old new extends (number ∷ numbers) (id ∷ ids) below zip =
    (name_shortens old new extends number id below.0 zip.0, names_shorten old new extends numbers ids below.1 zip.1)

pub same_names : {V : Type 0} (ids : List V) (numbers : List ℕ) (names others : List V) → AllZip (Names ids) numbers names
    → AllZip (Names ids) numbers others → names ≡ others
same_names ids [] [] [] zip other = refl
same_names ids [] [] (id ∷ others) zip other = absurd other
same_names ids [] (id ∷ names) others zip other = absurd zip
same_names ids (number ∷ numbers) [] others zip other = absurd zip
same_names ids (number ∷ numbers) (id ∷ names) [] zip other = absurd other
same_names ids (number ∷ numbers) (id ∷ names) (id' ∷ others) zip other =
    let first = name_unique ids number id id' zip.0 other.0 in
    let rest = same_names ids numbers names others zip.1 other.1 in
    λ i. first i ∷ rest i

-- ---- nodes in a longer list

pub get_in_longer : (nodes : Nodes) (added number : ℕ) (node : NodeView ℕ) → slice_get nodes number ≡ Some (Some node)
    → slice_get (nodes ++ replicate added None) number ≡ Some (Some node)
get_in_longer [] added number node is = absurd (cc)
get_in_longer (first ∷ nodes) added zero node is = is
get_in_longer (first ∷ nodes) added (suc number) node is = get_in_longer nodes added number node is

none_of_replicate : (added number : ℕ) (node : NodeView ℕ) → ¬ (slice_get {X = Option (NodeView ℕ)} (replicate added None) number ≡ Some (Some node))
none_of_replicate zero number node is = cc is
none_of_replicate (suc added) zero node is = cc is
none_of_replicate (suc added) (suc number) node is = none_of_replicate added number node is

pub get_in_shorter : (nodes : Nodes) (added number : ℕ) (node : NodeView ℕ)
    → slice_get (nodes ++ replicate added None) number ≡ Some (Some node) → slice_get nodes number ≡ Some (Some node)
get_in_shorter [] added number node is = absurd (none_of_replicate added number node is)
get_in_shorter (first ∷ nodes) added zero node is = is
get_in_shorter (first ∷ nodes) added (suc number) node is = get_in_shorter nodes added number node is

pub length_longer : (nodes : Nodes) (added number : ℕ) → number < length nodes → number < length (nodes ++ replicate added None)
length_longer [] added number below = absurd (omega arith)
length_longer (first ∷ nodes) added zero below = omega arith
length_longer (first ∷ nodes) added (suc number) below =
    let more : number < length (nodes ++ replicate added None) = length_longer nodes added number (omega arith) in omega arith

-- ---- one more commit

module _ {V : Type 0} (old new : List V) (nodes : Nodes) (added number : ℕ) (parents : List ℕ) (seconds : ℕ) (id : V)
    (names : List V) (extends : Extends old new) (known : AreParentsKnown nodes) (lengths : length nodes ≡ length old) (name : Names old number id)
    (unread : slice_get nodes number ≡ Some None) (zip : AllZip (Names new) parents names) where
  larger : Nodes
  larger = set (nodes ++ replicate added None) number (Some (record { parents = parents; seconds = seconds }))

  given_before : (v : V) (node : NodeView V) → named_graph old nodes v node → named_graph new larger v node
  unfolding larger
  given_before v node it =
      let other : number ≢ it.number = λ same. cc (subst (λ n. slice_get nodes n ≡ Some (Some it.numbered)) (sym same) it.read, unread) in
      record {
        number = it.number;
        numbered = it.numbered;
        name = name_extends old new extends it.number v it.name;
        read = slice_get-set_other (nodes ++ replicate added None) number it.number _ other
            ∙ get_in_longer nodes added it.number it.numbered it.read;
        parents = names_extend old new extends it.numbered.parents node.parents it.parents;
        seconds = it.seconds;
      }

  given_now : named_graph new larger id (record { parents = names; seconds = seconds })
  unfolding larger
  given_now =
      let below : number < length nodes = subst (λ n. number < n) (sym lengths) (below_of_name old number id name) in
      record {
        number = number;
        numbered = record { parents = parents; seconds = seconds };
        name = name_extends old new extends number id name;
        read = slice_get-set_same (nodes ++ replicate added None) number _ (length_longer nodes added number below);
        parents = zip;
        seconds = refl;
      }

  given_cases : (v : V) (node : NodeView V) → named_graph new larger v node
      → (named_graph old nodes v node) ⊎ ((v ≡ id) × (node ≡ record { parents = names; seconds = seconds }))
  unfolding larger
  given_cases v node it = ⊎_elim
      (λ same.
      let below : number < length nodes = subst (λ n. number < n) (sym lengths) (below_of_name old number id name) in
      let here : it.numbered ≡ record { parents = parents; seconds = seconds } =
      cc (
        slice_get-set_same (nodes ++ replicate added None) number
            (Some (record { parents = parents; seconds = seconds })) (length_longer nodes added number below),
        it.read,
        same,
      ) in
      let first : v ≡ id = name_unique new number v id (subst (λ n. Names new n v) (sym same) it.name)
      (name_extends old new extends number id name) in
      let lists : node.parents ≡ names = same_names new parents node.parents names
      (subst (λ (n : NodeView ℕ). AllZip (Names new) n.parents node.parents) here it.parents) zip in
      let dates : node.seconds ≡ seconds = it.seconds ∙ ap (λ (n : NodeView ℕ). n.seconds) here in
      inr (first, λ i. record { parents = lists i; seconds = dates i }))
      (λ other.
      let read = get_in_shorter nodes added it.number it.numbered
      (sym (slice_get-set_other (nodes ++ replicate added None) number it.number _ other) ∙ it.read) in
      let below : it.number < length old = subst (λ n. it.number < n) lengths (below_of_name nodes it.number (Some it.numbered) read) in
      let parents_below = subst (λ n. AllByRecursion (λ p. p < n) it.numbered.parents) lengths (known it.number it.numbered read) in
      inl (record {
        number = it.number;
        numbered = it.numbered;
        name = name_shortens old new extends it.number v below it.name;
        read = read;
        parents = names_shorten old new extends it.numbered.parents node.parents parents_below it.parents;
        seconds = it.seconds;
      }))
      (same_or_other number it.number)

  pub given_one_more : (v : V) (node : NodeView V)
      → named_graph new (set (nodes ++ replicate added None) number (Some (record { parents = parents; seconds = seconds }))) v node
      ↔ ((named_graph old nodes v node) ⊎ ((v ≡ id) × (node ≡ record { parents = names; seconds = seconds })))
  unfolding larger
  given_one_more v node = (
    given_cases v node,
    (λ is. ⊎_elim (given_before v node)
        (λ here. subst (λ (it : NodeView V). named_graph new larger v it) (sym here.1)
        (subst (λ it. named_graph new larger it (record { parents = names; seconds = seconds })) (sym here.0) given_now)) is),
  )
