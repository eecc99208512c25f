-- Paths between numbered commits are paths between their names, and the other way round.
use Rattle.std.proofs.Common.{◌≡◌, ℕ, zero, suc, ◌<◌, List, [], ◌∷◌, refl, ap, subst, length, arith}
use Rattle.std.specs.Prelude.{Some, slice_get, Contains}
use Rattle.std.specs.List.{AllByRecursion, AllZip}
use Rattle.gixobj_walks_graph.specs.Graph.{HasParent, IsReachedFrom, IsRead, LeadsTo}
use Rattle.gixobj_walks_graph.specs.Numbered.{AreParentsKnown, Nodes, graph_at}
use Rattle.gixobj_walks.specs.Named.{AreDistinct, Names, named_graph}

-- ---- lists

-- a number below the length has a name
pub name_below : {V : Type 0} (ids : List V) (number : ℕ) → number < length ids → (id : V) × Names ids number id
name_below [] number below = absurd (omega arith)
name_below (id ∷ ids) zero below = (id, refl)
name_below (id ∷ ids) (suc number) below = name_below ids number (omega arith)

-- a number with a name is below the length
pub below_of_name : {V : Type 0} (ids : List V) (number : ℕ) (id : V) → Names ids number id → number < length ids
below_of_name [] number id name = absurd (cc)
below_of_name (first ∷ ids) zero id name = omega arith
below_of_name (first ∷ ids) (suc number) id name = let below : number < length ids = below_of_name ids number id name in omega arith

-- a number has one name at most
pub name_unique : {V : Type 0} (ids : List V) (number : ℕ) (id other : V) → Names ids number id → Names ids number other → id ≡ other
name_unique ids number id other name other_name = cc

-- numbers below the length have names, position by position
pub names_below : {V : Type 0} (ids : List V) (numbers : List ℕ) → AllByRecursion (λ n. n < length ids) numbers
    → (names : List V) × AllZip (Names ids) numbers names
names_below ids [] below = ([], tt)
names_below ids (number ∷ numbers) below =
    let one = name_below ids number below.0 in
    let more = names_below ids numbers below.1 in
    (one.0 ∷ more.0, (one.1, more.1))

-- what a list contains is at a position of it
pub position_of_contained : {X : Type 0} (xs : List X) (x : X) → Contains xs x → (k : ℕ) × (slice_get xs k ≡ Some x)
position_of_contained [] x (k, below, is) = absurd (omega arith)
position_of_contained (y ∷ xs) x (zero, below, is) = (0, ap Some is)
position_of_contained (y ∷ xs) x (suc k, below, is) =
    let more = position_of_contained xs x (k, omega arith, is) in (suc more.0, more.1)

pub contained_of_position : {X : Type 0} (xs : List X) (x : X) (k : ℕ) → slice_get xs k ≡ Some x → Contains xs x
contained_of_position [] x k is = absurd (cc)
contained_of_position (y ∷ xs) x zero is = (0, omega arith, cc)
contained_of_position (y ∷ xs) x (suc k) is =
    let more = contained_of_position xs x k is in
    let below : more.0 < length xs = more.1 in
    (suc more.0, omega arith, more.2)

-- the number of a name among names
pub number_of_contained : {V : Type 0} (ids : List V) (numbers : List ℕ) (names : List V) → AllZip (Names ids) numbers names
    → (id : V) → Contains names id → (number : ℕ) × Names ids number id × Contains numbers number
number_of_contained ids [] [] zip id (k, below, is) = absurd (omega arith)
number_of_contained ids [] (name ∷ names) zip id contained = absurd zip
number_of_contained ids (number ∷ numbers) [] zip id contained = absurd zip
number_of_contained ids (number ∷ numbers) (name ∷ names) zip id (zero, below, is) =
    (number, subst (λ it. Names ids number it) is zip.0, (0, omega arith, refl))
number_of_contained ids (number ∷ numbers) (name ∷ names) zip id (suc k, below, is) =
    let more = number_of_contained ids numbers names zip.1 id (k, omega arith, is) in
    let inside : more.2.0 < length numbers = more.2.1 in
    (more.0, more.1, (suc more.2.0, omega arith, more.2.2))

-- the name of a number among numbers
pub name_of_contained : {V : Type 0} (ids : List V) (numbers : List ℕ) (names : List V) → AllZip (Names ids) numbers names
    → (number : ℕ) → Contains numbers number → (id : V) × Names ids number id × Contains names id
name_of_contained ids [] names zip number (k, below, is) = absurd (omega arith)
name_of_contained ids (first ∷ numbers) [] zip number contained = absurd zip
name_of_contained ids (first ∷ numbers) (name ∷ names) zip number (zero, below, is) =
    (name, subst (λ it. Names ids it name) is zip.0, (0, omega arith, refl))
name_of_contained ids (first ∷ numbers) (name ∷ names) zip number (suc k, below, is) =
    let more = name_of_contained ids numbers names zip.1 number (k, omega arith, is) in
    let inside : more.2.0 < length names = more.2.1 in
    (more.0, more.1, (suc more.2.0, omega arith, more.2.2))

-- ---- parents and paths

module _ {V : Type 0} (ids : List V) (nodes : Nodes) where
  -- each parent of a commit that is read has a name
  pub named_parent : AreParentsKnown nodes → length nodes ≡ length ids → (number parent : ℕ) (id : V)
      → HasParent (graph_at nodes) number parent → Names ids number id
      → (name : V) × Names ids parent name × HasParent (named_graph ids nodes) id name
  named_parent known lengths number parent id edge name =
      let below = known number edge.node edge.named in
      let parents = names_below ids edge.node.parents (subst (λ n. AllByRecursion (λ it. it < n) edge.node.parents) lengths below) in
      let found = name_of_contained ids edge.node.parents parents.0 parents.1 parent edge.listed in (
        found.0,
        found.1,
        record {
          node = record { parents = parents.0; seconds = edge.node.seconds };
          named = record { number = number; numbered = edge.node; name = name; read = edge.named; parents = parents.1; seconds = refl };
          listed = found.2;
        },
      )

  -- a parent among names is a parent among numbers
  pub numbered_parent : (id parent : V) → HasParent (named_graph ids nodes) id parent
      → (number : ℕ) × (parent_number : ℕ) × Names ids number id × Names ids parent_number parent
      × HasParent (graph_at nodes) number parent_number
  numbered_parent id parent edge =
      let it = edge.named in
      let found = number_of_contained ids it.numbered.parents edge.node.parents it.parents parent edge.listed in
      (it.number, found.0, it.name, found.1, record { node = it.numbered; named = it.read; listed = found.2 })

  pub named_steps : AreParentsKnown nodes → length nodes ≡ length ids → (n number end : ℕ) (id : V)
      → LeadsTo (graph_at nodes) n number end → Names ids number id
      → (name : V) × Names ids end name × LeadsTo (named_graph ids nodes) n id name
  named_steps known lengths zero number end id steps name = (id, subst (λ it. Names ids it id) steps name, refl)
  named_steps known lengths (suc n) number end id steps name =
      let edge = named_parent known lengths number steps.0 id steps.1 name in
      let more = named_steps known lengths n steps.0 end edge.0 steps.2 edge.1 in
      (more.0, more.1, (edge.0, edge.2, more.2))

  pub numbered_steps : AreDistinct ids → (n number : ℕ) (id end : V) → LeadsTo (named_graph ids nodes) n id end
      → Names ids number id → (position : ℕ) × Names ids position end × LeadsTo (graph_at nodes) n number position
  numbered_steps distinct zero number id end steps name = (number, subst (λ it. Names ids number it) steps name, refl)
  numbered_steps distinct (suc n) number id end steps name =
      let edge = numbered_parent id steps.0 steps.1 in
      let same = distinct edge.0 number id edge.2 name in
      let more = numbered_steps distinct n edge.1 steps.0 end steps.2 edge.3 in
      (more.0, more.1, (edge.1, subst (λ it. HasParent (graph_at nodes) it edge.1) same edge.4, more.2))

  -- ---- what starts reach

  pub reached_named : AreParentsKnown nodes → length nodes ≡ length ids → (starts : List ℕ) (names : List V)
      → AllZip (Names ids) starts names → (number : ℕ) (id : V) → IsReachedFrom (graph_at nodes) starts number
      → Names ids number id → IsReachedFrom (named_graph ids nodes) names id
  reached_named known lengths starts names zip number id (start, contained, (n, steps)) name =
      let first = name_of_contained ids starts names zip start contained in
      let last = named_steps known lengths n start number first.0 steps first.1 in
      (first.0, first.2, (n, subst (λ it. LeadsTo (named_graph ids nodes) n first.0 it) (name_unique ids number last.0 id last.1 name) last.2))

  pub reached_numbered : AreDistinct ids → (starts : List ℕ) (names : List V) → AllZip (Names ids) starts names → (id : V)
      → IsReachedFrom (named_graph ids nodes) names id
      → (number : ℕ) × Names ids number id × IsReachedFrom (graph_at nodes) starts number
  reached_numbered distinct starts names zip id (start, contained, (n, steps)) =
      let first = number_of_contained ids starts names zip start contained in
      let last = numbered_steps distinct n first.0 start id steps first.1 in
      (last.0, last.1, (first.0, first.2, (n, last.2)))

  -- the commits that are read, by numbers and by names
  pub read_named : AreParentsKnown nodes → length nodes ≡ length ids → (number : ℕ) (id : V)
      → IsRead (graph_at nodes) number → Names ids number id → IsRead (named_graph ids nodes) id
  read_named known lengths number id (node, read) name =
      let below = known number node read in
      let parents = names_below ids node.parents (subst (λ n. AllByRecursion (λ it. it < n) node.parents) lengths below) in (
        record { parents = parents.0; seconds = node.seconds },
        record { number = number; numbered = node; name = name; read = read; parents = parents.1; seconds = refl },
      )

  pub read_numbered : AreDistinct ids → (number : ℕ) (id : V) → IsRead (named_graph ids nodes) id → Names ids number id
      → IsRead (graph_at nodes) number
  read_numbered distinct number id (node, it) name =
      (it.numbered, subst (λ n. graph_at nodes n it.numbered) (distinct it.number number id it.name name) it.read)
