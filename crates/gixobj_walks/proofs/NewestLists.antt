-- Lists with the newest commit first: the ids of a set of commits by their dates.
use Rattle.std.proofs.Common.{◌≡◌, ◌≢◌, ◌⊎◌, ◌↔◌, ◌∙◌, ◌++◌, ◌<◌, ℕ, zero, suc, true, List, [], ◌∷◌, ⊎_elim, inl, inr, map, length, arith}
use Rattle.std.proofs.Common.{Ordering, Less, Equal, Greater, refl, sym, ap, subst}
use Rattle.std.proofs.lemmas.Cmp.{ranked}
use Rattle.std.proofs.lemmas.List.Elements.{Contains-append_cases, Contains-append_left, Contains-append_right}
use Rattle.std.proofs.lemmas.Map.Keys.{sorted_head, sorted_tail}
use Rattle.std.specs.BTreeSet.{insert_key}
use Rattle.std.specs.Cmp.{eq_by_cmp_equiv}
use Rattle.std.specs.List.{AllByRecursion}
use Rattle.std.specs.List.Sorted.{IsStrictlySortedBy}
use Rattle.std.specs.Ordering.{MatchOrdering, is_eq, match_ordering, nat_cmp, ordering_then}
use Rattle.std.specs.Prelude.{Contains}
use Rattle.gixobj_hash.specs.Hash.Order.{id_cmp}
use Rattle.gixobj_hash.specs.Hash.OrderLaws.{id_cmp_total}
use Rattle.gixobj_hash.specs.declared.hash.object_id.ObjectId.{ObjectId}
use Rattle.gixobj_walks_graph.specs.Graph.{AreOnce, EachLater, Graph, IsFunctional, IsIncluded, NodeView}
use Rattle.gixobj_walks_graph.specs.Numbered.{AreParentsKnown, Nodes}
use Rattle.gixobj_walks_marks.proofs.Marked.{one_contained}
use Rattle.gixobj_walks.proofs.IdOrder.{same_id_of_is_eq}
use Rattle.gixobj_walks.proofs.LargerGraphs.{all_weaker}
use Rattle.gixobj_walks.proofs.NamedPaths.{name_unique, names_below}
use Rattle.gixobj_walks.specs.Named.{Names, named_graph}
use Rattle.gixobj_walks.specs.Newest.{AreDated, AreNewestFirst, ComesBefore, IsDated, IsNameOf, dated_cmp}
use Rattle.gixobj_walks.specs.declared.newest.Dated.{Dated}

-- ---- what lists contain

contained_first : {X : Type 0} (x y : X) (xs : List X) → x ≡ y → Contains (x ∷ xs) y
contained_first x y xs same = (0, omega arith, same)

contained_later : {X : Type 0} (first : X) (xs : List X) (x : X) → Contains xs x → Contains (first ∷ xs) x
contained_later first xs x has = let inside : has.0 < length xs = has.1 in (suc has.0, omega arith, has.2)

contained_cases : {X : Type 0} (x y : X) (xs : List X) → Contains (x ∷ xs) y → (x ≡ y) ⊎ Contains xs y
contained_cases x y xs (zero, below, is) = inl is
contained_cases x y xs (suc k, below, is) = inr (k, omega arith, is)

contained_none : {X : Type 0} (y : X) → ¬ Contains [] y
contained_none y (k, below, is) = omega (arith, below)

map_cases : {X Y : Type 0} (f : X → Y) (xs : List X) (y : Y) → Contains (map f xs) y → (x : X) × Contains xs x × (f x ≡ y)
map_cases f [] y has = absurd (contained_none y has)
map_cases f (x ∷ xs) y has = ⊎_elim
    (λ same. (x, contained_first x x xs refl, same))
    (λ later. let more = map_cases f xs y later in (more.0, contained_later x xs more.0 more.1, more.2))
    (contained_cases (f x) y (map f xs) has)

map_has : {X Y : Type 0} (f : X → Y) (xs : List X) (x : X) → Contains xs x → Contains (map f xs) (f x)
map_has f [] x has = absurd (contained_none x has)
map_has f (first ∷ xs) x has = ⊎_elim
    (λ same. contained_first (f first) (f x) (map f xs) (ap f same))
    (λ later. contained_later (f first) (map f xs) (f x) (map_has f xs x later))
    (contained_cases first x xs has)

each_later_weaker : {X : Type 0} (R S : X → X → Type 0) → ((x y : X) → R x y → S x y) → (xs : List X) → EachLater R xs → EachLater S xs
each_later_weaker R S weaker [] each = tt
each_later_weaker R S weaker (x ∷ xs) each =
    (all_weaker (R x) (S x) (weaker x) xs each.0, each_later_weaker R S weaker xs each.1)

-- ---- a key is inserted

module _ {K : Type 0} (cmp : K → K → Ordering) (k : K) where
  cases_step : (x y : K) (xs rest : List K) (o : Ordering) → (Contains rest y → Contains xs y ⊎ (k ≡ y))
      → Contains (match_ordering o (k ∷ x ∷ xs) (x ∷ xs) (x ∷ rest)) y → Contains (x ∷ xs) y ⊎ (k ≡ y)
  cases_step x y xs rest Less more has = ⊎_elim (λ same. inr same) (λ later. inl later) (contained_cases k y (x ∷ xs) has)
  cases_step x y xs rest Equal more has = inl has
  cases_step x y xs rest Greater more has = ⊎_elim (λ same. inl (contained_first x y xs same))
      (λ later. ⊎_elim (λ before. inl (contained_later x xs y before)) (λ same. inr same) (more later))
      (contained_cases x y rest has)

  insert_cases : (keys : List K) (y : K) → Contains (insert_key cmp keys k) y → Contains keys y ⊎ (k ≡ y)
  insert_cases [] y has = ⊎_elim (λ same. inr same) (λ later. inl later) (contained_cases k y [] has)
  insert_cases (x ∷ xs) y has = cases_step x y xs (insert_key cmp xs k) (cmp k x) (insert_cases xs y) has

  keeps_step : (x y : K) (xs rest : List K) (o : Ordering) → (Contains xs y → Contains rest y) → Contains (x ∷ xs) y
      → Contains (match_ordering o (k ∷ x ∷ xs) (x ∷ xs) (x ∷ rest)) y
  keeps_step x y xs rest Less more has = contained_later k (x ∷ xs) y has
  keeps_step x y xs rest Equal more has = has
  keeps_step x y xs rest Greater more has = ⊎_elim (λ same. contained_first x y rest same)
      (λ later. contained_later x rest y (more later)) (contained_cases x y xs has)

  insert_keeps : (keys : List K) (y : K) → Contains keys y → Contains (insert_key cmp keys k) y
  insert_keeps [] y has = absurd (contained_none y has)
  insert_keeps (x ∷ xs) y has = keeps_step x y xs (insert_key cmp xs k) (cmp k x) (insert_keeps xs y) has

  has_step : (x : K) (xs rest : List K) (o : Ordering) → (o ≡ Equal → k ≡ x) → Contains rest k
      → Contains (match_ordering o (k ∷ x ∷ xs) (x ∷ xs) (x ∷ rest)) k
  has_step x xs rest Less exact more = contained_first k k (x ∷ xs) refl
  has_step x xs rest Equal exact more = contained_first x k xs (sym (exact refl))
  has_step x xs rest Greater exact more = contained_later x rest k more

  insert_has : ((x : K) → cmp k x ≡ Equal → k ≡ x) → (keys : List K) → Contains (insert_key cmp keys k) k
  insert_has exact [] = contained_first k k [] refl
  insert_has exact (x ∷ xs) = has_step x xs (insert_key cmp xs k) (cmp k x) (exact x) (insert_has exact xs)

-- ---- the order of commits by their dates

then_equal : (p q : Ordering) → ordering_then p q ≡ Equal → (p ≡ Equal) × (q ≡ Equal)
then_equal Less q is = absurd (cc is)
then_equal Equal q is = (refl, is)
then_equal Greater q is = absurd (cc is)

then_less : (p q : Ordering) → ordering_then p q ≡ Less → (p ≡ Less) ⊎ ((p ≡ Equal) × (q ≡ Less))
then_less Less q is = inl refl
then_less Equal q is = inr (refl, is)
then_less Greater q is = absurd (cc is)

less_of_cmp : (m n : ℕ) → nat_cmp m n ≡ Less → m < n
less_of_cmp m n is = subst (λ o. MatchOrdering o (m < n) (m ≡ n) (n < m)) is (ranked m n (nat_cmp m n) refl)

same_of_cmp : (m n : ℕ) → nat_cmp m n ≡ Equal → m ≡ n
same_of_cmp m n is = subst (λ o. MatchOrdering o (m < n) (m ≡ n) (n < m)) is (ranked m n (nat_cmp m n) refl)

same_dated : (a b : Dated) → a.age ≡ b.age → a.id ≡ b.id → a ≡ b
same_dated a b ages ids = λ i. record { age = ages i; id = ids i }

exact_dated : (a b : Dated) → dated_cmp a b ≡ Equal → a ≡ b
exact_dated a b is =
    let both = then_equal (nat_cmp a.age b.age) (id_cmp a.id b.id) is in
    same_dated a b (same_of_cmp a.age b.age both.0) (same_id_of_is_eq a.id b.id (ap is_eq both.1))

-- an id is not less than itself
not_less_than_itself : (id : ObjectId) → ¬ (id_cmp id id ≡ Less)
not_less_than_itself id less =
    let equal : is_eq (id_cmp id id) ≡ true = (eq_by_cmp_equiv id_cmp_total).refl id in
    cc (subst (λ o. is_eq o ≡ true) less equal)

-- no commit comes before itself
before_differs : (G : Graph ObjectId) → IsFunctional G → (id other : ObjectId) → ComesBefore G id other → id ≢ other
before_differs G functional id other before same =
    let nodes : before.other_node ≡ before.node = functional id before.other_node before.node
    (subst (λ v. G v before.other_node) (sym same) before.other_named) before.named in
    ⊎_elim
    (λ newer.
    let seconds : before.other_node.seconds ≡ before.node.seconds = ap (λ (n : NodeView ObjectId). n.seconds) nodes in
    omega (arith, newer, seconds))
    (λ tied. not_less_than_itself id (subst (λ v. id_cmp id v ≡ Less) (sym same) tied.1))
    before.order

-- in a list with the newest first each commit is once
pub once_of_newest : (G : Graph ObjectId) → IsFunctional G → (ids : List ObjectId) → AreNewestFirst G ids → AreOnce ids
once_of_newest G functional ids first =
    each_later_weaker (ComesBefore G) (λ x y. x ≢ y) (before_differs G functional) ids first

-- the order is that of each larger graph
pub newest_in_larger : (R G : Graph ObjectId) → IsIncluded R G → (ids : List ObjectId) → AreNewestFirst R ids → AreNewestFirst G ids
newest_in_larger R G included ids first = each_later_weaker (ComesBefore R) (ComesBefore G)
    (λ id other before. record {
      node = before.node;
      other_node = before.other_node;
      named = included id before.node before.named;
      other_named = included other before.other_node before.other_named;
      order = before.order;
    }) ids first

-- ---- one list

not_less_both : (id other : ObjectId) → id_cmp id other ≡ Less → ¬ (id_cmp other id ≡ Less)
not_less_both id other less more = not_less_than_itself id (id_cmp_total.trans id other id less more)

-- no commit comes before one that comes before it
never_before : (G : Graph ObjectId) → IsFunctional G → (id other : ObjectId) → ComesBefore G id other → ¬ ComesBefore G other id
never_before G functional id other before after =
    let first : before.node.seconds ≡ after.other_node.seconds =
    ap (λ (n : NodeView ObjectId). n.seconds) (functional id before.node after.other_node before.named after.other_named) in
    let second : before.other_node.seconds ≡ after.node.seconds =
    ap (λ (n : NodeView ObjectId). n.seconds) (functional other before.other_node after.node before.other_named after.named) in
    ⊎_elim
    (λ newer. ⊎_elim
    (λ other_newer. omega (arith, newer, other_newer, first, second))
    (λ tied. omega (arith, newer, tied.0, first, second)) after.order)
    (λ tied. ⊎_elim
    (λ other_newer. omega (arith, tied.0, other_newer, first, second))
    (λ both. not_less_both id other tied.1 both.1) after.order)
    before.order

before_at : (G : Graph ObjectId) (id other : ObjectId) (ids : List ObjectId) → AllByRecursion (ComesBefore G id) ids
    → Contains ids other → ComesBefore G id other
before_at G id other [] all has = absurd (contained_none other has)
before_at G id other (x ∷ ids) all has = ⊎_elim (λ same. subst (λ v. ComesBefore G id v) same all.0)
    (λ later. before_at G id other ids all.1 later) (contained_cases x other ids has)

-- what a list has after its first commit is there in the other list with the same first commit
rest_has : (G : Graph ObjectId) → IsFunctional G → (x y : ObjectId) (xs ys : List ObjectId) → x ≡ y
    → AllByRecursion (ComesBefore G x) xs → ((id : ObjectId) → Contains (x ∷ xs) id → Contains (y ∷ ys) id)
    → (id : ObjectId) → Contains xs id → Contains ys id
rest_has G functional x y xs ys same before has id later = ⊎_elim
    (λ first. absurd (before_differs G functional x id (before_at G x id xs before later) (same ∙ first)))
    (λ rest. rest) (contained_cases y id ys (has id (contained_later x xs id later)))

-- two lists with the newest first that have the same commits are the same
pub same_newest : (G : Graph ObjectId) → IsFunctional G → (xs ys : List ObjectId) → AreNewestFirst G xs → AreNewestFirst G ys
    → ((id : ObjectId) → Contains xs id ↔ Contains ys id) → xs ≡ ys
same_newest G functional [] [] first second same = refl
same_newest G functional [] (y ∷ ys) first second same = absurd (contained_none y ((same y).1 (contained_first y y ys refl)))
same_newest G functional (x ∷ xs) [] first second same = absurd (contained_none x ((same x).0 (contained_first x x xs refl)))
same_newest G functional (x ∷ xs) (y ∷ ys) first second same =
    let here : x ≡ y = ⊎_elim (λ is. sym is)
    (λ later. ⊎_elim (λ is. is)
    (λ after. absurd (never_before G functional x y (before_at G x y xs first.0 after) (before_at G y x ys second.0 later)))
    (contained_cases x y xs ((same y).1 (contained_first y y ys refl))))
    (contained_cases y x ys ((same x).0 (contained_first x x xs refl))) in
    let rest = same_newest G functional xs ys first.1 second.1
    (λ id. (
      rest_has G functional x y xs ys here first.0 (λ v. (same v).0) id,
      rest_has G functional y x ys xs (sym here) second.0 (λ v. (same v).1) id,
    )) in
    λ i. here i ∷ rest i

module _ (ids : List ObjectId) (nodes : Nodes) where
  -- ---- one more commit

  dated_among : (numbers others : List ℕ) (dated : Dated) → ((number : ℕ) → Contains numbers number → Contains others number)
      → IsDated ids nodes numbers dated → IsDated ids nodes others dated
  dated_among numbers others dated among is = record {
    number = is.number;
    node = is.node;
    listed = among is.number is.listed;
    name = is.name;
    read = is.read;
    age = is.age;
  }

  pub none_dated : AreDated ids nodes [] []
  none_dated = record {
    each = λ dated has. absurd (contained_none dated has);
    all = λ number id has name. absurd (contained_none number has);
  }

  pub dated_more : (numbers : List ℕ) (number : ℕ) (keys : List Dated) (dated : Dated) → AreDated ids nodes numbers keys
      → IsDated ids nodes (number ∷ []) dated → AreDated ids nodes (numbers ++ number ∷ []) (insert_key dated_cmp keys dated)
  dated_more numbers number keys dated are is = record {
    each = λ commit has. ⊎_elim
        (λ before. dated_among numbers (numbers ++ number ∷ []) commit (λ n. Contains-append_left numbers (number ∷ []) n)
        (are.each commit before))
        (λ same. subst (λ d. IsDated ids nodes (numbers ++ number ∷ []) d) same
        (dated_among (number ∷ []) (numbers ++ number ∷ []) dated (λ n. Contains-append_right numbers (number ∷ []) n) is))
        (insert_cases dated_cmp dated keys commit has);
    all = λ n id has name. ⊎_elim
        (λ before.
        let it = are.all n id before name in
        (it.0, insert_keeps dated_cmp dated keys it.0 it.1, it.2))
        (λ here.
        let same : is.number ≡ n = sym (one_contained number is.number is.listed) ∙ one_contained number n here in (
          dated,
          insert_has dated_cmp dated (exact_dated dated) keys,
          name_unique ids n dated.id id (subst (λ m. Names ids m dated.id) same is.name) name,
        ))
        (Contains-append_cases numbers (number ∷ []) n has);
  }

  -- ---- the list

  -- the ids of the commits are the names of the numbers
  pub names_of_dated : (numbers : List ℕ) (keys : List Dated) → AreDated ids nodes numbers keys → (id : ObjectId)
      → Contains (map (λ (d : Dated). d.id) keys) id ↔ IsNameOf ids numbers id
  names_of_dated numbers keys are id = (
    (λ has.
        let it = map_cases (λ (d : Dated). d.id) keys id has in
        let commit = are.each it.0 it.1 in
        (commit.number, commit.listed, subst (λ v. Names ids commit.number v) it.2 commit.name)),
    (λ (number, has, name).
        let it = are.all number id has name in
        subst (λ v. Contains (map (λ (d : Dated). d.id) keys) v) it.2 (map_has (λ (d : Dated). d.id) keys it.0 it.1)),
  )

  module _ (known : AreParentsKnown nodes) (lengths : length nodes ≡ length ids) where
    named_commit : (numbers : List ℕ) (dated : Dated) → (is : IsDated ids nodes numbers dated)
        → (node : NodeView ObjectId) × named_graph ids nodes dated.id node × (node.seconds ≡ is.node.seconds)
    named_commit numbers dated is =
        let below = known is.number is.node is.read in
        let parents = names_below ids is.node.parents (subst (λ n. AllByRecursion (λ p. p < n) is.node.parents) lengths below) in (
          record { parents = parents.0; seconds = is.node.seconds },
          record {
            number = is.number;
            numbered = is.node;
            name = is.name;
            read = is.read;
            parents = parents.1;
            seconds = refl;
          },
          refl,
        )

    comes_before : (numbers : List ℕ) (a b : Dated) → IsDated ids nodes numbers a → IsDated ids nodes numbers b → dated_cmp a b ≡ Less
        → ComesBefore (named_graph ids nodes) a.id b.id
    comes_before numbers a b first second less =
        let one = named_commit numbers a first in
        let two = named_commit numbers b second in
        record {
          node = one.0;
          other_node = two.0;
          named = one.1;
          other_named = two.1;
          order = ⊎_elim
              (λ newer.
              let ages : a.age < b.age = less_of_cmp a.age b.age newer in
              inl (omega (arith, ages, first.age, second.age, one.2, two.2)))
              (λ tied.
              let ages : a.age ≡ b.age = same_of_cmp a.age b.age tied.0 in
              inr (omega (arith, ages, first.age, second.age, one.2, two.2), tied.1))
              (then_less (nat_cmp a.age b.age) (id_cmp a.id b.id) less);
        }

    before_each : (numbers : List ℕ) (a : Dated) (keys : List Dated) → IsDated ids nodes numbers a
        → ((d : Dated) → Contains keys d → IsDated ids nodes numbers d) → AllByRecursion (λ d. dated_cmp a d ≡ Less) keys
        → AllByRecursion (ComesBefore (named_graph ids nodes) a.id) (map (λ (d : Dated). d.id) keys)
    before_each numbers a [] first each less = tt
    before_each numbers a (b ∷ keys) first each less = (
      comes_before numbers a b first (each b (contained_first b b keys refl)) less.0,
      before_each numbers a keys first (λ d has. each d (contained_later b keys d has)) less.1,
    )

    -- the ids of the commits by their dates come with the newest first
    pub newest_of_sorted : (numbers : List ℕ) (keys : List Dated) → ((d : Dated) → Contains keys d → IsDated ids nodes numbers d)
        → IsStrictlySortedBy dated_cmp keys → AreNewestFirst (named_graph ids nodes) (map (λ (d : Dated). d.id) keys)
    newest_of_sorted numbers [] each sorted = tt
    newest_of_sorted numbers (a ∷ keys) each sorted = (
      before_each numbers a keys (each a (contained_first a a keys refl)) (λ d has. each d (contained_later a keys d has))
          (sorted_head dated_cmp a keys sorted),
      newest_of_sorted numbers keys (λ d has. each d (contained_later a keys d has)) (sorted_tail dated_cmp a keys sorted),
    )
