-- A topological walk lists a parent of a commit next, if one of its parents is ready.
use Rattle.std.proofs.Common.{◌≡◌, ◌⊎◌, ◌++◌, ◌∙◌, List, [], ◌∷◌, Contains, inl, inr, refl, sym, ap, subst, ⊎_elim}
use Rattle.std.proofs.lemmas.List.Elements.{Contains-append_right}
use Rattle.gixobj_walks_graph.specs.Graph.{Graph, HasParent, IsFunctional, NodeView}
use Rattle.gixobj_walks_graph.specs.Listing.{BecomeReady, IsListing, IsReady, Lists, ListsAll, Waiting}
use Rattle.gixobj_walks_graph.specs.Walks.{FollowsLines}
use Rattle.gixobj_walks_graph.specs.declared.order.Order.{Order}
use Rattle.gixobj_walks_graph.specs.declared.order.Order.TheVariants.{Topological}
use Rattle.gixobj_walks_order.specs.Progress.{IsProgress}
use Rattle.gixobj_walks_order.proofs.Members.{contains_cases, contains_here, contains_later, contains_nothing}
use Rattle.gixobj_walks_order.proofs.Progress.{found, progress_first, progress_more}

-- the last element of two lists end to end is one of the second list, if that has any
last_of_append : {V : Type 0} (xs ys zs : List V) (y z : V) → xs ++ y ∷ ys ≡ zs ++ z ∷ [] → Contains (y ∷ ys) z
last_of_append [] ys zs y z same = subst (λ l. Contains l z) (sym same) (Contains-append_right zs (z ∷ []) z (contains_here z []))
last_of_append (x ∷ xs) ys [] y z same =
    let tail : xs ++ y ∷ ys ≡ [] = cc in
    absurd (contains_nothing y (subst (λ l. Contains l y) tail (Contains-append_right xs (y ∷ ys) y (contains_here y ys))))
last_of_append (x ∷ xs) ys (w ∷ zs) y z same =
    let tail : xs ++ y ∷ ys ≡ zs ++ z ∷ [] = cc in
    last_of_append xs ys zs y z tail

module _ {V : Type 0} (G : Graph V) (Selected : V → Type 0) where
  -- if no parent becomes ready, none is ready
  none_ready : (listed parents ready : List V) → BecomeReady G Selected listed parents ready → ready ≡ [] → (x : V)
      → Contains parents x → IsReady G Selected listed x → ⊥
  none_ready listed [] ready become none x has is = contains_nothing x has
  none_ready listed (parent ∷ parents) ready become none x has is = ⊎_elim
      (λ (here, last, (rest, joined, more)).
      let same : parent ∷ rest ≡ [] = sym joined ∙ none in cc)
      (λ (other, more). ⊎_elim
      (λ same. other (
        subst (λ z. IsReady G Selected listed z) (sym same) is,
        λ later. none_ready listed parents ready more none x (subst (λ z. Contains parents z) same later) is,
      ))
      (λ later. none_ready listed parents ready more none x later is)
      (contains_cases parent x parents has))
      become

  module _ (listed : List V) (old : Waiting V) (id : V) (new : Waiting V)
      (lists : Lists G Topological Selected listed old id new) (progress : IsProgress G Selected listed old) where
    -- the next commit is one of the ready parents, if there are any
    next_of_ready : (ready after : List V) → lists.ready ≡ ready → (ready ≡ [] → ⊥)
        → ListsAll G Topological Selected (id ∷ listed) new after
        → (next : V) × (rest : List V) × (after ≡ next ∷ rest) × HasParent G id next
    next_of_ready [] after same some all = absurd (some refl)
    next_of_ready (first ∷ others) [] same some all =
        let none : lists.others.found ++ first ∷ others ≡ [] =
        ap (λ l. lists.others.found ++ l) (sym same) ∙ sym lists.join.1 ∙ all.1 in
        absurd (contains_nothing first (subst (λ l. Contains l first) none
        (Contains-append_right lists.others.found (first ∷ others) first (contains_here first others))))
    next_of_ready (first ∷ others) (next ∷ rest) same some all =
        let waiting : new.found ≡ lists.others.found ++ first ∷ others =
        lists.join.1 ∙ ap (λ l. lists.others.found ++ l) same in
        let parent : HasParent G id next = ⊎_elim
        (λ (last, dated). (found G Topological Selected listed old id new lists progress next
        (subst (λ l. Contains l next) (sym same) (last_of_append lists.others.found others all.1.others.found first next (sym waiting ∙ last)))).1)
        (λ (none, left, dated). absurd (contains_nothing first (subst (λ l. Contains l first) (sym waiting ∙ none)
        (Contains-append_right lists.others.found (first ∷ others) first (contains_here first others)))))
        all.1.next in
        (next, rest, refl, parent)

  module _ (functional : IsFunctional G) where
    follows : (before after listed : List V) (waiting : Waiting V) (id parent : V) → IsProgress G Selected listed waiting
        → ListsAll G Topological Selected listed waiting (before ++ id ∷ after) → HasParent G id parent → Selected parent
        → ((child : V) → Selected child → HasParent G child parent → Contains (before ++ id ∷ []) child ⊎ Contains listed child)
        → (next : V) × (rest : List V) × (after ≡ next ∷ rest) × HasParent G id next
    follows [] after listed waiting id parent progress all edge selected children =
        let named : Contains all.1.node.parents parent =
        subst (λ (n : NodeView V). Contains n.parents parent) (functional id edge.node all.1.node edge.named all.1.named) edge.listed in
        let is : IsReady G Selected (id ∷ listed) parent = record {
          selected = selected;
          children = λ child chosen has. ⊎_elim
              (λ only. ⊎_elim
              (λ same. subst (λ z. Contains (id ∷ listed) z) same (contains_here id listed))
              (λ none. absurd (contains_nothing child none))
              (contains_cases id child [] only))
              (λ was. contains_later id child listed was)
              (children child chosen has);
        } in
        next_of_ready listed waiting id all.0 all.1 progress all.1.ready after refl
        (λ none. none_ready (id ∷ listed) all.1.node.parents all.1.ready all.1.become_ready none parent named is) all.2
    follows (b ∷ bs) after listed waiting id parent progress all edge selected children =
        follows bs after (b ∷ listed) all.0 id parent (progress_more G Topological Selected listed waiting b all.0 all.1 progress) all.2
        edge selected
        (λ child chosen has. ⊎_elim
        (λ first. ⊎_elim
        (λ same. inr (subst (λ z. Contains (b ∷ listed) z) same (contains_here b listed)))
        (λ later. inl later)
        (contains_cases b child (bs ++ id ∷ []) first))
        (λ was. inr (contains_later b child listed was))
        (children child chosen has))

    -- after a commit comes a parent of it, if a parent of it is ready then
    pub listing_follows_lines : (tips ids : List V) → IsListing G Topological Selected tips ids → FollowsLines G Selected ids
    listing_follows_lines tips ids listing before after id parent split edge is =
        follows before after [] (record { dated = listing.dated; found = [] }) id parent
        (progress_first G Selected tips listing.ready listing.dated listing.first_ready listing.by_date)
        (subst (λ l. ListsAll G Topological Selected [] (record { dated = listing.dated; found = [] }) l) split listing.lists)
        edge is.selected (λ child chosen has. inl (is.children child chosen has))

    pub topological_follows_lines : (order : Order) (tips ids : List V) → IsListing G order Selected tips ids
        → order ≡ Topological → FollowsLines G Selected ids
    topological_follows_lines order tips ids listing topological =
        listing_follows_lines tips ids (subst (λ o. IsListing G o Selected tips ids) topological listing)
