-- A list of a walk is determined by the graph, the order, the selected commits and the tips.
use Rattle.std.proofs.Common.{◌≡◌, ◌++◌, ◌≤◌, ◌∙◌, List, [], ◌∷◌, refl, sym, ap, subst, ⊎_elim, arith, length}
use Rattle.std.specs.List.{AllByRecursion}
use Rattle.std.proofs.lemmas.List.{length_push, same_from_push}
use Rattle.gixobj_walks_graph.specs.Graph.{Graph, IsFunctional, NodeView}
use Rattle.gixobj_walks_graph.specs.Listing.{AreFirstReady, AreInsertedByDate, BecomeReady, IsInsertedByDate, IsListing, IsNext, IsNotOlder, IsOlder, Join}
use Rattle.gixobj_walks_graph.specs.Listing.{Lists, ListsAll, Waiting}
use Rattle.gixobj_walks_graph.specs.declared.order.Order.{Order}
use Rattle.gixobj_walks_graph.specs.declared.order.Order.TheVariants.{Date, Topological}

pub not_push : {V : Type 0} (xs : List V) (x : V) → xs ++ x ∷ [] ≡ [] → ⊥
not_push xs x same =
    let none : length (xs ++ x ∷ []) ≡ 0 = ap length same in
    omega (arith, none, length_push xs x)

same_waiting : {V : Type 0} (a b : Waiting V) → a.dated ≡ b.dated → a.found ≡ b.found → a ≡ b
same_waiting {V} a b dated found =
    ap (λ (d : List V). let w : Waiting V = record { dated = d; found = a.found } in w) dated
    ∙ ap (λ (f : List V). let w : Waiting V = record { dated = b.dated; found = f } in w) found

next_unique : {V : Type 0} (old new other : Waiting V) (id again : V) → IsNext old id new → IsNext old again other
    → (id ≡ again) × (new ≡ other)
next_unique old new other id again first second = ⊎_elim
    (λ (found, dated). ⊎_elim
    (λ (found', dated').
    let same = same_from_push new.found other.found id again (sym found ∙ found') in
    (same.1, same_waiting new other (dated ∙ sym dated') same.0))
    (λ (none, found', dated'). absurd (not_push new.found id (sym found ∙ none)))
    second)
    (λ (none, found, dated). ⊎_elim
    (λ (found', dated'). absurd (not_push other.found again (sym found' ∙ none)))
    (λ (none', found', dated').
    let same : id ∷ new.dated ≡ again ∷ other.dated = sym dated ∙ dated' in
    let head : id ≡ again = cc in
    let tail : new.dated ≡ other.dated = cc in
    (head, same_waiting new other tail (found ∙ sym found')))
    second)
    first

become_ready_unique : {V : Type 0} (G : Graph V) (Selected : V → Type 0) (listed parents ready other : List V)
    → BecomeReady G Selected listed parents ready → BecomeReady G Selected listed parents other → ready ≡ other
become_ready_unique G Selected listed [] ready other first second = first ∙ sym second
become_ready_unique G Selected listed (parent ∷ parents) ready other first second = ⊎_elim
    (λ (is, last, (rest, joined, more)). ⊎_elim
    (λ (is', last', (rest', joined', more')).
    joined ∙ ap (λ l. parent ∷ l) (become_ready_unique G Selected listed parents rest rest' more more') ∙ sym joined')
    (λ (neither, more'). absurd (neither (is, last)))
    second)
    (λ (neither, more). ⊎_elim
    (λ (is', last', rest'). absurd (neither (is', last')))
    (λ (neither', more'). become_ready_unique G Selected listed parents ready other more more')
    second)
    first

first_ready_unique : {V : Type 0} (G : Graph V) (Selected : V → Type 0) (seen tips ready other : List V)
    → AreFirstReady G Selected seen tips ready → AreFirstReady G Selected seen tips other → ready ≡ other
first_ready_unique G Selected seen [] ready other first second = first ∙ sym second
first_ready_unique G Selected seen (tip ∷ tips) ready other first second = ⊎_elim
    (λ (is, new, (rest, joined, more)). ⊎_elim
    (λ (is', new', (rest', joined', more')).
    joined ∙ ap (λ l. tip ∷ l) (first_ready_unique G Selected (tip ∷ seen) tips rest rest' more more') ∙ sym joined')
    (λ (neither, more'). absurd (neither (is, new)))
    second)
    (λ (neither, more). ⊎_elim
    (λ (is', new', rest'). absurd (neither (is', new')))
    (λ (neither', more'). first_ready_unique G Selected (tip ∷ seen) tips ready other more more')
    second)
    first

module _ {V : Type 0} (G : Graph V) (functional : IsFunctional G) where
  not_both : (id other : V) → IsNotOlder G other id → IsOlder G other id → ⊥
  not_both id other not_older older =
      let one = functional other not_older.node older.node not_older.named older.named in
      let two = functional id not_older.other_node older.other_node not_older.other_named older.other_named in
      let seconds : older.other_node.seconds ≤ older.node.seconds =
      subst (λ (n : NodeView V). n.seconds ≤ older.node.seconds) two
      (subst (λ (n : NodeView V). not_older.other_node.seconds ≤ n.seconds) one not_older.seconds) in
      omega (arith, seconds, older.seconds)

  split_unique : (id : V) (before after before' after' : List V) → before ++ after ≡ before' ++ after'
      → AllByRecursion (λ other. IsNotOlder G other id) before → AllByRecursion (λ other. IsOlder G other id) after
      → AllByRecursion (λ other. IsNotOlder G other id) before' → AllByRecursion (λ other. IsOlder G other id) after'
      → (before ≡ before') × (after ≡ after')
  split_unique id [] after [] after' same not_older older not_older' older' = (refl, same)
  split_unique id [] after (y ∷ ys) after' same not_older older not_older' older' =
      absurd (not_both id y not_older'.0 (subst (λ l. AllByRecursion (λ other. IsOlder G other id) l) same older).0)
  split_unique id (x ∷ xs) after [] after' same not_older older not_older' older' =
      absurd (not_both id x not_older.0 (subst (λ l. AllByRecursion (λ other. IsOlder G other id) l) (sym same) older').0)
  split_unique id (x ∷ xs) after (y ∷ ys) after' same not_older older not_older' older' =
      let head : x ≡ y = cc in
      let tail : xs ++ after ≡ ys ++ after' = cc in
      let more = split_unique id xs after ys after' tail not_older.1 older not_older'.1 older' in
      (ap (λ l. x ∷ l) more.0 ∙ ap (λ z. z ∷ ys) head, more.1)

  inserted_unique : (id : V) (old new other : List V) → IsInsertedByDate G id old new → IsInsertedByDate G id old other
      → new ≡ other
  inserted_unique id old new other first second =
      let same = split_unique id first.before first.after second.before second.after (sym first.was ∙ second.was)
      first.not_older first.older second.not_older second.older in
      first.joined ∙ ap (λ l. l ++ id ∷ first.after) same.0 ∙ ap (λ l. second.before ++ id ∷ l) same.1 ∙ sym second.joined

  all_inserted_unique : (ids old new other : List V) → AreInsertedByDate G ids old new → AreInsertedByDate G ids old other
      → new ≡ other
  all_inserted_unique [] old new other first second = first ∙ sym second
  all_inserted_unique (id ∷ ids) old new other (next, first, more) (next', first', more') =
      all_inserted_unique ids next new other more
      (subst (λ l. AreInsertedByDate G ids l other) (sym (inserted_unique id old next next' first first')) more')

  join_unique : (order : Order) (ids : List V) (old new other : Waiting V) → Join G order ids old new
      → Join G order ids old other → new ≡ other
  join_unique Date ids old new other (dated, found) (dated', found') =
      same_waiting new other (all_inserted_unique ids old.dated new.dated other.dated dated dated') (found ∙ sym found')
  join_unique Topological ids old new other (dated, found) (dated', found') =
      same_waiting new other (dated ∙ sym dated') (found ∙ sym found')

  module _ (order : Order) (Selected : V → Type 0) where
    lists_unique : (listed : List V) (old new other : Waiting V) (id again : V) → Lists G order Selected listed old id new
        → Lists G order Selected listed old again other → (id ≡ again) × (new ≡ other)
    lists_unique listed old new other id again first second =
        let same = next_unique old first.others second.others id again first.next second.next in
        let node = functional id first.node second.node first.named (subst (λ z. G z second.node) (sym same.0) second.named) in
        let become' = subst (λ z. BecomeReady G Selected (z ∷ listed) second.node.parents second.ready) (sym same.0) second.become_ready in
        let become = subst (λ (n : NodeView V). BecomeReady G Selected (id ∷ listed) n.parents second.ready) (sym node) become' in
        let ready = become_ready_unique G Selected (id ∷ listed) first.node.parents first.ready second.ready first.become_ready become in
        let join = subst (λ l. Join G order l first.others other) (sym ready)
        (subst (λ w. Join G order second.ready w other) (sym same.1) second.join) in
        (same.0, join_unique order first.ready first.others new other first.join join)

    nothing_next : (waiting new : Waiting V) (id : V) → waiting.dated ≡ [] → waiting.found ≡ [] → IsNext waiting id new → ⊥
    nothing_next waiting new id dated found next = ⊎_elim
        (λ (last, rest). not_push new.found id (sym last ∙ found))
        (λ (none, rest, head). let same : id ∷ new.dated ≡ [] = sym head ∙ dated in cc)
        next

    all_unique : (ids others listed : List V) (waiting : Waiting V) → ListsAll G order Selected listed waiting ids
        → ListsAll G order Selected listed waiting others → ids ≡ others
    all_unique [] [] listed waiting first second = refl
    all_unique [] (other ∷ others) listed waiting (dated, found) (next, lists, more) =
        absurd (nothing_next waiting lists.others other dated found lists.next)
    all_unique (id ∷ ids) [] listed waiting (next, lists, more) (dated, found) =
        absurd (nothing_next waiting lists.others id dated found lists.next)
    all_unique (id ∷ ids) (other ∷ others) listed waiting (next, lists, more) (next', lists', more') =
        let same = lists_unique listed waiting next next' id other lists lists' in
        let tail = all_unique ids others (id ∷ listed) next more
        (subst (λ z. ListsAll G order Selected (z ∷ listed) next others) (sym same.0)
        (subst (λ w. ListsAll G order Selected (other ∷ listed) w others) (sym same.1) more')) in
        ap (λ l. id ∷ l) tail ∙ ap (λ z. z ∷ others) same.0

    -- two lists of the same walk are equal
    pub listing_is_unique : (tips ids others : List V) → IsListing G order Selected tips ids
        → IsListing G order Selected tips others → ids ≡ others
    listing_is_unique tips ids others first second =
        let ready = first_ready_unique G Selected [] tips first.ready second.ready first.first_ready second.first_ready in
        let dated = all_inserted_unique first.ready [] first.dated second.dated first.by_date
        (subst (λ l. AreInsertedByDate G l [] second.dated) (sym ready) second.by_date) in
        all_unique ids others [] (record { dated = first.dated; found = [] }) first.lists
        (subst (λ d. ListsAll G order Selected [] (record { dated = d; found = [] }) others) (sym dated) second.lists)
