-- A walk by date lists the newest of the ready commits first.
use Rattle.std.proofs.Common.{◌≡◌, ◌⊎◌, ◌++◌, ◌∙◌, List, [], ◌∷◌, Contains, inl, inr, refl, sym, ap, subst, ⊎_elim, append-nil, arith}
use Rattle.std.specs.List.{AllByRecursion}
use Rattle.gixobj_walks_graph.specs.Graph.{EachLater, Graph, HasParent}
use Rattle.gixobj_walks_graph.specs.Listing.{AreInsertedByDate, IsInsertedByDate, IsListing, IsNotOlder, IsOlder, IsReady, Lists, ListsAll, Waiting}
use Rattle.gixobj_walks_graph.specs.Walks.{IsNewestFirst}
use Rattle.gixobj_walks_graph.specs.declared.order.Order.{Order}
use Rattle.gixobj_walks_graph.specs.declared.order.Order.TheVariants.{Date}
use Rattle.gixobj_walks_order.specs.Progress.{IsProgress, all_of}
use Rattle.gixobj_walks_order.proofs.Members.{contains_cases, contains_here, contains_later, contains_nothing, each_contained}
use Rattle.gixobj_walks_order.proofs.Progress.{progress_first, progress_more, waited, waited_before, weaker_ready}
use Rattle.gixobj_walks_order.proofs.Unique.{not_push}

-- no commit comes after an older one
abbrev IsByDate : {V : Type 0} → Graph V → List V → Type 0
IsByDate G ids = EachLater (λ x y. IsNotOlder G x y) ids

-- each commit waits by its date
abbrev WaitsByDate : {V : Type 0} → Graph V → Waiting V → Type 0
WaitsByDate G waiting = IsByDate G waiting.dated × (waiting.found ≡ [])

all_inserted : {V : Type 0} (P : V → Type 0) (id : V) (before after : List V) → P id → AllByRecursion P (before ++ after)
    → AllByRecursion P (before ++ id ∷ after)
all_inserted P id [] after here all = (here, all)
all_inserted P id (x ∷ xs) after here all = (all.0, all_inserted P id xs after here all.1)

-- ---- insertions

module _ {V : Type 0} (G : Graph V) where
  all_not_older : (id : V) (others : List V) → AllByRecursion (λ other. IsOlder G other id) others
      → AllByRecursion (λ other. IsNotOlder G id other) others
  all_not_older id [] older = tt
  all_not_older id (other ∷ others) older = (
    record {
      node = older.0.other_node;
      other_node = older.0.node;
      named = older.0.other_named;
      other_named = older.0.named;
      seconds = omega (arith, older.0.seconds);
    },
    all_not_older id others older.1,
  )

  by_date_at : (id : V) (before after : List V) → IsByDate G (before ++ after)
      → AllByRecursion (λ other. IsNotOlder G other id) before → AllByRecursion (λ other. IsOlder G other id) after
      → IsByDate G (before ++ id ∷ after)
  by_date_at id [] after by_date newer older = (all_not_older id after older, by_date)
  by_date_at id (x ∷ xs) after by_date newer older = (
    all_inserted (λ y. IsNotOlder G x y) id xs after newer.0 by_date.0,
    by_date_at id xs after by_date.1 newer.1 older,
  )

  by_date_inserted : (id : V) (old new : List V) → IsInsertedByDate G id old new → IsByDate G old → IsByDate G new
  by_date_inserted id old new inserted by_date = subst (λ l. IsByDate G l) (sym inserted.joined)
      (by_date_at id inserted.before inserted.after (subst (λ l. IsByDate G l) inserted.was by_date) inserted.not_older inserted.older)

  by_date_all_inserted : (ids old new : List V) → AreInsertedByDate G ids old new → IsByDate G old → IsByDate G new
  by_date_all_inserted [] old new inserted by_date = subst (λ l. IsByDate G l) (sym inserted) by_date
  by_date_all_inserted (id ∷ ids) old new (next, first, others) by_date =
      by_date_all_inserted ids next new others (by_date_inserted id old next first by_date)

  module _ (Selected : V → Type 0) where
    -- a commit that is ready now, and is listed later, waits now
    waits_now : (order : Order) (ids listed : List V) (waiting : Waiting V) → IsProgress G Selected listed waiting
        → ListsAll G order Selected listed waiting ids → (x : V) → Contains ids x → IsReady G Selected listed x
        → Contains (all_of waiting) x
    waits_now order [] listed waiting progress all x has is = absurd (contains_nothing x has)
    waits_now order (id ∷ ids) listed waiting progress (next, lists, more) x has is = ⊎_elim
        (λ same. subst (λ z. Contains (all_of waiting) z) same (waited G order Selected listed waiting id next lists progress))
        (λ later. waited_before G order Selected listed waiting id next lists progress x is
        (waits_now order ids (id ∷ listed) next (progress_more G order Selected listed waiting id next lists progress) more x later
        (weaker_ready G Selected listed id x is)))
        (contains_cases id x ids has)

    module _ (listed : List V) (old : Waiting V) (id : V) (new : Waiting V) (lists : Lists G Date Selected listed old id new)
        (waits : WaitsByDate G old) where
      -- the next commit is the first of those that wait
      first_is_next : (lists.others.found ≡ []) × (old.dated ≡ id ∷ lists.others.dated)
      first_is_next = ⊎_elim
          (λ (found, dated). absurd (not_push lists.others.found id (sym found ∙ waits.1)))
          (λ (none, found, dated). (found, dated))
          lists.next

      others_by_date : IsByDate G (id ∷ lists.others.dated)
      others_by_date = subst (λ l. IsByDate G l) first_is_next.1 waits.0

      waits_more : WaitsByDate G new
      waits_more = (
        by_date_all_inserted lists.ready lists.others.dated new.dated lists.join.0 others_by_date.1,
        lists.join.1 ∙ first_is_next.0,
      )

      newest : (x : V) → Contains (all_of old) x → IsNotOlder G id x
      newest x has =
          let same : all_of old ≡ id ∷ lists.others.dated =
          ap (λ l. old.dated ++ l) waits.1 ∙ append-nil old.dated ∙ first_is_next.1 in
          ⊎_elim
          (λ here. subst (λ z. IsNotOlder G id z) here (record {
            node = lists.node;
            other_node = lists.node;
            named = lists.named;
            other_named = lists.named;
            seconds = omega arith;
          }))
          (λ later. each_contained (λ y. IsNotOlder G id y) lists.others.dated x others_by_date.0 later)
          (contains_cases id x lists.others.dated (subst (λ l. Contains l x) same has))

    newest_listed : (before after listed : List V) (waiting : Waiting V) (id other : V)
        → IsProgress G Selected listed waiting → WaitsByDate G waiting
        → ListsAll G Date Selected listed waiting (before ++ id ∷ after) → Contains after other → Selected other
        → ((child : V) → Selected child → HasParent G child other → Contains before child ⊎ Contains listed child)
        → IsNotOlder G id other
    newest_listed [] after listed waiting id other progress waits all has selected children =
        newest listed waiting id all.0 all.1 waits other
        (waits_now Date (id ∷ after) listed waiting progress all other (contains_later id other after has) (record {
          selected = selected;
          children = λ child chosen parent.
              ⊎_elim (λ none. absurd (contains_nothing child none)) (λ was. was) (children child chosen parent);
        }))
    newest_listed (b ∷ bs) after listed waiting id other progress waits all has selected children =
        newest_listed bs after (b ∷ listed) all.0 id other
        (progress_more G Date Selected listed waiting b all.0 all.1 progress) (waits_more listed waiting b all.0 all.1 waits) all.2
        has selected
        (λ child chosen parent. ⊎_elim
        (λ first. ⊎_elim
        (λ same. inr (subst (λ z. Contains (b ∷ listed) z) same (contains_here b listed)))
        (λ later. inl later)
        (contains_cases b child bs first))
        (λ was. inr (contains_later b child listed was))
        (children child chosen parent))

    -- of the commits that are ready when one is listed, none is newer than it
    pub listing_is_newest_first : (tips ids : List V) → IsListing G Date Selected tips ids → IsNewestFirst G Selected ids
    listing_is_newest_first tips ids listing before after id other split has is =
        newest_listed before after [] (record { dated = listing.dated; found = [] }) id other
        (progress_first G Selected tips listing.ready listing.dated listing.first_ready listing.by_date)
        (by_date_all_inserted listing.ready [] listing.dated listing.by_date tt, refl)
        (subst (λ l. ListsAll G Date Selected [] (record { dated = listing.dated; found = [] }) l) split listing.lists)
        has is.selected (λ child chosen parent. inl (is.children child chosen parent))

    pub date_is_newest_first : (order : Order) (tips ids : List V) → IsListing G order Selected tips ids → order ≡ Date
        → IsNewestFirst G Selected ids
    date_is_newest_first order tips ids listing date =
        listing_is_newest_first tips ids (subst (λ o. IsListing G o Selected tips ids) date listing)
