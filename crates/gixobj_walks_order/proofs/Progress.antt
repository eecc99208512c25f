-- While commits are listed, those that wait stay ready, not listed and each once.
use Rattle.std.proofs.Common.{◌≡◌, ◌≢◌, ◌⊎◌, ◌++◌, ◌∙◌, List, [], ◌∷◌, Contains, inl, inr, refl, sym, ap, subst, ⊎_elim, append_assoc, append-nil}
use Rattle.gixobj_walks_graph.specs.Graph.{AreOnce, Graph, HasParent, IsFunctional, NodeView}
use Rattle.gixobj_walks_graph.specs.Listing.{AreFirstReady, AreInsertedByDate, BecomeReady, IsInsertedByDate, IsNext, IsReady, Join, Lists, Waiting}
use Rattle.gixobj_walks_graph.specs.declared.order.Order.{Order}
use Rattle.gixobj_walks_graph.specs.declared.order.Order.TheVariants.{Date, Topological}
use Rattle.gixobj_walks_order.specs.Progress.{HasEachReady, IsProgress, all_of}
use Rattle.gixobj_walks_order.proofs.Members.{AreInserted, IsInserted, absent_removed, all_inserted_cases, all_inserted_each, all_inserted_keeps}
use Rattle.gixobj_walks_order.proofs.Members.{all_inserted_once, contains_cases, contains_decided, contains_here, contains_later, contains_nothing}
use Rattle.gixobj_walks_order.proofs.Members.{each_from_contained, inserted_cases, inserted_itself, inserted_keeps, once_removed}

-- ---- joining

inserted_dated : {V : Type 0} (G : Graph V) (id : V) (old new found : List V) → IsInsertedByDate G id old new
    → IsInserted id (old ++ found) (new ++ found)
inserted_dated G id old new found inserted = record {
  before = inserted.before;
  after = inserted.after ++ found;
  was = ap (λ l. l ++ found) inserted.was ∙ append_assoc inserted.before inserted.after found;
  joined = ap (λ l. l ++ found) inserted.joined ∙ append_assoc inserted.before (id ∷ inserted.after) found;
}

pub all_inserted_dated : {V : Type 0} (G : Graph V) (ids old new found : List V) → AreInsertedByDate G ids old new
    → AreInserted ids (old ++ found) (new ++ found)
all_inserted_dated G [] old new found inserted = ap (λ l. l ++ found) inserted
all_inserted_dated G (id ∷ ids) old new found (next, first, others) =
    (next ++ found, inserted_dated G id old next found first, all_inserted_dated G ids next new found others)

all_inserted_found : {V : Type 0} (ids dated found : List V) → AreInserted ids (dated ++ found) (dated ++ (found ++ ids))
all_inserted_found [] dated found = ap (λ l. dated ++ l) (append-nil found)
all_inserted_found (id ∷ ids) dated found = (
  dated ++ (found ++ id ∷ []),
  record {
    before = dated ++ found;
    after = [];
    was = sym (append-nil (dated ++ found));
    joined = sym (append_assoc dated found (id ∷ []));
  },
  subst (λ l. AreInserted ids (dated ++ (found ++ id ∷ [])) (dated ++ l)) (append_assoc found (id ∷ []) ids)
      (all_inserted_found ids dated (found ++ id ∷ [])),
)

pub joined_inserted : {V : Type 0} (G : Graph V) (order : Order) (ids : List V) (old new : Waiting V)
    → Join G order ids old new → AreInserted ids (all_of old) (all_of new)
joined_inserted G Date ids old new (dated, found) =
    subst (λ l. AreInserted ids (all_of old) (new.dated ++ l)) (sym found)
    (all_inserted_dated G ids old.dated new.dated old.found dated)
joined_inserted G Topological ids old new (dated, found) =
    subst (λ l. AreInserted ids (all_of old) (l ++ new.found)) (sym dated)
    (subst (λ l. AreInserted ids (all_of old) (old.dated ++ l)) (sym found) (all_inserted_found ids old.dated old.found))

pub next_inserted : {V : Type 0} (old : Waiting V) (id : V) (new : Waiting V) → IsNext old id new
    → IsInserted id (all_of new) (all_of old)
next_inserted old id new next = ⊎_elim
    (λ (found, dated). record {
      before = new.dated ++ new.found;
      after = [];
      was = sym (append-nil (all_of new));
      joined = ap (λ l. l ++ old.found) (sym dated) ∙ ap (λ l. new.dated ++ l) found ∙ sym (append_assoc new.dated new.found (id ∷ []));
    })
    (λ (was, found, dated). record {
      before = [];
      after = all_of new;
      was = refl;
      joined = ap (λ l. l ++ old.found) dated ∙ ap (λ l. (id ∷ new.dated) ++ l) (was ∙ sym found);
    })
    next

-- ---- the commits that become ready

module _ {V : Type 0} (G : Graph V) (Selected : V → Type 0) (listed : List V) where
  pub become_ready_is_ready : (parents ready : List V) → BecomeReady G Selected listed parents ready → (x : V)
      → Contains ready x → IsReady G Selected listed x × Contains parents x
  become_ready_is_ready [] ready become x has = absurd (contains_nothing x (subst (λ l. Contains l x) become has))
  become_ready_is_ready (parent ∷ parents) ready become x has = ⊎_elim
      (λ (is, last, (rest, joined, more)). ⊎_elim
      (λ same. (subst (λ z. IsReady G Selected listed z) same is, subst (λ z. Contains (parent ∷ parents) z) same (contains_here parent parents)))
      (λ later. let known = become_ready_is_ready parents rest more x later in (known.0, contains_later parent x parents known.1))
      (contains_cases parent x rest (subst (λ l. Contains l x) joined has)))
      (λ (other, more). let known = become_ready_is_ready parents ready more x has in (known.0, contains_later parent x parents known.1))
      become

  pub become_ready_once : (parents ready : List V) → BecomeReady G Selected listed parents ready → AreOnce ready
  become_ready_once [] ready become = subst (λ l. AreOnce l) (sym become) tt
  become_ready_once (parent ∷ parents) ready become = ⊎_elim
      (λ (is, last, (rest, joined, more)). subst (λ l. AreOnce l) (sym joined) (
        each_from_contained (λ y. parent ≢ y) rest
            (λ y has same. last (subst (λ z. Contains parents z) (sym same) (become_ready_is_ready parents rest more y has).1)),
        become_ready_once parents rest more,
      ))
      (λ (other, more). become_ready_once parents ready more)
      become

  pub become_ready_complete : ((x y : V) → (x ≡ y) ⊎ (x ≢ y)) → (parents ready : List V)
      → BecomeReady G Selected listed parents ready → (x : V) → Contains parents x → IsReady G Selected listed x
      → Contains ready x
  become_ready_complete decide [] ready become x has is = absurd (contains_nothing x has)
  become_ready_complete decide (parent ∷ parents) ready become x has is = ⊎_elim
      (λ (first, last, (rest, joined, more)). subst (λ l. Contains l x) (sym joined) (⊎_elim
      (λ same. subst (λ z. Contains (parent ∷ rest) z) same (contains_here parent rest))
      (λ later. contains_later parent x rest (become_ready_complete decide parents rest more x later is))
      (contains_cases parent x parents has)))
      (λ (other, more). become_ready_complete decide parents ready more x (⊎_elim
      (λ later. later)
      (λ none. absurd (⊎_elim
      (λ same. other (subst (λ z. IsReady G Selected listed z) (sym same) is, λ has_parent. none (subst (λ z. Contains parents z) same has_parent)))
      (λ later. none later)
      (contains_cases parent x parents has)))
      (contains_decided decide parents x)) is)
      become

module _ {V : Type 0} (G : Graph V) (Selected : V → Type 0) where
  pub first_ready_is_ready : (seen tips ready : List V) → AreFirstReady G Selected seen tips ready → (x : V)
      → Contains ready x → IsReady G Selected [] x × (Contains tips x × (¬ Contains seen x))
  first_ready_is_ready seen [] ready first x has = absurd (contains_nothing x (subst (λ l. Contains l x) first has))
  first_ready_is_ready seen (tip ∷ tips) ready first x has = ⊎_elim
      (λ (is, new, (rest, joined, more)). ⊎_elim
      (λ same. (
        subst (λ z. IsReady G Selected [] z) same is,
        (subst (λ z. Contains (tip ∷ tips) z) same (contains_here tip tips), subst (λ z. ¬ Contains seen z) same new),
      ))
      (λ later. let known = first_ready_is_ready (tip ∷ seen) tips rest more x later in
      (known.0, (contains_later tip x tips known.1.0, λ was. known.1.1 (contains_later tip x seen was))))
      (contains_cases tip x rest (subst (λ l. Contains l x) joined has)))
      (λ (other, more). let known = first_ready_is_ready (tip ∷ seen) tips ready more x has in
      (known.0, (contains_later tip x tips known.1.0, λ was. known.1.1 (contains_later tip x seen was))))
      first

  pub first_ready_once : (seen tips ready : List V) → AreFirstReady G Selected seen tips ready → AreOnce ready
  first_ready_once seen [] ready first = subst (λ l. AreOnce l) (sym first) tt
  first_ready_once seen (tip ∷ tips) ready first = ⊎_elim
      (λ (is, new, (rest, joined, more)). subst (λ l. AreOnce l) (sym joined) (
        each_from_contained (λ y. tip ≢ y) rest
            (λ y has same. (first_ready_is_ready (tip ∷ seen) tips rest more y has).1.1
            (subst (λ z. Contains (tip ∷ seen) z) same (contains_here tip seen))),
        first_ready_once (tip ∷ seen) tips rest more,
      ))
      (λ (other, more). first_ready_once (tip ∷ seen) tips ready more)
      first

  pub first_ready_complete : ((x y : V) → (x ≡ y) ⊎ (x ≢ y)) → (seen tips ready : List V)
      → AreFirstReady G Selected seen tips ready → (x : V) → Contains tips x → IsReady G Selected [] x
      → Contains ready x ⊎ Contains seen x
  first_ready_complete decide seen [] ready first x has is = absurd (contains_nothing x has)
  first_ready_complete decide seen (tip ∷ tips) ready first x has is = ⊎_elim
      (λ (here, new, (rest, joined, more)). ⊎_elim
      (λ same. inl (subst (λ l. Contains l x) (sym joined) (subst (λ z. Contains (tip ∷ rest) z) same (contains_here tip rest))))
      (λ later. ⊎_elim
      (λ found. inl (subst (λ l. Contains l x) (sym joined) (contains_later tip x rest found)))
      (λ was. ⊎_elim
      (λ same. inl (subst (λ l. Contains l x) (sym joined) (subst (λ z. Contains (tip ∷ rest) z) same (contains_here tip rest))))
      (λ old. inr old)
      (contains_cases tip x seen was))
      (first_ready_complete decide (tip ∷ seen) tips rest more x later is))
      (contains_cases tip x tips has))
      (λ (other, more).
      let seen_before : tip ≡ x → Contains seen x = λ same. ⊎_elim
      (λ was. was)
      (λ none. absurd (other (subst (λ z. IsReady G Selected [] z) (sym same) is, λ was. none (subst (λ z. Contains seen z) same was))))
      (contains_decided decide seen x) in
      ⊎_elim
      (λ same. inr (seen_before same))
      (λ later. ⊎_elim
      (λ found. inl found)
      (λ was. ⊎_elim (λ same. inr (seen_before same)) (λ old. inr old) (contains_cases tip x seen was))
      (first_ready_complete decide (tip ∷ seen) tips ready more x later is))
      (contains_cases tip x tips has))
      first

-- ---- one commit is listed

pub weaker_ready : {V : Type 0} (G : Graph V) (Selected : V → Type 0) (listed : List V) (id x : V)
    → IsReady G Selected listed x → IsReady G Selected (id ∷ listed) x
weaker_ready G Selected listed id x is = record {
  selected = is.selected;
  children = λ child selected parent. contains_later id child listed (is.children child selected parent);
}

module _ {V : Type 0} (G : Graph V) (order : Order) (Selected : V → Type 0) (listed : List V) (old : Waiting V) (id : V)
    (new : Waiting V) (lists : Lists G order Selected listed old id new) (progress : IsProgress G Selected listed old)
  where
    taken : IsInserted id (all_of lists.others) (all_of old)
    taken = next_inserted old id lists.others lists.next

    pub waited : Contains (all_of old) id
    waited = inserted_itself id (all_of lists.others) (all_of old) taken

    others_waited : (x : V) → Contains (all_of lists.others) x → Contains (all_of old) x
    others_waited x has = inserted_keeps id (all_of lists.others) (all_of old) taken x has

    joined : AreInserted lists.ready (all_of lists.others) (all_of new)
    joined = joined_inserted G order lists.ready lists.others new lists.join

    pub next_is_ready : IsReady G Selected listed id
    next_is_ready = progress.ready id waited

    pub next_is_unlisted : ¬ Contains listed id
    next_is_unlisted = progress.unlisted id waited

    -- no commit that was ready before has the commit as a child
    no_child : (x : V) → IsReady G Selected listed x → ¬ HasParent G id x
    no_child x is parent = next_is_unlisted (is.children id next_is_ready.selected parent)

    pub found : (x : V) → Contains lists.ready x → IsReady G Selected (id ∷ listed) x × HasParent G id x
    found x has =
        let known = become_ready_is_ready G Selected (id ∷ listed) lists.node.parents lists.ready lists.become_ready x has in
        (known.0, record { node = lists.node; named = lists.named; listed = known.1 })

    -- a commit that waits now is new among those that are ready, or waited before
    waits_now : (x : V) → Contains (all_of new) x → Contains lists.ready x ⊎ Contains (all_of lists.others) x
    waits_now x has = all_inserted_cases lists.ready (all_of lists.others) (all_of new) joined x has

    -- a commit that was ready before, and waits now, waited before
    pub waited_before : (x : V) → IsReady G Selected listed x → Contains (all_of new) x → Contains (all_of old) x
    waited_before x is has = ⊎_elim (λ now. absurd (no_child x is (found x now).1)) (others_waited x) (waits_now x has)

    found_unlisted : (x : V) → Contains lists.ready x → ¬ Contains (id ∷ listed) x
    found_unlisted x has was = ⊎_elim
        (λ same. no_child x (subst (λ z. IsReady G Selected listed z) same next_is_ready) (found x has).1)
        (λ later. no_child x (progress.listed_ready x later) (found x has).1)
        (contains_cases id x listed was)

    other_unlisted : (x : V) → Contains (all_of lists.others) x → ¬ Contains (id ∷ listed) x
    other_unlisted x has was = ⊎_elim
        (λ same. absent_removed id (all_of lists.others) (all_of old) taken progress.once
        (subst (λ z. Contains (all_of lists.others) z) (sym same) has))
        (λ later. progress.unlisted x (others_waited x has) later)
        (contains_cases id x listed was)

    pub progress_more : IsProgress G Selected (id ∷ listed) new
    progress_more = record {
      ready = λ x has. ⊎_elim
          (λ now. (found x now).0)
          (λ was. weaker_ready G Selected listed id x (progress.ready x (others_waited x was)))
          (waits_now x has);
      unlisted = λ x has. ⊎_elim (found_unlisted x) (other_unlisted x) (waits_now x has);
      once = all_inserted_once lists.ready (all_of lists.others) (all_of new) joined
          (become_ready_once G Selected (id ∷ listed) lists.node.parents lists.ready lists.become_ready)
          (once_removed id (all_of lists.others) (all_of old) taken progress.once)
          (λ x now was. no_child x (progress.ready x (others_waited x was)) (found x now).1);
      listed_ready = λ x has. ⊎_elim
          (λ same. weaker_ready G Selected listed id x (subst (λ z. IsReady G Selected listed z) same next_is_ready))
          (λ was. weaker_ready G Selected listed id x (progress.listed_ready x was))
          (contains_cases id x listed has);
      listed_once = (
        each_from_contained (λ y. id ≢ y) listed
            (λ y has same. next_is_unlisted (subst (λ z. Contains listed z) (sym same) has)),
        progress.listed_once,
      );
    }

    -- a commit that wasn't ready has the listed one as a child
    pub complete_more : IsFunctional G → ((x y : V) → (x ≡ y) ⊎ (x ≢ y)) → HasEachReady G Selected listed old
        → HasEachReady G Selected (id ∷ listed) new
    complete_more functional decide complete x is unlisted = ⊎_elim
        (λ has. all_inserted_each lists.ready (all_of lists.others) (all_of new) joined x
        (become_ready_complete G Selected (id ∷ listed) decide lists.node.parents lists.ready lists.become_ready x has is))
        (λ none.
        let before : IsReady G Selected listed x = record {
          selected = is.selected;
          children = λ child selected parent. ⊎_elim
              (λ same. absurd (none (subst (λ (n : NodeView V). Contains n.parents x)
              (functional id parent.node lists.node (subst (λ z. G z parent.node) (sym same) parent.named) lists.named)
              parent.listed)))
              (λ later. later)
              (contains_cases id child listed (is.children child selected parent));
        } in
        let waited_before = complete x before (λ has. unlisted (contains_later id x listed has)) in
        all_inserted_keeps lists.ready (all_of lists.others) (all_of new) joined x (⊎_elim
        (λ same. absurd (unlisted (subst (λ z. Contains (id ∷ listed) z) same (contains_here id listed))))
        (λ was. was)
        (inserted_cases id (all_of lists.others) (all_of old) taken x waited_before)))
        (contains_decided decide lists.node.parents x)

-- ---- before the first commit is listed

module _ {V : Type 0} (G : Graph V) (Selected : V → Type 0) (tips ready dated : List V)
    (first : AreFirstReady G Selected [] tips ready) (by_date : AreInsertedByDate G ready [] dated) where
  begun : AreInserted ready ([] ++ []) (dated ++ [])
  begun = all_inserted_dated G ready [] dated [] by_date

  begun_cases : (x : V) → Contains (dated ++ []) x → Contains ready x
  begun_cases x has = ⊎_elim (λ now. now) (λ none. absurd (contains_nothing x none)) (all_inserted_cases ready [] (dated ++ []) begun x has)

  pub progress_first : IsProgress G Selected [] (record { dated = dated; found = [] })
  progress_first = record {
    ready = λ x has. (first_ready_is_ready G Selected [] tips ready first x (begun_cases x has)).0;
    unlisted = λ x has. contains_nothing x;
    once = all_inserted_once ready [] (dated ++ []) begun (first_ready_once G Selected [] tips ready first) tt (λ x has. contains_nothing x);
    listed_ready = λ x has. absurd (contains_nothing x has);
    listed_once = tt;
  }

  pub complete_first : ((x y : V) → (x ≡ y) ⊎ (x ≢ y))
      → ((x : V) → Selected x → Contains tips x ⊎ ((child : V) × Selected child × HasParent G child x))
      → HasEachReady G Selected [] (record { dated = dated; found = [] })
  complete_first decide reached x is unlisted = ⊎_elim
      (λ tip. ⊎_elim
      (λ has. all_inserted_each ready [] (dated ++ []) begun x has)
      (λ none. absurd (contains_nothing x none))
      (first_ready_complete G Selected decide [] tips ready first x tip is))
      (λ (child, selected, parent). absurd (contains_nothing child (is.children child selected parent)))
      (reached x is.selected)
