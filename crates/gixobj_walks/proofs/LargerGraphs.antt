-- A listing of the commits that are read is a listing of each graph with these commits.
use Rattle.std.proofs.Common.{◌↔◌, List, [], ◌∷◌, ⊎_elim, inl, inr}
use Rattle.std.specs.List.{AllByRecursion}
use Rattle.gixobj_walks_graph.specs.Graph.{Graph, IsFunctional, IsIncluded, IsRead}
use Rattle.gixobj_walks_graph.specs.Listing.{AreFirstReady, AreInsertedByDate, BecomeReady, IsListing, IsNotOlder, IsOlder, IsReady, Join, ListsAll, Waiting}
use Rattle.gixobj_walks_graph.specs.declared.order.Order.{Order}
use Rattle.gixobj_walks_graph.specs.declared.order.Order.TheVariants.{Date, Topological}
use Rattle.gixobj_walks_marks.proofs.Paths.{includes_parent, read_has_parent}

pub all_weaker : {X : Type 0} (P Q : X → Type 0) → ((x : X) → P x → Q x) → (xs : List X) → AllByRecursion P xs → AllByRecursion Q xs
all_weaker P Q weaker [] all = tt
all_weaker P Q weaker (x ∷ xs) all = (weaker x all.0, all_weaker P Q weaker xs all.1)

module _ {V : Type 0} (R G : Graph V) (P Q : V → Type 0) (included : IsIncluded R G) (functional : IsFunctional G)
    (read : (id : V) → P id → IsRead R id) (same : (id : V) → P id ↔ Q id) where
  ready_in_larger : (listed : List V) (id : V) → IsReady R P listed id → IsReady G Q listed id
  ready_in_larger listed id ready = record {
    selected = (same id).0 ready.selected;
    children = λ child selected edge.
        let small = (same child).1 selected in
        ready.children child small (read_has_parent R G included functional child id (read child small) edge);
  }

  ready_in_smaller : (listed : List V) (id : V) → IsReady G Q listed id → IsReady R P listed id
  ready_in_smaller listed id ready = record {
    selected = (same id).1 ready.selected;
    children = λ child selected edge. ready.children child ((same child).0 selected) (includes_parent R G included child id edge);
  }

  become_ready_in_larger : (listed parents ready : List V) → BecomeReady R P listed parents ready → BecomeReady G Q listed parents ready
  become_ready_in_larger listed [] ready is = is
  become_ready_in_larger listed (parent ∷ parents) ready is = ⊎_elim
      (λ here. inl (
        ready_in_larger listed parent here.0,
        here.1,
        (here.2.0, here.2.1, become_ready_in_larger listed parents here.2.0 here.2.2),
      ))
      (λ other. inr (
        (λ here. other.0 (ready_in_smaller listed parent here.0, here.1)),
        become_ready_in_larger listed parents ready other.1,
      ))
      is

  first_ready_in_larger : (seen tips ready : List V) → AreFirstReady R P seen tips ready → AreFirstReady G Q seen tips ready
  first_ready_in_larger seen [] ready is = is
  first_ready_in_larger seen (tip ∷ tips) ready is = ⊎_elim
      (λ here. inl (
        ready_in_larger [] tip here.0,
        here.1,
        (here.2.0, here.2.1, first_ready_in_larger (tip ∷ seen) tips here.2.0 here.2.2),
      ))
      (λ other. inr (
        (λ here. other.0 (ready_in_smaller [] tip here.0, here.1)),
        first_ready_in_larger (tip ∷ seen) tips ready other.1,
      ))
      is

  not_older_in_larger : (id other : V) → IsNotOlder R id other → IsNotOlder G id other
  not_older_in_larger id other is = record {
    node = is.node;
    other_node = is.other_node;
    named = included id is.node is.named;
    other_named = included other is.other_node is.other_named;
    seconds = is.seconds;
  }

  older_in_larger : (id other : V) → IsOlder R id other → IsOlder G id other
  older_in_larger id other is = record {
    node = is.node;
    other_node = is.other_node;
    named = included id is.node is.named;
    other_named = included other is.other_node is.other_named;
    seconds = is.seconds;
  }

  inserted_in_larger : (ids old new : List V) → AreInsertedByDate R ids old new → AreInsertedByDate G ids old new
  inserted_in_larger [] old new is = is
  inserted_in_larger (id ∷ ids) old new is =
      let one = is.1 in (
        is.0,
        record {
          before = one.before;
          after = one.after;
          was = one.was;
          joined = one.joined;
          not_older = all_weaker (λ other. IsNotOlder R other id) (λ other. IsNotOlder G other id)
              (λ other it. not_older_in_larger other id it) one.before one.not_older;
          older = all_weaker (λ other. IsOlder R other id) (λ other. IsOlder G other id)
              (λ other it. older_in_larger other id it) one.after one.older;
        },
        inserted_in_larger ids is.0 new is.2,
      )

  join_in_larger : (order : Order) (ids : List V) (old new : Waiting V) → Join R order ids old new → Join G order ids old new
  join_in_larger Date ids old new is = (inserted_in_larger ids old.dated new.dated is.0, is.1)
  join_in_larger Topological ids old new is = is

  lists_all_in_larger : (order : Order) (listed : List V) (waiting : Waiting V) (ids : List V)
      → ListsAll R order P listed waiting ids → ListsAll G order Q listed waiting ids
  lists_all_in_larger order listed waiting [] is = is
  lists_all_in_larger order listed waiting (id ∷ ids) is =
      let step = is.1 in (
        is.0,
        record {
          others = step.others;
          node = step.node;
          ready = step.ready;
          next = step.next;
          named = included id step.node step.named;
          become_ready = become_ready_in_larger (id ∷ listed) step.node.parents step.ready step.become_ready;
          join = join_in_larger order step.ready step.others is.0 step.join;
        },
        lists_all_in_larger order (id ∷ listed) is.0 ids is.2,
      )

  pub listing_in_larger : (order : Order) (tips ids : List V) → IsListing R order P tips ids → IsListing G order Q tips ids
  listing_in_larger order tips ids is = record {
    ready = is.ready;
    dated = is.dated;
    first_ready = first_ready_in_larger [] tips is.ready is.first_ready;
    by_date = inserted_in_larger is.ready [] is.dated is.by_date;
    lists = lists_all_in_larger order [] (record { dated = is.dated; found = [] }) ids is.lists;
  }
