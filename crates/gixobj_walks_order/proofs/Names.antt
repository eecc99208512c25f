-- A list of numbers is a list of the commits that they name.
use Rattle.std.proofs.Common.{◌≡◌, ◌∙◌, List, [], ◌∷◌, Contains, inl, inr, sym, ap, subst, ⊎_elim, map}
use Rattle.std.specs.List.{AllByRecursion}
use Rattle.std.proofs.lemmas.List.{map-append}
use Rattle.std.proofs.Common.{◌<◌, ◌≢◌, ℕ, zero, suc, arith, get_or, length, refl}
use Rattle.std.proofs.lemmas.List.Elements.{Contains-get_or}
use Rattle.gixobj_walks_graph.specs.Graph.{AreOnce, Graph, HasParent, IsFunctional, IsRead, NodeView}
use Rattle.gixobj_walks_graph.specs.Listing.{
  AreFirstReady,
  AreInsertedByDate,
  BecomeReady,
  IsInsertedByDate,
  IsListing,
  IsNext,
  IsNotOlder,
  IsOlder,
  IsReady,
  Join,
  Lists,
  ListsAll,
  Waiting,
}
use Rattle.gixobj_walks_graph.specs.declared.order.Order.{Order}
use Rattle.gixobj_walks_graph.specs.declared.order.Order.TheVariants.{Date, Topological}
use Rattle.gixobj_walks_order.proofs.Members.{contains_cases, contains_here, contains_later, contains_nothing, each_contained}

contains_map : {V W : Type 0} (f : V → W) (xs : List V) (x : V) → Contains xs x → Contains (map f xs) (f x)
contains_map f [] x has = absurd (contains_nothing x has)
contains_map f (y ∷ ys) x has = ⊎_elim
    (λ same. subst (λ z. Contains (f y ∷ map f ys) (f z)) same (contains_here (f y) (map f ys)))
    (λ later. contains_later (f y) (f x) (map f ys) (contains_map f ys x later))
    (contains_cases y x ys has)

contains_mapped : {V W : Type 0} (f : V → W) (xs : List V) (y : W) → Contains (map f xs) y
    → (x : V) × Contains xs x × (f x ≡ y)
contains_mapped f [] y has = absurd (contains_nothing y has)
contains_mapped f (x ∷ xs) y has = ⊎_elim
    (λ same. (x, contains_here x xs, same))
    (λ later. let more = contains_mapped f xs y later in (more.0, contains_later x more.0 xs more.1, more.2))
    (contains_cases (f x) y (map f xs) has)

each_map : {V W : Type 0} (f : V → W) (P : V → Type 0) (Q : W → Type 0) → ((x : V) → P x → Q (f x)) → (xs : List V)
    → AllByRecursion P xs → AllByRecursion Q (map f xs)
each_map f P Q holds [] each = tt
each_map f P Q holds (x ∷ xs) each = (holds x each.0, each_map f P Q holds xs each.1)

abbrev pub map_node : {V W : Type 0} → (V → W) → NodeView V → NodeView W
map_node name node = record { parents = map name node.parents; seconds = node.seconds }

abbrev map_waiting : {V W : Type 0} → (V → W) → Waiting V → Waiting W
map_waiting name waiting = record { dated = map name waiting.dated; found = map name waiting.found }

-- what ties numbers to the commits that they name
pub record AreNames {V W : Type 0} (name : V → W) (R : Graph V) (G : Graph W) (Known Selected : V → Type 0)
    (Chosen : W → Type 0) : Type 0 where
  -- known numbers have different names
  pub injective : (i j : V) → Known i → Known j → name i ≡ name j → i ≡ j
  -- what is read is known, and its parents
  pub read_known : (i : V) (node : NodeView V) → R i node → Known i
  pub parents_known : (i : V) (node : NodeView V) → R i node → AllByRecursion Known node.parents
  -- the commit of the number is the commit of the name
  pub named : (i : V) (node : NodeView V) → R i node → G (name i) (map_node name node)
  pub functional : IsFunctional G
  -- the selected commits are those that selected numbers name, and each of these is read
  pub chosen : (i : V) → Selected i → Chosen (name i)
  pub selected : (i : V) → Known i → Chosen (name i) → Selected i
  pub has_number : (id : W) → Chosen id → (i : V) × Known i × (name i ≡ id)
  pub read : (i : V) → Selected i → IsRead R i

module _ {V W : Type 0} (name : V → W) (R : Graph V) (G : Graph W) (Known Selected : V → Type 0) (Chosen : W → Type 0)
    (names : AreNames name R G Known Selected Chosen) where
  named_parent : (child parent : V) → HasParent R child parent → HasParent G (name child) (name parent)
  named_parent child parent has = record {
    node = map_node name has.node;
    named = names.named child has.node has.named;
    listed = contains_map name has.node.parents parent has.listed;
  }

  numbered_parent : (child parent : V) → Selected child → Known parent → HasParent G (name child) (name parent)
      → HasParent R child parent
  numbered_parent child parent selected known has =
      let read = names.read child selected in
      let same = names.functional (name child) has.node (map_node name read.0) has.named (names.named child read.0 read.1) in
      let found = contains_mapped name read.0.parents (name parent)
      (subst (λ (n : NodeView W). Contains n.parents (name parent)) same has.listed) in
      let is = names.injective found.0 parent
      (each_contained Known read.0.parents found.0 (names.parents_known child read.0 read.1) found.1) known found.2 in
      record { node = read.0; named = read.1; listed = subst (λ q. Contains read.0.parents q) is found.1 }

  numbered_contains : (xs : List V) (x : V) → AllByRecursion Known xs → Known x → Contains (map name xs) (name x) → Contains xs x
  numbered_contains xs x each known has =
      let found = contains_mapped name xs (name x) has in
      subst (λ z. Contains xs z) (names.injective found.0 x (each_contained Known xs found.0 each found.1) known found.2) found.1

  named_ready : (listed : List V) (id : V) → Known id → IsReady R Selected listed id → IsReady G Chosen (map name listed) (name id)
  named_ready listed id known is = record {
    selected = names.chosen id is.selected;
    children = λ child chosen parent.
        let number = names.has_number child chosen in
        let selected = names.selected number.0 number.1 (subst Chosen (sym number.2) chosen) in
        let has = is.children number.0 selected (numbered_parent number.0 id selected known
        (subst (λ z. HasParent G z (name id)) (sym number.2) parent)) in
        subst (λ z. Contains (map name listed) z) number.2 (contains_map name listed number.0 has);
  }

  numbered_ready : (listed : List V) (id : V) → AllByRecursion Known listed → Known id
      → IsReady G Chosen (map name listed) (name id) → IsReady R Selected listed id
  numbered_ready listed id each known is = record {
    selected = names.selected id known is.selected;
    children = λ child selected parent.
        let read = names.read child selected in
        numbered_contains listed child each (names.read_known child read.0 read.1)
        (is.children (name child) (names.chosen child selected) (named_parent child id parent));
  }

  named_become_ready : (listed parents ready : List V) → AllByRecursion Known listed → AllByRecursion Known parents
      → BecomeReady R Selected listed parents ready → BecomeReady G Chosen (map name listed) (map name parents) (map name ready)
  named_become_ready listed [] ready known each become = ap (map name) become
  named_become_ready listed (parent ∷ parents) ready known each become = ⊎_elim
      (λ (is, last, (rest, joined, more)). inl (
        named_ready listed parent each.0 is,
        λ has. last (numbered_contains parents parent each.1 each.0 has),
        (map name rest, ap (map name) joined, named_become_ready listed parents rest known each.1 more),
      ))
      (λ (neither, more). inr (
        λ (is, last). neither (
          numbered_ready listed parent known each.0 is,
          λ has. last (contains_map name parents parent has),
        ),
        named_become_ready listed parents ready known each.1 more,
      ))
      become

  named_first_ready : (seen tips ready : List V) → AllByRecursion Known seen → AllByRecursion Known tips
      → AreFirstReady R Selected seen tips ready → AreFirstReady G Chosen (map name seen) (map name tips) (map name ready)
  named_first_ready seen [] ready known each first = ap (map name) first
  named_first_ready seen (tip ∷ tips) ready known each first = ⊎_elim
      (λ (is, new, (rest, joined, more)). inl (
        named_ready [] tip each.0 is,
        λ has. new (numbered_contains seen tip known each.0 has),
        (map name rest, ap (map name) joined, named_first_ready (tip ∷ seen) tips rest (each.0, known) each.1 more),
      ))
      (λ (neither, more). inr (
        λ (is, new). neither (
          numbered_ready [] tip tt each.0 is,
          λ has. new (contains_map name seen tip has),
        ),
        named_first_ready (tip ∷ seen) tips ready (each.0, known) each.1 more,
      ))
      first

  named_inserted : (id : V) (old new : List V) → IsInsertedByDate R id old new
      → IsInsertedByDate G (name id) (map name old) (map name new)
  named_inserted id old new inserted = record {
    before = map name inserted.before;
    after = map name inserted.after;
    was = ap (map name) inserted.was ∙ map-append name inserted.before inserted.after;
    joined = ap (map name) inserted.joined ∙ map-append name inserted.before (id ∷ inserted.after);
    not_older = each_map name (λ other. IsNotOlder R other id) (λ other. IsNotOlder G other (name id))
        (λ other is. record {
          node = map_node name is.node;
          other_node = map_node name is.other_node;
          named = names.named other is.node is.named;
          other_named = names.named id is.other_node is.other_named;
          seconds = is.seconds;
        })
        inserted.before inserted.not_older;
    older = each_map name (λ other. IsOlder R other id) (λ other. IsOlder G other (name id))
        (λ other is. record {
          node = map_node name is.node;
          other_node = map_node name is.other_node;
          named = names.named other is.node is.named;
          other_named = names.named id is.other_node is.other_named;
          seconds = is.seconds;
        })
        inserted.after inserted.older;
  }

  named_all_inserted : (ids old new : List V) → AreInsertedByDate R ids old new
      → AreInsertedByDate G (map name ids) (map name old) (map name new)
  named_all_inserted [] old new inserted = ap (map name) inserted
  named_all_inserted (id ∷ ids) old new (next, first, more) =
      (map name next, named_inserted id old next first, named_all_inserted ids next new more)

  named_join : (order : Order) (ids : List V) (old new : Waiting V) → Join R order ids old new
      → Join G order (map name ids) (map_waiting name old) (map_waiting name new)
  named_join Date ids old new (dated, found) =
      (named_all_inserted ids old.dated new.dated dated, ap (map name) found)
  named_join Topological ids old new (dated, found) =
      (ap (map name) dated, ap (map name) found ∙ map-append name old.found ids)

  named_next : (old new : Waiting V) (id : V) → IsNext old id new → IsNext (map_waiting name old) (name id) (map_waiting name new)
  named_next old new id next = ⊎_elim
      (λ (found, dated). inl (ap (map name) found ∙ map-append name new.found (id ∷ []), ap (map name) dated))
      (λ (none, found, dated). inr (ap (map name) none, ap (map name) found, ap (map name) dated))
      next

  module _ (order : Order) where
    named_lists : (listed : List V) (old new : Waiting V) (id : V) → AllByRecursion Known listed
        → Lists R order Selected listed old id new
        → Lists G order Chosen (map name listed) (map_waiting name old) (name id) (map_waiting name new)
    named_lists listed old new id known lists = record {
      others = map_waiting name lists.others;
      node = map_node name lists.node;
      ready = map name lists.ready;
      next = named_next old lists.others id lists.next;
      named = names.named id lists.node lists.named;
      become_ready = named_become_ready (id ∷ listed) lists.node.parents lists.ready
          (names.read_known id lists.node lists.named, known) (names.parents_known id lists.node lists.named) lists.become_ready;
      join = named_join order lists.ready lists.others new lists.join;
    }

    named_all : (ids listed : List V) (waiting : Waiting V) → AllByRecursion Known listed
        → ListsAll R order Selected listed waiting ids
        → ListsAll G order Chosen (map name listed) (map_waiting name waiting) (map name ids)
    named_all [] listed waiting known (dated, found) = (ap (map name) dated, ap (map name) found)
    named_all (id ∷ ids) listed waiting known (next, lists, more) = (
      map_waiting name next,
      named_lists listed waiting next id known lists,
      named_all ids (id ∷ listed) next (names.read_known id lists.node lists.named, known) more,
    )

    -- the list of the numbers is the list of their names
    pub named_listing : (tips ids : List V) → AllByRecursion Known tips → IsListing R order Selected tips ids
        → IsListing G order Chosen (map name tips) (map name ids)
    named_listing tips ids known listing = record {
      ready = map name listing.ready;
      dated = map name listing.dated;
      first_ready = named_first_ready [] tips listing.ready tt known listing.first_ready;
      by_date = named_all_inserted listing.ready [] listing.dated listing.by_date;
      lists = named_all ids [] (record { dated = listing.dated; found = [] }) tt listing.lists;
    }

-- different commits have one position each in a list, so that a position's commit names it
pub once_is_injective : {V : Type 0} (ids : List V) (d : V) → AreOnce ids → (i j : ℕ) → i < length ids → j < length ids
    → get_or ids i d ≡ get_or ids j d → i ≡ j
once_is_injective [] d once i j i_less j_less same = absurd (omega arith)
once_is_injective (x ∷ xs) d once zero zero i_less j_less same = refl
once_is_injective (x ∷ xs) d once zero (suc j) i_less j_less same =
    absurd (each_contained (λ y. x ≢ y) xs (get_or xs j d) once.0 (Contains-get_or xs j d (omega arith)) same)
once_is_injective (x ∷ xs) d once (suc i) zero i_less j_less same =
    absurd (each_contained (λ y. x ≢ y) xs (get_or xs i d) once.0 (Contains-get_or xs i d (omega arith)) (sym same))
once_is_injective (x ∷ xs) d once (suc i) (suc j) i_less j_less same =
    ap (λ n. suc n) (once_is_injective xs d once.1 i j (omega arith) (omega arith) same)
