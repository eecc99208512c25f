-- A key that joined last is inserted after those that are as new, before those that are older.
use Rattle.std.proofs.Common.{◌≡◌, ◌+◌, ◌-◌, ◌<◌, ◌≤◌, ◌^◌, ℕ, List, [], ◌∷◌, Ordering, Less, Equal, Greater, map, refl, ap, subst, arith}
use Rattle.std.specs.List.{AllByRecursion}
use Rattle.std.specs.List.Sorted.{IsStrictlySortedBy}
use Rattle.std.specs.Ordering.{MatchOrdering, match_ordering}
use Rattle.std.specs.BTreeSet.{insert_key}
use Rattle.std.proofs.lemmas.Map.Keys.{sorted_head, sorted_tail}
use Rattle.gixobj_walks_graph.specs.Graph.{NodeView}
use Rattle.gixobj_walks_graph.specs.Listing.{IsInsertedByDate, IsNotOlder, IsOlder}
use Rattle.gixobj_walks_graph.specs.Numbered.{Nodes, graph_at}
use Rattle.gixobj_walks_order.specs.Counts.{seconds_at, seconds_in}
use Rattle.gixobj_walks_order.specs.Queues.{IsKey}
use Rattle.gixobj_walks_order.specs.declared.queue.Key.{Key}

pub seconds_of_named : (nodes : Nodes) (number : ℕ) (node : NodeView ℕ) → graph_at nodes number node
    → seconds_at nodes number ≡ node.seconds
seconds_of_named nodes number node named = ap seconds_in named

-- what holds of a key and of each other one holds of each that is there after the insertion
each_inserted_step : (P : Key → Type 0) (k x : Key) (xs rest : List Key) (o : Ordering) → P k → P x → AllByRecursion P xs
    → AllByRecursion P rest → AllByRecursion P (match_ordering o (k ∷ x ∷ xs) (x ∷ xs) (x ∷ rest))
each_inserted_step P k x xs rest Less here first others more = (here, (first, others))
each_inserted_step P k x xs rest Equal here first others more = (first, others)
each_inserted_step P k x xs rest Greater here first others more = (first, more)

pub each_inserted : (P : Key → Type 0) (cmp : Key → Key → Ordering) (keys : List Key) (k : Key) → P k
    → AllByRecursion P keys → AllByRecursion P (insert_key cmp keys k)
each_inserted P cmp [] k here each = (here, tt)
each_inserted P cmp (x ∷ xs) k here each =
    each_inserted_step P k x xs (insert_key cmp xs k) (cmp k x) here each.0 each.1 (each_inserted P cmp xs k here each.1)

pub weaker_keys : (nodes : Nodes) (limit more : ℕ) → limit ≤ more → (keys : List Key)
    → AllByRecursion (λ key. IsKey nodes limit key) keys → AllByRecursion (λ key. IsKey nodes more key) keys
weaker_keys nodes limit more le [] each = tt
weaker_keys nodes limit more le (x ∷ xs) each = (
  record { node = each.0.node; named = each.0.named; age = each.0.age; joined = omega arith },
  weaker_keys nodes limit more le xs each.1,
)

module _ (nodes : Nodes) (cmp : Key → Key → Ordering) (k : Key) (node : NodeView ℕ)
    (named : graph_at nodes k.number node) (age : k.age + node.seconds ≡ 2 ^ 64 - 1)
    (decides : (x : Key) → x.joined < k.joined → MatchOrdering (cmp k x) (k.age < x.age) ⊥ (x.age ≤ k.age))
  where
    older_here : (x : Key) → IsKey nodes k.joined x → cmp k x ≡ Less → IsOlder (graph_at nodes) x.number k.number
    older_here x key less =
        let lt : k.age < x.age = subst (λ o. MatchOrdering o (k.age < x.age) ⊥ (x.age ≤ k.age)) less (decides x key.joined) in
        record { node = key.node; other_node = node; named = key.named; other_named = named; seconds = omega (arith, key.age) }

    older_each : (xs : List Key) → AllByRecursion (λ x. IsKey nodes k.joined x) xs
        → AllByRecursion (λ y. cmp k y ≡ Less) xs
        → AllByRecursion (λ other. IsOlder (graph_at nodes) other k.number) (map (λ (x : Key). x.number) xs)
    older_each [] keys less = tt
    older_each (x ∷ xs) keys less = (older_here x keys.0 less.0, older_each xs keys.1 less.1)

    as_new : (x : Key) → IsKey nodes k.joined x → cmp k x ≡ Greater → IsNotOlder (graph_at nodes) x.number k.number
    as_new x key greater =
        let le : x.age ≤ k.age = subst (λ o. MatchOrdering o (k.age < x.age) ⊥ (x.age ≤ k.age)) greater (decides x key.joined) in
        record { node = key.node; other_node = node; named = key.named; other_named = named; seconds = omega (arith, key.age) }

    tied : (x : Key) → IsKey nodes k.joined x → cmp k x ≡ Equal → ⊥
    tied x key equal = subst (λ o. MatchOrdering o (k.age < x.age) ⊥ (x.age ≤ k.age)) equal (decides x key.joined)

    inserted_step : (x : Key) (xs rest : List Key) (o : Ordering) → cmp k x ≡ o → IsKey nodes k.joined x
        → AllByRecursion (λ x. IsKey nodes k.joined x) xs
        → (IsStrictlySortedBy cmp rest
        → IsInsertedByDate (graph_at nodes) k.number (map (λ (x : Key). x.number) xs) (map (λ (x : Key). x.number) rest))
        → IsStrictlySortedBy cmp (match_ordering o (k ∷ x ∷ xs) (x ∷ xs) (x ∷ rest))
        → IsInsertedByDate (graph_at nodes) k.number (map (λ (x : Key). x.number) (x ∷ xs))
        (map (λ (x : Key). x.number) (match_ordering o (k ∷ x ∷ xs) (x ∷ xs) (x ∷ rest)))
    inserted_step x xs rest Less is key keys more sorted = record {
      before = [];
      after = map (λ (x : Key). x.number) (x ∷ xs);
      was = refl;
      joined = refl;
      not_older = tt;
      older = older_each (x ∷ xs) (key, keys) (sorted_head cmp k (x ∷ xs) sorted);
    }
    inserted_step x xs rest Equal is key keys more sorted = absurd (tied x key is)
    inserted_step x xs rest Greater is key keys more sorted =
        let later = more (sorted_tail cmp x rest sorted) in
        record {
          before = x.number ∷ later.before;
          after = later.after;
          was = ap (λ l. x.number ∷ l) later.was;
          joined = ap (λ l. x.number ∷ l) later.joined;
          not_older = (as_new x key is, later.not_older);
          older = later.older;
        }

    -- the insertion of the key is the insertion of its commit by its date
    pub inserted_by_date : (xs : List Key) → AllByRecursion (λ x. IsKey nodes k.joined x) xs
        → IsStrictlySortedBy cmp (insert_key cmp xs k)
        → IsInsertedByDate (graph_at nodes) k.number (map (λ (x : Key). x.number) xs)
        (map (λ (x : Key). x.number) (insert_key cmp xs k))
    inserted_by_date [] keys sorted = record {
      before = [];
      after = [];
      was = refl;
      joined = refl;
      not_older = tt;
      older = tt;
    }
    inserted_by_date (x ∷ xs) keys sorted =
        inserted_step x xs (insert_key cmp xs k) (cmp k x) refl keys.0 keys.1 (inserted_by_date xs keys.1) sorted
