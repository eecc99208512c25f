use Rattle.std.proofs.Common.{◌≡◌, ◌+◌, ◌-◌, ◌<◌, ◌≤◌, ◌^◌, ℕ, List, Ordering, Less, Equal, Greater, arith, map, refl, subst, sym}
use Rattle.std.specs.List.{AllByRecursion}
use Rattle.std.specs.List.Sorted.{IsStrictlySortedBy}
use Rattle.std.specs.Ordering.{MatchOrdering, nat_cmp, ordering_then}
use Rattle.std.proofs.lemmas.Cmp.{ranked}
use Rattle.gixobj_walks_graph.specs.Listing.{IsInsertedByDate}
use Rattle.gixobj_walks_graph.specs.Numbered.{graph_at}
use Rattle.gixobj_walks_order.specs.Queues.{IsKey}
use Rattle.gixobj_walks_order.specs.declared.queue.Key.{Key}
use Rattle.gixobj_walks_order.proofs.Inserts.{each_inserted, inserted_by_date, seconds_of_named, weaker_keys}
use Rattle.gixobj_walks_order.proofs.queue.insert_by_date.Goals as goal

-- as the derived comparison goes: by the ages, then by the joining
key_cmp : Key → Key → Ordering
key_cmp a b = ordering_then (nat_cmp a.age b.age) (ordering_then (nat_cmp a.joined b.joined) (nat_cmp a.number b.number))

combined : (p q r : Ordering) (a b j l : ℕ) → MatchOrdering p (a < b) (a ≡ b) (b < a)
    → MatchOrdering q (j < l) (j ≡ l) (l < j) → l < j
    → MatchOrdering (ordering_then p (ordering_then q r)) (a < b) ⊥ (b ≤ a)
combined Less q r a b j l ages joined less = ages
combined Equal Less r a b j l ages joined less = absurd (omega arith)
combined Equal Equal r a b j l ages joined less = absurd (omega arith)
combined Equal Greater r a b j l ages joined less = omega arith
combined Greater q r a b j l ages joined less = omega arith

decides_for : (k x : Key) → x.joined < k.joined → MatchOrdering (key_cmp k x) (k.age < x.age) ⊥ (x.age ≤ k.age)
unfolding key_cmp
decides_for k x less = combined (nat_cmp k.age x.age) (nat_cmp k.joined x.joined) (nat_cmp k.number x.number) k.age x.age
    k.joined x.joined (ranked k.age x.age (nat_cmp k.age x.age) refl) (ranked k.joined x.joined (nat_cmp k.joined x.joined) refl)
    less

pub returns-clause-keys : goal.returns-clause-keys
unfolding key_cmp
returns-clause-keys c =
    let node = c.requires.read.0 in
    let named : graph_at c.args.nodes.now c.args.number node = c.requires.read.1 in
    let seconds = seconds_of_named c.args.nodes.now c.args.number node named in
    let k : Key = record { age = 2 ^ 64 - 1 - c.seconds_of-age.result; joined = c.args.joined; number = c.args.number } in
    subst (λ (xs : List Key). AllByRecursion (λ key. IsKey c.args.nodes.now (c.args.joined + 1) key) xs)
    (sym c.in_ok-insert.ensures.keys)
    (each_inserted (λ key. IsKey c.args.nodes.now (c.args.joined + 1) key) key_cmp c.args.dated.now.keys k
    (record { node = node; named = named; age = omega arith; joined = omega arith })
    (weaker_keys c.args.nodes.now c.args.joined (c.args.joined + 1) (omega arith) c.args.dated.now.keys c.requires.keys))

pub returns-clause-inserted : goal.returns-clause-inserted
unfolding key_cmp
returns-clause-inserted c =
    let node = c.requires.read.0 in
    let named : graph_at c.args.nodes.now c.args.number node = c.requires.read.1 in
    let seconds = seconds_of_named c.args.nodes.now c.args.number node named in
    let k : Key = record { age = 2 ^ 64 - 1 - c.seconds_of-age.result; joined = c.args.joined; number = c.args.number } in (
      map (λ (x : Key). x.number) c.insert.new.self.keys,
      subst (λ (xs : List Key). IsInsertedByDate (graph_at c.args.nodes.now) c.args.number
          (map (λ (x : Key). x.number) c.args.dated.now.keys) (map (λ (x : Key). x.number) xs))
          (sym c.in_ok-insert.ensures.keys)
          (inserted_by_date c.args.nodes.now key_cmp k node named (omega arith) (decides_for k) c.args.dated.now.keys c.requires.keys
          (subst (λ (xs : List Key). IsStrictlySortedBy key_cmp xs) c.in_ok-insert.ensures.keys c.in_ok-insert.ensures.ordered)),
      refl,
    )
