-- Each comparison with an item narrows the positions of the searched key.
use Rattle.std.proofs.Common.{◌≡◌, ◌∙◌, ◌<◌, ◌≤◌, HoldsAt, Less, Equal, Greater, Ordering, Ok, Err, length, sym, ap, subst, arith}
use Rattle.std.specs.Ordering.{is_eq}
use Rattle.gixobj_tree_entries.specs.KeyOrder.{key_of}
use Rattle.gixobj_editor_entries.specs.Pieces.{item_key, key_cmp}
use Rattle.gixobj_editor_entries.proofs.BinarySearch.{IsNarrowed, binary_search_position, looked, narrowed_down, narrowed_none, narrowed_up}
use Rattle.gixobj_editor_entries.proofs.search.position_in.Goals.{in-Less, in-Greater}
use Rattle.gixobj_editor_entries.proofs.search.position_in.Given as given
use Rattle.gixobj_editor_entries.proofs.search.position_in.Goals as goal

pub loop-low-preserved : goal.loop-low-preserved
loop-low-preserved g c =
    let xs = c.args.items.now in
    let key = item_key g.T.Named.name_of g.T.Named.is_tree_of in
    let k = key_of c.args.name.now c.args.is_tree in
    let before = c.loop-low.invariant in
    let m = c.loop-low.middle in
    let next = before.next c.loop-low-test.true in
    let within : m < length xs = omega (arith, next.1, before.within) in
    let look : (o : Ordering) → c.order_by_key.result ≡ o → HoldsAt (λ x. key_cmp key k x ≡ o) xs m = λ o is.
    looked key xs k m c.index-items-middle.result within c.index-items-middle.is o (sym c.order_by_key.ensures ∙ is) in
    elim c.match-order_by_key.branch [
      | in-Less w ↦ record {
        ordered = omega (arith, next, w.low-is, w.high-is);
        within = omega (arith, before.within, w.high-is);
        next = λ remaining. (omega arith, omega (arith, remaining));
        narrowed = rw (w.low-is, w.high-is) (narrowed_up key xs c.requires k c.loop-low.low c.loop-low.high m within (look Less w.in-Less.is) before.narrowed);
      }
      | in-Greater w ↦ record {
        ordered = omega (arith, next, w.low-is, w.high-is);
        within = omega (arith, within, w.high-is);
        next = λ remaining. (omega arith, omega (arith, remaining));
        narrowed = rw (w.low-is, w.high-is) (narrowed_down key xs c.requires k c.loop-low.low c.loop-low.high m (look Greater w.in-Greater.is) before.narrowed);
      }
    ]

-- the search found an item
middle_lt_len : (g : given.Over) (c : goal.In-Equal g) → c.loop-low.middle < length c.args.items.now
middle_lt_len g c = let next = c.loop-low.invariant.next c.loop-low-test.true in omega (arith, next, c.loop-low.invariant.within)

equal_at_middle : (g : given.Over) (c : goal.In-Equal g)
    → HoldsAt (λ x. key_cmp (item_key g.T.Named.name_of g.T.Named.is_tree_of) (key_of c.args.name.now c.args.is_tree) x ≡ Equal) c.args.items.now
    c.loop-low.middle
equal_at_middle g c =
    looked (item_key g.T.Named.name_of g.T.Named.is_tree_of) c.args.items.now (key_of c.args.name.now c.args.is_tree) c.loop-low.middle
    c.index-items-middle.result (middle_lt_len g c) c.index-items-middle.is Equal (sym c.order_by_key.ensures ∙ c.in-Equal.is)

pub returns-in-Equal-clause-within : goal.returns-in-Equal-clause-within
returns-in-Equal-clause-within g c = middle_lt_len g c

pub returns-in-Equal-clause-found : goal.returns-in-Equal-clause-found
returns-in-Equal-clause-found g c = λ d. ap is_eq (equal_at_middle g c d)

pub returns-in-Equal-clause-position : goal.returns-in-Equal-clause-position
returns-in-Equal-clause-position g c = binary_search_position (item_key g.T.Named.name_of g.T.Named.is_tree_of) c.args.items.now c.requires
    (key_of c.args.name.now c.args.is_tree) (Ok c.loop-low.middle) (middle_lt_len g c) (equal_at_middle g c)

-- the search found no item
low_le_len : (g : given.Over) (c : goal.After-loop-low g) → c.loop-low.low ≤ length c.args.items.now
low_le_len g c = omega (arith, c.loop-low.invariant.ordered, c.loop-low.invariant.within)

pub returns-clause-within : goal.returns-clause-within
returns-clause-within g c = low_le_len g c

pub returns-clause-none : goal.returns-clause-none
returns-clause-none g c = λ low d. ap is_eq (c.loop-low.invariant.narrowed.back c.loop-low.low d (omega (arith, c.loop-low-test.false)) low)

pub returns-clause-position : goal.returns-clause-position
returns-clause-position g c =
    let xs = c.args.items.now in
    let key = item_key g.T.Named.name_of g.T.Named.is_tree_of in
    let k = key_of c.args.name.now c.args.is_tree in
    binary_search_position key xs c.requires k (Err c.loop-low.low) (low_le_len g c)
    (narrowed_none key xs k c.loop-low.low (subst (IsNarrowed key xs k c.loop-low.low) (omega (arith, c.loop-low-test.false, c.loop-low.invariant.ordered))
    c.loop-low.invariant.narrowed))
