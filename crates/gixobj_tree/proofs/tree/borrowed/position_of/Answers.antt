-- Each comparison narrows the positions of the name.
use Rattle.std.proofs.Common.{◌∙◌, ◌+◌, ◌-◌, ◌/◌, ◌<◌, Less, Equal, Greater, length, sym, subst, arith}
use Rattle.gixobj_tree.proofs.BinarySearch.{IsNarrowed, compared, looked, narrowed_all, narrowed_down, narrowed_none, narrowed_up}
use Rattle.gixobj_tree.proofs.tree.borrowed.position_of.Goals as goal
use Rattle.gixobj_tree_entries.specs.EntryViews.{entry_view}

pub loop-low-init : goal.loop-low-init
loop-low-init c = record {
  ordered = omega arith;
  within = omega arith;
  narrowed = narrowed_all (compared entry_view c.args.name.now c.args.is_dir)
      c.args.entries.now;
}

pub loop-low-preserved-in-Less : goal.loop-low-preserved-in-Less
loop-low-preserved-in-Less c =
    let es = c.args.entries.now in
    let cmp = compared entry_view c.args.name.now c.args.is_dir in
    let before = c.loop-low.invariant in
    let m = c.loop-low.low + (c.loop-low.high - c.loop-low.low) / 2 in
    let within : m < length es = omega (arith, c.loop-low-test.true, before.within) in
    let is = looked cmp es m c.index-entries-middle.result within c.index-entries-middle.is Less (sym c.order_with.ensures ∙ c.in-Less.is) in
    record {
      ordered = omega (arith, c.loop-low-test.true);
      within = before.within;
      narrowed = narrowed_up cmp es c.loop-low.low c.loop-low.high m within is before.narrowed;
    }

pub loop-low-preserved : goal.loop-low-preserved
loop-low-preserved c =
    let es = c.args.entries.now in
    let cmp = compared entry_view c.args.name.now c.args.is_dir in
    let before = c.loop-low.invariant in
    let m = c.loop-low.low + (c.loop-low.high - c.loop-low.low) / 2 in
    let within : m < length es = omega (arith, c.loop-low-test.true, before.within) in
    let is = looked cmp es m c.index-entries-middle.result within c.index-entries-middle.is Greater (sym c.order_with.ensures ∙ c.in-Greater.is) in
    record {
      ordered = omega (arith, c.loop-low-test.true);
      within = omega (arith, within);
      narrowed = narrowed_down cmp es c.loop-low.low c.loop-low.high m is before.narrowed;
    }

pub returns-in-Equal-clause-position : goal.returns-in-Equal-clause-position
returns-in-Equal-clause-position c =
    let es = c.args.entries.now in
    let m = c.loop-low.low + (c.loop-low.high - c.loop-low.low) / 2 in
    let within : m < length es = omega (arith, c.loop-low-test.true, c.loop-low.invariant.within) in
    looked (compared entry_view c.args.name.now c.args.is_dir) es m c.index-entries-middle.result within c.index-entries-middle.is Equal
    (sym c.order_with.ensures ∙ c.in-Equal.is)

pub returns-clause-position : goal.returns-clause-position
returns-clause-position c =
    let cmp = compared entry_view c.args.name.now c.args.is_dir in
    narrowed_none cmp c.args.entries.now c.loop-low.low
    (subst (IsNarrowed cmp c.args.entries.now c.loop-low.low) (omega (arith, c.loop-low-test.false, c.loop-low.invariant.ordered))
    c.loop-low.invariant.narrowed)
