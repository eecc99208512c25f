use Rattle.std.proofs.Common.{◌++◌, ◌∷◌, Result, Some, [], subst}
use Rattle.gix_object.specs.EntrySteps.{NextEntry}
use Rattle.gix_object.specs.Runs.{broken, complete}
use Rattle.gix_object.specs.TreeViews.{entry_view}
use Rattle.gix_object.specs.hash.decode.Error.{Error}
use Rattle.gix_object.specs.entries.entry_ref.EntryRef.{EntryRef}
use Rattle.gixobj_examples_edits.proofs.planner.is_tree.Goals as goal

pub returns-in-Err : goal.returns-in-Err
returns-in-Err c = λ entries is.
    let before = c.loop-item.invariant in
    let gives = subst (λ (it : Result EntryRef Error). NextEntry c.loop-item.item-iterator (Some it) c.next.new.self) c.in-Err.is
    c.in-Some.ensures.steps in
    let stops = c.consumed_entries_are_prefix.ensures.stops c.args.kind c.args.content.now before.0 c.loop-item.item-iterator c.next.new.self
    c.in-Err.field-0
    before.1 gives in
    let ends = c.tree_readers_agree.ensures.yields c.args.kind c.args.content.now entries is in
    let same = c.tree_readers_agree.ensures.one_run c.args.kind c.args.content.now before.0 entries broken complete stops ends in
    cc same.1

pub loop-item-preserved : goal.loop-item-preserved
loop-item-preserved c =
    let before = c.loop-item.invariant in
    let gives = subst (λ (it : Result EntryRef Error). NextEntry c.loop-item.item-iterator (Some it) c.next.new.self) c.in_default.is
    c.in-Some.ensures.steps in (
      before.0 ++ entry_view c.in_default.field-0 ∷ [],
      c.consumed_entries_are_prefix.ensures.continues c.args.kind c.args.content.now before.0
          c.loop-item.item-iterator c.next.new.self c.in_default.field-0 before.1 gives,
    )
