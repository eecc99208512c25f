use Rattle.std.proofs.Common.{rules}
use Rattle.gixobj_tree_entries.specs.EntryViews.{entry_view}
use Rattle.gixobj_store.proofs.Searching.{has_first_named_of_search, no_entry_named_before_damage, no_entry_named_to_end, searches_snoc}
use Rattle.gixobj_store.specs.Lookups.{IsNamed}
use Rattle.gixobj_store.proofs.tree.TreeRefIter.first_named.Goals as goal

pub returns-in-Ok-clause-found : goal.returns-in-Ok-clause-found
returns-in-Ok-clause-found c =
    let is : IsNamed c.args.name.now (entry_view c.in-Ok.entry) = search rules in
    has_first_named_of_search c.args.name.now c.args.self c.loop-item.item-iterator c.next.new.self c.in-Some.item c.in-Ok.entry c.loop-item.invariant
    c.in-Some.ensures.steps
    c.in-Ok.is is

pub loop-item-preserved : goal.loop-item-preserved
loop-item-preserved c =
    let other : ¬ IsNamed c.args.name.now (entry_view c.in-Ok.entry) = search rules in
    searches_snoc c.args.name.now c.args.self c.loop-item.item-iterator c.next.new.self c.in-Some.item c.in-Ok.entry c.loop-item.invariant
    c.in-Some.ensures.steps
    c.in-Ok.is other

pub returns-in-Err-clause-none : goal.returns-in-Err-clause-none
returns-in-Err-clause-none c = no_entry_named_before_damage c.args.name.now c.args.self c.loop-item.item-iterator c.next.new.self c.in-Some.item
    c.in-Err.field-0
    c.loop-item.invariant c.in-Some.ensures.steps c.in-Err.is

pub returns-clause-none : goal.returns-clause-none
returns-clause-none c = no_entry_named_to_end c.args.name.now c.args.self c.loop-item.item-iterator c.next.new.self c.loop-item.invariant
    c.in-None.ensures.steps
