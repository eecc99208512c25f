use Rattle.std.proofs.Common.{◌<◌, ◌∙◌, ℕ, Bool, List, Bor, rules, length, sym}
use Rattle.std.specs.BTreeSet.{contains}
use Rattle.gixobj_fsck_trees.proofs.FirstOffsets.{name_twice_of_repeat}
use Rattle.gixobj_fsck_trees.proofs.NamesAscend.{not_twice_of_ascend}
use Rattle.gixobj_fsck_trees.specs.RawViews.{raw_entry_views}
use Rattle.gixobj_fsck_trees.specs.TreeMessages.{Ascend}
use Rattle.gixobj_fsck_trees.proofs.NamesSeen.{bytes_order, not_seen_of_empty, repeat_at, repeat_start, repeat_step_at}
use Rattle.gixobj_fsck_trees.proofs.TreeLoops.{entry_at}
use Rattle.gixobj_fsck_trees.proofs.name_twice.first_repeat.Goals as goal

pub loop-entry-init : goal.loop-entry-init
loop-entry-init c = λ offset.
    repeat_start _ (raw_entry_views c.args.entries.now) offset (not_seen_of_empty c.new-names.result c.new-names.ensures.empty)

pub returns-then-not-branch-clause-found : goal.returns-then-not-branch-clause-found
returns-then-not-branch-clause-found c =
    let before : Bor (List ℕ) → Bool = λ name. contains bytes_order c.loop-entry.names name in
    let within : c.loop-entry.entry-index < length c.args.entries.now = search rules in
    (c.loop-entry.invariant (entry_at c.args.entries.now c.loop-entry.entry-index).offset).0
    (repeat_at before c.args.entries.now c.loop-entry.entry-index within (sym c.if-not-branch.true ∙ c.in_ok-insert.ensures.added))

pub loop-entry-preserved : goal.loop-entry-preserved
loop-entry-preserved c = λ offset.
    let before : Bor (List ℕ) → Bool = λ name. contains bytes_order c.loop-entry.names name in
    let after : Bor (List ℕ) → Bool = λ name. contains bytes_order c.insert.new.self name in
    let within : c.loop-entry.entry-index < length c.args.entries.now = search rules in
    let step = repeat_step_at before after c.args.entries.now c.loop-entry.entry-index within c.in_ok-insert.ensures.updates.0
    (sym c.if-not-branch.false ∙ c.in_ok-insert.ensures.added) offset in
    (λ left. (c.loop-entry.invariant offset).0 (step.1 left), λ all. step.0 ((c.loop-entry.invariant offset).1 all))

pub returns-then-names_ascend-clause-found : goal.returns-then-names_ascend-clause-found
returns-then-names_ascend-clause-found c =
    let entries = raw_entry_views c.args.entries.now in
    let ascend : Ascend entries = c.names_ascend.ensures.0 c.if-names_ascend.true in
    λ offset repeat. not_twice_of_ascend entries ascend (name_twice_of_repeat entries offset repeat)
