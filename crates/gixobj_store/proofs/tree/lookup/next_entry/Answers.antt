use Rattle.std.proofs.Common.{rules, ◌≡◌, ◌∷◌, map}
use Rattle.bstr.specs.Owned.{bstring_bytes}
use Rattle.gixobj_store.proofs.Steps.{names_nil_iff, is_step_into_stored}
use Rattle.gixobj_store.specs.EntrySteps.{IsAtEntry}
use Rattle.gixobj_store.proofs.tree.lookup.next_entry.Goals as goal

pub returns-clause-step : goal.returns-clause-step
returns-clause-step c is_tree =
    let start : IsAtEntry c.args.tree.object_hash c.args.tree.bytes.now c.in-Some.reader = search rules in
    let split : map bstring_bytes c.args.components.now.now ≡ c.as_bytes.result.now ∷ map bstring_bytes c.in-Some-split_first.more.now = search rules in
    let last = names_nil_iff c.in-Some-split_first.more.now in
    is_step_into_stored c.args.tree c.in-Some.reader c.as_bytes.result.now (map bstring_bytes c.args.components.now.now)
    (map bstring_bytes c.in-Some-split_first.more.now) c.step_to.result is_tree start split
    (c.step_to.ensures (map bstring_bytes c.in-Some-split_first.more.now) (rw c.is_empty.ensures last))
