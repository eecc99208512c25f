use Rattle.std.proofs.Common.{rules, ◌∷◌, [], refl}
use Rattle.gixobj_store.proofs.PathBytes.{split_rest_nil_iff}
use Rattle.gixobj_store.proofs.Steps.{is_step_into_stored}
use Rattle.gixobj_store.specs.EntrySteps.{IsAtEntry}
use Rattle.gixobj_store.proofs.tree.lookup.next_entry_in_bytes.Goals as goal

pub returns-clause-step : goal.returns-clause-step
returns-clause-step c is_tree =
    let start : IsAtEntry c.args.tree.object_hash c.args.tree.bytes.now c.in-Some.reader = search rules in
    let (others, entire, remaining, some) = c.in-Some-split_name.ensures.found in
    let last = split_rest_nil_iff c.args.path.now.now c.in-Some-split_name.name.now c.in-Some-split_name.rest.now c.in-Some-split_name.ensures.found in
    let step = c.step_to.ensures others (rw c.is_empty.ensures last) in (
      c.in-Some-split_name.name.now ∷ others,
      entire,
      remaining,
      is_step_into_stored c.args.tree c.in-Some.reader c.in-Some-split_name.name.now
          (c.in-Some-split_name.name.now ∷ others) others c.step_to.result is_tree start refl step,
    )

pub returns-in_default-split_name-clause-step : goal.returns-in_default-split_name-clause-step
returns-in_default-split_name-clause-step c is_tree =
    ([], c.in_default-split_name.ensures.none, c.in_default-split_name.ensures.none, λ name more same. cc same)
