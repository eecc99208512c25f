use Rattle.std.proofs.Common.{arith}
use Rattle.gixobj_editor_files.proofs.WellFormedEdits.{is_well_formed_without}
use Rattle.gixobj_editor_files.proofs.Stored.{is_stored_of_edit}
use Rattle.gixobj_editor_files.proofs.open_entries.Entries.remove.Goals as goal

pub invariant_of-self : goal.invariant_of-self
invariant_of-self c =
    let stored = rw (← c.self-inside.view_is) at c.self.invariant in
    let done = c.if-remove_named.ensures in
    is_stored_of_edit (λ p. p.items) _ _ _ _ _ _ _ (rw done.removed (is_well_formed_without c.args.name.now _ stored.formed)) done.non_empty
    stored.spare_empty done.pieces stored.has_room (omega (arith, done.len)) (omega (arith, done.len, stored.counted))

pub invariant_of-self-else-remove_named : goal.invariant_of-self-else-remove_named
invariant_of-self-else-remove_named c =
    let stored = rw (← c.self-inside.view_is) at c.self.invariant in
    let done = c.if-remove_named.ensures in
    is_stored_of_edit (λ p. p.items) _ _ _ _ _ _ _ (rw done.removed (is_well_formed_without c.args.name.now _ stored.formed)) done.non_empty
    stored.spare_empty done.pieces stored.has_room (omega (arith, done.len)) (omega (arith, done.len, stored.counted))
