use Rattle.std.proofs.Common.{◌≡◌, take}
use Rattle.gixobj_examples_edits.specs.Checkouts.{AreInserted}
use Rattle.gixobj_examples_edits.proofs.checkout.insert_entries.Given as goal
use Rattle.gix_object.specs.Stores.{StoreModel}

-- the entries so far are inserted, by the same cursor
abbrev pub invariant-loop-entry : goal.invariant-loop-entry
invariant-loop-entry g l =
    let model : StoreModel g.row.S.Denot = record { objects = g.S.Store.objects; may_fail = g.S.Store.may_fail } in
    record {
      same_editor : l.cursor.editor.ghost_name ≡ l.fn.cursor.editor.ghost_name;
      same_prefix : l.cursor.editor.now.prefix ≡ l.fn.cursor.editor.now.prefix;
      inserted_in : AreInserted model l.fn.cursor.editor.now.prefix l.fn.cursor.editor.now (take l.entry-index l.entries) l.cursor.editor.now;
    }
