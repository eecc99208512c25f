-- The lines are those of the replies to the commands so far.
use Rattle.std.proofs.Common.{Result, ◌≡◌, List}
use Rattle.std.specs.Fn.{FnReturnsAt}
use Rattle.std.specs.Vec.Iter.{into_iter_items}
use Rattle.gixobj_hash.specs.declared.hash.object_id.ObjectId.{ObjectId}
use Rattle.gixobj_store.specs.Stores.{store_model}
use Rattle.gixobj_tree_entries.specs.Entries.{EntryView}
use Rattle.gixobj_cli_edit.proofs.RunsSoFar.{IsRunSoFar}
use Rattle.gixobj_cli_edit.proofs.editing.edit_on.Given as goal

abbrev pub invariant-loop-command : goal.invariant-loop-command
invariant-loop-command g l =
    let answers = (λ (tree : List EntryView) (answer : Result ObjectId g.row.E.Denot). FnReturnsAt g.F.Fn l.fn.out tree answer) in record {
      run : IsRunSoFar (store_model g.S.Store.objects g.S.Store.may_fail) answers l.fn.editor l.editor (into_iter_items l.initial.command-iterator)
          (into_iter_items l.command-iterator) l.lines;
      same : l.out ≡ l.fn.out;
    }
