use Rattle.std.proofs.Common.{Err, List, Result, arith, refl}
use Rattle.std.specs.Fn.{FnReturnsAt}
use Rattle.gixobj_hash.specs.declared.hash.object_id.ObjectId.{ObjectId}
use Rattle.gixobj_store.specs.Stores.{store_model}
use Rattle.gixobj_tree_entries.specs.Entries.{EntryView}
use Rattle.gixobj_cli_edit.proofs.RunsSoFar.{is_reported_of_so_far, is_run_so_far_of_nothing, is_run_so_far_of_step, after_error_of_so_far}
use Rattle.gixobj_editor_commands.specs.declared.script.ScriptError.TheVariants.{OutOfMemory}
use Rattle.gixobj_cli_edit.proofs.editing.edit_on.Goals as goal

pub loop-command-init : goal.loop-command-init
loop-command-init g c =
    let answers = (λ (tree : List EntryView) (answer : Result ObjectId g.row.E.Denot). FnReturnsAt g.F.Fn c.args.out tree answer) in record {
      run = is_run_so_far_of_nothing (store_model g.S.Store.objects g.S.Store.may_fail) answers c.args.editor.now _ _ c.new.result c.new.ensures.items refl;
      same = refl;
    }

pub loop-command-preserved : goal.loop-command-preserved
loop-command-preserved g c =
    let answers = (λ (tree : List EntryView) (answer : Result ObjectId g.row.E.Denot). FnReturnsAt g.F.Fn c.args.out tree answer) in record {
      run = is_run_so_far_of_step (store_model g.S.Store.objects g.S.Store.may_fail) answers c.args.editor.now c.loop-command.editor
          c.run_and_report-lines.new.editor _ _ _ _ _ _ c.run_and_report-lines.ensures c.in-Some.ensures.steps.0 c.loop-command.invariant.run;
      same = refl;
    }

pub returns-in-None-lines-clause-after_error : goal.returns-in-None-lines-clause-after_error
returns-in-None-lines-clause-after_error g c =
    let answers = (λ (tree : List EntryView) (answer : Result ObjectId g.row.E.Denot). FnReturnsAt g.F.Fn c.args.out tree answer) in
    after_error_of_so_far (store_model g.S.Store.objects g.S.Store.may_fail) answers c.args.hash c.args.script.now c.args.editor.now c.loop-command.editor
    _ _ c.in_ok-commands.commands.items c.loop-command.lines (Err OutOfMemory) c.in_ok-commands.ensures.found
    c.into_iter-command-iterator.ensures.into_iter_gives.0 (omega (arith, c.in-None.ensures.steps.0, c.loop-command.command-iterator.rest.ok.0))
    c.loop-command.invariant.run

pub returns-in_err-push_lookups-clause-after_error : goal.returns-in_err-push_lookups-clause-after_error
returns-in_err-push_lookups-clause-after_error g c =
    let answers = (λ (tree : List EntryView) (answer : Result ObjectId g.row.E.Denot). FnReturnsAt g.F.Fn c.args.out tree answer) in
    after_error_of_so_far (store_model g.S.Store.objects g.S.Store.may_fail) answers c.args.hash c.args.script.now c.args.editor.now c.loop-command.editor
    _ _ c.in_ok-commands.commands.items c.loop-command.lines c.from_residual-in_err-push_lookups.result c.in_ok-commands.ensures.found
    c.into_iter-command-iterator.ensures.into_iter_gives.0 (omega (arith, c.in-None.ensures.steps.0, c.loop-command.command-iterator.rest.ok.0))
    c.loop-command.invariant.run

pub returns-clause-reported : goal.returns-clause-reported
returns-clause-reported g c =
    let answers = (λ (tree : List EntryView) (answer : Result ObjectId g.row.E.Denot). FnReturnsAt g.F.Fn c.args.out tree answer) in
    is_reported_of_so_far (store_model g.S.Store.objects g.S.Store.may_fail) answers c.args.hash c.args.script.now c.args.editor.now c.loop-command.editor
    _ _ c.in_ok-commands.commands.items _ _ c.lookups.result c.in_ok-commands.ensures.found c.into_iter-command-iterator.ensures.into_iter_gives.0
    (omega (arith, c.in-None.ensures.steps.0, c.loop-command.command-iterator.rest.ok.0)) (rw c.in-Some-lines.is at c.loop-command.invariant.run)
    c.in_ok-push_lookups.ensures c.lookups.ensures
