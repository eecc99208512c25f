use Rattle.std.proofs.Common.{length, List, arith, ap, refl, Result}
use Rattle.std.specs.Fn.{FnReturnsAt}
use Rattle.gixobj_hash.specs.declared.hash.object_id.ObjectId.{ObjectId}
use Rattle.gixobj_store.specs.Stores.{StoreModel}
use Rattle.gixobj_tree_entries.specs.Entries.{EntryView}
use Rattle.gixobj_editor.proofs.Causes.{no_more_causes, one_more_cause}
use Rattle.gixobj_editor.proofs.Named.{names_history, run_keeps_pairs}
use Rattle.gixobj_editor.proofs.OneId.{ids_determine_files}
use Rattle.gixobj_editor.proofs.LongerRuns.{no_more, one_more}
use Rattle.gixobj_editor.proofs.running.run.Goals as goal

pub loop-command-preserved : goal.loop-command-preserved
loop-command-preserved g c =
    let model : StoreModel g.row.S.Denot = record { objects = g.S.Store.objects; may_fail = g.S.Store.may_fail } in
    let answers = λ (tree : List EntryView) (answer : Result ObjectId g.row.E.Denot). FnReturnsAt g.F.Fn c.args.out tree answer in
    let steps = c.in-Some.ensures.steps in
    record {
      so_far = λ replies new h. one_more model answers c.loop-command.editor _ _ _ _ _ _ _ _ _ _ _ c.run_command-reply.ensures.reply steps.0
          c.push_reserved.ensures.items c.loop-command.invariant.so_far h;
      room = let e = ap length steps.0 in grind (arith, c.loop-command.invariant.room);
      same = refl;
      causes = λ replies new h. one_more_cause model g.S.Keep.keep_errors answers c.loop-command.editor _ _ _ _ _ _ _ _ _ _ _
          c.run_command-reply.ensures.reply c.run_command-reply.ensures.causes steps.0 c.push_reserved.ensures.items c.loop-command.invariant.causes h;
    }

pub returns-clause-replies : goal.returns-clause-replies
returns-clause-replies g c =
    let model : StoreModel g.row.S.Denot = record { objects = g.S.Store.objects; may_fail = g.S.Store.may_fail } in
    let answers = λ (tree : List EntryView) (answer : Result ObjectId g.row.E.Denot). FnReturnsAt g.F.Fn c.args.out tree answer in
    no_more model answers _ _ _ _ _ (omega (arith, c.in-None.ensures.steps.0, c.loop-command.command-iterator.rest.ok.0)) c.loop-command.invariant.so_far

pub returns-clause-files_of_root : goal.returns-clause-files_of_root
returns-clause-files_of_root g c =
    let model : StoreModel g.row.S.Denot = record { objects = g.S.Store.objects; may_fail = g.S.Store.may_fail } in
    let answers = λ (tree : List EntryView) (answer : Result ObjectId g.row.E.Denot). FnReturnsAt g.F.Fn c.args.out tree answer in
    λ T n k written is agrees pairs has. names_history model answers T n _ _ _ _
    (no_more model answers _ _ _ _ _ (omega (arith, c.in-None.ensures.steps.0, c.loop-command.command-iterator.rest.ok.0)) c.loop-command.invariant.so_far) k
    written is agrees pairs has

pub returns-clause-one_id : goal.returns-clause-one_id
returns-clause-one_id g c =
    let model : StoreModel g.row.S.Denot = record { objects = g.S.Store.objects; may_fail = g.S.Store.may_fail } in
    let answers = λ (tree : List EntryView) (answer : Result ObjectId g.row.E.Denot). FnReturnsAt g.F.Fn c.args.out tree answer in
    λ T m plain. ids_determine_files model answers T _ _ _ _
    (no_more model answers _ _ _ _ _ (omega (arith, c.in-None.ensures.steps.0, c.loop-command.command-iterator.rest.ok.0)) c.loop-command.invariant.so_far) m
    plain

pub returns-clause-stored : goal.returns-clause-stored
returns-clause-stored g c =
    let model : StoreModel g.row.S.Denot = record { objects = g.S.Store.objects; may_fail = g.S.Store.may_fail } in
    let answers = λ (tree : List EntryView) (answer : Result ObjectId g.row.E.Denot). FnReturnsAt g.F.Fn c.args.out tree answer in
    run_keeps_pairs model answers _ _ _ _
    (no_more model answers _ _ _ _ _ (omega (arith, c.in-None.ensures.steps.0, c.loop-command.command-iterator.rest.ok.0)) c.loop-command.invariant.so_far)

pub returns-clause-causes : goal.returns-clause-causes
returns-clause-causes g c =
    let model : StoreModel g.row.S.Denot = record { objects = g.S.Store.objects; may_fail = g.S.Store.may_fail } in
    let answers = λ (tree : List EntryView) (answer : Result ObjectId g.row.E.Denot). FnReturnsAt g.F.Fn c.args.out tree answer in
    no_more_causes model g.S.Keep.keep_errors answers _ _ _ _ _
    (omega (arith, c.in-None.ensures.steps.0, c.loop-command.command-iterator.rest.ok.0)) c.loop-command.invariant.causes
