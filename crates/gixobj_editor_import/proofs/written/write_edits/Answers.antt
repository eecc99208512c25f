use Rattle.gixobj_editor_import.proofs.Causes.{out_cause_after, tree_cause_after}
use Rattle.gixobj_editor_import.proofs.Stepping.{write_after, write_failed_after}
use Rattle.gixobj_editor_import.proofs.written.write_edits.Goals as goal
use Rattle.gixobj_store.specs.Stores.{store_model}

pub returns-clause-written : goal.returns-clause-written
returns-clause-written g c =
    write_after (store_model g.S.Store.objects g.S.Store.may_fail) c.args.hash c.args.edits.now c.args.editor.now c.do_edits.new.editor
    c.write_and_keep.new.editor c.write_and_keep.result
    c.in_default.ensures.edited c.write_and_keep.ensures.written

pub returns-clause-error : goal.returns-clause-error
returns-clause-error g c =
    write_failed_after (store_model g.S.Store.objects g.S.Store.may_fail) c.args.hash c.args.edits.now c.args.editor.now c.do_edits.new.editor
    c.write_and_keep.new.editor c.write_and_keep.result
    c.in_default.ensures.edited c.write_and_keep.ensures.error

pub returns-clause-out : goal.returns-clause-out
returns-clause-out g c =
    out_cause_after _ _ (store_model g.S.Store.objects g.S.Store.may_fail) c.args.editor.now c.do_edits.new.editor c.args.edits.now c.args.out.now
    c.write_and_keep.new.out c.write_and_keep.result c.in_default.ensures.edited c.write_and_keep.ensures.out

pub returns-clause-cause : goal.returns-clause-cause
returns-clause-cause g c =
    tree_cause_after (store_model g.S.Store.objects g.S.Store.may_fail) g.S.Keep.keep_errors c.args.hash c.args.edits.now c.args.editor.now
    c.do_edits.new.editor c.write_and_keep.new.editor c.write_and_keep.result c.in_default.ensures.edited c.write_and_keep.ensures.cause
