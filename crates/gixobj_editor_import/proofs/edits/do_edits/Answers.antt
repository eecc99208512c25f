use Rattle.gixobj_editor_import.proofs.EditsDone.{all_done, no_write_in_edits, one_more_done, rejected_at}
use Rattle.gixobj_editor_import.proofs.edits.do_edits.Goals as goal
use Rattle.gixobj_store.specs.Stores.{store_model}

pub do_edit-requires : goal.do_edit-requires
do_edit-requires g c = no_write_in_edits c.args.edits.now c.loop-index.index c.index-edits-index.result c.loop-index-test.true c.index-edits-index.is
    c.requires.no_write

pub loop-index-preserved : goal.loop-index-preserved
loop-index-preserved g c =
    let model = store_model g.S.Store.objects g.S.Store.may_fail in
    one_more_done model c.args.editor.now c.loop-index.editor c.do_edit.new.editor c.args.edits.now c.loop-index.index c.index-edits-index.result
    c.loop-index-test.true c.index-edits-index.is c.loop-index.invariant c.in-Ok.ensures

pub returns-in-Err : goal.returns-in-Err
returns-in-Err g c =
    let model = store_model g.S.Store.objects g.S.Store.may_fail in
    record {
      edited = tt;
      after_error = rejected_at model c.args.editor.now c.loop-index.editor c.do_edit.new.editor c.args.edits.now c.loop-index.index c.index-edits-index.result
          c.in-Err.error c.loop-index-test.true c.index-edits-index.is c.loop-index.invariant c.in-Err.ensures;
    }

pub returns : goal.returns
returns g c =
    let model = store_model g.S.Store.objects g.S.Store.may_fail in
    record {
      edited = all_done model c.args.editor.now c.loop-index.editor c.args.edits.now c.loop-index.index c.loop-index-test.false c.loop-index.invariant;
      after_error = tt;
    }
