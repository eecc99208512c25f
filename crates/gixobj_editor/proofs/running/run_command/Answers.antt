use Rattle.std.proofs.Common.{List, Result, rules, subst}
use Rattle.std.specs.Fn.{FnReturnsAt}
use Rattle.bstr.specs.declared.bstring.BString.{BString}
use Rattle.gixobj_editor_open.specs.Paths.{names_of}
use Rattle.gixobj_editor.specs.Causes.{HasCausesAt}
use Rattle.gixobj_editor.specs.Cursors.{cursor_path}
use Rattle.gixobj_hash.specs.declared.hash.object_id.ObjectId.{ObjectId}
use Rattle.gixobj_store.specs.Stores.{StoreModel}
use Rattle.gixobj_tree_entries.specs.Entries.{EntryView}
use Rattle.gixobj_editor.specs.Replies.{IsReplyAt}
use Rattle.gixobj_editor.proofs.Replied.{is_root_set_of_reply}
use Rattle.gixobj_editor.proofs.running.run_command.Goals as goal

pub returns-in-At : goal.returns-in-At
returns-in-At g c =
    let model : StoreModel g.row.S.Denot = record { objects = g.S.Store.objects; may_fail = g.S.Store.may_fail } in
    let answers = λ (tree : List EntryView) (answer : Result ObjectId g.row.E.Denot). FnReturnsAt g.F.Fn c.args.out.now tree answer in
    record {
      reply = rw c.in-At.is
          (subst (λ (l : List BString). IsReplyAt model answers (cursor_path (names_of l)) c.args.editor.now c.in-At.edits.items c.do_edits_at.result
          c.do_edits_at.new.editor) c.deref.ensures.value c.do_edits_at.ensures.reply);
      causes = rw c.in-At.is
          (subst (λ (l : List BString). HasCausesAt model g.S.Keep.keep_errors answers (cursor_path (names_of l)) c.args.editor.now c.in-At.edits.items
          c.do_edits_at.result c.do_edits_at.new.editor) c.deref.ensures.value c.do_edits_at.ensures.causes);
    }

pub returns-then-is_well_formed : goal.returns-then-is_well_formed
returns-then-is_well_formed g c =
    record {
      reply = rw c.in-SetRoot.is
          (is_root_set_of_reply c.args.editor.now _ c.set_root.result.now c.in-SetRoot.root (search rules) (c.is_well_formed.ensures.0 c.if-is_well_formed.true)
          c.set_root.ensures.state c.set_root.ensures.files c.set_root.ensures.has_bases);
      causes = rw c.in-SetRoot.is tt;
    }
