use Rattle.std.proofs.Common.{List, ap, subst, ◌∙◌}
use Rattle.gixobj_editor_files.specs.State.{new_state}
use Rattle.gixobj_tree_entries.specs.Entries.{EntryView}
use Rattle.gixobj_tree.specs.TreeEncoding.{IsDigestResult}
use Rattle.gixobj_cli_edit.specs.Edits.{IsNewEditor}
use Rattle.gixobj_cli_edit.proofs.Reported.{is_edit_of_report}
use Rattle.gixobj_cli_edit.proofs.editing.edit.Goals as goal

pub returns-clause-reported : goal.returns-clause-reported
returns-clause-reported c =
    let begun : IsNewEditor c.args.hash c.new-editor.result = record {
      store = c.new.result;
      nothing = c.new.ensures;
      is_new = c.new-editor.ensures.state ∙ ap (λ (root : List EntryView). new_state root c.new.result c.args.hash) c.empty.ensures;
    } in
    is_edit_of_report _ _ c.args.hash c.args.script.now c.new-editor.result _ c.edit_on.result
    (λ tree answer said. subst (λ (t : List EntryView). IsDigestResult c.args.hash t answer) said.shows said.says.met) begun c.edit_on.ensures.reported
