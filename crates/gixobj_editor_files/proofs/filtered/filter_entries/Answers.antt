use Rattle.std.proofs.Common.{rules, ◌∙◌, not, ap}
use Rattle.std.proofs.lemmas.Fn.{filter_same}
use Rattle.std.proofs.lemmas.List.{with_items_is}
use Rattle.gixobj_tree_entries.specs.Entries.{EntryView}
use Rattle.gixobj_editor_files.specs.Editing.{non_null_entries}
use Rattle.gixobj_editor_files.specs.Files.{is_null}
use Rattle.gixobj_editor_files.proofs.filtered.filter_entries.Goals as goal

pub returns : goal.returns
returns c =
    let items_are = with_items_is c.args.entries.now c.assign_ids.new.entries (c.assign_ids.auto.entries ∙ c.deref_mut.ensures.len) in
    filter_same _ (λ (e : EntryView). not (is_null e.id)) _ (λ x b f' k. search rules) _ _ c.retain.ensures.filtered ∙ ap non_null_entries items_are
    ∙ c.assign_ids.ensures
