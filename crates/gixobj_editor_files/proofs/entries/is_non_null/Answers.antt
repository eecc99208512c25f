use Rattle.std.proofs.Common.{◌∙◌, ap, not}
use Rattle.gixobj_tree_entries.specs.Entries.{EntryView}
use Rattle.gixobj_editor_files.specs.Files.{is_null}
use Rattle.gixobj_editor_files.proofs.NullIds.{is_null_of_test}
use Rattle.gixobj_editor_files.proofs.entries.is_non_null.Goals as goal

pub returns : goal.returns
returns c = ap not (is_null_of_test c.entry.inside.oid _ c.is_null.ensures ∙ ap (λ (e : EntryView). is_null e.id) c.entry.view_is)
