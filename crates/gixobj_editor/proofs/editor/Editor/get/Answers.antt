use Rattle.std.proofs.Common.{◌∙◌, ap}
use Rattle.gixobj_editor_open.specs.Paths.{names_of}
use Rattle.gixobj_editor_files.specs.Edits.{entry_at}
use Rattle.gixobj_editor_files.specs.State.{open_dirs}
use Rattle.gixobj_editor.proofs.Edited.{map_dirs_eq}
use Rattle.std.proofs.Common.{sym}
use Rattle.gixobj_editor.proofs.editor.Editor.get.Goals as goal

pub returns-clause-found : goal.returns-clause-found
returns-clause-found g c =
    c.get.ensures ∙ sym (ap (λ s. entry_at (names_of c.args.path.now) (open_dirs s)) (sym c.self.view_is) ∙ ap (entry_at (names_of c.args.path.now))
    (map_dirs_eq c.self.inside.root))
