-- The directory's own entry, or none if the directory isn't open.
use Rattle.std.proofs.Common.{◌≡◌, ◌∙◌, ap, sym}
use Rattle.gixobj_editor_open.specs.Paths.{names_of}
use Rattle.gixobj_editor_open.specs.Nested.{dirs_of}
use Rattle.gixobj_editor_files.specs.Edits.{entry_at}
use Rattle.gixobj_editor_files.specs.Files.{Path}
use Rattle.gixobj_editor_files.specs.State.{State, open_dirs}
use Rattle.gixobj_editor_lookups.specs.EditNames.{from_root}
use Rattle.gixobj_editor.proofs.Edited.{map_dirs_eq}
use Rattle.gixobj_editor.proofs.FoundBelow.{entry_at_from_root, entry_at_from_root_none}
use Rattle.gixobj_editor.proofs.editor.Editor.get_below.Goals as goal

pub returns-in_default : goal.returns-in_default
returns-in_default g c =
    let prefix = names_of c.deref.result.now in
    let path = names_of c.args.path.now in
    let owned = sym (map_dirs_eq c.self.inside.root) ∙ ap (λ (o : State g.row.S.Denot). open_dirs o) c.self.view_is in
    let same : prefix ≡ c.args.self.now.prefix = ap names_of c.deref.ensures.value ∙ ap (λ (o : State g.row.S.Denot). o.prefix) c.self.view_is in
    entry_at_from_root_none prefix path (dirs_of c.self.inside.root) (c.in_default.ensures {u = tt}).none ∙ ap (entry_at (from_root prefix path)) owned
    ∙ ap (λ (p : Path). entry_at (from_root p path) (open_dirs c.args.self.now)) same

pub returns : goal.returns
returns g c =
    let prefix = names_of c.deref.result.now in
    let path = names_of c.args.path.now in
    let owned = sym (map_dirs_eq c.self.inside.root) ∙ ap (λ (o : State g.row.S.Denot). open_dirs o) c.self.view_is in
    let same : prefix ≡ c.args.self.now.prefix = ap names_of c.deref.ensures.value ∙ ap (λ (o : State g.row.S.Denot). o.prefix) c.self.view_is in
    c.get.ensures ∙ entry_at_from_root prefix path (dirs_of c.self.inside.root) (dirs_of c.in-Some.directory.now) (c.in-Some.ensures {u = tt}).found
    ∙ ap (entry_at (from_root prefix path)) owned
    ∙ ap (λ (p : Path). entry_at (from_root p path) (open_dirs c.args.self.now)) same
