use Rattle.std.proofs.Common.{◌∙◌, [], ap, sym}
use Rattle.bstr.specs.Owned.{bstring_bytes}
use Rattle.gixobj_editor_files.specs.Edits.{first_entry_of}
use Rattle.gixobj_editor_open.specs.Nested.{child_list, dirs_of, parts}
use Rattle.gixobj_editor_open.proofs.Levels.{dirs_of_nil}
use Rattle.gixobj_editor_open.proofs.Steps.{entry_at_of_last}
use Rattle.gixobj_editor_open.proofs.open.Open.get.Goals as goal

pub returns-in_default-directory : goal.returns-in_default-directory
returns-in_default-directory c =
    let name = bstring_bytes c.in-Some.name.now in
    sym (entry_at_of_last c.args.path.now c.in-Some.parents.now c.in-Some.name.now c.in-Some.ensures.cases.0 (dirs_of c.args.self.now)
    ∙ ap (first_entry_of name) ((c.in_default-directory.ensures {u = tt}).none []))

pub returns : goal.returns
returns c =
    let name = bstring_bytes c.in-Some.name.now in
    let parent = c.in-Some-directory.parent.now in
    c.find_entry.ensures
    ∙ sym (entry_at_of_last c.args.path.now c.in-Some.parents.now c.in-Some.name.now c.in-Some.ensures.cases.0 (dirs_of c.args.self.now)
    ∙ ap (first_entry_of name) (sym ((c.in-Some-directory.ensures {u = tt}).found [])
    ∙ dirs_of_nil parent c.parent.inside.entries (parts (child_list c.parent.inside.children)) c.parent.view_is))
