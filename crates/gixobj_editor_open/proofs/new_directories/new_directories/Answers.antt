use Rattle.std.proofs.Common.{◌≡◌, ◌∙◌, [], List, ap, sym, subst}
use Rattle.std.proofs.lemmas.Result.{MatchResult-weaker}
use Rattle.gixobj_tree_entries.specs.Entries.{EntryView}
use Rattle.gixobj_editor_files.specs.Edits.{only_open}
use Rattle.gixobj_editor_files.specs.Files.{Path}
use Rattle.gixobj_editor_files.specs.Opening.{Dirs}
use Rattle.gixobj_editor_open.specs.Paths.{names_of}
use Rattle.gixobj_editor_open.specs.Nested.{dirs_of, opened}
use Rattle.gixobj_editor_open.specs.NewDirectories.{AreNew}
use Rattle.gixobj_editor_open.proofs.NewDirectories.{are_new_of_entries, ensured_dirs_of_none, nested_dirs_same}
use Rattle.gixobj_editor_open.proofs.Steps.{dirs_of_childless}
use Rattle.gixobj_editor_open.proofs.new_directories.new_directories.Goals as goal

pub returns-clause-dirs : goal.returns-clause-dirs
returns-clause-dirs c = MatchResult-weaker c.nested.result c.nested.ensures.dirs (λ it inside at.
    let names = names_of c.args.path.now in
    let empty : (q : Path) → dirs_of c.new-inner.result q ≡ only_open [] q =
    λ q. rw (c.new-inner.ensures, c.empty.ensures) (ap (λ (d : Dirs). d q) (dirs_of_childless [])) in
    inside at ∙ nested_dirs_same names c.args.null (dirs_of c.new-inner.result) (only_open []) empty at
    ∙ ensured_dirs_of_none names c.args.null at) (λ _ u. u)

pub returns-clause-bases : goal.returns-clause-bases
returns-clause-bases c = MatchResult-weaker c.nested.result c.nested.ensures.bases
    (λ it new. new (subst AreNew (sym (c.new-inner.ensures ∙ ap (λ (es : List EntryView). opened es [] []) c.empty.ensures)) (are_new_of_entries [])))
    (λ _ u. u)
