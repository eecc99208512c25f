use Rattle.std.proofs.Common.{◌≡◌, ◌∙◌, [], ◌∷◌, None, ap, sym, subst}
use Rattle.std.specs.List.{AllByRecursion}
use Rattle.std.proofs.lemmas.Result.{MatchResult-weaker}
use Rattle.bstr.specs.Owned.{bstring_bytes}
use Rattle.gixobj_tree_entries.specs.Entries.{EntryView}
use Rattle.gixobj_tree.specs.WellFormed.{IsEntryName}
use Rattle.gixobj_tree_entries.specs.Mode.{mode_bits}
use Rattle.gixobj_editor_files.specs.Edits.{only_open, upserted_dirs}
use Rattle.gixobj_editor_files.specs.Files.{Path}
use Rattle.gixobj_editor_files.specs.Opening.{Dirs}
use Rattle.gixobj_editor_open.specs.Paths.{names_of}
use Rattle.gixobj_editor_open.specs.Nested.{Opened, dirs_of}
use Rattle.gixobj_editor_open.specs.NewDirectories.{AreNew}
use Rattle.gixobj_editor_open.proofs.Descents.{names_of_parts}
use Rattle.gixobj_editor_open.proofs.NewDirectories.{all_of_first, are_new_of_entries, holds_of_middle, nested_dirs_same, upserted_dirs_of_none}
use Rattle.gixobj_editor_open.proofs.Steps.{dirs_of_childless}
use Rattle.gixobj_editor_open.proofs.new_directories.new_with_entry.Goals as goal

pub with_entry-requires : goal.with_entry-requires
with_entry-requires c =
    let name = c.in-Some.name.now in
    let before = c.in-Some.before.now in
    holds_of_middle IsEntryName (names_of before) (bstring_bytes name) []
    (subst (AllByRecursion IsEntryName) (names_of_parts c.args.path.now before (name ∷ []) c.in-Some.ensures.cases.0) c.requires.names)

pub nested-requires : goal.nested-requires
nested-requires c =
    let name = c.in-Some.name.now in
    let before = c.in-Some.before.now in
    all_of_first IsEntryName (names_of before) (bstring_bytes name ∷ [])
    (subst (AllByRecursion IsEntryName) (names_of_parts c.args.path.now before (name ∷ []) c.in-Some.ensures.cases.0) c.requires.names)

pub returns-clause-dirs : goal.returns-clause-dirs
returns-clause-dirs c = MatchResult-weaker c.nested.result c.nested.ensures.dirs (λ it inside at.
    let name = c.in-Some.name.now in
    let before = c.in-Some.before.now in
    let mode = mode_bits c.args.mode in
    let x : EntryView = record { mode = mode; name = bstring_bytes name; id = c.args.id } in
    let alone : (q : Path) → dirs_of c.in_ok-inner.inner q ≡ only_open (x ∷ []) q =
    λ q. ap (λ (d : Opened). dirs_of d q) c.in_ok-inner.ensures ∙ ap (λ (d : Dirs). d q) (dirs_of_childless (x ∷ [])) in
    inside at ∙ nested_dirs_same (names_of before) c.args.null (dirs_of c.in_ok-inner.inner) (only_open (x ∷ [])) alone at
    ∙ upserted_dirs_of_none (names_of before) (bstring_bytes name) mode c.args.id c.args.null at
    ∙ ap (λ (p : Path). upserted_dirs p mode c.args.id c.args.null (λ _. None) at)
    (sym (names_of_parts c.args.path.now before (name ∷ []) c.in-Some.ensures.cases.0))) (λ _ u. u)

pub returns-clause-bases : goal.returns-clause-bases
returns-clause-bases c = MatchResult-weaker c.nested.result c.nested.ensures.bases
    (λ it new. new (subst AreNew (sym c.in_ok-inner.ensures) (are_new_of_entries _))) (λ _ u. u)
