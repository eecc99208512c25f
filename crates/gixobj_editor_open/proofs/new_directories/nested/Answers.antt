use Rattle.std.proofs.Common.{◌≡◌, ◌∙◌, [], ◌∷◌, ◌++◌, refl, sym, ap, subst}
use Rattle.std.specs.List.{AllByRecursion}
use Rattle.std.proofs.lemmas.List.{append-nil}
use Rattle.bstr.specs.Owned.{bstring_bytes}
use Rattle.gixobj_tree.specs.WellFormed.{IsEntryName}
use Rattle.gixobj_editor_files.specs.Files.{Path}
use Rattle.gixobj_editor_open.specs.Paths.{names_of}
use Rattle.gixobj_editor_open.specs.Nested.{Opened, dirs_of}
use Rattle.gixobj_editor_open.specs.NewDirectories.{AreNew, nested_dirs}
use Rattle.gixobj_editor_open.proofs.NewDirectories.{are_new_directory_with, holds_of_middle, names_of_snoc, nested_dirs_cons}
use Rattle.gixobj_editor_open.proofs.Steps.{names_of_nil}
use Rattle.gixobj_editor_open.proofs.new_directories.nested.Goals as goal

pub names-init : goal.names-init
names-init c = ([], sym (append-nil _), (λ at. refl), λ new. new)

pub names-preserved : goal.names-preserved
names-preserved c =
    let inv = c.names.invariant in
    let name = c.in-Some.name.now in
    let before = c.in-Some.before.now in
    let made_is = c.in_ok-made.ensures in (
      bstring_bytes name ∷ inv.0,
      inv.1 ∙ names_of_snoc c.names.remaining.now before name inv.0 c.in-Some.ensures.cases.0,
      (λ at. ap (λ (d : Opened). dirs_of d at) made_is ∙ nested_dirs_cons (bstring_bytes name) inv.0 c.args.null (dirs_of c.args.inner) c.names.made inv.2 at),
      λ new. subst AreNew (sym made_is) (are_new_directory_with (bstring_bytes name) c.args.null c.names.made (inv.3 new)),
    )

pub directory_of-requires : goal.directory_of-requires
directory_of-requires c =
    let inv = c.names.invariant in
    let name = c.in-Some.name.now in
    holds_of_middle IsEntryName (names_of c.in-Some.before.now) (bstring_bytes name) inv.0
    (subst (AllByRecursion IsEntryName) (inv.1 ∙ names_of_snoc c.names.remaining.now c.in-Some.before.now name inv.0 c.in-Some.ensures.cases.0) c.requires)

pub returns-clause-dirs : goal.returns-clause-dirs
returns-clause-dirs c = λ at.
    let inv = c.names.invariant in
    let all : names_of c.args.path.now ≡ inv.0 = inv.1 ∙ ap (λ (p : Path). p ++ inv.0) (names_of_nil c.names.remaining.now c.in_default.ensures.cases) in
    inv.2 at ∙ ap (λ (p : Path). nested_dirs p c.args.null (dirs_of c.args.inner) at) (sym all)

pub returns-clause-bases : goal.returns-clause-bases
returns-clause-bases c = c.names.invariant.3
