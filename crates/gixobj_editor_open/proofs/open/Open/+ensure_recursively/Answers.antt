-- Each step of `ensure_directory`, at one level and in a directory that it creates, meets its contract: for its callers
-- by that contract alone.
use Rattle.std.proofs.Common.{◌≡◌, ◌∙◌, ◌∷◌, None, ap, sym, refl, subst, List}
use Rattle.std.proofs.lemmas.Result.{MatchResult-weaker}
use Rattle.std.specs.List.{AllByRecursion}
use Rattle.bstr.specs.Owned.{bstring_bytes}
use Rattle.gixobj_tree.specs.WellFormed.{IsEntryName}
use Rattle.gixobj_editor_files.specs.Edits.{with_directory}
use Rattle.gixobj_editor_files.proofs.HasTrees.{with_directory_of_tree}
use Rattle.gixobj_editor_open.specs.Paths.{names_of}
use Rattle.gixobj_editor_open.specs.Nested.{Part, child_list, dirs_of, in_part, opened, parts, with_part}
use Rattle.gixobj_editor_open.proofs.Levels.{child_has_tree, in_part_of_child, is_level_with_directory, is_level_set, all_names_differ, in_part_none}
use Rattle.gixobj_editor_open.proofs.Levels.{becomes_of_with_part, becomes_of_set}
use Rattle.gixobj_editor_open.proofs.Steps.{names_of_nil}
use Rattle.gixobj_editor_files.proofs.WrittenTrees.{on_err_of}
use Rattle.gixobj_editor_open.proofs.Pieces.{IsFound, is_changed, is_child, is_pieced_level_with_open, parts_with_open_same}
use Rattle.gixobj_editor_open.proofs.Steps.{ensured_deeper, ensured_dirs_nil, dirs_down, unopened_without_child}
use Rattle.gixobj_editor_files.specs.Bases.{base_edited}
use Rattle.gixobj_editor_open.proofs.BaseSteps.{editing, with_moved, set_moved, unmoved}
use Rattle.gixobj_editor_open.proofs.Ordered.{level_names_apart}
use Rattle.gixobj_editor_open.proofs.open.Open.+ensure_recursively.Goals as goal

pub returns-in_default-clause-dirs : goal.returns-in_default-clause-dirs
returns-in_default-clause-dirs t c =
    rw (names_of_nil c.args.path.now c.in_default.ensures.cases)
    (ensured_dirs_nil c.args.self.now c.self.inside.entries (parts (child_list c.self.inside.children)) c.self.view_is c.args.null)

pub invariant_of-self-2 : goal.invariant_of-self-2
invariant_of-self-2 t c =
    let it = c.in-Some-position.ensures {u = tt} in
    let found : IsFound (bstring_bytes c.in-Some.name.now) c.self.inside.children _ _ c.at_mut-child.result.now =
    record { within = it.within; found = it.found; is = c.at_mut-child.ensures.value } in
    is_pieced_level_with_open found c.ensure_recursively.new.self c.self.invariant

pub invariant_of-self-in_default-position : goal.invariant_of-self-in_default-position
invariant_of-self-in_default-position t c = record {
  level = rw (c.in_ok-add_directory.ensures.inserted.0, c.in_ok-add_directory.ensures.inserted.1)
      (is_level_with_directory (bstring_bytes c.in-Some.name.now) c.args.null c.in_ok-inner.inner c.self.inside.entries
      (parts (child_list c.self.inside.children)) (subst (AllByRecursion IsEntryName) (ap names_of c.in-Some.ensures.cases.0) c.requires).0
      c.self.invariant.level);
  filled = c.add_directory.ensures.filled;
}

pub returns-in_default-position-clause-dirs : goal.returns-in_default-position-clause-dirs
returns-in_default-position-clause-dirs t c =
    let name = bstring_bytes c.in-Some.name.now in
    let cs = child_list c.self.inside.children in
    let path : names_of c.args.path.now ≡ name ∷ names_of c.in-Some.rest.now = ap names_of c.in-Some.ensures.cases.0 in
    let absent = (c.in_default-position.ensures {u = tt}).none in
    let others = all_names_differ name cs absent in
    let level = is_level_with_directory name c.args.null c.in_ok-inner.inner c.self.inside.entries (parts cs)
    (subst (AllByRecursion IsEntryName) path c.requires).0 c.self.invariant.level in
    let none : in_part name (parts cs) ≡ (λ _. None) = λ i at. in_part_none name cs absent at i in
    let inner = (c.in_ok-inner.ensures {u = tt}).dirs in
    rw (path, c.in_ok-add_directory.ensures.inserted.0, c.in_ok-add_directory.ensures.inserted.1)
    (ensured_deeper c.args.self.now c.self.inside.entries (with_directory name c.args.null c.self.inside.entries) (parts cs)
    (with_part (name, c.in_ok-inner.inner) (parts cs)) c.self.view_is (level_names_apart c.self.invariant.level) (level_names_apart level) name
    (dirs_of c.in_ok-inner.inner)
    (becomes_of_with_part name c.in_ok-inner.inner (parts cs) others) (names_of c.in-Some.rest.now) c.args.null refl
    (λ at. rw none (inner at)))

pub returns-clause-dirs : goal.returns-clause-dirs
returns-clause-dirs t c = MatchResult-weaker c.ensure_recursively.result c.ensure_recursively.ensures.dirs (λ _ ok.
    let name = bstring_bytes c.in-Some.name.now in
    let ps = parts (child_list c.self.inside.children) in
    let path : names_of c.args.path.now ≡ name ∷ names_of c.in-Some.rest.now = ap names_of c.in-Some.ensures.cases.0 in
    let it = c.in-Some-position.ensures {u = tt} in
    let child = c.at_mut-child.result.now in
    let found : IsFound name c.self.inside.children _ _ child = record { within = it.within; found = it.found; is = c.at_mut-child.ensures.value } in
    let here = is_child found in
    let now = is_changed found c.ensure_recursively.new.self in
    let was : in_part name ps ≡ dirs_of child.open = λ i at. in_part_of_child here at i in
    rw path
    (ensured_deeper c.args.self.now c.self.inside.entries c.self.inside.entries ps _ c.self.view_is (level_names_apart c.self.invariant.level)
    (level_names_apart (is_level_set here now c.self.invariant.level)) name (dirs_of c.ensure_recursively.new.self) (becomes_of_set here now)
    (names_of c.in-Some.rest.now) c.args.null
    (sym (with_directory_of_tree name c.args.null c.self.inside.entries (child_has_tree c.self.inside.entries here c.self.invariant.level.above)))
    (λ at. rw was (ok at)))) (λ _ u. u)

pub returns-clause-unopened : goal.returns-clause-unopened
returns-clause-unopened t c = MatchResult-weaker c.ensure_recursively.result c.ensure_recursively.ensures.unopened (λ _ u. u) (λ _ closed.
    let it = c.in-Some-position.ensures {u = tt} in
    let found : IsFound (bstring_bytes c.in-Some.name.now) c.self.inside.children _ _ c.at_mut-child.result.now =
    record { within = it.within; found = it.found; is = c.at_mut-child.ensures.value } in
    dirs_down c.args.self.now c.self.inside.entries (child_list c.self.inside.children) c.self.view_is (level_names_apart c.self.invariant.level)
    (names_of c.args.path.now)
    (names_of c.in-Some.rest.now) (ap names_of c.in-Some.ensures.cases.0) (is_child found) ∙ closed)

pub returns-in_err-inner-clause-unopened : goal.returns-in_err-inner-clause-unopened
returns-in_err-inner-clause-unopened t c = on_err_of c.from_residual.result _
    (unopened_without_child c.args.self.now c.self.inside.entries (child_list c.self.inside.children) c.self.view_is (level_names_apart c.self.invariant.level)
    (names_of c.args.path.now)
    (names_of c.in-Some.rest.now) (ap names_of c.in-Some.ensures.cases.0) (c.in_default-position.ensures {u = tt}).none)

pub returns-in_err-add_directory-clause-unopened : goal.returns-in_err-add_directory-clause-unopened
returns-in_err-add_directory-clause-unopened t c = on_err_of c.from_residual-in_err-add_directory.result _
    (unopened_without_child c.args.self.now c.self.inside.entries (child_list c.self.inside.children) c.self.view_is (level_names_apart c.self.invariant.level)
    (names_of c.args.path.now)
    (names_of c.in-Some.rest.now) (ap names_of c.in-Some.ensures.cases.0) (c.in_default-position.ensures {u = tt}).none)

pub returns-in_default-clause-bases : goal.returns-in_default-clause-bases
returns-in_default-clause-bases t c = λ at. unmoved base_edited editing c.args.self.now at

pub returns-in_default-position-clause-bases : goal.returns-in_default-position-clause-bases
returns-in_default-position-clause-bases t c =
    let name = bstring_bytes c.in-Some.name.now in
    let cs = child_list c.self.inside.children in
    let path : names_of c.args.path.now ≡ name ∷ names_of c.in-Some.rest.now = ap names_of c.in-Some.ensures.cases.0 in
    let absent = (c.in_default-position.ensures {u = tt}).none in
    let others = all_names_differ name cs absent in
    let level = is_level_with_directory name c.args.null c.in_ok-inner.inner c.self.inside.entries (parts cs)
    (subst (AllByRecursion IsEntryName) path c.requires).0 c.self.invariant.level in
    let inner = (c.in_ok-inner.ensures {u = tt}).bases in
    rw (c.in_ok-add_directory.ensures.inserted.0, c.in_ok-add_directory.ensures.inserted.1)
    (with_moved base_edited editing c.args.self.now c.self.inside.entries (with_directory name c.args.null c.self.inside.entries) (parts cs) c.self.view_is
    (level_names_apart c.self.invariant.level) name c.in_ok-inner.inner (level_names_apart level) others (in_part_none name cs absent)
    inner)

pub returns-clause-bases : goal.returns-clause-bases
returns-clause-bases t c = MatchResult-weaker c.ensure_recursively.result c.ensure_recursively.ensures.bases (λ _ bases.
    let it = c.in-Some-position.ensures {u = tt} in
    let found : IsFound (bstring_bytes c.in-Some.name.now) c.self.inside.children _ _ c.at_mut-child.result.now =
    record { within = it.within; found = it.found; is = c.at_mut-child.ensures.value } in
    set_moved base_edited editing c.args.self.now c.self.inside.entries (is_child found) (is_changed found c.ensure_recursively.new.self) c.self.view_is
    c.self.invariant.level bases) (λ _ u. u)

pub returns-clause-unchanged : goal.returns-clause-unchanged
returns-clause-unchanged t c = MatchResult-weaker c.ensure_recursively.result c.ensure_recursively.ensures.unchanged (λ _ u. u) (λ _ same.
    let it = c.in-Some-position.ensures {u = tt} in
    let found : IsFound (bstring_bytes c.in-Some.name.now) c.self.inside.children _ _ c.at_mut-child.result.now =
    record { within = it.within; found = it.found; is = c.at_mut-child.ensures.value } in
    ap (λ (ps : List Part). opened c.self.inside.entries c.self.inside.base ps) (parts_with_open_same found c.ensure_recursively.new.self same)
    ∙ c.self.view_is)

pub new_directories-requires : goal.new_directories-requires
new_directories-requires t c = (subst (AllByRecursion IsEntryName) (ap names_of c.in-Some.ensures.cases.0) c.requires).1
