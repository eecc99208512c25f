-- Each step of `insert_entry`, in an open directory and in one that it creates, meets its contract: for its callers by that
-- contract alone.
use Rattle.std.proofs.Common.{◌≡◌, ◌∙◌, None, ap, sym, refl, subst, List}
use Rattle.std.specs.List.{AllByRecursion}
use Rattle.bstr.specs.Owned.{bstring_bytes}
use Rattle.gixobj_tree_entries.specs.Entries.{EntryView}
use Rattle.gixobj_tree.specs.WellFormed.{IsEntryName}
use Rattle.gixobj_tree_entries.specs.Mode.{mode_bits}
use Rattle.gixobj_editor_files.specs.Editing.{with_entry}
use Rattle.gixobj_editor_files.specs.Edits.{upserted_dirs, with_directory}
use Rattle.gixobj_editor_open.specs.Nested.{Part, child_list, dirs_of, in_part, opened, other_parts, parts, with_part}
use Rattle.std.proofs.lemmas.Result.{MatchResult-weaker}
use Rattle.gixobj_editor_files.proofs.HasTrees.{with_directory_of_tree}
use Rattle.gixobj_editor_open.proofs.Levels.{child_has_tree, in_part_of_child, is_level_with_entry, is_level_set, is_level_with_directory, all_names_differ}
use Rattle.gixobj_editor_open.proofs.Levels.{in_part_none, becomes_of_removal, becomes_of_with_part, becomes_of_set}
use Rattle.gixobj_editor_open.proofs.Pieces.{IsFound, is_changed, is_child, is_pieced_level_with_open, parts_with_open_same}
use Rattle.gixobj_editor_open.proofs.Steps.{more_names_remain, names_of_last, inserted_deeper, inserted_last}
use Rattle.gixobj_editor_files.specs.Bases.{base_edited}
use Rattle.gixobj_editor_open.proofs.BaseSteps.{base_edited_of_dropped, editing, with_moved, set_moved, unmoved}
use Rattle.gixobj_editor_open.specs.Paths.{names_of}
use Rattle.gixobj_editor_open.proofs.NewDirectories.{non_empty_of_test}
use Rattle.gixobj_editor_open.proofs.Ordered.{level_names_apart}
use Rattle.gixobj_editor_open.proofs.open.Open.+insert_recursively.Goals as goal

pub invariant_of-self-then-is_empty : goal.invariant_of-self-then-is_empty
invariant_of-self-then-is_empty t c =
    let x : EntryView = record { mode = mode_bits c.args.mode; name = bstring_bytes c.in-Some.name.now; id = c.args.id } in
    let path = names_of_last c.args.path.now c.in-Some.name.now c.in-Some.rest.now c.in-Some.ensures.cases.0 (c.if-is_empty.ensures {u = tt}) in record {
      level = rw (c.in_ok-insert.ensures.inserted, c.remove.ensures.removed)
          (is_level_with_entry x c.self.inside.entries (parts (child_list c.self.inside.children)) (subst (AllByRecursion IsEntryName) path c.requires).0
          c.self.invariant.level);
      filled = c.remove.ensures.filled;
    }

pub returns-then-is_empty-clause-dirs : goal.returns-then-is_empty-clause-dirs
returns-then-is_empty-clause-dirs t c =
    let name = bstring_bytes c.in-Some.name.now in
    let x : EntryView = record { mode = mode_bits c.args.mode; name = name; id = c.args.id } in
    let ps = parts (child_list c.self.inside.children) in
    let path = names_of_last c.args.path.now c.in-Some.name.now c.in-Some.rest.now c.in-Some.ensures.cases.0 (c.if-is_empty.ensures {u = tt}) in
    let level = is_level_with_entry x c.self.inside.entries ps (subst (AllByRecursion IsEntryName) path c.requires).0 c.self.invariant.level in
    rw (path, c.in_ok-insert.ensures.inserted, c.remove.ensures.removed)
    (inserted_last c.args.self.now c.self.inside.entries (with_entry x c.self.inside.entries) ps (other_parts name ps) c.self.view_is
    (level_names_apart c.self.invariant.level)
    (level_names_apart level) name (λ _. None) (becomes_of_removal name ps) (mode_bits c.args.mode) c.args.id c.args.null refl (λ _. refl))

pub invariant_of-self-2 : goal.invariant_of-self-2
invariant_of-self-2 t c =
    let it = c.in-Some-position.ensures {u = tt} in
    let found : IsFound (bstring_bytes c.in-Some.name.now) c.self.inside.children _ _ c.at_mut-child.result.now =
    record { within = it.within; found = it.found; is = c.at_mut-child.ensures.value } in
    is_pieced_level_with_open found c.insert_recursively.new.self c.self.invariant

pub invariant_of-self-in_default-position : goal.invariant_of-self-in_default-position
invariant_of-self-in_default-position t c =
    let name = bstring_bytes c.in-Some.name.now in
    let m = more_names_remain c.args.path.now c.in-Some.name.now c.in-Some.rest.now c.in-Some.ensures.cases.0 (c.if-is_empty.ensures {u = tt}) in
    let added = c.in_ok-add_directory.ensures.inserted in record {
      level = rw (added.0, added.1)
          (is_level_with_directory name c.args.null c.in_ok-inner.inner c.self.inside.entries (parts (child_list c.self.inside.children))
          (subst (AllByRecursion IsEntryName) m.path_is c.requires).0 c.self.invariant.level);
      filled = c.add_directory.ensures.filled;
    }

pub returns-in_default-position-clause-dirs : goal.returns-in_default-position-clause-dirs
returns-in_default-position-clause-dirs t c =
    let name = bstring_bytes c.in-Some.name.now in
    let cs = child_list c.self.inside.children in
    let m = more_names_remain c.args.path.now c.in-Some.name.now c.in-Some.rest.now c.in-Some.ensures.cases.0 (c.if-is_empty.ensures {u = tt}) in
    let absent = (c.in_default-position.ensures {u = tt}).none in
    let others = all_names_differ name cs absent in
    let level = is_level_with_directory name c.args.null c.in_ok-inner.inner c.self.inside.entries (parts cs)
    (subst (AllByRecursion IsEntryName) m.path_is c.requires).0 c.self.invariant.level in
    let none : in_part name (parts cs) ≡ (λ _. None) = λ i path. in_part_none name cs absent path i in
    let inner = (c.in_ok-inner.ensures {u = tt}).dirs in
    rw (m.path_is, c.in_ok-add_directory.ensures.inserted.0, c.in_ok-add_directory.ensures.inserted.1)
    (inserted_deeper c.args.self.now c.self.inside.entries (with_directory name c.args.null c.self.inside.entries) (parts cs)
    (with_part (name, c.in_ok-inner.inner) (parts cs)) c.self.view_is (level_names_apart c.self.invariant.level) (level_names_apart level) name
    (dirs_of c.in_ok-inner.inner)
    (becomes_of_with_part name c.in_ok-inner.inner (parts cs) others) m.next m.after (mode_bits c.args.mode) c.args.id c.args.null refl
    (λ path. rw none (inner path ∙ ap (λ p. upserted_dirs p (mode_bits c.args.mode) c.args.id c.args.null (λ _. None) path) m.rest_is)))

pub returns-clause-dirs : goal.returns-clause-dirs
returns-clause-dirs t c = MatchResult-weaker c.insert_recursively.result c.insert_recursively.ensures.dirs (λ _ ok.
    let name = bstring_bytes c.in-Some.name.now in
    let ps = parts (child_list c.self.inside.children) in
    let m = more_names_remain c.args.path.now c.in-Some.name.now c.in-Some.rest.now c.in-Some.ensures.cases.0 (c.if-is_empty.ensures {u = tt}) in
    let it = c.in-Some-position.ensures {u = tt} in
    let child = c.at_mut-child.result.now in
    let found : IsFound name c.self.inside.children _ _ child = record { within = it.within; found = it.found; is = c.at_mut-child.ensures.value } in
    let here = is_child found in
    let now = is_changed found c.insert_recursively.new.self in
    let was : in_part name ps ≡ dirs_of child.open = λ i path. in_part_of_child here path i in
    rw m.path_is
    (inserted_deeper c.args.self.now c.self.inside.entries c.self.inside.entries ps _ c.self.view_is (level_names_apart c.self.invariant.level)
    (level_names_apart (is_level_set here now c.self.invariant.level)) name (dirs_of c.insert_recursively.new.self) (becomes_of_set here now)
    m.next m.after (mode_bits c.args.mode) c.args.id c.args.null
    (sym (with_directory_of_tree name c.args.null c.self.inside.entries (child_has_tree c.self.inside.entries here c.self.invariant.level.above)))
    (λ path. rw was (ok path ∙ ap (λ p. upserted_dirs p (mode_bits c.args.mode) c.args.id c.args.null (dirs_of child.open) path) m.rest_is))))
    (λ _ u. u)

pub returns-in_default-clause-bases : goal.returns-in_default-clause-bases
returns-in_default-clause-bases t c = λ at. unmoved base_edited editing c.args.self.now at

pub returns-then-is_empty-clause-bases : goal.returns-then-is_empty-clause-bases
returns-then-is_empty-clause-bases t c =
    let name = bstring_bytes c.in-Some.name.now in
    let x : EntryView = record { mode = mode_bits c.args.mode; name = name; id = c.args.id } in
    let ps = parts (child_list c.self.inside.children) in
    let path = names_of_last c.args.path.now c.in-Some.name.now c.in-Some.rest.now c.in-Some.ensures.cases.0 (c.if-is_empty.ensures {u = tt}) in
    let level = is_level_with_entry x c.self.inside.entries ps (subst (AllByRecursion IsEntryName) path c.requires).0 c.self.invariant.level in
    rw (c.in_ok-insert.ensures.inserted, c.remove.ensures.removed)
    (base_edited_of_dropped c.args.self.now c.self.inside.entries (with_entry x c.self.inside.entries) ps c.self.view_is
    (level_names_apart c.self.invariant.level) name (level_names_apart level))

pub returns-in_default-position-clause-bases : goal.returns-in_default-position-clause-bases
returns-in_default-position-clause-bases t c =
    let name = bstring_bytes c.in-Some.name.now in
    let cs = child_list c.self.inside.children in
    let m = more_names_remain c.args.path.now c.in-Some.name.now c.in-Some.rest.now c.in-Some.ensures.cases.0 (c.if-is_empty.ensures {u = tt}) in
    let absent = (c.in_default-position.ensures {u = tt}).none in
    let others = all_names_differ name cs absent in
    let level = is_level_with_directory name c.args.null c.in_ok-inner.inner c.self.inside.entries (parts cs)
    (subst (AllByRecursion IsEntryName) m.path_is c.requires).0 c.self.invariant.level in
    let inner = (c.in_ok-inner.ensures {u = tt}).bases in
    rw (c.in_ok-add_directory.ensures.inserted.0, c.in_ok-add_directory.ensures.inserted.1)
    (with_moved base_edited editing c.args.self.now c.self.inside.entries (with_directory name c.args.null c.self.inside.entries) (parts cs) c.self.view_is
    (level_names_apart c.self.invariant.level) name c.in_ok-inner.inner (level_names_apart level) others (in_part_none name cs absent)
    inner)

pub returns-clause-bases : goal.returns-clause-bases
returns-clause-bases t c = MatchResult-weaker c.insert_recursively.result c.insert_recursively.ensures.bases (λ _ bases.
    let it = c.in-Some-position.ensures {u = tt} in
    let found : IsFound (bstring_bytes c.in-Some.name.now) c.self.inside.children _ _ c.at_mut-child.result.now =
    record { within = it.within; found = it.found; is = c.at_mut-child.ensures.value } in
    set_moved base_edited editing c.args.self.now c.self.inside.entries (is_child found) (is_changed found c.insert_recursively.new.self) c.self.view_is
    c.self.invariant.level bases) (λ _ u. u)

pub returns-clause-unchanged : goal.returns-clause-unchanged
returns-clause-unchanged t c = MatchResult-weaker c.insert_recursively.result c.insert_recursively.ensures.unchanged (λ _ u. u) (λ _ same.
    let it = c.in-Some-position.ensures {u = tt} in
    let found : IsFound (bstring_bytes c.in-Some.name.now) c.self.inside.children _ _ c.at_mut-child.result.now =
    record { within = it.within; found = it.found; is = c.at_mut-child.ensures.value } in
    ap (λ (ps : List Part). opened c.self.inside.entries c.self.inside.base ps) (parts_with_open_same found c.insert_recursively.new.self same)
    ∙ c.self.view_is)

pub new_with_entry-requires : goal.new_with_entry-requires
new_with_entry-requires t c = record {
  names = (subst (AllByRecursion IsEntryName) (ap names_of c.in-Some.ensures.cases.0) c.requires).1;
  non_empty = non_empty_of_test c.in-Some.rest.now (c.if-is_empty.ensures {u = tt});
}
