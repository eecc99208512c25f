-- Each step of `take`, at the last name and in an open directory, meets its contract: for its callers by that contract
-- alone.
use Rattle.std.proofs.Common.{◌≡◌, ◌∙◌, None, ap, refl}
use Rattle.bstr.specs.Owned.{bstring_bytes}
use Rattle.gixobj_editor_files.specs.Editing.{without}
use Rattle.gixobj_editor_files.specs.Edits.{removed_dirs}
use Rattle.gixobj_editor_open.specs.Nested.{child_list, dirs_of, in_part, other_parts, parts}
use Rattle.gixobj_editor_open.proofs.Levels.{in_part_of_child, is_level_set, is_level_without, in_part_none, becomes_of_removal, becomes_of_set}
use Rattle.gixobj_editor_open.proofs.Pieces.{IsFound, is_changed, is_child, is_pieced_level_with_open}
use Rattle.gixobj_editor_open.proofs.Steps.{more_names_remain, names_of_last, taken_deeper, taken_last, removed_dirs_of_unopened}
use Rattle.gixobj_editor_files.specs.Bases.{base_edited}
use Rattle.gixobj_editor_open.proofs.BaseSteps.{base_edited_of_dropped, editing, set_moved, unmoved}
use Rattle.gixobj_editor_open.proofs.Ordered.{level_names_apart}
use Rattle.gixobj_editor_open.proofs.open.Open.+take_recursively.Goals as goal

pub invariant_of-self : goal.invariant_of-self
invariant_of-self t c = record {
  level = rw (c.take_entry.ensures, c.remove.ensures.removed)
      (is_level_without (bstring_bytes c.in-Some.name.now) c.self.inside.entries (parts (child_list c.self.inside.children)) c.self.invariant.level);
  filled = c.remove.ensures.filled;
}

pub returns-then-is_empty-clause-dirs : goal.returns-then-is_empty-clause-dirs
returns-then-is_empty-clause-dirs t c =
    let name = bstring_bytes c.in-Some.name.now in
    let ps = parts (child_list c.self.inside.children) in
    let level = is_level_without name c.self.inside.entries ps c.self.invariant.level in
    rw (
      names_of_last c.args.path.now c.in-Some.name.now c.in-Some.rest.now c.in-Some.ensures.cases.0 (c.if-is_empty.ensures {u = tt}),
      c.take_entry.ensures,
      c.remove.ensures.removed,
    )
    (taken_last c.args.self.now c.self.inside.entries (without name c.self.inside.entries) ps (other_parts name ps) c.self.view_is
    (level_names_apart c.self.invariant.level)
    (level_names_apart level) name (λ _. None) (becomes_of_removal name ps) refl (λ _. refl))

pub invariant_of-self-in-Some-position : goal.invariant_of-self-in-Some-position
invariant_of-self-in-Some-position t c =
    let it = c.in-Some-position.ensures {u = tt} in
    let found : IsFound (bstring_bytes c.in-Some.name.now) c.self.inside.children _ _ c.at_mut-child.result.now =
    record { within = it.within; found = it.found; is = c.at_mut-child.ensures.value } in
    is_pieced_level_with_open found c.take_recursively.new.self c.self.invariant

pub returns-in-Some-position-clause-dirs : goal.returns-in-Some-position-clause-dirs
returns-in-Some-position-clause-dirs t c =
    let name = bstring_bytes c.in-Some.name.now in
    let ps = parts (child_list c.self.inside.children) in
    let m = more_names_remain c.args.path.now c.in-Some.name.now c.in-Some.rest.now c.in-Some.ensures.cases.0 (c.if-is_empty.ensures {u = tt}) in
    let it = c.in-Some-position.ensures {u = tt} in
    let child = c.at_mut-child.result.now in
    let found : IsFound name c.self.inside.children _ _ child = record { within = it.within; found = it.found; is = c.at_mut-child.ensures.value } in
    let here = is_child found in
    let now = is_changed found c.take_recursively.new.self in
    let was : in_part name ps ≡ dirs_of child.open = λ i path. in_part_of_child here path i in
    rw m.path_is
    (taken_deeper c.args.self.now c.self.inside.entries c.self.inside.entries ps _ c.self.view_is (level_names_apart c.self.invariant.level)
    (level_names_apart (is_level_set here now c.self.invariant.level)) name (dirs_of c.take_recursively.new.self) (becomes_of_set here now)
    m.next m.after refl (λ path. rw was (c.take_recursively.ensures.dirs path ∙ ap (λ p. removed_dirs p (dirs_of child.open) path) m.rest_is)))

pub returns-in_default-position-clause-dirs : goal.returns-in_default-position-clause-dirs
returns-in_default-position-clause-dirs t c =
    let name = bstring_bytes c.in-Some.name.now in
    let cs = child_list c.self.inside.children in
    let m = more_names_remain c.args.path.now c.in-Some.name.now c.in-Some.rest.now c.in-Some.ensures.cases.0 (c.if-is_empty.ensures {u = tt}) in
    rw m.path_is (removed_dirs_of_unopened c.args.self.now c.self.inside.entries (parts cs) c.self.view_is
    (level_names_apart c.self.invariant.level) name m.next m.after (in_part_none name cs (c.in_default-position.ensures {u = tt}).none))

pub returns-in_default-clause-bases : goal.returns-in_default-clause-bases
returns-in_default-clause-bases t c = λ at. unmoved base_edited editing c.args.self.now at

pub returns-in_default-position-clause-bases : goal.returns-in_default-position-clause-bases
returns-in_default-position-clause-bases t c = λ at. unmoved base_edited editing c.args.self.now at

pub returns-then-is_empty-clause-bases : goal.returns-then-is_empty-clause-bases
returns-then-is_empty-clause-bases t c =
    let name = bstring_bytes c.in-Some.name.now in
    let ps = parts (child_list c.self.inside.children) in
    let level = is_level_without name c.self.inside.entries ps c.self.invariant.level in
    rw (c.take_entry.ensures, c.remove.ensures.removed) (base_edited_of_dropped c.args.self.now c.self.inside.entries
    (without name c.self.inside.entries) ps c.self.view_is
    (level_names_apart c.self.invariant.level) name (level_names_apart level))

pub returns-in-Some-position-clause-bases : goal.returns-in-Some-position-clause-bases
returns-in-Some-position-clause-bases t c =
    let it = c.in-Some-position.ensures {u = tt} in
    let found : IsFound (bstring_bytes c.in-Some.name.now) c.self.inside.children _ _ c.at_mut-child.result.now =
    record { within = it.within; found = it.found; is = c.at_mut-child.ensures.value } in
    set_moved base_edited editing c.args.self.now c.self.inside.entries (is_child found) (is_changed found c.take_recursively.new.self) c.self.view_is
    c.self.invariant.level c.take_recursively.ensures.bases
