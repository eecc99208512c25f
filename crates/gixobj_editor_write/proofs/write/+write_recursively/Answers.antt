-- A write at a path meets its contract: at the directory itself by `write_all`, and below by the directory of the first
-- name.
use Rattle.std.proofs.Common.{◌≡◌, ◌∙◌, ◌∷◌, Ok, Err, refl, rules, sym, ap, subst, List}
use Rattle.std.specs.Fn.{CalledAt}
use Rattle.std.proofs.lemmas.Result.{MatchResult-weaker}
use Rattle.bstr.specs.Owned.{bstring_bytes}
use Rattle.gixobj_editor_files.specs.Edits.{only_open}
use Rattle.gixobj_editor_files.specs.Files.{Path}
use Rattle.gixobj_editor_files.specs.Emission.{Saves}
use Rattle.gixobj_editor_files.specs.Opening.{Dirs, in_path}
use Rattle.gixobj_editor_write.specs.Calls.{names_of}
use Rattle.gixobj_editor_open.specs.Nested.{Opened, Part, bases_of, child_list, dirs_of, in_part, opened, parts}
use Rattle.gixobj_editor_write.proofs.Emitting.{emits_below_of_both, stopped_of_same_dirs}
use Rattle.gixobj_editor_open.proofs.Levels.{in_part_of_child, is_level_set, becomes_of_set}
use Rattle.gixobj_editor_open.proofs.Steps.{names_of_nil, dirs_of_childless}
use Rattle.gixobj_editor_open.proofs.Pieces.{IsFound, is_changed, is_child, is_pieced_level_with_open, parts_with_open_same}
use Rattle.gixobj_editor_open.proofs.Steps.{path_based, path_down, dirs_down, unopened_without_child, written_deeper}
use Rattle.gixobj_editor_files.specs.Bases.{base_edited}
use Rattle.gixobj_editor_open.proofs.BaseSteps.{editing, set_moved}
use Rattle.gixobj_editor_open.proofs.Ordered.{level_names_apart}
use Rattle.gixobj_editor_write.proofs.write.+write_recursively.Goals as goal

pub returns-in_default-clause-written : goal.returns-in_default-clause-written
returns-in_default-clause-written g t c = MatchResult-weaker c.write_all.result c.write_all.ensures.written (λ it ok.
    let none = names_of_nil c.args.path.now c.in_default.ensures.cases in
    let dirs = dirs_of c.args.node.now in (
      ok.0,
      ok.1,
      subst (λ (p : Path). Saves (in_path p dirs) (in_path p (bases_of c.args.node.now)) ok.0 ok.1 it.saved) (sym none) ok.2,
      ok.3,
      ok.4,
      ok.5,
      λ at. rw none (ap (λ (ds : Opened). dirs_of ds at) ok.6.1 ∙ ap (λ (d : Dirs). d at) (dirs_of_childless ok.1)),
    )) (λ _ u. u)

pub returns-in_default-clause-error : goal.returns-in_default-clause-error
returns-in_default-clause-error g t c = MatchResult-weaker c.write_all.result c.write_all.ensures.error (λ _ u. u) (λ error stopped.
    let none = names_of_nil c.args.path.now c.in_default.ensures.cases in
    let dirs = dirs_of c.args.node.now in
    stopped_of_same_dirs (λ f p h. CalledAt g.F.FnMut f p.1 (Ok p.0) h) (λ f tree x h. CalledAt g.F.FnMut f tree (Err x) h) dirs
    (in_path (names_of c.args.path.now) dirs) (bases_of c.args.node.now) (in_path (names_of c.args.path.now) (bases_of c.args.node.now))
    (sym (ap (λ (p : Path). in_path p dirs) none)) (sym (ap (λ (p : Path). in_path p (bases_of c.args.node.now)) none)) c.args.out.now c.write_all.new.out error
    stopped)

pub invariant_of-node : goal.invariant_of-node
invariant_of-node g t c =
    let it = c.in-Some-position.ensures {u = tt} in
    let found : IsFound (bstring_bytes c.in-Some.name.now) c.node.inside.children _ _ c.at_mut-child.result.now =
    record { within = it.within; found = it.found; is = c.at_mut-child.ensures.value } in
    is_pieced_level_with_open found c.write_recursively.new.node c.node.invariant

pub write_recursively-requires : goal.write_recursively-requires
write_recursively-requires g t c =
    let it = c.in-Some-position.ensures {u = tt} in
    let found : IsFound (bstring_bytes c.in-Some.name.now) c.node.inside.children _ _ c.at_mut-child.result.now =
    record { within = it.within; found = it.found; is = c.at_mut-child.ensures.value } in
    let there = dirs_down c.args.node.now c.node.inside.entries (child_list c.node.inside.children) c.node.view_is (level_names_apart c.node.invariant.level)
    (names_of c.args.path.now)
    (names_of c.in-Some.rest.now) (ap names_of c.in-Some.ensures.cases.0) (is_child found) in
    λ κs lives. (search rules, (search rules, (search rules, (c.requires.callable, λ none. c.requires.is_open (there ∙ none)))))

pub unreachable-requires : goal.unreachable-requires
unreachable-requires g t c = c.requires.is_open
    (unopened_without_child c.args.node.now c.node.inside.entries (child_list c.node.inside.children) c.node.view_is (level_names_apart c.node.invariant.level)
    (names_of c.args.path.now)
    (names_of c.in-Some.rest.now) (ap names_of c.in-Some.ensures.cases.0) (c.in_default-position.ensures {u = tt}).none)

pub returns-clause-written : goal.returns-clause-written
returns-clause-written g t c = MatchResult-weaker c.write_recursively.result c.write_recursively.ensures.written (λ it ok.
    let name = bstring_bytes c.in-Some.name.now in
    let ps = parts (child_list c.node.inside.children) in
    let rest = names_of c.in-Some.rest.now in
    let path : names_of c.args.path.now ≡ name ∷ rest = ap names_of c.in-Some.ensures.cases.0 in
    let it = c.in-Some-position.ensures {u = tt} in
    let child = c.at_mut-child.result.now in
    let found : IsFound name c.node.inside.children _ _ child = record { within = it.within; found = it.found; is = c.at_mut-child.ensures.value } in
    let here = is_child found in
    let now = is_changed found c.write_recursively.new.node in
    let apart = level_names_apart c.node.invariant.level in
    let was : in_part name ps ≡ dirs_of child.open = λ i at. in_part_of_child here at i in
    let same : in_path (names_of c.args.path.now) (dirs_of c.args.node.now) ≡ in_path rest (dirs_of child.open) =
    λ i at. path_down c.args.node.now c.node.inside.entries (child_list c.node.inside.children) c.node.view_is apart
    (names_of c.args.path.now) rest path here at i in
    let same_bases : in_path (names_of c.args.path.now) (bases_of c.args.node.now) ≡ in_path rest (bases_of child.open) =
    λ i at. path_based c.args.node.now c.node.inside.entries (child_list c.node.inside.children) c.node.view_is apart
    (names_of c.args.path.now) rest path here at i in (
      ok.0,
      ok.1,
      (ok.2.0, emits_below_of_both _ _ _ _ (sym same) (sym same_bases) ok.0 ok.1 ok.2.0 ok.2.1, ok.2.2),
      ok.3,
      ok.4,
      ok.5,
      rw path
          (written_deeper c.args.node.now c.node.inside.entries c.node.inside.entries ps _ c.node.view_is apart
          (level_names_apart (is_level_set here now c.node.invariant.level)) name (dirs_of c.write_recursively.new.node) (becomes_of_set here now)
          rest (only_open ok.1) refl (λ at. rw was (ok.6 at))),
    )) (λ _ u. u)

pub returns-clause-error : goal.returns-clause-error
returns-clause-error g t c = MatchResult-weaker c.write_recursively.result c.write_recursively.ensures.error (λ _ u. u) (λ error stopped.
    let it = c.in-Some-position.ensures {u = tt} in
    let found : IsFound (bstring_bytes c.in-Some.name.now) c.node.inside.children _ _ c.at_mut-child.result.now =
    record { within = it.within; found = it.found; is = c.at_mut-child.ensures.value } in
    let child = c.at_mut-child.result.now in
    let rest = names_of c.in-Some.rest.now in
    let path = ap names_of c.in-Some.ensures.cases.0 in
    let apart = level_names_apart c.node.invariant.level in
    let same : in_path rest (dirs_of child.open) ≡ in_path (names_of c.args.path.now) (dirs_of c.args.node.now) =
    λ i at. sym (path_down c.args.node.now c.node.inside.entries (child_list c.node.inside.children) c.node.view_is apart
    (names_of c.args.path.now) rest path (is_child found) at) i in
    let same_bases : in_path rest (bases_of child.open) ≡ in_path (names_of c.args.path.now) (bases_of c.args.node.now) =
    λ i at. sym (path_based c.args.node.now c.node.inside.entries (child_list c.node.inside.children) c.node.view_is apart
    (names_of c.args.path.now) rest path (is_child found) at) i in
    stopped_of_same_dirs (λ f p h. CalledAt g.F.FnMut f p.1 (Ok p.0) h) (λ f tree x h. CalledAt g.F.FnMut f tree (Err x) h) (in_path rest (dirs_of child.open))
    (in_path (names_of c.args.path.now) (dirs_of c.args.node.now))
    (in_path rest (bases_of child.open)) (in_path (names_of c.args.path.now) (bases_of c.args.node.now)) same same_bases c.args.out.now
    c.write_recursively.new.out error stopped)

pub returns-clause-bases : goal.returns-clause-bases
returns-clause-bases g t c = MatchResult-weaker c.write_recursively.result c.write_recursively.ensures.bases (λ _ bases.
    let it = c.in-Some-position.ensures {u = tt} in
    let found : IsFound (bstring_bytes c.in-Some.name.now) c.node.inside.children _ _ c.at_mut-child.result.now =
    record { within = it.within; found = it.found; is = c.at_mut-child.ensures.value } in
    set_moved base_edited editing c.args.node.now c.node.inside.entries (is_child found) (is_changed found c.write_recursively.new.node) c.node.view_is
    c.node.invariant.level bases) (λ _ u. u)

pub returns-clause-unchanged : goal.returns-clause-unchanged
returns-clause-unchanged g t c = MatchResult-weaker c.write_recursively.result c.write_recursively.ensures.unchanged (λ _ u. u) (λ _ same.
    let it = c.in-Some-position.ensures {u = tt} in
    let found : IsFound (bstring_bytes c.in-Some.name.now) c.node.inside.children _ _ c.at_mut-child.result.now =
    record { within = it.within; found = it.found; is = c.at_mut-child.ensures.value } in
    ap (λ (ps : List Part). opened c.node.inside.entries c.node.inside.base ps) (parts_with_open_same found c.write_recursively.new.node same)
    ∙ c.node.view_is)
