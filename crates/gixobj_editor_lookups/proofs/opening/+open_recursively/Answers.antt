-- One level of an opening: into an open directory, to its end, or into a directory that is looked up. They are the
-- goals of `open_recursively`.
use Rattle.std.proofs.Common.{◌≡◌, ◌∙◌, ◌++◌, [], ◌∷◌, List, Some, None, inl, inr, refl, sym, ap, subst}
use Rattle.std.proofs.lemmas.Result.{MatchResult-weaker}
use Rattle.bstr.specs.Owned.{bstring_bytes}
use Rattle.gixobj_hash.specs.declared.hash.object_id.ObjectId.{ObjectId}
use Rattle.gixobj_editor_files.specs.Edits.{Finds, Opens, arrived, counted}
use Rattle.gixobj_editor_files.specs.OpeningStops.{StopsOpening}
use Rattle.gixobj_editor_files.specs.Opening.{IsOpened}
use Rattle.gixobj_editor_files.specs.Tables.{IsNeverLookedUp}
use Rattle.gixobj_editor_open.specs.Paths.{names_of}
use Rattle.gixobj_editor_open.specs.Nested.{Opened, bases_of, child_list, dirs_of, opened, parts, with_part}
use Rattle.gixobj_editor_lookups.specs.Openings.{EndsBefore, IsDirectoryError}
use Rattle.gixobj_editor_open.specs.declared.open.Child.{Child}
use Rattle.gixobj_editor_open.proofs.Results.{if_err_weaken}
use Rattle.gixobj_editor_open.proofs.Levels.{dirs_of_nil, all_names_differ, in_part_none}
use Rattle.gixobj_editor_open.proofs.Pieces.{IsFound, is_changed, is_child, is_pieced_level_with_open}
use Rattle.gixobj_editor_lookups.proofs.OpeningSteps.{HaltsAt, IsFormedList, OpensAs, StaysOpened, counted_append, down_in, found_in, halts_at_goes_down}
use Rattle.gixobj_editor_lookups.proofs.OpeningSteps.{halts_at_goes_in, stops_opening_here, is_level_of_new_child, stops_opening_for_memory}
use Rattle.gixobj_editor_lookups.proofs.OpeningSteps.{stops_opening_not_found, opens_goes_down, opens_goes_in, stays_opened_goes_down, stays_opened_goes_in}
use Rattle.gixobj_editor_lookups.proofs.OpeningSteps.{is_opened_after_opening, opens_stopped_here}
use Rattle.gixobj_editor_open.proofs.Steps.{names_of_nil}
use Rattle.gixobj_tree_entries.specs.Entries.{EntryView}
use Rattle.gixobj_editor_open.specs.Descents.{KeepsOpen}
use Rattle.gixobj_editor_lookups.proofs.OpeningDescents.{KeepsEntries, keeps_goes_down, keeps_goes_in, keeps_open_of_same}
use Rattle.gixobj_editor_files.specs.Bases.{base_opened}
use Rattle.gixobj_editor_open.proofs.BaseSteps.{base_opened_of_found, base_opened_of_moved, opening, set_moved, unmoved, base_of_unmoved}
use Rattle.gixobj_editor_lookups.proofs.opening.+open_recursively.Goals as goal

pub returns-in_default-clause-opened : goal.returns-in_default-clause-opened
returns-in_default-clause-opened g t c = λ trees fits. (
  [],
  subst (λ p. Opens (EndsBefore c.args.not_looked_up) trees p (dirs_of c.args.node.now) (dirs_of c.args.node.now) [])
      (sym (names_of_nil c.args.path.now c.in_default.ensures.cases)) (arrived (dirs_of c.args.node.now)),
  refl,
)

pub invariant_of-node : goal.invariant_of-node
invariant_of-node g t c =
    let it = c.in-Some-position.ensures {u = tt} in
    let found : IsFound (bstring_bytes c.in-Some.name.now) c.node.inside.children _ _ c.at_mut-child.result.now =
    record { within = it.within; found = it.found; is = c.at_mut-child.ensures.value } in
    is_pieced_level_with_open found c.open_recursively.new.node c.node.invariant

pub returns-in-Some-position-clause-opened : goal.returns-in-Some-position-clause-opened
returns-in-Some-position-clause-opened g t c = MatchResult-weaker c.open_recursively.result c.open_recursively.ensures.opened (λ _ ok trees fits.
    let root = c.open_recursively.ensures.root in
    let it = c.in-Some-position.ensures {u = tt} in
    let found : IsFound (bstring_bytes c.in-Some.name.now) c.node.inside.children _ _ c.at_mut-child.result.now =
    record { within = it.within; found = it.found; is = c.at_mut-child.ensures.value } in
    let below = ok trees fits in (
      below.0,
      down_in (OpensAs (EndsBefore c.args.not_looked_up) trees) (Opens (EndsBefore c.args.not_looked_up) trees)
          (opens_goes_down (EndsBefore c.args.not_looked_up) trees) (opens_goes_in (EndsBefore c.args.not_looked_up) trees) c.node.inside.entries
          c.args.node.now
          (names_of c.args.path.now) (bstring_bytes c.in-Some.name.now) (names_of c.in-Some.rest.now) (ap names_of c.in-Some.ensures.cases.0)
          (is_child found) (is_changed found c.open_recursively.new.node) c.node.view_is c.node.invariant.level root.0 root.1 below.0 below.1,
      below.2,
    )) (λ _ u. u)

pub returns-in-Some-position-clause-stopped_opening : goal.returns-in-Some-position-clause-stopped_opening
returns-in-Some-position-clause-stopped_opening g t c = MatchResult-weaker c.open_recursively.result c.open_recursively.ensures.stopped_opening (λ _ u. u)
    (λ error bad trees fits.
    let root = c.open_recursively.ensures.root in
    let it = c.in-Some-position.ensures {u = tt} in
    let found : IsFound (bstring_bytes c.in-Some.name.now) c.node.inside.children _ _ c.at_mut-child.result.now =
    record { within = it.within; found = it.found; is = c.at_mut-child.ensures.value } in
    let below = bad trees fits in (
      below.0,
      below.1,
      down_in (OpensAs (EndsBefore c.args.not_looked_up) trees) (HaltsAt (EndsBefore c.args.not_looked_up) trees below.1)
          (halts_at_goes_down (EndsBefore c.args.not_looked_up) trees below.1)
          (halts_at_goes_in (EndsBefore c.args.not_looked_up) trees below.1) c.node.inside.entries
          c.args.node.now (names_of c.args.path.now) (bstring_bytes c.in-Some.name.now) (names_of c.in-Some.rest.now)
          (ap names_of c.in-Some.ensures.cases.0)
          (is_child found) (is_changed found c.open_recursively.new.node) c.node.view_is c.node.invariant.level root.0 root.1 below.0 below.2,
      below.3,
      below.4,
    ))

pub returns-in_default-next_id-clause-opened : goal.returns-in_default-next_id-clause-opened
returns-in_default-next_id-clause-opened g t c = λ trees fits. (
  [],
  opens_stopped_here trees c.node.inside.entries c.args.node.now (names_of c.args.path.now) (bstring_bytes c.in-Some.name.now) (names_of c.in-Some.rest.now)
      (ap names_of c.in-Some.ensures.cases.0)
      (parts (child_list c.node.inside.children)) c.node.view_is c.node.invariant.level
      (in_part_none (bstring_bytes c.in-Some.name.now) (child_list c.node.inside.children) (c.in_default-position.ensures {u = tt}).none)
      (c.in_default-next_id.ensures {u = tt}).none,
  refl,
)

pub returns-in_err-own_name-clause-stopped_opening : goal.returns-in_err-own_name-clause-stopped_opening
returns-in_err-own_name-clause-stopped_opening g t c = if_err_weaken c.from_residual-in_err-own_name.result _ _ c.from_residual-in_err-own_name.ensures.1
    (λ error is trees fits.
    let StopsBefore = EndsBefore c.args.not_looked_up in
    let name = bstring_bytes c.in-Some.name.now in
    let rest = names_of c.in-Some.rest.now in
    let es = c.node.inside.entries in
    let cs = child_list c.node.inside.children in
    let new = child_list c.room_for.new.self in
    let path_is = ap names_of c.in-Some.ensures.cases.0 in
    let none = in_part_none name cs (c.in_default-position.ensures {u = tt}).none in
    let there = (c.in-Some-next_id.ensures {u = tt}).found in
    let finds = (c.in_ok-tree.ensures {u = tt}).found trees fits in
    elim finds.1.1 [
      | inl empty ↦ (
        [],
        None,
        stops_opening_here StopsBefore trees (names_of c.args.path.now) name rest es c.args.node.now cs new path_is c.node.view_is c.room_for.ensures.list
            [] None
            (stops_opening_for_memory StopsBefore trees name rest es cs c.node.invariant.level none there.0 there.1 there.2 there.3
            (subst IsNeverLookedUp (sym there.4) empty.0)),
        finds.2 ∙ ap (counted c.args.lookups.now) empty.2,
        is,
      )
      | inr filled ↦ (
        c.in-Some-next_id.id ∷ [],
        Some c.in-Some-next_id.id,
        subst (λ (id : ObjectId). StopsOpening StopsBefore trees (names_of c.args.path.now) (dirs_of c.args.node.now)
            (dirs_of (opened es c.node.inside.base (parts new))) (id ∷ []) (Some id)) there.4
            (stops_opening_here StopsBefore trees (names_of c.args.path.now) name rest es c.args.node.now cs new path_is c.node.view_is
            c.room_for.ensures.list (there.0.id ∷ []) (Some there.0.id)
            (stops_opening_not_found StopsBefore trees name rest es cs c.node.invariant.level none there.0 there.1 there.2 there.3
            (subst (λ (id : ObjectId). IsNeverLookedUp id → ⊥) (sym there.4) filled.0))),
        finds.2 ∙ ap (counted c.args.lookups.now) filled.2,
        subst (IsDirectoryError (g.S.Store.objects c.args.store.now) (g.S.Store.may_fail c.args.store.now) c.in-Some-next_id.id) (sym is) tt,
      )
    ])

pub returns-in_err-tree-clause-stopped_opening : goal.returns-in_err-tree-clause-stopped_opening
returns-in_err-tree-clause-stopped_opening g t c = if_err_weaken c.from_residual.result _ _ c.from_residual.ensures.1
    (λ error is trees fits.
    let StopsBefore = EndsBefore c.args.not_looked_up in
    let path = names_of c.args.path.now in
    let old = dirs_of c.args.node.now in
    let name = bstring_bytes c.in-Some.name.now in
    let rest = names_of c.in-Some.rest.now in
    let es = c.node.inside.entries in
    let cs = child_list c.node.inside.children in
    let there = (c.in-Some-next_id.ensures {u = tt}).found in
    let queries = (c.in_err-tree.ensures {u = tt}).lookups in (
      c.in-Some-next_id.id ∷ [],
      Some c.in-Some-next_id.id,
      subst (λ (id : ObjectId). StopsOpening StopsBefore trees path old old (id ∷ []) (Some id)) there.4
          (subst (λ (d : Opened). StopsOpening StopsBefore trees path old (dirs_of d) (there.0.id ∷ []) (Some there.0.id)) c.node.view_is
          (stops_opening_here StopsBefore trees path name rest es c.args.node.now cs cs (ap names_of c.in-Some.ensures.cases.0) c.node.view_is refl
          (there.0.id ∷ []) (Some there.0.id)
          (stops_opening_not_found StopsBefore trees name rest es cs c.node.invariant.level
          (in_part_none name cs (c.in_default-position.ensures {u = tt}).none) there.0 there.1 there.2 there.3
          (subst (λ (id : ObjectId). IsNeverLookedUp id → ⊥) (sym there.4) queries.0)))),
      queries.1,
      subst (IsDirectoryError (g.S.Store.objects c.args.store.now) (g.S.Store.may_fail c.args.store.now) c.in-Some-next_id.id) (sym is)
          (c.in_err-tree.ensures {u = tt}).error,
    ))

pub invariant_of-node-2 : goal.invariant_of-node-2
invariant_of-node-2 g t c =
    let name = bstring_bytes c.in-Some.name.now in
    let cs = child_list c.node.inside.children in
    let inner = c.open_recursively-opened.new.node in
    let same : parts (child_list c.insert.new.self) ≡ with_part (name, inner) (parts cs) =
    c.insert.ensures.inserted ∙ ap (λ n. with_part (n, inner) (parts (child_list c.room_for.new.self))) (c.in_ok-own_name.ensures {u = tt}).name
    ∙ ap (λ (l : List Child). with_part (name, inner) (parts l)) c.room_for.ensures.list in
    let there = (c.in-Some-next_id.ensures {u = tt}).found in
    record {
      level = is_level_of_new_child name c.node.inside.entries cs c.node.invariant.level there.0 there.1 there.2 inner (child_list c.insert.new.self) same;
      filled = c.insert.ensures.filled;
    }

pub returns-clause-opened : goal.returns-clause-opened
returns-clause-opened g t c = MatchResult-weaker c.open_recursively-opened.result c.open_recursively-opened.ensures.opened (λ _ ok trees fits.
    let name = bstring_bytes c.in-Some.name.now in
    let cs = child_list c.node.inside.children in
    let inner = c.open_recursively-opened.new.node in
    let same : parts (child_list c.insert.new.self) ≡ with_part (name, inner) (parts cs) =
    c.insert.ensures.inserted ∙ ap (λ n. with_part (n, inner) (parts (child_list c.room_for.new.self))) (c.in_ok-own_name.ensures {u = tt}).name
    ∙ ap (λ (l : List Child). with_part (name, inner) (parts l)) c.room_for.ensures.list in
    let there = (c.in-Some-next_id.ensures {u = tt}).found in
    let below = ok trees fits in
    let finds = (c.in_ok-tree.ensures {u = tt}).found trees fits in (
      finds.0 ++ below.0,
      found_in (OpensAs (EndsBefore c.args.not_looked_up) trees) (Opens (EndsBefore c.args.not_looked_up) trees)
          (opens_goes_down (EndsBefore c.args.not_looked_up) trees) (opens_goes_in (EndsBefore c.args.not_looked_up) trees) c.node.inside.entries
          c.args.node.now
          (names_of c.args.path.now) name (names_of c.in-Some.rest.now) (ap names_of c.in-Some.ensures.cases.0)
          cs c.node.view_is c.node.invariant.level (all_names_differ name cs (c.in_default-position.ensures {u = tt}).none)
          (in_part_none name cs (c.in_default-position.ensures {u = tt}).none)
          there.0 there.1 there.2 c.in_ok-tree.tree finds.0 below.0
          (there.3, subst (λ id. Finds trees id c.in_ok-tree.tree finds.0) (sym there.4) finds.1)
          inner (child_list c.insert.new.self) same
          (subst (λ (d : Opened). Opens (EndsBefore c.args.not_looked_up) trees (names_of c.in-Some.rest.now) (dirs_of d)
          (dirs_of c.open_recursively-opened.new.node) below.0) c.with_base-inner.ensures below.1),
      below.2 ∙ ap (λ n. counted n below.0) finds.2 ∙ counted_append c.args.lookups.now finds.0 below.0,
    )) (λ _ u. u)

pub returns-clause-stopped_opening : goal.returns-clause-stopped_opening
returns-clause-stopped_opening g t c = MatchResult-weaker c.open_recursively-opened.result c.open_recursively-opened.ensures.stopped_opening (λ _ u. u)
    (λ error bad trees fits.
    let name = bstring_bytes c.in-Some.name.now in
    let cs = child_list c.node.inside.children in
    let inner = c.open_recursively-opened.new.node in
    let same : parts (child_list c.insert.new.self) ≡ with_part (name, inner) (parts cs) =
    c.insert.ensures.inserted ∙ ap (λ n. with_part (n, inner) (parts (child_list c.room_for.new.self))) (c.in_ok-own_name.ensures {u = tt}).name
    ∙ ap (λ (l : List Child). with_part (name, inner) (parts l)) c.room_for.ensures.list in
    let there = (c.in-Some-next_id.ensures {u = tt}).found in
    let below = bad trees fits in
    let finds = (c.in_ok-tree.ensures {u = tt}).found trees fits in (
      finds.0 ++ below.0,
      below.1,
      found_in (OpensAs (EndsBefore c.args.not_looked_up) trees) (HaltsAt (EndsBefore c.args.not_looked_up) trees below.1)
          (halts_at_goes_down (EndsBefore c.args.not_looked_up) trees below.1)
          (halts_at_goes_in (EndsBefore c.args.not_looked_up) trees below.1) c.node.inside.entries
          c.args.node.now (names_of c.args.path.now) name (names_of c.in-Some.rest.now) (ap names_of c.in-Some.ensures.cases.0)
          cs c.node.view_is c.node.invariant.level (all_names_differ name cs (c.in_default-position.ensures {u = tt}).none)
          (in_part_none name cs (c.in_default-position.ensures {u = tt}).none)
          there.0 there.1 there.2 c.in_ok-tree.tree finds.0 below.0
          (there.3, subst (λ id. Finds trees id c.in_ok-tree.tree finds.0) (sym there.4) finds.1)
          inner (child_list c.insert.new.self) same
          (subst (λ (d : Opened). StopsOpening (EndsBefore c.args.not_looked_up) trees (names_of c.in-Some.rest.now) (dirs_of d)
          (dirs_of c.open_recursively-opened.new.node) below.0 below.1) c.with_base-inner.ensures below.2),
      below.3 ∙ ap (λ n. counted n below.0) finds.2 ∙ counted_append c.args.lookups.now finds.0 below.0,
      below.4,
    ))

pub returns-in-Some-position-clause-still_opened : goal.returns-in-Some-position-clause-still_opened
returns-in-Some-position-clause-still_opened g t c =
    let root = c.open_recursively.ensures.root in
    let it = c.in-Some-position.ensures {u = tt} in
    let found : IsFound (bstring_bytes c.in-Some.name.now) c.node.inside.children _ _ c.at_mut-child.result.now =
    record { within = it.within; found = it.found; is = c.at_mut-child.ensures.value } in
    down_in IsFormedList StaysOpened stays_opened_goes_down stays_opened_goes_in c.node.inside.entries c.args.node.now (names_of c.args.path.now)
    (bstring_bytes c.in-Some.name.now)
    (names_of c.in-Some.rest.now) (ap names_of c.in-Some.ensures.cases.0)
    (is_child found) (is_changed found c.open_recursively.new.node) c.node.view_is c.node.invariant.level root.0 root.1
    [] c.open_recursively.ensures.still_opened

pub returns-in_err-own_name-clause-still_opened : goal.returns-in_err-own_name-clause-still_opened
returns-in_err-own_name-clause-still_opened g t c =
    is_opened_after_opening c.node.inside.entries c.args.node.now (child_list c.node.inside.children) (child_list c.room_for.new.self)
    c.node.view_is c.room_for.ensures.list

pub returns-in_err-tree-clause-still_opened : goal.returns-in_err-tree-clause-still_opened
returns-in_err-tree-clause-still_opened g t c = λ all. all

pub returns-clause-still_opened : goal.returns-clause-still_opened
returns-clause-still_opened g t c =
    let name = bstring_bytes c.in-Some.name.now in
    let cs = child_list c.node.inside.children in
    let inner = c.open_recursively-opened.new.node in
    let same : parts (child_list c.insert.new.self) ≡ with_part (name, inner) (parts cs) =
    c.insert.ensures.inserted ∙ ap (λ n. with_part (n, inner) (parts (child_list c.room_for.new.self))) (c.in_ok-own_name.ensures {u = tt}).name
    ∙ ap (λ (l : List Child). with_part (name, inner) (parts l)) c.room_for.ensures.list in
    let there = (c.in-Some-next_id.ensures {u = tt}).found in
    found_in IsFormedList StaysOpened stays_opened_goes_down stays_opened_goes_in c.node.inside.entries c.args.node.now (names_of c.args.path.now) name
    (names_of c.in-Some.rest.now)
    (ap names_of c.in-Some.ensures.cases.0)
    cs c.node.view_is c.node.invariant.level (all_names_differ name cs (c.in_default-position.ensures {u = tt}).none)
    (in_part_none name cs (c.in_default-position.ensures {u = tt}).none)
    there.0 there.1 there.2 c.in_ok-tree.tree [] [] (c.in_ok-tree.ensures {u = tt}).well_formed inner (child_list c.insert.new.self) same
    (subst (λ (d : Opened). IsOpened (dirs_of d) → IsOpened (dirs_of c.open_recursively-opened.new.node)) c.with_base-inner.ensures
    c.open_recursively-opened.ensures.still_opened)

pub returns-in_default-clause-root : goal.returns-in_default-clause-root
returns-in_default-clause-root g t c =
    (c.node.inside.entries, dirs_of_nil c.args.node.now c.node.inside.entries (parts (child_list c.node.inside.children)) c.node.view_is)

pub returns-in-Some-position-clause-root : goal.returns-in-Some-position-clause-root
returns-in-Some-position-clause-root g t c =
    (c.node.inside.entries, dirs_of_nil c.args.node.now c.node.inside.entries (parts (child_list c.node.inside.children)) c.node.view_is)

pub returns-in_default-next_id-clause-root : goal.returns-in_default-next_id-clause-root
returns-in_default-next_id-clause-root g t c =
    (c.node.inside.entries, dirs_of_nil c.args.node.now c.node.inside.entries (parts (child_list c.node.inside.children)) c.node.view_is)

pub returns-in_err-tree-clause-root : goal.returns-in_err-tree-clause-root
returns-in_err-tree-clause-root g t c =
    (c.node.inside.entries, dirs_of_nil c.args.node.now c.node.inside.entries (parts (child_list c.node.inside.children)) c.node.view_is)

pub returns-in_err-own_name-clause-root : goal.returns-in_err-own_name-clause-root
returns-in_err-own_name-clause-root g t c =
    (c.node.inside.entries, dirs_of_nil c.args.node.now c.node.inside.entries (parts (child_list c.node.inside.children)) c.node.view_is)

pub returns-clause-root : goal.returns-clause-root
returns-clause-root g t c =
    (c.node.inside.entries, dirs_of_nil c.args.node.now c.node.inside.entries (parts (child_list c.node.inside.children)) c.node.view_is)

pub returns-in_default-clause-bases : goal.returns-in_default-clause-bases
returns-in_default-clause-bases g t c = λ at. unmoved base_opened opening c.args.node.now at

pub returns-in_default-next_id-clause-bases : goal.returns-in_default-next_id-clause-bases
returns-in_default-next_id-clause-bases g t c = λ at. unmoved base_opened opening c.args.node.now at

pub returns-in_err-own_name-clause-bases : goal.returns-in_err-own_name-clause-bases
returns-in_err-own_name-clause-bases g t c =
    base_of_unmoved base_opened opening c.args.node.now (opened c.node.inside.entries c.node.inside.base (parts (child_list c.room_for.new.self)))
    (ap (λ (l : List Child). opened c.node.inside.entries c.node.inside.base (parts l)) c.room_for.ensures.list ∙ c.node.view_is)

pub returns-in_err-tree-clause-bases : goal.returns-in_err-tree-clause-bases
returns-in_err-tree-clause-bases g t c = λ at. unmoved base_opened opening c.args.node.now at

pub returns-in-Some-position-clause-bases : goal.returns-in-Some-position-clause-bases
returns-in-Some-position-clause-bases g t c =
    let it = c.in-Some-position.ensures {u = tt} in
    let found : IsFound (bstring_bytes c.in-Some.name.now) c.node.inside.children _ _ c.at_mut-child.result.now =
    record { within = it.within; found = it.found; is = c.at_mut-child.ensures.value } in
    set_moved base_opened opening c.args.node.now c.node.inside.entries (is_child found) (is_changed found c.open_recursively.new.node) c.node.view_is
    c.node.invariant.level c.open_recursively.ensures.bases

pub returns-clause-bases : goal.returns-clause-bases
returns-clause-bases g t c =
    let name = bstring_bytes c.in-Some.name.now in
    let cs = child_list c.node.inside.children in
    let inner = c.open_recursively-opened.new.node in
    let same : parts (child_list c.insert.new.self) ≡ with_part (name, inner) (parts cs) =
    c.insert.ensures.inserted ∙ ap (λ n. with_part (n, inner) (parts (child_list c.room_for.new.self))) (c.in_ok-own_name.ensures {u = tt}).name
    ∙ ap (λ (l : List Child). with_part (name, inner) (parts l)) c.room_for.ensures.list in
    let there = (c.in-Some-next_id.ensures {u = tt}).found in
    let tree = c.in_ok-tree.tree in
    let inner_is : _ ≡ opened tree tree [] = c.with_base-inner.ensures ∙ ap (λ (b : List EntryView). opened tree b [])
    (c.in_ok-tree.ensures {u = tt}).base in
    base_opened_of_moved c.args.node.now c.node.inside.entries cs (child_list c.insert.new.self) c.node.view_is c.node.invariant.level name
    (all_names_differ name cs (c.in_default-position.ensures {u = tt}).none)
    (in_part_none name cs (c.in_default-position.ensures {u = tt}).none)
    there.0 there.1 there.2 inner same
    (λ path. subst (λ (d : Opened). bases_of inner path ≡ base_opened (dirs_of d path) (dirs_of inner path) (bases_of d path)) inner_is
    (c.open_recursively-opened.ensures.bases path)
    ∙ base_opened_of_found tree path (dirs_of inner) (c.open_recursively-opened.ensures.same_root ∙ ap (λ (d : Opened). dirs_of d []) inner_is))

pub returns-in-Some-position-clause-kept : goal.returns-in-Some-position-clause-kept
returns-in-Some-position-clause-kept g t c =
    let root = c.open_recursively.ensures.root in
    let it = c.in-Some-position.ensures {u = tt} in
    let found : IsFound (bstring_bytes c.in-Some.name.now) c.node.inside.children _ _ c.at_mut-child.result.now =
    record { within = it.within; found = it.found; is = c.at_mut-child.ensures.value } in
    down_in IsFormedList KeepsEntries keeps_goes_down keeps_goes_in c.node.inside.entries c.args.node.now (names_of c.args.path.now)
    (bstring_bytes c.in-Some.name.now)
    (names_of c.in-Some.rest.now) (ap names_of c.in-Some.ensures.cases.0)
    (is_child found) (is_changed found c.open_recursively.new.node) c.node.view_is c.node.invariant.level root.0 root.1
    [] c.open_recursively.ensures.kept

pub returns-in_err-own_name-clause-kept : goal.returns-in_err-own_name-clause-kept
returns-in_err-own_name-clause-kept g t c =
    keeps_open_of_same c.node.inside.entries c.args.node.now (child_list c.node.inside.children) (child_list c.room_for.new.self)
    c.node.view_is c.room_for.ensures.list

pub returns-in_err-tree-clause-kept : goal.returns-in_err-tree-clause-kept
returns-in_err-tree-clause-kept g t c = λ at entries is. is

pub returns-clause-kept : goal.returns-clause-kept
returns-clause-kept g t c =
    let name = bstring_bytes c.in-Some.name.now in
    let cs = child_list c.node.inside.children in
    let inner = c.open_recursively-opened.new.node in
    let same : parts (child_list c.insert.new.self) ≡ with_part (name, inner) (parts cs) =
    c.insert.ensures.inserted ∙ ap (λ n. with_part (n, inner) (parts (child_list c.room_for.new.self))) (c.in_ok-own_name.ensures {u = tt}).name
    ∙ ap (λ (l : List Child). with_part (name, inner) (parts l)) c.room_for.ensures.list in
    let there = (c.in-Some-next_id.ensures {u = tt}).found in
    found_in IsFormedList KeepsEntries keeps_goes_down keeps_goes_in c.node.inside.entries c.args.node.now (names_of c.args.path.now) name
    (names_of c.in-Some.rest.now)
    (ap names_of c.in-Some.ensures.cases.0)
    cs c.node.view_is c.node.invariant.level (all_names_differ name cs (c.in_default-position.ensures {u = tt}).none)
    (in_part_none name cs (c.in_default-position.ensures {u = tt}).none)
    there.0 there.1 there.2 c.in_ok-tree.tree [] [] (c.in_ok-tree.ensures {u = tt}).well_formed inner (child_list c.insert.new.self) same
    (subst (λ (d : Opened). KeepsOpen (dirs_of d) (dirs_of c.open_recursively-opened.new.node)) c.with_base-inner.ensures
    c.open_recursively-opened.ensures.kept)
