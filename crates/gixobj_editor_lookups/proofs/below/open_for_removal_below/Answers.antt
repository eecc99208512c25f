-- The directories are opened from the prefix along the valid names; then the next name, if the removal reaches it, is
-- validated; and then the path from the root is allocated.
use Rattle.std.proofs.Common.{List, ◌≡◌, ◌≢◌, ◌∙◌, ◌++◌, ◌∷◌, [], None, Some, inl, inr, ap, refl, subst, sym}
use Rattle.std.proofs.lemmas.Result.{MatchResult-weaker}
use Rattle.bstr.specs.Owned.{bstring_bytes}
use Rattle.bstr.specs.declared.bstring.BString.{BString}
use Rattle.gixobj_editor_files.specs.Bases.{base_opened}
use Rattle.gixobj_editor_files.specs.Edits.{Opens, counted}
use Rattle.gixobj_editor_files.specs.Files.{Path}
use Rattle.gixobj_editor_open.specs.Nested.{dirs_of}
use Rattle.gixobj_editor_open.specs.Paths.{names_of}
use Rattle.gixobj_editor_open.proofs.BaseSteps.{opening, unmoved}
use Rattle.gixobj_editor_open.proofs.Results.{if_err_weaken}
use Rattle.gixobj_editor_open.proofs.Steps.{names_of_nil}
use Rattle.gixobj_editor_lookups.specs.EditNames.{from_root}
use Rattle.gixobj_editor_lookups.specs.FailedOpenings.{IsLookupError, OpensInPart}
use Rattle.gixobj_editor_lookups.specs.Openings.{EndsBefore}
use Rattle.gixobj_editor_lookups.specs.RemovalErrors.{IsRemovalErrorUpTo}
use Rattle.gixobj_editor_lookups.specs.UpsertErrors.{IsCursorEditError}
use Rattle.gixobj_editor_lookups.specs.declared.error.Error.{Error}
use Rattle.gixobj_editor_lookups.proofs.NamedTrees.{trees_of_objects_exist}
use Rattle.gixobj_editor_lookups.proofs.OpeningSteps.{ends_before_is_idle}
use Rattle.gixobj_editor_lookups.proofs.OpeningsBelow.{from_root_filled, opened_above_in_part, opened_for_nothing, splits_from_root}
use Rattle.gixobj_editor_lookups.proofs.Removing.{IsOpenedFor, halted_removal, halted_removal_counts, is_opened_for_of_opens, name_rejected_so, no_halt}
use Rattle.gixobj_editor_lookups.proofs.Removing.{nothing_validated, opened_above_counts, opens_nothing}
use Rattle.gixobj_editor_lookups.proofs.ValidNames.{no_memory_of_name}
use Rattle.gixobj_editor_lookups.proofs.below.open_for_removal_below.Goals as goal

filled_of : (path rest : List BString) (first : BString) → path ≡ first ∷ rest → names_of path ≢ []
filled_of path rest first is none = let bad : bstring_bytes first ∷ names_of rest ≡ [] = sym (ap names_of is) ∙ none in cc bad

-- a path without names
pub returns-in_default-clause-opened : goal.returns-in_default-clause-opened
returns-in_default-clause-opened g c = λ trees fits.
    opened_for_nothing trees (from_root (names_of c.args.prefix.now) (names_of c.args.path.now))
    (ap (from_root (names_of c.args.prefix.now)) (names_of_nil c.args.path.now c.in_default.ensures.cases)) (dirs_of c.args.root.now) c.args.lookups.now

pub returns-in_default-clause-path : goal.returns-in_default-clause-path
returns-in_default-clause-path g c = ap names_of c.new.ensures.items
    ∙ sym (ap (from_root (names_of c.args.prefix.now)) (names_of_nil c.args.path.now c.in_default.ensures.cases))

pub returns-in_default-clause-bases : goal.returns-in_default-clause-bases
returns-in_default-clause-bases g c = λ at. unmoved base_opened opening c.args.root.now at

-- a directory isn't opened
pub returns-in_err-open_below-clause-after_error : goal.returns-in_err-open_below-clause-after_error
returns-in_err-open_below-clause-after_error g c = if_err_weaken c.from_residual.result _ _ c.from_residual.ensures.1 (λ error is trees fits.
    let StopsBefore = EndsBefore c.args.not_looked_up in
    let objects = g.S.Store.objects c.args.store.now in
    let may_fail = g.S.Store.may_fail c.args.store.now in
    let before = names_of c.args.prefix.now in
    let path = names_of c.args.path.now in
    let entire = from_root before path in
    let head = before ++ names_of c.split_for_removal.result.0.now in
    let rejected = names_of c.split_for_removal.result.1.now in
    let filled = filled_of c.args.path.now c.in-Some._rest.now c.in-Some._first.now c.in-Some.ensures.cases.0 in
    let splits = splits_from_root before path (names_of c.split_for_removal.result.0.now) rejected c.requires.names filled c.split_for_removal.ensures in
    let bad = (c.in_err-open_below.ensures {u = tt}).stopped_opening trees fits in
    let so = halted_removal (ends_before_is_idle c.args.not_looked_up) objects may_fail trees entire head rejected splits
    (dirs_of c.args.root.now) (dirs_of c.open_below.new.node) bad.0 bad.1 bad.2 c.in_err-open_below.field-0.0 bad.4 c.args.lookups.now
    c.open_below.new.lookups bad.3 in
    subst (λ (e : Error). OpensInPart StopsBefore objects may_fail trees entire (dirs_of c.args.root.now) (dirs_of c.open_below.new.node) c.args.lookups.now
    c.open_below.new.lookups e × IsCursorEditError path (IsRemovalErrorUpTo StopsBefore objects may_fail trees (dirs_of c.args.root.now) entire) e)
    (sym is) (so.0, inl so.1))

pub returns-in_err-open_below-clause-lookups : goal.returns-in_err-open_below-clause-lookups
returns-in_err-open_below-clause-lookups g c = if_err_weaken c.from_residual.result _ _ c.from_residual.ensures.1 (λ error is trees fits memory.
    let before = names_of c.args.prefix.now in
    let path = names_of c.args.path.now in
    let rejected = names_of c.split_for_removal.result.1.now in
    let filled = filled_of c.args.path.now c.in-Some._rest.now c.in-Some._first.now c.in-Some.ensures.cases.0 in
    let splits = splits_from_root before path (names_of c.split_for_removal.result.0.now) rejected c.requires.names filled c.split_for_removal.ensures in
    let bad = (c.in_err-open_below.ensures {u = tt}).stopped_opening trees fits in
    halted_removal_counts trees (from_root before path) (before ++ names_of c.split_for_removal.result.0.now) rejected splits
    (dirs_of c.args.root.now) (dirs_of c.open_below.new.node) bad.0 bad.1 bad.2 c.args.lookups.now c.open_below.new.lookups bad.3)

pub returns-in_err-open_below-clause-unchanged : goal.returns-in_err-open_below-clause-unchanged
returns-in_err-open_below-clause-unchanged g c = λ invalid.
    let before = names_of c.args.prefix.now in
    let path = names_of c.args.path.now in
    let head = before ++ names_of c.split_for_removal.result.0.now in
    let rejected = names_of c.split_for_removal.result.1.now in
    let filled = filled_of c.args.path.now c.in-Some._rest.now c.in-Some._first.now c.in-Some.ensures.cases.0 in
    let splits = splits_from_root before path (names_of c.split_for_removal.result.0.now) rejected c.requires.names filled c.split_for_removal.ensures in
    let named = trees_of_objects_exist (g.S.Store.objects c.args.store.now) in
    let bad = (c.in_err-open_below.ensures {u = tt}).stopped_opening named.0 named.1 in
    absurd (no_halt named.0 head (nothing_validated (from_root before path) head rejected splits invalid) (dirs_of c.args.root.now)
    (dirs_of c.open_below.new.node) bad.0 bad.1 bad.2)

-- a name is invalid
pub returns-in_err-check_reached_below-clause-after_error : goal.returns-in_err-check_reached_below-clause-after_error
returns-in_err-check_reached_below-clause-after_error g c =
    if_err_weaken c.from_residual-in_err-check_reached_below.result _ _ c.from_residual-in_err-check_reached_below.ensures.1 (λ error is trees fits.
    let StopsBefore = EndsBefore c.args.not_looked_up in
    let objects = g.S.Store.objects c.args.store.now in
    let may_fail = g.S.Store.may_fail c.args.store.now in
    let before = names_of c.args.prefix.now in
    let path = names_of c.args.path.now in
    let entire = from_root before path in
    let head = before ++ names_of c.split_for_removal.result.0.now in
    let rejected = names_of c.split_for_removal.result.1.now in
    let filled = filled_of c.args.path.now c.in-Some._rest.now c.in-Some._first.now c.in-Some.ensures.cases.0 in
    let splits = splits_from_root before path (names_of c.split_for_removal.result.0.now) rejected c.requires.names filled c.split_for_removal.ensures in
    let ok = (c.in_ok-open_below.ensures {u = tt}).opened trees fits in
    let bad = (c.in_err-check_reached_below.ensures {u = tt}).error in
    let so = name_rejected_so (ends_before_is_idle c.args.not_looked_up) objects may_fail trees entire head rejected splits
    (dirs_of c.args.root.now) (dirs_of c.open_below.new.node) ok.0 ok.1 bad.0 bad.1 c.in_err-check_reached_below.field-0.0 bad.2 c.args.lookups.now
    c.open_below.new.lookups ok.2 in
    subst (λ (e : Error). OpensInPart StopsBefore objects may_fail trees entire (dirs_of c.args.root.now) (dirs_of c.open_below.new.node) c.args.lookups.now
    c.open_below.new.lookups e × IsCursorEditError path (IsRemovalErrorUpTo StopsBefore objects may_fail trees (dirs_of c.args.root.now) entire) e)
    (sym is) (so.0, inl so.1))

pub returns-in_err-check_reached_below-clause-lookups : goal.returns-in_err-check_reached_below-clause-lookups
returns-in_err-check_reached_below-clause-lookups g c =
    if_err_weaken c.from_residual-in_err-check_reached_below.result _ _ c.from_residual-in_err-check_reached_below.ensures.1
    (λ error is trees fits memory. absurd (no_memory_of_name (names_of c.split_for_removal.result.1.now) c.in_err-check_reached_below.field-0.0
    (c.in_err-check_reached_below.ensures {u = tt}).error.2 (sym is ∙ memory)))

pub returns-in_err-check_reached_below-clause-unchanged : goal.returns-in_err-check_reached_below-clause-unchanged
returns-in_err-check_reached_below-clause-unchanged g c = λ invalid.
    let before = names_of c.args.prefix.now in
    let path = names_of c.args.path.now in
    let head = before ++ names_of c.split_for_removal.result.0.now in
    let rejected = names_of c.split_for_removal.result.1.now in
    let filled = filled_of c.args.path.now c.in-Some._rest.now c.in-Some._first.now c.in-Some.ensures.cases.0 in
    let splits = splits_from_root before path (names_of c.split_for_removal.result.0.now) rejected c.requires.names filled c.split_for_removal.ensures in
    let named = trees_of_objects_exist (g.S.Store.objects c.args.store.now) in
    let ok = (c.in_ok-open_below.ensures {u = tt}).opened named.0 named.1 in
    let same = opens_nothing named.0 head (nothing_validated (from_root before path) head rejected splits invalid) (dirs_of c.args.root.now)
    (dirs_of c.open_below.new.node) ok.0 ok.1 in
    (same.0, ok.2 ∙ ap (counted c.args.lookups.now) same.1)

-- the path from the root isn't allocated
pub returns-in_err-path-clause-after_error : goal.returns-in_err-path-clause-after_error
returns-in_err-path-clause-after_error g c =
    if_err_weaken c.from_residual-in_err-path.result _ _ c.from_residual-in_err-path.ensures.1 (λ error is trees fits.
    let before = names_of c.args.prefix.now in
    let path = names_of c.args.path.now in
    let entire = from_root before path in
    let filled = filled_of c.args.path.now c.in-Some._rest.now c.in-Some._first.now c.in-Some.ensures.cases.0 in
    let splits = splits_from_root before path (names_of c.split_for_removal.result.0.now) (names_of c.split_for_removal.result.1.now) c.requires.names filled
    c.split_for_removal.ensures in
    let root = c.open_below.ensures.root in
    let ok = (c.in_ok-open_below.ensures {u = tt}).opened trees fits in
    let so : IsOpenedFor (EndsBefore c.args.not_looked_up) trees entire (dirs_of c.args.root.now) (dirs_of c.open_below.new.node) ok.0 =
    is_opened_for_of_opens (ends_before_is_idle c.args.not_looked_up) trees entire (before ++ names_of c.split_for_removal.result.0.now)
    (names_of c.split_for_removal.result.1.now) splits (dirs_of c.args.root.now) (dirs_of c.open_below.new.node)
    (λ none. let bad : Some root.0 ≡ None = sym root.1 ∙ none in cc bad) ok.0 ok.1 (c.in_ok-check_reached_below.ensures {u = tt}).accepted in (
      opened_above_in_part (g.S.Store.objects c.args.store.now) (g.S.Store.may_fail c.args.store.now) trees entire
          (from_root_filled before path filled) (dirs_of c.args.root.now) (dirs_of c.open_below.new.node) ok.0 so.0 c.args.lookups.now
          c.open_below.new.lookups ok.2 error (subst (λ (e : Error). ¬ IsLookupError e) (sym is) (λ it. it)),
      inr (is, filled),
    ))

pub returns-in_err-path-clause-lookups : goal.returns-in_err-path-clause-lookups
returns-in_err-path-clause-lookups g c =
    if_err_weaken c.from_residual-in_err-path.result _ _ c.from_residual-in_err-path.ensures.1 (λ error is trees fits memory.
    let before = names_of c.args.prefix.now in
    let path = names_of c.args.path.now in
    let entire = from_root before path in
    let filled = filled_of c.args.path.now c.in-Some._rest.now c.in-Some._first.now c.in-Some.ensures.cases.0 in
    let splits = splits_from_root before path (names_of c.split_for_removal.result.0.now) (names_of c.split_for_removal.result.1.now) c.requires.names filled
    c.split_for_removal.ensures in
    let root = c.open_below.ensures.root in
    let ok = (c.in_ok-open_below.ensures {u = tt}).opened trees fits in
    let so : IsOpenedFor (EndsBefore c.args.not_looked_up) trees entire (dirs_of c.args.root.now) (dirs_of c.open_below.new.node) ok.0 =
    is_opened_for_of_opens (ends_before_is_idle c.args.not_looked_up) trees entire (before ++ names_of c.split_for_removal.result.0.now)
    (names_of c.split_for_removal.result.1.now) splits (dirs_of c.args.root.now) (dirs_of c.open_below.new.node)
    (λ none. let bad : Some root.0 ≡ None = sym root.1 ∙ none in cc bad) ok.0 ok.1 (c.in_ok-check_reached_below.ensures {u = tt}).accepted in
    opened_above_counts trees entire (dirs_of c.args.root.now) (dirs_of c.open_below.new.node) ok.0 so.0 c.args.lookups.now c.open_below.new.lookups ok.2)

pub returns-in_err-path-clause-unchanged : goal.returns-in_err-path-clause-unchanged
returns-in_err-path-clause-unchanged g c = λ invalid.
    let before = names_of c.args.prefix.now in
    let path = names_of c.args.path.now in
    let head = before ++ names_of c.split_for_removal.result.0.now in
    let rejected = names_of c.split_for_removal.result.1.now in
    let filled = filled_of c.args.path.now c.in-Some._rest.now c.in-Some._first.now c.in-Some.ensures.cases.0 in
    let splits = splits_from_root before path (names_of c.split_for_removal.result.0.now) rejected c.requires.names filled c.split_for_removal.ensures in
    let named = trees_of_objects_exist (g.S.Store.objects c.args.store.now) in
    let ok = (c.in_ok-open_below.ensures {u = tt}).opened named.0 named.1 in
    let same = opens_nothing named.0 head (nothing_validated (from_root before path) head rejected splits invalid) (dirs_of c.args.root.now)
    (dirs_of c.open_below.new.node) ok.0 ok.1 in
    (same.0, ok.2 ∙ ap (counted c.args.lookups.now) same.1)

-- all is opened
pub returns-clause-opened : goal.returns-clause-opened
returns-clause-opened g c = λ trees fits.
    let before = names_of c.args.prefix.now in
    let path = names_of c.args.path.now in
    let entire = from_root before path in
    let filled = filled_of c.args.path.now c.in-Some._rest.now c.in-Some._first.now c.in-Some.ensures.cases.0 in
    let splits = splits_from_root before path (names_of c.split_for_removal.result.0.now) (names_of c.split_for_removal.result.1.now) c.requires.names filled
    c.split_for_removal.ensures in
    let root = c.open_below.ensures.root in
    let ok = (c.in_ok-open_below.ensures {u = tt}).opened trees fits in
    let so : IsOpenedFor (EndsBefore c.args.not_looked_up) trees entire (dirs_of c.args.root.now) (dirs_of c.open_below.new.node) ok.0 =
    is_opened_for_of_opens (ends_before_is_idle c.args.not_looked_up) trees entire (before ++ names_of c.split_for_removal.result.0.now)
    (names_of c.split_for_removal.result.1.now) splits (dirs_of c.args.root.now) (dirs_of c.open_below.new.node)
    (λ none. let bad : Some root.0 ≡ None = sym root.1 ∙ none in cc bad) ok.0 ok.1 (c.in_ok-check_reached_below.ensures {u = tt}).accepted in
    (ok.0, so.0, ok.2, so.1)

pub returns-clause-unchanged : goal.returns-clause-unchanged
returns-clause-unchanged g c = λ invalid.
    let before = names_of c.args.prefix.now in
    let path = names_of c.args.path.now in
    let head = before ++ names_of c.split_for_removal.result.0.now in
    let rejected = names_of c.split_for_removal.result.1.now in
    let filled = filled_of c.args.path.now c.in-Some._rest.now c.in-Some._first.now c.in-Some.ensures.cases.0 in
    let splits = splits_from_root before path (names_of c.split_for_removal.result.0.now) rejected c.requires.names filled c.split_for_removal.ensures in
    let named = trees_of_objects_exist (g.S.Store.objects c.args.store.now) in
    let ok = (c.in_ok-open_below.ensures {u = tt}).opened named.0 named.1 in
    let same = opens_nothing named.0 head (nothing_validated (from_root before path) head rejected splits invalid) (dirs_of c.args.root.now)
    (dirs_of c.open_below.new.node) ok.0 ok.1 in
    (same.0, ok.2 ∙ ap (counted c.args.lookups.now) same.1)
