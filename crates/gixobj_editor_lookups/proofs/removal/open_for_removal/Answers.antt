-- The directories are opened along the valid names; then the next name, if the removal reaches it, is validated.
use Rattle.std.proofs.Common.{◌≡◌, ◌∙◌, Some, None, ap, sym, subst}
use Rattle.std.proofs.lemmas.Result.{MatchResult-weaker}
use Rattle.gixobj_editor_open.specs.Paths.{names_of}
use Rattle.gixobj_editor_open.specs.Nested.{dirs_of}
use Rattle.gixobj_editor_lookups.specs.Openings.{EndsBefore}
use Rattle.gixobj_editor_open.proofs.Results.{if_err_weaken}
use Rattle.gixobj_editor_lookups.proofs.NamedTrees.{trees_of_objects_exist}
use Rattle.gixobj_editor_files.specs.Edits.{counted}
use Rattle.gixobj_editor_lookups.proofs.OpeningSteps.{ends_before_is_idle}
use Rattle.gixobj_editor_lookups.proofs.Removing.{IsRejectedSo, halted_removal, halted_removal_counts, name_rejected_so, is_opened_for_of_opens, no_halt}
use Rattle.gixobj_editor_lookups.proofs.Removing.{nothing_validated, opens_nothing}
use Rattle.gixobj_editor_lookups.proofs.ValidNames.{no_memory_of_name}
use Rattle.gixobj_editor_lookups.proofs.removal.open_for_removal.Goals as goal

pub returns-in_err-open_along-clause-after_error : goal.returns-in_err-open_along-clause-after_error
returns-in_err-open_along-clause-after_error g c = if_err_weaken c.from_residual.result _ _ c.from_residual.ensures.1 (λ error is trees fits.
    let StopsBefore = EndsBefore c.args.not_looked_up in
    let bad = (c.in_err-open_along.ensures {u = tt}).stopped_opening trees fits in
    let so = halted_removal (ends_before_is_idle c.args.not_looked_up) (g.S.Store.objects c.args.store.now) (g.S.Store.may_fail c.args.store.now) trees
    (names_of c.args.path.now) (names_of c.split_for_removal.result.0.now)
    (names_of c.split_for_removal.result.1.now) c.split_for_removal.ensures
    (dirs_of c.args.root.now) (dirs_of c.open_along.new.node) bad.0 bad.1 bad.2 c.in_err-open_along.field-0.0 bad.4 c.args.lookups.now c.open_along.new.lookups
    bad.3 in
    subst (λ e. IsRejectedSo StopsBefore (g.S.Store.objects c.args.store.now) (g.S.Store.may_fail c.args.store.now) trees (names_of c.args.path.now)
    (dirs_of c.args.root.now) (dirs_of c.open_along.new.node) c.args.lookups.now c.open_along.new.lookups e) (sym is) so)

pub returns-clause-after_error : goal.returns-clause-after_error
returns-clause-after_error g c = MatchResult-weaker c.check_reached.result c.check_reached.ensures.error (λ _ u. u) (λ error bad trees fits.
    let ok = (c.in_ok-open_along.ensures {u = tt}).opened trees fits in
    name_rejected_so (ends_before_is_idle c.args.not_looked_up) (g.S.Store.objects c.args.store.now) (g.S.Store.may_fail c.args.store.now) trees
    (names_of c.args.path.now) (names_of c.split_for_removal.result.0.now)
    (names_of c.split_for_removal.result.1.now) c.split_for_removal.ensures
    (dirs_of c.args.root.now) (dirs_of c.open_along.new.node) ok.0 ok.1 bad.0 bad.1 error bad.2 c.args.lookups.now c.open_along.new.lookups ok.2)

pub returns-clause-opened : goal.returns-clause-opened
returns-clause-opened g c = MatchResult-weaker c.check_reached.result c.check_reached.ensures.accepted (λ _ came trees fits.
    let ok = (c.in_ok-open_along.ensures {u = tt}).opened trees fits in
    let root = c.open_along.ensures.root in
    let so = is_opened_for_of_opens (ends_before_is_idle c.args.not_looked_up) trees (names_of c.args.path.now) (names_of c.split_for_removal.result.0.now)
    (names_of c.split_for_removal.result.1.now) c.split_for_removal.ensures (dirs_of c.args.root.now) (dirs_of c.open_along.new.node)
    (λ none. let bad : Some root.0 ≡ None = sym root.1 ∙ none in cc bad) ok.0 ok.1 came in
    (ok.0, so.0, ok.2, so.1)) (λ _ u. u)

-- the first name is invalid
pub returns-in_err-open_along-clause-unchanged : goal.returns-in_err-open_along-clause-unchanged
returns-in_err-open_along-clause-unchanged g c = λ bad.
    let named = trees_of_objects_exist (g.S.Store.objects c.args.store.now) in
    let stopped = (c.in_err-open_along.ensures {u = tt}).stopped_opening named.0 named.1 in
    let names = names_of c.split_for_removal.result.0.now in
    let none = nothing_validated (names_of c.args.path.now) names (names_of c.split_for_removal.result.1.now) c.split_for_removal.ensures bad in
    absurd (no_halt named.0 names none (dirs_of c.args.root.now) (dirs_of c.open_along.new.node) stopped.0 stopped.1 stopped.2)

pub returns-clause-unchanged : goal.returns-clause-unchanged
returns-clause-unchanged g c = λ bad.
    let named = trees_of_objects_exist (g.S.Store.objects c.args.store.now) in
    let ok = (c.in_ok-open_along.ensures {u = tt}).opened named.0 named.1 in
    let names = names_of c.split_for_removal.result.0.now in
    let none = nothing_validated (names_of c.args.path.now) names (names_of c.split_for_removal.result.1.now) c.split_for_removal.ensures bad in
    let same = opens_nothing named.0 names none (dirs_of c.args.root.now) (dirs_of c.open_along.new.node) ok.0 ok.1 in
    (same.0, ok.2 ∙ ap (counted c.args.lookups.now) same.1)

-- each lookup is counted
pub returns-in_err-open_along-clause-lookups : goal.returns-in_err-open_along-clause-lookups
returns-in_err-open_along-clause-lookups g c = if_err_weaken c.from_residual.result _ _ c.from_residual.ensures.1 (λ error is trees fits memory.
    let bad = (c.in_err-open_along.ensures {u = tt}).stopped_opening trees fits in
    halted_removal_counts trees (names_of c.args.path.now) (names_of c.split_for_removal.result.0.now)
    (names_of c.split_for_removal.result.1.now) c.split_for_removal.ensures
    (dirs_of c.args.root.now) (dirs_of c.open_along.new.node) bad.0 bad.1 bad.2 c.args.lookups.now c.open_along.new.lookups bad.3)

pub returns-clause-lookups : goal.returns-clause-lookups
returns-clause-lookups g c = MatchResult-weaker c.check_reached.result c.check_reached.ensures.error (λ _ u. u) (λ error bad trees fits memory.
    absurd (no_memory_of_name (names_of c.split_for_removal.result.1.now) error bad.2 memory))
