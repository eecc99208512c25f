-- The directories above the path are opened from the prefix, and then the path from the root is allocated.
use Rattle.std.proofs.Common.{◌≡◌, ◌≢◌, ◌∙◌, ◌++◌, ◌∷◌, [], inl, inr, ap, refl, subst, sym}
use Rattle.gixobj_editor_files.specs.Bases.{base_opened}
use Rattle.gixobj_editor_files.specs.Edits.{IsNoTree, Opens}
use Rattle.gixobj_editor_files.specs.Files.{Path}
use Rattle.gixobj_editor_open.specs.Nested.{dirs_of}
use Rattle.gixobj_editor_open.specs.Paths.{names_of}
use Rattle.gixobj_editor_open.proofs.BaseSteps.{opening, unmoved}
use Rattle.gixobj_editor_open.proofs.Results.{if_err_weaken}
use Rattle.gixobj_editor_lookups.specs.EditNames.{IsFirstNameError, directory_of, from_root}
use Rattle.gixobj_editor_lookups.specs.FailedOpenings.{IsLookupError, OpensInPart}
use Rattle.gixobj_editor_lookups.specs.UpsertErrors.{IsCursorEditError, IsNameError, IsUpsertError}
use Rattle.gixobj_editor_lookups.specs.declared.error.Error.{Error}
use Rattle.gixobj_editor_lookups.proofs.InPart.{halted_counts, halted_in_part, none_in_part}
use Rattle.gixobj_editor_lookups.proofs.OpeningsBelow.{are_names_from_root, ends_of_names, first_name_error_from_root, from_root_filled, from_root_snoc}
use Rattle.gixobj_editor_lookups.proofs.OpeningsBelow.{no_name_error_of_memory, no_name_error_of_opening, opened_above_in_part, upsert_error_of_halt}
use Rattle.gixobj_editor_lookups.proofs.OpeningsBelow.{upsert_error_of_name}
use Rattle.gixobj_editor_lookups.proofs.Paths.{directory_of_snoc}
use Rattle.gixobj_editor_lookups.proofs.Removing.{opened_above_counts}
use Rattle.gixobj_editor_lookups.proofs.ValidNames.{no_lookup_of_name, no_memory_of_name}
use Rattle.gixobj_editor_lookups.proofs.below.open_for_upsert_below.Goals as goal

pub returns-in_err-validate_names-clause-after_error : goal.returns-in_err-validate_names-clause-after_error
returns-in_err-validate_names-clause-after_error g c = if_err_weaken c.from_residual.result _ _ c.from_residual.ensures.1 (λ error is trees fits.
    let objects = g.S.Store.objects c.args.store.now in
    let may_fail = g.S.Store.may_fail c.args.store.now in
    let entire = from_root (names_of c.args.prefix.now) (names_of c.args.path.now) in
    let bad : IsFirstNameError entire error = first_name_error_from_root (names_of c.args.prefix.now) (names_of c.args.path.now) error c.requires.names
    (subst (IsFirstNameError (names_of c.args.path.now)) (sym is) (c.in_err-validate_names.ensures {u = tt}).error) in (
      none_in_part objects may_fail trees entire (dirs_of c.args.root.now) c.args.lookups.now error (no_lookup_of_name entire error bad),
      inl (upsert_error_of_name objects may_fail trees (dirs_of c.args.root.now) entire error bad),
    ))

pub returns-in_err-validate_names-clause-lookups : goal.returns-in_err-validate_names-clause-lookups
returns-in_err-validate_names-clause-lookups g c = if_err_weaken c.from_residual.result _ _ c.from_residual.ensures.1 (λ error is trees fits memory.
    absurd (no_memory_of_name (names_of c.args.path.now) error
    (subst (IsFirstNameError (names_of c.args.path.now)) (sym is) (c.in_err-validate_names.ensures {u = tt}).error) memory))

pub returns-in_err-validate_names-clause-unchanged : goal.returns-in_err-validate_names-clause-unchanged
returns-in_err-validate_names-clause-unchanged g c = if_err_weaken c.from_residual.result _ _ c.from_residual.ensures.1 (λ error is name. (refl, refl))

pub returns-in_err-validate_names-clause-bases : goal.returns-in_err-validate_names-clause-bases
returns-in_err-validate_names-clause-bases g c = λ at. unmoved base_opened opening c.args.root.now at

pub returns-in_err-open_below-clause-after_error : goal.returns-in_err-open_below-clause-after_error
returns-in_err-open_below-clause-after_error g c =
    if_err_weaken c.from_residual-in_err-open_below.result _ _ c.from_residual-in_err-open_below.ensures.1 (λ error is trees fits.
    let objects = g.S.Store.objects c.args.store.now in
    let may_fail = g.S.Store.may_fail c.args.store.now in
    let before = names_of c.args.prefix.now in
    let path = names_of c.args.path.now in
    let entire = from_root before path in
    let head = before ++ names_of c.above-directory.result.now in
    let ends = ends_of_names path c.requires.has_names in
    let entire_is : entire ≡ head ++ ends.1 ∷ [] = from_root_snoc before path (names_of c.above-directory.result.now) ends.1
    (ends.2 ∙ ap (λ (p : Path). p ++ ends.1 ∷ []) (sym (c.above-directory.ensures ∙ ends.3))) in
    let names = are_names_from_root before path c.requires.names (c.in_ok-validate_names.ensures {u = tt}).accepted in
    let why = c.in_err-open_below.field-0.0 in
    let bad = (c.in_err-open_below.ensures {u = tt}).stopped_opening trees fits in
    subst (λ (e : Error). OpensInPart IsNoTree objects may_fail trees entire (dirs_of c.args.root.now) (dirs_of c.open_below.new.node) c.args.lookups.now
    c.open_below.new.lookups e × IsCursorEditError path (IsUpsertError objects may_fail trees (dirs_of c.args.root.now) entire) e) (sym is) (
      halted_in_part objects may_fail trees entire head ends.1 [] entire_is (dirs_of c.args.root.now) (dirs_of c.open_below.new.node) bad.0 bad.1 bad.2
          c.args.lookups.now c.open_below.new.lookups bad.3 why bad.4,
      inl (upsert_error_of_halt objects may_fail trees entire head ends.1 entire_is names (from_root_filled before path c.requires.has_names)
          (dirs_of c.args.root.now) (dirs_of c.open_below.new.node) bad.0 why bad.1 bad.2 bad.4),
    ))

pub returns-in_err-open_below-clause-lookups : goal.returns-in_err-open_below-clause-lookups
returns-in_err-open_below-clause-lookups g c =
    if_err_weaken c.from_residual-in_err-open_below.result _ _ c.from_residual-in_err-open_below.ensures.1 (λ error is trees fits memory.
    let before = names_of c.args.prefix.now in
    let path = names_of c.args.path.now in
    let entire = from_root before path in
    let head = before ++ names_of c.above-directory.result.now in
    let ends = ends_of_names path c.requires.has_names in
    let entire_is : entire ≡ head ++ ends.1 ∷ [] = from_root_snoc before path (names_of c.above-directory.result.now) ends.1
    (ends.2 ∙ ap (λ (p : Path). p ++ ends.1 ∷ []) (sym (c.above-directory.ensures ∙ ends.3))) in
    let bad = (c.in_err-open_below.ensures {u = tt}).stopped_opening trees fits in
    halted_counts trees entire head ends.1 [] entire_is (dirs_of c.args.root.now) (dirs_of c.open_below.new.node) bad.0 bad.1 bad.2
    c.args.lookups.now c.open_below.new.lookups bad.3)

pub returns-in_err-open_below-clause-unchanged : goal.returns-in_err-open_below-clause-unchanged
returns-in_err-open_below-clause-unchanged g c =
    if_err_weaken c.from_residual-in_err-open_below.result _ _ c.from_residual-in_err-open_below.ensures.1 (λ error is name.
    absurd (no_name_error_of_opening c.in_err-open_below.field-0.0 (subst IsNameError is name)))

pub returns-in_err-path-clause-after_error : goal.returns-in_err-path-clause-after_error
returns-in_err-path-clause-after_error g c =
    if_err_weaken c.from_residual-in_err-path.result _ _ c.from_residual-in_err-path.ensures.1 (λ error is trees fits.
    let before = names_of c.args.prefix.now in
    let path = names_of c.args.path.now in
    let entire = from_root before path in
    let ends = ends_of_names path c.requires.has_names in
    let entire_is : entire ≡ (before ++ names_of c.above-directory.result.now) ++ ends.1 ∷ [] =
    from_root_snoc before path (names_of c.above-directory.result.now) ends.1
    (ends.2 ∙ ap (λ (p : Path). p ++ ends.1 ∷ []) (sym (c.above-directory.ensures ∙ ends.3))) in
    let ok = (c.in_ok-open_below.ensures {u = tt}).opened trees fits in
    let opens : Opens IsNoTree trees (directory_of entire) (dirs_of c.args.root.now) (dirs_of c.open_below.new.node) ok.0 =
    subst (λ (p : Path). Opens IsNoTree trees p (dirs_of c.args.root.now) (dirs_of c.open_below.new.node) ok.0)
    (sym (ap directory_of entire_is ∙ directory_of_snoc (before ++ names_of c.above-directory.result.now) ends.1)) ok.1 in (
      opened_above_in_part (g.S.Store.objects c.args.store.now) (g.S.Store.may_fail c.args.store.now) trees entire
          (from_root_filled before path c.requires.has_names) (dirs_of c.args.root.now) (dirs_of c.open_below.new.node) ok.0 opens c.args.lookups.now
          c.open_below.new.lookups ok.2 error (subst (λ (e : Error). ¬ IsLookupError e) (sym is) (λ it. it)),
      inr (is, c.requires.has_names),
    ))

pub returns-in_err-path-clause-lookups : goal.returns-in_err-path-clause-lookups
returns-in_err-path-clause-lookups g c =
    if_err_weaken c.from_residual-in_err-path.result _ _ c.from_residual-in_err-path.ensures.1 (λ error is trees fits memory.
    let before = names_of c.args.prefix.now in
    let path = names_of c.args.path.now in
    let entire = from_root before path in
    let ends = ends_of_names path c.requires.has_names in
    let entire_is : entire ≡ (before ++ names_of c.above-directory.result.now) ++ ends.1 ∷ [] =
    from_root_snoc before path (names_of c.above-directory.result.now) ends.1
    (ends.2 ∙ ap (λ (p : Path). p ++ ends.1 ∷ []) (sym (c.above-directory.ensures ∙ ends.3))) in
    let ok = (c.in_ok-open_below.ensures {u = tt}).opened trees fits in
    let opens : Opens IsNoTree trees (directory_of entire) (dirs_of c.args.root.now) (dirs_of c.open_below.new.node) ok.0 =
    subst (λ (p : Path). Opens IsNoTree trees p (dirs_of c.args.root.now) (dirs_of c.open_below.new.node) ok.0)
    (sym (ap directory_of entire_is ∙ directory_of_snoc (before ++ names_of c.above-directory.result.now) ends.1)) ok.1 in
    opened_above_counts trees entire (dirs_of c.args.root.now) (dirs_of c.open_below.new.node) ok.0 opens c.args.lookups.now c.open_below.new.lookups ok.2)

pub returns-in_err-path-clause-unchanged : goal.returns-in_err-path-clause-unchanged
returns-in_err-path-clause-unchanged g c =
    if_err_weaken c.from_residual-in_err-path.result _ _ c.from_residual-in_err-path.ensures.1 (λ error is name.
    absurd (no_name_error_of_memory error is name))

pub returns-clause-names : goal.returns-clause-names
returns-clause-names g c = are_names_from_root (names_of c.args.prefix.now) (names_of c.args.path.now) c.requires.names
    (c.in_ok-validate_names.ensures {u = tt}).accepted

pub returns-clause-opened : goal.returns-clause-opened
returns-clause-opened g c = λ trees fits.
    let before = names_of c.args.prefix.now in
    let path = names_of c.args.path.now in
    let ends = ends_of_names path c.requires.has_names in
    let entire_is : from_root before path ≡ (before ++ names_of c.above-directory.result.now) ++ ends.1 ∷ [] =
    from_root_snoc before path (names_of c.above-directory.result.now) ends.1
    (ends.2 ∙ ap (λ (p : Path). p ++ ends.1 ∷ []) (sym (c.above-directory.ensures ∙ ends.3))) in
    let ok = (c.in_ok-open_below.ensures {u = tt}).opened trees fits in (
      ok.0,
      subst (λ (p : Path). Opens IsNoTree trees p (dirs_of c.args.root.now) (dirs_of c.open_below.new.node) ok.0)
          (sym (ap directory_of entire_is ∙ directory_of_snoc (before ++ names_of c.above-directory.result.now) ends.1)) ok.1,
      ok.2,
    )
