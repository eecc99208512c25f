use Rattle.std.proofs.Common.{◌∙◌, sym, subst}
use Rattle.std.specs.List.{AllByRecursion}
use Rattle.std.proofs.lemmas.Result.{MatchResult-weaker}
use Rattle.gixobj_tree.specs.WellFormed.{IsEntryName}
use Rattle.gixobj_editor_files.specs.Bases.{base_edited}
use Rattle.gixobj_editor_open.specs.Paths.{names_of}
use Rattle.gixobj_editor_open.proofs.BaseSteps.{editing}
use Rattle.gixobj_editor_open.proofs.Descents.{ascent_unchanged, bases_of_ascent, ensured_of_ascent, names_of_parts, dirs_of_descent}
use Rattle.gixobj_editor_open.proofs.NewDirectories.{all_of_rest}
use Rattle.gixobj_editor_open.proofs.open.Open.ensure_directory.Goals as goal

pub ensure_recursively-ensured-requires : goal.ensure_recursively-ensured-requires
ensure_recursively-ensured-requires c =
    let descent = c.descend-descent.result in
    all_of_rest IsEntryName (names_of descent.consumed.now) (names_of descent.rest.now)
    (subst (AllByRecursion IsEntryName) (names_of_parts c.args.path.now descent.consumed.now descent.rest.now c.descend-descent.ensures.path) c.requires)

pub ascend-requires : goal.ascend-requires
ascend-requires c = c.descend-descent.ensures.descended.are_above

pub returns-clause-dirs : goal.returns-clause-dirs
returns-clause-dirs c = MatchResult-weaker c.ensure_recursively-ensured.result c.ensure_recursively-ensured.ensures.dirs (λ _ ok.
    let descent = c.descend-descent.result in
    ensured_of_ascent c.args.path.now descent.consumed.now descent.rest.now c.descend-descent.ensures.path c.ascend.new.self
    c.ensure_recursively-ensured.new.self c.descend-descent.ensures.descended c.ascend.ensures c.args.null ok) (λ _ u. u)

pub returns-clause-bases : goal.returns-clause-bases
returns-clause-bases c = MatchResult-weaker c.ensure_recursively-ensured.result c.ensure_recursively-ensured.ensures.bases (λ _ bases.
    let descent = c.descend-descent.result in
    bases_of_ascent c.args.path.now descent.consumed.now descent.rest.now c.descend-descent.ensures.path c.ascend.new.self
    c.ensure_recursively-ensured.new.self c.descend-descent.ensures.descended c.ascend.ensures
    base_edited editing bases) (λ _ u. u)

pub returns-clause-unchanged : goal.returns-clause-unchanged
returns-clause-unchanged c = MatchResult-weaker c.ensure_recursively-ensured.result c.ensure_recursively-ensured.ensures.unchanged (λ _ u. u)
    (λ _ same. ascent_unchanged c.descend-descent.ensures.descended c.ascend.new.self c.ensure_recursively-ensured.new.self c.ascend.ensures same)

pub returns-clause-unopened : goal.returns-clause-unopened
returns-clause-unopened c = MatchResult-weaker c.ensure_recursively-ensured.result c.ensure_recursively-ensured.ensures.unopened (λ _ u. u) (λ _ closed.
    let descent = c.descend-descent.result in
    sym (dirs_of_descent c.args.path.now descent.consumed.now descent.rest.now c.descend-descent.ensures.path
    c.descend-descent.ensures.descended) ∙ closed)
