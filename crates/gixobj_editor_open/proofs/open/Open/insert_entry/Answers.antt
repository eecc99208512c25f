use Rattle.std.proofs.Common.{◌<◌, length, subst, arith}
use Rattle.std.specs.List.{AllByRecursion}
use Rattle.std.proofs.lemmas.Result.{MatchResult-weaker}
use Rattle.gixobj_tree.specs.WellFormed.{IsEntryName}
use Rattle.gixobj_tree_entries.specs.Mode.{mode_bits}
use Rattle.gixobj_editor_files.specs.Bases.{base_edited}
use Rattle.gixobj_editor_open.specs.Paths.{names_of}
use Rattle.gixobj_editor_open.proofs.BaseSteps.{editing}
use Rattle.gixobj_editor_open.proofs.Descents.{ascent_unchanged, bases_of_ascent, upserted_of_ascent, names_of_parts, non_empty_of_len}
use Rattle.gixobj_editor_open.proofs.NewDirectories.{all_of_rest}
use Rattle.gixobj_editor_open.proofs.open.Open.insert_entry.Goals as goal

pub insert_recursively-inserted-requires : goal.insert_recursively-inserted-requires
insert_recursively-inserted-requires c =
    let descent = c.descend-descent.result in
    all_of_rest IsEntryName (names_of descent.consumed.now) (names_of descent.rest.now)
    (subst (AllByRecursion IsEntryName) (names_of_parts c.args.path.now descent.consumed.now descent.rest.now c.descend-descent.ensures.path) c.requires)

pub ascend-requires : goal.ascend-requires
ascend-requires c = c.descend-descent.ensures.descended.are_above

pub returns-clause-dirs : goal.returns-clause-dirs
returns-clause-dirs c = MatchResult-weaker c.insert_recursively-inserted.result c.insert_recursively-inserted.ensures.dirs (λ _ ok.
    let descent = c.descend-descent.result in
    let long : 0 < length c.args.path.now = omega arith in
    upserted_of_ascent c.args.path.now descent.consumed.now descent.rest.now c.descend-descent.ensures.path c.ascend.new.self
    c.insert_recursively-inserted.new.self c.descend-descent.ensures.descended c.ascend.ensures (mode_bits c.args.mode) c.args.id c.args.null
    (c.descend-descent.ensures.rest (non_empty_of_len c.args.path.now long)) ok) (λ _ u. u)

pub returns-clause-bases : goal.returns-clause-bases
returns-clause-bases c = MatchResult-weaker c.insert_recursively-inserted.result c.insert_recursively-inserted.ensures.bases (λ _ bases.
    let descent = c.descend-descent.result in
    bases_of_ascent c.args.path.now descent.consumed.now descent.rest.now c.descend-descent.ensures.path c.ascend.new.self
    c.insert_recursively-inserted.new.self c.descend-descent.ensures.descended c.ascend.ensures
    base_edited editing bases) (λ _ u. u)

pub returns-clause-unchanged : goal.returns-clause-unchanged
returns-clause-unchanged c = MatchResult-weaker c.insert_recursively-inserted.result c.insert_recursively-inserted.ensures.unchanged (λ _ u. u)
    (λ _ same. ascent_unchanged c.descend-descent.ensures.descended c.ascend.new.self c.insert_recursively-inserted.new.self c.ascend.ensures same)
