use Rattle.std.proofs.Common.{◌<◌, length, arith}
use Rattle.gixobj_editor_files.specs.Bases.{base_edited}
use Rattle.gixobj_editor_open.proofs.BaseSteps.{editing}
use Rattle.gixobj_editor_open.proofs.Descents.{bases_of_ascent, non_empty_of_len, removed_of_ascent}
use Rattle.gixobj_editor_open.proofs.open.Open.take.Goals as goal

pub ascend-requires : goal.ascend-requires
ascend-requires c = c.descend-descent.ensures.descended.are_above

pub returns-clause-dirs : goal.returns-clause-dirs
returns-clause-dirs c =
    let descent = c.descend-descent.result in
    let long : 0 < length c.args.path.now = omega arith in
    removed_of_ascent c.args.path.now descent.consumed.now descent.rest.now c.descend-descent.ensures.path c.ascend.new.self c.take_recursively-2.new.self
    c.descend-descent.ensures.descended c.ascend.ensures (c.descend-descent.ensures.rest (non_empty_of_len c.args.path.now long))
    c.take_recursively-2.ensures.dirs

pub returns-clause-bases : goal.returns-clause-bases
returns-clause-bases c =
    let descent = c.descend-descent.result in
    bases_of_ascent c.args.path.now descent.consumed.now descent.rest.now c.descend-descent.ensures.path c.ascend.new.self c.take_recursively-2.new.self
    c.descend-descent.ensures.descended c.ascend.ensures base_edited editing c.take_recursively-2.ensures.bases
