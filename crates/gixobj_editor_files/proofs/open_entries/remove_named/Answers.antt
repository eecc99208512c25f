use Rattle.std.proofs.Common.{◌∙◌, true, ap, length, arith}
use Rattle.gixobj_tree_entries.specs.KeyOrder.{entry_key, key_of}
use Rattle.gixobj_editor_entries.specs.Pieces.{without_key}
use Rattle.gixobj_editor_files.proofs.EitherKind.{without_of_file, without_slashed}
use Rattle.gixobj_editor_files.proofs.WithEntry.{without_eq}
use Rattle.gixobj_editor_files.proofs.open_entries.remove_named.Goals as goal

pub returns-then-has_byte-clause-removed : goal.returns-then-has_byte-clause-removed
returns-then-has_byte-clause-removed c = without_slashed _ c.requires.well_formed c.args.name.now (c.if-has_byte.ensures {u = tt})

pub remove-requires : goal.remove-requires
remove-requires c = record { ascending = c.requires.well_formed.ascending; non_empty = c.requires.non_empty }

pub returns-then-remove-clause-removed : goal.returns-then-remove-clause-removed
returns-then-remove-clause-removed c = c.remove.ensures.removed ∙ without_of_file c.args.name.now (c.if-has_byte.ensures {u = tt}) _ c.requires.well_formed
    (omega (arith, c.if-remove.ensures.len, ap length c.remove.ensures.removed))

pub returns-clause-removed : goal.returns-clause-removed
returns-clause-removed c = c.remove-2.ensures.removed ∙ ap (without_key entry_key (key_of c.args.name.now true)) c.remove.ensures.removed
    ∙ without_eq c.args.name.now (c.if-has_byte.ensures {u = tt}) _ c.requires.well_formed
