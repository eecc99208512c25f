-- Each path has names, so bytes with the keyword of a removal and a path are an edit.
use Rattle.std.proofs.Common.{rules}
use Rattle.std.proofs.lemmas.Slice.Eq.{text_from_reads}
use Rattle.gixobj_editor_commands.proofs.EncodedLines.{has_edit_of_leaf_removal, has_edit_of_removal}
use Rattle.gixobj_editor_commands.proofs.line.parse_edit.Goals as goal

pub returns-in_err-path-clause-error : goal.returns-in_err-path-clause-error
returns-in_err-path-clause-error c =
    let has = has_edit_of_removal c.args.hash c.args.bytes.now c.in-Some-after_name.path.now c.in-Some-after_name.ensures.found in
    search rules

pub returns-in_err-path-2-clause-error : goal.returns-in_err-path-2-clause-error
returns-in_err-path-2-clause-error c =
    let has = has_edit_of_leaf_removal c.args.hash c.args.bytes.now c.in-Some-after_name-2.path.now c.in-Some-after_name-2.ensures.found in
    search rules

pub returns-in-write-clause-found : goal.returns-in-write-clause-found
returns-in-write-clause-found c = search (rules, text_from_reads)
