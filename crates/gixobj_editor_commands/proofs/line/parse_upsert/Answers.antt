-- The rest after the keyword is an entry, or the bytes are no edit.
use Rattle.std.proofs.Common.{rules}
use Rattle.gixobj_editor_commands.proofs.EncodedLines.{has_edit_of_upsert, has_no_edit_of_upsert}
use Rattle.gixobj_editor_commands.proofs.line.parse_upsert.Goals as goal

pub returns-in_default-clause-found : goal.returns-in_default-clause-found
returns-in_default-clause-found c = has_no_edit_of_upsert c.args.hash c.args.entry.now c.in_default.ensures.none

pub returns-in_err-path-clause-error : goal.returns-in_err-path-clause-error
returns-in_err-path-clause-error c =
    let has = has_edit_of_upsert c.args.hash c.args.entry.now c.in-Some.kind c.in-Some.id c.in-Some.path.now c.in-Some.ensures.found in
    search rules
