-- The rest after the prefix is an edit, or the line is no command.
use Rattle.std.proofs.Common.{rules}
use Rattle.gixobj_editor_commands.proofs.EncodedLines.{has_command_of_edit_at, no_command_without_edit}
use Rattle.gixobj_editor_commands.specs.Lines.{HasEdit}
use Rattle.gixobj_editor_commands.proofs.line.parse_edit_at.Goals as goal

pub returns-in_err-edit-clause-error : goal.returns-in_err-edit-clause-error
returns-in_err-edit-clause-error c =
    let has = has_command_of_edit_at c.args.hash c.args.bytes.now c.in-Some.prefix.now c.in-Some.rest.now c.in-Some.ensures.found c.in_err-edit.ensures.error in
    search rules

pub returns-in_default-2-clause-found : goal.returns-in_default-2-clause-found
returns-in_default-2-clause-found c = no_command_without_edit c.args.hash c.args.bytes.now c.in-Some.prefix.now c.in-Some.rest.now c.in-Some.ensures.found
    (search rules)

pub returns-in_err-prefix-clause-error : goal.returns-in_err-prefix-clause-error
returns-in_err-prefix-clause-error c =
    let edit : HasEdit c.args.hash c.in-Some.rest.now = search rules in
    let has = has_command_of_edit_at c.args.hash c.args.bytes.now c.in-Some.prefix.now c.in-Some.rest.now c.in-Some.ensures.found edit in
    search rules

pub returns-in_err-push-clause-error : goal.returns-in_err-push-clause-error
returns-in_err-push-clause-error c =
    let edit : HasEdit c.args.hash c.in-Some.rest.now = search rules in
    let has = has_command_of_edit_at c.args.hash c.args.bytes.now c.in-Some.prefix.now c.in-Some.rest.now c.in-Some.ensures.found edit in
    search rules
