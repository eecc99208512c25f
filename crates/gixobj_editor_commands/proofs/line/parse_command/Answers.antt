-- An edit is a command.
use Rattle.std.proofs.Common.{rules}
use Rattle.gixobj_editor_commands.proofs.EncodedLines.{has_command_of_edit}
use Rattle.gixobj_editor_commands.proofs.line.parse_command.Goals as goal

pub returns-in_err-edit-clause-error : goal.returns-in_err-edit-clause-error
returns-in_err-edit-clause-error c =
    let has = has_command_of_edit c.args.hash c.args.line.now c.in_err-edit.ensures.error in
    search rules
