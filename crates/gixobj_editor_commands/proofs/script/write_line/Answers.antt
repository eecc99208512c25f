-- The command of the line is appended.
use Rattle.std.proofs.Common.{◌≢◌, ap, map, rules, [], ◌∙◌}
use Rattle.std.proofs.lemmas.List.{map-append}
use Rattle.gixobj_editor_commands.specs.Views.{command_view}
use Rattle.gixobj_editor_commands.proofs.ScriptDecoding.{appends_line_of_command}
use Rattle.gixobj_editor_commands.specs.Lines.{DecodesToCommand}
use Rattle.gixobj_editor_commands.proofs.script.write_line.Goals as goal

pub returns-in_ok-push-in-Some-clause-appended : goal.returns-in_ok-push-in-Some-clause-appended
returns-in_ok-push-in-Some-clause-appended c =
    let command = c.in-Some.command in
    let some : c.args.line.now ≢ [] = search rules in
    let is : DecodesToCommand c.args.hash c.args.line.now (command_view command) = search rules in
    appends_line_of_command c.args.hash c.args.line.now (command_view command) (map command_view c.args.commands.now.items)
    (map command_view c.push.new.self.items) some is
    (ap (map command_view) c.in_ok-push-in-Some.ensures.items ∙ map-append command_view c.args.commands.now.items _)
