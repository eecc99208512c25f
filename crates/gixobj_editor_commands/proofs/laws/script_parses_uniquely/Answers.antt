use Rattle.gixobj_editor_commands.proofs.EncodedLines as lines
use Rattle.gixobj_editor_commands.proofs.ScriptUniqueness as law
use Rattle.gixobj_editor_commands.proofs.laws.script_parses_uniquely.Goals as goal

pub returns-clause-one_command : goal.returns-clause-one_command
returns-clause-one_command c = lines.command_unique

pub returns-clause-one_script : goal.returns-clause-one_script
returns-clause-one_script c = law.script_unique
