use Rattle.gixobj_editor_commands.proofs.ScriptUniqueness as law
use Rattle.gixobj_editor_commands.proofs.laws.script_has_no_bad_line.Goals as goal

pub returns-clause-one_bad_line : goal.returns-clause-one_bad_line
returns-clause-one_bad_line c = law.malformed_line_unique

pub returns-clause-no_bad_line : goal.returns-clause-no_bad_line
returns-clause-no_bad_line c = law.no_malformed_line_of_script
