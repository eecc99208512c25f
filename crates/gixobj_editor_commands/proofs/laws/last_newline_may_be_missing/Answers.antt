use Rattle.gixobj_editor_commands.proofs.ScriptUniqueness as law
use Rattle.gixobj_editor_commands.proofs.laws.last_newline_may_be_missing.Goals as goal

pub returns : goal.returns
returns c = law.is_script_iff_with_newline
