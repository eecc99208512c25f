use Rattle.gixobj_editor.proofs.Agreeing.{table_of_run_exists}
use Rattle.gixobj_editor.proofs.laws.consistent_run_has_table.Goals as goal

pub returns : goal.returns
returns g c = table_of_run_exists c.args.replies.now
