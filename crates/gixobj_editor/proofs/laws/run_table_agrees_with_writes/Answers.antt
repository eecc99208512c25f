use Rattle.gixobj_editor.proofs.Named.{agrees_with_run_prefix, agrees_with_written_pairs}
use Rattle.gixobj_editor.proofs.laws.run_table_agrees_with_writes.Goals as goal

pub returns : goal.returns
returns g c = λ T objects k written agrees is.
    (agrees_with_run_prefix T objects k c.args.replies.now agrees, agrees_with_written_pairs T c.args.replies.now agrees.writes k written is)
