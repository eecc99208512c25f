-- The closure returns digests only.
use Rattle.std.proofs.Common.{List, subst}
use Rattle.gixobj_c_edit.proofs.Emitted.{has_run_of_answers}
use Rattle.gixobj_c_edit.proofs.edits.replies_of.Goals as goal
use Rattle.gixobj_tree_entries.specs.Entries.{EntryView}
use Rattle.gixobj_tree.specs.TreeEncoding.{IsDigestResult}

pub returns-in-Ok-clause-ran : goal.returns-in-Ok-clause-ran
returns-in-Ok-clause-ran c = has_run_of_answers _ _ c.args.hash c.args.editor c.run.new.editor c.args.commands.items c.in-Ok.replies.items
    (λ tree answer said. subst (λ (t : List EntryView). IsDigestResult c.args.hash t answer) said.shows said.says.met) c.in-Ok.ensures.replies
