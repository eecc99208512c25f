use Rattle.gixobj_walks_marks.proofs.Marked.{if_ok_then}
use Rattle.gixobj_walks_marks.proofs.SharedMarks.{selected_answer}
use Rattle.gixobj_walks_marks.proofs.bases.selected.Goals as goal

pub returns-clause-length : goal.returns-clause-length
returns-clause-length c = if_ok_then c.chosen_marks.result (λ chosen marks. marks.length_is) c.chosen_marks.ensures.marks

pub returns-clause-selected : goal.returns-clause-selected
returns-clause-selected c = if_ok_then c.chosen_marks.result
    (λ chosen marks. selected_answer c.args.left.now c.args.right.now chosen.items marks) c.chosen_marks.ensures.marks
