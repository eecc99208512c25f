-- The trees are those of the command's writes.
use Rattle.std.proofs.Common.{◌∙◌, All, List, ap, subst, sym}
use Rattle.std.specs.List.{flat_map}
use Rattle.std.specs.Prelude.{OnOk}
use Rattle.gixobj_c_edit.proofs.frames.append_reply.Goals as goal
use Rattle.gixobj_c_edit.specs.Lossy.{IsLossless}
use Rattle.gixobj_editor.specs.Commands.{pairs_of, pairs_of_edit}
use Rattle.gixobj_tree_entries.specs.Entries.{Pair}

pub returns-in-Edit-clause-lossless : goal.returns-in-Edit-clause-lossless
returns-in-Edit-clause-lossless c =
    subst (λ (them : List Pair). OnOk c.append_written.result (All (λ (pair : Pair). IsLossless c.args.hash pair.1) them))
    (sym (ap pairs_of c.in-Edit.is)) c.append_written.ensures.lossless

pub returns-in-At-clause-lossless : goal.returns-in-At-clause-lossless
returns-in-At-clause-lossless c =
    subst (λ (them : List Pair). OnOk c.append_each.result (All (λ (pair : Pair). IsLossless c.args.hash pair.1) them))
    (ap (flat_map pairs_of_edit) c.deref.ensures.value ∙ sym (ap pairs_of c.in-At.is)) c.append_each.ensures.lossless
