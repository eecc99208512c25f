-- The trees are those of the write.
use Rattle.std.proofs.Common.{◌≡◌, ◌∙◌, ⊎_elim, All, List, ap, subst, sym}
use Rattle.std.specs.Prelude.{OnOk}
use Rattle.gixobj_c_edit.proofs.frames.append_written.Goals as goal
use Rattle.gixobj_c_edit.specs.Lossy.{IsLossless}
use Rattle.gixobj_editor.specs.Commands.{pairs_of_edit}
use Rattle.gixobj_tree_entries.specs.Entries.{Pair}

pub returns-in-Written-clause-lossless : goal.returns-in-Written-clause-lossless
returns-in-Written-clause-lossless c =
    let same : pairs_of_edit c.args.reply.now ≡ c.in-Written.written.trees.items =
    ⊎_elim (λ is. ap pairs_of_edit is) (λ kept. ap pairs_of_edit kept.2) c.in-Written.is in
    subst (λ (them : List Pair). OnOk c.append_trees.result (All (λ (pair : Pair). IsLossless c.args.hash pair.1) them))
    (c.deref.ensures.value ∙ sym same) c.append_trees.ensures.lossless
