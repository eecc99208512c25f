use Rattle.std.proofs.Common.{◌∷◌, [], Bool, List, subst, sym}
use Rattle.gixobj_walks_marks.specs.Marks.{HasMarks}
use Rattle.gixobj_walks_known.proofs.Candidates.{bases_of_candidates}
use Rattle.gixobj_walks_known.proofs.bases.merge_bases.Goals as goal

pub returns-clause-bases : goal.returns-clause-bases
returns-clause-bases c = bases_of_candidates c.args.nodes.now c.args.one c.args.other c.deref.result.now c.deref-2.result.now
    (subst (λ (it : List Bool). HasMarks c.args.nodes.now (c.args.one ∷ []) it) (sym c.deref.ensures.value) c.in_ok-left.ensures.marks)
    (subst (λ (it : List Bool). HasMarks c.args.nodes.now (c.args.other ∷ []) it) (sym c.deref-2.ensures.value) c.in_ok-right.ensures.marks)
    c.candidates.result c.candidates.ensures.exact c.candidates.ensures.ascending
