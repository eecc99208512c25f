use Rattle.std.proofs.Common.{◌∙◌, arith, ap, length}
use Rattle.gixobj_walks_marks.proofs.Marked.{if_ok_then, on_err_then}
use Rattle.gixobj_walks_marks.proofs.SharedMarks.{candidates_answer, listed_candidates}
use Rattle.gixobj_walks_marks.proofs.bases.candidates.Goals as goal

pub returns-clause-exact : goal.returns-clause-exact
returns-clause-exact c = if_ok_then c.list_chosen.result
    (λ found lists. candidates_answer c.args.nodes.now c.args.left.now c.args.right.now found.items c.requires.left
    (listed_candidates c.args.nodes.now c.args.left.now c.args.right.now c.in_ok-shared.shared.items
    c.in_ok-blocked.blocked.items c.mark_parents_of_all.new.marked.items c.deref.result.now
    c.deref-2.result.now c.deref-3.result.now found.items c.requires.left c.in_ok-shared.ensures.marks
    c.in_ok-blocked.ensures.none c.mark_parents_of_all.ensures c.deref.ensures.value c.deref-2.ensures.value
    c.deref-3.ensures.value lists))
    c.list_chosen.ensures.listed

pub returns-clause-ascending : goal.returns-clause-ascending
returns-clause-ascending c = if_ok_then c.list_chosen.result (λ found lists. lists.ascending) c.list_chosen.ensures.listed

pub returns-clause-listed : goal.returns-clause-listed
returns-clause-listed c = if_ok_then c.list_chosen.result
    (λ found. listed_candidates c.args.nodes.now c.args.left.now c.args.right.now c.in_ok-shared.shared.items
    c.in_ok-blocked.blocked.items c.mark_parents_of_all.new.marked.items c.deref.result.now c.deref-2.result.now
    c.deref-3.result.now found.items c.requires.left c.in_ok-shared.ensures.marks c.in_ok-blocked.ensures.none
    c.mark_parents_of_all.ensures c.deref.ensures.value c.deref-2.ensures.value c.deref-3.ensures.value)
    c.list_chosen.ensures.listed

pub mark_parents_of_all-requires-clause-marked : goal.mark_parents_of_all-requires-clause-marked
mark_parents_of_all-requires-clause-marked c = omega (arith, c.in_ok-blocked.ensures.length)

pub mark_parents_of_all-requires-clause-side : goal.mark_parents_of_all-requires-clause-side
mark_parents_of_all-requires-clause-side c =
    ap length c.deref.ensures.value ∙ c.in_ok-shared.ensures.marks.length_is ∙ c.requires.left

pub list_chosen-requires : goal.list_chosen-requires
list_chosen-requires c = omega (
  arith,
  ap length c.deref-2.ensures.value,
  ap length c.deref-3.ensures.value,
  c.in_ok-shared.ensures.marks.length_is,
  c.mark_parents_of_all.ensures.length_is,
  c.in_ok-blocked.ensures.length,
  c.requires.left,
)

pub returns-clause-allocates : goal.returns-clause-allocates
returns-clause-allocates c = on_err_then c.list_chosen.result
    (λ some. omega (arith, some, ap length c.deref-2.ensures.value, c.in_ok-shared.ensures.marks.length_is, c.requires.left))
    c.list_chosen.ensures.allocates
