use Rattle.std.proofs.Common.{◌≢◌, ◌∙◌, ◌≤◌, ◌++◌, Some, length, sym, ap, arith, subst}
use Rattle.std.specs.Prelude.{slice_get}
use Rattle.std.proofs.lemmas.Option.{slice_get_within}
use Rattle.gixobj_editor_files.specs.WrittenTrees.{SharesBase, with_id}
use Rattle.gixobj_editor_files.proofs.WrittenTrees.{prefix_differs_ne, take_succ_snoc}
use Rattle.gixobj_editor_files.proofs.written_tree.WrittenTree.push.Goals as goal

pub returns-then-goes_on-clause-entries : goal.returns-then-goes_on-clause-entries
returns-then-goes_on-clause-entries c =
    rw c.in-Prefix.is (take_succ_snoc c.args.base.now c.in-Prefix.same (with_id c.args.entry.now c.args.id) (c.goes_on.ensures.0 c.if-goes_on.true))

pub returns-then-goes_on-clause-shares_base : goal.returns-then-goes_on-clause-shares_base
returns-then-goes_on-clause-shares_base c =
    omega (arith, slice_get_within c.args.base.now c.in-Prefix.same (with_id c.args.entry.now c.args.id) (c.goes_on.ensures.0 c.if-goes_on.true))

pub returns-in_ok-list-in-Prefix-clause-shares_base : goal.returns-in_ok-list-in-Prefix-clause-shares_base
returns-in_ok-list-in-Prefix-clause-shares_base c = λ rest is.
    let base = c.args.base.now in
    let same = c.in-Prefix.same in
    let this = with_id c.args.entry.now c.args.id in
    let low : same ≤ length base = subst (SharesBase base) c.in-Prefix.is c.requires in
    let other : slice_get base same ≢ Some this = λ next. let so = c.goes_on.ensures.1 next in let not_so = c.if-goes_on.false in absurd (cc (so, not_so)) in
    prefix_differs_ne base same this low other rest (ap (λ list. list ++ rest) (sym c.in_ok-list-in-Prefix.ensures) ∙ is)
