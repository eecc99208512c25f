use Rattle.std.proofs.Common.{length, refl, sym, ◌∙◌}
use Rattle.std.proofs.lemmas.Bool.{eqb-false, eqb-true, false≢true}
use Rattle.gixobj_fsck_findings.specs.Parser.{next_parent}
use Rattle.gixobj_fsck_findings.proofs.Parsed.{empty_of_length, filled_of_length, parents_end, parsed_rest}
use Rattle.gixobj_fsck_findings.proofs.parser.are_parsed_parents.Goals as goal

pub returns-then-is_empty : goal.returns-then-is_empty
returns-then-is_empty c =
    let begins = c.loop-rest-test.ensures.0 refl in (
      λ holds. absurd (false≢true holds),
      λ parsed. absurd ((parsed_rest c.args.kind c.loop-rest.rest.now _ c.in-Some.after.now (c.loop-rest.invariant.1 parsed) begins.0 begins.1
          c.in-Some.ensures.found).0
          (empty_of_length c.in-Some.after.now (eqb-true (length c.in-Some.after.now) 0 (sym c.is_empty.ensures ∙ c.if-is_empty.true)))),
    )

pub loop-rest-preserved : goal.loop-rest-preserved
loop-rest-preserved c =
    let begins = c.loop-rest-test.ensures.0 refl in
    let some = eqb-false (length c.in-Some.after.now) 0 (sym c.is_empty.ensures ∙ c.if-is_empty.false) in (
      λ parsed. c.loop-rest.invariant.0 (next_parent _ _ _ c.in-Some.ensures.found (filled_of_length c.in-Some.after.now some) parsed),
      λ parsed. (parsed_rest c.args.kind c.loop-rest.rest.now _ c.in-Some.after.now (c.loop-rest.invariant.1 parsed) begins.0 begins.1
          c.in-Some.ensures.found).1,
    )

pub returns : goal.returns
returns c = (
  λ holds. c.loop-rest.invariant.0 (parents_end c.args.kind c.loop-rest.rest.now (λ both. false≢true (c.loop-rest-test.ensures.1 both))),
  λ parsed. refl,
)
