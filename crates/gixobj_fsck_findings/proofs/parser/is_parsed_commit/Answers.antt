use Rattle.std.proofs.Common.{length, sym, ◌∙◌}
use Rattle.std.proofs.lemmas.Bool.{eqb-false}
use Rattle.gixobj_fsck_findings.proofs.Parsed.{commit_rest, filled_of_length}
use Rattle.gixobj_fsck_findings.proofs.parser.is_parsed_commit.Goals as goal

pub returns : goal.returns
returns c =
    let some = eqb-false (length c.in-Some.rest.now) 0 (sym c.is_empty.ensures ∙ c.if-is_empty.false) in (
      λ holds. record {
        hex = _;
        rest = c.in-Some.rest.now;
        tree = c.in-Some.ensures.found;
        filled = filled_of_length c.in-Some.rest.now some;
        parents = c.are_parsed_parents.ensures.0 holds;
      },
      λ parsed. c.are_parsed_parents.ensures.1 (commit_rest c.args.kind c.args.commit.now _ c.in-Some.rest.now parsed c.in-Some.ensures.found).1,
    )
