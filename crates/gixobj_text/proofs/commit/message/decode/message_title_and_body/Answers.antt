use Rattle.std.proofs.Common.{None, rules, ◌∷◌, ◌≡◌}
use Rattle.bstr.specs.BStr.{bstr_bytes}
use Rattle.gixobj_text.specs.LineBreaks.{after_two_breaks}
use Rattle.gixobj_text.proofs.SplitTitles.{splits_title_of_unsplit, is_split_at_breaks, nil_of_is_empty, splits_title_of_option}
use Rattle.gixobj_text.proofs.BreakSkips.{is_unsplit_at_next}
use Rattle.gixobj_text.proofs.commit.message.decode.message_title_and_body.Goals as goal

pub returns-in-Some-skip_two_breaks : goal.returns-in-Some-skip_two_breaks
returns-in-Some-skip_two_breaks c =
    splits_title_of_option c.args.message.now (bstr_bytes c.new.result) c.in-Some-skip_two_breaks.body.now c.some_body.result
    (is_split_at_breaks c.args.message.now c.positions.rest.now c.in-Some-skip_two_breaks.body.now
    (bstr_bytes c.new.result) c.positions.invariant c.in-Some-skip_two_breaks.ensures c.new.ensures) c.some_body.ensures

pub returns : goal.returns
returns c = splits_title_of_unsplit c.args.message.now c.positions.rest.now (bstr_bytes c.new-2.result) c.positions.invariant
    (nil_of_is_empty c.positions.rest.now c.in_default.ensures.cases) c.new-2.ensures

pub positions-preserved : goal.positions-preserved
positions-preserved c =
    let is : c.positions.rest.now ≡ c.in-Some.field-0-0.now ∷ c.in-Some.after.now = search rules in
    let none : None ≡ after_two_breaks c.positions.rest.now = search rules in
    is_unsplit_at_next c.args.message.now c.positions.rest.now c.in-Some.field-0-0.now c.in-Some.after.now c.from_break-rest-in-Some.result.now
    c.positions.invariant is none
    c.from_break-rest-in-Some.ensures.value
