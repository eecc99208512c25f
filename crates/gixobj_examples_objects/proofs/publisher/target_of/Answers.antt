use Rattle.std.proofs.Common.{sym, ◌∙◌}
use Rattle.gixobj_examples_objects.proofs.Errors.{some_of_ok, err_ne_ok}
use Rattle.gixobj_examples_objects.proofs.publisher.target_of.Goals as goal

pub returns-in-Ok : goal.returns-in-Ok
returns-in-Ok c = λ tag is.
    let it = c.tag_part_search_complete.ensures.target c.args.kind c.args.bytes.now tag c.from_bytes.result c.target_id.result is c.from_bytes.ensures
    c.target_id.ensures.found in
    (it.0, some_of_ok c.in-Ok.id it.0 (sym c.in-Ok.is ∙ it.1), it.2)

pub returns-in-Err : goal.returns-in-Err
returns-in-Err c = λ tag is.
    let it = c.tag_part_search_complete.ensures.target c.args.kind c.args.bytes.now tag c.from_bytes.result c.target_id.result is c.from_bytes.ensures
    c.target_id.ensures.found in
    absurd (err_ne_ok c.in-Err.field-0 it.0 (sym c.in-Err.is ∙ it.1))
