use Rattle.std.proofs.lemmas.Result.{err_from_is_err_and}
use Rattle.gixobj_parse.proofs.HeaderFields.{folded_value_has_newline, has_header_of_one_line, no_header_without_space, no_header_of_empty_name}
use Rattle.gixobj_parse.proofs.HeaderFields.{no_header_without_newline, header_error_of_lines}
use Rattle.gixobj_parse.proofs.parse.any_header_field.Goals as goal

pub returns-in_default-clause-error : goal.returns-in_default-clause-error
returns-in_default-clause-error c = no_header_without_space c.args.input.now c.in_default.ensures.none

pub returns-then-not-is_header_name-clause-error :
    goal.returns-then-not-is_header_name-clause-error
returns-then-not-is_header_name-clause-error c = no_header_of_empty_name c.args.input.now c.in-Some.name.now c.in-Some.following.now c.in-Some.ensures.found
    c.if-not-is_header_name.ensures

pub returns-in_default-split_at_byte-clause-error :
    goal.returns-in_default-split_at_byte-clause-error
returns-in_default-split_at_byte-clause-error c = no_header_without_newline c.args.input.now c.in-Some.name.now c.in-Some.following.now c.in-Some.ensures.found
    c.in_default-split_at_byte.ensures.none

pub returns-in_err-value-in-Some-after_space-clause-error :
    goal.returns-in_err-value-in-Some-after_space-clause-error
returns-in_err-value-in-Some-after_space-clause-error c =
    let from = err_from_is_err_and c.from_residual.result c.from_residual.ensures.1 in
    rw from.1 (header_error_of_lines c.args.input.now c.in-Some.name.now c.in-Some.following.now c.in-Some-split_at_byte.first.now
    c.in-Some-split_at_byte.after.now
    c.in-Some-after_space.field-0.now from.0 c.in_err-value-in-Some-after_space.field-0.0 from.2 c.in-Some.ensures.found c.if-not-is_header_name.ensures
    c.in-Some-split_at_byte.ensures.found c.in-Some-after_space.ensures c.in_err-value-in-Some-after_space.ensures.error)

pub returns-in_ok-value-in-Some-after_space-clause-borrowed :
    goal.returns-in_ok-value-in-Some-after_space-clause-borrowed
returns-in_ok-value-in-Some-after_space-clause-borrowed c =
    folded_value_has_newline c.in-Some-split_at_byte.first.now c.in-Some-split_at_byte.after.now c.in_ok-value-in-Some-after_space.value.items
    c.in_ok-value-in-Some-after_space.rest.now
    c.in_ok-value-in-Some-after_space.ensures.found

pub returns-in-None-clause-found : goal.returns-in-None-clause-found
returns-in-None-clause-found c = rw c.new.ensures (has_header_of_one_line c.args.input.now c.in-Some.name.now c.in-Some.following.now
    c.in-Some-split_at_byte.first.now c.in-Some-split_at_byte.after.now c.in-Some.ensures.found c.if-not-is_header_name.ensures
    c.in-Some-split_at_byte.ensures.found c.in-None.ensures)
