use Rattle.gixobj_parse.proofs.HeaderFields.{no_header_of_empty_name, no_header_without_lines, no_header_without_newline, no_header_without_space}
use Rattle.gixobj_grammar.proofs.SkippedLines.{header_of_parts}
use Rattle.gixobj_grammar.proofs.lines.after_header.Goals as goal

pub returns-in_default-clause-none : goal.returns-in_default-clause-none
returns-in_default-clause-none c = no_header_without_space c.args.input.now c.in_default.ensures.none

pub returns-then-not-is_header_name-clause-none : goal.returns-then-not-is_header_name-clause-none
returns-then-not-is_header_name-clause-none c = no_header_of_empty_name c.args.input.now c.in-Some.name.now c.in-Some.following.now c.in-Some.ensures.found
    c.if-not-is_header_name.ensures

pub returns-in_default-split_at_byte-clause-none : goal.returns-in_default-split_at_byte-clause-none
returns-in_default-split_at_byte-clause-none c = no_header_without_newline c.args.input.now c.in-Some.name.now c.in-Some.following.now
    c.in-Some.ensures.found c.in_default-split_at_byte.ensures.none

pub returns-in_default-after_continuations-clause-none : goal.returns-in_default-after_continuations-clause-none
returns-in_default-after_continuations-clause-none c =
    no_header_without_lines c.args.input.now c.in-Some.name.now c.in-Some.following.now c.in-Some-split_at_byte.field-0-0.now
    c.in-Some-split_at_byte.after.now c.in-Some.ensures.found c.in-Some-split_at_byte.ensures.found
    c.in_default-after_continuations.ensures.none

pub returns-clause-found : goal.returns-clause-found
returns-clause-found c =
    let it = c.in-Some-after_continuations.ensures.found in
    header_of_parts c.args.input.now c.in-Some.name.now c.in-Some.following.now c.in-Some-split_at_byte.field-0-0.now c.in-Some-split_at_byte.after.now it.0
    c.in-Some-after_continuations.rest.now c.in-Some.ensures.found
    c.if-not-is_header_name.ensures c.in-Some-split_at_byte.ensures.found it.1
