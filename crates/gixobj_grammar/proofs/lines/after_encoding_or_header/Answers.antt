use Rattle.std.proofs.lemmas.Option.{IfSome_then}
use Rattle.gixobj_grammar.proofs.LineErrors.{no_line_at_encoding}
use Rattle.gixobj_grammar.proofs.SkippedLines.{encoding_is_line, no_line_as_first, some_line_as_first}
use Rattle.gixobj_grammar.proofs.lines.after_encoding_or_header.Goals as goal

pub returns-in_default-clause-found : goal.returns-in_default-clause-found
returns-in_default-clause-found c = λ kind.
    IfSome_then c.after_header_or_message.result (c.after_header_or_message.ensures.found kind)
    (λ it has. some_line_as_first kind c.args.input.now it.0 it.1.now c.in_default.ensures.none has)

pub returns-in_default-clause-none : goal.returns-in_default-clause-none
returns-in_default-clause-none c = λ kind. no_line_as_first kind c.args.input.now c.after_header_or_message.result c.in_default.ensures.none
    (c.after_header_or_message.ensures.none kind)

pub returns-in_default-header_field-clause-none : goal.returns-in_default-header_field-clause-none
returns-in_default-header_field-clause-none c = λ kind. no_line_at_encoding kind c.args.input.now c.in-Some.field-0.now c.in-Some.ensures.found
    c.in_default-header_field.ensures.none

pub returns-clause-found : goal.returns-clause-found
returns-clause-found c = λ kind. encoding_is_line kind c.args.input.now _ c.in-Some-header_field.rest.now c.in-Some-header_field.ensures.found
