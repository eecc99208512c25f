use Rattle.std.proofs.lemmas.Result.{IfErr-weaker, IfOk-weaker}
use Rattle.gixobj_grammar.proofs.LineErrors.{has_line_at_encoding, no_line_at_encoding, line_error_at_encoding}
use Rattle.gixobj_grammar.specs.Lines.{line_view}
use Rattle.gixobj_grammar.proofs.lines.decode_encoding_or_header.Goals as goal

pub returns-in_default-clause-found : goal.returns-in_default-clause-found
returns-in_default-clause-found c = λ kind.
    IfOk-weaker c.decode_header_or_message.result _ _ (λ it has. has_line_at_encoding kind c.args.input.now
    (line_view it.0) it.1 it.2.now c.in_default.ensures.none has)
    (c.decode_header_or_message.ensures.found kind)

pub returns-in_default-clause-error : goal.returns-in_default-clause-error
returns-in_default-clause-error c = λ kind.
    IfErr-weaker c.decode_header_or_message.result _ _ (λ error rejected. line_error_at_encoding kind c.args.input.now error c.in_default.ensures.none rejected)
    (c.decode_header_or_message.ensures.error kind)

pub returns-in_default-header_field-clause-error :
    goal.returns-in_default-header_field-clause-error
returns-in_default-header_field-clause-error c =
    λ kind. no_line_at_encoding kind c.args.input.now c.in-Some.field-0.now c.in-Some.ensures.found c.in_default-header_field.ensures.none
