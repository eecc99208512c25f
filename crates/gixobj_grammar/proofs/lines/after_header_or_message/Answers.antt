use Rattle.gixobj_grammar.proofs.SkippedLines.{header_is_line, message_is_line}
use Rattle.gixobj_grammar.proofs.lines.after_header_or_message.Goals as goal

pub returns-in-Some-clause-found : goal.returns-in-Some-clause-found
returns-in-Some-clause-found c = λ kind. message_is_line kind c.args.input.now _ c.in-Some.ensures

pub returns-clause-found : goal.returns-clause-found
returns-clause-found c = λ kind. let it = c.in-Some-after_header.ensures.found in header_is_line kind c.args.input.now it.0 c.in-Some-after_header.rest.now
    it.1
