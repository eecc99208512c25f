use Rattle.gixobj_examples_objects.proofs.Assembling.{message_of_parts}
use Rattle.gixobj_examples_objects.proofs.assembler.message_of.Goals as goal

pub returns-clause-message : goal.returns-clause-message
returns-clause-message c =
    let laws = c.assembled_message_has_parts.ensures in
    message_of_parts laws.split laws.trailers c.args.title.now c.in_ok-message.message.items c.push_trailers.new.message.items c.args.trailers.now
    c.in_ok-message.ensures.one_line c.in_ok-message.ensures.begun c.in_ok-push_trailers.ensures.appended c.in_ok-push_trailers.ensures.lines
