use Rattle.gixobj_examples_objects.proofs.Assembling.{described_message_of_parts}
use Rattle.gixobj_examples_objects.proofs.assembler.message_with_description.Goals as goal

pub returns-clause-message : goal.returns-clause-message
returns-clause-message c =
    let laws = c.described_message_has_parts.ensures in
    described_message_of_parts laws.split laws.start laws.trailers c.args.title.now c.args.description.now c.in_ok-message.message.items
    c.extend_from_slice.new.self.items c.extend_from_slice-2.new.self.items c.push_section.new.message.items c.args.trailers.now
    c.in_ok-message.ensures.one_line c.in_ok-message.ensures.begun c.in_ok-extend_from_slice.ensures.items c.in_ok-extend_from_slice-2.ensures.items
    c.in_ok-push_section.ensures.appended c.in_ok-push_section.ensures.lines
