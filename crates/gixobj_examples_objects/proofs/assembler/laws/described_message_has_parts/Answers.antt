use Rattle.gixobj_examples_objects.proofs.AssembledTitles.{title_of_described_message}
use Rattle.gixobj_examples_objects.proofs.Descriptions.{start_of_description, trailers_of_described_message}
use Rattle.gixobj_examples_objects.proofs.assembler.laws.described_message_has_parts.Goals as goal

pub returns-clause-split : goal.returns-clause-split
returns-clause-split c = title_of_described_message

pub returns-clause-start : goal.returns-clause-start
returns-clause-start c = start_of_description c.trailer_line_decodes.ensures

pub returns-clause-trailers : goal.returns-clause-trailers
returns-clause-trailers c = trailers_of_described_message c.trailer_line_decodes.ensures
