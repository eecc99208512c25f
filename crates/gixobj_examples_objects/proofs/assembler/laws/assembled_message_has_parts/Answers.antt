use Rattle.gixobj_examples_objects.proofs.AssembledBlocks.{trailers_of_assembled}
use Rattle.gixobj_examples_objects.proofs.AssembledTitles.{title_of_assembled}
use Rattle.gixobj_examples_objects.proofs.assembler.laws.assembled_message_has_parts.Goals as goal

pub returns-clause-split : goal.returns-clause-split
returns-clause-split c = title_of_assembled

pub returns-clause-trailers : goal.returns-clause-trailers
returns-clause-trailers c = trailers_of_assembled c.trailer_line_decodes.ensures
