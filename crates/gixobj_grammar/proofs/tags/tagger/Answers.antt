use Rattle.gixobj_grammar.proofs.TagLines.{no_tagger_of_malformed_actor}
use Rattle.gixobj_grammar.proofs.tags.tagger.Goals as goal

pub returns-in_default-split_signature-clause-none : goal.returns-in_default-split_signature-clause-none
returns-in_default-split_signature-clause-none c =
    no_tagger_of_malformed_actor c.args.input.now c.in-Some.field-0.now c.in-Some-header_field.line.now c.in-Some-header_field.rest.now c.in-Some.ensures.found
    c.in-Some-header_field.ensures.found
    c.in_default-split_signature.ensures.none
