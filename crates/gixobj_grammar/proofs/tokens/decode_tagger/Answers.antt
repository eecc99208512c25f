use Rattle.gixobj_grammar.proofs.TaggerTokens.{begins_with_token_of_tagger, no_token_of_malformed_tagger}
use Rattle.gixobj_grammar.proofs.tokens.decode_tagger.Goals as goal

pub returns-in_default-clause-none : goal.returns-in_default-clause-none
returns-in_default-clause-none c = λ kind token after rest. no_token_of_malformed_tagger kind c.args.input.now token after rest c.in_default.ensures.none

pub returns-clause-found : goal.returns-clause-found
returns-clause-found c = λ kind. begins_with_token_of_tagger kind c.args.input.now c.in-Some.rest.now _ _ c.requires c.in-Some.ensures.found
    c.tagger_token.ensures
