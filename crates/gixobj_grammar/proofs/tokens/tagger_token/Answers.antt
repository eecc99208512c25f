use Rattle.gixobj_grammar.proofs.TaggerTokens.{is_token_of_tagger}
use Rattle.gixobj_grammar.proofs.tokens.tagger_token.Goals as goal

pub returns-in-Some : goal.returns-in-Some
returns-in-Some c = is_token_of_tagger c.args.tagger _ c.in-Some.actor c.requires c.in-Some.is
