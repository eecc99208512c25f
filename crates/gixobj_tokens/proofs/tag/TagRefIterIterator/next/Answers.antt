use Rattle.std.proofs.Common.{rules}
use Rattle.gixobj_tokens.proofs.TagTokens.{remaining_measure_lt}
use Rattle.gixobj_grammar.specs.TagTokens.{tag_token_view}
use Rattle.gixobj_tokens.proofs.tag.TagRefIterIterator.next.Goals as goal

pub returns-in-Some-clause-goes : goal.returns-in-Some-clause-goes
returns-in-Some-clause-goes c =
    let less = remaining_measure_lt c.args.self.now.hash_kind c.args.self.now.state c.args.self.now.bytes.now (tag_token_view c.in-Some.token) c.in-Some.state
    c.in-Some.rest.now c.in-Some.ensures.found in
    search (less, rules)
