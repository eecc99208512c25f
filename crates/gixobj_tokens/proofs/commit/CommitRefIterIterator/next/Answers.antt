use Rattle.std.proofs.Common.{rules}
use Rattle.gixobj_grammar.proofs.OneLine.{line_len_lt}
use Rattle.gixobj_grammar.specs.Lines.{line_view}
use Rattle.gixobj_tokens.proofs.commit.CommitRefIterIterator.next.Goals as goal

pub returns-in-Ok-clause-goes : goal.returns-in-Ok-clause-goes
returns-in-Ok-clause-goes c =
    let shorter = line_len_lt c.args.self.now.hash_kind c.args.self.now.state c.args.self.now.bytes.now
    (line_view c.in-Ok.line) c.in-Ok.state c.in-Ok.rest.now c.in-Ok.ensures.found in
    search (shorter, rules)
