use Rattle.gixobj_grammar.proofs.lines.decode_line.Goals as goal

pub returns-in-Committer-clause-error : goal.returns-in-Committer-clause-error
returns-in-Committer-clause-error c = rw c.in-Committer.is (c.decode_committer.ensures.error c.args.kind)

pub returns-in-Encoding-clause-error : goal.returns-in-Encoding-clause-error
returns-in-Encoding-clause-error c = rw c.in-Encoding.is (c.decode_encoding_or_header.ensures.error c.args.kind)

pub returns-in-ExtraHeaders-clause-error : goal.returns-in-ExtraHeaders-clause-error
returns-in-ExtraHeaders-clause-error c = rw c.in-ExtraHeaders.is (c.decode_header_or_message.ensures.error c.args.kind)
