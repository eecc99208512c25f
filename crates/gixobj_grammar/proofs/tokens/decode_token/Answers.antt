use Rattle.gixobj_grammar.proofs.tokens.decode_token.Goals as goal

pub returns-in-TargetKind-clause-none : goal.returns-in-TargetKind-clause-none
returns-in-TargetKind-clause-none c = rw c.in-TargetKind.is (c.decode_target_kind.ensures.none c.args.hash_kind)

pub returns-in-Name-clause-none : goal.returns-in-Name-clause-none
returns-in-Name-clause-none c = rw c.in-Name.is (c.decode_name.ensures.none c.args.hash_kind)

pub returns-in-Tagger-clause-none : goal.returns-in-Tagger-clause-none
returns-in-Tagger-clause-none c = rw c.in-Tagger.is (c.decode_tagger.ensures.none c.args.hash_kind)

pub returns-in-Body-clause-none : goal.returns-in-Body-clause-none
returns-in-Body-clause-none c = rw c.in-Body.is (c.decode_body.ensures.none c.args.hash_kind)
