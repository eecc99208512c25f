use Rattle.std.proofs.Common.{inl}
use Rattle.gixobj_examples_audits.proofs.canonical.is_looked_up.Goals as goal

pub returns-then-is_null : goal.returns-then-is_null
returns-then-is_null c = ((λ f. absurd (cc f)), λ h. absurd (h (inl ((c.null_id_test_decides.ensures c.args.id).1 (c.is_null.ensures.0 c.if-is_null.true)))))
