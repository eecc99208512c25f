-- A name is that of at most one kind.
use Rattle.std.proofs.Common.{ap, sym, ◌∙◌}
use Rattle.std.specs.Prelude.{Ok}
use Rattle.gixobj_hash.proofs.Headers.{kind_keyword_injective}
use Rattle.gixobj_hash.proofs.kind.Kind.from_bytes.Goals as goal

pub returns-in-Some-clause-accepts : goal.returns-in-Some-clause-accepts
returns-in-Some-clause-accepts c = λ kind named. ap Ok (kind_keyword_injective c.in-Some.kind kind (sym c.in-Some.ensures ∙ named))
