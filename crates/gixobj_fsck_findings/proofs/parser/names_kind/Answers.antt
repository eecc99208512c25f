use Rattle.std.proofs.lemmas.Bool.{false≢true}
use Rattle.gixobj_hash.specs.Kind.{kind_name}
use Rattle.gixobj_fsck_findings.proofs.Parsed.{before_zero_unique}
use Rattle.gixobj_fsck_findings.proofs.parser.names_kind.Goals as goal

pub returns-in-None : goal.returns-in-None
returns-in-None c = (
  λ holds. absurd (false≢true holds),
  λ names. absurd (c.in-None.ensures names.0
      (before_zero_unique c.args.value.now c.before_zero.result.now (kind_name names.0) c.before_zero.ensures names.1)),
)
