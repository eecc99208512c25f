-- A tag without an error is accepted, and one with an error if an extra header comes.
use Rattle.std.proofs.Common.{ap, sym, ◌∙◌}
use Rattle.std.specs.Prelude.{not}
use Rattle.std.proofs.lemmas.Bool.{false≢true}
use Rattle.gixobj_c_fsck.proofs.Verdicts.{tag_with_error, tag_without_error}
use Rattle.gixobj_c_fsck.proofs.reports.accepts_tag.Goals as goal

pub returns-then-not-has_error : goal.returns-then-not-has_error
returns-then-not-has_error c = (
  λ holds. tag_without_error c.has_error.result c.args.strict c.args.hash c.args.bytes.now c.args.messages c.requires c.has_error.ensures holds,
  λ accepted. ap not c.if-not-has_error.true,
)

pub returns-else-not-has_error : goal.returns-else-not-has_error
returns-else-not-has_error c =
    tag_with_error c.has_error.result c.has_extra_header.result c.args.strict c.args.hash c.args.bytes.now c.args.messages c.requires
    c.has_error.ensures c.has_extra_header.ensures (λ holds. false≢true (sym (ap not c.if-not-has_error.false) ∙ holds))
