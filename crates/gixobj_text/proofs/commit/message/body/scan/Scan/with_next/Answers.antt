use Rattle.std.proofs.Common.{refl}
use Rattle.gixobj_text.proofs.Counted.{counts_snoc}
use Rattle.gixobj_text.proofs.Scans.{scanned_snoc_filled}
use Rattle.gixobj_text.proofs.commit.message.body.scan.Scan.with_next.Goals as goal

pub returns-clause-scanned : goal.returns-clause-scanned
returns-clause-scanned c = λ lines it.
    scanned_snoc_filled lines c.args.line.now c.args.self _ it c.requires.not_blank c.requires.proceeds
    refl c.requires.last refl refl refl
    (λ run counts. counts_snoc run c.args.line.now c.args.self.run c.with_line.result counts c.with_line.ensures.trailers c.with_line.ensures.others
    c.with_line.ensures.recognised c.with_line.ensures.above)
