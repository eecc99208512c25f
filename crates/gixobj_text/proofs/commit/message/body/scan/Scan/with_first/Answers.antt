use Rattle.std.proofs.Common.{refl, []}
use Rattle.gixobj_text.proofs.Counted.{counts_snoc}
use Rattle.gixobj_text.proofs.Scans.{scanned_snoc_first}
use Rattle.gixobj_text.proofs.commit.message.body.scan.Scan.with_first.Goals as goal

pub returns-clause-scanned : goal.returns-clause-scanned
returns-clause-scanned c = λ lines it.
    scanned_snoc_first lines c.args.line.now c.args.self _ it c.requires.not_blank c.requires.proceeds
    refl c.requires.last refl refl refl
    (counts_snoc [] c.args.line.now c.new.result c.with_line.result c.new.ensures.counts c.with_line.ensures.trailers c.with_line.ensures.others
    c.with_line.ensures.recognised c.with_line.ensures.above)
