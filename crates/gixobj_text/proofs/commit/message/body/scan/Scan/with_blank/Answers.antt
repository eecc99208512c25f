use Rattle.std.proofs.Common.{refl}
use Rattle.gixobj_text.proofs.Scans.{scanned_snoc_blank}
use Rattle.gixobj_text.proofs.commit.message.body.scan.Scan.with_blank.Goals as goal

pub returns-clause-scanned : goal.returns-clause-scanned
returns-clause-scanned c = λ lines it.
    scanned_snoc_blank lines c.args.line.now c.args.self _ it c.requires.blank refl c.requires.last refl refl refl refl refl
