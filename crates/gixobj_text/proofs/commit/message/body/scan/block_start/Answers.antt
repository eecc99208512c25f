use Rattle.gixobj_text.proofs.Scans.{is_block_start_at_end, is_block_start_without_run}
use Rattle.gixobj_text.proofs.commit.message.body.scan.block_start.Goals as goal
use Rattle.gixobj_text.proofs.commit.message.body.scan.block_start.Goals.{else-scan-via-then-scan+else-is_block, else-scan-via-else-scan}

pub returns-else-scan : goal.returns-else-scan
returns-else-scan c =
    elim c.else-scan.branch [
      | else-scan-via-then-scan+else-is_block w ↦ is_block_start_at_end c.args.body.now c.scanned-scan.result w.is_block.result c.scanned-scan.ensures
          w.if-scan.true
          w.is_block.ensures w.if-is_block.false
      | else-scan-via-else-scan w ↦ is_block_start_without_run c.args.body.now c.scanned-scan.result c.scanned-scan.ensures w.if-scan.false
    ]
