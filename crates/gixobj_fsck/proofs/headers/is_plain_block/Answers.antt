use Rattle.gixobj_fsck.proofs.HeaderBlocks.{plain_of_tests}
use Rattle.gixobj_fsck.proofs.headers.is_plain_block.Goals as goal

pub returns-then-zeros-eq0 : goal.returns-then-zeros-eq0
returns-then-zeros-eq0 c = plain_of_tests c.args.input.now c.args.from c.marks_of-zeros.result c.marks_of-newlines.result c.marks_of-following.result
    c.requires c.marks_of-zeros.ensures c.marks_of-newlines.ensures c.marks_of-following.ensures c.if-zeros-eq0.true
