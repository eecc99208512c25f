use Rattle.gixobj_fsck_messages.proofs.Bits.{lowest_bit}
use Rattle.gixobj_fsck_messages.proofs.First.{first_of_lowest_bit}
use Rattle.gixobj_fsck_messages.proofs.set.Messages.first.Goals as goal

pub returns : goal.returns
returns c = first_of_lowest_bit c.args.self _ c.from_number.result
    (lowest_bit c.args.self.bits c.if-self-eq0.false c.args.self.known) c.from_number.ensures
