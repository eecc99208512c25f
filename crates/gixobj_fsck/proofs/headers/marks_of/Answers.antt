use Rattle.std.proofs.Common.{arith, eqb, w8}
use Rattle.std.proofs.lemmas.Simd.{bitmask_splat, length-chunk}
use Rattle.std.specs.Simd.Lanes.{chunk}
use Rattle.gixobj_fsck.proofs.headers.marks_of.Goals as goal

pub returns : goal.returns
returns c = bitmask_splat w8 eqb (chunk c.args.from 32 c.args.input.now) 32 c.args.byte
    (length-chunk c.args.from 32 c.args.input.now c.requires) (omega arith)
