use Rattle.gixobj_codec.proofs.one_line.are_bytes.Goals as goal

pub returns : goal.returns
returns c = λ i. (c.type_inv.bytes i).fits
