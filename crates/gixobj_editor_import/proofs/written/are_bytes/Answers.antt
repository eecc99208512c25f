use Rattle.gixobj_editor_import.proofs.written.are_bytes.Goals as goal

pub returns : goal.returns
returns c = λ i. (c.type_inv.bytes i).fits
