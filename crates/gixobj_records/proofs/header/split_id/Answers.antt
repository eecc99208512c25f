use Rattle.std.proofs.Common.{List, ℕ, subst, sym, ◌∙◌}
use Rattle.gixobj_hash.proofs.Splits.{no_split_of_byte_free, split_parts_unique}
use Rattle.gixobj_hash.specs.ByteStrings.{IsByteFree}
use Rattle.gixobj_hash.specs.Hash.{encode_id_hex}
use Rattle.gixobj_records.proofs.Fields.{id_hex_is_space_free}
use Rattle.gixobj_records.proofs.header.split_id.Goals as goal

pub returns-in_default-clause-none : goal.returns-in_default-clause-none
returns-in_default-clause-none c = λ id rest proper same.
    no_split_of_byte_free 32 (encode_id_hex id) rest (let P : List ℕ → Type 0 = IsByteFree 32 in subst P same c.in_default.ensures.none)

pub returns-in-None-clause-none : goal.returns-in-None-clause-none
returns-in-None-clause-none c = λ id rest proper same.
    let split = c.in-Some.ensures.found in
    let parts = split_parts_unique 32 _ _ (encode_id_hex id) rest split.first (id_hex_is_space_free id proper) (sym split.joined ∙ same) in
    c.in-None.ensures.none id proper parts.0
