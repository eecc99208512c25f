use Rattle.std.proofs.Common.{List, ℕ, subst, sym, ◌∙◌}
use Rattle.gixobj_hash.proofs.Splits.{no_split_of_byte_free, split_parts_unique}
use Rattle.gixobj_hash.specs.ByteStrings.{IsByteFree}
use Rattle.gixobj_hash.specs.Kind.{kind_name}
use Rattle.gixobj_records.proofs.Fields.{kind_name_is_space_free}
use Rattle.gixobj_records.proofs.header.split_kind.Goals as goal

pub returns-in_default-clause-none : goal.returns-in_default-clause-none
returns-in_default-clause-none c = λ kind rest same.
    no_split_of_byte_free 32 (kind_name kind) rest (let P : List ℕ → Type 0 = IsByteFree 32 in subst P same c.in_default.ensures.none)

pub returns-in-None-clause-none : goal.returns-in-None-clause-none
returns-in-None-clause-none c = λ kind rest same.
    let split = c.in-Some.ensures.found in
    let parts = split_parts_unique 32 _ _ (kind_name kind) rest split.first (kind_name_is_space_free kind) (sym split.joined ∙ same) in
    c.in-None.ensures kind parts.0
