-- The bytes decode to one tree at most.
use Rattle.std.proofs.Common.{◌≡◌, Bool, false, refl, subst, true}
use Rattle.std.specs.Prelude.{not}
use Rattle.gixobj_c_edit.proofs.lossy.is_lossy.Goals as goal
use Rattle.gixobj_c_edit.specs.Lossy.{IsLossless}

true_of_not : (b : Bool) → not b ≡ false → b ≡ true
true_of_not true is = refl
true_of_not false is = absurd (cc is)

pub returns-in-Ok-is_lossless-clause-not_lossy : goal.returns-in-Ok-is_lossless-clause-not_lossy
returns-in-Ok-is_lossless-clause-not_lossy c = λ no entries decodes. subst (IsLossless c.args.hash)
    (c.tree_decodes_uniquely.ensures.one_tree c.args.hash c.args.bytes.now _ entries c.in-Ok.ensures.found decodes)
    (c.in-Ok-is_lossless.ensures.same (true_of_not c.in-Ok-is_lossless.same no))

pub returns-in-Err-Malformed-clause-not_lossy : goal.returns-in-Err-Malformed-clause-not_lossy
returns-in-Err-Malformed-clause-not_lossy c = λ no entries decodes.
    absurd (c.in-Err-Malformed.ensures.malformed c.in-Err-Malformed.field-0-is entries decodes)
