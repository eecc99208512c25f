use Rattle.std.proofs.Common.{not, subst, List, ℕ, Bool}
use Rattle.gixobj_tree_entries.specs.KeyOrder.{key_of}
use Rattle.gixobj_editor_entries.specs.Pieces.{HasGap, item_key}
use Rattle.gixobj_editor_entries.proofs.gaps.is_alone_in.Goals as goal

pub returns : goal.returns
returns g c = λ yes.
    let P : List ℕ → Bool → Type 0 =
    λ n t. HasGap (item_key g.T.Named.name_of g.T.Named.is_tree_of) (key_of n (not t)) c.args.items.now c.args.before c.args.after in
    subst (λ (t : Bool). P (g.T.Named.name_of c.args.item.now) t) c.is_tree-is_other_tree.ensures
    (subst (λ (n : List ℕ). P n c.is_tree-is_other_tree.result) c.name.ensures (c.is_gap.ensures yes))
