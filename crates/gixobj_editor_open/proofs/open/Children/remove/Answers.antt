use Rattle.std.proofs.Common.{◌∙◌, List, ℕ, ap, true}
use Rattle.bstr.specs.Owned.{bstring_bytes}
use Rattle.gixobj_tree_entries.specs.KeyOrder.{key_of}
use Rattle.gixobj_editor_entries.specs.Pieces.{without_key}
use Rattle.gixobj_editor_open.specs.Nested.{child_key, child_list, parts}
use Rattle.gixobj_editor_open.proofs.Ordered.{parts_without_key}
use Rattle.gixobj_editor_open.proofs.Pieces.{is_pieced_of_ordered}
use Rattle.gixobj_editor_open.proofs.open.Children.remove.Goals as goal

pub remove-requires : goal.remove-requires
remove-requires c = is_pieced_of_ordered c.args.self.now c.requires.ordered c.requires.filled

pub returns-clause-removed : goal.returns-clause-removed
returns-clause-removed c =
    let cs = child_list c.args.self.now in
    ap parts c.remove.ensures.removed ∙ ap (λ (name : List ℕ). parts (without_key child_key (key_of name true) cs)) c.as_bytes.ensures
    ∙ parts_without_key (bstring_bytes c.args.name.now) cs
