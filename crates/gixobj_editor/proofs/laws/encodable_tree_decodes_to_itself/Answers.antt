use Rattle.gixobj_hash.specs.Hash.{id_kind}
use Rattle.gixobj_tree.specs.TreeEncoding.{encode_tree}
use Rattle.gixobj_editor.proofs.laws.encodable_tree_decodes_to_itself.Goals as goal

pub returns : goal.returns
returns c = λ pair back entries bytes formed.
    c.tree_decodes_uniquely.ensures.one_tree (id_kind pair.0) (encode_tree pair.1) entries pair.1 bytes
    (c.tree_round_trips.ensures (id_kind pair.0) pair.1 back)
