use Rattle.std.proofs.Common.{◌∙◌, ap}
use Rattle.gixobj_editor_open.specs.Nested.{child_list, parts}
use Rattle.gixobj_editor_open.proofs.Ordered.{parts_with_item}
use Rattle.gixobj_editor_open.proofs.Pieces.{is_pieced_of_ordered}
use Rattle.gixobj_editor_open.proofs.open.Children.insert.Goals as goal

pub insert_at-requires-clause-pieced : goal.insert_at-requires-clause-pieced
insert_at-requires-clause-pieced c = is_pieced_of_ordered c.args.self.now c.requires.ordered c.requires.filled

pub returns-clause-inserted : goal.returns-clause-inserted
returns-clause-inserted c = ap parts c.insert_at.ensures.inserted
    ∙ parts_with_item (record { name = c.args.name; «open» = c.args.inner }) (child_list c.args.self.now)
