use Rattle.std.proofs.Common.{arith}
use Rattle.gixobj_editor_open.proofs.PieceEnds.{first_is_empty, more_is_empty}
use Rattle.gixobj_editor_open.proofs.open.Children.destroy_empty.Goals as goal

pub destroy_empty-requires : goal.destroy_empty-requires
destroy_empty-requires c = omega (arith, first_is_empty c.args.self c.requires.empty, c.args.self.first.ok.0)

pub destroy_empty-requires-2 : goal.destroy_empty-requires-2
destroy_empty-requires-2 c = omega (arith, more_is_empty c.args.self c.requires.empty c.requires.filled, c.args.self.more.ok.0)
