use Rattle.gixobj_editor_open.proofs.Pieces.{is_pieced_of_ordered}
use Rattle.gixobj_editor_open.proofs.open.Children.room_for.Goals as goal

pub reserve-requires : goal.reserve-requires
reserve-requires c = is_pieced_of_ordered c.args.self.now c.requires.ordered c.requires.filled
