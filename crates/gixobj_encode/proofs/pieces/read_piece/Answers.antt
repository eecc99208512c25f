use Rattle.std.proofs.Common.{rules}
use Rattle.gixobj_encode.proofs.pieces.read_piece.Goals as goal

pub returns-then-count-eq0-clause-error : goal.returns-then-count-eq0-clause-error
returns-then-count-eq0-clause-error c = search rules
