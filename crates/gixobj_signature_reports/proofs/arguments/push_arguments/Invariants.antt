use Rattle.std.proofs.Common.{◌≡◌, ◌++◌, map, take}
use Rattle.gixobj_signature_reports.specs.Calls.{word_view}
use Rattle.gixobj_signature_reports.specs.Pieces.{piece_view}
use Rattle.gixobj_signature_reports.proofs.arguments.push_arguments.Given as goal

-- each piece that was consumed has its argument
abbrev pub invariant-loop-piece : goal.invariant-loop-piece
invariant-loop-piece l = map word_view l.words.items ≡ map word_view l.fn.words.items ++ map piece_view (take l.piece-index l.pieces)
