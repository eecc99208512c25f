use Rattle.std.proofs.Common.{◌≡◌, ◌++◌, take}
use Rattle.std.specs.Prelude.{All}
use Rattle.gixobj_examples_objects.specs.Assembled.{IsLineTrailer, trailer_lines}
use Rattle.gixobj_examples_objects.proofs.assembler.push_trailers.Given as goal

-- the trailers before this one are lines of the message
abbrev pub invariant-loop-index : goal.invariant-loop-index
invariant-loop-index l = record {
  appended : l.message.items ≡ l.initial.message.items ++ trailer_lines (take l.index l.trailers);
  lines : All IsLineTrailer (take l.index l.trailers);
}
