use Rattle.std.proofs.Common.{◌≡◌, ◌+◌, ◌++◌, length, take}
use Rattle.gixobj_hash.specs.Runs.{BeginsWithOtherPieces}
use Rattle.gixobj_grammar.specs.Lines.{BeginsWithLine}
use Rattle.gixobj_grammar.specs.declared.lines.State.TheVariants as state
use Rattle.gixobj_grammar.specs.CommitHeaders.{IsNamedLine}
use Rattle.gixobj_grammar.proofs.headers.find_header.Given as goal

-- no line so far is a header of the name, and the rest is the input from this position on
abbrev pub invariant-lines : goal.invariant-lines
invariant-lines l = record {
  begins_with : BeginsWithOtherPieces (BeginsWithLine l.fn.hash_kind) (IsNamedLine l.fn.name) state.Tree l.fn.bytes l.state l.rest;
  position_is : l.position + length l.rest ≡ length l.fn.bytes;
  joined : l.fn.bytes ≡ take l.position l.fn.bytes ++ l.rest;
}

abbrev pub decreases-lines : goal.decreases-lines
decreases-lines l = length l.rest
