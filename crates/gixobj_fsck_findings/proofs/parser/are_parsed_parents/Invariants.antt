use Rattle.std.proofs.Common.{length}
use Rattle.std.specs.Prelude.{◌↔◌}
use Rattle.gixobj_fsck_findings.specs.Parser.{AreParsedParents}
use Rattle.gixobj_fsck_findings.proofs.parser.are_parsed_parents.Given as goal

abbrev pub invariant-loop-rest : goal.invariant-loop-rest
invariant-loop-rest l = AreParsedParents l.kind l.rest ↔ AreParsedParents l.kind l.input

abbrev pub decreases-loop-rest : goal.decreases-loop-rest
decreases-loop-rest l = length l.rest
