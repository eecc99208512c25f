use Rattle.std.proofs.Common.{◌≡◌, ◌++◌, drop, map, take}
use Rattle.gixobj_c_fsck.specs.Findings.{finding_parts}
use Rattle.gixobj_c_fsck.proofs.findings.write_findings.Given as goal

-- the findings so far are written, and the elements after them are unchanged
abbrev pub invariant-loop-i : goal.invariant-loop-i
invariant-loop-i l = l.out ≡ map (finding_parts l.strict) (take l.i l.findings) ++ drop l.i l.fn.out
