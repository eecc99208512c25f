use Rattle.std.proofs.Common.{◌≤◌, ◌+◌, length}
use Rattle.gixobj_fsck_names.proofs.BackslashCounts.{AddsTo}
use Rattle.gixobj_fsck_names.specs.DotFiles.{IsGitModulesOnNtfs}
use Rattle.gixobj_fsck_names.proofs.dot_files.count_git_modules_after_backslashes.Given as goal

-- the count so far and that of the rest are the count of the name
abbrev pub invariant-loop-byte : goal.invariant-loop-byte
invariant-loop-byte l =
    record {
      bounded : l.count + length l.rest ≤ length l.name;
      counted : AddsTo IsGitModulesOnNtfs l.rest l.name l.count;
    }

abbrev pub decreases-loop-byte : goal.decreases-loop-byte
decreases-loop-byte l = length l.rest
