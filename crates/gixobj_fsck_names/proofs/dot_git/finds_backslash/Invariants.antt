use Rattle.std.proofs.Common.{◌↔◌, length}
use Rattle.gixobj_fsck_names.specs.DotGit.{IsDotGitOnNtfs}
use Rattle.gixobj_fsck_names.specs.Walks.{FindsBackslash}
use Rattle.gixobj_fsck_names.proofs.dot_git.finds_backslash.Given as goal

abbrev pub invariant-loop-rest : goal.invariant-loop-rest
invariant-loop-rest l = FindsBackslash IsDotGitOnNtfs l.rest ↔ FindsBackslash IsDotGitOnNtfs l.name

abbrev pub decreases-loop-rest : goal.decreases-loop-rest
decreases-loop-rest l = length l.rest
