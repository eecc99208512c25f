-- The numbers of checks and of severities.
use Rattle.std.specs.Prelude.{◌==◌, ◌+◌, ℕ, Bool, true, false, Option, Some, None, if◌then◌else◌}
use Rattle.gixobj_fsck_messages.specs.Severities.{rank}
use Rattle.gixobj_fsck_messages.specs.declared.severity.Severity.{Severity}

-- whether a check with this number is strict (git-fsck, `--strict`)
abbrev pub strict_of_code : ℕ → Option Bool
strict_of_code code = if code == 0 then Some false else if code == 1 then Some true else None

-- the number of a severity, higher for a worse one; without a severity it is 0
abbrev pub severity_code : Option Severity → ℕ
severity_code None = 0
severity_code (Some severity) = rank severity + 1
