-- Options of a check: severities that replace those of git's documentation (git-config, `fsck.<msg-id>`).
use Rattle.std.specs.Prelude.{◌≡◌, ◌≢◌, ◌⊎◌, ◌==◌, Bool, ⊤, cond}
use Rattle.std.specs.Int.{bit_at}
use Rattle.gixobj_fsck_messages.specs.Messages.{message_number}
use Rattle.gixobj_fsck_messages.specs.Severities.{counts_as_error, documented_severity, is_reported, severity_of}
use Rattle.gixobj_fsck_messages.specs.declared.message.Message.{Message}
use Rattle.gixobj_fsck_messages.specs.declared.message.Message.TheVariants as message
use Rattle.gixobj_fsck_messages.specs.declared.options.Options.{Options}
use Rattle.gixobj_fsck_messages.specs.declared.options.Override.{Override}
use Rattle.gixobj_fsck_messages.specs.declared.options.Override.TheVariants as replaced
use Rattle.gixobj_fsck_messages.specs.declared.options.OverrideError.{OverrideError}
use Rattle.gixobj_fsck_messages.specs.declared.options.OverrideError.TheVariants.{Fatal, Unsupported}
use Rattle.gixobj_fsck_messages.specs.declared.set.Messages.{Messages}
use Rattle.gixobj_fsck_messages.specs.declared.severity.Severity.{Severity}
use Rattle.gixobj_fsck_messages.specs.declared.severity.Severity.TheVariants as severity

-- the message is in the set
abbrev pub has_message : Messages → Message → Bool
has_message messages it = bit_at messages.bits (message_number it) == 1

-- the check is strict
abbrev pub is_strict_by : Options → Bool
is_strict_by options = options.strict

-- the severity of a message: that of its override, or else that of git's documentation, in a strict check or not
abbrev pub severity_by : Options → Message → Severity
severity_by options it = cond (has_message options.errors it) severity.Error
    (cond (has_message options.warnings it) severity.Warn
    (cond (has_message options.ignored it) severity.Ignore
    (severity_of options.strict it)))

-- the message counts as an error
abbrev pub counts_by : Options → Message → Bool
counts_by options it = counts_as_error (severity_by options it)

-- the message is reported
abbrev pub is_reported_by : Options → Message → Bool
is_reported_by options it = is_reported (severity_by options it)

-- the severity of an override
abbrev pub override_severity : Override → Severity
override_severity replaced.Error = severity.Error
override_severity replaced.Warn = severity.Warn
override_severity replaced.Ignore = severity.Ignore

-- the message is fatal
abbrev pub IsFatal : Message → Type 0
IsFatal it = documented_severity it ≡ severity.Fatal

-- no id was decoded where the check would go on after this message
abbrev pub LacksId : Message → Type 0
LacksId it = (it ≡ message.BadTreeSha1) ⊎ (it ≡ message.BadParentSha1) ⊎ (it ≡ message.BadObjectSha1)

-- the message may have this severity: each may be an error; one that is fatal or lacks an id may be nothing else
abbrev pub CanOverride : Message → Override → Type 0
CanOverride it replaced.Error = ⊤
CanOverride it other = (¬ IsFatal it) × (¬ LacksId it)

-- the message may not have this severity, and the error says why
abbrev pub IsOverrideError : Message → Override → OverrideError → Type 0
IsOverrideError it new (Fatal named) = (named ≡ it) × (new ≢ replaced.Error) × IsFatal it
IsOverrideError it new (Unsupported named) = (named ≡ it) × (new ≢ replaced.Error) × LacksId it

-- the options after are those before, but for the severity of this message
pub record Overrides (before : Options) (it : Message) (new : Override) (after : Options) : Type 0 where
  pub strict : is_strict_by after ≡ is_strict_by before
  pub this : severity_by after it ≡ override_severity new
  pub others : (other : Message) → other ≢ it → severity_by after other ≡ severity_by before other
