-- The trust in the key of a signature (git-config, "gpg.minTrustLevel").
use Rattle.std.specs.Prelude.{ℕ, List, Option, Some, None, if◌then◌else◌, codes}
use Rattle.std.specs.Str.{str_eq_ignore_ascii_case}
use Rattle.gixobj_signature_reports.specs.declared.report.TrustLevel.{TrustLevel}
use Rattle.gixobj_signature_reports.specs.declared.report.TrustLevel.TheVariants as trust

-- the trust level of this name, ASCII case ignored, or none of an unknown name
abbrev pub trust_of : List ℕ → Option TrustLevel
trust_of name =
    if str_eq_ignore_ascii_case name (codes "undefined") then Some trust.Undefined
    else if str_eq_ignore_ascii_case name (codes "never") then Some trust.Never
    else if str_eq_ignore_ascii_case name (codes "marginal") then Some trust.Marginal
    else if str_eq_ignore_ascii_case name (codes "fully") then Some trust.Fully
    else if str_eq_ignore_ascii_case name (codes "ultimate") then Some trust.Ultimate
    else None

-- the trust level, or undefined without one
abbrev pub or_undefined : Option TrustLevel → TrustLevel
or_undefined (Some level) = level
or_undefined None = trust.Undefined

-- the rank of a trust level, from the lowest
abbrev pub level : TrustLevel → ℕ
level trust.Undefined = 0
level trust.Never = 1
level trust.Marginal = 2
level trust.Fully = 3
level trust.Ultimate = 4
