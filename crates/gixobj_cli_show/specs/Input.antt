-- Errors of reading the input to its end.
use Rattle.gixobj_cli_show.specs.declared.failure.Failure.{Failure}
use Rattle.gixobj_cli_show.specs.declared.failure.Failure.TheVariants.{InputFailed, OutOfMemory}

-- InputFailed: the source may fail; OutOfMemory: the allocation of the bytes failed
abbrev pub IsInputError : Type 0 → Failure → Type 0
IsInputError may_fail InputFailed = may_fail
IsInputError may_fail OutOfMemory = Unit {0}
IsInputError may_fail _ = ⊥
