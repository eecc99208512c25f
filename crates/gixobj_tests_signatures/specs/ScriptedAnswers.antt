-- Scripted answers of a runner: a list of expected calls, each with its answer.
use Rattle.std.specs.Prelude.{◌≡◌, ◌⊎◌, List, [], ◌∷◌, Result}
use Rattle.gixobj_signature_reports.specs.Calls.{Answer, answer_view, failed, not_spawned}
use Rattle.gixobj_signature_reports.specs.declared.call.Call.{Call}
use Rattle.gixobj_signature_reports.specs.declared.call.Output.{Output}
use Rattle.gixobj_signature_reports.specs.declared.call.RunError.{RunError}

-- no program is started, and the runner's message is empty
abbrev pub IsNotStarted : Answer → Type 0
IsNotStarted answer = answer ≡ failed (not_spawned [])

-- the answer to the first expected call, or no program is started for another call; the others remain, and an empty
-- list starts no program
abbrev pub Plays : List (Call × Result Output RunError) → Answer → List (Call × Result Output RunError) → Type 0
Plays [] answer remaining = IsNotStarted answer × (remaining ≡ [])
Plays (first ∷ others) answer remaining = ((answer ≡ answer_view first.1) ⊎ IsNotStarted answer) × (remaining ≡ others)
