-- Plans of calls, in which each answer chooses the next step.
use Rattle.std.specs.Prelude.{◌≡◌, ◌⊎◌, IfNone, Option, Some, None, ⊤}
use Rattle.gixobj_signature_reports.specs.Calls.{CallView, Answer}

-- a plan: done with this outcome; a call, whose answer chooses the rest; or no more, since memory ran out
pub data Plan (R : Type 0) : Type 0 where
  done : R → Plan R
  run_then : CallView → (Answer → Plan R) → Plan R
  no_more : Plan R

-- all calls of the plan, and no others, take the runner from one state to another, and their answers lead to
-- this outcome
abbrev pub CarriesOut : {S R : Type 0} → (S → CallView → Answer → S → Type 0) → Plan R → S → R → S → Type 0
CarriesOut runs (done outcome) before result after = (result ≡ outcome) × (after ≡ before)
CarriesOut {S} runs (run_then call next) before result after = (answer : Answer) × (state : S)
    × runs before call answer state × CarriesOut runs (next answer) state result after
CarriesOut runs no_more before result after = ⊥

-- a prefix of the calls of the plan takes the runner from one state to another: none of them, some, or all
abbrev pub BeginsPlan : {S R : Type 0} → (S → CallView → Answer → S → Type 0) → Plan R → S → S → Type 0
BeginsPlan runs (done outcome) before after = after ≡ before
BeginsPlan {S} runs (run_then call next) before after = (after ≡ before)
    ⊎ ((answer : Answer) × (state : S) × runs before call answer state × BeginsPlan runs (next answer) state after)
BeginsPlan runs no_more before after = after ≡ before

-- the plan makes a call
abbrev pub MakesCall : {R : Type 0} → Plan R → Type 0
MakesCall (done outcome) = ⊥
MakesCall (run_then call next) = ⊤
MakesCall no_more = ⊥

-- there is no outcome, since memory ran out, only if the plan makes a call
abbrev pub AllocatesForCalls : {R : Type 0} → Plan R → Option R → Type 0
AllocatesForCalls plan outcome = IfNone outcome (MakesCall plan)

-- the plan is carried out if there is an outcome, and begun if memory ran out
abbrev pub IsCarriedOut : {S R : Type 0} → (S → CallView → Answer → S → Type 0) → Plan R → S → Option R → S → Type 0
IsCarriedOut runs plan before (Some result) after = CarriesOut runs plan before result after
IsCarriedOut runs plan before None after = BeginsPlan runs plan before after

-- the plan `rest` remains in this state of the plan that began before: each outcome of `rest` is one of that plan
abbrev pub IsRemainingPlan : {S R : Type 0} → (S → CallView → Answer → S → Type 0) → Plan R → S → Plan R → S → Type 0
IsRemainingPlan {S} {R} runs rest state plan before = (result : Option R) (after : S)
    → IsCarriedOut runs rest state result after → IsCarriedOut runs plan before result after
