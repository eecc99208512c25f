-- The checks of parts in the results of calls.
use Rattle.std.proofs.Common.{ℕ, List, Ok, Err}
use Rattle.std.specs.Prelude.{IfOk, Option, Result}
use Rattle.std.specs.Borrow.{Bor}
use Rattle.std.specs.declared.alloc.AllocError.{AllocError}
use Rattle.gixobj_fsck_findings.specs.Checks.{rest_of}

-- what follows from each rest follows from the result of a call
pub if_ok : (result : Result (Option (Bor (List ℕ))) AllocError) (P Q : Option (List ℕ) → Type 0) → ((rest : Option (List ℕ)) → P rest → Q rest)
    → IfOk result (λ rest. P (rest_of rest)) → IfOk result (λ rest. Q (rest_of rest))
if_ok (Ok rest) P Q follows here = follows (rest_of rest) here
if_ok (Err error) P Q follows here = here

-- what follows from a fact follows from the result of a call
pub if_done : (result : Result (Unit {0}) AllocError) (P Q : Type 0) → (P → Q) → IfOk result (λ it. P) → IfOk result (λ it. Q)
if_done (Ok it) P Q follows here = follows here
if_done (Err error) P Q follows here = here
