-- The parts of an object, checked one after the other. A part leads to the rest of the input, or has a fault, which
-- ends the check.
use Rattle.std.specs.Prelude.{◌≡◌, ◌⊎◌, ℕ, List, Result, Ok, Err}
use Rattle.gixobj_fsck_messages.specs.declared.message.Message.{Message}

-- the first part, and then the second in the rest
abbrev pub Then : (List ℕ → Result (List ℕ) Message → Type 0) → (List ℕ → Result (List ℕ) Message → Type 0)
    → List ℕ → Result (List ℕ) Message → Type 0
Then First Second input (Ok rest) = (between : List ℕ) × First input (Ok between) × Second between (Ok rest)
Then First Second input (Err fault) = First input (Err fault)
    ⊎ ((between : List ℕ) × First input (Ok between) × Second between (Err fault))

-- the part has at most one outcome
abbrev pub IsDeterministic : (List ℕ → Result (List ℕ) Message → Type 0) → Type 0
IsDeterministic Part = (input : List ℕ) (one other : Result (List ℕ) Message) → Part input one → Part input other
    → one ≡ other
