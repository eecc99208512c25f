-- The parts of an object, one after the other, in the results of calls.
use Rattle.std.proofs.Common.{◌≡◌, ℕ, List, Ok, Err, inl, inr, subst}
use Rattle.std.specs.Prelude.{MatchResult, Result}
use Rattle.std.specs.Borrow.{Bor}
use Rattle.gixobj_fsck.specs.Steps.{IsDeterministic, Then}
use Rattle.gixobj_fsck_messages.specs.declared.message.Message.{Message}

-- the second part decides the outcome after the first
pub then_match : (First Second : List ℕ → Result (List ℕ) Message → Type 0) (input between : List ℕ) (result : Result (Bor (List ℕ)) Message)
    → First input (Ok between) → MatchResult result (λ rest. Second between (Ok rest.now)) (λ fault. Second between (Err fault))
    → MatchResult result (λ rest. Then First Second input (Ok rest.now)) (λ fault. Then First Second input (Err fault))
then_match First Second input between (Ok rest) first second = (between, first, second)
then_match First Second input between (Err fault) first second = inr (between, first, second)

-- two parts that have at most one outcome have at most one together
pub then_deterministic : (First Second : List ℕ → Result (List ℕ) Message → Type 0) → IsDeterministic First → IsDeterministic Second
    → IsDeterministic (Then First Second)
then_deterministic First Second first second input (Ok x) (Ok y) one other =
    let same : one.0 ≡ other.0 = let e = first input (Ok one.0) (Ok other.0) one.1 other.1 in cc in
    second other.0 (Ok x) (Ok y) (subst (λ (it : List ℕ). Second it (Ok x)) same one.2) other.2
then_deterministic First Second first second input (Ok x) (Err fault) one (inl other) = let e = first input (Ok one.0) (Err fault) one.1 other in cc
then_deterministic First Second first second input (Ok x) (Err fault) one (inr other) =
    let same : one.0 ≡ other.0 = let e = first input (Ok one.0) (Ok other.0) one.1 other.1 in cc in
    second other.0 (Ok x) (Err fault) (subst (λ (it : List ℕ). Second it (Ok x)) same one.2) other.2
then_deterministic First Second first second input (Err fault) (Ok y) (inl one) other = let e = first input (Ok other.0) (Err fault) other.1 one in cc
then_deterministic First Second first second input (Err fault) (Ok y) (inr one) other =
    let same : one.0 ≡ other.0 = let e = first input (Ok one.0) (Ok other.0) one.1 other.1 in cc in
    second other.0 (Err fault) (Ok y) (subst (λ (it : List ℕ). Second it (Err fault)) same one.2) other.2
then_deterministic First Second first second input (Err a) (Err b) (inl one) (inl other) = first input (Err a) (Err b) one other
then_deterministic First Second first second input (Err a) (Err b) (inl one) (inr other) = let e = first input (Err a) (Ok other.0) one other.1 in cc
then_deterministic First Second first second input (Err a) (Err b) (inr one) (inl other) = let e = first input (Ok one.0) (Err b) one.1 other in cc
then_deterministic First Second first second input (Err a) (Err b) (inr one) (inr other) =
    let same : one.0 ≡ other.0 = let e = first input (Ok one.0) (Ok other.0) one.1 other.1 in cc in
    second other.0 (Err a) (Err b) (subst (λ (it : List ℕ). Second it (Err a)) same one.2) other.2
