-- The rests of checks are shorter.
use Rattle.std.proofs.Common.{◌≡◌, ◌≤◌, ℕ, Bool, true, false, List, Some, None, inl, inr, length, subst, sym, ap, arith, length-append}
use Rattle.std.specs.Prelude.{if◌then◌else◌}
use Rattle.gixobj_fsck.specs.Actors.{IsAfterLine}
use Rattle.gixobj_fsck_messages.specs.Severities.{counts_as_error}
use Rattle.gixobj_fsck_messages.specs.declared.finding.Finding.{Finding}
use Rattle.gixobj_fsck_messages.specs.declared.message.Message.{Message}
use Rattle.gixobj_fsck_messages.specs.declared.severity.Severity.{Severity}
use Rattle.gixobj_fsck_findings.specs.LineChecks.{ActorCheck}

-- what follows a line isn't longer than the line and it
pub after_line_le : (input rest : List ℕ) → IsAfterLine input rest → length rest ≤ length input
after_line_le input rest (inl (line, splits)) = let e = ap length splits.joined in omega (arith, simp length-append at e)
after_line_le input rest (inr none) = let e = ap length none.1 in omega (arith, e)

-- a rest after a message is the one that follows the line
same_rest : (counts : Bool) (rest found : List ℕ) → (if counts then None else Some rest) ≡ Some found → rest ≡ found
same_rest true rest found same = cc same
same_rest false rest found same = cc same

-- the rest after an actor follows its line
pub rest_of_actor : (severity : Message → Severity) (offset : ℕ) (actor : List ℕ) (before after : List Finding) (found : List ℕ)
    → ActorCheck severity offset actor before after (Some found) → IsAfterLine actor found
rest_of_actor severity offset actor before after found (rest, line, inl sound) =
    let same : rest ≡ found = let e = sound.3 in cc e in subst (λ (it : List ℕ). IsAfterLine actor it) same line
rest_of_actor severity offset actor before after found (rest, line, inr fault) =
    let same = same_rest (counts_as_error (severity fault.0)) rest found (sym fault.3) in
    subst (λ (it : List ℕ). IsAfterLine actor it) same line
