-- Counts that saturate at the maximum of a u64.
use Rattle.std.proofs.Common.{◌≡◌, ◌∙◌, ◌+◌, ℕ, suc, zero, min, ap, arith}
use Rattle.gixobj_editor_files.specs.Edits.{max_count, raised}

-- two increments that saturate at a bound are one
both_saturate : (n first then bound : ℕ) → min (min (n + suc first) bound + suc then) bound ≡ min (n + suc (first + suc then)) bound
both_saturate n first then bound = omega arith

-- increments add up
pub raised_raised : (n first then : ℕ) → raised (raised n first) then ≡ raised n (first + then)
raised_raised n zero then = let is : then ≡ 0 + then = omega arith in ap (λ k. raised n k) is
raised_raised n (suc first) zero = let is : suc first ≡ suc first + 0 = omega arith in ap (λ k. raised n k) is
raised_raised n (suc first) (suc then) =
    let is : suc (first + suc then) ≡ suc first + suc then = omega arith in
    both_saturate n first then max_count ∙ ap (λ k. raised n k) is
