use Rattle.std.proofs.Common.{◌≡◌, ◌∷◌, ℕ, List, length, rules, arith, subst}
use Rattle.gixobj_fsck_names.proofs.BackslashCounts.{AddsTo, adds_to_more, adds_to_same, count_of_adds, nil_of_len}
use Rattle.gixobj_fsck_names.specs.DotFiles.{IsGitModulesOnNtfs}
use Rattle.gixobj_fsck_names.proofs.dot_files.count_git_modules_after_backslashes.Goals as goal

pub loop-byte-preserved-then-is_git_modules_after : goal.loop-byte-preserved-then-is_git_modules_after
loop-byte-preserved-then-is_git_modules_after c =
    let split : c.loop-byte.rest.now ≡ c.in-Some.byte.now ∷ c.in-Some.after.now = search rules in
    let found = c.is_git_modules_after.ensures.0 c.if-is_git_modules_after.true in
    record {
      bounded = grind (arith, split);
      counted = adds_to_more IsGitModulesOnNtfs c.in-Some.byte.now c.in-Some.after.now c.args.name.now c.loop-byte.count found.0 found.1
          (subst (λ (rest : List ℕ). AddsTo IsGitModulesOnNtfs rest c.args.name.now c.loop-byte.count) split c.loop-byte.invariant.counted);
    }

pub loop-byte-preserved : goal.loop-byte-preserved
loop-byte-preserved c =
    let split : c.loop-byte.rest.now ≡ c.in-Some.byte.now ∷ c.in-Some.after.now = search rules in
    record {
      bounded = grind (arith, split);
      counted = adds_to_same IsGitModulesOnNtfs c.in-Some.byte.now c.in-Some.after.now c.args.name.now c.loop-byte.count (search rules)
          (subst (λ (rest : List ℕ). AddsTo IsGitModulesOnNtfs rest c.args.name.now c.loop-byte.count) split c.loop-byte.invariant.counted);
    }

pub returns : goal.returns
returns c =
    let len : length c.loop-byte.rest.now ≡ 0 = search rules in
    count_of_adds IsGitModulesOnNtfs c.loop-byte.rest.now c.args.name.now c.loop-byte.count (nil_of_len c.loop-byte.rest.now len)
    c.loop-byte.invariant.counted
