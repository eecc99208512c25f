use Rattle.std.proofs.Common.{◌≡◌, Ok, map}
use Rattle.gixobj_examples_objects.proofs.signers.sign_offs_of.Given as goal

abbrev pub invariant-loop-trailer : goal.invariant-loop-trailer
invariant-loop-trailer l = l.yielded ≡ map (λ it. Ok it) l.found.items
