use Rattle.std.proofs.Common.{◌≡◌, List, None, Ok, map}
use Rattle.std.specs.List.{last_or}
use Rattle.gix_object.specs.message.commit.message.body.trailers.TrailerRef.{TrailerRef}
use Rattle.gixobj_examples_objects.proofs.signers.last_trailer_of.Given as goal

-- the iterator has yielded these trailers, and the last of them is kept
abbrev pub invariant-loop-trailer : goal.invariant-loop-trailer
invariant-loop-trailer l = (seen : List TrailerRef) × (l.yielded ≡ map (λ it. Ok it) seen) × (l.last ≡ last_or None seen)
