use Rattle.gixobj_examples_objects.proofs.Renaming.{AreRenamed}
use Rattle.gixobj_examples_objects.proofs.rewriter.renamed_trailers.Given as goal

abbrev pub invariant-loop-trailer : goal.invariant-loop-trailer
invariant-loop-trailer l = AreRenamed l.from l.to l.yielded l.trailers.items
