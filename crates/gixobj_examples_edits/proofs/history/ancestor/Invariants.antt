use Rattle.gixobj_examples_edits.specs.Ancestors.{IsAncestor}
use Rattle.gixobj_examples_edits.proofs.history.ancestor.Given as goal

abbrev pub invariant-loop : goal.invariant-loop
invariant-loop g l = IsAncestor (g.S.Store.objects l.fn.store) l.counter l.fn.start l.id
