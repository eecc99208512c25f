use Rattle.std.proofs.Common.{◌∙◌, All, refl, sym, subst}
use Rattle.std.proofs.lemmas.Bool.{false≢true}
use Rattle.std.proofs.lemmas.List.{take_all}
use Rattle.std.proofs.lemmas.List.Elements.{All-more}
use Rattle.gixobj_walks_known.specs.Known.{IsKnownEntry}
use Rattle.gixobj_walks_known.proofs.graph.are_known.Goals as goal

pub returns-then-not-is_known : goal.returns-then-not-is_known
returns-then-not-is_known c = (
  (λ is. absurd (false≢true is)),
  (λ all. sym c.if-not-is_known.true ∙ c.is_known.ensures.1
      (subst (λ it. IsKnownEntry c.args.count it) (sym c.node-item.is)
      (all c.loop-node.node-index c.node-item.result c.loop-node-test.true))),
)

pub loop-node-preserved : goal.loop-node-preserved
loop-node-preserved c = All-more (IsKnownEntry c.args.count) c.args.nodes.now c.loop-node.node-index c.node-item.result
    c.loop-node-test.true c.loop-node.invariant
    (subst (λ it. IsKnownEntry c.args.count it) c.node-item.is (c.is_known.ensures.0 c.if-not-is_known.false))

pub returns : goal.returns
returns c = (
  (λ is. subst (All (IsKnownEntry c.args.count)) (take_all c.loop-node.node-index c.args.nodes.now c.loop-node-test.false)
      c.loop-node.invariant),
  (λ all. refl),
)
