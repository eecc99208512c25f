-- One commit more is added in each turn.
use Rattle.std.proofs.Common.{◌∙◌, ◌++◌, [], ◌∷◌, None, ap}
use Rattle.gixobj_walks.proofs.Starts.{one_more_unread}
use Rattle.gixobj_walks.proofs.known.unread.Goals as goal

pub loop-preserved : goal.loop-preserved
loop-preserved c = record {
  nodes = c.in_ok-more.ensures.nodes ∙ ap (λ it. it ++ None ∷ []) c.loop.invariant.nodes
      ∙ one_more_unread c.args.reading.nodes c.loop.counter;
  left = λ starts has. c.in_ok-more.ensures.left starts (c.loop.invariant.left starts has);
  right = λ starts has. c.in_ok-more.ensures.right starts (c.loop.invariant.right starts has);
}
