-- The commit of the next number is inserted.
use Rattle.std.proofs.Common.{◌++◌, List, [], ◌∷◌, get_or, subst, sym, take}
use Rattle.std.proofs.lemmas.List.{take_more}
use Rattle.gixobj_walks.specs.Newest.{AreDated}
use Rattle.gixobj_walks.specs.declared.newest.Dated.{Dated}
use Rattle.gixobj_walks.proofs.NewestLists.{dated_more}
use Rattle.gixobj_walks.proofs.newest.by_date.Goals as goal

pub loop-number-preserved : goal.loop-number-preserved
loop-number-preserved c = record {
  dated = subst (λ ns. AreDated c.args.known.now.names c.args.known.now.reading.nodes ns c.insert.new.self.keys)
      (sym (take_more c.args.numbers.now c.loop-number.number-index _ c.loop-number-test.true))
      (subst (λ (keys : List Dated). AreDated c.args.known.now.names c.args.known.now.reading.nodes
      (take c.loop-number.number-index c.args.numbers.now ++ get_or c.args.numbers.now c.loop-number.number-index 0 ∷ []) keys)
      (sym c.in_ok-insert.ensures.keys)
      (dated_more c.args.known.now.names c.args.known.now.reading.nodes (take c.loop-number.number-index c.args.numbers.now) _
      c.loop-number.dated.keys c.dated_commit-commit.result c.loop-number.invariant.dated c.dated_commit-commit.ensures));
  ordered = c.in_ok-insert.ensures.ordered;
}
