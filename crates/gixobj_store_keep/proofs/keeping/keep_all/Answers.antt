use Rattle.std.proofs.Common.{All, subst, ◌∙◌}
use Rattle.std.proofs.lemmas.List.{take_all}
use Rattle.gixobj_tree_entries.specs.Entries.{Pair}
use Rattle.gixobj_tree.specs.TreeEncoding.{IsEncodableTree}
use Rattle.gixobj_store_keep.proofs.Trees.{more_have_encodings, more_kept}
use Rattle.gixobj_store_keep.proofs.keeping.keep_all.Goals as goal

pub loop-number-preserved : goal.loop-number-preserved
loop-number-preserved g c =
    let trees = c.args.trees.now in
    let number = c.loop-number.number in
    record {
      kept = more_kept trees number c.index-trees-number.result c.loop-number-test.true c.index-trees-number.is (g.S.Store.objects c.args.store.now)
          (g.S.Store.objects c.loop-number.store) (g.S.Store.objects c.keep.new.self) c.loop-number.invariant.kept c.in-Ok.ensures.stored;
      all_have_encodings = more_have_encodings trees number c.index-trees-number.result c.loop-number-test.true c.index-trees-number.is
          c.loop-number.invariant.all_have_encodings c.in-Ok.ensures.has_encoding;
      may_fail = λ id. c.in-Ok.ensures.same_may_fail id ∙ c.loop-number.invariant.may_fail id;
    }

pub returns-clause-have_encodings : goal.returns-clause-have_encodings
returns-clause-have_encodings g c = subst (All (λ (kept : Pair). IsEncodableTree kept.1))
    (take_all c.loop-number.number c.args.trees.now c.loop-number-test.false) c.loop-number.invariant.all_have_encodings
