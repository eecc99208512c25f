use Rattle.std.proofs.lemmas.Result.{IfErr-weaker}
use Rattle.gixobj_store_find.proofs.OfKinds.{is_tree_error}
use Rattle.gixobj_hash.specs.Hash.Borrowed.{borrowed_id}
use Rattle.gixobj_store_find.proofs.traits.find_ext.FindExt.find_tree.Goals as goal

pub returns-clause-error : goal.returns-clause-error
returns-clause-error g c = λ not_empty.
    IfErr-weaker c.existing_tree.result _ _
    (is_tree_error (g.Self.Store.objects c.args.self.now) (g.Self.Store.may_fail c.args.self.now) (borrowed_id c.args.id)) c.existing_tree.ensures.error
