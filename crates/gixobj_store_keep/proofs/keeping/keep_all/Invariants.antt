use Rattle.std.proofs.Common.{◌≡◌, All, take}
use Rattle.gixobj_hash.specs.declared.hash.object_id.ObjectId.{ObjectId}
use Rattle.gixobj_store_keep.specs.Keeping.{with_trees}
use Rattle.gixobj_tree.specs.TreeEncoding.{IsEncodableTree}
use Rattle.gixobj_store_keep.proofs.keeping.keep_all.Given as goal

-- the first `number` trees are kept
abbrev pub invariant-loop-number : goal.invariant-loop-number
invariant-loop-number g l = record {
  kept : g.S.Store.objects l.store ≡ with_trees (take l.number l.trees) (g.S.Store.objects l.fn.store);
  all_have_encodings : All (λ kept. IsEncodableTree kept.1) (take l.number l.trees);
  may_fail : (id : ObjectId) → g.S.Store.may_fail l.store id ≡ g.S.Store.may_fail l.fn.store id;
}
