use Rattle.std.proofs.Common.{rules, ◌≡◌, ◌∷◌}
use Rattle.gixobj_hash.specs.Bytes.{slash}
use Rattle.gixobj_store.proofs.PathBytes.{are_names_after_slash}
use Rattle.gixobj_store.proofs.tree.lookup.without_slashes.Goals as goal

pub loop-following-preserved : goal.loop-following-preserved
loop-following-preserved c names are =
    let is : c.loop-following.remaining.now ≡ slash ∷ c.in-Some.following.now = search rules in
    c.loop-following.invariant names (are_names_after_slash c.loop-following.remaining.now c.in-Some.following.now names is are)
