use Rattle.std.proofs.Common.{ap, subst}
use Rattle.gixobj_hash.specs.declared.hash.kind.Kind.{Kind}
use Rattle.gixobj_tree.specs.TreeEncoding.{IsDigestResult}
use Rattle.gixobj_editor_import.proofs.Calling.{returns_digests_of_calls}
use Rattle.gixobj_editor_import.proofs.written.write_by_digests.Goals as goal

pub write_edits-requires-clause-digests : goal.write_edits-requires-clause-digests
write_edits-requires-clause-digests g c =
    returns_digests_of_calls c.args.hash _ _ (λ requested tree answer answered same it.
    (subst (λ (k : Kind). IsDigestResult k tree.now answer) (ap (λ f. f.1.now) same) it.met.0, it.met.1))
