use Rattle.std.proofs.Common.{rules, ◌≡◌, ◌≢◌}
use Rattle.gixobj_store_find.proofs.OfKinds.{is_of_another_kind}
use Rattle.gixobj_hash.specs.Hash.Borrowed.{borrowed_id}
use Rattle.gixobj_hash.specs.declared.kind.Kind.TheVariants as object
use Rattle.gixobj_store_keep.specs.declared.find.existing_object.Error.TheVariants as decoded
use Rattle.gixobj_object.specs.BorrowedObjects.{borrowed_kind}
use Rattle.gixobj_store_find.proofs.traits.find_ext.FindExt.find_tag.Goals as goal

pub returns-in-Tag-clause-error : goal.returns-in-Tag-clause-error
returns-in-Tag-clause-error g c = search rules

pub returns-in_default-clause-error : goal.returns-in_default-clause-error
returns-in_default-clause-error g c =
    let it = c.in_ok-other.other in
    let same : c.of_another_kind.result ≡ decoded.ObjectKind (borrowed_id c.args.id) (borrowed_kind it) object.Tag = search rules in
    let other : borrowed_kind it ≢ object.Tag = search rules in
    is_of_another_kind (g.Self.Store.objects c.args.self.now) (g.Self.Store.may_fail c.args.self.now) object.Tag (borrowed_id c.args.id) it
    c.of_another_kind.result c.in_ok-other.ensures.found same other
