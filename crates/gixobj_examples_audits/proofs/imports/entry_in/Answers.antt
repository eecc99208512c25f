-- A lookup in the tree that the id names.
use Rattle.std.proofs.Common.{Some, map, subst}
use Rattle.bstr.specs.Owned.{bstring_bytes}
use Rattle.gix_object.specs.Lookups.{IsAtPath, IsPathError}
use Rattle.gix_object.specs.Stores.{Names, StoredObject}
use Rattle.gix_object.specs.hash.hash.object_id.ObjectId.{ObjectId}
use Rattle.gixobj_examples_audits.proofs.EntryAfterImport.{if_err_of, remaining_tree_at_start}
use Rattle.gixobj_examples_audits.specs.Imports.{IsFoundInError}
use Rattle.gixobj_examples_audits.specs.declared.imports.LookupError.TheVariants as lookup
use Rattle.gixobj_examples_audits.proofs.imports.entry_in.Goals as goal

pub returns-clause-found : goal.returns-clause-found
returns-clause-found g c =
    let objects = g.S.Store.objects c.args.store.now in
    let (tree, names, kind, start) = c.in_ok-tree.ensures.found in
    let named : Names objects c.args.root tree = subst (λ (it : ObjectId). Names objects it tree) c.as_oid.ensures names in
    let at = subst (λ (it : StoredObject). IsAtPath objects (Some it) (map bstring_bytes c.args.path.now) c.in_ok-lookup_entry.field-0)
    (remaining_tree_at_start c.in_ok-tree.tree tree kind start) c.in_ok-lookup_entry.ensures.found in
    (tree, named, kind, at)

pub returns-in_err-lookup_entry-clause-error : goal.returns-in_err-lookup_entry-clause-error
returns-in_err-lookup_entry-clause-error g c =
    let objects = g.S.Store.objects c.args.store.now in
    let may_fail = g.S.Store.may_fail c.args.store.now in
    let (tree, names, kind, start) = c.in_ok-tree.ensures.found in
    let named : Names objects c.args.root tree = subst (λ (it : ObjectId). Names objects it tree) c.as_oid.ensures names in
    let rejects = subst (λ (it : StoredObject). IsPathError objects may_fail (Some it) (map bstring_bytes c.args.path.now) c.in_err-lookup_entry.field-0.0)
    (remaining_tree_at_start c.in_ok-tree.tree tree kind start) c.in_err-lookup_entry.ensures.error in
    if_err_of c.from_residual-in_err-lookup_entry.result (lookup.Path c.in_err-lookup_entry.field-0.0)
    (IsFoundInError objects may_fail c.args.root (map bstring_bytes c.args.path.now)) c.from_residual-in_err-lookup_entry.ensures.1
    (tree, named, kind, rejects)
