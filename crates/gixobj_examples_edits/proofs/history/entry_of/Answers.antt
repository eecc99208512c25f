use Rattle.std.proofs.Common.{Some, map, subst}
use Rattle.bstr.specs.Owned.{bstring_bytes}
use Rattle.gix_object.specs.CommitViews.{commit_lines}
use Rattle.gix_object.specs.Existing.{IsReaderError}
use Rattle.gix_object.specs.Lookups.{IsAtPath, IsPathError}
use Rattle.gix_object.specs.Stores.{Names, StoredObject}
use Rattle.gix_object.specs.hash.hash.object_id.ObjectId.{ObjectId}
use Rattle.gix_object.specs.hash.kind.Kind.TheVariants.{Tree}
use Rattle.gixobj_examples_edits.proofs.Commits.{remaining_tree_at_start, if_err_of}
use Rattle.gixobj_examples_edits.specs.Ancestors.{HasTree, NamesEncodedCommit, NamesTreeId, IsEntryOfCommitError}
use Rattle.gixobj_examples_edits.specs.declared.history.Error.TheVariants as history
use Rattle.gixobj_examples_edits.proofs.history.entry_of.Goals as goal

pub returns-clause-found : goal.returns-clause-found
returns-clause-found g c =
    let objects = g.S.Store.objects c.args.store.now in
    let commit = commit_lines c.in_ok-find_commit.field-0 in
    let is : NamesEncodedCommit objects c.args.commit commit =
    subst (λ (it : ObjectId). NamesEncodedCommit objects it commit) c.as_oid.ensures c.in_ok-find_commit.ensures.found in
    let (tree, names, kind, start) = c.in_ok-reader.ensures.found in
    let named : Names objects c.tree-tree.result tree = subst (λ (it : ObjectId). Names objects it tree) c.as_oid-2.ensures names in
    let at = subst (λ (it : StoredObject). IsAtPath objects (Some it) (map bstring_bytes c.args.path.now) c.in_ok-lookup_entry.field-0)
    (remaining_tree_at_start c.in_ok-reader.reader tree kind start) c.in_ok-lookup_entry.ensures.found in
    (tree, (commit, is, (c.tree-tree.result, c.tree-tree.ensures, named, kind)), at)

pub returns-in_err-reader-clause-error : goal.returns-in_err-reader-clause-error
returns-in_err-reader-clause-error g c =
    let objects = g.S.Store.objects c.args.store.now in
    let may_fail = g.S.Store.may_fail c.args.store.now in
    let commit = commit_lines c.in_ok-find_commit.field-0 in
    let is : NamesEncodedCommit objects c.args.commit commit =
    subst (λ (it : ObjectId). NamesEncodedCommit objects it commit) c.as_oid.ensures c.in_ok-find_commit.ensures.found in
    let its_tree : NamesTreeId objects c.args.commit c.tree-tree.result = (commit, is, c.tree-tree.ensures) in
    let rejects : IsReaderError objects may_fail Tree c.tree-tree.result c.in_err-reader.field-0.0 =
    subst (λ (it : ObjectId). IsReaderError objects may_fail Tree it c.in_err-reader.field-0.0) c.as_oid-2.ensures c.in_err-reader.ensures.error in
    if_err_of c.from_residual-in_err-reader.result (history.Tree c.in_err-reader.field-0.0)
    (IsEntryOfCommitError objects may_fail c.args.commit (map bstring_bytes c.args.path.now)) c.from_residual-in_err-reader.ensures.1
    (c.tree-tree.result, its_tree, rejects)

pub returns-in_err-lookup_entry-clause-error : goal.returns-in_err-lookup_entry-clause-error
returns-in_err-lookup_entry-clause-error g c =
    let objects = g.S.Store.objects c.args.store.now in
    let may_fail = g.S.Store.may_fail c.args.store.now in
    let commit = commit_lines c.in_ok-find_commit.field-0 in
    let is : NamesEncodedCommit objects c.args.commit commit =
    subst (λ (it : ObjectId). NamesEncodedCommit objects it commit) c.as_oid.ensures c.in_ok-find_commit.ensures.found in
    let (tree, names, kind, start) = c.in_ok-reader.ensures.found in
    let named : Names objects c.tree-tree.result tree = subst (λ (it : ObjectId). Names objects it tree) c.as_oid-2.ensures names in
    let its_tree : HasTree objects c.args.commit tree = (commit, is, (c.tree-tree.result, c.tree-tree.ensures, named, kind)) in
    let rejects = subst (λ (it : StoredObject). IsPathError objects may_fail (Some it) (map bstring_bytes c.args.path.now) c.in_err-lookup_entry.field-0.0)
    (remaining_tree_at_start c.in_ok-reader.reader tree kind start) c.in_err-lookup_entry.ensures.error in
    if_err_of c.from_residual-in_err-lookup_entry.result (history.Path c.in_err-lookup_entry.field-0.0)
    (IsEntryOfCommitError objects may_fail c.args.commit (map bstring_bytes c.args.path.now)) c.from_residual-in_err-lookup_entry.ensures.1
    (tree, its_tree, rejects)
