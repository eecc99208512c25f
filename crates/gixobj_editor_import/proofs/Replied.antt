-- Replies to edits, from the contracts of the calls.
use Rattle.std.proofs.Common.{◌≡◌, List, Err, Ok, Result, subst}
use Rattle.std.specs.Prelude.{IfErr, OnOk}
use Rattle.std.specs.declared.alloc.Global.{Global}
use Rattle.std.specs.declared.vec.Vec.{Vec}
use Rattle.bstr.specs.declared.bstring.BString.{BString}
use Rattle.gixobj_editor_lookups.specs.Openings.{OfTrees}
use Rattle.gixobj_editor_commands.specs.declared.command.Edit.TheVariants as edit
use Rattle.gixobj_editor_write.specs.Calls.{names_of}
use Rattle.gixobj_editor.specs.Removals.{IsLeafRemoved, IsRemoved, IsLeafRemovalError, IsRemovalError}
use Rattle.gixobj_editor.specs.Upserts.{IsNameError, IsUpserted, IsUpsertError}
use Rattle.gixobj_editor.specs.FailedEdits.{IsAfterFailedEdit}
use Rattle.gixobj_editor_lookups.specs.declared.error.Error.{Error}
use Rattle.gixobj_editor_files.specs.Files.{Trees}
use Rattle.gixobj_editor_files.specs.State.{State, open_dirs}
use Rattle.gixobj_hash.specs.declared.hash.object_id.ObjectId.{ObjectId}
use Rattle.gixobj_store.specs.Stores.{StoreModel}
use Rattle.gixobj_tree_entries.specs.Mode.{mode_of_kind}
use Rattle.gixobj_tree_entries.specs.declared.entry_kind.EntryKind.{EntryKind}
use Rattle.gixobj_editor.specs.Replies.{IsFailedEdit, reply_to}
use Rattle.gixobj_editor_import.specs.Edited.{IsReplied}

-- an edit at the names of a borrowed path
module _ {S : Type 0} (model : StoreModel S) (old new : State S) (path : Vec BString Global) (lent : List BString) (is : lent ≡ path.items) where
  abbrev Of : (Trees → Type 0) → Type 0
  Of = OfTrees (model.objects old.store)

  failed_reply : (error : Error) (Rejects : List BString → Trees → Type 0) → Of (λ trees. IsAfterFailedEdit model trees old (names_of lent) error new)
      → Of (Rejects lent) → IsFailedEdit model (Rejects path.items) old (names_of path.items) error new
  failed_reply error Rejects pending failure = subst (λ (l : List BString). IsFailedEdit model (Rejects l) old (names_of l) error new) is
      (record { effect = pending; cause = failure })

  abbrev Upserts : List BString → Error → Trees → Type 0
  Upserts l error trees = IsUpsertError (model.objects old.store) (model.may_fail old.store) trees (open_dirs old) (names_of l) error

  abbrev Removes : List BString → Error → Trees → Type 0
  Removes l error trees = IsRemovalError (model.objects old.store) (model.may_fail old.store) trees (open_dirs old) (names_of l) error

  abbrev RemovesLeaf : List BString → Error → Trees → Type 0
  RemovesLeaf l error trees = IsLeafRemovalError (model.objects old.store) (model.may_fail old.store) trees (open_dirs old) (names_of l) error

  pub upsert_replied : (kind : EntryKind) (id : ObjectId) (done : Result (Unit {0}) Error)
      → OnOk done (Of (λ trees. IsUpserted trees old (names_of lent) (mode_of_kind kind) id new))
      → IfErr done (λ error. Of (λ trees. IsAfterFailedEdit model trees old (names_of lent) error new))
      → IfErr done (λ error. Of (Upserts lent error)) → IfErr done (λ error. IsNameError error → new ≡ old)
      → IsReplied model old (edit.Upsert path kind id) (reply_to done) new
  upsert_replied kind id (Ok it) upserted pending failure not_looked_up =
      subst (λ (l : List BString). Of (λ trees. IsUpserted trees old (names_of l) (mode_of_kind kind) id new)) is upserted
  upsert_replied kind id (Err error) upserted pending failure not_looked_up =
      (failed_reply error (λ l trees. Upserts l error trees) pending failure, not_looked_up)

  pub removal_replied : (done : Result (Unit {0}) Error) → OnOk done (Of (λ trees. IsRemoved trees old (names_of lent) new))
      → IfErr done (λ error. Of (λ trees. IsAfterFailedEdit model trees old (names_of lent) error new)) → IfErr done (λ error. Of (Removes lent error))
      → IsReplied model old (edit.Remove path) (reply_to done) new
  removal_replied (Ok it) removed pending failure = subst (λ (l : List BString). Of (λ trees. IsRemoved trees old (names_of l) new)) is removed
  removal_replied (Err error) removed pending failure = failed_reply error (λ l trees. Removes l error trees) pending failure

  pub leaf_removal_replied : (done : Result (Unit {0}) Error) → OnOk done (Of (λ trees. IsLeafRemoved trees old (names_of lent) new))
      → IfErr done (λ error. Of (λ trees. IsAfterFailedEdit model trees old (names_of lent) error new)) → IfErr done (λ error. Of (RemovesLeaf lent error))
      → IsReplied model old (edit.RemoveLeaf path) (reply_to done) new
  leaf_removal_replied (Ok it) removed pending failure = subst (λ (l : List BString). Of (λ trees. IsLeafRemoved trees old (names_of l) new)) is removed
  leaf_removal_replied (Err error) removed pending failure = failed_reply error (λ l trees. RemovesLeaf l error trees) pending failure
