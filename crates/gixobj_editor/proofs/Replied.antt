-- Replies of a run follow from the contracts of the calls; the proofs of `do_edit`, `do_edit_by`, `do_edits_in` and
-- `run_command` use it.
use Rattle.std.proofs.Common.{◌≡◌, ℕ, List, [], Err, Ok, Result, subst, sym}
use Rattle.std.specs.Prelude.{IfErr, OnOk}
use Rattle.std.specs.declared.alloc.Global.{Global}
use Rattle.std.specs.declared.vec.Vec.{Vec}
use Rattle.bstr.specs.declared.bstring.BString.{BString}
use Rattle.gixobj_editor_lookups.specs.Openings.{OfTrees}
use Rattle.gixobj_editor_commands.specs.declared.command.Edit.{Edit}
use Rattle.gixobj_editor_commands.specs.declared.command.Edit.TheVariants as edit
use Rattle.gixobj_editor_open.specs.Paths.{names_of}
use Rattle.gixobj_editor.specs.Cursors.{IsEnsured}
use Rattle.gixobj_editor.specs.Removals.{IsLeafRemoved, IsRemoved, IsLeafRemovalError, IsRemovalError}
use Rattle.gixobj_editor.specs.Upserts.{IsNameError, IsUpserted, IsUpsertError}
use Rattle.gixobj_editor.specs.FailedEdits.{IsAfterFailedEdit}
use Rattle.gixobj_editor_lookups.specs.declared.error.Error.{Error}
use Rattle.gixobj_editor_files.specs.Files.{Files, Path, SameFiles, Table, Trees}
use Rattle.gixobj_editor_files.specs.Bases.{HasBases}
use Rattle.gixobj_store.specs.Stores.{StoreModel}
use Rattle.gixobj_tree_entries.specs.Entries.{EntryView}
use Rattle.gixobj_tree.specs.WellFormed.{IsWellFormed}
use Rattle.gixobj_editor_files.specs.State.{EditorFiles, State, open_bases, open_dirs, root_alone}
use Rattle.gixobj_hash.specs.declared.hash.object_id.ObjectId.{ObjectId}
use Rattle.gixobj_tree_entries.specs.Mode.{mode_of_kind}
use Rattle.gixobj_tree_entries.specs.declared.entry_kind.EntryKind.{EntryKind}
use Rattle.gixobj_editor.specs.Commands.{Location, at_cursor, path_at}
use Rattle.gixobj_editor.specs.Replies.{Answers, AreEditReplies, IsEditReply, IsFailedEdit, IsReplyAt, IsRootSet, IsEditErrorAt, reply_to}
use Rattle.gixobj_editor.specs.declared.reply.EditReply.{EditReply}
use Rattle.gixobj_editor.specs.declared.reply.Reply.TheVariants as reply

-- an edit at the names that were lent to the call
module _ {S E : Type 0} (model : StoreModel S) (answers : Answers E) (location : Location) (old new : State S) (path : Vec BString Global) (lent : List BString)
    (is : lent ≡ path.items) where
  abbrev Of : (Trees → Type 0) → Type 0
  Of = OfTrees (model.objects old.store)

  failed_reply : (error : Error) (Rejects : List BString → Trees → Type 0)
      → Of (λ trees. IsAfterFailedEdit model trees old (path_at location (names_of lent)) error new)
      → Of (Rejects lent) → IsFailedEdit model (Rejects path.items) old (path_at location (names_of path.items)) error new
  failed_reply error Rejects pending failure = subst (λ (l : List BString). IsFailedEdit model (Rejects l) old (path_at location (names_of l)) error new) is
      (record { effect = pending; cause = failure })

  abbrev Upserts : List BString → Error → Trees → Type 0
  Upserts l error trees = IsEditErrorAt location (names_of l) (IsUpsertError (model.objects old.store) (model.may_fail old.store) trees (open_dirs old)
      (path_at location (names_of l))) error

  abbrev Removes : List BString → Error → Trees → Type 0
  Removes l error trees = IsEditErrorAt location (names_of l) (IsRemovalError (model.objects old.store) (model.may_fail old.store) trees (open_dirs old)
      (path_at location (names_of l))) error

  abbrev RemovesLeaf : List BString → Error → Trees → Type 0
  RemovesLeaf l error trees =
      IsEditErrorAt location (names_of l) (IsLeafRemovalError (model.objects old.store) (model.may_fail old.store) trees (open_dirs old)
      (path_at location (names_of l))) error

  pub upsert_replied : (kind : EntryKind) (id : ObjectId) (done : Result (Unit {0}) Error)
      → OnOk done (Of (λ trees. IsUpserted trees old (path_at location (names_of lent)) (mode_of_kind kind) id new))
      → IfErr done (λ error. Of (λ trees. IsAfterFailedEdit model trees old (path_at location (names_of lent)) error new))
      → IfErr done (λ error. Of (Upserts lent error)) → IfErr done (λ error. IsNameError error → new ≡ old)
      → IsEditReply model answers location old (edit.Upsert path kind id) (reply_to done) new
  upsert_replied kind id (Ok it) upserted pending failure not_looked_up =
      subst (λ (l : List BString). Of (λ trees. IsUpserted trees old (path_at location (names_of l)) (mode_of_kind kind) id new)) is upserted
  upsert_replied kind id (Err error) upserted pending failure not_looked_up =
      (failed_reply error (λ l trees. Upserts l error trees) pending failure, not_looked_up)

  pub removal_replied : (done : Result (Unit {0}) Error) → OnOk done (Of (λ trees. IsRemoved trees old (path_at location (names_of lent)) new))
      → IfErr done (λ error. Of (λ trees. IsAfterFailedEdit model trees old (path_at location (names_of lent)) error new))
      → IfErr done (λ error. Of (Removes lent error))
      → IsEditReply model answers location old (edit.Remove path) (reply_to done) new
  removal_replied (Ok it) removed pending failure = subst (λ (l : List BString). Of (λ trees. IsRemoved trees old (path_at location (names_of l)) new)) is
      removed
  removal_replied (Err error) removed pending failure = failed_reply error (λ l trees. Removes l error trees) pending failure

  pub leaf_removal_replied : (done : Result (Unit {0}) Error) → OnOk done (Of (λ trees. IsLeafRemoved trees old (path_at location (names_of lent)) new))
      → IfErr done (λ error. Of (λ trees. IsAfterFailedEdit model trees old (path_at location (names_of lent)) error new))
      → IfErr done (λ error. Of (RemovesLeaf lent error))
      → IsEditReply model answers location old (edit.RemoveLeaf path) (reply_to done) new
  leaf_removal_replied (Ok it) removed pending failure = subst (λ (l : List BString). Of
      (λ trees. IsLeafRemoved trees old (path_at location (names_of l)) new)) is
      removed
  leaf_removal_replied (Err error) removed pending failure = failed_reply error (λ l trees. RemovesLeaf l error trees) pending failure

-- edits by a cursor at a prefix, as the editor outside sees them
module _ {S E : Type 0} (model : StoreModel S) (answers : Answers E) (prefix at : Path) (old lent pending new : State S) (edits : List Edit) where
  pub done_at : (replies : Vec (EditReply E) Global) → at ≡ prefix → OfTrees (model.objects old.store) (λ trees. IsEnsured trees old prefix lent)
      → AreEditReplies model answers (at_cursor at) lent edits replies.items pending → new ≡ pending
      → IsReplyAt model answers prefix old edits (reply.At replies) new
  done_at replies is ensured done outside = (
    lent,
    ensured,
    subst (λ (s : State S). AreEditReplies model answers (at_cursor prefix) lent edits replies.items s) (sym outside)
        (subst (λ (p : Path). AreEditReplies model answers (at_cursor p) lent edits replies.items pending) is done),
  )

-- a new root, by the contract of the call for the editor that it returns
pub is_root_set_of_reply : {S : Type 0} (old new pending : State S) (entries : List EntryView) → new ≡ pending → IsWellFormed entries
    → pending ≡ record old { dirs = root_alone entries; bases = root_alone [] }
    → ((T : Table) (n : ℕ) → SameFiles (EditorFiles T n pending) (Files T n entries)) → ((T : Table) → HasBases T (open_dirs pending) (open_bases pending))
    → IsRootSet old entries new
is_root_set_of_reply {S} old new pending entries same formed state files has = subst (λ (s : State S). IsRootSet old entries s) (sym same)
    (record { well_formed = formed; state = state; files = files; has_bases = has })
