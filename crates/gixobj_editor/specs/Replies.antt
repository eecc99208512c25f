-- The replies that the commands of a run may get, and their effects on the editor.
use Rattle.std.specs.Prelude.{◌≡◌, ◌⊎◌, ℕ, List, [], ◌∷◌, All, Err, Ok, Result}
use denote.Ref.{Bor}
use Rattle.gixobj_editor_lookups.specs.Openings.{OfTrees}
use Rattle.gixobj_editor_commands.specs.declared.command.Command.{Command}
use Rattle.gixobj_editor_commands.specs.declared.command.Command.TheVariants as command
use Rattle.gixobj_editor_commands.specs.declared.command.Edit.{Edit}
use Rattle.gixobj_editor_commands.specs.declared.command.Edit.TheVariants as edit
use Rattle.gixobj_store.specs.Stores.{StoreModel, Objects}
use Rattle.gixobj_editor_write.specs.Calls.{IsStorable, names_of}
use Rattle.gixobj_editor_write.specs.WriteErrors.{IsWriteError}
use Rattle.gixobj_editor_write.specs.declared.write.WriteError.{WriteError}
use Rattle.gixobj_editor_write.specs.declared.write.Written.{Written}
use Rattle.gixobj_editor.specs.Cursors.{IsEnsured, IsWrittenBelow, IsCursorError, IsCursorEditError, cursor_path}
use Rattle.gixobj_editor.specs.Removals.{IsLeafRemoved, IsRemoved, IsLeafRemovalError, IsRemovalError}
use Rattle.gixobj_editor.specs.Upserts.{IsNameError, IsUpserted, IsUpsertError}
use Rattle.gixobj_editor.specs.FailedEdits.{IsFailedEditIn}
use Rattle.gixobj_editor.specs.Writes.{IsWrittenEditor}
use Rattle.gixobj_editor_lookups.specs.declared.error.Error.{Error}
use Rattle.gixobj_editor_lookups.specs.declared.error.Error.TheVariants as editing
use Rattle.gixobj_editor_files.specs.Bases.{HasBases}
use Rattle.gixobj_editor_files.specs.Files.{Files, Path, SameFiles, Table, Trees}
use Rattle.gixobj_editor_files.specs.Emission.{EmitsSome}
use Rattle.gixobj_editor_files.specs.Opening.{Dirs, in_path}
use Rattle.gixobj_editor_files.specs.State.{EditorFiles, State, open_bases, open_dirs, root_alone, with_store}
use Rattle.gixobj_editor_files.specs.Unopened.{with_empty_name}
use Rattle.gixobj_hash.specs.declared.hash.object_id.ObjectId.{ObjectId}
use Rattle.gixobj_store_keep.specs.Keeping.{StopsKeepingAt, with_trees}
use Rattle.gixobj_tree_entries.specs.Entries.{EntryView, Pair}
use Rattle.gixobj_tree.specs.WellFormed.{IsWellFormed}
use Rattle.gixobj_tree.specs.TreeEncoding.{IsEncodableTree}
use Rattle.gixobj_tree_entries.specs.Mode.{mode_of_kind}
use Rattle.gixobj_editor.specs.Commands.{Location, at_cursor, at_root, path_at}
use Rattle.gixobj_editor.specs.declared.reply.EditReply.{EditReply}
use Rattle.gixobj_editor.specs.declared.reply.EditReply.TheVariants as edit_reply
use Rattle.gixobj_editor.specs.declared.reply.Reply.{Reply}
use Rattle.gixobj_editor.specs.declared.reply.Reply.TheVariants as reply

-- the results that a run's closure may return for a tree; it has no state
abbrev pub Answers : Type 0 → Type 1
Answers E = List EntryView → Result ObjectId E → Type 0

-- the closure may be called on each tree that may be emitted
abbrev pub IsCallable : {F : Type 0} → (F → Bor (List EntryView) → Type 0) → F → Type 0
IsCallable pre out = (tree : Bor (List EntryView)) → IsStorable tree.now → pre out tree

-- the errors of an edit at this location
abbrev pub IsEditErrorAt : Location → Path → (Error → Type 0) → Error → Type 0
IsEditErrorAt at_root path rejects error = rejects error
IsEditErrorAt (at_cursor prefix) path rejects error = IsCursorEditError path rejects error

-- the open directories that a write at this location emits from
abbrev pub dirs_at : Location → Dirs → Dirs
dirs_at at_root dirs = dirs
dirs_at (at_cursor prefix) dirs = in_path prefix dirs

-- the closure returns the id for the tree
abbrev pub ReturnsTreeId : {E : Type 0} → Answers E → Unit {0} → Pair → Unit {0} → Type 0
ReturnsTreeId answers before pair after = answers pair.1 (Ok pair.0)

-- the closure returns an error for the tree
abbrev pub Denies : {E : Type 0} → Answers E → Unit {0} → List EntryView → E → Unit {0} → Type 0
Denies answers before tree error after = answers tree (Err error)

-- the reply to an accepted or a failed edit
abbrev pub reply_to : {E : Type 0} → Result (Unit {0}) Error → EditReply E
reply_to (Ok done) = edit_reply.Done
reply_to (Err error) = edit_reply.Refused error

-- the effect of an edit that fails with this error, and its cause
pub record IsFailedEdit {S : Type 0} (model : StoreModel S) (Rejects : Trees → Type 0) (old : State S) (path : Path)
    (failure : Error) (new : State S) : Type 0 where
  pub effect : IsFailedEditIn model old path new failure
  pub cause : OfTrees (model.objects old.store) Rejects

-- the effect of a successful write
abbrev pub IsWrittenAt : {S E : Type 0} → Answers E → Location → Written → State S → State S → Type 0
IsWrittenAt answers at_root it old new = IsWrittenEditor (ReturnsTreeId answers) tt old it new tt
IsWrittenAt answers (at_cursor prefix) it old new = IsWrittenBelow (ReturnsTreeId answers) tt old prefix it new tt

-- the effect of a successful write and of keeping its trees: only the store changes after the write, and it may fail
-- for the same ids as before
pub record IsWriteKept {S : Type 0} (model : StoreModel S) (Writes : State S → Type 0)
    (Keeps : Objects → Objects → Type 0) (old new : State S) : Type 0 where
  pub between : State S
  pub written : Writes between
  pub rest : new ≡ with_store between new.store
  pub stored : Keeps (model.objects old.store) (model.objects new.store)
  pub may_fail : (id : ObjectId) → model.may_fail new.store id ≡ model.may_fail old.store id

-- all of the trees are kept
abbrev pub KeepsAll : List Pair → Objects → Objects → Type 0
KeepsAll pairs before after = (after ≡ with_trees pairs before) × All (λ pair. IsEncodableTree pair.1) pairs

-- the effect of a failed write, and its cause: the editor is unchanged
pub record IsFailedWrite {S E : Type 0} (answers : Answers E) (location : Location) (old : State S)
    (error : WriteError E)
    (new : State S) : Type 0 where
  pub cause : IsWriteError (ReturnsTreeId answers) (Denies answers)
      (EmitsSome (dirs_at location (open_dirs old)) (dirs_at location (open_bases old))) tt tt error
  pub unchanged : new ≡ old

-- the effect of a new root: it is open alone
pub record IsRootSet {S : Type 0} (old : State S) (entries : List EntryView) (new : State S) : Type 0 where
  pub well_formed : IsWellFormed entries
  pub state : new ≡ record old { dirs = root_alone entries; bases = root_alone [] }
  pub files : (T : Table) (n : ℕ) → SameFiles (EditorFiles T n new) (Files T n entries)
  pub has_bases : (T : Table) → HasBases T (open_dirs new) (open_bases new)

module _ {S E : Type 0} (model : StoreModel S) (answers : Answers E) where
  -- the edit may get this reply and turn the old state into the new one
  abbrev pub IsEditReply : Location → State S → Edit → EditReply E → State S → Type 0
  IsEditReply location old (edit.Upsert path kind id) edit_reply.Done new =
      OfTrees (model.objects old.store)
      (λ trees. IsUpserted trees old (path_at location (names_of path.items)) (mode_of_kind kind) id new)
  IsEditReply location old (edit.Upsert path kind id) (edit_reply.Refused error) new =
      IsFailedEdit model (λ trees. IsEditErrorAt location (names_of path.items)
      (IsUpsertError (model.objects old.store) (model.may_fail old.store) trees (open_dirs old)
      (path_at location (names_of path.items))) error) old (path_at location (names_of path.items)) error new
      × (IsNameError error → new ≡ old)
  IsEditReply location old (edit.Remove path) edit_reply.Done new =
      OfTrees (model.objects old.store)
      (λ trees. IsRemoved trees old (path_at location (names_of path.items)) new)
  IsEditReply location old (edit.Remove path) (edit_reply.Refused error) new =
      IsFailedEdit model (λ trees. IsEditErrorAt location (names_of path.items)
      (IsRemovalError (model.objects old.store) (model.may_fail old.store) trees (open_dirs old)
      (path_at location (names_of path.items))) error) old (path_at location (names_of path.items)) error new
  IsEditReply location old (edit.RemoveLeaf path) edit_reply.Done new =
      OfTrees (model.objects old.store) (λ trees. IsLeafRemoved trees old (path_at location (names_of path.items)) new)
  IsEditReply location old (edit.RemoveLeaf path) (edit_reply.Refused error) new =
      IsFailedEdit model (λ trees. IsEditErrorAt location (names_of path.items)
      (IsLeafRemovalError (model.objects old.store) (model.may_fail old.store) trees (open_dirs old)
      (path_at location (names_of path.items))) error) old (path_at location (names_of path.items)) error new
  IsEditReply location old edit.Write (edit_reply.Written it) new =
      IsWriteKept model (IsWrittenAt answers location it old)
      (KeepsAll it.trees.items) old new
  IsEditReply location old edit.Write (edit_reply.NotKept it count error) new =
      IsWriteKept model (IsWrittenAt answers location it old)
      (λ before after. StopsKeepingAt (model.may_fail old.store) it.trees.items before after count error) old new
  IsEditReply location old edit.Write (edit_reply.WriteRefused error) new = IsFailedWrite answers location old error new
  -- an edit gets no other reply
  IsEditReply location old it its_reply new = ⊥

  -- the edits may get these replies, one after the other
  abbrev pub AreEditReplies : Location → State S → List Edit → List (EditReply E) → State S → Type 0
  AreEditReplies location old [] [] new = new ≡ old
  AreEditReplies location old (it ∷ edits) (its_reply ∷ replies) new = (between : State S)
      × IsEditReply location old it its_reply between × AreEditReplies location between edits replies new
  AreEditReplies location old edits replies new = ⊥

  -- edits by a cursor at a prefix may get this reply: the directory is ensured, and then the edits are done; or
  -- allocation of their replies failed, and nothing was done; or the cursor isn't made
  abbrev pub IsReplyAt : Path → State S → List Edit → Reply E → State S → Type 0
  IsReplyAt prefix old edits (reply.At replies) new =
      (between : State S) × OfTrees (model.objects old.store) (λ trees. IsEnsured trees old prefix between)
      × AreEditReplies (at_cursor prefix) between edits replies.items new
  IsReplyAt prefix old edits (reply.AtRefused error) new =
      ((error ≡ editing.OutOfMemory) × (new ≡ old))
      ⊎ (IsFailedEdit model (λ trees. IsCursorError (model.objects old.store) (model.may_fail old.store) trees
      (open_dirs old) prefix error) old (with_empty_name prefix) error new × (IsNameError error → new ≡ old))
  IsReplyAt prefix old edits its_reply new = ⊥

  -- the command may get this reply and turn the old state into the new one
  abbrev pub IsReply : State S → Command → Reply E → State S → Type 0
  IsReply old (command.Edit it) (reply.Edit its_reply) new = IsEditReply at_root old it its_reply new
  IsReply old (command.At prefix edits) its_reply new =
      IsReplyAt (cursor_path (names_of prefix.items)) old edits.items its_reply new
  IsReply old (command.SetRoot entries) reply.RootSet new = IsRootSet old entries new
  IsReply old (command.SetRoot entries) reply.RootRefused new = (¬ IsWellFormed entries) × (new ≡ old)
  -- a command gets no other reply
  IsReply old it its_reply new = ⊥

  -- the commands may get these replies, one after the other
  abbrev pub IsRun : State S → List Command → List (Reply E) → State S → Type 0
  IsRun old [] [] new = new ≡ old
  IsRun old (it ∷ commands) (its_reply ∷ replies) new = (between : State S) × IsReply old it its_reply between
      × IsRun between commands replies new
  IsRun old commands replies new = ⊥
