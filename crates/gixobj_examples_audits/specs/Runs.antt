-- Runs on a stored root that end with a write, and the changes that their accepted commands make.
use Rattle.std.specs.Prelude.{◌≡◌, ◌≤◌, ◌++◌, ◌∷◌, ℕ, IsFalse, List, [], ⊤}
use Rattle.gix_object.specs.Bases.{HasBases}
use Rattle.gix_object.specs.Commands.{accepted_steps}
use Rattle.gix_object.specs.Entries.{EntryView}
use Rattle.gix_object.specs.Files.{NamedFiles, SameFiles, Table, is_null}
use Rattle.gix_object.specs.Hash.{id_kind}
use Rattle.gix_object.specs.History.{FilesAfter}
use Rattle.gix_object.specs.Replies.{Answers, IsRun}
use Rattle.gix_object.specs.RunTables.{AgreesWithRun}
use Rattle.gix_object.specs.State.{EditorFiles, State, new_state, open_bases, open_dirs, root_alone}
use Rattle.gix_object.specs.Stores.{StoreModel}
use Rattle.gix_object.specs.write.write.Written.{Written}
use Rattle.gix_object.specs.commands.command.Command.{Command}
use Rattle.gix_object.specs.commands.command.Command.TheVariants as command
use Rattle.gix_object.specs.commands.command.Edit.TheVariants as edit
use Rattle.gix_object.specs.editor.reply.EditReply.{EditReply}
use Rattle.gix_object.specs.editor.reply.EditReply.TheVariants as edit_reply
use Rattle.gix_object.specs.editor.reply.Reply.{Reply}
use Rattle.gix_object.specs.editor.reply.Reply.TheVariants as reply
use Rattle.gix_object.specs.hash.hash.object_id.ObjectId.{ObjectId}
use Rattle.gixobj_listings.specs.Changes.{AreChanges}
use Rattle.gixobj_listings.specs.Differences.{IsChangesError}
use Rattle.gixobj_listings.specs.Roots.{IsRoot, IsRootError}
use Rattle.gixobj_examples_audits.specs.declared.runs.RunChanges.{RunChanges}
use Rattle.gixobj_examples_audits.specs.declared.runs.RunError.{RunError}
use Rattle.gixobj_examples_audits.specs.declared.runs.RunError.TheVariants as run

-- the commands, and then a write of the root
abbrev pub and_write : List Command → List Command
and_write commands = commands ++ command.Edit edit.Write ∷ []

-- the replies to the commands, and then that to the write
abbrev pub and_reply : {E : Type 0} → List (Reply E) → EditReply E → List (Reply E)
and_reply replies its_reply = replies ++ reply.Edit its_reply ∷ []

module _ {S E : Type 0} (model : StoreModel S) (answers : Answers E) where
  -- the commands may get some replies, and the write after them this one
  abbrev pub HasLastReply : State S → List Command → EditReply E → State S → Type 0
  HasLastReply old commands its_reply new = (replies : List (Reply E))
      × IsRun model answers old (and_write commands) (and_reply replies its_reply) new

  -- the errors of a run and a write, and the editor after them
  abbrev pub HasNoWrite : State S → List Command → RunError E → State S → Type 0
  HasNoWrite old commands (run.Write error) new = HasLastReply old commands (edit_reply.WriteRefused error) new
  HasNoWrite old commands (run.NotKept written count error) new =
      HasLastReply old commands (edit_reply.NotKept written count error) new
  HasNoWrite old commands run.OutOfMemory new = ⊤
  HasNoWrite old commands error new = ⊥

  -- the commands get these replies, and the write after them succeeds; then the editor has the written root of the
  -- store, alone. Its files are those that the accepted commands make, in each table that agrees with the run and has
  -- the bases
  pub record IsReopened (old : State S) (commands : List Command) (replies : List (Reply E)) (written : Written)
      (new : State S) : Type 0 where
    pub between : State S
    pub run : IsRun model answers old (and_write commands) (and_reply replies (edit_reply.Written written)) between
    pub entries : List EntryView
    pub is_root : IsRoot (model.objects between.store) written.id entries
    pub state : new ≡ record between { dirs = root_alone entries; bases = root_alone [] }
    pub files : (T : Table) (n : ℕ)
        → AgreesWithRun T (model.objects old.store) (and_reply replies (edit_reply.Written written))
        → HasBases T (open_dirs old) (open_bases old)
        → SameFiles (EditorFiles T n new) (FilesAfter T n (accepted_steps commands replies) (EditorFiles T n old))
    pub has_bases : (T : Table) → HasBases T (open_dirs new) (open_bases new)

  -- the errors of a run whose root is reopened, and the editor after them: there is no write, or no written root
  abbrev pub IsReopenError : State S → List Command → RunError E → State S → Type 0
  IsReopenError old commands (run.Root error) new = (written : Written)
      × HasLastReply old commands (edit_reply.Written written) new
      × IsRootError (model.objects new.store) (model.may_fail new.store) written.id error
  IsReopenError old commands error new = HasNoWrite old commands error new

  module _ (store : S) (root : ObjectId) (commands : List Command) where
    -- on a new editor of the stored root, the commands may get these replies, and the write after them this one
    pub record IsRunOnRoot (replies : List (Reply E)) (its_reply : EditReply E) (remaining : State S) : Type 0 where
      pub entries : List EntryView
      pub is_root : IsRoot (model.objects store) root entries
      pub run : IsRun model answers (new_state entries store (id_kind root)) (and_write commands)
          (and_reply replies its_reply) remaining

    -- on a new editor of the stored root, the write after the commands may get this reply
    abbrev pub MayEndWith : EditReply E → Type 0
    MayEndWith its_reply = (replies : List (Reply E)) × (remaining : State S) × IsRunOnRoot replies its_reply remaining

    -- the changes are exactly those that the accepted commands make of the root's files, at each depth from this one
    -- on; in each table that agrees with the run
    pub record IsChangedByRun (depth : ℕ) (it : RunChanges E) : Type 0 where
      pub remaining : State S
      pub run : IsRunOnRoot it.replies.items (edit_reply.Written it.written) remaining
      pub changes : IsFalse (is_null root) → (T : Table) (n : ℕ)
          → AgreesWithRun T (model.objects store) (and_reply it.replies.items (edit_reply.Written it.written))
          → depth ≤ n → AreChanges (NamedFiles T n root)
          (FilesAfter T n (accepted_steps commands it.replies.items) (NamedFiles T n root)) it.changes.items

    -- the errors of a run on a stored root: there is no root; the write fails, or its trees aren't all kept; the roots
    -- aren't compared; or out of memory
    abbrev pub IsRunError : ℕ → RunError E → Type 0
    IsRunError depth (run.Root error) = IsRootError (model.objects store) (model.may_fail store) root error
    IsRunError depth (run.Write error) = MayEndWith (edit_reply.WriteRefused error)
    IsRunError depth (run.NotKept written count error) = MayEndWith (edit_reply.NotKept written count error)
    IsRunError depth (run.Changes error) = (replies : List (Reply E)) × (written : Written) × (remaining : State S)
        × IsRunOnRoot replies (edit_reply.Written written) remaining
        × IsChangesError (model.objects remaining.store) (model.may_fail remaining.store) depth root written.id error
    IsRunError depth run.OutOfMemory = ⊤
