-- Results of the call that edits stored trees by a script.
use Rattle.std.specs.Prelude.{◌≡◌, ◌<◌, ◌+◌, ◌++◌, ◌∷◌, ◌⊎◌, ℕ, All, Contains, List, [], None, Option, Some, length}
use Rattle.std.specs.Prelude.{map, take}
use Rattle.std.specs.List.{flat_map}
use Rattle.gixobj_c_codes.specs.Buffers.{HasPrefix, WritesTwo}
use Rattle.gixobj_c_codes.specs.Codes.{buffer_too_short, unknown_code}
use Rattle.gixobj_editor_write.specs.declared.write.Written.{Written}
use Rattle.gixobj_c_edit.specs.Failures.{failure_status, given_failure, own_id}
use Rattle.gixobj_c_edit.specs.Frames.{AreTreesOfFrames, IsFramesError, encode_frame}
use Rattle.gixobj_c_edit.specs.Lossy.{IsLossless}
use Rattle.gixobj_c_edit.specs.Replies.{AreDone, IsFirstFailure, failure_ids}
use Rattle.gixobj_c_edit.specs.Roots.{IsRootError, IsRootOf}
use Rattle.gixobj_c_edit.specs.declared.failure.Failure.{Failure}
use Rattle.gixobj_c_edit.specs.declared.failure.Failure.TheVariants as failure
use Rattle.gixobj_editor.specs.Commands.{Location, accepted_steps, at_cursor, at_root, emitted_pairs, path_at}
use Rattle.gixobj_editor.specs.Commands.{written_at}
use Rattle.gixobj_editor.specs.Cursors.{cursor_path}
use Rattle.gixobj_editor.specs.Replies.{IsRun}
use Rattle.gixobj_editor.specs.RunTables.{AgreesWithRun}
use Rattle.gixobj_editor_commands.specs.Views.{CommandView, EditView, command_view, edits_at, one_edit, remove}
use Rattle.gixobj_editor_commands.specs.Views.{remove_leaf, set_root, upsert, write}
use Rattle.gixobj_editor_commands.specs.declared.command.Command.{Command}
use Rattle.gixobj_editor_commands.specs.declared.command.Command.TheVariants as command
use Rattle.gixobj_editor_commands.specs.declared.command.Edit.TheVariants as edit
use Rattle.gixobj_editor.specs.declared.reply.EditReply.TheVariants as edit_reply
use Rattle.gixobj_editor.specs.declared.reply.Reply.{Reply}
use Rattle.gixobj_editor.specs.declared.reply.Reply.TheVariants as reply
use Rattle.gixobj_streams.specs.declared.encode.Error.{Error}
use Rattle.gixobj_editor_files.specs.Bases.{HasBases}
use Rattle.gixobj_editor_files.specs.Files.{Files, NamedFiles, SameFiles, Table}
use Rattle.gixobj_editor_files.specs.History.{FilesAfter, Step}
use Rattle.gixobj_editor_files.specs.History as history
use Rattle.gixobj_editor_files.specs.State.{EditorFiles, State, new_state, open_bases, open_dirs}
use Rattle.gixobj_editor_files.specs.Tables.{AgreesWithPairs}
use Rattle.gixobj_hash.specs.Hash.{id_bytes}
use Rattle.gixobj_hash.specs.declared.hash.kind.Kind.{Kind}
use Rattle.gixobj_hash.specs.declared.hash.object_id.ObjectId.{ObjectId}
use Rattle.gixobj_store_keep.specs.Memory.{memory_objects}
use Rattle.gixobj_store_keep.specs.declared.memory.Memory.{Memory}
use Rattle.gixobj_tree_entries.specs.Mode.{mode_of_kind}
use Rattle.gixobj_cli_edit.specs.Edits.{IsScriptRunError, memory_model}
use Rattle.gixobj_editor_commands.specs.Scripts.{IsFirstBad, IsScript}
use Rattle.gixobj_editor_commands.specs.declared.script.ScriptError.TheVariants as parsing
use Rattle.gixobj_store.specs.Stores.{Objects}
use Rattle.gixobj_tree_entries.specs.Entries.{EntryView, Pair}
use Rattle.gixobj_tree.specs.TreeEncoding.{IsDigestResult, IsEncodableTree}

-- ---- the run

-- the write of the root that follows the commands of the script
abbrev pub write_of_root : Command
write_of_root = command.Edit edit.Write

-- the script decodes to commands, and these are all of them and then a write of the root
abbrev pub IsCommandsOf : Kind → List ℕ → List Command → Type 0
IsCommandsOf hash script all = (commands : List Command) × (all ≡ commands ++ write_of_root ∷ [])
    × IsScript hash script (map command_view commands)

-- an editor of the root over a store of the stored trees that aren't lossy; its files are those of the root. The lossy
-- trees are apart
pub record IsStart (hash : Kind) (trees root : List ℕ) (lossy : Objects) (state : State Memory) : Type 0 where
  pub objects : Objects
  pub given : AreTreesOfFrames hash trees objects lossy
  pub entries : List EntryView
  pub rooted : IsRootOf objects hash root entries
  pub store : Memory
  pub holds : memory_objects store ≡ objects
  pub state_is : state ≡ new_state entries store hash
  pub has_bases : (T : Table) → HasBases T (open_dirs state) (open_bases state)
  pub files : (T : Table) (n : ℕ) → SameFiles (EditorFiles T n state) (Files T n entries)

-- the commands may get these replies
abbrev pub HasRun : Kind → State Memory → List Command → List (Reply Error) → Type 0
HasRun hash state commands replies = (new : State Memory)
    × IsRun memory_model (IsDigestResult hash) state commands replies new

-- each written root has the files that the accepted commands before it make, in each table that agrees with the trees
abbrev pub HasFilesOfWrites : State Memory → List Command → List (Reply Error) → Type 0
HasFilesOfWrites state commands replies = (T : Table) (n k : ℕ) (written : Written)
    → written_at replies k ≡ Some written → AgreesWithRun T (memory_objects state.store) (take k replies)
    → AgreesWithPairs T written.trees.items → HasBases T (open_dirs state) (open_bases state)
    → SameFiles (NamedFiles T n written.id)
    (FilesAfter T n (accepted_steps (take k commands) (take k replies)) (EditorFiles T n state))

-- the script's commands and a write of the root were run on the stored trees, and got these replies
pub record IsRunOf (hash : Kind) (trees root script : List ℕ) (lossy : Objects) (replies : List (Reply Error))
    : Type 0 where
  pub commands : List Command
  pub decodes : IsScript hash script (map command_view commands)
  pub state : State Memory
  pub start : IsStart hash trees root lossy state
  pub ran : HasRun hash state (commands ++ write_of_root ∷ []) replies

-- ---- success

-- the step of an edit at this location; a write has none
abbrev pub edit_steps : Location → EditView → List Step
edit_steps location (upsert names kind id) = history.upsert (path_at location names) (mode_of_kind kind) id ∷ []
edit_steps location (remove names) = history.remove (path_at location names) ∷ []
edit_steps location (remove_leaf names) = history.remove (path_at location names) ∷ []
edit_steps location write = []

-- the steps of a command: those of edits in a directory come after it is ensured
abbrev pub command_steps : CommandView → List Step
command_steps (one_edit it) = edit_steps at_root it
command_steps (edits_at names edits) =
    history.ensure (cursor_path names) ∷ flat_map (edit_steps (at_cursor (cursor_path names))) edits
command_steps (set_root entries) = history.set_root entries ∷ []

-- the id names a tree with exactly the files that these commands make of those of a root, at every depth
abbrev pub HasFilesAfter : Table → List Command → List EntryView → ObjectId → Type 0
HasFilesAfter T commands entries id = (n : ℕ) → SameFiles (NamedFiles T n id)
    (FilesAfter T n (flat_map command_steps (map command_view commands)) (Files T n entries))

-- all commands are done, and the write after them; these are the frames of the trees that all writes emitted, in order,
-- and the id of the last root. The encoding of each tree decodes to it
pub record IsEmitted (hash : Kind) (all : List (Reply Error)) (frames id : List ℕ) : Type 0 where
  pub replies : List (Reply Error)
  pub written : Written
  pub joined : all ≡ replies ++ reply.Edit (edit_reply.Written written) ∷ []
  pub done : AreDone replies
  pub framed : frames ≡ flat_map encode_frame (emitted_pairs all)
  pub lossless : All (λ pair. IsLossless hash pair.1) (emitted_pairs all)
  pub named : id ≡ id_bytes written.id

-- the run's commands are done, and it emitted these trees. The last root has exactly the files that the script's
-- commands make of those of the root, at every depth, in each table that agrees with the run: it has the stored trees,
-- and the emitted ones as the store keeps them. Likewise each earlier root has those of the commands before its write
pub record IsEdited (hash : Kind) (trees root script frames id : List ℕ) : Type 0 where
  pub all : List (Reply Error)
  pub lossy : Objects
  pub run : IsRunOf hash trees root script lossy all
  pub emitted : IsEmitted hash all frames id
  pub files : (T : Table) → AgreesWithRun T run.start.objects emitted.replies
      → AgreesWithPairs T emitted.written.trees.items
      → HasFilesAfter T run.commands run.start.entries emitted.written.id
  pub earlier : (T : Table) (k : ℕ) (it : Written) → written_at emitted.replies k ≡ Some it
      → AgreesWithRun T run.start.objects (take k emitted.replies)
      → AgreesWithPairs T it.trees.items → HasFilesAfter T (take k run.commands) run.start.entries it.id

-- ---- failure

-- if all commands are done, then no name of an emitted tree is rejected
abbrev pub AreEncodableIfDone : List (Reply Error) → Type 0
AreEncodableIfDone all = AreDone all → All (λ pair. IsEncodableTree pair.1) (emitted_pairs all)

-- why a script has no commands: its first bad line; or out of memory, with number 0, for a command before any bad line,
-- or if no line is bad
abbrev pub IsScriptFailure : Kind → List ℕ → Failure → ℕ → Type 0
IsScriptFailure hash script it number = ((it ≡ failure.BadLine) × IsFirstBad hash script number)
    ⊎ ((it ≡ failure.OutOfMemory) × (number ≡ 0) × IsScriptRunError hash script parsing.OutOfMemory)

-- the failure has the id in it; or out of memory for this id
abbrev pub HasOwnId : Failure → Failure → List ℕ → Type 0
HasOwnId cause it ids = ((it ≡ cause) × (ids ≡ own_id cause)) ⊎ ((it ≡ failure.OutOfMemory) × (ids ≡ []))

-- why the trees have no root: they are no frames; else there is no root, or it is lossy
abbrev pub IsNoRoot : Kind → List ℕ → List ℕ → Failure → Type 0
IsNoRoot hash trees root it = IsFramesError trees it
    ⊎ ((objects lossy : Objects) × (cause : Failure) × AreTreesOfFrames hash trees objects lossy
    × IsRootError objects hash root cause × (it ≡ given_failure lossy cause))

-- why there is no editor: the trees have no root
abbrev pub IsStartError : Kind → List ℕ → List ℕ → Failure → ℕ → List ℕ → Type 0
IsStartError hash trees root it number ids = (number ≡ 0) × ((cause : Failure) × IsNoRoot hash trees root cause
    × HasOwnId cause it ids)

-- the failure of the first command that failed has the ids of the trees that commands lack; or out of memory for them
abbrev pub IsFailedAt : Objects → List (Reply Error) → Failure → Failure → List ℕ → Type 0
IsFailedAt lossy all first it ids =
    ((it ≡ given_failure lossy first) × (ids ≡ failure_ids lossy all (given_failure lossy first)))
    ⊎ ((it ≡ failure.OutOfMemory) × (ids ≡ []))

-- the encoding of an emitted tree with this id doesn't decode to it
abbrev pub IsLossyEmitted : Kind → List (Reply Error) → Failure → Type 0
IsLossyEmitted hash all it = (pair : Pair) × Contains (emitted_pairs all) pair × (¬ IsLossless hash pair.1)
    × (it ≡ failure.LossyTree pair.0)

-- why the replies have no new trees: the first command that failed, by its number from 1, where the write after them
-- counts as a command; or after all are done an emitted tree that is lossy, or out of memory for the frames
abbrev pub IsRepliesError : Kind → Objects → List (Reply Error) → Failure → ℕ → List ℕ → Type 0
IsRepliesError hash lossy all it number ids =
    ((index : ℕ) × (first : Failure) × IsFirstFailure all index first × (number ≡ index + 1)
    × IsFailedAt lossy all first it ids)
    ⊎ (AreDone all × (number ≡ length all) × ((cause : Failure)
    × (IsLossyEmitted hash all cause ⊎ (cause ≡ failure.OutOfMemory)) × HasOwnId cause it ids))

-- why there are no new trees, by the first of these faults: the trees are no frames, there is no root, a line of the
-- script is bad, a command or the write fails, an emitted tree is lossy; or out of memory
abbrev pub IsEditError : Kind → List ℕ → List ℕ → List ℕ → Failure → ℕ → List ℕ → Type 0
IsEditError hash trees root script it number ids = IsStartError hash trees root it number ids
    ⊎ (((lossy : Objects) × (state : State Memory) × IsStart hash trees root lossy state
    × IsScriptFailure hash script it number)
    ⊎ ((lossy : Objects) × (replies : List (Reply Error)) × IsRunOf hash trees root script lossy replies
    × IsRepliesError hash lossy replies it number ids))

-- the ids are written, if the buffer is long enough; the status is this one or that of a short buffer
abbrev pub WritesIds : ℕ → List ℕ → List ℕ → List ℕ → ℕ → ℕ → Type 0
WritesIds wanted ids before after len status = (len ≡ length ids)
    × (((status ≡ wanted) × HasPrefix ids before after)
    ⊎ ((status ≡ buffer_too_short) × (length before < length ids) × (after ≡ before)))

-- the number of the failure is written, and its status returned; of missing or lossy trees the ids are written
abbrev pub WritesFailure : Failure → ℕ → List ℕ → List ℕ → List ℕ → ℕ → ℕ → ℕ → ℕ → Type 0
WritesFailure (failure.NotFound first) number ids before after len_before len written status =
    (written ≡ number) × WritesIds (failure_status (failure.NotFound first)) ids before after len status
WritesFailure (failure.LossyTree first) number ids before after len_before len written status =
    (written ≡ number) × WritesIds (failure_status (failure.LossyTree first)) ids before after len status
WritesFailure it number ids before after len_before len written status =
    (written ≡ number) × (len ≡ len_before) × (status ≡ failure_status it) × (after ≡ before)

-- ---- the call

-- the new trees and the id of the root are written; or the number of the failure, and the ids of missing or lossy
-- trees
abbrev pub IsEditCall : Option Kind → List ℕ → List ℕ → List ℕ → List ℕ → List ℕ → ℕ → ℕ → List ℕ → List ℕ → ℕ → ℕ
    → ℕ → ℕ → ℕ → Type 0
IsEditCall (Some hash) trees root script before after len_before len id_before id_after id_len_before id_len
    number_before number status =
    ((frames id : List ℕ) × IsEdited hash trees root script frames id
    × WritesTwo frames before after len id id_before id_after id_len status × (number ≡ number_before))
    ⊎ ((it : Failure) × (at : ℕ) × (ids : List ℕ) × IsEditError hash trees root script it at ids
    × WritesFailure it at ids id_before id_after id_len_before id_len number status × (after ≡ before)
    × (len ≡ len_before))
IsEditCall None trees root script before after len_before len id_before id_after id_len_before id_len number_before
    number status = (status ≡ unknown_code) × (after ≡ before) × (len ≡ len_before) × (id_after ≡ id_before)
    × (id_len ≡ id_len_before) × (number ≡ number_before)
