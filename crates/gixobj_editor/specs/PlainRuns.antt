-- Plain runs, whose trees come from their writes alone, and what the ids of their roots say of the files.
use Rattle.std.specs.Prelude.{◌≡◌, ◌≢◌, ◌↔◌, ℕ, List, [], All, Some, ⊤, take}
use Rattle.gixobj_editor_commands.specs.declared.command.Command.{Command}
use Rattle.gixobj_editor_commands.specs.declared.command.Command.TheVariants as command
use Rattle.gixobj_editor_commands.specs.declared.command.Edit.{Edit}
use Rattle.gixobj_editor_commands.specs.declared.command.Edit.TheVariants as edit
use Rattle.gixobj_store.specs.Stores.{Objects}
use Rattle.gixobj_editor_write.specs.declared.write.Written.{Written}
use Rattle.gixobj_editor_files.specs.Files.{FileSet, SameFiles, Table}
use Rattle.gixobj_editor_files.specs.PlainHistory.{NoFiles, PlainFilesAfter}
use Rattle.gixobj_editor_files.specs.State.{State, root_alone}
use Rattle.gixobj_editor_files.specs.Tables.{HasOneIdPerTree}
use Rattle.gixobj_tree_entries.specs.declared.entry_kind.EntryKind.TheVariants.{Tree}
use Rattle.gixobj_editor.specs.Commands.{accepted_steps, emitted_pairs, written_at}
use Rattle.gixobj_editor.specs.RunTables.{AgreesWithRun}
use Rattle.gixobj_editor.specs.declared.reply.Reply.{Reply}

-- the edit inserts no tree
abbrev pub InsertsNoTree : Edit → Type 0
InsertsNoTree (edit.Upsert path kind id) = kind ≢ Tree
InsertsNoTree it = ⊤

-- the command inserts no tree, and sets no root but the empty one
abbrev pub NamesNoTree : Command → Type 0
NamesNoTree (command.Edit it) = InsertsNoTree it
NamesNoTree (command.At prefix edits) = All InsertsNoTree edits.items
NamesNoTree (command.SetRoot entries) = entries ≡ []

-- a plain run: it is on a new editor with the empty root, inserts no tree, and sets no root but the empty one. No tree
-- has two ids in it, and the table agrees with it
pub record IsPlainRun {S E : Type 0} (T : Table) (objects : Objects) (editor : State S) (commands : List Command)
    (replies : List (Reply E)) : Type 0 where
  pub agrees : AgreesWithRun T objects replies
  pub dirs : editor.dirs ≡ root_alone []
  pub bases : editor.bases ≡ root_alone []
  pub no_tree : All NamesNoTree commands
  pub one_id : HasOneIdPerTree (emitted_pairs replies)

-- the files that the accepted commands before command number k make of none, if no tree is inserted
abbrev pub files_before : {E : Type 0} → ℕ → List Command → List (Reply E) → FileSet
files_before k commands replies = PlainFilesAfter (accepted_steps (take k commands) (take k replies)) NoFiles

-- two writes of the root name one id if and only if their files are equal, at every depth
abbrev pub IdsDetermineFiles : {E : Type 0} → List Command → List (Reply E) → Type 0
IdsDetermineFiles commands replies =
    (k l : ℕ) (first second : Written) → written_at replies k ≡ Some first → written_at replies l ≡ Some second
    → (first.id ≡ second.id) ↔ SameFiles (files_before k commands replies) (files_before l commands replies)
