-- Ids of trees that are built up from pairs determine their files, and a plain run's steps insert no tree; the proof of
-- `OneId` uses it.
use Rattle.std.proofs.Common.{◌≡◌, ◌↔◌, ℕ, zero, suc, false, List, [], ◌∷◌, ◌++◌, Contains, Option, Some, refl, sym, subst, length, take, arith}
use Rattle.std.specs.FinMap as map
use Rattle.std.specs.List.{AllByRecursion}
use Rattle.std.specs.Prelude.{MatchOption}
use Rattle.std.proofs.lemmas.List.Elements.{All-contains, All-from_recursion, recursion_from_All}
use Rattle.gixobj_editor_commands.specs.declared.command.Command.{Command}
use Rattle.gixobj_editor_commands.specs.declared.command.Command.TheVariants as command
use Rattle.gixobj_editor_commands.specs.declared.command.Edit.{Edit}
use Rattle.gixobj_editor_commands.specs.declared.command.Edit.TheVariants as edit
use Rattle.gixobj_editor_open.specs.Paths.{names_of}
use Rattle.gixobj_editor.specs.Cursors.{cursor_path}
use Rattle.gixobj_editor_files.proofs.Canonical.{IsBuilt, same_trees}
use Rattle.gixobj_editor_files.proofs.EditedFiles.{root_alone_files, same_files_refl}
use Rattle.gixobj_editor_files.proofs.OpenedFiles.{no_open_files_of_no_entries}
use Rattle.gixobj_editor_files.proofs.Plain.{HasBuilt}
use Rattle.gixobj_editor_files.proofs.PlainHistories.{IsUpTo, steps_plain}
use Rattle.gixobj_editor_files.specs.Files.{FileSet, Files, NamedFiles, SameFiles, Table}
use Rattle.gixobj_editor_files.specs.History.{FilesAfter, Step}
use Rattle.gixobj_editor_files.specs.Opening.{OpenFiles}
use Rattle.gixobj_editor_files.specs.PlainHistory.{HasNoTree, NoFiles}
use Rattle.gixobj_editor_files.specs.State.{DirMap, EditorFiles, State, root_alone}
use Rattle.gixobj_editor_files.specs.Tables.{AgreesWithPairs, HasOneIdPerTree}
use Rattle.gixobj_hash.specs.declared.hash.object_id.ObjectId.{ObjectId}
use Rattle.gixobj_tree_entries.specs.Entries.{EntryView, Pair}
use Rattle.gixobj_tree_entries.specs.Mode.{is_tree_mode, mode_of_kind}
use Rattle.gixobj_tree_entries.specs.declared.entry_kind.EntryKind.{EntryKind}
use Rattle.gixobj_tree_entries.specs.declared.entry_kind.EntryKind.TheVariants as kind
use Rattle.gixobj_editor.specs.Commands.{Location, accepted_steps, at_cursor, at_root, steps_of, steps_of_edit, steps_of_edits}
use Rattle.gixobj_editor.specs.PlainRuns.{NamesNoTree, InsertsNoTree, files_before}
use Rattle.gixobj_editor.specs.declared.reply.EditReply.{EditReply}
use Rattle.gixobj_editor.specs.declared.reply.EditReply.TheVariants as edit_reply
use Rattle.gixobj_editor.specs.declared.reply.Reply.{Reply}
use Rattle.gixobj_editor.specs.declared.reply.Reply.TheVariants as reply

pub mode_of_kind_not_tree : (it : EntryKind) → (it ≡ kind.Tree → ⊥) → is_tree_mode (mode_of_kind it) ≡ false
mode_of_kind_not_tree kind.Tree other = absurd (other refl)
mode_of_kind_not_tree kind.Blob other = refl
mode_of_kind_not_tree kind.BlobExecutable other = refl
mode_of_kind_not_tree kind.Link other = refl
mode_of_kind_not_tree kind.Commit other = refl

-- the files of the tree that an id names
module _ (T : Table) (pairs : List Pair) (known : AgreesWithPairs T pairs) where
  named_files : (n : ℕ) (id : ObjectId) (tree : List EntryView) → Contains pairs (id, tree) → SameFiles (NamedFiles T n id) (Files T n tree)
  named_files n id tree has =
      subst (λ (o : Option (List EntryView)). SameFiles (λ path mode it. MatchOption o ⊥ (λ es. Files T n es path mode it)) (Files T n tree))
      (sym (All-contains (λ pair. T.tree_at pair.0 ≡ Some pair.1) pairs (id, tree) known has)) (same_files_refl (Files T n tree))

  -- the ids of trees that are built up from pairs are equal if and only if the files are
  pub known_by_trees : HasOneIdPerTree pairs → AllByRecursion (HasBuilt pairs) pairs → (x y : ObjectId) (xs ys : List EntryView) → Contains pairs (x, xs)
      → Contains pairs (y, ys)
      → (A B : FileSet) → ((n : ℕ) → IsUpTo n (NamedFiles T n x) A) → ((n : ℕ) → IsUpTo n (NamedFiles T n y) B) → (x ≡ y) ↔ SameFiles A B
  known_by_trees one all x y xs ys has other A B names_x names_y = (
    (λ same path mode id.
        let n = length path in
        let to_x = names_x n path mode id in
        let to_y = names_y n path mode id in (
          (λ h. (to_y.0 (subst (λ (i : ObjectId). NamedFiles T n i path mode id) same (to_x.1 (omega arith, h)))).1),
          λ h. (to_x.0 (subst (λ (i : ObjectId). NamedFiles T n i path mode id) (sym same) (to_y.1 (omega arith, h)))).1,
        )),
    λ same.
        let is_built : (id : ObjectId) (tree : List EntryView) → Contains pairs (id, tree) → IsBuilt pairs tree =
        λ id tree h. All-contains (HasBuilt pairs) pairs (id, tree) (All-from_recursion (HasBuilt pairs) pairs all) h in
        let trees : xs ≡ ys = same_trees T pairs known one xs (is_built x xs has) ys (is_built y ys other) (λ n path mode id.
        let of_x = named_files n x xs has path mode id in
        let of_y = named_files n y ys other path mode id in (
          (λ h. let it = (names_x n path mode id).0 (of_x.1 h) in of_y.0 ((names_y n path mode id).1 (it.0, (same path mode id).0 it.1))),
          λ h. let it = (names_y n path mode id).0 (of_y.1 h) in of_x.0 ((names_x n path mode id).1 (it.0, (same path mode id).1 it.1)),
        )) in
        one ys x y (subst (λ l. Contains pairs (x, l)) trees has) other,
  )

-- no step of a plain run inserts a tree
all_have_no_tree_append : (xs ys : List Step) → AllByRecursion HasNoTree xs → AllByRecursion HasNoTree ys → AllByRecursion HasNoTree (xs ++ ys)
all_have_no_tree_append [] ys h k = k
all_have_no_tree_append (x ∷ xs) ys h k = (h.0, all_have_no_tree_append xs ys h.1 k)

module _ {E : Type 0} where
  edit_steps : (location : Location) (it : Edit) (its_reply : EditReply E) → InsertsNoTree it → AllByRecursion HasNoTree (steps_of_edit location it its_reply)
  edit_steps location (edit.Upsert path k id) edit_reply.Done other = (mode_of_kind_not_tree k other, tt)
  edit_steps location (edit.Remove path) edit_reply.Done other = (tt, tt)
  edit_steps location (edit.RemoveLeaf path) edit_reply.Done other = (tt, tt)
  edit_steps location it its_reply other = tt

  edits_steps : (location : Location) (edits : List Edit) (replies : List (EditReply E)) → AllByRecursion InsertsNoTree edits
      → AllByRecursion HasNoTree (steps_of_edits location edits replies)
  edits_steps location (it ∷ edits) (its_reply ∷ replies) other = all_have_no_tree_append (steps_of_edit location it its_reply)
      (steps_of_edits location edits replies)
      (edit_steps location it its_reply other.0) (edits_steps location edits replies other.1)
  edits_steps location edits replies other = tt

  command_steps : (it : Command) (its_reply : Reply E) → NamesNoTree it → AllByRecursion HasNoTree (steps_of it its_reply)
  command_steps (command.Edit it) (reply.Edit its_reply) other = edit_steps at_root it its_reply other
  command_steps (command.At prefix edits) (reply.At replies) other =
      (tt, edits_steps (at_cursor (cursor_path (names_of prefix.items))) edits.items replies.items (recursion_from_All InsertsNoTree edits.items other))
  command_steps (command.SetRoot entries) reply.RootSet other = (other, tt)
  command_steps it its_reply other = tt

  steps_before : (k : ℕ) (commands : List Command) (replies : List (Reply E)) → AllByRecursion NamesNoTree commands
      → AllByRecursion HasNoTree (accepted_steps (take k commands) (take k replies))
  steps_before zero commands replies other = tt
  steps_before (suc k) [] replies other = tt
  steps_before (suc k) (it ∷ commands) [] other = tt
  steps_before (suc k) (it ∷ commands) (its_reply ∷ replies) other =
      all_have_no_tree_append (steps_of it its_reply) (accepted_steps (take k commands) (take k replies)) (command_steps it its_reply other.0)
      (steps_before k commands replies other.1)

-- a set that equals a set of files of at most n names has files of at most n names
pub is_up_to_of_same_files : (n : ℕ) (A B C : FileSet) → SameFiles A B → IsUpTo n B C → IsUpTo n A C
is_up_to_of_same_files n A B C same is path mode id = ((λ h. (is path mode id).0 ((same path mode id).0 h)), λ h. (same path mode id).1 ((is path mode id).1 h))

-- the history of a plain run on an editor of no files needs no table
pub plain_history_of_prefix : {S E : Type 0} (T : Table) (n : ℕ) (start : State S) (k : ℕ) (commands : List Command) (replies : List (Reply E))
    → start.dirs ≡ root_alone [] → AllByRecursion NamesNoTree commands
    → IsUpTo n (FilesAfter T n (accepted_steps (take k commands) (take k replies)) (EditorFiles T n start)) (files_before k commands replies)
plain_history_of_prefix T n start k commands replies empty other =
    let nothing : IsUpTo n (EditorFiles T n start) NoFiles = λ path mode id. (
      (λ h. absurd (no_open_files_of_no_entries T n path mode id
          ((root_alone_files T n [] path mode id).0 (subst (λ (m : DirMap). OpenFiles T n (λ at. map.get m at) path mode id) empty h)))),
      λ h. absurd h.1,
    ) in
    steps_plain T n (accepted_steps (take k commands) (take k replies)) (steps_before k commands replies other) (EditorFiles T n start) NoFiles nothing
