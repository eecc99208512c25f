-- The tree that a write of the root names has the files that the accepted commands before it make; the proof of `run`
-- uses it for `files_of_root`.
use Rattle.std.proofs.Common.{◌≡◌, ◌∙◌, ⊎_elim, ℕ, zero, suc, List, [], ◌∷◌, ◌++◌, Some, ap, append_assoc, refl, subst, sym, take}
use Rattle.std.specs.List.{flat_map}
use Rattle.gixobj_editor_commands.specs.declared.command.Command.{Command}
use Rattle.gixobj_editor_commands.specs.declared.command.Command.TheVariants as command
use Rattle.gixobj_editor_commands.specs.declared.command.Edit.{Edit}
use Rattle.gixobj_editor_commands.specs.declared.command.Edit.TheVariants as edit
use Rattle.gixobj_store.specs.Stores.{StoreModel, Objects}
use Rattle.gixobj_editor_lookups.proofs.NamedTrees.{trees_of_objects_exist}
use Rattle.gixobj_editor_open.specs.Paths.{names_of}
use Rattle.gixobj_editor_lookups.specs.Openings.{AreTreesOf, OfTrees}
use Rattle.gixobj_editor_write.specs.declared.write.Written.{Written}
use Rattle.gixobj_editor.specs.Cursors.{IsEnsured, cursor_path}
use Rattle.gixobj_editor_files.proofs.EditedFiles.{same_files_refl}
use Rattle.gixobj_editor_files.specs.Bases.{HasBases}
use Rattle.gixobj_editor_files.specs.Files.{NamedFiles, Path, SameFiles, Table, Trees}
use Rattle.gixobj_editor_files.specs.History.{FilesAfter, ensure}
use Rattle.gixobj_editor_files.specs.State.{EditorFiles, State, open_bases, open_dirs}
use Rattle.gixobj_tree_entries.specs.Entries.{Pair}
use Rattle.gixobj_editor_files.specs.Tables.{AgreesWithPairs, AgreesWithStore}
use Rattle.gixobj_store_keep.specs.Keeping.{with_trees}
use Rattle.gixobj_editor.specs.Commands.{Location, accepted_steps, at_cursor, at_root, kept_of, kept_of_edit, emitted_pairs, kept_pairs, pairs_of}
use Rattle.gixobj_editor.specs.Commands.{pairs_of_edit, pairs_of_write, steps_at, steps_of, steps_of_edit, steps_of_edits, written_at, written_by}
use Rattle.gixobj_editor.specs.Replies.{Answers, AreEditReplies, IsEditReply, IsReply, IsReplyAt, IsRun, IsWriteKept, IsWrittenAt}
use Rattle.gixobj_editor.specs.RunTables.{AgreesWithObjects, AgreesWithRun}
use Rattle.gixobj_editor.specs.declared.reply.EditReply.{EditReply}
use Rattle.gixobj_editor.specs.declared.reply.EditReply.TheVariants as edit_reply
use Rattle.gixobj_editor.specs.declared.reply.Reply.{Reply}
use Rattle.gixobj_editor.specs.declared.reply.Reply.TheVariants as reply
use Rattle.gixobj_editor_files.proofs.Histories.{history_append_same_files}
use Rattle.gixobj_editor.proofs.Keeping.{AgreesThroughout, agrees_with_prefix, agrees_with_suffix, with_trees_append_stored, agrees_throughout_prefix}
use Rattle.gixobj_editor.proofs.Keeping.{agrees_throughout_suffix}

-- a store has trees, so that what holds for its trees holds for some
trees_exist_of_objects : (objects : Objects) (P : Trees → Type 0) → OfTrees objects P → (trees : Trees) × AreTreesOf objects trees × P trees
trees_exist_of_objects objects P says = let it = trees_of_objects_exist objects in (it.0, it.1, says it.0 it.1)

-- the pairs of a write are those of its reply
pairs_of_written_reply : {E : Type 0} (its_reply : Reply E) (written : Written) → written_by its_reply ≡ Some written → pairs_of its_reply ≡ written.trees.items
pairs_of_written_reply (reply.Edit it) written is = ap pairs_of_write is
pairs_of_written_reply (reply.At replies) written is = absurd (cc is)
pairs_of_written_reply (reply.AtRefused error) written is = absurd (cc is)
pairs_of_written_reply reply.RootSet written is = absurd (cc is)
pairs_of_written_reply reply.RootRefused written is = absurd (cc is)

-- what a list yields begins with what its prefix yields
flat_map_take_is_prefix : {A B : Type 0} (f : A → List B) (k : ℕ) (xs : List A) → (rest : List B) × (flat_map f xs ≡ flat_map f (take k xs) ++ rest)
flat_map_take_is_prefix f zero xs = (flat_map f xs, refl)
flat_map_take_is_prefix f (suc k) [] = ([], refl)
flat_map_take_is_prefix f (suc k) (x ∷ xs) = let more =
    flat_map_take_is_prefix f k xs in (more.0, ap (λ l. f x ++ l) more.1 ∙ sym (append_assoc (f x) (flat_map f (take k xs)) more.0))

-- a table that agrees with a run agrees with each prefix of its replies, and with the pairs of each of its writes
pub agrees_with_run_prefix : {E : Type 0} (T : Table) (objects : Objects) (k : ℕ) (replies : List (Reply E)) → AgreesWithRun T objects replies
    → AgreesWithRun T objects (take k replies)
agrees_with_run_prefix T objects k replies agrees =
    let is_prefix = flat_map_take_is_prefix pairs_of k replies in
    let kept = flat_map_take_is_prefix kept_of k replies in
    record {
      writes = agrees_with_prefix T (emitted_pairs (take k replies)) is_prefix.0 (subst (λ (ps : List Pair). AgreesWithPairs T ps) is_prefix.1 agrees.writes);
      stores = agrees_throughout_prefix T (kept_pairs (take k replies)) kept.0 objects
          (subst (λ (ps : List Pair). AgreesThroughout T ps objects) kept.1 agrees.stores);
    }

pub agrees_with_written_pairs : {E : Type 0} (T : Table) (replies : List (Reply E)) → AgreesWithPairs T (emitted_pairs replies) → (k : ℕ) (written : Written)
    → written_at replies k ≡ Some written → AgreesWithPairs T written.trees.items
agrees_with_written_pairs T [] agrees k written is = absurd (cc is)
agrees_with_written_pairs T (r ∷ replies) agrees zero written is = subst (λ (ps : List Pair). AgreesWithPairs T ps) (pairs_of_written_reply r written is)
    (agrees_with_prefix T (pairs_of r) (emitted_pairs replies) agrees)
agrees_with_written_pairs T (r ∷ replies) agrees (suc k) written is =
    agrees_with_written_pairs T replies (agrees_with_suffix T (pairs_of r) (emitted_pairs replies) agrees) k written is

module _ {S E : Type 0} (model : StoreModel S) (answers : Answers E) where
  pub edit_keeps : (location : Location) (old new : State S) (it : Edit) (its_reply : EditReply E) → IsEditReply model answers location old it its_reply new
      → model.objects new.store ≡ with_trees (kept_of_edit its_reply) (model.objects old.store)
  edit_keeps location old new (edit.Upsert path kind id) edit_reply.Done h = let it =
      trees_exist_of_objects _ _ h in ap (λ (s : State S). model.objects s.store) it.2.rest
  edit_keeps location old new (edit.Upsert path kind id) (edit_reply.Refused error) h = let it =
      trees_exist_of_objects _ _ h.0.effect in ap (λ (s : State S). model.objects s.store) it.2.rest
  edit_keeps location old new (edit.Remove path) edit_reply.Done h = let it = trees_exist_of_objects _ _ h in
      ap (λ (s : State S). model.objects s.store) it.2.rest
  edit_keeps location old new (edit.Remove path) (edit_reply.Refused error) h = let it =
      trees_exist_of_objects _ _ h.effect in ap (λ (s : State S). model.objects s.store) it.2.rest
  edit_keeps location old new (edit.RemoveLeaf path) edit_reply.Done h = let it =
      trees_exist_of_objects _ _ h in ap (λ (s : State S). model.objects s.store) it.2.removed.rest
  edit_keeps location old new (edit.RemoveLeaf path) (edit_reply.Refused error) h = let it =
      trees_exist_of_objects _ _ h.effect in ap (λ (s : State S). model.objects s.store) it.2.rest
  edit_keeps location old new edit.Write (edit_reply.Written written) h = h.stored.0
  edit_keeps location old new edit.Write (edit_reply.NotKept written count error) h = h.stored.stored
  edit_keeps location old new edit.Write (edit_reply.WriteRefused error) h = ap (λ (s : State S). model.objects s.store) h.unchanged
  edit_keeps location old new it its_reply h = absurd h

  edits_keep : (location : Location) (old new : State S) (edits : List Edit) (replies : List (EditReply E))
      → AreEditReplies model answers location old edits replies new
      → model.objects new.store ≡ with_trees (flat_map kept_of_edit replies) (model.objects old.store)
  edits_keep location old new [] [] h = ap (λ (s : State S). model.objects s.store) h
  edits_keep location old new (it ∷ edits) (r ∷ replies) (between, first, rest) =
      with_trees_append_stored (kept_of_edit r) (flat_map kept_of_edit replies) (model.objects old.store) (model.objects between.store)
      (model.objects new.store)
      (edit_keeps location old between it r first)
      (edits_keep location between new edits replies rest)
  edits_keep location old new [] (r ∷ replies) h = absurd h
  edits_keep location old new (it ∷ edits) [] h = absurd h

  pub ensured_keeps : (prefix : Path) (old new : State S) → OfTrees (model.objects old.store) (λ trees. IsEnsured trees old prefix new)
      → model.objects new.store ≡ model.objects old.store
  ensured_keeps prefix old new h = let it = trees_exist_of_objects _ _ h in ap (λ (s : State S). model.objects s.store) it.2.rest

  at_keeps : (prefix : Path) (old new : State S) (edits : List Edit) (its_reply : Reply E) → IsReplyAt model answers prefix old edits its_reply new
      → model.objects new.store ≡ with_trees (kept_of its_reply) (model.objects old.store)
  at_keeps prefix old new edits (reply.At replies) (between, ensured, rest) =
      with_trees_append_stored [] (flat_map kept_of_edit replies.items) (model.objects old.store) (model.objects between.store) (model.objects new.store)
      (ensured_keeps prefix old between ensured)
      (edits_keep (at_cursor prefix) between new edits replies.items rest)
  at_keeps prefix old new edits (reply.AtRefused error) h = ⊎_elim (λ wanting. ap (λ (s : State S). model.objects s.store) wanting.1)
      (λ rejected. let it = trees_exist_of_objects _ _ rejected.0.effect in ap (λ (s : State S). model.objects s.store) it.2.rest) h
  at_keeps prefix old new edits its_reply h = absurd h

  -- the store changes by the trees that the reply reports as kept
  pub command_keeps : (old new : State S) (it : Command) (its_reply : Reply E) → IsReply model answers old it its_reply new
      → model.objects new.store ≡ with_trees (kept_of its_reply) (model.objects old.store)
  command_keeps old new (command.Edit it) (reply.Edit its_reply) h = edit_keeps at_root old new it its_reply h
  command_keeps old new (command.At prefix edits) its_reply h = at_keeps (cursor_path (names_of prefix.items)) old new edits.items its_reply h
  command_keeps old new (command.SetRoot entries) reply.RootSet h = ap (λ (s : State S). model.objects s.store) h.state
  command_keeps old new (command.SetRoot entries) reply.RootRefused h = ap (λ (s : State S). model.objects s.store) h.1
  command_keeps old new it its_reply h = absurd h

  -- a run changes the store by the pairs that its replies report as kept
  pub run_keeps_pairs : (old new : State S) (commands : List Command) (replies : List (Reply E)) → IsRun model answers old commands replies new
      → model.objects new.store ≡ with_trees (kept_pairs replies) (model.objects old.store)
  run_keeps_pairs old new [] [] h = ap (λ (s : State S). model.objects s.store) h
  run_keeps_pairs old new (it ∷ commands) (r ∷ replies) (between, first, rest) =
      with_trees_append_stored (kept_of r) (kept_pairs replies) (model.objects old.store) (model.objects between.store) (model.objects new.store)
      (command_keeps old between it r first) (run_keeps_pairs between new commands replies rest)
  run_keeps_pairs old new [] (r ∷ replies) h = absurd h
  run_keeps_pairs old new (it ∷ commands) [] h = absurd h

  module _ (T : Table) (n : ℕ) where
    -- what holds for the store's trees holds for some trees with which the table agrees
    agreed : (old : State S) (P : Trees → Type 0) → AgreesWithObjects T (model.objects old.store) → OfTrees (model.objects old.store) P
        → (trees : Trees)
        × AgreesWithStore T trees × P trees
    agreed old P agrees says = let it =
        trees_exist_of_objects (model.objects old.store) P says in (it.0, (λ id entries other is. agrees id entries other ((it.1 id entries).0 is)), it.2)

    unchanged : (old new : State S) → new ≡ old → SameFiles (EditorFiles T n new) (EditorFiles T n old)
    unchanged old new same = subst (λ (s : State S). SameFiles (EditorFiles T n s) (EditorFiles T n old)) (sym same) (same_files_refl (EditorFiles T n old))

    written_files : (location : Location) (old new : State S) (it : Written) → IsWrittenAt answers location it old new → AgreesWithPairs T it.trees.items
        → HasBases T (open_dirs old) (open_bases old) → SameFiles (EditorFiles T n new) (EditorFiles T n old)
    written_files at_root old new it h agrees has = h.same_files T n agrees has
    written_files (at_cursor prefix) old new it h agrees has = h.same_files T n agrees has

    write_files : (location : Location) (old new : State S) (it : Written) (Keeps : Objects → Objects → Type 0)
        → IsWriteKept model (IsWrittenAt answers location it old) Keeps old new → AgreesWithPairs T it.trees.items
        → HasBases T (open_dirs old) (open_bases old)
        → SameFiles (EditorFiles T n new) (EditorFiles T n old)
    write_files location old new it Keeps h agrees has = subst (λ (s : State S). SameFiles (EditorFiles T n s) (EditorFiles T n old)) (sym h.rest)
        (written_files location old h.between it h.written agrees has)

    -- the table has the bases after each command
    unmoved : (old new : State S) → new ≡ old → HasBases T (open_dirs old) (open_bases old) → HasBases T (open_dirs new) (open_bases new)
    unmoved old new same has = subst (λ (s : State S). HasBases T (open_dirs s) (open_bases s)) (sym same) has

    written_based : (location : Location) (old new : State S) (it : Written) → IsWrittenAt answers location it old new
        → HasBases T (open_dirs old) (open_bases old)
        → HasBases T (open_dirs new) (open_bases new)
    written_based at_root old new it h has = h.has_bases T
    written_based (at_cursor prefix) old new it h has = h.has_bases T has

    write_based : (location : Location) (old new : State S) (it : Written) (Keeps : Objects → Objects → Type 0)
        → IsWriteKept model (IsWrittenAt answers location it old) Keeps old new → HasBases T (open_dirs old) (open_bases old)
        → HasBases T (open_dirs new) (open_bases new)
    write_based location old new it Keeps h has = subst (λ (s : State S). HasBases T (open_dirs s) (open_bases s)) (sym h.rest)
        (written_based location old h.between it h.written has)

    edit_based : (location : Location) (old new : State S) (it : Edit) (its_reply : EditReply E) → IsEditReply model answers location old it its_reply new
        → AgreesWithObjects T (model.objects old.store) → HasBases T (open_dirs old) (open_bases old) → HasBases T (open_dirs new) (open_bases new)
    edit_based location old new (edit.Upsert path kind id) edit_reply.Done h agrees has = let it = agreed old _ agrees h in it.2.has_bases T it.1 has
    edit_based location old new (edit.Upsert path kind id) (edit_reply.Refused error) h agrees has = let it =
        agreed old _ agrees h.0.effect in it.2.has_bases T it.1 has
    edit_based location old new (edit.Remove path) edit_reply.Done h agrees has = let it = agreed old _ agrees h in it.2.has_bases T it.1 has
    edit_based location old new (edit.Remove path) (edit_reply.Refused error) h agrees has = let it =
        agreed old _ agrees h.effect in it.2.has_bases T it.1 has
    edit_based location old new (edit.RemoveLeaf path) edit_reply.Done h agrees has = let it = agreed old _ agrees h in it.2.removed.has_bases T it.1 has
    edit_based location old new (edit.RemoveLeaf path) (edit_reply.Refused error) h agrees has = let it =
        agreed old _ agrees h.effect in it.2.has_bases T it.1 has
    edit_based location old new edit.Write (edit_reply.Written written) h agrees has = write_based location old new written _ h has
    edit_based location old new edit.Write (edit_reply.NotKept written count error) h agrees has = write_based location old new written _ h has
    edit_based location old new edit.Write (edit_reply.WriteRefused error) h agrees has = unmoved old new h.unchanged has
    edit_based location old new it its_reply h agrees has = absurd h

    edits_based : (location : Location) (old new : State S) (edits : List Edit) (replies : List (EditReply E))
        → AreEditReplies model answers location old edits replies new
        → AgreesThroughout T (flat_map kept_of_edit replies) (model.objects old.store) → HasBases T (open_dirs old) (open_bases old)
        → HasBases T (open_dirs new) (open_bases new)
    edits_based location old new [] [] h agrees has = unmoved old new h has
    edits_based location old new (it ∷ edits) (r ∷ replies) (between, first, rest) agrees has =
        edits_based location between new edits replies rest (agrees_throughout_suffix T (kept_of_edit r) (flat_map kept_of_edit replies)
        (model.objects old.store)
        (model.objects between.store) (edit_keeps location old between it r first) agrees)
        (edit_based location old between it r first (agrees zero) has)
    edits_based location old new [] (r ∷ replies) h agrees has = absurd h
    edits_based location old new (it ∷ edits) [] h agrees has = absurd h

    at_based : (prefix : Path) (old new : State S) (edits : List Edit) (its_reply : Reply E) → IsReplyAt model answers prefix old edits its_reply new
        → AgreesThroughout T (kept_of its_reply) (model.objects old.store) → HasBases T (open_dirs old) (open_bases old)
        → HasBases T (open_dirs new) (open_bases new)
    at_based prefix old new edits (reply.At replies) (between, ensured, rest) agrees has =
        let it = agreed old _ (agrees zero) ensured in
        edits_based (at_cursor prefix) between new edits replies.items rest
        (agrees_throughout_suffix T [] (flat_map kept_of_edit replies.items) (model.objects old.store) (model.objects between.store)
        (ensured_keeps prefix old between ensured) agrees) (it.2.has_bases T it.1 has)
    at_based prefix old new edits (reply.AtRefused error) h agrees has =
        ⊎_elim (λ wanting. unmoved old new wanting.1 has)
        (λ rejected. let it = agreed old _ (agrees zero) rejected.0.effect in it.2.has_bases T it.1 has) h
    at_based prefix old new edits its_reply h agrees has = absurd h

    command_based : (old new : State S) (it : Command) (its_reply : Reply E) → IsReply model answers old it its_reply new
        → AgreesThroughout T (kept_of its_reply) (model.objects old.store) → HasBases T (open_dirs old) (open_bases old)
        → HasBases T (open_dirs new) (open_bases new)
    command_based old new (command.Edit it) (reply.Edit its_reply) h agrees has = edit_based at_root old new it its_reply h (agrees zero) has
    command_based old new (command.At prefix edits) its_reply h agrees has =
        at_based (cursor_path (names_of prefix.items)) old new edits.items its_reply h agrees has
    command_based old new (command.SetRoot entries) reply.RootSet h agrees has = h.has_bases T
    command_based old new (command.SetRoot entries) reply.RootRefused h agrees has = unmoved old new h.1 has
    command_based old new it its_reply h agrees has = absurd h

    edit_files : (location : Location) (old new : State S) (it : Edit) (its_reply : EditReply E) → IsEditReply model answers location old it its_reply new
        → AgreesWithObjects T (model.objects old.store) → AgreesWithPairs T (pairs_of_edit its_reply) → HasBases T (open_dirs old) (open_bases old)
        → SameFiles (EditorFiles T n new) (FilesAfter T n (steps_of_edit location it its_reply) (EditorFiles T n old))
    edit_files location old new (edit.Upsert path kind id) edit_reply.Done h agrees pairs has = let it = agreed old _ agrees h in it.2.files T n it.1
    edit_files location old new (edit.Upsert path kind id) (edit_reply.Refused error) h agrees pairs has = let it =
        agreed old _ agrees h.0.effect in it.2.files T n it.1
    edit_files location old new (edit.Remove path) edit_reply.Done h agrees pairs has = let it = agreed old _ agrees h in it.2.files T n it.1
    edit_files location old new (edit.Remove path) (edit_reply.Refused error) h agrees pairs has = let it =
        agreed old _ agrees h.effect in it.2.files T n it.1
    edit_files location old new (edit.RemoveLeaf path) edit_reply.Done h agrees pairs has = let it = agreed old _ agrees h in it.2.removed.files T n it.1
    edit_files location old new (edit.RemoveLeaf path) (edit_reply.Refused error) h agrees pairs has = let it =
        agreed old _ agrees h.effect in it.2.files T n it.1
    edit_files location old new edit.Write (edit_reply.Written written) h agrees pairs has = write_files location old new written _ h pairs has
    edit_files location old new edit.Write (edit_reply.NotKept written count error) h agrees pairs has = write_files location old new written _ h pairs has
    edit_files location old new edit.Write (edit_reply.WriteRefused error) h agrees pairs has = unchanged old new h.unchanged
    edit_files location old new it its_reply h agrees pairs has = absurd h

    edits_files : (location : Location) (old new : State S) (edits : List Edit) (replies : List (EditReply E))
        → AreEditReplies model answers location old edits replies new
        → AgreesThroughout T (flat_map kept_of_edit replies) (model.objects old.store) → AgreesWithPairs T (flat_map pairs_of_edit replies)
        → HasBases T (open_dirs old) (open_bases old)
        → SameFiles (EditorFiles T n new) (FilesAfter T n (steps_of_edits location edits replies) (EditorFiles T n old))
    edits_files location old new [] [] h agrees pairs has = unchanged old new h
    edits_files location old new (it ∷ edits) (r ∷ replies) (between, first, rest) agrees pairs has =
        let kept = edit_keeps location old between it r first in
        history_append_same_files T n (steps_of_edit location it r) (steps_of_edits location edits replies) (EditorFiles T n old) (EditorFiles T n between)
        (EditorFiles T n new)
        (edit_files location old between it r first (agrees zero) (agrees_with_prefix T (pairs_of_edit r) (flat_map pairs_of_edit replies) pairs) has)
        (edits_files location between new edits replies rest
        (agrees_throughout_suffix T (kept_of_edit r) (flat_map kept_of_edit replies) (model.objects old.store)
        (model.objects between.store) kept agrees)
        (agrees_with_suffix T (pairs_of_edit r) (flat_map pairs_of_edit replies) pairs) (edit_based location old between it r first (agrees zero) has))
    edits_files location old new [] (r ∷ replies) h agrees pairs has = absurd h
    edits_files location old new (it ∷ edits) [] h agrees pairs has = absurd h

    at_files : (prefix : Path) (old new : State S) (edits : List Edit) (its_reply : Reply E) → IsReplyAt model answers prefix old edits its_reply new
        → AgreesThroughout T (kept_of its_reply) (model.objects old.store) → AgreesWithPairs T (pairs_of its_reply)
        → HasBases T (open_dirs old) (open_bases old)
        → SameFiles (EditorFiles T n new) (FilesAfter T n (steps_at prefix edits its_reply) (EditorFiles T n old))
    at_files prefix old new edits (reply.At replies) (between, ensured, rest) agrees pairs has =
        let it = agreed old _ (agrees zero) ensured in
        history_append_same_files T n (ensure prefix ∷ []) (steps_of_edits (at_cursor prefix) edits replies.items) (EditorFiles T n old)
        (EditorFiles T n between)
        (EditorFiles T n new)
        (it.2.files T n it.1)
        (edits_files (at_cursor prefix) between new edits replies.items rest
        (agrees_throughout_suffix T [] (flat_map kept_of_edit replies.items) (model.objects old.store) (model.objects between.store)
        (ensured_keeps prefix old between ensured) agrees) pairs (it.2.has_bases T it.1 has))
    at_files prefix old new edits (reply.AtRefused error) h agrees pairs has =
        ⊎_elim (λ wanting. unchanged old new wanting.1) (λ rejected. let it = agreed old _ (agrees zero) rejected.0.effect in it.2.files T n it.1)
        h
    at_files prefix old new edits its_reply h agrees pairs has = absurd h

    -- a command makes of the files before it what its steps say
    command_files : (old new : State S) (it : Command) (its_reply : Reply E) → IsReply model answers old it its_reply new
        → AgreesThroughout T (kept_of its_reply) (model.objects old.store) → AgreesWithPairs T (pairs_of its_reply)
        → HasBases T (open_dirs old) (open_bases old)
        → SameFiles (EditorFiles T n new) (FilesAfter T n (steps_of it its_reply) (EditorFiles T n old))
    command_files old new (command.Edit it) (reply.Edit its_reply) h agrees pairs has =
        edit_files at_root old new it its_reply h (agrees zero) pairs has
    command_files old new (command.At prefix edits) its_reply h agrees pairs has =
        at_files (cursor_path (names_of prefix.items)) old new edits.items its_reply h agrees pairs has
    command_files old new (command.SetRoot entries) reply.RootSet h agrees pairs has = h.files T n
    command_files old new (command.SetRoot entries) reply.RootRefused h agrees pairs has = unchanged old new h.1
    command_files old new it its_reply h agrees pairs has = absurd h

    named : (old : State S) (w written : Written) → Some w ≡ Some written → SameFiles (NamedFiles T n w.id) (EditorFiles T n old)
        → SameFiles (NamedFiles T n written.id) (EditorFiles T n old)
    named old w written is h = let same : w ≡ written = cc is in subst (λ (it : Written). SameFiles (NamedFiles T n it.id) (EditorFiles T n old)) same
        h

    edit_names : (old new : State S) (it : Edit) (its_reply : EditReply E) (written : Written)
        → IsEditReply model answers at_root old it its_reply new
        → written_by (reply.Edit its_reply) ≡ Some written → AgreesWithPairs T (pairs_of_edit its_reply) → HasBases T (open_dirs old) (open_bases old)
        → SameFiles (NamedFiles T n written.id) (EditorFiles T n old)
    edit_names old new edit.Write (edit_reply.Written w) written h is pairs has = named old w written is (h.written.files T n pairs has)
    edit_names old new edit.Write (edit_reply.NotKept w count error) written h is pairs has = named old w written is (h.written.files T n pairs has)
    edit_names old new it edit_reply.Done written h is pairs has = absurd (cc is)
    edit_names old new it (edit_reply.Refused error) written h is pairs has = absurd (cc is)
    edit_names old new it (edit_reply.WriteRefused error) written h is pairs has = absurd (cc is)
    edit_names old new it its_reply written h is pairs has = absurd h

    -- a successful write of the root names the files before it
    write_names : (old new : State S) (it : Command) (its_reply : Reply E) (written : Written) → IsReply model answers old it its_reply new
        → written_by its_reply ≡ Some written → AgreesWithPairs T (pairs_of its_reply) → HasBases T (open_dirs old) (open_bases old)
        → SameFiles (NamedFiles T n written.id) (EditorFiles T n old)
    write_names old new (command.Edit it) (reply.Edit its_reply) written h is pairs has = edit_names old new it its_reply written h is pairs has
    write_names old new it (reply.At replies) written h is pairs has = absurd (cc is)
    write_names old new it (reply.AtRefused error) written h is pairs has = absurd (cc is)
    write_names old new it reply.RootSet written h is pairs has = absurd (cc is)
    write_names old new it reply.RootRefused written h is pairs has = absurd (cc is)
    write_names old new it its_reply written h is pairs has = absurd h

    pub agrees_later : (first : Reply E) (replies : List (Reply E)) (old between : Objects) → between ≡ with_trees (kept_of first) old
        → AgreesWithRun T old (first ∷ replies) → AgreesWithRun T between replies
    agrees_later first replies old between kept agrees = record {
      writes = agrees_with_suffix T (pairs_of first) (emitted_pairs replies) agrees.writes;
      stores = agrees_throughout_suffix T (kept_of first) (kept_pairs replies) old between kept agrees.stores;
    }

    -- a successful write of the root names what the accepted commands before it make of the files at the start
    pub names_history : (start last : State S) (commands : List Command) (replies : List (Reply E)) → IsRun model answers start commands replies last
        → (k : ℕ) (written : Written) → written_at replies k ≡ Some written → AgreesWithRun T (model.objects start.store) (take k replies)
        → AgreesWithPairs T written.trees.items → HasBases T (open_dirs start) (open_bases start)
        → SameFiles (NamedFiles T n written.id) (FilesAfter T n (accepted_steps (take k commands) (take k replies)) (EditorFiles T n start))
    names_history start last [] [] run k written is agrees pairs has = absurd (cc is)
    names_history start last [] (r ∷ replies) run k written is agrees pairs has = absurd run
    names_history start last (c ∷ commands) [] run k written is agrees pairs has = absurd run
    names_history start last (c ∷ commands) (r ∷ replies) (between, first, run) zero written is agrees pairs has =
        write_names start between c r written first is (subst (λ (ps : List Pair). AgreesWithPairs T ps) (sym (pairs_of_written_reply r written is)) pairs) has
    names_history start last (c ∷ commands) (r ∷ replies) (between, first, run) (suc k) written is agrees pairs has =
        let stores = agrees_throughout_prefix T (kept_of r) (kept_pairs (take k replies)) (model.objects start.store) agrees.stores in
        history_append_same_files T n (steps_of c r) (accepted_steps (take k commands) (take k replies)) (EditorFiles T n start) (EditorFiles T n between)
        (NamedFiles T n written.id)
        (command_files start between c r first stores (agrees_with_prefix T (pairs_of r) (emitted_pairs (take k replies)) agrees.writes) has)
        (names_history between last commands replies run k written is
        (agrees_later r (take k replies) (model.objects start.store) (model.objects between.store)
        (command_keeps start between c r first) agrees) pairs (command_based start between c r first stores has))
