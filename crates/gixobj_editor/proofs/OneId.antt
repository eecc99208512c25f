-- Two writes of a plain run name one id if and only if their files are equal; the proof of `run` uses it for `one_id`.
use Rattle.std.proofs.Common.{◌≡◌, ◌∙◌, ⊎_elim, ℕ, zero, suc, List, [], ◌∷◌, ◌++◌, Contains, Some, refl, sym, ap, subst, take}
use Rattle.std.specs.FinMap as map
use Rattle.std.specs.List.{AllByRecursion, flat_map}
use Rattle.std.proofs.lemmas.List.Elements.{All-contains_itself, Contains-append_left, Contains-append_right, Contains-push, recursion_from_All}
use Rattle.gixobj_editor_lookups.specs.Openings.{OfTrees}
use Rattle.gixobj_editor_commands.specs.declared.command.Command.{Command}
use Rattle.gixobj_editor_commands.specs.declared.command.Command.TheVariants as command
use Rattle.gixobj_editor_commands.specs.declared.command.Edit.{Edit}
use Rattle.gixobj_editor_commands.specs.declared.command.Edit.TheVariants as edit
use Rattle.gixobj_store.specs.Stores.{StoreModel, Objects}
use Rattle.gixobj_editor_lookups.proofs.NamedTrees.{trees_of_objects_exist}
use Rattle.gixobj_editor_open.specs.Paths.{names_of}
use Rattle.gixobj_editor_write.specs.declared.write.Written.{Written}
use Rattle.gixobj_editor.specs.Cursors.{cursor_path}
use Rattle.gixobj_editor_files.proofs.Calls.{root_alone_has_bases}
use Rattle.gixobj_editor_files.proofs.EditedFiles.{root_alone_at_root, root_alone_below_root}
use Rattle.gixobj_editor_files.proofs.Everywhere.{Everywhere}
use Rattle.gixobj_editor_files.proofs.WellFormedEdits.{root_alone_is_opened}
use Rattle.gixobj_editor_files.proofs.PlainHistories.{IsUpTo}
use Rattle.gixobj_editor_files.proofs.Plain.{HasBuilt, Plain, all_joined, all_remaining, all_right}
use Rattle.gixobj_editor_files.specs.Bases.{HasBases}
use Rattle.gixobj_editor_files.specs.Files.{NamedFiles, Path, Table, Trees}
use Rattle.gixobj_editor_files.specs.Opening.{Dirs, HasAt, IsOpened}
use Rattle.gixobj_editor_files.specs.State.{DirMap, State, open_bases, open_dirs, root_alone}
use Rattle.gixobj_editor_files.specs.Tables.{AgreesWithPairs, AgreesWithStore}
use Rattle.gixobj_tree_entries.specs.Entries.{EntryView, Pair}
use Rattle.gixobj_editor.proofs.Keeping.{AgreesThroughout, agrees_throughout_prefix, agrees_throughout_suffix}
use Rattle.gixobj_editor.proofs.Named.{agrees_with_run_prefix, agrees_later, agrees_with_written_pairs, ensured_keeps, command_keeps, edit_keeps, names_history}
use Rattle.gixobj_editor.proofs.Reported.{mode_of_kind_not_tree, plain_history_of_prefix, known_by_trees, is_up_to_of_same_files}
use Rattle.gixobj_editor.proofs.PlainRuns.{AreBuilt, IsPlainState, Within, plain_ensured, plain_below, plain_failed, plain_removed, plain_root, plain_upserted}
use Rattle.gixobj_editor.specs.Commands.{Location, at_cursor, at_root, kept_of, kept_of_edit, emitted_pairs, kept_pairs, pairs_of, pairs_of_edit, written_at}
use Rattle.gixobj_editor.specs.Commands.{written_by}
use Rattle.gixobj_editor.specs.PlainRuns.{IdsDetermineFiles, IsPlainRun, NamesNoTree, InsertsNoTree, files_before}
use Rattle.gixobj_editor.specs.Replies.{Answers, AreEditReplies, ReturnsTreeId, IsEditReply, IsReply, IsReplyAt, IsRun, IsWriteKept, IsWrittenAt}
use Rattle.gixobj_editor.specs.RunTables.{AgreesWithObjects, AgreesWithRun}
use Rattle.gixobj_editor.specs.declared.reply.EditReply.{EditReply}
use Rattle.gixobj_editor.specs.declared.reply.EditReply.TheVariants as edit_reply
use Rattle.gixobj_editor.specs.declared.reply.Reply.{Reply}
use Rattle.gixobj_editor.specs.declared.reply.Reply.TheVariants as reply

module _ {S E : Type 0} (model : StoreModel S) (answers : Answers E) (T : Table) (pairs : List Pair) (known : AgreesWithPairs T pairs) where
  abbrev Holds : State S → Type 0
  Holds state = IsPlainState T pairs known state

  -- what holds for the store's trees holds for some trees with which the table agrees
  agreed : (old : State S) (P : Trees → Type 0) → AgreesWithObjects T (model.objects old.store) → OfTrees (model.objects old.store) P
      → (trees : Trees)
      × AgreesWithStore T trees × P trees
  agreed old P agrees says = let it =
      trees_of_objects_exist (model.objects old.store) in (it.0, (λ id entries other is. agrees id entries other ((it.1 id entries).0 is)), says it.0 it.1)

  same_state : (old new : State S) → new ≡ old → Holds old → Holds new
  same_state old new same holds = subst (λ (s : State S). Holds s) (sym same) holds

  written_plain : (location : Location) (old new : State S) (it : Written) → IsWrittenAt answers location it old new → Holds old
      → Within T pairs known it.trees.items
      → Holds new × AreBuilt T pairs known it.trees.items
  written_plain at_root old new it h holds within = plain_root T pairs known (ReturnsTreeId answers) tt tt old new it holds h within
  written_plain (at_cursor prefix) old new it h holds within =
      plain_below T pairs known (ReturnsTreeId answers) tt tt old new prefix it holds h within

  write_plain : (location : Location) (old new : State S) (it : Written) (Keeps : Objects → Objects → Type 0)
      → IsWriteKept model (IsWrittenAt answers location it old) Keeps old new → Holds old → Within T pairs known it.trees.items → Holds new
      × AreBuilt T pairs known it.trees.items
  write_plain location old new it Keeps h holds within = let so = written_plain location old h.between it h.written holds within in
      (subst (λ (s : State S). Holds s) (sym h.rest) so.0, so.1)

  edit_plain : (location : Location) (old new : State S) (it : Edit) (its_reply : EditReply E) → InsertsNoTree it
      → IsEditReply model answers location old it its_reply new → AgreesWithObjects T (model.objects old.store) → Holds old
      → Within T pairs known (pairs_of_edit its_reply)
      → Holds new × AreBuilt T pairs known (pairs_of_edit its_reply)
  edit_plain location old new (edit.Upsert path k id) edit_reply.Done other h agrees holds within = let it =
      agreed old _ agrees h in (plain_upserted T pairs known it.0 it.1 old new holds _ _ _ (mode_of_kind_not_tree k other) it.2, tt)
  edit_plain location old new (edit.Upsert path k id) (edit_reply.Refused error) other h agrees holds within = let it =
      agreed old _ agrees h.0.effect in (plain_failed T pairs known it.0 it.1 old new holds model _ error it.2, tt)
  edit_plain location old new (edit.Remove path) edit_reply.Done other h agrees holds within = let it =
      agreed old _ agrees h in (plain_removed T pairs known it.0 it.1 old new holds _ it.2, tt)
  edit_plain location old new (edit.Remove path) (edit_reply.Refused error) other h agrees holds within = let it =
      agreed old _ agrees h.effect in (plain_failed T pairs known it.0 it.1 old new holds model _ error it.2, tt)
  edit_plain location old new (edit.RemoveLeaf path) edit_reply.Done other h agrees holds within = let it =
      agreed old _ agrees h in (plain_removed T pairs known it.0 it.1 old new holds _ it.2.removed, tt)
  edit_plain location old new (edit.RemoveLeaf path) (edit_reply.Refused error) other h agrees holds within = let it =
      agreed old _ agrees h.effect in (plain_failed T pairs known it.0 it.1 old new holds model _ error it.2, tt)
  edit_plain location old new edit.Write (edit_reply.Written written) other h agrees holds within = write_plain location old new written _ h holds within
  edit_plain location old new edit.Write (edit_reply.NotKept written count error) other h agrees holds within =
      write_plain location old new written _ h holds within
  edit_plain location old new edit.Write (edit_reply.WriteRefused error) other h agrees holds within = (same_state old new h.unchanged holds, tt)
  edit_plain location old new it its_reply other h agrees holds within = absurd h

  edits_plain : (location : Location) (old new : State S) (edits : List Edit) (replies : List (EditReply E)) → AllByRecursion InsertsNoTree edits
      → AreEditReplies model answers location old edits replies new → AgreesThroughout T (flat_map kept_of_edit replies) (model.objects old.store)
      → Holds old
      → Within T pairs known (flat_map pairs_of_edit replies) → Holds new × AreBuilt T pairs known (flat_map pairs_of_edit replies)
  edits_plain location old new [] [] other h agrees holds within = (same_state old new h holds, tt)
  edits_plain location old new (it ∷ edits) (r ∷ replies) other (between, first, rest) agrees holds within =
      let one = edit_plain location old between it r other.0 first (agrees zero) holds
      (all_remaining (λ pair. Contains pairs pair) (pairs_of_edit r) (flat_map pairs_of_edit replies) within) in
      let more = edits_plain location between new edits replies other.1 rest
      (agrees_throughout_suffix T (kept_of_edit r) (flat_map kept_of_edit replies) (model.objects old.store) (model.objects between.store)
      (edit_keeps model answers location old between it r first) agrees) one.0
      (all_right (λ pair. Contains pairs pair) (pairs_of_edit r) (flat_map pairs_of_edit replies) within) in
      (more.0, all_joined (HasBuilt pairs) (pairs_of_edit r) (flat_map pairs_of_edit replies) one.1 more.1)
  edits_plain location old new [] (r ∷ replies) other h agrees holds within = absurd h
  edits_plain location old new (it ∷ edits) [] other h agrees holds within = absurd h

  at_plain : (prefix : Path) (old new : State S) (edits : List Edit) (its_reply : Reply E) → AllByRecursion InsertsNoTree edits
      → IsReplyAt model answers prefix old edits its_reply new → AgreesThroughout T (kept_of its_reply) (model.objects old.store) → Holds old
      → Within T pairs known (pairs_of its_reply) → Holds new × AreBuilt T pairs known (pairs_of its_reply)
  at_plain prefix old new edits (reply.At replies) other (between, ensured, rest) agrees holds within =
      let it = agreed old _ (agrees zero) ensured in
      edits_plain (at_cursor prefix) between new edits replies.items other rest
      (agrees_throughout_suffix T [] (flat_map kept_of_edit replies.items) (model.objects old.store) (model.objects between.store)
      (ensured_keeps model answers prefix old between ensured) agrees)
      (plain_ensured T pairs known it.0 it.1 old between holds prefix it.2) within
  at_plain prefix old new edits (reply.AtRefused error) other h agrees holds within = (
    ⊎_elim (λ wanting. same_state old new wanting.1 holds)
        (λ rejected. let it = agreed old _ (agrees zero) rejected.0.effect in plain_failed T pairs known it.0 it.1 old new holds model _ error it.2) h,
    tt,
  )
  at_plain prefix old new edits its_reply other h agrees holds within = absurd h

  -- an empty root has no entries
  nothing_in : (bases : Dirs) → Everywhere (Plain pairs) (λ path. map.get (root_alone []) path) bases
  nothing_in bases [] e h = absurd (subst (λ o. HasAt o e) (root_alone_at_root []) h)
  nothing_in bases (name ∷ path) e h = absurd (subst (λ o. HasAt o e) (root_alone_below_root [] name path) h)

  empty_plain : (state : State S) → state.dirs ≡ root_alone [] → Holds state
  empty_plain state is =
      let opened : IsOpened (λ path. map.get (root_alone []) path) = root_alone_is_opened [] (record { names = tt; apart = tt; ascending = tt }) in (
        subst (λ (m : DirMap). IsOpened (λ path. map.get m path)) (sym is) opened,
        subst
            (λ (m : DirMap). Everywhere (Plain pairs) (λ path. map.get m path) (open_bases state)) (sym is) (nothing_in (open_bases state)),
      )

  command_plain : (old new : State S) (it : Command) (its_reply : Reply E) → NamesNoTree it → IsReply model answers old it its_reply new
      → AgreesThroughout T (kept_of its_reply) (model.objects old.store) → Holds old → Within T pairs known (pairs_of its_reply)
      → Holds new × AreBuilt T pairs known (pairs_of its_reply)
  command_plain old new (command.Edit it) (reply.Edit its_reply) other h agrees holds within = edit_plain at_root old new it its_reply other h
      (agrees zero) holds within
  command_plain old new (command.At prefix edits) its_reply other h agrees holds within =
      at_plain (cursor_path (names_of prefix.items)) old new edits.items its_reply (recursion_from_All InsertsNoTree edits.items other) h agrees holds
      within
  command_plain old new (command.SetRoot entries) reply.RootSet other h agrees holds within =
      (empty_plain new (ap (λ (s : State S). s.dirs) h.state ∙ ap (λ (l : List EntryView). root_alone l) other), tt)
  command_plain old new (command.SetRoot entries) reply.RootRefused other h agrees holds within = (same_state old new h.1 holds, tt)
  command_plain old new it its_reply other h agrees holds within = absurd h

  run_plain : (old new : State S) (commands : List Command) (replies : List (Reply E)) → AllByRecursion NamesNoTree commands
      → IsRun model answers old commands replies new → AgreesWithRun T (model.objects old.store) replies → Holds old
      → Within T pairs known (emitted_pairs replies)
      → AreBuilt T pairs known (emitted_pairs replies)
  run_plain old new [] [] other run agrees holds within = tt
  run_plain old new (c ∷ commands) (r ∷ replies) other (between, first, run) agrees holds within =
      let one = command_plain old between c r other.0 first
      (agrees_throughout_prefix T (kept_of r) (kept_pairs replies) (model.objects old.store) agrees.stores) holds
      (all_remaining (λ pair. Contains pairs pair) (pairs_of r) (emitted_pairs replies) within) in
      all_joined (HasBuilt pairs) (pairs_of r) (emitted_pairs replies) one.1
      (run_plain between new commands replies other.1 run
      (agrees_later model answers T zero r replies (model.objects old.store) (model.objects between.store)
      (command_keeps model answers old between c r first) agrees) one.0
      (all_right (λ pair. Contains pairs pair) (pairs_of r) (emitted_pairs replies) within))
  run_plain old new [] (r ∷ replies) other run agrees holds within = absurd run
  run_plain old new (c ∷ commands) [] other run agrees holds within = absurd run

module _ {S E : Type 0} (model : StoreModel S) (answers : Answers E) where
  -- the own pair of a successful write is its last emitted pair
  abbrev HasWrittenPair : List Pair → Written → Type 0
  HasWrittenPair ps written = (written_tree : List EntryView) × Contains ps (written.id, written_tree)

  written_pair_is_last : (ps below : List Pair) (written : Written) (written_tree : List EntryView) → ps ≡ below ++ (written.id, written_tree) ∷ []
      → HasWrittenPair ps written
  written_pair_is_last ps below written written_tree is = (
    written_tree,
    subst (λ (l : List Pair). Contains l (written.id, written_tree)) (sym is)
        (Contains-push below (written.id, written_tree)),
  )

  has_written_pair_of_append : (w written : Written) (ps : List Pair) → Some w ≡ Some written → HasWrittenPair ps w → HasWrittenPair ps written
  has_written_pair_of_append w written ps is written_tree = let same : w ≡ written = cc is in subst (λ (it : Written). HasWrittenPair ps it) same written_tree

  edit_has_written_pair : (old new : State S) (it : Edit) (its_reply : EditReply E) (written : Written) → IsEditReply model answers at_root old it its_reply new
      → written_by (reply.Edit its_reply) ≡ Some written → HasWrittenPair (pairs_of_edit its_reply) written
  edit_has_written_pair old new edit.Write (edit_reply.Written w) written h is =
      has_written_pair_of_append w written w.trees.items is (written_pair_is_last w.trees.items h.written.below w h.written.written_tree h.written.last)
  edit_has_written_pair old new edit.Write (edit_reply.NotKept w count error) written h is =
      has_written_pair_of_append w written w.trees.items is (written_pair_is_last w.trees.items h.written.below w h.written.written_tree h.written.last)
  edit_has_written_pair old new it edit_reply.Done written h is = absurd (cc is)
  edit_has_written_pair old new it (edit_reply.Refused error) written h is = absurd (cc is)
  edit_has_written_pair old new it (edit_reply.WriteRefused error) written h is = absurd (cc is)
  edit_has_written_pair old new it its_reply written h is = absurd h

  reply_has_written_pair : (old new : State S) (it : Command) (its_reply : Reply E) (written : Written) → IsReply model answers old it its_reply new
      → written_by its_reply ≡ Some written → HasWrittenPair (pairs_of its_reply) written
  reply_has_written_pair old new (command.Edit it) (reply.Edit its_reply) written h is = edit_has_written_pair old new it its_reply written h is
  reply_has_written_pair old new it (reply.At replies) written h is = absurd (cc is)
  reply_has_written_pair old new it (reply.AtRefused error) written h is = absurd (cc is)
  reply_has_written_pair old new it reply.RootSet written h is = absurd (cc is)
  reply_has_written_pair old new it reply.RootRefused written h is = absurd (cc is)
  reply_has_written_pair old new it its_reply written h is = absurd h

  run_has_written_pair : (old new : State S) (commands : List Command) (replies : List (Reply E)) → IsRun model answers old commands replies new
      → (k : ℕ) (written : Written) → written_at replies k ≡ Some written → HasWrittenPair (emitted_pairs replies) written
  run_has_written_pair old new [] [] run k written is = absurd (cc is)
  run_has_written_pair old new [] (r ∷ replies) run k written is = absurd run
  run_has_written_pair old new (c ∷ commands) [] run k written is = absurd run
  run_has_written_pair old new (c ∷ commands) (r ∷ replies) (between, first, run) zero written is = let written_tree =
      reply_has_written_pair old between c r written first is in
      (written_tree.0, Contains-append_left (pairs_of r) (emitted_pairs replies) (written.id, written_tree.0) written_tree.1)
  run_has_written_pair old new (c ∷ commands) (r ∷ replies) (between, first, run) (suc k) written is = let written_tree =
      run_has_written_pair between new commands replies run k written is in
      (written_tree.0, Contains-append_right (pairs_of r) (emitted_pairs replies) (written.id, written_tree.0) written_tree.1)

  -- a prefix of a run is a run
  run_prefix : (m : ℕ) (old new : State S) (commands : List Command) (replies : List (Reply E)) → IsRun model answers old commands replies new
      → (last : State S) × IsRun model answers old (take m commands) (take m replies) last
  run_prefix zero old new commands replies run = (old, refl)
  run_prefix (suc m) old new [] [] run = (old, refl)
  run_prefix (suc m) old new (c ∷ commands) (r ∷ replies) (between, first, run) = let more = run_prefix m between new commands replies run in
      (more.0, (between, first, more.1))
  run_prefix (suc m) old new [] (r ∷ replies) run = absurd run
  run_prefix (suc m) old new (c ∷ commands) [] run = absurd run

  -- in a complete run ids determine files
  known_by_all : (T : Table) (start last : State S) (commands : List Command) (replies : List (Reply E))
      → IsRun model answers start commands replies last
      → IsPlainRun T (model.objects start.store) start commands replies → IdsDetermineFiles commands replies
  known_by_all T start last commands replies run plain k l first second at_k at_l =
      let pairs : List Pair = emitted_pairs replies in
      let known : AgreesWithPairs T pairs = plain.agrees.writes in
      let no_tree = recursion_from_All NamesNoTree commands plain.no_tree in
      let has : HasBases T (open_dirs start) (open_bases start) = subst (λ (m : DirMap). HasBases T (open_dirs start) (λ path. map.get m path))
      (sym plain.bases) (root_alone_has_bases T (open_dirs start)) in
      let built = run_plain model answers T pairs known start last commands replies no_tree run plain.agrees
      (empty_plain model answers T pairs known start plain.dirs)
      (recursion_from_All (λ pair. Contains pairs pair) pairs (All-contains_itself pairs)) in
      let names : (j : ℕ) (written : Written) → written_at replies j ≡ Some written → (n : ℕ)
      → IsUpTo n (NamedFiles T n written.id) (files_before j commands replies) = λ j written at_j n.
      is_up_to_of_same_files n (NamedFiles T n written.id) _ (files_before j commands replies)
      (names_history model answers T n start last commands replies run j written at_j
      (agrees_with_run_prefix T (model.objects start.store) j replies plain.agrees)
      (agrees_with_written_pairs T replies known j written at_j) has)
      (plain_history_of_prefix T n start j commands replies plain.dirs no_tree) in
      let mine = run_has_written_pair start last commands replies run k first at_k in
      let its = run_has_written_pair start last commands replies run l second at_l in
      known_by_trees T pairs known plain.one_id built first.id second.id mine.0 its.0 mine.1 its.1 (files_before k commands replies)
      (files_before l commands replies) (names k first at_k) (names l second at_l)

  -- in each prefix of a run ids determine files
  pub ids_determine_files : (T : Table) (start last : State S) (commands : List Command) (replies : List (Reply E))
      → IsRun model answers start commands replies last → (m : ℕ) → IsPlainRun T (model.objects start.store) start (take m commands) (take m replies)
      → IdsDetermineFiles (take m commands) (take m replies)
  ids_determine_files T start last commands replies run m plain = let head =
      run_prefix m start last commands replies run in known_by_all T start head.0
      (take m commands) (take m replies) head.1 plain
