-- The written root of a run has the files of its steps, and the changes from the stored root lead to them; the proofs
-- of `changes_of_run` and `run_and_write` use it.
use Rattle.std.proofs.Common.{◌≡◌, ◌∙◌, ◌≤◌, ℕ, Bool, true, false, List, [], ◌∷◌, None, Some, ap, length, refl, subst, sym, take}
use Rattle.std.specs.Prelude.{IsFalse}
use Rattle.gix_object.proofs.Files.{history_congruent, same_files_trans}
use Rattle.gix_object.proofs.Tables.{agrees_with_store_of_objects, tree_at_last_pair}
use Rattle.gix_object.specs.Bases.{HasBases}
use Rattle.gix_object.specs.Commands.{accepted_steps, kept_pairs, written_at}
use Rattle.gix_object.specs.Entries.{EntryView, Pair}
use Rattle.gix_object.specs.Files.{Files, NamedFiles, SameFiles, Table, Trees, is_null}
use Rattle.gix_object.specs.Hash.{id_kind}
use Rattle.gix_object.specs.History.{FilesAfter, Step}
use Rattle.gix_object.specs.Keeping.{with_trees}
use Rattle.gix_object.specs.Openings.{AreTreesOf}
use Rattle.gix_object.specs.Replies.{Answers, IsRun}
use Rattle.gix_object.specs.RunTables.{AgreesWithObjects, AgreesWithRun}
use Rattle.gix_object.specs.State.{EditorFiles, State, new_state, open_bases, open_dirs, root_alone}
use Rattle.gix_object.specs.Stores.{Objects, StoreModel}
use Rattle.gix_object.specs.Tables.{AgreesWithPairs, AgreesWithStore}
use Rattle.gix_object.specs.write.write.Written.{Written}
use Rattle.gix_object.specs.commands.command.Command.{Command}
use Rattle.gix_object.specs.commands.command.Command.TheVariants as command
use Rattle.gix_object.specs.commands.command.Edit.TheVariants as edit
use Rattle.gix_object.specs.editor.reply.EditReply.{EditReply}
use Rattle.gix_object.specs.editor.reply.EditReply.TheVariants as edit_reply
use Rattle.gix_object.specs.editor.reply.Reply.{Reply}
use Rattle.gix_object.specs.editor.reply.Reply.TheVariants as reply
use Rattle.gix_object.specs.hash.hash.object_id.ObjectId.{ObjectId}
use Rattle.gixobj_listings.specs.Changes.{AreChanges, ChangeView}
use Rattle.gixobj_listings.specs.Differences.{HasChanges}
use Rattle.gixobj_listings.specs.Roots.{IsRoot, StoredRootHasFiles}
use Rattle.gixobj_examples_audits.proofs.LastReplies.{run_snoc, steps_before_last, written_at_last}
use Rattle.gixobj_examples_audits.specs.Runs.{HasNoWrite, IsChangedByRun, IsReopened, IsRunError, IsRunOnRoot, and_reply, and_write}
use Rattle.gixobj_examples_audits.specs.declared.runs.RunChanges.{RunChanges}
use Rattle.gixobj_examples_audits.specs.declared.runs.RunError.{RunError}
use Rattle.gixobj_examples_audits.specs.declared.runs.RunError.TheVariants as run_error

-- a table names no tree by a null id
not_null_of_there : (T : Table) (id : ObjectId) (entries : List EntryView) → T.tree_at id ≡ Some entries → IsFalse (is_null id)
not_null_of_there T id entries there = by_null (is_null id) refl
  where
    by_null : (b : Bool) → is_null id ≡ b → IsFalse b
    by_null true is = let both : None ≡ Some entries = sym (T.nothing_by_null id is) ∙ there in absurd (cc both)
    by_null false is = refl

-- the law that a table which agrees with a run agrees with its writes
abbrev pub WritesAgree : {E : Type 0} → List (Reply E) → Type 0
WritesAgree replies = (T : Table) (objects : Objects) (k : ℕ) (written : Written) → AgreesWithRun T objects replies
    → written_at replies k ≡ Some written → AgreesWithRun T objects (take k replies) × AgreesWithPairs T written.trees.items

-- the theorem of files
abbrev pub HaveWritesFiles : {S E : Type 0} → (S → Objects) → State S → List Command → List (Reply E) → Type 0
HaveWritesFiles objects start commands replies = (T : Table) (n k : ℕ) (written : Written) → written_at replies k ≡ Some written
    → AgreesWithRun T (objects start.store) (take k replies) → AgreesWithPairs T written.trees.items → HasBases T (open_dirs start) (open_bases start)
    → SameFiles (NamedFiles T n written.id) (FilesAfter T n (accepted_steps (take k commands) (take k replies)) (EditorFiles T n start))

module _ {S E : Type 0} (model : StoreModel S) (answers : Answers E) (start remaining : State S) (commands : List Command) (replies : List (Reply E)) where
  module _ (written : Written) (run : IsRun model answers start (and_write commands) (and_reply replies (edit_reply.Written written)) remaining) where
    pub files_of_write : HaveWritesFiles model.objects start (and_write commands) (and_reply replies (edit_reply.Written written))
        → WritesAgree (and_reply replies (edit_reply.Written written))
        → (T : Table) (n : ℕ) → AgreesWithRun T (model.objects start.store) (and_reply replies (edit_reply.Written written))
        → HasBases T (open_dirs start) (open_bases start)
        → SameFiles (NamedFiles T n written.id) (FilesAfter T n (accepted_steps commands replies) (EditorFiles T n start))
    files_of_write files writes_agree T n agrees has =
        let last = run_snoc model answers start remaining commands (command.Edit edit.Write) replies (reply.Edit (edit_reply.Written written)) run in
        let at = written_at_last replies (reply.Edit (edit_reply.Written written)) in
        let parts = writes_agree T (model.objects start.store) (length replies) written agrees at in
        subst (λ (steps : List Step). SameFiles (NamedFiles T n written.id) (FilesAfter T n steps (EditorFiles T n start)))
        (steps_before_last model answers start last.between commands (command.Edit edit.Write) replies (reply.Edit (edit_reply.Written written)) last.run)
        (files T n (length replies) written at parts.0 parts.1 has)

    pub filled_of_write : WritesAgree (and_reply replies (edit_reply.Written written))
        → (T : Table) → AgreesWithRun T (model.objects start.store) (and_reply replies (edit_reply.Written written)) → IsFalse (is_null written.id)
    filled_of_write writes_agree T agrees =
        let last = run_snoc model answers start remaining commands (command.Edit edit.Write) replies (reply.Edit (edit_reply.Written written)) run in
        let parts = writes_agree T (model.objects start.store) (length replies) written agrees
        (written_at_last replies (reply.Edit (edit_reply.Written written))) in
        let it = last.reply.written in
        not_null_of_there T written.id it.written_tree (tree_at_last_pair T written.trees.items it.below (written.id, it.written_tree) it.last parts.1)

-- what is known of the replies and the commands as a program has them
module _ {S E : Type 0} (model : StoreModel S) (answers : Answers E) (start remaining : State S) (commands all_commands : List Command)
    (replies all : List (Reply E)) (its_reply : EditReply E) (is_commands : all_commands ≡ and_write commands)
    (run : IsRun model answers start all_commands all remaining) (is : all ≡ and_reply replies its_reply) where
  pub run_of_popped : IsRun model answers start (and_write commands) (and_reply replies its_reply) remaining
  run_of_popped = subst (λ (cs : List Command). IsRun model answers start cs (and_reply replies its_reply) remaining) is_commands
      (subst (λ (rs : List (Reply E)). IsRun model answers start all_commands rs remaining) is run)

  pub files_of_popped : HaveWritesFiles model.objects start all_commands all
      → HaveWritesFiles model.objects start (and_write commands) (and_reply replies its_reply)
  files_of_popped files = subst (λ (cs : List Command). HaveWritesFiles model.objects start cs (and_reply replies its_reply)) is_commands
      (subst (λ (rs : List (Reply E)). HaveWritesFiles model.objects start all_commands rs) is files)

-- a table that agrees with a run agrees with the store before it and after it
agrees_before : {E : Type 0} (T : Table) (objects : Objects) (replies : List (Reply E)) → AgreesWithRun T objects replies → AgreesWithObjects T objects
agrees_before T objects replies agrees = agrees.stores 0

agrees_after : {E : Type 0} (T : Table) (objects : Objects) (replies : List (Reply E)) → AgreesWithRun T objects replies
    → AgreesWithObjects T (with_trees (kept_pairs replies) objects)
agrees_after T objects replies agrees =
    subst (λ (pairs : List Pair). AgreesWithObjects T (with_trees pairs objects)) (take_length (kept_pairs replies))
    (agrees.stores (length (kept_pairs replies)))
  where
    take_length : (pairs : List Pair) → take (length pairs) pairs ≡ pairs
    take_length [] = refl
    take_length (pair ∷ pairs) = ap (λ (ps : List Pair). pair ∷ ps) (take_length pairs)

-- a run on a new editor of the stored root
module _ {S E : Type 0} (model : StoreModel S) (answers : Answers E) (store : S) (root : ObjectId) (commands : List Command) where
  pub run_on_root : (start remaining : State S) (entries : List EntryView) → IsRoot (model.objects store) root entries
      → start ≡ new_state entries store (id_kind root) → (replies : List (Reply E)) (its_reply : EditReply E)
      → IsRun model answers start (and_write commands) (and_reply replies its_reply) remaining
      → IsRunOnRoot model answers store root commands replies its_reply remaining
  run_on_root start remaining entries is_root new replies its_reply run = record {
    entries = entries;
    is_root = is_root;
    run = subst (λ (state : State S). IsRun model answers state (and_write commands) (and_reply replies its_reply) remaining) new run;
  }

  pub run_error_of_no_write : (depth : ℕ) (start remaining : State S) (entries : List EntryView) → IsRoot (model.objects store) root entries
      → start ≡ new_state entries store (id_kind root) → (error : RunError E) → HasNoWrite model answers start commands error remaining
      → IsRunError model answers store root commands depth error
  run_error_of_no_write depth start remaining entries is_root new (run_error.Write error) (replies, ran) =
      (replies, remaining, run_on_root start remaining entries is_root new replies (edit_reply.WriteRefused error) ran)
  run_error_of_no_write depth start remaining entries is_root new (run_error.NotKept written count error) (replies, ran) =
      (replies, remaining, run_on_root start remaining entries is_root new replies (edit_reply.NotKept written count error) ran)
  run_error_of_no_write depth start remaining entries is_root new run_error.OutOfMemory none = tt
  run_error_of_no_write depth start remaining entries is_root new error none = absurd none

-- by the laws that every store names trees, that a stored root has its files, and that changes are those of steps
module _ {S E : Type 0} (model : StoreModel S) (answers : Answers E) (trees_of : (objects : Objects) → (trees : Trees) × AreTreesOf objects trees)
    (has_files : StoredRootHasFiles)
    (are_of_steps : (T : Table) (n : ℕ) (from to : ObjectId) (steps : List Step) (changes : List ChangeView)
    → SameFiles (NamedFiles T n to) (FilesAfter T n steps (NamedFiles T n from)) → AreChanges (NamedFiles T n from) (NamedFiles T n to) changes
    → AreChanges (NamedFiles T n from) (FilesAfter T n steps (NamedFiles T n from)) changes)
    (store : S) (root : ObjectId) (commands : List Command) (depth : ℕ) (start remaining : State S) (entries : List EntryView)
    (is_root : IsRoot (model.objects store) root entries) (new : start ≡ new_state entries store (id_kind root)) where
  over : start.store ≡ store
  over = ap (λ (state : State S). state.store) new

  module _ (it : RunChanges E)
      (run : IsRun model answers start (and_write commands) (and_reply it.replies.items (edit_reply.Written it.written)) remaining)
      (begun : (T : Table) (n : ℕ) → SameFiles (EditorFiles T n start) (Files T n entries))
      (bases : (T : Table) → HasBases T (open_dirs start) (open_bases start))
      (files : (T : Table) (n : ℕ) → AgreesWithRun T (model.objects start.store) (and_reply it.replies.items (edit_reply.Written it.written))
      → HasBases T (open_dirs start) (open_bases start)
      → SameFiles (NamedFiles T n it.written.id) (FilesAfter T n (accepted_steps commands it.replies.items) (EditorFiles T n start)))
      (filled : (T : Table) → AgreesWithRun T (model.objects start.store) (and_reply it.replies.items (edit_reply.Written it.written))
      → IsFalse (is_null it.written.id))
      (stored : model.objects remaining.store
      ≡ with_trees (kept_pairs (and_reply it.replies.items (edit_reply.Written it.written))) (model.objects start.store))
      (listed : IsFalse (is_null root) → IsFalse (is_null it.written.id)
      → HasChanges (model.objects remaining.store) depth root it.written.id it.changes.items) where
    abbrev all : List (Reply E)
    all = and_reply it.replies.items (edit_reply.Written it.written)

    step_files : (T : Table) (n : ℕ) → IsFalse (is_null root) → AgreesWithRun T (model.objects start.store) all
        → SameFiles (NamedFiles T n it.written.id) (FilesAfter T n (accepted_steps commands it.replies.items) (NamedFiles T n root))
    step_files T n some agrees =
        let trees = trees_of (model.objects store) in
        let known : AgreesWithObjects T (model.objects store) = subst (λ (s : S). AgreesWithObjects T (model.objects s)) over
        (agrees_before T (model.objects start.store) all agrees) in
        let before : AgreesWithStore T trees.0 = agrees_with_store_of_objects T (model.objects store) trees.0 trees.1 known in
        same_files_trans _ _ _ (files T n agrees (bases T))
        (history_congruent T n (accepted_steps commands it.replies.items) (EditorFiles T n start) (NamedFiles T n root)
        (same_files_trans _ _ _ (begun T n) (has_files (model.objects store) trees.0 trees.1 T before root entries some is_root n)))

    tree_changes : (T : Table) (n : ℕ) → IsFalse (is_null root) → AgreesWithRun T (model.objects start.store) all → depth ≤ n
        → AreChanges (NamedFiles T n root) (NamedFiles T n it.written.id) it.changes.items
    tree_changes T n some agrees deep =
        let trees = trees_of (model.objects remaining.store) in
        let known : AgreesWithObjects T (model.objects remaining.store) = subst (λ (objects : Objects). AgreesWithObjects T objects) (sym stored)
        (agrees_after T (model.objects start.store) all agrees) in
        listed some (filled T agrees) trees.0 trees.1 T n (agrees_with_store_of_objects T (model.objects remaining.store) trees.0 trees.1 known) deep

    pub changed_by_run : IsChangedByRun model answers store root commands depth it
    changed_by_run = record {
      remaining = remaining;
      run = run_on_root model answers store root commands start remaining entries is_root new it.replies.items (edit_reply.Written it.written) run;
      changes = λ some T n agrees deep.
          let its_own : AgreesWithRun T (model.objects start.store) all = subst (λ (s : S). AgreesWithRun T (model.objects s) all) (sym over) agrees in
          are_of_steps T n root it.written.id (accepted_steps commands it.replies.items) it.changes.items
          (step_files T n some its_own) (tree_changes T n some its_own deep);
    }

-- ---- the written root, reopened

module _ {S E : Type 0} (model : StoreModel S) (answers : Answers E) (trees_of : (objects : Objects) → (trees : Trees) × AreTreesOf objects trees)
    (has_files : StoredRootHasFiles) (old between new : State S) (commands : List Command) (replies : List (Reply E))
    (written : Written) (run : IsRun model answers old (and_write commands) (and_reply replies (edit_reply.Written written)) between) where
  -- the written root has the files that the accepted commands make
  abbrev pub HasRunFiles : Type 0
  HasRunFiles = (T : Table) (n : ℕ) → AgreesWithRun T (model.objects old.store) (and_reply replies (edit_reply.Written written))
      → HasBases T (open_dirs old) (open_bases old)
      → SameFiles (NamedFiles T n written.id) (FilesAfter T n (accepted_steps commands replies) (EditorFiles T n old))

  -- the written root isn't null in a table that agrees with the run
  abbrev pub IsNotNull : Type 0
  IsNotNull = (T : Table) → AgreesWithRun T (model.objects old.store) (and_reply replies (edit_reply.Written written)) → IsFalse (is_null written.id)

  pub reopened : HasRunFiles → IsNotNull
      → model.objects between.store ≡ with_trees (kept_pairs (and_reply replies (edit_reply.Written written))) (model.objects old.store)
      → (entries : List EntryView) → IsRoot (model.objects between.store) written.id entries
      → (shown : State S) → new ≡ shown → shown ≡ record between { dirs = root_alone entries; bases = root_alone [] }
      → ((T : Table) (n : ℕ) → SameFiles (EditorFiles T n shown) (Files T n entries))
      → ((T : Table) → HasBases T (open_dirs shown) (open_bases shown))
      → IsReopened model answers old commands replies written new
  reopened files filled stored entries is_root shown is_shown state its_files bases = record {
    between = between;
    run = run;
    entries = entries;
    is_root = is_root;
    state = is_shown ∙ state;
    files = λ T n agrees has.
        let trees = trees_of (model.objects between.store) in
        let known : AgreesWithObjects T (model.objects between.store) = subst (λ (objects : Objects). AgreesWithObjects T objects) (sym stored)
        (agrees_after T (model.objects old.store) (and_reply replies (edit_reply.Written written)) agrees) in
        let there : AgreesWithStore T trees.0 = agrees_with_store_of_objects T (model.objects between.store) trees.0 trees.1 known in
        same_files_trans _ _ _ (subst (λ (s : State S). SameFiles (EditorFiles T n s) (Files T n entries)) (sym is_shown) (its_files T n))
        (same_files_trans _ _ _
        (has_files (model.objects between.store) trees.0 trees.1 T there written.id entries (filled T agrees) is_root n)
        (files T n agrees has));
    has_bases = λ T. subst (λ (s : State S). HasBases T (open_dirs s) (open_bases s)) (sym is_shown) (bases T);
  }
