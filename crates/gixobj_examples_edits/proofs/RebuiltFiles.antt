-- The files of the root that a write of a run names; the proof of `rebuild` uses it.
use Rattle.std.proofs.Common.{◌≡◌, ℕ, zero, suc, All, List, [], ◌∷◌, None, Result, Ok, Err, Some, ap, refl, subst, sym, take}
use Rattle.std.specs.Prelude.{IfErr, IfOk, OnErr}
use Rattle.gix_object.specs.Bases.{HasBases}
use Rattle.gix_object.specs.Commands.{accepted_steps, emitted_pairs, kept_pairs, written_at}
use Rattle.gix_object.specs.Entries.{EntryView}
use Rattle.gix_object.specs.Files.{Files, NamedFiles, SameFiles, Table, Trees}
use Rattle.gix_object.specs.History.{FilesAfter}
use Rattle.gix_object.specs.Openings.{AreTreesOf, OfTrees}
use Rattle.gix_object.specs.PlainHistory.{NoFiles}
use Rattle.gix_object.specs.Replies.{Answers, IsRun}
use Rattle.gix_object.specs.RunTables.{AgreesWithRun, DecodesToItself}
use Rattle.gix_object.specs.State.{EditorFiles, State, new_state, open_bases, open_dirs}
use Rattle.gix_object.specs.Stores.{Objects, StoreModel}
use Rattle.gix_object.specs.Tables.{AgreesWithPairs, IsConsistentWith}
use Rattle.gix_object.specs.write.write.Written.{Written}
use Rattle.gix_object.specs.commands.command.Command.{Command}
use Rattle.gix_object.specs.editor.reply.Reply.{Reply}
use Rattle.gix_object.specs.hash.hash.kind.Kind.{Kind}
use Rattle.gix_object.specs.hash.hash.object_id.ObjectId.{ObjectId}
use Rattle.gix_object.proofs.Files.{history_congruent, same_files_trans}
use Rattle.gixobj_examples_edits.proofs.Rebuilt.{replied}
use Rattle.gixobj_examples_edits.specs.Rebuilds.{HasFilesInTable, IsConsistentRun, IsRebuildError, IsRebuilt, NamesWritten}
use Rattle.gixobj_examples_edits.specs.declared.rebuilder.CompareError.{CompareError}
use Rattle.gixobj_examples_edits.specs.declared.rebuilder.CompareError.TheVariants as compare

-- the empty tree has no files
files_of_nil : (T : Table) (n : ℕ) → SameFiles (Files T n []) NoFiles
files_of_nil T zero path mode id = ((λ h. absurd h), λ h. absurd h)
files_of_nil T (suc n) [] mode id = ((λ h. absurd h), λ h. absurd h)
files_of_nil T (suc n) (name ∷ path) mode id = ((λ h. absurd h.1), λ h. absurd h)

-- the law that some table agrees with a run
abbrev SomeTable : {E : Type 0} → List (Reply E) → Type 0
SomeTable replies = (objects : Objects) (trees : Trees) → AreTreesOf objects trees → IsConsistentWith (emitted_pairs replies) trees
    → All DecodesToItself (kept_pairs replies) → (T : Table) × AgreesWithRun T objects replies

-- the law that a table which agrees with a run agrees with its writes
abbrev WritesAgree : {E : Type 0} → List (Reply E) → Type 0
WritesAgree replies = (T : Table) (objects : Objects) (k : ℕ) (written : Written) → AgreesWithRun T objects replies
    → written_at replies k ≡ Some written → AgreesWithRun T objects (take k replies) × AgreesWithPairs T written.trees.items

-- the theorem of files
abbrev HaveWritesFiles : {S E : Type 0} → (S → Objects) → State S → List Command → List (Reply E) → Type 0
HaveWritesFiles objects start commands replies = (T : Table) (n k : ℕ) (written : Written) → written_at replies k ≡ Some written
    → AgreesWithRun T (objects start.store) (take k replies) → AgreesWithPairs T written.trees.items → HasBases T (open_dirs start) (open_bases start)
    → SameFiles (NamedFiles T n written.id) (FilesAfter T n (accepted_steps (take k commands) (take k replies)) (EditorFiles T n start))

module _ {S E : Type 0} (model : StoreModel S) (answers : Answers E) (store : S) (object_hash : Kind) (commands : List Command)
    (start remaining : State S) (replies : List (Reply E)) (position : ℕ) (new : start ≡ new_state [] store object_hash)
    (run : IsRun model answers start commands replies remaining) where
  module _ (entries : List EntryView) (is_empty : entries ≡ []) (begun : (T : Table) (n : ℕ) → SameFiles (EditorFiles T n start) (Files T n entries))
      (bases : (T : Table) → HasBases T (open_dirs start) (open_bases start)) (files_of_root : HaveWritesFiles model.objects start commands replies)
      (some_table : SomeTable replies) (writes_agree : WritesAgree replies) where
    without_files : (T : Table) (n : ℕ) → SameFiles (EditorFiles T n start) NoFiles
    without_files T n = same_files_trans _ _ _ (subst (λ (es : List EntryView). SameFiles (EditorFiles T n start) (Files T n es)) is_empty (begun T n))
        (files_of_nil T n)

    files_of_written : (written : Written) → written_at replies position ≡ Some written
        → OfTrees (model.objects store) (λ trees. IsConsistentRun replies trees → HasFilesInTable (model.objects store) commands replies position written.id)
    files_of_written written at trees fits consistent =
        let found = some_table (model.objects store) trees fits consistent.emitted consistent.kept in
        let parts = writes_agree found.0 (model.objects store) position written found.1 at in
        let steps = accepted_steps (take position commands) (take position replies) in
        let before = subst (λ (s : S). AgreesWithRun found.0 (model.objects s) (take position replies))
        (sym (ap (λ (state : State S). state.store) new)) parts.0 in
        record {
          table = found.0;
          agrees = found.1;
          files = λ n. same_files_trans _ _ _ (files_of_root found.0 n position written at before parts.1 (bases found.0))
              (history_congruent found.0 n steps (EditorFiles found.0 n start) NoFiles (without_files found.0 n));
        }

    rebuilt : (id : ObjectId) → NamesWritten replies position id → IsRebuilt model answers store object_hash commands position id
    rebuilt id (written, at, is) = record {
      replies = replies;
      run = replied model answers store object_hash commands start remaining replies new run;
      named = (written, at, is);
      files = subst (λ (it : ObjectId). OfTrees (model.objects store)
          (λ trees. IsConsistentRun replies trees → HasFilesInTable (model.objects store) commands replies position it)) is (files_of_written written at);
    }

  -- the result by an id that was found in an equal list of replies
  pub rebuilt_of_result : (entries : List EntryView) → entries ≡ [] → ((T : Table) (n : ℕ) → SameFiles (EditorFiles T n start) (Files T n entries))
      → ((T : Table) → HasBases T (open_dirs start) (open_bases start)) → HaveWritesFiles model.objects start commands replies
      → (shown again its_replies : List (Reply E)) → shown ≡ replies → again ≡ replies → its_replies ≡ replies → SomeTable shown → WritesAgree again
      → (result : Result ObjectId CompareError) → IfOk result (NamesWritten its_replies position)
      → IfOk result (IsRebuilt model answers store object_hash commands position)
  rebuilt_of_result entries is_empty begun bases files_of_root shown again its_replies is_shown is_again is_its some_table writes_agree (Ok id) named =
      rebuilt entries is_empty begun bases files_of_root (subst (λ (rs : List (Reply E)). SomeTable rs) is_shown some_table)
      (subst (λ (rs : List (Reply E)). WritesAgree rs) is_again writes_agree) id
      (subst (λ (rs : List (Reply E)). NamesWritten rs position id) is_its named)
  rebuilt_of_result entries is_empty begun bases files_of_root shown again its_replies is_shown is_again is_its some_table writes_agree (Err error) named = tt

  pub error_of_result : (its_replies : List (Reply E)) → its_replies ≡ replies → (result : Result ObjectId CompareError)
      → IfErr result (λ error. error ≡ compare.NoWrite position) → OnErr result (written_at its_replies position ≡ None)
      → IfErr result (IsRebuildError model answers store object_hash commands position)
  error_of_result its_replies is_its (Ok id) is none = tt
  error_of_result its_replies is_its (Err error) is none =
      subst (λ (e : CompareError). IsRebuildError model answers store object_hash commands position e) (sym is) (
        replies,
        replied model answers store object_hash commands start remaining replies new run,
        subst (λ (rs : List (Reply E)). written_at rs position ≡ None) is_its none,
        refl,
      )
