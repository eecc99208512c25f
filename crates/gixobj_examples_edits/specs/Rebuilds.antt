-- Runs on an editor without files: the files of one write, and whether two writes have equal files.
use Rattle.std.specs.Prelude.{◌≡◌, ◌≢◌, ◌⊎◌, ◌↔◌, ℕ, suc, All, Bool, IsTrue, List, [], None, Option, Some, max, take, ⊤}
use Rattle.gix_object.specs.Commands.{accepted_steps, emitted_pairs, kept_pairs, written_at}
use Rattle.gix_object.specs.Files.{NamedFiles, SameFiles, Table, Trees}
use Rattle.gix_object.specs.History.{FilesAfter}
use Rattle.gix_object.specs.PlainRuns.{IsPlainRun, files_before}
use Rattle.gix_object.specs.Openings.{OfTrees}
use Rattle.gix_object.specs.PlainHistory.{NoFiles}
use Rattle.gix_object.specs.Replies.{Answers, IsRun}
use Rattle.gix_object.specs.RunTables.{AgreesWithRun, DecodesToItself}
use Rattle.gix_object.specs.State.{State, new_state}
use Rattle.gix_object.specs.Stores.{Objects, StoreModel}
use Rattle.gix_object.specs.Tables.{IsConsistentWith}
use Rattle.gix_object.specs.write.write.Written.{Written}
use Rattle.gix_object.specs.commands.command.Command.{Command}
use Rattle.gix_object.specs.editor.reply.Reply.{Reply}
use Rattle.gix_object.specs.hash.hash.kind.Kind as hash
use Rattle.gix_object.specs.hash.hash.object_id.ObjectId.{ObjectId}
use Rattle.gixobj_examples_edits.specs.declared.rebuilder.CompareError.{CompareError}
use Rattle.gixobj_examples_edits.specs.declared.rebuilder.CompareError.TheVariants as compare

-- the id that a write names
abbrev pub id_named : Option Written → Option ObjectId
id_named None = None
id_named (Some written) = Some written.id

-- the reply at this index reports a write of the root that names this id
abbrev pub NamesWritten : {E : Type 0} → List (Reply E) → ℕ → ObjectId → Type 0
NamesWritten replies position id = (written : Written) × (written_at replies position ≡ Some written)
    × (written.id ≡ id)

-- the number of commands up to the later of two indices
abbrev pub up_to : ℕ → ℕ → ℕ
up_to position other = suc (max position other)

-- the emitted trees of a run are consistent with these trees, and each kept tree decodes to itself
pub record IsConsistentRun {E : Type 0} (replies : List (Reply E)) (trees : Trees) : Type 0 where
  pub emitted : IsConsistentWith (emitted_pairs replies) trees
  pub kept : All DecodesToItself (kept_pairs replies)

-- in some table that agrees with the run, the tree of this id has, at every depth, exactly the files that the accepted
-- commands before an index make of none
pub record HasFilesInTable {E : Type 0} (objects : Objects) (commands : List Command) (replies : List (Reply E))
    (position : ℕ) (id : ObjectId) : Type 0 where
  pub table : Table
  pub agrees : AgreesWithRun table objects replies
  pub files : (n : ℕ) → SameFiles (NamedFiles table n id)
      (FilesAfter table n (accepted_steps (take position commands) (take position replies)) NoFiles)

module _ {S E : Type 0} (model : StoreModel S) (answers : Answers E) (store : S) (object_hash : hash.Kind)
    (commands : List Command) where
  -- a new editor of the empty root may get these replies
  abbrev pub AreReplies : List (Reply E) → Type 0
  AreReplies replies = (remaining : State S)
      × IsRun model answers (new_state [] store object_hash) commands replies remaining

  -- the index is that of a successful write of the root, which names this id. The id's tree has the files of the
  -- commands before it, if the emitted trees are consistent with the store's trees before the run
  pub record IsRebuilt (position : ℕ) (id : ObjectId) : Type 0 where
    pub replies : List (Reply E)
    pub run : AreReplies replies
    pub named : NamesWritten replies position id
    pub files : OfTrees (model.objects store) (λ trees. IsConsistentRun replies trees
        → HasFilesInTable (model.objects store) commands replies position id)

  -- the errors of a rebuild: no write of the root at the index, or out of memory for the replies
  abbrev pub IsRebuildError : ℕ → CompareError → Type 0
  IsRebuildError position (compare.NoWrite at) = (replies : List (Reply E)) × AreReplies replies
      × (written_at replies at ≡ None) × (at ≡ position)
  IsRebuildError position compare.OutOfMemory = ⊤

  -- both indices are those of a successful write of the root, and the result is whether they name one id; if the run is
  -- plain up to the later index, it is whether their files are equal
  pub record IsCompared (position other : ℕ) (same : Bool) : Type 0 where
    pub replies : List (Reply E)
    pub run : AreReplies replies
    pub first : Written
    pub second : Written
    pub first_at : written_at replies position ≡ Some first
    pub second_at : written_at replies other ≡ Some second
    pub ids : IsTrue same ↔ (first.id ≡ second.id)
    pub files : (T : Table) → IsPlainRun T (model.objects store) (new_state [] store object_hash)
        (take (up_to position other) commands) (take (up_to position other) replies)
        → IsTrue same ↔ SameFiles (files_before position commands replies) (files_before other commands replies)

  -- the first of two indices without a successful write of the root
  abbrev pub IsNoWrite : List (Reply E) → ℕ → ℕ → ℕ → Type 0
  IsNoWrite replies position other at = (written_at replies at ≡ None)
      × ((at ≡ position) ⊎ ((at ≡ other) × (written_at replies position ≢ None)))

  -- the errors of a comparison: an index without a write, or out of memory for the replies
  abbrev pub IsComparisonError : ℕ → ℕ → CompareError → Type 0
  IsComparisonError position other (compare.NoWrite at) = (replies : List (Reply E)) × AreReplies replies
      × IsNoWrite replies position other at
  IsComparisonError position other compare.OutOfMemory = ⊤
