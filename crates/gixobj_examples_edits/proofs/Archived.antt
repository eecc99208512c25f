-- An archived history; the proof of `archive` uses it.
use Rattle.std.proofs.Common.{◌≡◌, ◌≤◌, All, List, None, arith, length, subst}
use Rattle.std.proofs.lemmas.List.{length-take}
use Rattle.gix_object.specs.Files.{Table, Trees}
use Rattle.gix_object.specs.Imports.{AgreesWithImports, AreCommitsOf, HaveFilesOfNothing, before, pairs_of_imports}
use Rattle.gix_object.specs.Openings.{AreTreesOf}
use Rattle.gix_object.specs.RunTables.{DecodesToItself}
use Rattle.gix_object.specs.Stores.{Objects}
use Rattle.gix_object.specs.Tables.{IsConsistentWith}
use Rattle.gix_object.specs.hash.hash.kind.Kind as hash
use Rattle.gix_object.specs.import.import.Imported.{Imported}
use Rattle.gix_object.specs.import.import.Step.{Step}
use Rattle.gixobj_examples_edits.proofs.Tips.{imported_len_eq_steps_len}
use Rattle.gixobj_examples_edits.specs.Archives.{IsArchived}

-- the law that some table agrees with an import
abbrev SomeTable : List Step → List Imported → Type 0
SomeTable steps imported = (objects : Objects) (trees : Trees) → AreTreesOf objects trees → IsConsistentWith (pairs_of_imports imported) trees
    → All DecodesToItself (pairs_of_imports imported) → (T : Table) × AgreesWithImports T objects None steps imported

module _ (hash : hash.Kind) (objects final : Objects) (steps : List Step) (imported : List Imported) (commits : AreCommitsOf hash None steps imported final)
    (files : HaveFilesOfNothing objects steps imported) where
  archived : SomeTable steps imported → IsArchived hash objects steps imported final
  archived some_table = record {
    commits = commits;
    files = λ trees fits consistent.
        let found = some_table objects trees fits consistent.emitted consistent.decoded in
        record { table = found.0; agrees = found.1; files = λ n. files found.0 n found.1 };
  }

  -- by the law of equal lists
  pub is_archived : (its_steps : List Step) (shown : List Imported) → its_steps ≡ steps → shown ≡ imported → SomeTable its_steps shown
      → IsArchived hash objects steps imported final
  is_archived its_steps shown is_steps is_shown some_table =
      archived (subst (λ (ss : List Step). SomeTable ss imported) is_steps (subst (λ (all : List Imported). SomeTable its_steps all) is_shown some_table))

-- there are no more imports than steps
pub done_len_le_steps_len : (hash : hash.Kind) (steps : List Step) (done : List Imported) (final : Objects)
    → AreCommitsOf hash None (before done steps) done final → length done ≤ length steps
done_len_le_steps_len hash steps done final commits = omega (
  arith,
  imported_len_eq_steps_len hash None (before done steps) done final commits,
  length-take (length done) steps,
)
