-- Imports by new importers: what two of them have in common, and the entry at a path after one.
use Rattle.std.specs.Prelude.{◌≡◌, ◌++◌, ◌∷◌, ℕ, Bool, IsSomeAnd, List, [], None, Option, Some}
use Rattle.std.specs.List.{AllZip}
use Rattle.gix_object.specs.Entries.{EntryView}
use Rattle.gix_object.specs.Existing.{IsReaderError}
use Rattle.gix_object.specs.Files.{Table}
use Rattle.gix_object.specs.History.{FilesAfter}
use Rattle.gix_object.specs.Imports.{AgreesWithImports, IsNewImporter, edits_of}
use Rattle.gix_object.specs.Lookups.{IsAtPath, IsPathError, Name}
use Rattle.gix_object.specs.Openings.{OfTrees}
use Rattle.gix_object.specs.PlainHistory.{NoFiles}
use Rattle.gix_object.specs.Steps.{AreImported, Stops}
use Rattle.gix_object.specs.Stores.{Names, Objects, StoreModel, StoredObject}
use Rattle.gix_object.specs.Tables.{IsTableOfStore}
use Rattle.gix_object.specs.hash.hash.kind.Kind as hash
use Rattle.gix_object.specs.hash.hash.object_id.ObjectId.{ObjectId}
use Rattle.gix_object.specs.hash.kind.Kind.TheVariants.{Tree}
use Rattle.gix_object.specs.import.import.ImportError.{ImportError}
use Rattle.gix_object.specs.import.import.Imported.{Imported}
use Rattle.gix_object.specs.import.import.Importer.{Importer}
use Rattle.gix_object.specs.import.import.Step.{Step}
use Rattle.gixobj_examples_audits.specs.declared.imports.LookupError.{LookupError}
use Rattle.gixobj_examples_audits.specs.declared.imports.LookupError.TheVariants as lookup

-- a new importer over the store imports the steps
pub record IsImportOf {S : Type 0} (model : StoreModel S) (store : S) (hash : hash.Kind) (steps : List Step)
    (imported : List Imported) : Type 0 where
  pub start : Importer S
  pub after : Importer S
  pub is_new : IsNewImporter start
  pub over : start.editor.store ≡ store
  pub ids : start.hash ≡ hash
  pub imported_steps : AreImported model start steps imported after

-- a new importer over the store fails to import the steps, with this error
pub record IsStoppedImport {S : Type 0} (model : StoreModel S) (store : S) (hash : hash.Kind) (steps : List Step)
    (error : ImportError) : Type 0 where
  pub start : Importer S
  pub after : Importer S
  pub done : List Imported
  pub is_new : IsNewImporter start
  pub over : start.editor.store ≡ store
  pub ids : start.hash ≡ hash
  pub stops : Stops model start steps done error after

-- ---- two imports

-- the commits have one id, and the roots; the same trees were emitted, and as many directories were unchanged
pub record IsSameImport (one other : Imported) : Type 0 where
  pub commit : one.commit ≡ other.commit
  pub root : one.written.id ≡ other.written.id
  pub trees : one.written.trees.items ≡ other.written.trees.items
  pub saved : one.written.saved ≡ other.written.saved

-- the imports are the same, one by one
abbrev pub AreSameImports : List Imported → List Imported → Type 0
AreSameImports ones others = AllZip IsSameImport ones others

-- ---- the entry at a path

-- the id names a tree, in which the lookup by these names has this result
abbrev pub IsFoundIn : Objects → ObjectId → List Name → Option EntryView → Type 0
IsFoundIn objects root names found = (tree : StoredObject) × Names objects root tree × (tree.kind ≡ Tree)
    × IsAtPath objects (Some tree) names found

-- why an entry isn't looked up in the tree of an id: there is no tree, or a lookup on the path fails
abbrev pub IsFoundInError : Objects → (ObjectId → Bool) → ObjectId → List Name → LookupError → Type 0
IsFoundInError objects may_fail root names (lookup.Tree error) = IsReaderError objects may_fail Tree root error
IsFoundInError objects may_fail root names (lookup.Path error) = (tree : StoredObject) × Names objects root tree
    × (tree.kind ≡ Tree) × IsPathError objects may_fail (Some tree) names error
IsFoundInError objects may_fail root names (lookup.Import error) = ⊥

module _ {S : Type 0} (model : StoreModel S) (store : S) (hash : hash.Kind) (steps : List Step) (names : List Name)
  where
    -- the entry that a lookup by these names finds in the tree of the last commit; without steps, none. If the edits of
    -- the steps make a file at these names, the entry is that file. This holds in each table that has the trees of the
    -- store and no other, and agrees with the import
    pub record IsEntryAfterImport (found : Option EntryView) : Type 0 where
      pub imported : List Imported
      pub done : IsImportOf model store hash steps imported
      pub none : imported ≡ [] → found ≡ None
      pub lookup : (before : List Imported) (last : Imported) → imported ≡ before ++ last ∷ []
          → IsFoundIn (model.objects done.after.editor.store) last.written.id names found
      pub entry : OfTrees (model.objects done.after.editor.store) (λ trees. (T : Table) (n mode : ℕ) (id : ObjectId)
          → IsTableOfStore T trees → AgreesWithImports T (model.objects store) None steps imported
          → FilesAfter T n (edits_of steps) NoFiles names mode id
          → IsSomeAnd found (λ e. (e.mode ≡ mode) × (e.id ≡ id)))

    -- the errors of a lookup after an import: it stops, or the entry isn't looked up in the tree of the last commit
    abbrev pub IsLookupError : LookupError → Type 0
    IsLookupError (lookup.Import error) = IsStoppedImport model store hash steps error
    IsLookupError error = (before : List Imported) × (last : Imported)
        × (done : IsImportOf model store hash steps (before ++ last ∷ []))
        × IsFoundInError (model.objects done.after.editor.store) (model.may_fail done.after.editor.store)
        last.written.id names error
