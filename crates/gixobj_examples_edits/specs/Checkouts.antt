-- Checkouts, which insert entries into a directory of a root, and then write.
use Rattle.std.specs.Prelude.{◌≡◌, ◌⊎◌, List, [], ◌∷◌, map}
use Rattle.gix_object.specs.Entries.{Pair, EntryView}
use Rattle.gix_object.specs.Calls.{names_of}
use Rattle.gix_object.specs.Cursors.{IsEnsured, IsCursorError, IsCursorEditError, from_root}
use Rattle.gix_object.specs.Files.{Path}
use Rattle.gix_object.specs.WriteErrors.{IsWriteError}
use Rattle.gix_object.specs.Emission.{EmitsSome}
use Rattle.gix_object.specs.History.{Step, ensure, upsert}
use Rattle.gix_object.specs.Mode.{mode_of_kind}
use Rattle.gix_object.specs.State.{State, open_bases, open_dirs}
use Rattle.gix_object.specs.Upserts.{IsUpserted, IsUpsertError}
use Rattle.gix_object.specs.Writes.{IsWrittenEditor}
use Rattle.gix_object.specs.write.write.Written.{Written}
use Rattle.gix_object.specs.directories.error.Error.{Error}
use Rattle.gixobj_examples_edits.specs.declared.checkout.CheckoutError.{CheckoutError}
use Rattle.gixobj_examples_edits.specs.declared.checkout.CheckoutError.TheVariants as checkout
use Rattle.gixobj_examples_edits.specs.declared.checkout.Planned.{Planned}
use Rattle.gix_object.specs.Openings.{OfTrees}
use Rattle.gix_object.specs.Stores.{StoreModel}

-- the path of an entry from the root
abbrev pub path_from : Path → Planned → Path
path_from prefix entry = from_root prefix (names_of entry.path.items)

-- the step that inserts an entry at its path from the prefix
abbrev pub insert_at : Path → Planned → Step
insert_at prefix entry = upsert (path_from prefix entry) (mode_of_kind entry.kind) entry.id

-- the directory at the prefix is ensured, and then the entries are inserted
abbrev pub steps_of_checkout : Path → List Planned → List Step
steps_of_checkout prefix entries = ensure prefix ∷ map (insert_at prefix) entries

module _ {S : Type 0} (model : StoreModel S) where
  -- a cursor at the prefix inserts the entry
  abbrev pub IsInsertedAt : Path → State S → Planned → State S → Type 0
  IsInsertedAt prefix old entry new =
      OfTrees (model.objects old.store)
      (λ trees. IsUpserted trees old (path_from prefix entry) (mode_of_kind entry.kind) entry.id new)

  -- a cursor at the prefix fails to insert the entry
  abbrev pub IsNotInsertedAt : Path → State S → Planned → Error → Type 0
  IsNotInsertedAt prefix old entry error =
      OfTrees (model.objects old.store)
      (λ trees. IsCursorEditError (names_of entry.path.items)
      (IsUpsertError (model.objects old.store) (model.may_fail old.store) trees (open_dirs old)
      (path_from prefix entry)) error)

  -- a cursor at the prefix inserts all entries, one after the other
  abbrev pub AreInserted : Path → State S → List Planned → State S → Type 0
  AreInserted prefix old [] new = new ≡ old
  AreInserted prefix old (entry ∷ entries) new = (between : State S) × IsInsertedAt prefix old entry between
      × AreInserted prefix between entries new

  -- a cursor at the prefix fails to insert an entry, after those that it inserts
  abbrev pub AreNotInserted : Path → State S → List Planned → Error → Type 0
  AreNotInserted prefix old [] error = ⊥
  AreNotInserted prefix old (entry ∷ entries) error = IsNotInsertedAt prefix old entry error
      ⊎ ((between : State S) × IsInsertedAt prefix old entry between × AreNotInserted prefix between entries error)

  -- the directory at the prefix is made if it is missing
  abbrev pub IsMade : State S → Path → State S → Type 0
  IsMade old prefix new = OfTrees (model.objects old.store) (λ trees. IsEnsured trees old prefix new)

  -- the directory at the prefix is made, and then the entries are inserted
  abbrev pub IsFilled : State S → Path → List Planned → State S → Type 0
  IsFilled old prefix entries new = (made : State S) × IsMade old prefix made × AreInserted prefix made entries new

  -- the errors of filling a directory: it isn't made, or an entry isn't inserted
  abbrev pub IsNotFilled : State S → Path → List Planned → Error → Type 0
  IsNotFilled old prefix entries error =
      OfTrees (model.objects old.store)
      (λ trees. IsCursorError (model.objects old.store) (model.may_fail old.store) trees
      (open_dirs old) prefix error)
      ⊎ ((made : State S) × IsMade old prefix made × AreNotInserted prefix made entries error)

  -- the directory is filled, and then the write succeeds
  abbrev pub IsCheckedOut : {F : Type 0} → State S → Path → List Planned → (F → Pair → F → Type 0) → F → Written
      → Type 0
  IsCheckedOut {F} old prefix entries gave out written = (filled remaining : State S) × (last : F)
      × IsFilled old prefix entries filled × IsWrittenEditor gave out filled written remaining last

  -- the errors of a checkout: the directory isn't filled, or the write fails
  abbrev pub IsCheckoutError : {F E : Type 0} → State S → Path → List Planned → (F → Pair → F → Type 0)
      → (F → List EntryView → E → F → Type 0) → F → CheckoutError E → Type 0
  IsCheckoutError old prefix entries gave denied out (checkout.Edit error) = IsNotFilled old prefix entries error
  IsCheckoutError {F} old prefix entries gave denied out (checkout.Write error) = (filled : State S) × (last : F)
      × IsFilled old prefix entries filled
      × IsWriteError gave denied (EmitsSome (open_dirs filled) (open_bases filled)) out last error
