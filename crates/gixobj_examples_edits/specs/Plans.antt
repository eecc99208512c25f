-- Plans, which insert an entry into a stored root, and then write.
use Rattle.std.specs.Prelude.{ℕ, List}
use Rattle.gix_object.specs.Entries.{Pair, EntryView}
use Rattle.gix_object.specs.Stores.{StoreModel}
use Rattle.gix_object.specs.Openings.{OfTrees}
use Rattle.gix_object.specs.Files.{Path}
use Rattle.gix_object.specs.WriteErrors.{IsWriteError}
use Rattle.gix_object.specs.Emission.{EmitsSome}
use Rattle.gix_object.specs.Hash.{id_kind}
use Rattle.gix_object.specs.State.{State, new_state, open_bases, open_dirs}
use Rattle.gix_object.specs.Upserts.{IsUpserted, IsUpsertError}
use Rattle.gix_object.specs.Writes.{IsWrittenEditor}
use Rattle.gix_object.specs.write.write.Written.{Written}
use Rattle.gix_object.specs.directories.error.Error.{Error}
use Rattle.gix_object.specs.hash.hash.object_id.ObjectId.{ObjectId}
use Rattle.gixobj_examples_edits.specs.declared.planner.PlanError.{PlanError}
use Rattle.gixobj_examples_edits.specs.declared.planner.PlanError.TheVariants as plan
use Rattle.gixobj_listings.specs.Roots.{IsRoot, IsRootError}

-- a plan: an entry of this mode and id at this path of the tree with this id in a store
module _ {S : Type 0} (model : StoreModel S) (store : S) (root_id : ObjectId) (path : Path) (mode : ℕ)
    (id : ObjectId) where
  -- a new editor of the stored root inserts the entry
  pub record IsInserted (edited : State S) : Type 0 where
    pub entries : List EntryView
    pub is_root : IsRoot (model.objects store) root_id entries
    pub inserted : OfTrees (model.objects store)
        (λ trees. IsUpserted trees (new_state entries store (id_kind root_id)) path mode id edited)

  -- a new editor of the stored root fails to insert the entry
  abbrev pub IsNotInserted : Error → Type 0
  IsNotInserted error =
      (entries : List EntryView) × IsRoot (model.objects store) root_id entries
      × OfTrees (model.objects store)
      (λ trees. IsUpsertError (model.objects store) (model.may_fail store) trees
      (open_dirs (new_state entries store (id_kind root_id))) path error)

  -- the entry is inserted, and then the write succeeds
  abbrev pub IsPlanned : {F : Type 0} → (F → Pair → F → Type 0) → F → Written → Type 0
  IsPlanned {F} gave out written = (edited remaining : State S) × (last : F) × IsInserted edited
      × IsWrittenEditor gave out edited written remaining last

  -- the errors of a plan: there is no root, or the entry isn't inserted, or the write fails
  abbrev pub IsPlanError : {F E : Type 0} → (F → Pair → F → Type 0) → (F → List EntryView → E → F → Type 0) → F
      → PlanError E → Type 0
  IsPlanError gave denied out (plan.Root error) = IsRootError (model.objects store) (model.may_fail store) root_id error
  IsPlanError gave denied out (plan.Edit error) = IsNotInserted error
  IsPlanError {F} gave denied out (plan.Write error) = (edited : State S) × (last : F) × IsInserted edited
      × IsWriteError gave denied (EmitsSome (open_dirs edited) (open_bases edited)) out last error
