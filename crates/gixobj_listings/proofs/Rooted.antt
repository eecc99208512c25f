-- A table that agrees with a store has its roots and its trees.
use Rattle.std.proofs.Common.{◌≡◌, ◌≢◌, ◌⊎◌, ◌∙◌, ℕ, List, [], Err, Ok, Result, Some, ⊎_elim, ap, subst, sym}
use Rattle.std.specs.Prelude.{IfErr, IfOk, IsErrAnd, IsFalse, MatchOption, Option}
use Rattle.gix_object.specs.Entries.{EntryView}
use Rattle.gix_object.specs.Existing.{IsEmptyId}
use Rattle.gix_object.specs.Files.{Files, NamedFiles, SameFiles, Table, Trees, is_null}
use Rattle.gix_object.specs.Hash.{id_kind, id_of}
use Rattle.gix_object.specs.Openings.{AreTreesOf}
use Rattle.gix_object.specs.Stores.{Objects}
use Rattle.gix_object.specs.Tables.{AgreesWithStore}
use Rattle.gix_object.specs.hash.hash.object_id.ObjectId.{ObjectId}
use Rattle.gix_object.specs.hash.kind.Kind.TheVariants.{Tree}
use Rattle.gixobj_listings.specs.Roots.{IsRoot}

-- a table that agrees with the store has the root by its id, if that isn't null; by the law that ids are equal or not
module _ (same_or_not : (x y : ObjectId) → (x ≡ y) ⊎ (x ≢ y)) (T : Table) (objects : Objects) (trees : Trees) (it : ObjectId) (entries : List EntryView)
    (filled : IsFalse (is_null it)) (fits : AreTreesOf objects trees) (agrees : AgreesWithStore T trees) (is : IsRoot objects it entries) where
  empty_root : IsEmptyId Tree it → T.tree_at it ≡ Some entries
  empty_root same = ap T.tree_at same ∙ T.none_in_empty (id_kind it) ∙ ap Some (sym (is.empty same))

  stored_root : (IsEmptyId Tree it → ⊥) → T.tree_at it ≡ Some entries
  stored_root other = agrees it entries (⊎_elim (λ null. cc (null, filled)) other) ((fits it entries).1 (is.stored other))

  pub root_there : T.tree_at it ≡ Some entries
  root_there = ⊎_elim empty_root stored_root (same_or_not it (id_of (id_kind it) Tree []))

  pub root_named : (n : ℕ) → SameFiles (Files T n entries) (NamedFiles T n it)
  root_named n path mode id =
      let at : Option (List EntryView) → Type 0 = λ found. MatchOption found ⊥ (λ es. Files T n es path mode id) in
      (subst at (sym root_there), subst at root_there)

-- ---- errors

-- an error that `?` returns
pub if_err_weaken : {X E : Type 0} (r : Result X E) (P Q : E → Type 0) → IsErrAnd r P → ((error : E) → P error → Q error) → IfErr r Q
if_err_weaken (Ok x) P Q had f = absurd had
if_err_weaken (Err error) P Q had f = f error had

pub if_ok_weaken : {X E : Type 0} (r : Result X E) (P Q : X → Type 0) → IfOk r P → ((x : X) → P x → Q x) → IfOk r Q
if_ok_weaken (Ok x) P Q had f = f x had
if_ok_weaken (Err error) P Q had f = tt
