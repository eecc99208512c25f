-- Calls of a closure that returns digests: of one by its contract, and of any such closure. The proofs of
-- `write_by_digests` and `write_and_keep` use them.
use Rattle.std.proofs.Common.{◌≡◌, ◌∙◌, List, [], ◌∷◌, Err, Ok, Result, refl, subst, sym}
use Rattle.std.specs.Fn.{Called, CalledAt, Mut}
use Rattle.std.specs.List.{FoldsTo}
use denote.Ref.{Bor}
use Rattle.gixobj_editor_write.specs.Calls.{answered, denied}
use Rattle.gixobj_editor_write.specs.WriteErrors.{IsWriteError}
use Rattle.gixobj_editor_write.specs.declared.write.WriteError.{WriteError}
use Rattle.gixobj_editor_write.specs.declared.write.WriteError.TheVariants as write
use Rattle.gixobj_editor_write.specs.declared.write.Written.{Written}
use Rattle.gixobj_editor.specs.Writes.{IsWrittenEditor}
use Rattle.gixobj_streams.specs.declared.encode.Error as encode
use Rattle.gixobj_editor_files.specs.State.{State}
use Rattle.gixobj_hash.specs.declared.hash.kind.Kind as hash
use Rattle.gixobj_hash.specs.declared.hash.object_id.ObjectId.{ObjectId}
use Rattle.gixobj_tree_entries.specs.Entries.{EntryView, Pair}
use Rattle.gixobj_editor.specs.Replies.{Denies, ReturnsTreeId}
use Rattle.gixobj_editor_import.specs.OutCauses.{ReturnsDigests}
use Rattle.gixobj_tree.specs.TreeEncoding.{IsDigestResult}

module _ {F : Type 0} (hash : hash.Kind) (of : Mut F (Bor (List EntryView) × Unit {0}) (Result ObjectId encode.Error)) where
  -- a closure whose calls leave it unchanged returns digests after any of them
  module _ (out : F)
      (calls : (requested : F) (tree : Bor (List EntryView)) (answer : Result ObjectId encode.Error) (after : F) → requested ≡ out
      → Called of requested (tree, tt) answer after → IsDigestResult hash tree.now answer × (after ≡ requested)) where
    answered_so : (requested after : F) (tree : List EntryView) (answer : Result ObjectId encode.Error) → requested ≡ out
        → CalledAt of requested tree answer after → IsDigestResult hash tree answer × (after ≡ out)
    answered_so requested after tree answer same one =
        let it = calls requested one.shown answer after same one.called in
        (subst (λ (t : List EntryView). IsDigestResult hash t answer) one.shows it.0, it.1 ∙ same)

    unchanged_of_folds : (requested last : F) (pairs : List Pair) → requested ≡ out → FoldsTo (answered of) requested pairs last → last ≡ out
    unchanged_of_folds requested last [] same folded = sym folded ∙ same
    unchanged_of_folds requested last (pair ∷ pairs) same (next, one, rest) =
        unchanged_of_folds next last pairs (answered_so requested next pair.1 (Ok pair.0) same one).1 rest

    pub returns_digests_of_calls : ReturnsDigests hash of out
    returns_digests_of_calls pairs state folded tree answer after one =
        (answered_so state after tree answer (unchanged_of_folds out state pairs refl folded) one).0

  returns_digests_after : (out next : F) (pair : Pair) → ReturnsDigests hash of out → answered of out pair next → ReturnsDigests hash of next
  returns_digests_after out next pair digests one pairs state folded = digests (pair ∷ pairs) state (next, one, folded)

  folds_to_digests : (out last : F) (pairs : List Pair) → ReturnsDigests hash of out → FoldsTo (answered of) out pairs last
      → FoldsTo (ReturnsTreeId (IsDigestResult hash)) tt pairs tt
  folds_to_digests out last [] digests folded = refl
  folds_to_digests out last (pair ∷ pairs) digests (next, one, rest) = (
    tt,
    digests [] out refl pair.1 (Ok pair.0) next one,
    folds_to_digests next last pairs (returns_digests_after out next pair digests one) rest,
  )

  pub written : {S : Type 0} (old new : State S) (it : Written) (out last : F) → ReturnsDigests hash of out
      → IsWrittenEditor (answered of) out old it new last
      → IsWrittenEditor (ReturnsTreeId (IsDigestResult hash)) tt old it new tt
  written old new it out last digests wrote = record {
    emitted = wrote.emitted;
    called = folds_to_digests out last it.trees.items digests wrote.called;
    storable = wrote.storable;
    below = wrote.below;
    written_tree = wrote.written_tree;
    last = wrote.last;
    dirs = wrote.dirs;
    bases = wrote.bases;
    rest = wrote.rest;
    files = wrote.files;
    same_files = wrote.same_files;
    has_bases = wrote.has_bases;
  }

  pub stopped : (EmitsPairs : List Pair → Type 0) (error : WriteError encode.Error) (out last : F) → ReturnsDigests hash of out
      → IsWriteError (answered of) (denied of) EmitsPairs out last error
      → IsWriteError (ReturnsTreeId (IsDigestResult hash)) (Denies (IsDigestResult hash)) EmitsPairs tt tt error
  stopped EmitsPairs (write.Out e) out last digests is = record {
    before = is.before;
    tree = is.tree;
    between = tt;
    called = folds_to_digests out is.between is.before digests is.called;
    failed = digests is.before is.between is.called is.tree (Err e) last is.failed;
    emitted = is.emitted;
  }
  stopped EmitsPairs write.OutOfMemory out last digests is =
      record { before = is.before; rest = is.rest; called = folds_to_digests out last is.before digests is.called; emitted = is.emitted }
