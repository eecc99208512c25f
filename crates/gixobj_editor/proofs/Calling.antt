-- Calls of a closure without a state by reference are calls of the closure; the proofs of `do_write` and `do_write_by`
-- use it.
use Rattle.std.proofs.Common.{◌≡◌, ◌∙◌, List, [], ◌∷◌, Err, Ok, Result, refl, subst, sym}
use Rattle.std.specs.Fn.{Called, CalledAt, FnReturnsAt, Mut, Shared}
use Rattle.std.specs.List.{FoldsTo}
use denote.Ref.{Bor}
use Rattle.gixobj_editor_write.specs.Calls.{IsCallableOnTrees, IsStorable}
use Rattle.gixobj_editor_write.specs.WriteErrors.{IsWriteError}
use Rattle.gixobj_editor_write.specs.declared.write.Written.{Written}
use Rattle.gixobj_editor_write.specs.declared.write.WriteError.{WriteError}
use Rattle.gixobj_editor_write.specs.declared.write.WriteError.TheVariants as write
use Rattle.gixobj_editor.specs.Cursors.{IsWrittenBelow}
use Rattle.gixobj_editor.specs.Writes.{IsWrittenEditor}
use Rattle.gixobj_editor_files.specs.Files.{Path}
use Rattle.gixobj_editor_files.specs.State.{State}
use Rattle.gixobj_hash.specs.declared.hash.object_id.ObjectId.{ObjectId}
use Rattle.gixobj_tree_entries.specs.Entries.{EntryView, Pair}
use Rattle.gixobj_editor.specs.Replies.{Answers, Denies, ReturnsTreeId}

-- the members of the closure, and those of a reference to it
module _ {F E : Type 0} (of : Shared F (Bor (List EntryView) × Unit {0}) (Result ObjectId E))
    (lent : Mut (Bor F) (Bor (List EntryView) × Unit {0}) (Result ObjectId E)) (out : Bor F) where
  abbrev answers : Answers E
  answers tree answer = FnReturnsAt of out.now tree answer

  abbrev gave : Bor F → Pair → Bor F → Type 0
  gave requested pair answered = CalledAt lent requested pair.1 (Ok pair.0) answered

  abbrev denied : Bor F → List EntryView → E → Bor F → Type 0
  denied requested tree error answered = CalledAt lent requested tree (Err error) answered

  -- each call is one of the closure, which is unchanged
  abbrev pub AreCalls : Type 0
  AreCalls = (requested : Bor F) (tree : Bor (List EntryView)) (answer : Result ObjectId E) (answered : Bor F)
      → Called lent requested (tree, tt) answer answered → (answered ≡ requested) × of.post requested.now (tree, tt) answer

  answered_so : (requested answered : Bor F) (tree : List EntryView) (answer : Result ObjectId E) → requested ≡ out
      → CalledAt lent requested tree answer answered → AreCalls → (answered ≡ out) × answers tree answer
  answered_so requested answered tree answer stays one calls =
      let it = calls requested one.shown answer answered one.called in (
        it.0 ∙ stays,
        record {
          shown = one.shown;
          shows = one.shows;
          says = record
              { met = subst (λ (f : Bor F). of.post f.now (one.shown, tt) answer) stays it.1 };
        },
      )

  folds : (requested : Bor F) (pairs : List Pair) (answered : Bor F) → requested ≡ out → FoldsTo gave requested pairs answered → AreCalls
      → FoldsTo (ReturnsTreeId answers) tt pairs tt × (answered ≡ out)
  folds requested [] answered stays is calls = (refl, sym is ∙ stays)
  folds requested (pair ∷ pairs) answered stays (next, one, rest) calls =
      let now = answered_so requested next pair.1 (Ok pair.0) stays one calls in
      let later = folds next pairs answered now.0 rest calls in
      ((tt, now.1, later.0), later.1)

  pub callable : (pre : Bor F → Bor (List EntryView) → Type 0) → ((tree : Bor (List EntryView)) → IsStorable tree.now → pre out tree) → AreCalls
      → IsCallableOnTrees pre (λ f p g. CalledAt lent f p.1 (Ok p.0) g) out
  callable pre may calls = λ answered state folded tree storable. subst (λ (f : Bor F). pre f tree) (sym (folds out answered state refl folded calls).1)
      (may tree storable)

  pub written : {S : Type 0} (old new : State S) (it : Written) → (last : Bor F) × IsWrittenEditor (λ f p g. CalledAt lent f p.1 (Ok p.0) g) out old it new last
      → AreCalls
      → IsWrittenEditor (ReturnsTreeId answers) tt old it new tt
  written old new it (last, wrote) calls = record {
    emitted = wrote.emitted;
    called = (folds out it.trees.items last refl wrote.called calls).0;
    storable = wrote.storable;
    below = wrote.below;
    written_tree = wrote.written_tree;
    last = wrote.last;
    dirs = wrote.dirs;
    bases = wrote.bases;
    rest = wrote.rest;
    files = wrote.files;
    same_files = wrote.same_files;
    has_bases = wrote.has_bases;
  }

  pub written_below : {S : Type 0} (old new : State S) (prefix : Path) (it : Written) → (last : Bor F)
      × IsWrittenBelow (λ f p g. CalledAt lent f p.1 (Ok p.0) g) out old prefix it new last → AreCalls
      → IsWrittenBelow (ReturnsTreeId answers) tt old prefix it new tt
  written_below old new prefix it (last, wrote) calls = record {
    emitted = wrote.emitted;
    called = (folds out it.trees.items last refl wrote.called calls).0;
    storable = wrote.storable;
    below = wrote.below;
    written_tree = wrote.written_tree;
    last = wrote.last;
    dirs = wrote.dirs;
    bases = wrote.bases;
    rest = wrote.rest;
    is_opened = wrote.is_opened;
    files = wrote.files;
    same_files = wrote.same_files;
    has_bases = wrote.has_bases;
  }

  pub stopped : (EmitsPairs : List Pair → Type 0) (error : WriteError E) → (last : Bor F) × IsWriteError (λ f p g. CalledAt lent f p.1 (Ok p.0) g)
      (λ f t e g. CalledAt lent f t (Err e) g) EmitsPairs out last error → AreCalls
      → IsWriteError (ReturnsTreeId answers) (Denies answers) EmitsPairs tt tt error
  stopped EmitsPairs (write.Out e) (last, is) calls =
      let so_far = folds out is.before is.between refl is.called calls in
      record {
        before = is.before;
        tree = is.tree;
        between = tt;
        called = so_far.0;
        failed = (answered_so is.between last is.tree (Err e) so_far.1 is.failed calls).1;
        emitted = is.emitted;
      }
  stopped EmitsPairs write.OutOfMemory (last, is) calls =
      record { before = is.before; rest = is.rest; called = (folds out is.before last refl is.called calls).0; emitted = is.emitted }
