-- A write whose trees the store then keeps, all of them or a prefix.
use Rattle.std.proofs.Common.{◌≡◌, ◌∙◌, ℕ, All, List, ap, subst, sym}
use Rattle.gixobj_store.specs.Stores.{StoreModel, Objects}
use Rattle.gixobj_editor_write.specs.declared.write.Written.{Written}
use Rattle.gixobj_editor.specs.Writes.{IsWrittenEditor}
use Rattle.gixobj_editor_files.specs.State.{State, with_store}
use Rattle.gixobj_tree_entries.specs.Entries.{Pair}
use Rattle.gixobj_hash.specs.declared.hash.kind.Kind as hash
use Rattle.gixobj_hash.specs.declared.hash.object_id.ObjectId.{ObjectId}
use Rattle.gixobj_store_keep.specs.Keeping.{StopsKeepingAt, with_trees}
use Rattle.gixobj_tree.specs.TreeEncoding.{IsEncodableTree, IsDigestResult}
use Rattle.gixobj_store_keep.specs.declared.keeping.KeepError.{KeepError}
use Rattle.gixobj_editor.specs.Commands.{at_root}
use Rattle.gixobj_editor.specs.Replies.{ReturnsTreeId, IsWriteKept, IsWrittenAt, KeepsAll}
use Rattle.gixobj_editor.specs.declared.reply.EditReply.TheVariants as reply
use Rattle.gixobj_editor_import.specs.Edited.{IsWriteReplied}

module _ {S : Type 0} (model : StoreModel S) (hash : hash.Kind) (old between new : State S) (start remaining : S) (it : Written) (lent : List Pair)
    (written : IsWrittenEditor (ReturnsTreeId (IsDigestResult hash)) tt old it between tt)
    (starts : start ≡ between.store) (all : lent ≡ it.trees.items) (rest : new ≡ with_store between remaining)
    (may_fail : (id : ObjectId) → model.may_fail remaining id ≡ model.may_fail start id) where
  start_is : start ≡ old.store
  start_is = starts ∙ ap (λ (s : State S). s.store) written.rest

  remaining_is : new.store ≡ remaining
  remaining_is = ap (λ (s : State S). s.store) rest

  kept_so : (Keeps : Objects → Objects → Type 0) → Keeps (model.objects start) (model.objects remaining)
      → IsWriteKept model (IsWrittenAt (IsDigestResult hash) at_root it old) Keeps old new
  kept_so Keeps kept = record {
    between = between;
    written = written;
    rest = subst (λ (s : S). new ≡ with_store between s) (sym remaining_is) rest;
    stored = subst (λ (s : S). Keeps (model.objects s) (model.objects new.store)) start_is
        (subst (λ (s : S). Keeps (model.objects start) (model.objects s)) (sym remaining_is) kept);
    may_fail = λ id. ap (λ (s : S). model.may_fail s id) remaining_is ∙ may_fail id ∙ ap (λ (s : S). model.may_fail s id) start_is;
  }

  pub kept_all : model.objects remaining ≡ with_trees lent (model.objects start) → All (λ pair. IsEncodableTree pair.1) lent
      → IsWriteReplied model hash old (reply.Written it) new
  kept_all kept all_have_encodings =
      kept_so (KeepsAll it.trees.items) (subst (λ (pairs : List Pair). KeepsAll pairs (model.objects start) (model.objects remaining)) all
      (kept, all_have_encodings))

  pub not_kept : (count : ℕ) (error : KeepError) → StopsKeepingAt (model.may_fail start) lent (model.objects start) (model.objects remaining) count error
      → IsWriteReplied model hash old (reply.NotKept it count error) new
  not_kept count error stops =
      kept_so (λ before after. StopsKeepingAt (model.may_fail old.store) it.trees.items before after count error)
      (subst (λ (pairs : List Pair). StopsKeepingAt (model.may_fail old.store) pairs (model.objects start) (model.objects remaining) count error) all
      (subst (λ (s : S). StopsKeepingAt (model.may_fail s) lent (model.objects start) (model.objects remaining) count error) start_is stops))
