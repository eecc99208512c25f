-- The first reply other than that to an accepted edit decides an import; the proof of `deciding_reply` uses it.
use Rattle.std.proofs.Common.{◌≡◌, ◌≢◌, ◌<◌, ℕ, suc, List, [], ◌∷◌, Bool, true, not, None, Some, ap, arith, get_or, length, refl, subst, sym}
use Rattle.std.specs.Prelude.{Contains, position}
use Rattle.std.specs.List.{position_or_len}
use Rattle.gixobj_examples_edits.specs.Imports.{Decides, HasWriteReply, edits_and_write, is_done}
use Rattle.gix_object.specs.Stores.{StoreModel}
use Rattle.gix_object.specs.Commands.{at_root}
use Rattle.gix_object.specs.Replies.{Answers, IsEditReply, IsRun}
use Rattle.gix_object.specs.State.{State}
use Rattle.gix_object.specs.commands.command.Command.{Command}
use Rattle.gix_object.specs.commands.command.Edit.{Edit}
use Rattle.gix_object.specs.commands.command.Edit.TheVariants as edit
use Rattle.gix_object.specs.editor.reply.EditReply.{EditReply}
use Rattle.gix_object.specs.editor.reply.EditReply.TheVariants as edit_reply
use Rattle.gix_object.specs.editor.reply.Reply.{Reply}
use Rattle.gix_object.specs.editor.reply.Reply.TheVariants as reply

abbrev pub is_other : {E : Type 0} → Reply E → Bool
is_other its_reply = not (is_done its_reply)

-- a test that holds in a list has a first position
pub position_of_position_or_len : {X : Type 0} (test : X → Bool) (xs : List X) → position_or_len test xs < length xs
    → position test xs ≡ Some (position_or_len test xs)
position_of_position_or_len test xs low = grind arith

pub position_or_len_eq_position : {E : Type 0} (replies shown : List (Reply E)) (index k : ℕ) → shown ≡ replies → Some index ≡ position is_other shown
    → position_or_len is_other replies ≡ k → k < length replies → k ≡ index
position_or_len_eq_position replies shown index k same found is low =
    let first : position_or_len is_other replies < length replies = rw is low in
    cc (found, ap (position is_other) same, position_of_position_or_len is_other replies first, is)

position_ne_none_of_lt : {E : Type 0} (replies shown : List (Reply E)) (k : ℕ) → shown ≡ replies → None ≡ position is_other shown
    → position_or_len is_other replies ≡ k
    → k < length replies → ⊥
position_ne_none_of_lt replies shown k same found is low =
    let first : position_or_len is_other replies < length replies = rw is low in
    cc (found, ap (position is_other) same, position_of_position_or_len is_other replies first)

abbrev IsOfAnEdit : {E : Type 0} → EditReply E → Type 0
IsOfAnEdit edit_reply.Done = Unit {0}
IsOfAnEdit (edit_reply.Refused error) = Unit {0}
IsOfAnEdit its_reply = ⊥

module _ {S E : Type 0} (model : StoreModel S) (answers : Answers E) where
  -- a reply decides; only one to an edit or a write does
  abbrev pub Settles : State S → List Edit → ℕ → Reply E → State S → Type 0
  Settles old edits index (reply.Edit its_reply) new = Decides model answers old edits index its_reply new
  Settles old edits index its_reply new = ⊥

  by_an_edit : (old new : State S) (edits : List Edit) (k : ℕ) (r : Reply E) → ((x : EditReply E) → r ≡ reply.Edit x → ⊥) → Settles old edits k r new → ⊥
  by_an_edit old new edits k (reply.Edit x) other it = other x refl
  by_an_edit old new edits k r other it = it

  one_after : (old between new : State S) (it : Edit) (edits : List Edit) (its_reply : EditReply E)
      → IsEditReply model answers at_root old it edit_reply.Done between
      → HasWriteReply model answers between edits its_reply new → HasWriteReply model answers old (it ∷ edits) its_reply new
  one_after old between new it edits its_reply first after = record { edited = after.edited; done = (between, first, after.done); write = after.write }

  one_more : (old between new : State S) (it : Edit) (edits : List Edit) (k : ℕ) (r : Reply E)
      → IsEditReply model answers at_root old it edit_reply.Done between
      → Settles between edits k r new → Settles old (it ∷ edits) (suc k) r new
  one_more old between new it edits k (reply.Edit edit_reply.Done) first is = is
  one_more old between new it edits k (reply.Edit (edit_reply.Refused error)) first is = record {
    before = it ∷ is.before;
    failed_edit = is.failed_edit;
    following = is.following;
    split = ap (λ (es : List Edit). it ∷ es) is.split;
    number = ap suc is.number;
    reached = is.reached;
    done = (between, first, is.done);
    after = is.after;
    cause = is.cause;
    replies = is.replies;
    rest = is.rest;
  }
  one_more old between new it edits k (reply.Edit (edit_reply.Written written)) first is =
      one_after old between new it edits (edit_reply.Written written) first is
  one_more old between new it edits k (reply.Edit (edit_reply.WriteRefused error)) first is =
      one_after old between new it edits (edit_reply.WriteRefused error) first is
  one_more old between new it edits k (reply.Edit (edit_reply.NotKept written count error)) first is =
      one_after old between new it edits (edit_reply.NotKept written count error) first is
  one_more old between new it edits k r first is = absurd is

  last : (between new : State S) (replies : List (Reply E)) → IsRun model answers between [] replies new → new ≡ between
  last between new [] run = run
  last between new (r ∷ replies) run = absurd run

  write_alone : (old between new : State S) (its_reply : EditReply E) (replies : List (Reply E))
      → IsEditReply model answers at_root old edit.Write its_reply between
      → IsRun model answers between [] replies new → HasWriteReply model answers old [] its_reply new
  write_alone old between new its_reply replies first run =
      record {
        edited = old;
        done = refl;
        write = subst (λ (s : State S). IsEditReply model answers at_root old edit.Write its_reply s)
            (sym (last between new replies run)) first;
      }

  of_an_edit : (old new : State S) (it : Edit) (its_reply : EditReply E) → it ≢ edit.Write → IsEditReply model answers at_root old it its_reply new
      → IsOfAnEdit its_reply
  of_an_edit old new edit.Write its_reply other is = absurd (other refl)
  of_an_edit old new it edit_reply.Done other is = tt
  of_an_edit old new it (edit_reply.Refused error) other is = tt
  of_an_edit old new it its_reply other is = absurd is

  -- the first other reply exists, and it decides
  abbrev pub IsDecided : State S → List Edit → List (Reply E) → State S → Reply E → Type 0
  IsDecided old edits replies new r = (k : ℕ) × (position_or_len is_other replies ≡ k) × (k < length replies)
      × (get_or replies k r ≡ r → Settles old edits k r new)

  at_once : (old new : State S) (edits : List Edit) (first : Reply E) (replies : List (Reply E)) (r : Reply E) → is_other first ≡ true
      → Settles old edits 0 first new → IsDecided old edits (first ∷ replies) new r
  at_once old new edits first replies r other it = (0, rw other refl, omega arith, λ is. subst (λ (x : Reply E). Settles old edits 0 x new) is it)

  pub decided : (old new : State S) (edits : List Edit) (replies : List (Reply E)) (r : Reply E) → (Contains edits edit.Write → ⊥)
      → IsRun model answers old (edits_and_write edits) replies new
      → IsDecided old edits replies new r
  decided old new [] [] r none run = absurd run
  decided old new (it ∷ edits) [] r none run = absurd run
  decided old new [] (reply.Edit (edit_reply.Written written) ∷ replies) r none (between, first, run) =
      at_once old new [] _ replies r refl (write_alone old between new (edit_reply.Written written) replies first run)
  decided old new [] (reply.Edit (edit_reply.WriteRefused error) ∷ replies) r none (between, first, run) =
      at_once old new [] _ replies r refl (write_alone old between new (edit_reply.WriteRefused error) replies first run)
  decided old new [] (reply.Edit (edit_reply.NotKept written count error) ∷ replies) r none (between, first, run) =
      at_once old new [] _ replies r refl (write_alone old between new (edit_reply.NotKept written count error) replies first run)
  decided old new (it ∷ edits) (reply.Edit edit_reply.Done ∷ replies) r none (between, first, run) =
      let later = decided between new edits replies r (λ has. none (suc has.0, omega arith, has.2)) run in
      (suc later.0, omega (arith, later.1), omega (arith, later.2), λ is. one_more old between new it edits later.0 r first (later.3 is))
  decided old new (it ∷ edits) (reply.Edit (edit_reply.Refused error) ∷ replies) r none (between, first, run) =
      at_once old new (it ∷ edits) _ replies r refl
      (record {
        before = [];
        failed_edit = it;
        following = edits;
        split = refl;
        number = refl;
        reached = old;
        done = refl;
        after = between;
        cause = first;
        replies = replies;
        rest = run;
      })
  decided old new (it ∷ edits) (reply.Edit (edit_reply.Written written) ∷ replies) r none (between, first, run) =
      absurd (of_an_edit old between it _ (λ same. none (0, omega arith, same)) first)
  decided old new (it ∷ edits) (reply.Edit (edit_reply.WriteRefused error) ∷ replies) r none (between, first, run) =
      absurd (of_an_edit old between it _ (λ same. none (0, omega arith, same)) first)
  decided old new (it ∷ edits) (reply.Edit (edit_reply.NotKept written count error) ∷ replies) r none (between, first, run) =
      absurd (of_an_edit old between it _ (λ same. none (0, omega arith, same)) first)
  decided old new edits (its_reply ∷ replies) r none run = absurd run.1

  -- the reply at the found position decides
  pub decides : (old new : State S) (edits : List Edit) (commands : List Command) (replies shown : List (Reply E)) (index : ℕ) (r : EditReply E)
      → (Contains edits edit.Write → ⊥) → commands ≡ edits_and_write edits
      → IsRun model answers old commands replies new → shown ≡ replies → Some index ≡ position is_other shown
      → reply.Edit r ≡ get_or replies index (reply.Edit r) → Decides model answers old edits index r new
  decides old new edits commands replies shown index r none is run same found at =
      let it = decided old new edits replies (reply.Edit r) none (subst (λ (cs : List Command). IsRun model answers old cs replies new) is run) in
      let split : it.0 ≡ index = position_or_len_eq_position replies shown index it.0 same found it.1 it.2 in
      subst (λ (k : ℕ). Decides model answers old edits k r new) split
      (it.3 (subst (λ (k : ℕ). get_or replies k (reply.Edit r) ≡ reply.Edit r) (sym split) (sym at)))

  pub is_found : (old new : State S) (edits : List Edit) (commands : List Command) (replies shown : List (Reply E)) → (Contains edits edit.Write → ⊥)
      → commands ≡ edits_and_write edits
      → IsRun model answers old commands replies new → shown ≡ replies → None ≡ position is_other shown → ⊥
  is_found old new edits commands replies shown none is run same found =
      let it = decided old new edits replies reply.RootSet none (subst (λ (cs : List Command). IsRun model answers old cs replies new) is run) in
      position_ne_none_of_lt replies shown it.0 same found it.1 it.2

  pub is_by_an_edit : (old new : State S) (edits : List Edit) (commands : List Command) (replies shown : List (Reply E)) (index : ℕ) (r : Reply E)
      → (Contains edits edit.Write → ⊥) → commands ≡ edits_and_write edits
      → IsRun model answers old commands replies new → shown ≡ replies → Some index ≡ position is_other shown → r ≡ get_or replies index r
      → ((x : EditReply E) → r ≡ reply.Edit x → ⊥) → ⊥
  is_by_an_edit old new edits commands replies shown index r none is run same found at other =
      let it = decided old new edits replies r none (subst (λ (cs : List Command). IsRun model answers old cs replies new) is run) in
      let split : it.0 ≡ index = position_or_len_eq_position replies shown index it.0 same found it.1 it.2 in
      by_an_edit old new edits it.0 r other (it.3 (subst (λ (k : ℕ). get_or replies k r ≡ r) (sym split) (sym at)))
