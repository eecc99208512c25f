-- The verdict about a tree, by the set of its messages.
use Rattle.std.proofs.Common.{◌≡◌, ◌↔◌, ◌∙◌, ℕ, Bool, true, false, IsTrue, List, not, refl, subst, sym}
use Rattle.gixobj_fsck_messages.specs.Sets.{HasError, HasMessage}
use Rattle.gixobj_fsck_messages.specs.Severities.{counts_as_error, severity_of}
use Rattle.gixobj_fsck_messages.specs.declared.message.Message.{Message}
use Rattle.gixobj_fsck_messages.specs.declared.set.Messages.{Messages}
use Rattle.gixobj_fsck_trees.proofs.UniqueReads.{tree_reads_uniquely}
use Rattle.gixobj_fsck_trees.specs.RawEntries.{RawEntryView}
use Rattle.gixobj_fsck_trees.specs.TreeMessages.{AreTreeMessages, ReportsOfTree}
use Rattle.gixobj_hash.specs.Runs.{Ending}
use Rattle.gixobj_hash.specs.declared.hash.kind.Kind.{Kind}
use Rattle.gixobj_fsck_objects.specs.Objects.{IsAcceptedTree, IsTreeMessage}

-- the set has exactly the messages about the tree
pub has_tree_message_iff : (strict : Bool) (kind : Kind) (bytes : List ℕ) (messages : Messages) → AreTreeMessages kind strict bytes messages
    → (it : Message) → HasMessage messages it ↔ IsTreeMessage strict kind bytes it
has_tree_message_iff strict kind bytes messages are it = (
  λ (has : HasMessage messages it). (are.0, are.1, are.2, (are.3 it).0 has),
  λ (is : IsTreeMessage strict kind bytes it).
      let same = tree_reads_uniquely kind bytes is.0 are.0 is.1 are.1 is.2 are.2 in
      let P : List RawEntryView → Type 0 = λ entries. ReportsOfTree strict entries is.1 it in
      let Q : Ending → Type 0 = λ ending. ReportsOfTree strict are.0 ending it in
      (are.3 it).1 (subst Q same.1 (subst P same.0 is.3)),
)

not_true : (b : Bool) → IsTrue (not b) → ¬ IsTrue b
not_true true is = λ (has : IsTrue true). (let it : false ≡ true = is in cc)
not_true false is = λ (has : IsTrue false). (let it : false ≡ true = has in cc)

true_of_not : (b : Bool) → (¬ IsTrue b) → IsTrue (not b)
true_of_not true other = absurd (other refl)
true_of_not false other = refl

-- a tree is accepted if and only if the set of its messages has no error
pub accepted_tree_iff : (strict : Bool) (kind : Kind) (bytes : List ℕ) (messages : Messages) (has : Bool) → AreTreeMessages kind strict bytes messages
    → (IsTrue has ↔ HasError strict messages) → IsTrue (not has) ↔ IsAcceptedTree strict kind bytes
accepted_tree_iff strict kind bytes messages has are error = (
  λ (accepted : IsTrue (not has)) (it : Message) (is : IsTreeMessage strict kind bytes it) (counts : IsTrue (counts_as_error (severity_of strict it))).
      not_true has accepted (error.1 (it, (has_tree_message_iff strict kind bytes messages are it).1 is, counts)),
  λ (accepted : IsAcceptedTree strict kind bytes). true_of_not has (λ (is : IsTrue has).
      let found = error.0 is in
      accepted found.0 ((has_tree_message_iff strict kind bytes messages are found.0).0 found.1) found.2),
)
