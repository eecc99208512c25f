-- Commands and edits that are done, and the first that failed.
use Rattle.std.proofs.Common.{◌≡◌, ◌<◌, ◌≤◌, ◌+◌, ◌∷◌, ◌++◌, ◌∙◌, All, List, [], ℕ, add-one, ap, arith, drop, get_or, length, suc, subst, sym, take}
use Rattle.std.proofs.Math.Seq.{drop-cons, take-suc}
use Rattle.std.proofs.lemmas.List.{drop_all, length-take-le, take-append-drop, take_all}
use Rattle.std.proofs.lemmas.List.Elements.{All-append, All-cons, All-nil}
use Rattle.std.specs.Prelude.{None, Option, Some}
use Rattle.gixobj_c_edit.specs.Replies.{AreDone, IsFirstFailure, edit_reply_failure, edits_failure, or_later, reply_failure}
use Rattle.gixobj_c_edit.specs.declared.failure.Failure.{Failure}
use Rattle.gixobj_editor.specs.declared.reply.EditReply.{EditReply}
use Rattle.gixobj_editor.specs.declared.reply.Reply.{Reply}
use Rattle.gixobj_streams.specs.declared.encode.Error.{Error}

module _ (replies : List (Reply Error)) (index : ℕ) (it : Reply Error) (within : index < length replies) (is : it ≡ get_or replies index it)
    (done : AreDone (take index replies)) where
  replies_joined : replies ≡ take index replies ++ it ∷ drop (suc index) replies
  replies_joined = sym (take-append-drop index replies)
      ∙ ap (λ (rest : List (Reply Error)). take index replies ++ rest)
      (drop-cons replies index it within ∙ ap (λ (first : Reply Error). first ∷ drop (suc index) replies) (sym is))

  pub is_first_failure : (cause : Failure) → reply_failure it ≡ Some cause → IsFirstFailure replies index cause
  is_first_failure cause failed = record {
    before = take index replies;
    failed = it;
    rest = drop (suc index) replies;
    joined = replies_joined;
    counted = length-take-le index replies (omega (arith, within));
    done = done;
    cause = failed;
  }

  pub done_snoc : reply_failure it ≡ None → AreDone (take (index + 1) replies)
  done_snoc none =
      let P : Reply Error → Type 0 = λ reply. reply_failure reply ≡ None in
      let longer : take (index + 1) replies ≡ take index replies ++ it ∷ [] =
      ap (λ (n : ℕ). take n replies) (add-one index) ∙ take-suc replies index it within
      ∙ ap (λ (x : Reply Error). take index replies ++ x ∷ []) (sym is) in
      subst (All P) (sym longer) (All-append P (take index replies) (it ∷ []) done (All-cons P it [] none (All-nil P)))

pub all_done : (replies : List (Reply Error)) (index : ℕ) → length replies ≤ index → AreDone (take index replies) → AreDone replies
all_done replies index le done = subst AreDone (take_all index replies le) done

-- ---- edits in a directory

module _ (replies : List (EditReply Error)) (index : ℕ) where
  module _ (it : EditReply Error) (within : index < length replies) (is : it ≡ get_or replies index it)
      (all : edits_failure replies ≡ edits_failure (drop index replies)) where
    failure_at : edits_failure replies ≡ or_later (edit_reply_failure it) (edits_failure (drop (suc index) replies))
    failure_at = all ∙ ap edits_failure (drop-cons replies index it within ∙ ap (λ (first : EditReply Error). first ∷ drop (suc index) replies) (sym is))

    pub failure_of_first : (cause : Failure) → edit_reply_failure it ≡ Some cause → edits_failure replies ≡ Some cause
    failure_of_first cause failed = failure_at ∙ ap (λ (first : Option Failure). or_later first (edits_failure (drop (suc index) replies))) failed

    pub failure_of_rest : edit_reply_failure it ≡ None → edits_failure replies ≡ edits_failure (drop (index + 1) replies)
    failure_of_rest none = failure_at ∙ ap (λ (first : Option Failure). or_later first (edits_failure (drop (suc index) replies))) none
        ∙ ap (λ (n : ℕ). edits_failure (drop n replies)) (sym (add-one index))

  pub failure_of_none : length replies ≤ index → edits_failure replies ≡ edits_failure (drop index replies) → edits_failure replies ≡ None
  failure_of_none less all = all ∙ ap edits_failure (drop_all index replies less)
