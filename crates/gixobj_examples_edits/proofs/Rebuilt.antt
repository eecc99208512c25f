-- Two writes of a run without files at its start; the proofs of `wrote_the_same` and `id_written` use it.
use Rattle.std.proofs.Common.{◌≡◌, ◌<◌, ◌≤◌, ◌↔◌, ℕ, zero, suc, Bool, IsTrue, List, [], ◌∷◌, None, Option, Some, ap, arith, get_or, inl, inr, length, refl}
use Rattle.std.proofs.Common.{subst, sym, take, ◌∙◌}
use Rattle.gix_object.specs.Commands.{accepted_steps, written_at, written_by}
use Rattle.gix_object.specs.Files.{SameFiles, Table}
use Rattle.gix_object.specs.History.{Step}
use Rattle.gix_object.specs.PlainRuns.{IdsDetermineFiles, IsPlainRun, files_before}
use Rattle.gix_object.specs.PlainHistory.{NoFiles, PlainFilesAfter}
use Rattle.gix_object.specs.Replies.{Answers, IsRun}
use Rattle.gix_object.specs.State.{State, new_state}
use Rattle.gix_object.specs.write.write.Written.{Written}
use Rattle.gix_object.specs.commands.command.Command.{Command}
use Rattle.gix_object.specs.editor.reply.Reply.{Reply}
use Rattle.gix_object.specs.hash.hash.kind.Kind.{Kind}
use Rattle.gix_object.specs.hash.hash.object_id.ObjectId.{ObjectId}
use Rattle.gixobj_examples_edits.specs.Rebuilds.{AreReplies, IsCompared, NamesWritten, IsComparisonError, id_named, up_to}
use Rattle.gixobj_examples_edits.specs.declared.rebuilder.CompareError.{CompareError}
use Rattle.gixobj_examples_edits.specs.declared.rebuilder.CompareError.TheVariants as compare
use Rattle.gix_object.specs.Stores.{StoreModel}

-- a prefix of the replies reports the same writes at its indices
written_at_take : {E : Type 0} (m k : ℕ) (replies : List (Reply E)) → k < m → written_at (take m replies) k ≡ written_at replies k
written_at_take zero k replies low = absurd (omega (arith, low))
written_at_take (suc m) k [] low = refl
written_at_take (suc m) zero (r ∷ replies) low = refl
written_at_take (suc m) (suc k) (r ∷ replies) low = written_at_take m k replies (omega (arith, low))

-- the write that the reply at an index reports
written_at_of_reply : {E : Type 0} (replies : List (Reply E)) (k : ℕ) (r : Reply E) → k < length replies → r ≡ get_or replies k r
    → written_at replies k ≡ written_by r
written_at_of_reply [] k r low is = absurd (omega (arith, low))
written_at_of_reply (x ∷ replies) zero r low is = ap written_by (sym is)
written_at_of_reply (x ∷ replies) (suc k) r low is = written_at_of_reply replies k r (omega (arith, low)) is

pub written_at_none_past_end : {E : Type 0} (replies : List (Reply E)) (k : ℕ) → length replies ≤ k → written_at replies k ≡ None
written_at_none_past_end [] k past = refl
written_at_none_past_end (x ∷ replies) zero past = absurd (omega (arith, past))
written_at_none_past_end (x ∷ replies) (suc k) past = written_at_none_past_end replies k (omega (arith, past))

written_of_id_named : (seen : Option Written) (id : ObjectId) → Some id ≡ id_named seen → (written : Written) × (seen ≡ Some written) × (written.id ≡ id)
written_of_id_named None id is = absurd (cc is)
written_of_id_named (Some written) id is = (written, refl, cc is)

none_of_id_named_none : (seen : Option Written) → None ≡ id_named seen → seen ≡ None
none_of_id_named_none None is = refl
none_of_id_named_none (Some written) is = absurd (cc is)

pub names_written_of_reply : {E : Type 0} (replies : List (Reply E)) (k : ℕ) (r : Reply E) (id : ObjectId) → k < length replies → r ≡ get_or replies k r
    → Some id ≡ id_named (written_by r) → NamesWritten replies k id
names_written_of_reply replies k r id low is seen = let it = written_of_id_named (written_by r) id seen in
    (it.0, written_at_of_reply replies k r low is ∙ it.1, it.2)

pub written_at_none_of_failure : {E : Type 0} (replies : List (Reply E)) (k : ℕ) (r : Reply E) → k < length replies → r ≡ get_or replies k r
    → None ≡ id_named (written_by r)
    → written_at replies k ≡ None
written_at_none_of_failure replies k r low is seen = written_at_of_reply replies k r low is ∙ none_of_id_named_none (written_by r) seen

-- a prefix of a prefix is a prefix
take_take : {A : Type 0} (k m : ℕ) (xs : List A) → k < m → take k (take m xs) ≡ take k xs
take_take zero m xs low = refl
take_take (suc k) zero xs low = absurd (omega (arith, low))
take_take (suc k) (suc m) [] low = refl
take_take {A} (suc k) (suc m) (x ∷ xs) low = ap (λ (l : List A). x ∷ l) (take_take k m xs (omega (arith, low)))

module _ {S E : Type 0} (model : StoreModel S) (commands : List Command) (start : State S) (replies : List (Reply E)) where
  -- in each prefix of the run ids determine files
  abbrev OneId : Type 0
  OneId = (T : Table) (m : ℕ) → IsPlainRun T (model.objects start.store) start (take m commands) (take m replies)
      → IdsDetermineFiles (take m commands) (take m replies)

  steps_prefix : (m k : ℕ) → k < m → accepted_steps (take k (take m commands)) (take k (take m replies)) ≡ accepted_steps (take k commands)
      (take k replies)
  steps_prefix m k low = ap (λ (cs : List Command). accepted_steps cs (take k (take m replies))) (take_take k m commands low)
      ∙ ap (λ (rs : List (Reply E)). accepted_steps (take k commands) rs) (take_take k m replies low)

  -- ids determine files for the writes at two indices
  known_at : OneId → (T : Table) (k l : ℕ) → IsPlainRun T (model.objects start.store) start (take (up_to k l) commands) (take (up_to k l) replies)
      → (first second : Written) → written_at replies k ≡ Some first → written_at replies l ≡ Some second
      → (first.id ≡ second.id) ↔ SameFiles (files_before k commands replies) (files_before l commands replies)
  known_at one_id T k l plain first second at_first at_second =
      let m = up_to k l in
      let of_prefix = one_id T m plain k l first second (written_at_take m k replies (omega arith) ∙ at_first)
      (written_at_take m l replies (omega arith) ∙ at_second) in
      subst (λ (steps : List Step). (first.id ≡ second.id) ↔ SameFiles (files_before k commands replies) (PlainFilesAfter steps NoFiles))
      (steps_prefix m l (omega arith))
      (subst (λ (steps : List Step). (first.id ≡ second.id) ↔ SameFiles (PlainFilesAfter steps NoFiles)
      (files_before l (take m commands) (take m replies)))
      (steps_prefix m k (omega arith)) of_prefix)

module _ {S E : Type 0} (model : StoreModel S) (answers : Answers E) (store : S) (object_hash : Kind) (commands : List Command) where
  -- the replies of a new editor
  pub replied : (start remaining : State S) (replies : List (Reply E)) → start ≡ new_state [] store object_hash
      → IsRun model answers start commands replies remaining → AreReplies model answers store object_hash commands replies
  replied start remaining replies new run = (remaining, subst (λ (state : State S). IsRun model answers state commands replies remaining) new run)

  pub compared : (start remaining : State S) (replies : List (Reply E)) (position other : ℕ) (same : Bool) (first second : Written)
      → start ≡ new_state [] store object_hash → IsRun model answers start commands replies remaining
      → OneId model commands start replies
      → written_at replies position ≡ Some first → written_at replies other ≡ Some second → IsTrue same ↔ (first.id ≡ second.id)
      → IsCompared model answers store object_hash commands position other same
  compared start remaining replies position other same first second new run one_id at_first at_second ids = record {
    replies = replies;
    run = replied start remaining replies new run;
    first = first;
    second = second;
    first_at = at_first;
    second_at = at_second;
    ids = ids;
    files = λ T plain.
        let its_own = subst (λ (state : State S). IsPlainRun T (model.objects state.store) state (take (up_to position other) commands)
        (take (up_to position other) replies)) (sym new) plain in
        let seen = known_at model commands start replies one_id T position other its_own first second at_first at_second in
        ((λ yes. seen.0 (ids.0 yes)), λ equal. ids.1 (seen.1 equal));
  }

  -- the result by ids that were found in equal lists of replies
  pub is_reported : (start remaining : State S) (replies shown again : List (Reply E)) (position other : ℕ) (same : Bool) (id its_id : ObjectId)
      → start ≡ new_state [] store object_hash → IsRun model answers start commands replies remaining
      → OneId model commands start replies
      → shown ≡ replies → again ≡ replies → NamesWritten shown position id → NamesWritten again other its_id → IsTrue same ↔ (id ≡ its_id)
      → IsCompared model answers store object_hash commands position other same
  is_reported start remaining replies shown again position other same id its_id new run one_id is_shown is_again (first, first_at, first_is)
      (second, second_at, second_is) ids =
      let at_first : written_at replies position ≡ Some first = subst (λ (rs : List (Reply E)). written_at rs position ≡ Some first) is_shown first_at in
      let at_second : written_at replies other ≡ Some second =
      subst (λ (rs : List (Reply E)). written_at rs other ≡ Some second) is_again second_at in
      compared start remaining replies position other same first second new run one_id at_first at_second
      ((λ yes. first_is ∙ ids.0 yes ∙ sym second_is), λ equal. ids.1 (sym first_is ∙ equal ∙ second_is))

  -- the first index has no write
  pub none_at_first : (start remaining : State S) (replies shown : List (Reply E)) (position other : ℕ) (error : CompareError)
      → start ≡ new_state [] store object_hash → IsRun model answers start commands replies remaining
      → shown ≡ replies → error ≡ compare.NoWrite position → written_at shown position ≡ None
      → IsComparisonError model answers store object_hash commands position other error
  none_at_first start remaining replies shown position other error new run is_shown is none =
      let here : written_at replies position ≡ None = subst (λ (rs : List (Reply E)). written_at rs position ≡ None) is_shown none in
      subst (λ (e : CompareError). IsComparisonError model answers store object_hash commands position other e) (sym is)
      (replies, replied start remaining replies new run, (here, inl refl))

  -- the first index has a write, the second has none
  pub none_at_second : (start remaining : State S) (replies shown again : List (Reply E)) (position other : ℕ) (id : ObjectId) (error : CompareError)
      → start ≡ new_state [] store object_hash → IsRun model answers start commands replies remaining
      → shown ≡ replies → again ≡ replies → NamesWritten shown position id → error ≡ compare.NoWrite other → written_at again other ≡ None
      → IsComparisonError model answers store object_hash commands position other error
  none_at_second start remaining replies shown again position other id error new run is_shown is_again (first, first_at, first_is) is none =
      let here : written_at replies other ≡ None = subst (λ (rs : List (Reply E)). written_at rs other ≡ None) is_again none in
      let there : written_at replies position ≡ Some first = subst (λ (rs : List (Reply E)). written_at rs position ≡ Some first) is_shown first_at in
      subst (λ (e : CompareError). IsComparisonError model answers store object_hash commands position other e) (sym is)
      (replies, replied start remaining replies new run, (here, inr (refl, λ missing. let both : Some first ≡ None = sym there ∙ missing in cc both)))
