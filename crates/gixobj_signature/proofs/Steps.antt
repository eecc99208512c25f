-- Lemmas on the plan that remains after each answer, for the proofs of `verify_ssh` and its loop over the principals.
use Rattle.std.proofs.Common.{◌≡◌, inl, inr, subst, sym, map, drop, get_or, length, suc, ◌+◌, ◌<◌, ◌≤◌, ◌∙◌, ap, add-one, Bool, true, false, cond, List, []}
use Rattle.std.proofs.Common.{◌∷◌, ℕ, Option, Some, None, refl}
use Rattle.std.proofs.lemmas.List.{drop_all}
use Rattle.std.proofs.Math.Seq.{drop-cons}
use Rattle.bstr.specs.Owned.{bstring_bytes}
use Rattle.bstr.specs.declared.bstring.BString.{BString}
use Rattle.gixobj_signature_reports.specs.Calls.{Answer, CallView, OutputView, ran, failed, no_memory}
use Rattle.gixobj_signature.specs.Plans.{BeginsPlan, IsCarriedOut, IsRemainingPlan, Plan, run_then, done, no_more}
use Rattle.gixobj_signature_reports.specs.declared.report.TrustLevel.TheVariants as trust
use Rattle.gixobj_signature.specs.Verifiers.{ProgramView, SshView}
use Rattle.gixobj_signature.specs.Verifying.{VerifyOutcome, accepts, on_output, rest_plan, ssh_verified, tries}
use Rattle.gixobj_signature.specs.VerifyingCalls.{principal_call}

-- each plan may end before its first call
pub begins_plan_refl : {S R : Type 0} (runs : S → CallView → Answer → S → Type 0) (plan : Plan R) (s : S) → BeginsPlan runs plan s s
begins_plan_refl runs (done it) s = refl
begins_plan_refl runs (run_then call next) s = inl refl
begins_plan_refl runs no_more s = refl

-- after an answer, the plan that it chooses remains
remaining_plan_after_answer : {S R : Type 0} (runs : S → CallView → Answer → S → Type 0) (call : CallView) (next : Answer → Plan R)
    (answer : Answer) (s m u : S)
    (entire : Plan R)
    → runs s call answer m → IsRemainingPlan runs (run_then call next) s entire u → IsRemainingPlan runs (next answer) m entire u
remaining_plan_after_answer runs call next answer s m u entire run remaining (Some r) t goes = remaining (Some r) t (answer, m, run, goes)
remaining_plan_after_answer runs call next answer s m u entire run remaining None t goes = remaining None t (inr (answer, m, run, goes))

-- a call alone, of which only a failure or an allocation failure matters
abbrev pub call_alone : CallView → Plan VerifyOutcome
call_alone call = run_then call (λ answer. on_output answer (λ it. no_more))

carried_out_of_no_more : {S : Type 0} (runs : S → CallView → Answer → S → Type 0) (next : OutputView → Plan VerifyOutcome)
    (answer : Answer) (outcome : Option VerifyOutcome)
    (m t : S)
    → IsCarriedOut runs (on_output answer (λ it. no_more)) m outcome t → IsCarriedOut runs (on_output answer next) m outcome t
carried_out_of_no_more runs next (ran it) (Some r) m t goes = absurd goes
carried_out_of_no_more runs next (ran it) None m t goes = subst (λ (end : _). BeginsPlan runs (next it) m end) (sym goes) (begins_plan_refl runs (next it) m)
carried_out_of_no_more runs next (failed why) outcome m t goes = goes
carried_out_of_no_more runs next no_memory outcome m t goes = goes

-- the result of a call without output is a result of each plan that begins with the call
pub carried_out_of_no_answer : {S : Type 0} (runs : S → CallView → Answer → S → Type 0) (call : CallView) (next : OutputView → Plan VerifyOutcome)
    (outcome : Option VerifyOutcome)
    (s t : S)
    → IsCarriedOut runs (call_alone call) s outcome t → IsCarriedOut runs (run_then call (λ answer. on_output answer next)) s outcome t
carried_out_of_no_answer runs call next (Some r) s t (answer, m, run, goes) = (answer, m, run, carried_out_of_no_more runs next answer (Some r) m t goes)
carried_out_of_no_answer runs call next None s t (inl same) = inl same
carried_out_of_no_answer runs call next None s t (inr (answer, m, run, goes)) = inr (answer, m, run, carried_out_of_no_more runs next answer None m t goes)

-- the plan after an output for a principal
abbrev after_answer : ProgramView → SshView → List ℕ → List ℕ → List ℕ → List (List ℕ) → OutputView → Bool → Plan VerifyOutcome
after_answer by ssh signature signed principal principals it accepted =
    cond accepted (done (ssh_verified by it.success trust.Fully (Some principal) it)) (tries by ssh signature signed principals (Some it))

-- the calls for a principal and for those after it remain of an entire plan
module _ {S : Type 0} (runs : S → CallView → Answer → S → Type 0) (by : ProgramView) (ssh : SshView) (signature signed principal : List ℕ)
    (principals : List (List ℕ)) (last : Option OutputView) (entire : Plan VerifyOutcome) (s u : S)
    (remaining : IsRemainingPlan runs (tries by ssh signature signed (principal ∷ principals) last) s entire u) where
  tries_failed : (outcome : Option VerifyOutcome) (t : S) → IsCarriedOut runs (call_alone (principal_call by ssh signature signed principal)) s outcome t
      → IsCarriedOut runs entire u outcome t
  unfolding tries
  tries_failed outcome t goes = remaining outcome t (carried_out_of_no_answer runs (principal_call by ssh signature signed principal) _ outcome s t goes)

  after_call : (it : OutputView) (m : S) → runs s (principal_call by ssh signature signed principal) (ran it) m
      → IsRemainingPlan runs (after_answer by ssh signature signed principal principals it (accepts it)) m entire u
  unfolding tries
  after_call it m run = remaining_plan_after_answer runs (principal_call by ssh signature signed principal) _ (ran it) s m u entire run remaining

  tries_accepted : (it : OutputView) (m : S) → runs s (principal_call by ssh signature signed principal) (ran it) m → accepts it ≡ true
      → IsRemainingPlan runs (done (ssh_verified by it.success trust.Fully (Some principal) it)) m entire u
  tries_accepted it m run is = subst (λ (b : Bool). IsRemainingPlan runs (after_answer by ssh signature signed principal principals it b) m entire u)
      is
      (after_call it m run)

  tries_more : (it : OutputView) (m : S) → runs s (principal_call by ssh signature signed principal) (ran it) m → accepts it ≡ false
      → IsRemainingPlan runs (tries by ssh signature signed principals (Some it)) m entire u
  tries_more it m run is = subst (λ (b : Bool). IsRemainingPlan runs (after_answer by ssh signature signed principal principals it b) m entire u) is
      (after_call it m run)

remaining_plan_of_no_principal : {S : Type 0} (runs : S → CallView → Answer → S → Type 0) (by : ProgramView) (ssh : SshView) (signature signed : List ℕ)
    (last : Option OutputView)
    (entire : Plan VerifyOutcome) (s u : S)
    → IsRemainingPlan runs (tries by ssh signature signed [] last) s entire u
    → IsRemainingPlan runs (rest_plan by ssh signature signed last) s entire u
unfolding tries
remaining_plan_of_no_principal runs by ssh signature signed last entire s u remaining = remaining

drop_eq_item_cons : (ps : List BString) (k : ℕ) (item : BString) → k < length ps → item ≡ get_or ps k item → drop k ps ≡ item ∷ drop (k + 1) ps
drop_eq_item_cons ps k item below is = rw (add-one) (drop-cons ps k item below ∙ ap (λ (it : BString). it ∷ drop (suc k) ps) (sym is))

-- a loop over the principals is at one of them, and the calls from there on remain of an entire plan
module _ {S : Type 0} (runs : S → CallView → Answer → S → Type 0) (by : ProgramView) (ssh : SshView) (signature signed : List ℕ) (ps : List BString)
    (k : ℕ)
    (item : BString) (last : Option OutputView) (entire : Plan VerifyOutcome) (s u : S) (below : k < length ps) (is : item ≡ get_or ps k item)
    (remaining : IsRemainingPlan runs (tries by ssh signature signed (map bstring_bytes (drop k ps)) last) s entire u) where
  opened : IsRemainingPlan runs (tries by ssh signature signed (bstring_bytes item ∷ map bstring_bytes (drop (k + 1) ps)) last) s entire u
  opened = subst (λ (xs : List BString). IsRemainingPlan runs (tries by ssh signature signed (map bstring_bytes xs) last) s entire u)
      (drop_eq_item_cons ps k item below is) remaining

  -- the result of a call without output is one of the entire plan
  pub item_failed : (outcome : Option VerifyOutcome) (t : S) → IsCarriedOut runs (call_alone (principal_call by ssh signature signed (bstring_bytes item)))
      s outcome
      t → IsCarriedOut runs entire u outcome t
  item_failed = tries_failed runs by ssh signature signed (bstring_bytes item) (map bstring_bytes (drop (k + 1) ps)) last entire s u opened

  -- the report of an accepted principal is the outcome of the entire plan
  pub item_accepted : (it : OutputView) (m : S) (outcome : VerifyOutcome) → runs s (principal_call by ssh signature signed (bstring_bytes item)) (ran it) m
      → accepts it ≡ true
      → outcome ≡ ssh_verified by it.success trust.Fully (Some (bstring_bytes item)) it → IsCarriedOut runs entire u (Some outcome) m
  item_accepted it m outcome run yes_so same =
      tries_accepted runs by ssh signature signed (bstring_bytes item) (map bstring_bytes (drop (k + 1) ps)) last entire s u opened it m run yes_so
      (Some outcome) m (same, refl)

  -- after an output, running out of memory is a result of the entire plan
  pub item_no_memory : (it : OutputView) (m : S) → runs s (principal_call by ssh signature signed (bstring_bytes item)) (ran it) m
      → IsCarriedOut runs entire u None m
  item_no_memory it m run =
      after_call runs by ssh signature signed (bstring_bytes item) (map bstring_bytes (drop (k + 1) ps)) last entire s u opened it m run None m
      (begins_plan_refl runs _ m)

  -- after a principal that isn't accepted, the calls for the next ones remain of the entire plan
  pub item_more : (it : OutputView) (m : S) → runs s (principal_call by ssh signature signed (bstring_bytes item)) (ran it) m → accepts it ≡ false
      → IsRemainingPlan runs (tries by ssh signature signed (map bstring_bytes (drop (k + 1) ps)) (Some it)) m entire u
  item_more it m run not_so = tries_more runs by ssh signature signed (bstring_bytes item) (map bstring_bytes (drop (k + 1) ps)) last entire s u
      opened it m run
      not_so

-- after the last principal, the plan without an accepted one remains of the entire plan
pub remaining_plan_at_end : {S : Type 0} (runs : S → CallView → Answer → S → Type 0) (by : ProgramView) (ssh : SshView) (signature signed : List ℕ)
    (ps : List BString)
    (k : ℕ) (last : Option OutputView) (entire : Plan VerifyOutcome) (s u : S)
    → length ps ≤ k → IsRemainingPlan runs (tries by ssh signature signed (map bstring_bytes (drop k ps)) last) s entire u
    → IsRemainingPlan runs (rest_plan by ssh signature signed last) s entire u
remaining_plan_at_end runs by ssh signature signed ps k last entire s u past remaining =
    remaining_plan_of_no_principal runs by ssh signature signed last entire s u
    (subst (λ (xs : List BString). IsRemainingPlan runs (tries by ssh signature signed (map bstring_bytes xs) last) s entire u)
    (drop_all k ps past) remaining)
