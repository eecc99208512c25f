-- An accepted outcome implies the calls of a verification and their answers; the proof of `verified` uses it.
use Rattle.std.proofs.Common.{◌≡◌, ◌⊎◌, ℕ, Bool, true, false, List, [], ◌∷◌, ◌++◌, ◌&&◌, ◌∙◌, Option, Some, None, Result, Ok, Err, IfOk, ap, cond, inl, inr}
use Rattle.std.proofs.Common.{nat_eq, refl, subst, sym}
use Rattle.std.specs.List.{filter_map, starts_with}
use Rattle.std.specs.Prelude.{codes}
use Rattle.gix_object.specs.GpgReports.{gpg_report, status_of, status_lines, verdict}
use Rattle.gix_object.specs.Outcomes.{OutcomeView, is_good_status, is_trusted, evaluated, outcome_view}
use Rattle.gix_object.specs.Plans.{CarriesOut, done}
use Rattle.gix_object.specs.ProgramCalls.{Answer, CallView, OutputView, failed, no_memory, ran}
use Rattle.gix_object.specs.SshReports.{ssh_report, ssh_status}
use Rattle.gix_object.specs.Verifiers.{VerifyOptionsView, ProgramView, SshView, by_open_pgp, by_ssh, by_x509}
use Rattle.gix_object.specs.Verifying.{IsOutcomeOf, VerifyOutcome, accepts, gpg_verify_plan, human, mismatch, not_run, principals_in, reported, ssh_verified}
use Rattle.gix_object.specs.Verifying.{ssh_verify_plan, tries, unsupported, verify_plan}
use Rattle.gix_object.specs.VerifyingCalls.{open_pgp_call, principal_call, x509_call}
use Rattle.gix_object.specs.report.report.Outcome.{Outcome}
use Rattle.gix_object.specs.report.report.Status.{Status}
use Rattle.gix_object.specs.report.report.Status.TheVariants as status
use Rattle.gix_object.specs.report.report.TrustLevel.{TrustLevel}
use Rattle.gix_object.specs.report.report.TrustLevel.TheVariants as trust
use Rattle.gix_object.specs.signature.signature.verify.Error.{Error}
use Rattle.gix_object.specs.formats.signature.Format.{Format}
use Rattle.gix_object.specs.formats.signature.Format.TheVariants as format
use Rattle.gixobj_examples_objects.specs.AcceptedSignatures.{AcceptsPrincipal, TriesInVain, ReportsGood, Vouches}

-- ---- accepted outcomes

outcome_or : OutcomeView → VerifyOutcome → OutcomeView
outcome_or other (reported it) = it
outcome_or other it = other

reported_injective : (one two : OutcomeView) → reported one ≡ reported two → one ≡ two
unfolding outcome_or
reported_injective one two same = ap (outcome_or one) same

and_true_first : (a b : Bool) → (a && b) ≡ true → a ≡ true
and_true_first true b both = refl
and_true_first false b both = both

and_true_second : (a b : Bool) → (a && b) ≡ true → b ≡ true
and_true_second true b both = both
and_true_second false b both = cc

status_good_of_test : (it : Status) → is_good_status it ≡ true → it ≡ status.Good
status_good_of_test status.Good is = refl
status_good_of_test status.Bad is = cc
status_good_of_test status.Error is = cc
status_good_of_test status.Expired is = cc
status_good_of_test status.ExpiredKey is = cc
status_good_of_test status.RevokedKey is = cc
status_good_of_test status.Unknown is = cc

true_of_cond_good_status : (begins : Bool) → is_good_status (cond begins status.Good status.Bad) ≡ true → begins ≡ true
true_of_cond_good_status true is = refl
true_of_cond_good_status false is = is

-- a good status is that of exactly one line
good_verdict_has_one_status : (said : List (Status × List ℕ)) → (verdict said).status ≡ status.Good → (rest : List ℕ) × (said ≡ (status.Good, rest) ∷ [])
good_verdict_has_one_status [] is = absurd (let never : status.Unknown ≡ status.Good = is in cc)
good_verdict_has_one_status (one ∷ []) is = (one.1, ap (λ (it : Status). (it, one.1) ∷ []) is)
good_verdict_has_one_status (one ∷ next ∷ more) is = absurd (let never : status.Error ≡ status.Good = is in cc)

-- ---- OpenPGP and X.509

-- an accepted report of OpenPGP or X.509 has a successful call, a good status and sufficient trust
gpg_report_good_of_valid : (success : Bool) (format : Format) (by : ProgramView) (output raw : List ℕ)
    → (evaluated success by.minimum (gpg_report format output raw)).valid ≡ true
    → (success ≡ true) × ((gpg_report format output raw).status ≡ status.Good)
    × (is_trusted by.minimum (gpg_report format output raw).trust_level ≡ true)
gpg_report_good_of_valid success format by output raw valid =
    let report = gpg_report format output raw in
    let both = and_true_first (success && is_good_status report.status) (is_trusted by.minimum report.trust_level) valid in (
      and_true_first success (is_good_status report.status) both,
      status_good_of_test report.status (and_true_second success (is_good_status report.status) both),
      and_true_second (success && is_good_status report.status) (is_trusted by.minimum report.trust_level) valid,
    )

gpg_reports_good_of_valid : {S : Type 0} (runs : S → CallView → Answer → S → Type 0) (format : Format) (by : ProgramView) (call : CallView) (s t : S)
    (outcome : OutcomeView)
    → CarriesOut runs (gpg_verify_plan format by call) s (reported outcome) t → outcome.valid ≡ true → ReportsGood runs format by call s outcome t
gpg_reports_good_of_valid runs format by call s t outcome (ran seen, m, run, (same, end)) valid =
    let is = reported_injective outcome (evaluated seen.success by.minimum (gpg_report format seen.stderr seen.stdout)) same in
    let (succeeded, good, trusted) = gpg_report_good_of_valid seen.success format by seen.stderr seen.stdout
    (sym (ap (λ (it : OutcomeView). it.valid) is) ∙ valid) in
    let (rest, one) = good_verdict_has_one_status (filter_map status_of (status_lines seen.stdout)) good in
    record {
      yielded = seen;
      requested = subst (λ (end : _). runs s call (ran seen) end) (sym end) run;
      succeeded = succeeded;
      rest = rest;
      good = one;
      trusted = trusted;
      reported = is;
    }
gpg_reports_good_of_valid runs format by call s t outcome (failed why, m, run, (same, end)) valid =
    absurd (let never : reported outcome ≡ not_run why = same in cc)
gpg_reports_good_of_valid runs format by call s t outcome (no_memory, m, run, none) valid = absurd none

-- ---- SSH

-- an accepted report of SSH has a successful call, a good output and sufficient trust
ssh_report_good_of_valid : (success : Bool) (by : ProgramView) (output : List ℕ) (signer : Option (List ℕ)) (trusted : TrustLevel)
    → (evaluated success by.minimum (ssh_report output signer trusted)).valid ≡ true
    → (success ≡ true) × (starts_with nat_eq output (codes "Good \"git\" signature") ≡ true) × (is_trusted by.minimum trusted ≡ true)
ssh_report_good_of_valid success by output signer trusted valid =
    let both = and_true_first (success && is_good_status (ssh_status output)) (is_trusted by.minimum trusted) valid in (
      and_true_first success (is_good_status (ssh_status output)) both,
      true_of_cond_good_status (starts_with nat_eq output (codes "Good \"git\" signature")) (and_true_second success (is_good_status (ssh_status output)) both),
      and_true_second (success && is_good_status (ssh_status output)) (is_trusted by.minimum trusted) valid,
    )

nil_ne_append_cons : (before : List (List ℕ)) (principal : List ℕ) (after : List (List ℕ)) → [] ≡ before ++ principal ∷ after → ⊥
nil_ne_append_cons [] principal after is = absurd (let never : [] ≡ principal ∷ after = is in cc)
nil_ne_append_cons (one ∷ before) principal after is = absurd (let never : [] ≡ one ∷ (before ++ principal ∷ after) = is in cc)

-- the report of a failed call isn't accepted
failed_run_is_not_valid : (by : ProgramView) (it : OutcomeView) → (evaluated false by.minimum it).valid ≡ true → ⊥
failed_run_is_not_valid by it valid = let never : false ≡ true = valid in absurd cc

-- the calls for the remaining principals; the outcome is that of the last one's output
record Tries {S : Type 0} (runs : S → CallView → Answer → S → Type 0) (by : ProgramView) (ssh : SshView) (signature signed : List ℕ)
    (principals : List (List ℕ)) (old : S) (outcome : OutcomeView) (new : S) : Type 0 where
  before : List (List ℕ)
  principal : List ℕ
  following : List (List ℕ)
  all : principals ≡ before ++ principal ∷ following
  second : S
  in_vain : TriesInVain runs by ssh signature signed before old second
  yielded : OutputView
  requested : runs second (principal_call by ssh signature signed principal) (ran yielded) new
  time_or_default : outcome ≡ evaluated yielded.success by.minimum (ssh_report (human yielded) (cond (accepts yielded) (Some principal) None) trust.Fully)
  last : accepts yielded ≡ false → following ≡ []

-- no principal remains, and the outcome is that of the output of the call before, if there was one
abbrev EndsWith : {S : Type 0} → ProgramView → Option OutputView → List (List ℕ) → S → OutcomeView → S → Type 0
EndsWith by None principals s outcome t = ⊥
EndsWith by (Some seen) principals s outcome t =
    (principals ≡ []) × (t ≡ s) × (outcome ≡ evaluated seen.success by.minimum (ssh_report (human seen) None trust.Fully))

module _ {S : Type 0} (runs : S → CallView → Answer → S → Type 0) (by : ProgramView) (ssh : SshView) (signature signed : List ℕ) where
  -- a call for a principal: the outcome is that of its output, or of a later call's
  one_tried : (principal : List ℕ) (principals : List (List ℕ)) (seen : OutputView) (s m t : S) (outcome : OutcomeView)
      → runs s (principal_call by ssh signature signed principal) (ran seen) m
      → (CarriesOut runs (tries by ssh signature signed principals (Some seen)) m (reported outcome) t
      → Tries runs by ssh signature signed principals m outcome t
      ⊎ EndsWith by (Some seen) principals m outcome t)
      → (b : Bool) → accepts seen ≡ b
      → CarriesOut runs (cond b (done (ssh_verified by seen.success trust.Fully (Some principal) seen))
      (tries by ssh signature signed principals (Some seen))) m
      (reported outcome) t
      → Tries runs by ssh signature signed (principal ∷ principals) s outcome t
  one_tried principal principals seen s m t outcome run more true is (same, end) = record {
    before = [];
    principal = principal;
    following = principals;
    all = refl;
    second = s;
    in_vain = refl;
    yielded = seen;
    requested = subst (λ (end : S). runs s (principal_call by ssh signature signed principal) (ran seen) end) (sym end) run;
    time_or_default = subst (λ (b : Bool). outcome ≡ evaluated seen.success by.minimum (ssh_report (human seen) (cond b (Some principal) None) trust.Fully))
        (sym is)
        (reported_injective outcome (evaluated seen.success by.minimum (ssh_report (human seen) (Some principal) trust.Fully)) same);
    last = λ rejected. absurd (let never : true ≡ false = sym is ∙ rejected in cc);
  }
  one_tried principal principals seen s m t outcome run more false is outcome_is =
      elim (more outcome_is) [
        | inl later ↦ record {
          before = principal ∷ later.before;
          principal = later.principal;
          following = later.following;
          all = ap (λ (it : List (List ℕ)). principal ∷ it) later.all;
          second = later.second;
          in_vain = (seen, m, run, is, later.in_vain);
          yielded = later.yielded;
          requested = later.requested;
          time_or_default = later.time_or_default;
          last = later.last;
        }
        | inr (none, end, said) ↦ record {
          before = [];
          principal = principal;
          following = principals;
          all = refl;
          second = s;
          in_vain = refl;
          yielded = seen;
          requested = subst (λ (end : S). runs s (principal_call by ssh signature signed principal) (ran seen) end) (sym end) run;
          time_or_default = subst (λ (b : Bool). outcome ≡ evaluated seen.success by.minimum
              (ssh_report (human seen) (cond b (Some principal) None) trust.Fully))
              (sym is) said;
          last = λ rejected. none;
        }
      ]

  all_tried : (principals : List (List ℕ)) (last : Option OutputView) (s t : S) (outcome : OutcomeView)
      → CarriesOut runs (tries by ssh signature signed principals last) s (reported outcome) t → outcome.valid ≡ true
      → Tries runs by ssh signature signed principals s outcome t ⊎ EndsWith by last principals s outcome t
  unfolding tries
  all_tried [] (Some seen) s t outcome (same, end) valid =
      inr (refl, end, reported_injective outcome (evaluated seen.success by.minimum (ssh_report (human seen) None trust.Fully)) same)
  all_tried [] None s t outcome (ran seen, m, run, (same, end)) valid =
      let is = reported_injective outcome (evaluated false by.minimum (ssh_report (human seen) None trust.Undefined)) same in
      absurd (failed_run_is_not_valid by (ssh_report (human seen) None trust.Undefined) (sym (ap (λ (it : OutcomeView). it.valid) is) ∙ valid))
  all_tried [] None s t outcome (failed why, m, run, (same, end)) valid = absurd (let never : reported outcome ≡ not_run why = same in cc)
  all_tried [] None s t outcome (no_memory, m, run, none) valid = absurd none
  all_tried (principal ∷ principals) last s t outcome (ran seen, m, run, outcome_is) valid =
      inl (one_tried principal principals seen s m t outcome run (λ remaining. all_tried principals (Some seen) m t outcome remaining valid)
      (accepts seen) refl outcome_is)
  all_tried (principal ∷ principals) last s t outcome (failed why, m, run, (same, end)) valid =
      absurd (let never : reported outcome ≡ not_run why = same in cc)
  all_tried (principal ∷ principals) last s t outcome (no_memory, m, run, none) valid = absurd none

  -- if the call for principals fails, no principal is accepted
  named_some : (named : OutputView) (first t : S) (outcome : OutcomeView)
      → (b : Bool) → named.success ≡ b → CarriesOut runs (tries by ssh signature signed (cond b (principals_in named.stdout) []) None) first
      (reported outcome) t
      → outcome.valid ≡ true
      → (named.success ≡ true) × Tries runs by ssh signature signed (principals_in named.stdout) first outcome t
  named_some named first t outcome true is outcome_is valid =
      elim (all_tried (principals_in named.stdout) None first t outcome outcome_is valid) [ inl it ↦ (is, it) | inr never ↦ absurd never ]
  named_some named first t outcome false is outcome_is valid =
      elim (all_tried [] None first t outcome outcome_is valid)
      [ inl it ↦ absurd (nil_ne_append_cons it.before it.principal it.following it.all) | inr never ↦ absurd never ]

  ssh_accepted : (s t : S) (outcome : OutcomeView)
      → CarriesOut runs (ssh_verify_plan by ssh signature signed) s (reported outcome) t → outcome.valid ≡ true
      → AcceptsPrincipal runs by ssh signature signed s outcome t
  ssh_accepted s t outcome (ran named, first, run, outcome_is) valid =
      let (is_named, it) = named_some named first t outcome named.success refl outcome_is valid in
      let (succeeded, good, trusted) = ssh_report_good_of_valid it.yielded.success by (human it.yielded) (cond (accepts it.yielded) (Some it.principal) None)
      trust.Fully
      (sym (ap (λ (it : OutcomeView). it.valid) it.time_or_default) ∙ valid) in
      record {
        named = named;
        first = first;
        requested_names = run;
        is_named = is_named;
        before = it.before;
        principal = it.principal;
        following = it.following;
        all = it.all;
        second = it.second;
        in_vain = it.in_vain;
        yielded = it.yielded;
        requested = it.requested;
        succeeded = succeeded;
        good = good;
        trusted = trusted;
        reported = it.time_or_default;
        last = it.last;
      }
  ssh_accepted s t outcome (failed why, m, run, (same, end)) valid = absurd (let never : reported outcome ≡ not_run why = same in cc)
  ssh_accepted s t outcome (no_memory, m, run, none) valid = absurd none

-- ---- all formats

-- an accepted outcome of the plan for a signature's format has calls and answers that accept it
pub vouches_of_acceptance : {S : Type 0} (runs : S → CallView → Answer → S → Type 0) (it : VerifyOptionsView) (signature signed : List ℕ)
    (format : Option Format)
    (s t : S)
    (outcome : OutcomeView)
    → CarriesOut runs (verify_plan it signature signed format) s (reported outcome) t → outcome.valid ≡ true
    → Vouches runs it signature signed s outcome t
vouches_of_acceptance runs (by_open_pgp by) signature signed (Some format.OpenPgp) s t outcome outcome_is valid =
    gpg_reports_good_of_valid runs format.OpenPgp by (open_pgp_call by signature signed) s t outcome outcome_is valid
vouches_of_acceptance runs (by_x509 by) signature signed (Some format.X509) s t outcome outcome_is valid =
    gpg_reports_good_of_valid runs format.X509 by (x509_call by signature signed) s t outcome outcome_is valid
vouches_of_acceptance runs (by_ssh by ssh) signature signed (Some format.Ssh) s t outcome outcome_is valid =
    ssh_accepted runs by ssh signature signed s t outcome outcome_is valid
vouches_of_acceptance runs (by_open_pgp by) signature signed None s t outcome (same, end) valid =
    absurd (let never : reported outcome ≡ unsupported = same in cc)
vouches_of_acceptance runs (by_x509 by) signature signed None s t outcome (same, end) valid = absurd (let never : reported outcome ≡ unsupported = same in cc)
vouches_of_acceptance runs (by_ssh by ssh) signature signed None s t outcome (same, end) valid =
    absurd (let never : reported outcome ≡ unsupported = same in cc)
vouches_of_acceptance runs (by_open_pgp by) signature signed (Some format.X509) s t outcome (same, end) valid =
    absurd (let never : reported outcome ≡ mismatch format.OpenPgp format.X509 = same in cc)
vouches_of_acceptance runs (by_open_pgp by) signature signed (Some format.Ssh) s t outcome (same, end) valid =
    absurd (let never : reported outcome ≡ mismatch format.OpenPgp format.Ssh = same in cc)
vouches_of_acceptance runs (by_x509 by) signature signed (Some format.OpenPgp) s t outcome (same, end) valid =
    absurd (let never : reported outcome ≡ mismatch format.X509 format.OpenPgp = same in cc)
vouches_of_acceptance runs (by_x509 by) signature signed (Some format.Ssh) s t outcome (same, end) valid =
    absurd (let never : reported outcome ≡ mismatch format.X509 format.Ssh = same in cc)
vouches_of_acceptance runs (by_ssh by ssh) signature signed (Some format.OpenPgp) s t outcome (same, end) valid =
    absurd (let never : reported outcome ≡ mismatch format.Ssh format.OpenPgp = same in cc)
vouches_of_acceptance runs (by_ssh by ssh) signature signed (Some format.X509) s t outcome (same, end) valid =
    absurd (let never : reported outcome ≡ mismatch format.Ssh format.X509 = same in cc)

-- an accepted result has calls and answers that accept it
pub vouches_of_valid_outcome : {S : Type 0} (runs : S → CallView → Answer → S → Type 0) (it : VerifyOptionsView) (signature signed : List ℕ)
    (format : Option Format)
    (s t : S) (result : Result Outcome Error)
    → IsOutcomeOf runs (verify_plan it signature signed format) s result t
    → IfOk result (λ outcome. (outcome_view outcome).valid ≡ true → Vouches runs it signature signed s (outcome_view outcome) t)
vouches_of_valid_outcome runs it signature signed format s t (Ok outcome) outcome_is = λ valid. vouches_of_acceptance runs it signature signed format s t
    (outcome_view outcome) outcome_is valid
vouches_of_valid_outcome runs it signature signed format s t (Err error) outcome_is = tt
