-- Whether git accepts an object, by the messages about it.
use Rattle.std.proofs.Common.{ℕ, Bool, true, false, List, inl, inr, refl}
use Rattle.std.specs.Prelude.{◌↔◌, IsTrue, not}
use Rattle.std.proofs.lemmas.Bool.{false≢true}
use Rattle.gixobj_c_fsck.specs.Reports.{AreMessagesOf, IsAccepted, IsFlagOf, IsReport, IsReportOfSet}
use Rattle.gixobj_c_fsck.specs.declared.reports.Report.{Report}
use Rattle.gixobj_fsck.proofs.MessageSets.{no_error_iff}
use Rattle.gixobj_fsck_messages.specs.Sets.{HasError, HasMessage}
use Rattle.gixobj_fsck_messages.specs.declared.message.Message.{Message}
use Rattle.gixobj_fsck_messages.specs.declared.set.Messages.{Messages}
use Rattle.gixobj_fsck_tags.specs.Tags.{HasExtraHeader, IsAcceptedTag, IsTagMessage}
use Rattle.gixobj_hash.specs.declared.hash.kind.Kind as hash
use Rattle.gixobj_hash.specs.declared.kind.Kind.{Kind}

-- a test that decides a fact decides its flag
pub flag_of_test : (test : Bool) (P : Type 0) (flag : ℕ) → (IsTrue test ↔ P) → IsFlagOf (IsTrue test) flag → IsFlagOf P flag
flag_of_test test P flag decides is = elim is [
  | inl one ↦ inl (one.0, decides.0 one.1)
  | inr none ↦ inr (none.0, λ holds. none.1 (decides.1 holds))
]

-- the report of an object, from the set of its messages and its verdict
pub report_of_messages : (strict : Bool) (hash : hash.Kind) (kind : Kind) (bytes : List ℕ) (messages : Messages) (is_accepted : Bool) (report : Report)
    → AreMessagesOf strict hash kind bytes messages → (IsTrue is_accepted ↔ IsAccepted strict hash kind bytes messages)
    → IsReportOfSet strict messages is_accepted report → IsReport strict hash kind bytes report
report_of_messages strict hash kind bytes messages is_accepted report are decides is = record {
  messages = messages;
  reported = are;
  found = is.0;
  verdict = flag_of_test is_accepted (IsAccepted strict hash kind bytes messages) report.is_accepted decides is.1;
}

-- there is no error where a test of one fails
pub not_error_iff : (has_error strict : Bool) (messages : Messages) → (IsTrue has_error ↔ HasError strict messages)
    → IsTrue (not has_error) ↔ (¬ HasError strict messages)
not_error_iff true strict messages errs = (λ holds. absurd (false≢true holds), λ none. absurd (none (errs.0 refl)))
not_error_iff false strict messages errs = (λ holds error. false≢true (errs.1 error), λ none. refl)

-- a tag without an error is accepted
pub tag_without_error : (has_error strict : Bool) (hash : hash.Kind) (bytes : List ℕ) (messages : Messages)
    → ((it : Message) → HasMessage messages it ↔ IsTagMessage hash bytes it) → (IsTrue has_error ↔ HasError strict messages)
    → IsTrue (not has_error) → IsAcceptedTag strict hash bytes
tag_without_error has_error strict hash bytes messages same errs holds =
    inr ((no_error_iff has_error strict messages (IsTagMessage hash bytes) same errs).0 holds)

-- a tag with an error is accepted if an extra header comes
pub tag_with_error : (has_error extra strict : Bool) (hash : hash.Kind) (bytes : List ℕ) (messages : Messages)
    → ((it : Message) → HasMessage messages it ↔ IsTagMessage hash bytes it) → (IsTrue has_error ↔ HasError strict messages)
    → (IsTrue extra ↔ HasExtraHeader hash bytes) → ¬ IsTrue (not has_error) → IsTrue extra ↔ IsAcceptedTag strict hash bytes
tag_with_error has_error extra strict hash bytes messages same errs decides error = (
  λ holds. inl (decides.0 holds),
  λ accepted. elim accepted [
    | inl header ↦ decides.1 header
    | inr sound ↦ absurd (error ((no_error_iff has_error strict messages (IsTagMessage hash bytes) same errs).1 sound))
  ],
)
