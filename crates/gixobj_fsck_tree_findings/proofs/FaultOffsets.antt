-- Offsets of faults, by message.
use Rattle.std.proofs.Common.{◌≡◌, ◌≢◌, ◌<◌, ◌⊎◌, Bool, ℕ, List, [], ◌∷◌, Option, Some, None, IsTrue, IsSome, arith, inl, inr, length, refl, subst}
use Rattle.gixobj_fsck_messages.specs.Options.{is_reported_by, is_strict_by}
use Rattle.gixobj_fsck_messages.specs.declared.message.Message.{Message}
use Rattle.gixobj_fsck_messages.specs.declared.message.Message.TheVariants as message
use Rattle.gixobj_fsck_messages.specs.declared.options.Options.{Options}
use Rattle.gixobj_hash.specs.Runs.{Ending, broken, complete, yields_error}
use Rattle.gixobj_hash.specs.declared.hash.kind.Kind.{Kind}
use Rattle.gixobj_fsck_trees.proofs.TreeReads.{begins_of_reads}
use Rattle.gixobj_fsck_trees.specs.EntryMessages.{HasFault}
use Rattle.gixobj_fsck_trees.specs.FirstOffsets.{FindsOffset, IsFirstOffset}
use Rattle.gixobj_fsck_trees.specs.RawEntries.{RawEntryView, ReadsTree, YieldsRawEntries}
use Rattle.gixobj_fsck_trees.specs.RawViews.{raw_entry_view, raw_entry_views}
use Rattle.gixobj_fsck_trees.specs.declared.raw_entry.RawEntry.{RawEntry}
use Rattle.gixobj_fsck_tree_findings.specs.TreeFindings.{AllocatesFindings, IsFaultOffset, IsReportedFault}

-- the offset of another message is that of the first entry with the fault
pub default_offset : (strict : Bool) (entries : List RawEntryView) (ending : Ending) (it : Message) (found : Option ℕ)
    → it ≢ message.BadTree → it ≢ message.BadFilemode → it ≢ message.DuplicateEntries → it ≢ message.TreeNotSorted
    → FindsOffset (IsFirstOffset (λ e. HasFault e it) entries) found → FindsOffset (IsFaultOffset strict entries ending it) found
default_offset strict entries ending message.BadTree found not_tree not_mode not_twice not_sorted finds = absurd (not_tree refl)
default_offset strict entries ending message.BadFilemode found not_tree not_mode not_twice not_sorted finds = absurd (not_mode refl)
default_offset strict entries ending message.DuplicateEntries found not_tree not_mode not_twice not_sorted finds = absurd (not_twice refl)
default_offset strict entries ending message.TreeNotSorted found not_tree not_mode not_twice not_sorted finds = absurd (not_sorted refl)
default_offset strict entries ending it found not_tree not_mode not_twice not_sorted finds = finds

-- an offset that was found is of a fault that is reported
pub reported_fault : (options : Options) (entries : List RawEntryView) (ending : Ending) (it : Message) (found : Option ℕ)
    → FindsOffset (IsFaultOffset (is_strict_by options) entries ending it) found → IsSome found → IsTrue (is_reported_by options it)
    → IsReportedFault options entries ending
reported_fault options entries ending it None finds some reports = cc some
reported_fault options entries ending it (Some offset) finds some reports = (it, offset, reports, finds)

fault_of_nothing : (strict : Bool) (ending : Ending) (it : Message) (offset : ℕ) → IsFaultOffset strict [] ending it offset
    → (it ≡ message.BadTree) × (ending ≡ broken)
fault_of_nothing strict ending message.BadTree offset fault = (refl, fault.0)
fault_of_nothing strict complete message.BadFilemode offset fault = absurd fault
fault_of_nothing strict broken message.BadFilemode offset fault = absurd fault
fault_of_nothing strict complete message.DuplicateEntries offset fault = absurd fault
fault_of_nothing strict broken message.DuplicateEntries offset fault = absurd fault
fault_of_nothing strict complete message.TreeNotSorted offset fault = absurd fault
fault_of_nothing strict broken message.TreeNotSorted offset fault = absurd fault
fault_of_nothing strict ending it offset fault = absurd fault

some_of_error : (kind : Kind) (bytes : List ℕ) → YieldsRawEntries kind bytes [] broken → bytes ≢ []
some_of_error kind _ (yields_error _ input some none) = some

some_of_broken : (kind : Kind) (bytes : List ℕ) → ReadsTree kind bytes [] broken → bytes ≢ []
some_of_broken kind bytes (inl reads) = some_of_error kind bytes reads.1
some_of_broken kind [] (inr unread) = absurd (let same : broken ≡ complete = unread.2 in cc)
some_of_broken kind (byte ∷ bytes) (inr unread) = λ same. cc same

-- entries, or a fault that is reported, allocate
pub allocates : (kind : Kind) (options : Options) (bytes : List ℕ) (entries : List RawEntry) (ending : Ending)
    → ReadsTree kind bytes (raw_entry_views entries) ending → (0 < length entries) ⊎ IsReportedFault options (raw_entry_views entries) ending
    → AllocatesFindings kind options bytes
allocates kind options bytes entries ending reads (inl some) = inl (begins_of_reads kind bytes entries ending reads some)
allocates kind options bytes [] ending reads (inr fault) =
    let nothing = fault_of_nothing (is_strict_by options) ending fault.0 fault.1 fault.3 in
    let read : ReadsTree kind bytes [] broken = subst (λ (last : Ending). ReadsTree kind bytes [] last) nothing.1 reads in
    inr (some_of_broken kind bytes read, subst (λ (it : Message). IsTrue (is_reported_by options it)) nothing.0 fault.2)
allocates kind options bytes (entry ∷ entries) ending reads (inr fault) =
    inl (begins_of_reads kind bytes (entry ∷ entries) ending reads (omega arith))
