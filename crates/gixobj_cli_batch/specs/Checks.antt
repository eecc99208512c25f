-- What the check finds: ids that are not those of the bytes, bytes that are not what their object encodes to, and git's
-- findings (git-fsck, "FSCK MESSAGES").
use Rattle.std.specs.Prelude.{◌≡◌, ◌≢◌, ℕ, Bool, List, Option, None, Some}
use Rattle.gix_object.specs.BorrowedObjects.{IsBorrowedObjectError, encode_borrowed_object}
use Rattle.gix_object.specs.Hash.{id_kind, id_of}
use Rattle.gix_object.specs.ObjectReading.{DecodesToObject, IsObjectDecodeError}
use Rattle.gix_object.specs.Writing.{RejectsNothing}
use Rattle.gix_object.specs.hash.decode.Error.TheVariants.{Malformed}
use Rattle.gix_object.specs.hash.hash.kind.Kind as hash
use Rattle.gix_object.specs.hash.hash.object_id.ObjectId.{ObjectId}
use Rattle.gix_object.specs.hash.kind.Kind.{Kind}
use Rattle.gix_object.specs.object.object.borrowed.ObjectRef.{ObjectRef}
use Rattle.gixobj_cli_batch.specs.declared.checked.BytesFault.{BytesFault}
use Rattle.gixobj_cli_batch.specs.declared.checked.BytesFault.TheVariants as fault
use Rattle.gixobj_cli_batch.specs.declared.checked.Checked.{Checked}
use Rattle.gixobj_cli_batch.specs.declared.checked.Checked.TheVariants as checked
use Rattle.gixobj_fsck_findings.specs.Checks.{HaveDocumentedSeverities}
use Rattle.gixobj_fsck_messages.specs.Options.{is_strict_by, severity_by}
use Rattle.gixobj_fsck_messages.specs.declared.finding.Finding.{Finding}
use Rattle.gixobj_fsck_messages.specs.declared.options.Options.{Options}
use Rattle.gixobj_fsck_objects.specs.Objects.{AreFindings}
use Rattle.gixobj_records.specs.Records.{RecordView, missing, object}

-- the id of the bytes, if it isn't this one
abbrev pub IsOtherId : ObjectId → Kind → List ℕ → Option ObjectId → Type 0
IsOtherId id kind content None = id_of (id_kind id) kind content ≡ id
IsOtherId id kind content (Some actual) = (actual ≡ id_of (id_kind id) kind content) × (actual ≢ id)

-- the object encodes to these bytes, and no part of it is rejected
abbrev pub EncodesTo : ObjectRef → List ℕ → Type 0
EncodesTo it content = (encode_borrowed_object it ≡ content) × RejectsNothing (IsBorrowedObjectError it)

-- the fault of the bytes of an object: they don't decode, or their object encodes to other bytes; or none
abbrev pub HasBytesFault : hash.Kind → Kind → List ℕ → Option BytesFault → Type 0
HasBytesFault hash kind content (Some fault.Malformed) = IsObjectDecodeError hash kind content Malformed
HasBytesFault hash kind content (Some fault.OtherBytes) =
    (it : ObjectRef) × DecodesToObject hash kind content it × (¬ EncodesTo it content)
HasBytesFault hash kind content None = (it : ObjectRef) × DecodesToObject hash kind content it × EncodesTo it content

-- git's findings about an object, in git's order, in a check that is strict or not and has no overrides
abbrev pub AreGitFindings : Bool → hash.Kind → Kind → List ℕ → List Finding → Type 0
AreGitFindings strict hash kind content findings = (options : Options) × (is_strict_by options ≡ strict)
    × HaveDocumentedSeverities strict (severity_by options) × AreFindings options kind hash content findings

-- what the check of a record finds: a missing object; or the other id of an object's bytes, their fault, and git's
-- findings
abbrev pub IsChecked : Bool → RecordView → Checked → Type 0
IsChecked strict (missing id) (checked.Missing id') = id' ≡ id
IsChecked strict (object id kind content) (checked.Object id' kind' other fault findings) = (id' ≡ id) × (kind' ≡ kind)
    × IsOtherId id kind content other × HasBytesFault (id_kind id) kind content fault
    × AreGitFindings strict (id_kind id) kind content findings.items
IsChecked strict (missing id) (checked.Object id' kind' other fault findings) = ⊥
IsChecked strict (object id kind content) (checked.Missing id') = ⊥
