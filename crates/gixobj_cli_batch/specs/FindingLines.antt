-- The lines of git's findings.
use Rattle.std.specs.Prelude.{ℕ, Bool, List, [], ◌∷◌, ◌++◌, codes, decimal, if◌then◌else◌}
use Rattle.gix_object.specs.Bytes.{newline, space}
use Rattle.gix_object.specs.Hash.{encode_id_hex}
use Rattle.gix_object.specs.Kind.{kind_name}
use Rattle.gix_object.specs.hash.hash.object_id.ObjectId.{ObjectId}
use Rattle.gix_object.specs.hash.kind.Kind.{Kind}
use Rattle.gixobj_cli_messages.specs.Descriptions.{message_description}
use Rattle.gixobj_fsck_messages.specs.Messages.{message_name}
use Rattle.gixobj_fsck_messages.specs.Severities.{counts_as_error, severity_of}
use Rattle.gixobj_fsck_messages.specs.declared.finding.Finding.{Finding}

-- the finding counts as an error
abbrev pub is_error : Bool → Finding → Bool
is_error strict it = counts_as_error (severity_of strict it.message)

-- what git-fsck prints before a finding that counts as an error, and before another one
abbrev pub severity_label : Bool → List ℕ
severity_label error = if error then codes "error" else codes "warning"

-- what git-fsck prints of a finding up to the name of its message
abbrev pub finding_head : Bool → ObjectId → Kind → Finding → List ℕ
finding_head strict id kind it = severity_label (is_error strict it) ++ codes " in " ++ kind_name kind ++ space
    ∷ encode_id_hex id

-- the name of the message, and then its meaning and its offset
abbrev pub finding_tail : Finding → List ℕ
finding_tail it = codes ": " ++ message_name it.message ++ codes ": " ++ message_description it.message
    ++ codes ", at byte " ++ decimal it.offset

-- the line of a finding
abbrev pub finding_line : Bool → ObjectId → Kind → Finding → List ℕ
finding_line strict id kind it = finding_head strict id kind it ++ finding_tail it ++ newline ∷ []
