-- The lines of a check, and the numbers of objects at its end.
use Rattle.std.specs.Prelude.{◌≡◌, ◌<◌, ◌+◌, ◌-◌, ℕ, Bool, List, [], ◌∷◌, ◌++◌, Option, None, Some, codes, decimal}
use Rattle.std.specs.Prelude.{if◌then◌else◌, length}
use Rattle.std.specs.List.{AllZip, flat_map, list_any, sum_by}
use Rattle.gix_object.specs.Bytes.{newline}
use Rattle.gix_object.specs.Hash.{encode_id_hex}
use Rattle.gix_object.specs.hash.hash.object_id.ObjectId.{ObjectId}
use Rattle.gixobj_cli_batch.specs.Checks.{IsChecked}
use Rattle.gixobj_cli_batch.specs.FindingLines.{finding_line, is_error}
use Rattle.gixobj_cli_batch.specs.declared.checked.BytesFault.{BytesFault}
use Rattle.gixobj_cli_batch.specs.declared.checked.BytesFault.TheVariants as bytes
use Rattle.gixobj_cli_batch.specs.declared.checked.Checked.{Checked}
use Rattle.gixobj_cli_batch.specs.declared.checked.Checked.TheVariants as checked
use Rattle.gixobj_cli_batch.specs.declared.fault.Fault.{Fault}
use Rattle.gixobj_cli_batch.specs.declared.fault.Fault.TheVariants as program
use Rattle.gixobj_records.specs.Records.{RecordView}

-- an id, what follows it, and a newline
abbrev pub id_line : ObjectId → List ℕ → List ℕ
id_line id rest = encode_id_hex id ++ rest ++ newline ∷ []

-- the line of an object whose bytes have another id; nothing for none
abbrev pub other_line : ObjectId → Option ObjectId → List ℕ
other_line id None = []
other_line id (Some actual) = encode_id_hex id ++ codes " has the bytes of " ++ id_line actual []

-- the line of a fault of the bytes of an object; nothing for none
abbrev pub fault_line : ObjectId → Option BytesFault → List ℕ
fault_line id None = []
fault_line id (Some bytes.Malformed) = id_line id (codes " is malformed")
fault_line id (Some bytes.OtherBytes) = id_line id (codes " encodes to other bytes")

-- the lines of a record: those of its faults, and then one for each finding of git, in git's order
abbrev pub checked_lines : Bool → Checked → List ℕ
checked_lines strict (checked.Missing id) = id_line id (codes " is missing")
checked_lines strict (checked.Object id kind other fault findings) = other_line id other ++ fault_line id fault
    ++ flat_map (finding_line strict id kind) findings.items

-- ---- numbers

-- one for a faulty object: its bytes have another id or a fault, or a finding counts as an error
abbrev pub faulty_count : Bool → Checked → ℕ
faulty_count strict (checked.Missing id) = 0
faulty_count strict (checked.Object id kind (Some other) fault findings) = 1
faulty_count strict (checked.Object id kind None (Some fault) findings) = 1
faulty_count strict (checked.Object id kind None None findings) =
    if list_any (is_error strict) findings.items then 1 else 0

-- one for a missing object
abbrev pub missing_count : Checked → ℕ
missing_count (checked.Missing id) = 1
missing_count (checked.Object id kind other fault findings) = 0

-- the number of faulty objects
abbrev pub faulty_total : Bool → List Checked → ℕ
faulty_total strict checks = sum_by (faulty_count strict) checks

-- the number of missing objects
abbrev pub missing_total : List Checked → ℕ
missing_total checks = sum_by missing_count checks

-- the line with the numbers of objects, of faulty and of missing ones
abbrev pub count_line : ℕ → ℕ → ℕ → List ℕ
count_line objects faulty lacking = (codes "checked " ++ decimal objects) ++ (codes " objects: " ++ decimal faulty)
    ++ (codes " faulty, " ++ decimal lacking) ++ codes " missing\n"

-- the error after a check; none if no object is faulty or missing
abbrev pub IsFaultOfCounts : ℕ → ℕ → Option Fault → Type 0
IsFaultOfCounts faulty lacking None = faulty + lacking ≡ 0
IsFaultOfCounts faulty lacking (Some cause) = (cause ≡ program.Faulty) × (0 < faulty + lacking)

-- the lines of the check of these records, and the error after them: those of each record, in order, and the line with
-- the numbers
pub record PrintsCheck (strict : Bool) (records : List RecordView) (lines : List ℕ) (fault : Option Fault)
    : Type 0 where
  pub checks : List Checked
  pub found : AllZip (IsChecked strict) records checks
  pub printed : lines ≡ flat_map (checked_lines strict) checks
      ++ count_line (length records - missing_total checks) (faulty_total strict checks) (missing_total checks)
  pub ended : IsFaultOfCounts (faulty_total strict checks) (missing_total checks) fault
