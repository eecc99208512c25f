-- The checks of the records so far; the proof of `check` uses them.
use Rattle.std.proofs.Common.{◌≡◌, ◌++◌, ◌∷◌, ◌∙◌, ◌+◌, ◌-◌, ◌<◌, ◌≤◌, ℕ, Bool, List, [], Option, ap, get_or, length, map, refl, subst, sym, take}
use Rattle.std.proofs.lemmas.List.{length-map, map_more, take_all}
use Rattle.std.proofs.lemmas.List.Sums.{sum_by_push}
use Rattle.std.specs.List.{AllZip, flat_map}
use Rattle.gixobj_cli_batch.specs.CheckLines.{IsFaultOfCounts, PrintsCheck, checked_lines, count_line, faulty_count, faulty_total, missing_count, missing_total}
use Rattle.gixobj_cli_batch.specs.Checks.{IsChecked}
use Rattle.gixobj_cli_batch.specs.declared.checked.Checked.{Checked}
use Rattle.gixobj_cli_batch.specs.declared.fault.Fault.{Fault}
use Rattle.gixobj_cli_batch.proofs.Appended.{flat_map_snoc}
use Rattle.gixobj_records.specs.Records.{RecordView, record_view}
use Rattle.gixobj_records.specs.declared.records.Record.{Record}

all_zip_snoc : {A B : Type 0} (R : A → B → Type 0) (xs : List A) (ys : List B) (x : A) (y : B) → AllZip R xs ys → R x y
    → AllZip R (xs ++ x ∷ []) (ys ++ y ∷ [])
all_zip_snoc R [] [] x y zip is = (is, tt)
all_zip_snoc R [] (b ∷ ys) x y zip is = absurd zip
all_zip_snoc R (a ∷ xs) [] x y zip is = absurd zip
all_zip_snoc R (a ∷ xs) (b ∷ ys) x y zip is = (zip.0, all_zip_snoc R xs ys x y zip.1 is)

module _ (strict : Bool) where
  -- the records have checks with these lines and these numbers
  pub record HasChecks (records : List RecordView) (lines : List ℕ) (faulty lacking : ℕ) : Type 0 where
    pub checks : List Checked
    pub found : AllZip (IsChecked strict) records checks
    pub printed : lines ≡ flat_map (checked_lines strict) checks
    pub faulty_sum : faulty ≡ faulty_total strict checks
    pub missing_sum : lacking ≡ missing_total checks

  pub has_checks_nil : (lines : List ℕ) → lines ≡ [] → HasChecks [] lines 0 0
  has_checks_nil lines none = record { checks = []; found = tt; printed = none; faulty_sum = refl; missing_sum = refl }

  has_checks_snoc : (records : List RecordView) (lines more : List ℕ) (faulty lacking f m : ℕ) (it : RecordView) (check : Checked)
      → HasChecks records lines faulty lacking → IsChecked strict it check → more ≡ lines ++ checked_lines strict check → f ≡ faulty_count strict check
      → m ≡ missing_count check → HasChecks (records ++ it ∷ []) more (faulty + f) (lacking + m)
  has_checks_snoc records lines more faulty lacking f m it check has is appended f_is m_is = record {
    checks = has.checks ++ check ∷ [];
    found = all_zip_snoc (IsChecked strict) records has.checks it check has.found is;
    printed = appended ∙ ap (λ (list : List ℕ). list ++ checked_lines strict check) has.printed ∙ sym (flat_map_snoc (checked_lines strict) has.checks check);
    faulty_sum = ap (λ (n : ℕ). n + f) has.faulty_sum ∙ ap (λ (n : ℕ). faulty_total strict has.checks + n) f_is
        ∙ sym (sum_by_push (faulty_count strict) has.checks check);
    missing_sum = ap (λ (n : ℕ). n + m) has.missing_sum ∙ ap (λ (n : ℕ). missing_total has.checks + n) m_is
        ∙ sym (sum_by_push missing_count has.checks check);
  }

  -- the checks of the records so far, and that of the next
  pub has_checks_take : (records : List Record) (i : ℕ) (default : Record) (lines more : List ℕ) (faulty lacking f m : ℕ) (check : Checked)
      → i < length records → HasChecks (map record_view (take i records)) lines faulty lacking
      → IsChecked strict (record_view (get_or records i default)) check → more ≡ lines ++ checked_lines strict check → f ≡ faulty_count strict check
      → m ≡ missing_count check → HasChecks (map record_view (take (i + 1) records)) more (faulty + f) (lacking + m)
  has_checks_take records i default lines more faulty lacking f m check within has is appended f_is m_is =
      subst (λ (list : List RecordView). HasChecks list more (faulty + f) (lacking + m)) (sym (map_more record_view records i default within))
      (has_checks_snoc (map record_view (take i records)) lines more faulty lacking f m (record_view (get_or records i default)) check has is appended
      f_is m_is)

  -- the lines of the checks, and then the numbers
  prints_check_of_has : (records : List RecordView) (n faulty lacking : ℕ) (found lines : List ℕ) (fault : Option Fault) → n ≡ length records
      → HasChecks records found faulty lacking → lines ≡ found ++ count_line (n - lacking) faulty lacking → IsFaultOfCounts faulty lacking fault
      → PrintsCheck strict records lines fault
  prints_check_of_has records n faulty lacking found lines fault count has printed ended = record {
    checks = has.checks;
    found = has.found;
    printed = subst (λ (k : ℕ). lines ≡ flat_map (checked_lines strict) has.checks ++ count_line (k - missing_total has.checks) (faulty_total strict has.checks)
        (missing_total has.checks)) count
        (subst (λ (k : ℕ). lines ≡ flat_map (checked_lines strict) has.checks ++ count_line (n - k) (faulty_total strict has.checks) k) has.missing_sum
        (subst (λ (k : ℕ). lines ≡ flat_map (checked_lines strict) has.checks ++ count_line (n - lacking) k lacking) has.faulty_sum
        (subst (λ (list : List ℕ). lines ≡ list ++ count_line (n - lacking) faulty lacking) has.printed printed)));
    ended = subst (λ (k : ℕ). IsFaultOfCounts (faulty_total strict has.checks) k fault) has.missing_sum
        (subst (λ (k : ℕ). IsFaultOfCounts k lacking fault) has.faulty_sum ended);
  }

  -- the check of all records
  pub prints_check_of_checks : (records : List Record) (i faulty lacking : ℕ) (found lines : List ℕ) (fault : Option Fault) → length records ≤ i
      → HasChecks (map record_view (take i records)) found faulty lacking
      → lines ≡ found ++ count_line (length records - lacking) faulty lacking → IsFaultOfCounts faulty lacking fault
      → PrintsCheck strict (map record_view records) lines fault
  prints_check_of_checks records i faulty lacking found lines fault over has printed ended =
      prints_check_of_has (map record_view records) (length records) faulty lacking found lines fault (sym (length-map records record_view))
      (subst (λ (list : List Record). HasChecks (map record_view list) found faulty lacking) (take_all i records over) has) printed ended
