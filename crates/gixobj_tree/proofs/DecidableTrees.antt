-- Each input begins with an entry or with none, and all bytes are a tree or malformed; used by `gixobj_editor_lookups`.
use Rattle.std.proofs.Common.{◌≡◌, ◌≢◌, ◌≤◌, ◌⊎◌, inl, inr, ⊎_elim, ℕ, zero, suc, List, [], ◌∷◌, ◌++◌, ap, arith, drop, length, take, refl, subst, sym, ◌∙◌}
use Rattle.std.proofs.lemmas.Bool.{cases_eq, cases_lt}
use Rattle.std.proofs.lemmas.List.{length-take-le, take-append-drop}
use Rattle.std.proofs.lemmas.List.Elements.{All-cons, All-nil}
use Rattle.std.specs.Char.{digit_value}
use Rattle.std.specs.Prelude.{get_or}
use Rattle.std.specs.Str.Parse.{AllDigits}
use Rattle.gixobj_hash.specs.Runs.{Ending, broken, complete, yields_end, yields_error, yields_piece}
use Rattle.gixobj_hash.specs.Hash.{hash_len, id_bytes, id_from}
use Rattle.gixobj_hash.specs.declared.hash.kind.Kind.{Kind}
use Rattle.gixobj_hash.specs.declared.hash.kind.Kind.TheVariants as hash
use Rattle.gixobj_hash.proofs.Splits.{no_split_of_byte_free, split_parts_unique}
use Rattle.gixobj_hash.specs.ByteStrings.{IsByteFree, SplitsAt}
use Rattle.gixobj_tree_entries.proofs.EncodedModes.{octal_digits_space_free}
use Rattle.gixobj_tree_entries.specs.Entries.{EntryView, entry_of}
use Rattle.gixobj_tree_entries.specs.Mode.{BeginsWithMode, ObeysByteSix, mode_of_digits}
use Rattle.gixobj_tree_entries.proofs.EntryRuns.{entry_run_unique, decodes_to_tree_of_run, yields_entries_iff}
use Rattle.gixobj_tree_entries.proofs.OneEntry.{Parted, entry_of_parts, no_entry_without_id, no_entry_without_name, parted_of_begins, entry_rest_len_lt}
use Rattle.gixobj_tree_entries.specs.TreeDecoding.{BeginsWithEntry, BeginsWithId, BeginsWithNoEntry, IsMalformedTree, DecodesToTree, YieldsEntries}

-- ---- the parts of an entry

-- bytes split at the first such byte, or have none
pub splits_at_or_byte_free : (byte : ℕ) (content : List ℕ) → ((prefix : List ℕ) × (rest : List ℕ) × SplitsAt byte content prefix rest) ⊎ IsByteFree byte content
splits_at_or_byte_free byte [] = inr (All-nil (λ it. it ≢ byte))
splits_at_or_byte_free byte (first ∷ content) =
    ⊎_elim (λ is. inl ([], content, here is))
    (λ other. ⊎_elim (λ splits. inl (first ∷ splits.0, splits.1, later other splits.2)) (λ free. inr (All-cons (λ it. it ≢ byte) first content other free))
    (splits_at_or_byte_free byte content)) (cases_eq first byte)
  where
    here : first ≡ byte → SplitsAt byte (first ∷ content) [] content
    here is = record { joined = ap (λ (it : ℕ). it ∷ content) is; first = All-nil (λ it. it ≢ byte) }

    later : {prefix rest : List ℕ} → first ≢ byte → SplitsAt byte content prefix rest → SplitsAt byte (first ∷ content) (first ∷ prefix) rest
    later {prefix = prefix} other splits =
        record { joined = ap (λ (it : List ℕ). first ∷ it) splits.joined; first = All-cons (λ it. it ≢ byte) first prefix other splits.first }

-- bytes are octal digits, or not
all_octal_or_not : (content : List ℕ) → AllDigits 8 content ⊎ (AllDigits 8 content → ⊥)
all_octal_or_not [] = inl tt
all_octal_or_not (first ∷ content) =
    ⊎_elim (λ octal. ⊎_elim (λ more. inl (octal, more)) (λ other. inr (λ all. other all.1)) (all_octal_or_not content))
    (λ large. inr (λ all. omega (arith, all.0)))
    (cases_lt (digit_value first) 8)

-- byte 6 of the content allows these digits, or not
has_six_digits_or_not : (content digits : List ℕ) → ObeysByteSix content digits ⊎ (ObeysByteSix content digits → ⊥)
has_six_digits_or_not content digits =
    ⊎_elim (λ six. inl (λ is other. six))
    (λ not_six. ⊎_elim (λ is. six_digits_needed not_six is) (λ other. inl (λ is. absurd (other is))) (cases_eq (get_or content 6 0) 32))
    (cases_eq (length digits) 6)
  where
    six_digits_needed : (length digits ≡ 6 → ⊥) → get_or content 6 0 ≡ 32 → ObeysByteSix content digits ⊎ (ObeysByteSix content digits → ⊥)
    six_digits_needed not_six is =
        ⊎_elim (λ five. inl (λ six other. absurd (other five))) (λ other. inr (λ keeps. not_six (keeps is other))) (cases_eq (get_or content 5 0) 32)

-- the input begins with an id if it has enough bytes
begins_with_id_of_len : (kind : Kind) (input : List ℕ) → hash_len kind ≤ length input → BeginsWithId kind input (id_from kind (take (hash_len kind) input))
    (drop (hash_len kind) input)
begins_with_id_of_len hash.Sha1 input enough = (sym (take-append-drop 20 input), (refl, length-take-le 20 input enough))
begins_with_id_of_len hash.Sha256 input enough = (sym (take-append-drop 32 input), (refl, length-take-le 32 input enough))

-- ---- an entry

-- the input begins with an entry
abbrev AnEntry : Kind → List ℕ → Type 0
AnEntry kind input = (e : EntryView) × (rest : List ℕ) × BeginsWithEntry kind input e rest

-- the digits of an entry are the bytes before the first space
parted_digits_before_space : (kind : Kind) (input digits after : List ℕ) (e : EntryView) (rest : List ℕ) → SplitsAt 32 input digits after
    → (p : Parted kind input e rest)
    → p.digits ≡ digits
parted_digits_before_space kind input digits after e rest split p =
    (split_parts_unique 32 p.digits (e.name ++ 0 ∷ (id_bytes e.id ++ rest)) digits after (octal_digits_space_free p.digits p.mode.octal) split.first
    (sym p.joined ∙ split.joined)).0

append_cons_ne_nil : (prefix rest : List ℕ) (byte : ℕ) → prefix ++ byte ∷ rest ≢ []
append_cons_ne_nil [] rest byte = λ bare. cc bare
append_cons_ne_nil (first ∷ prefix) rest byte = λ bare. cc bare

-- an input that begins with a mode and a space begins with an entry or with none
entry_or_none_after_mode : (kind : Kind) (input after from_name : List ℕ) (mode : ℕ) → BeginsWithMode input mode after → after ≡ 32 ∷ from_name
    → AnEntry kind input
    ⊎ BeginsWithNoEntry kind input
entry_or_none_after_mode kind input after from_name mode begun spaced =
    ⊎_elim (λ splits. from_id_on splits.0 splits.1 splits.2) (λ free. inr (no_entry_without_name kind input after from_name mode begun spaced free))
    (splits_at_or_byte_free 0 from_name)
  where
    from_id_on : (name from_id : List ℕ) → SplitsAt 0 from_name name from_id → AnEntry kind input ⊎ BeginsWithNoEntry kind input
    from_id_on name from_id split =
        let it = id_from kind (take (hash_len kind) from_id) in
        let rest = drop (hash_len kind) from_id in
        ⊎_elim (λ short. inr (no_entry_without_id kind input after from_name name from_id mode begun spaced split short))
        (λ enough. inl (
          entry_of mode name it,
          rest,
          entry_of_parts kind input after from_name name from_id rest mode it begun spaced split
              (begins_with_id_of_len kind from_id enough),
        ))
        (cases_lt (length from_id) (hash_len kind))

-- an input that is split at its first space
module _ (kind : Kind) (input digits after : List ℕ) (split : SplitsAt 32 input digits after) where
  no_entry : (P : List ℕ → Type 0) → ((e : EntryView) (rest : List ℕ) (p : Parted kind input e rest) → P p.digits) → (P digits → ⊥)
      → BeginsWithNoEntry kind input
  no_entry P holds fails = λ e rest has.
      let p = parted_of_begins kind input e rest has in
      fails (subst P (parted_digits_before_space kind input digits after e rest split p) (holds e rest p))

  mode_there : AllDigits 8 digits → length digits ≤ 7 → ObeysByteSix input digits → BeginsWithMode input (mode_of_digits digits) (32 ∷ after)
  mode_there octal short six = record {
    digits = digits;
    some = λ bare. append_cons_ne_nil digits after 32 (sym split.joined ∙ bare);
    joined = split.joined;
    ends = refl;
    decodes = record { octal = octal; short = short; value = refl };
    byte_six = six;
  }

  by_byte_six : AllDigits 8 digits → length digits ≤ 7 → AnEntry kind input ⊎ BeginsWithNoEntry kind input
  by_byte_six octal short =
      ⊎_elim (λ six. entry_or_none_after_mode kind input (32 ∷ after) after (mode_of_digits digits) (mode_there octal short six) refl)
      (λ other. inr (no_entry (ObeysByteSix input) (λ e rest p. p.byte_six) other)) (has_six_digits_or_not input digits)

  by_length : AllDigits 8 digits → AnEntry kind input ⊎ BeginsWithNoEntry kind input
  by_length octal = ⊎_elim (λ long. inr (no_entry (λ it. length it ≤ 7) (λ e rest p. p.mode.short) (λ short. omega arith))) (by_byte_six octal)
      (cases_lt 7 (length digits))

  entry_or_none_after_split : AnEntry kind input ⊎ BeginsWithNoEntry kind input
  entry_or_none_after_split = ⊎_elim by_length (λ other. inr (no_entry (AllDigits 8) (λ e rest p. p.mode.octal) other)) (all_octal_or_not digits)

pub begins_with_entry_or_not : (kind : Kind) (input : List ℕ) → ((e : EntryView) × (rest : List ℕ) × BeginsWithEntry kind input e rest)
    ⊎ BeginsWithNoEntry kind input
begins_with_entry_or_not kind input =
    ⊎_elim (λ splits. entry_or_none_after_split kind input splits.0 splits.1 splits.2)
    (λ free. inr (λ e rest has. no_space_there e rest free (parted_of_begins kind input e rest has)))
    (splits_at_or_byte_free 32 input)
  where
    no_space_there : (e : EntryView) (rest : List ℕ) → IsByteFree 32 input → Parted kind input e rest → ⊥
    no_space_there e rest free p = no_split_of_byte_free 32 p.digits (e.name ++ 0 ∷ (id_bytes e.id ++ rest)) (subst (IsByteFree 32) p.joined free)

-- ---- a tree

-- the complete run over the input, with its entries and its ending
abbrev ARun : Kind → List ℕ → Type 0
ARun kind input = (entries : List EntryView) × (ending : Ending) × YieldsEntries kind input entries ending

run_cons : (kind : Kind) (input : List ℕ) (e : EntryView) (rest : List ℕ) → BeginsWithEntry kind input e rest → ARun kind rest → ARun kind input
run_cons kind input e rest has more = (e ∷ more.0, more.1, yields_piece tt tt input rest e more.0 more.1 has more.2)

rest_len_le : (most : ℕ) (kind : Kind) (input : List ℕ) (e : EntryView) (rest : List ℕ) → BeginsWithEntry kind input e rest → length input ≤ suc most
    → length rest ≤ most
rest_len_le most kind input e rest has within = (let less = entry_rest_len_lt kind input e rest has in omega (arith, less, within))

run_exists_of_len_le : (most : ℕ) (kind : Kind) (input : List ℕ) → length input ≤ most → ARun kind input
run_exists_of_len_le most kind [] within = ([], complete, yields_end tt)
run_exists_of_len_le zero kind (first ∷ input) within = absurd (omega (arith, within))
run_exists_of_len_le (suc most) kind (first ∷ input) within =
    ⊎_elim
    (λ has. run_cons kind (first ∷ input) has.0 has.1 has.2 (run_exists_of_len_le most kind has.1
    (rest_len_le most kind (first ∷ input) has.0 has.1 has.2 within)))
    (λ none. ([], broken, yields_error tt (first ∷ input) (λ bare. cc bare) (λ e after rest has. none e rest has)))
    (begins_with_entry_or_not kind (first ∷ input))

pub decodes_to_tree_or_malformed : (kind : Kind) (content : List ℕ) → ((entries : List EntryView) × DecodesToTree kind content entries)
    ⊎ IsMalformedTree kind content
decodes_to_tree_or_malformed kind content = (let run = run_exists_of_len_le (length content) kind content (omega arith) in by_ending run.0 run.1 run.2)
  where
    by_ending : (entries : List EntryView) (ending : Ending) → YieldsEntries kind content entries ending
        → ((entries : List EntryView) × DecodesToTree kind content entries) ⊎ IsMalformedTree kind content
    by_ending entries complete run = inl (entries, decodes_to_tree_of_run kind content entries run)
    by_ending entries broken run =
        inr (λ others is. let same = entry_run_unique kind content entries others broken complete run (yields_entries_iff kind content others is) in cc same.1)
