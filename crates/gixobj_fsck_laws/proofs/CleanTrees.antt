-- A tree without a message is safe.
use Rattle.std.proofs.Common.{◌≡◌, ◌≢◌, ◌<◌, ◌^◌, ◌∙◌, ◌++◌, ℕ, Bool, List, [], ◌∷◌, All, ap, append_assoc, arith, inl, inr, length, map, refl, slice_index}
use Rattle.std.proofs.Common.{subst, sym}
use Rattle.std.specs.List.{AllByRecursion, AllZip, concat}
use Rattle.std.specs.Str.Parse.{digits_value}
use Rattle.std.proofs.lemmas.List.Elements.{All-from_recursion}
use Rattle.gixobj_fsck_messages.specs.Sets.{HasMessage, HasNoMessage}
use Rattle.gixobj_fsck_messages.specs.declared.message.Message.{Message}
use Rattle.gixobj_fsck_messages.specs.declared.message.Message.TheVariants as message
use Rattle.gixobj_hash.specs.ByteStrings.{IsByteFree}
use Rattle.gixobj_hash.specs.Hash.{id_bytes, id_from}
use Rattle.gixobj_hash.specs.Runs.{Ending, Yields, broken, complete, yields_end, yields_piece}
use Rattle.gixobj_hash.specs.declared.hash.kind.Kind.{Kind}
use Rattle.gixobj_tree_entries.proofs.ByteSix.{encode_mode_has_six_digits}
use Rattle.gixobj_tree_entries.specs.Entries.{EntryView}
use Rattle.gixobj_tree_entries.specs.Mode.{encode_mode}
use Rattle.gixobj_tree.specs.Rewriting.{DecodesToCanonicalEntry, HasCanonicalModes}
use Rattle.gixobj_tree.specs.WellFormed.{IsEntryName}
use Rattle.gixobj_fsck_trees.proofs.UniqueReads.{raw_entry_parts_unique}
use Rattle.gixobj_fsck_trees.specs.EntryMessages.{HasBadMode, HasEntryMessage}
use Rattle.gixobj_fsck_trees.specs.RawEntries.{BeginsWithRawEntry, RawEntryStep, RawEntryView, ReadsTree, YieldsRawEntries}
use Rattle.gixobj_fsck_trees.specs.TreeMessages.{HasEntry, HasNameTwice, HasStepDown, ReportsOfTree}
use Rattle.gixobj_fsck_laws.proofs.CanonicalDigits.{canonical_digits, git_mode_decodes}
use Rattle.gixobj_fsck_laws.proofs.CleanEntries.{IsCleanEntry, decoded_view, entry_name_of_clean, first_digit_of_clean, git_mode_of_clean, id_from_bytes}
use Rattle.gixobj_fsck_laws.proofs.CleanEntries.{is_id_of_bytes, none_has_bad_mode, none_has_message, safe_of_clean}
use Rattle.gixobj_fsck_laws.proofs.CleanOrder.{apart_of_clean, ascending_of_clean}
use Rattle.gixobj_fsck_laws.specs.CleanTrees.{HaveSmallModes, IsCleanTree, IsGitMode, IsSafeEntry, IsSafeTree, next_entry, no_entry}

-- ---- one entry

-- the digits of a mode without a message are those that git writes
own_digits : (kind : Kind) (strict : Bool) (input rest : List ℕ) (e : RawEntryView) (begins : BeginsWithRawEntry kind input e rest)
    → digits_value 8 begins.digits < 2 ^ 16 → IsCleanEntry kind strict e → begins.digits ≡ encode_mode e.mode
own_digits kind strict input rest e begins small clean =
    let value : digits_value 8 begins.digits ≡ e.mode = omega (arith, begins.mode, small) in
    let first : slice_index begins.digits 0 ≢ 48 = λ (same : slice_index begins.digits 0 ≡ 48).
    first_digit_of_clean e clean.messages (begins.first ∙ same) in
    canonical_digits strict e.mode begins.digits (git_mode_of_clean strict e clean.mode) (begins.octal, first, value)

-- the encoding of an entry with these digits
abbrev pub entry_bytes : List ℕ → RawEntryView → List ℕ
entry_bytes digits e = digits ++ 32 ∷ (e.name ++ 0 ∷ e.id)

git_mode_pos : (strict : Bool) (mode : ℕ) → IsGitMode strict mode → 0 < mode
git_mode_pos strict mode is = grind (arith, is)

decodes_to_clean : (kind : Kind) (strict : Bool) (e : RawEntryView) → IsCleanEntry kind strict e → IsByteFree 0 e.name
    → DecodesToCanonicalEntry kind (decoded_view kind e) (entry_bytes (encode_mode e.mode) e)
decodes_to_clean kind strict e clean free =
    let git : IsGitMode strict e.mode = git_mode_of_clean strict e clean.mode in
    let bytes : id_bytes (id_from kind e.id) ≡ e.id = id_from_bytes kind e.id in
    record {
      is = record {
        digits = encode_mode e.mode;
        joined = rw bytes refl;
        mode = git_mode_decodes strict e.mode git;
        byte_six = encode_mode_has_six_digits e.mode (e.name ++ 0 ∷ e.id) (git_mode_pos strict e.mode git);
        name = free;
        id = is_id_of_bytes kind e.id clean.len;
      };
      own = refl;
    }

-- ---- all entries

not_nil : (digits rest : List ℕ) → [] ≡ digits ++ 32 ∷ rest → ⊥
not_nil [] rest same = cc same
not_nil (digit ∷ digits) rest same = cc same

-- the first mode is small, and so are the others
small_first : (kind : Kind) (input rest : List ℕ) (e : RawEntryView) (has : BeginsWithRawEntry kind input e rest)
    → HaveSmallModes kind input → (digits_value 8 has.digits < 2 ^ 16) × HaveSmallModes kind rest
small_first kind _ rest e has no_entry = absurd (not_nil has.digits (e.name ++ 0 ∷ (e.id ++ rest)) has.joined)
small_first kind _ rest e has (next_entry input rest' e' begins low more) =
    let same = raw_entry_parts_unique kind input e' e rest' rest begins has in
    let P : List ℕ → Type 0 = λ it. digits_value 8 it < 2 ^ 16 in
    let Q : List ℕ → Type 0 = HaveSmallModes kind in
    (subst P same.0 low, subst Q same.1 more)

-- the bytes are the encodings of entries without a message
pub record IsCleanRun (kind : Kind) (strict : Bool) (bytes : List ℕ) (entries : List RawEntryView) : Type 0 where
  pub clean : AllByRecursion (IsCleanEntry kind strict) entries
  pub encodings : List (List ℕ)
  pub joined : bytes ≡ concat encodings
  pub are : AllZip (DecodesToCanonicalEntry kind) (map (decoded_view kind) entries) encodings

entry_then_rest : (digits name id rest : List ℕ) → digits ++ 32 ∷ (name ++ 0 ∷ (id ++ rest)) ≡ (digits ++ 32 ∷ (name ++ 0 ∷ id)) ++ rest
entry_then_rest digits name id rest = sym (append_assoc digits (32 ∷ (name ++ 0 ∷ id)) rest
    ∙ ap (λ (it : List ℕ). digits ++ 32 ∷ it) (append_assoc name (0 ∷ id) rest))

clean_run : (kind : Kind) (strict : Bool) (offset : ℕ) (bytes : List ℕ) (entries : List RawEntryView)
    → Yields (RawEntryStep kind) offset bytes entries complete
    → HaveSmallModes kind bytes → AllByRecursion (λ (e : RawEntryView). (it : Message) → ¬ HasEntryMessage e it) entries
    → AllByRecursion (λ (e : RawEntryView). ¬ HasBadMode strict e) entries → IsCleanRun kind strict bytes entries
clean_run kind strict _ _ _ (yields_end _) small messages modes = record { clean = tt; encodings = []; joined = refl; are = tt }
clean_run kind strict _ _ _ (yields_piece _ next input rest e entries _ step yields) small messages modes =
    let has : BeginsWithRawEntry kind input e rest = step.0 in
    let first = small_first kind input rest e has small in
    let after = clean_run kind strict next rest entries yields first.1 messages.1 modes.1 in
    let clean : IsCleanEntry kind strict e =
    record { messages = messages.0; mode = modes.0; filled = has.filled; len = has.id } in
    let own : has.digits ≡ encode_mode e.mode = own_digits kind strict input rest e has first.0 clean in
    let bytes = entry_bytes (encode_mode e.mode) e in
    let P : List ℕ → Type 0 = λ it. input ≡ entry_bytes it e ++ rest in
    let begins : input ≡ entry_bytes has.digits e ++ rest = has.joined ∙ entry_then_rest has.digits e.name e.id rest in
    record {
      clean = (clean, after.clean);
      encodings = bytes ∷ after.encodings;
      joined = subst P own begins ∙ ap (λ (it : List ℕ). bytes ++ it) after.joined;
      are = (decodes_to_clean kind strict e clean has.name, after.are);
    }

have_names : (kind : Kind) (strict : Bool) (entries : List RawEntryView) → AllByRecursion (IsCleanEntry kind strict) entries
    → AllByRecursion (λ (e : EntryView). IsEntryName e.name) (map (decoded_view kind) entries)
have_names kind strict [] are = tt
have_names kind strict (e ∷ entries) are = (entry_name_of_clean kind strict e are.0, have_names kind strict entries are.1)

are_safe : (kind : Kind) (strict : Bool) (entries : List RawEntryView) → AllByRecursion (IsCleanEntry kind strict) entries
    → AllByRecursion (IsSafeEntry strict) (map (decoded_view kind) entries)
are_safe kind strict [] are = tt
are_safe kind strict (e ∷ entries) are = (safe_of_clean kind strict e are.0, are_safe kind strict entries are.1)

safe_of_run : (kind : Kind) (strict : Bool) (bytes : List ℕ) (entries : List RawEntryView) → IsCleanRun kind strict bytes entries
    → ((it : Message) → ¬ ReportsOfTree strict entries complete it) → IsSafeTree kind strict bytes
safe_of_run kind strict bytes entries run none =
    let once : ¬ HasNameTwice entries = λ (has : HasNameTwice entries). none message.DuplicateEntries (inr (inr (inr (inl (refl, has))))) in
    let up : ¬ HasStepDown entries = λ (has : HasStepDown entries). none message.TreeNotSorted (inr (inr (inr (inr (refl, has))))) in
    let views = map (decoded_view kind) entries in (
      views,
      (run.encodings, run.joined, run.are),
      record {
        names = have_names kind strict entries run.clean;
        apart = apart_of_clean kind entries once;
        ascending = ascending_of_clean kind strict entries run.clean up once;
      },
      All-from_recursion (IsSafeEntry strict) views (are_safe kind strict entries run.clean),
    )

safe_of_yields : (kind : Kind) (strict : Bool) (bytes : List ℕ) (entries : List RawEntryView) → YieldsRawEntries kind bytes entries complete
    → HaveSmallModes kind bytes → ((it : Message) → ¬ ReportsOfTree strict entries complete it) → IsSafeTree kind strict bytes
safe_of_yields kind strict bytes entries yields small none =
    let messages = none_has_message entries
    (λ (it : Message) (has : HasEntry (λ e. HasEntryMessage e it) entries). none it (inl has)) in
    let modes = none_has_bad_mode strict entries
    (λ (has : HasEntry (HasBadMode strict) entries). none message.BadFilemode (inr (inr (inl (refl, has))))) in
    safe_of_run kind strict bytes entries (clean_run kind strict 0 bytes entries yields small messages modes) none

safe_of_reads : (kind : Kind) (strict : Bool) (bytes : List ℕ) (entries : List RawEntryView) (ending : Ending) → ReadsTree kind bytes entries ending
    → HaveSmallModes kind bytes → ((it : Message) → ¬ ReportsOfTree strict entries ending it) → IsSafeTree kind strict bytes
safe_of_reads kind strict bytes entries broken reads small none = absurd (none message.BadTree (inr (inl (refl, refl))))
safe_of_reads kind strict bytes entries complete (inl reads) small none = safe_of_yields kind strict bytes entries reads.1 small none
safe_of_reads kind strict [] entries complete (inr unread) small none =
    let P : List RawEntryView → Type 0 = λ it. YieldsRawEntries kind [] it complete in
    safe_of_yields kind strict [] entries (subst P (sym unread.1) (yields_end 0)) small none
safe_of_reads kind strict (byte ∷ bytes) entries complete (inr unread) small none = let other : complete ≡ broken = unread.2 in cc other

-- a tree without a message is safe if its modes are small
pub safe_of_clean_tree : (kind : Kind) (strict : Bool) (bytes : List ℕ) → IsCleanTree kind strict bytes → HaveSmallModes kind bytes
    → IsSafeTree kind strict bytes
safe_of_clean_tree kind strict bytes (messages, are, no_message) small =
    safe_of_reads kind strict bytes are.0 are.1 are.2 small
    (λ (it : Message) (report : ReportsOfTree strict are.0 are.1 it). no_message it ((are.3 it).1 report))
