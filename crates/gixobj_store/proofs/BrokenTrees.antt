-- Bytes that yield entries and then an error have a longest prefix that is the encoding of a tree: for
-- `tree_readers_agree`.
use Rattle.std.proofs.Common.{◌≡◌, ◌≢◌, ◌≤◌, ◌++◌, ◌∷◌, ℕ, List, [], ap, append_assoc, arith, length, length-append, refl, sym, ◌∙◌}
use Rattle.std.specs.List.{AllZip, concat}
use Rattle.gixobj_hash.specs.Runs.{Ending, broken, yields_end, yields_error, yields_piece}
use Rattle.gixobj_hash.specs.declared.hash.kind.Kind.{Kind}
use Rattle.gixobj_tree_entries.specs.Entries.{EntryView}
use Rattle.gixobj_tree_entries.proofs.OneEntry.{entry_unique}
use Rattle.gixobj_tree_entries.specs.TreeDecoding.{BeginsWithEntry, BeginsWithNoEntry, DecodesToEntry, DecodesToTree, YieldsEntries}
use Rattle.gixobj_store.specs.TreeReaders.{IsLongestPrefix}

-- the end of a run that breaks off: the encodings of some entries leave no fewer bytes than the run
record Break (kind : Kind) (bytes : List ℕ) (entries : List EntryView) : Type 0 where
  prefix : List ℕ
  rest : List ℕ
  joined : bytes ≡ prefix ++ rest
  more : rest ≢ []
  is : DecodesToTree kind prefix entries
  minimum : (them : List EntryView) (encodings : List (List ℕ)) (others : List ℕ) → AllZip (DecodesToEntry kind) them encodings
      → bytes ≡ concat encodings ++ others → length rest ≤ length others

-- the bytes begin with the first of some encoded entries
begins_with_entry_of_encodings : (kind : Kind) (bytes first others : List ℕ) (encodings : List (List ℕ)) (e : EntryView) → DecodesToEntry kind e first
    → bytes ≡ (first ++ concat encodings) ++ others → BeginsWithEntry kind bytes e (concat encodings ++ others)
begins_with_entry_of_encodings kind bytes first others encodings e is joined = (first, joined ∙ append_assoc first (concat encodings) others, is)

no_entry_len_le_rest : (kind : Kind) (bytes : List ℕ) → BeginsWithNoEntry kind bytes → (them : List EntryView) (encodings : List (List ℕ)) (others : List ℕ)
    → AllZip (DecodesToEntry kind) them encodings → bytes ≡ concat encodings ++ others → length bytes ≤ length others
no_entry_len_le_rest kind bytes none [] [] others are joined = omega (arith, ap length joined)
no_entry_len_le_rest kind bytes none [] (first ∷ encodings) others are joined = absurd are
no_entry_len_le_rest kind bytes none (e ∷ them) [] others are joined = absurd are
no_entry_len_le_rest kind bytes none (e ∷ them) (first ∷ encodings) others are joined =
    absurd (none e (concat encodings ++ others) (begins_with_entry_of_encodings kind bytes first others encodings e are.0 joined))

rest_len_le : (bytes head rest : List ℕ) → bytes ≡ head ++ rest → length rest ≤ length bytes
rest_len_le bytes head rest joined = omega (arith, ap length joined, length-append head rest)

break_rest_len_le : (kind : Kind) (bytes rest : List ℕ) (e : EntryView) (entries : List EntryView) → BeginsWithEntry kind bytes e rest
    → (after : Break kind rest entries)
    → (them : List EntryView) (encodings : List (List ℕ)) (others : List ℕ) → AllZip (DecodesToEntry kind) them encodings → bytes ≡ concat encodings ++ others
    → length after.rest ≤ length others
break_rest_len_le kind bytes rest e entries (first, joined, is) after [] [] others are same =
    omega (arith, rest_len_le rest after.prefix after.rest after.joined, ap length joined, length-append first rest, ap length same)
break_rest_len_le kind bytes rest e entries has after [] (first ∷ encodings) others are same = absurd are
break_rest_len_le kind bytes rest e entries has after (it ∷ them) [] others are same = absurd are
break_rest_len_le kind bytes rest e entries has after (it ∷ them) (first ∷ encodings) others are same =
    after.minimum them encodings others are.1
    (entry_unique kind bytes e it rest (concat encodings ++ others) has (begins_with_entry_of_encodings kind bytes first others encodings it are.0 same)).1

break_of_broken_entries : (kind : Kind) (bytes : List ℕ) (entries : List EntryView) (ending : Ending) → ending ≡ broken
    → YieldsEntries kind bytes entries ending
    → Break kind bytes entries
break_of_broken_entries kind bytes entries ending stops (yields_end _) = cc stops
break_of_broken_entries kind bytes entries ending stops (yields_error _ _ some none) =
    let no_entry : BeginsWithNoEntry kind bytes = λ e rest has. none e tt rest has in
    record { prefix = []; rest = bytes; joined = refl; more = some; is = ([], refl, tt); minimum = no_entry_len_le_rest kind bytes no_entry }
break_of_broken_entries kind bytes entries ending stops (yields_piece _ _ _ rest e others _ (first, joined, is) seen) =
    let after = break_of_broken_entries kind rest others ending stops seen in
    let (encodings, same, are) = after.is in
    record {
      prefix = first ++ after.prefix;
      rest = after.rest;
      joined = joined ∙ ap (λ (it : List ℕ). first ++ it) after.joined ∙ sym (append_assoc first after.prefix after.rest);
      more = after.more;
      is = (first ∷ encodings, ap (λ (it : List ℕ). first ++ it) same, (is, are));
      minimum = break_rest_len_le kind bytes rest e others (first, joined, is) after;
    }

pub is_longest_prefix_of_walk : (kind : Kind) (bytes : List ℕ) (entries : List EntryView) → YieldsEntries kind bytes entries broken
    → IsLongestPrefix kind bytes entries
is_longest_prefix_of_walk kind bytes entries seen =
    let stop = break_of_broken_entries kind bytes entries broken refl seen in
    record {
      prefix = stop.prefix;
      rest = stop.rest;
      joined = stop.joined;
      more = stop.more;
      is = stop.is;
      longest = λ longer others them same is.
          let (encodings, joined, are) = is in
          let less = stop.minimum them encodings others are (same ∙ ap (λ (it : List ℕ). it ++ others) joined) in
          omega (arith, less, ap length same, ap length stop.joined, length-append longer others, length-append stop.prefix stop.rest);
    }
