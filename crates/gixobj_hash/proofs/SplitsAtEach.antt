-- Each byte string splits at each occurrence of a byte, uniquely and part by part. The proofs about paths and edit
-- scripts use it.
use Rattle.std.proofs.Common.{◌≡◌, ◌≢◌, ◌++◌, ◌∷◌, ℕ, All, List, [], ap, append_assoc, refl, rules, sym, ◌∙◌}
use Rattle.std.proofs.lemmas.Grind.{common_steps}
use Rattle.std.proofs.lemmas.List.Elements.{All-append, All-cons, All-head, All-nil, All-push, All-tail}
use Rattle.std.proofs.lemmas.List.{append-nil}
use Rattle.std.proofs.Math.Decide.{ℕ_discrete}
use Rattle.std.specs.List.{flat_map}
use Rattle.gixobj_hash.proofs.Splits.{split_parts_unique}
use Rattle.gixobj_hash.specs.ByteStrings.{IsByteFree, SplitsAt}
use Rattle.gixobj_hash.specs.Splits.{IsSplitAtEach, ended}

-- ---- part by part

-- the bytes are these first parts, each with the separator appended, and then the rest
pub record ArePrefixes (byte : ℕ) (bytes rest : List ℕ) (parts : List (List ℕ)) : Type 0 where
  pub joined : bytes ≡ flat_map (ended byte) parts ++ rest
  pub free : All (IsByteFree byte) parts

pub are_prefixes_nil : (byte : ℕ) (bytes : List ℕ) → ArePrefixes byte bytes bytes []
are_prefixes_nil byte bytes = record { joined = refl; free = All-nil (IsByteFree byte) }

flat_map_ended_snoc : (byte : ℕ) (parts : List (List ℕ)) (part rest : List ℕ) → flat_map (ended byte) parts ++ (part ++ byte ∷ rest) ≡ flat_map (ended byte)
    (parts ++ part ∷ []) ++ rest
flat_map_ended_snoc byte [] part rest = search (rules, common_steps)
flat_map_ended_snoc byte (first ∷ parts) part rest = let more = flat_map_ended_snoc byte parts part rest in search (rules, common_steps)

pub are_prefixes_snoc : (byte : ℕ) (bytes rest : List ℕ) (parts : List (List ℕ)) (part after : List ℕ) → ArePrefixes byte bytes rest parts
    → SplitsAt byte rest part after → ArePrefixes byte bytes after (parts ++ part ∷ [])
are_prefixes_snoc byte bytes rest parts part after prefix splits =
    record {
      joined = prefix.joined ∙ ap (λ (it : List ℕ). flat_map (ended byte) parts ++ it) splits.joined ∙ flat_map_ended_snoc byte parts part after;
      free = All-push (IsByteFree byte) parts part prefix.free splits.first;
    }

pub flat_map_ended_append : (byte : ℕ) (parts others : List (List ℕ)) → flat_map (ended byte) (parts ++ others) ≡ flat_map (ended byte) parts ++ flat_map
    (ended byte) others
flat_map_ended_append byte [] others = refl
flat_map_ended_append byte (part ∷ parts) others = ap (λ (it : List ℕ). ended byte part ++ it) (flat_map_ended_append byte parts others)
    ∙ sym (append_assoc (ended byte part) (flat_map (ended byte) parts) (flat_map (ended byte) others))

-- the first parts and the parts of the rest are the parts of all bytes
pub is_split_at_each_append : (byte : ℕ) (bytes rest : List ℕ) (parts others : List (List ℕ)) → ArePrefixes byte bytes rest parts
    → IsSplitAtEach byte rest others
    → IsSplitAtEach byte bytes (parts ++ others)
is_split_at_each_append byte bytes rest parts others prefix split =
    record {
      joined = ap (ended byte) prefix.joined ∙ append_assoc (flat_map (ended byte) parts) rest (byte ∷ [])
          ∙ ap (λ (it : List ℕ). flat_map (ended byte) parts ++ it) split.joined ∙ sym (flat_map_ended_append byte parts others);
      free = All-append (IsByteFree byte) parts others prefix.free split.free;
    }

-- bytes without the separator are one part
pub is_split_at_each_of_byte_free : (byte : ℕ) (bytes : List ℕ) → IsByteFree byte bytes → IsSplitAtEach byte bytes (bytes ∷ [])
is_split_at_each_of_byte_free byte bytes free = record {
  joined = sym (append-nil (ended byte bytes));
  free =
      All-cons (IsByteFree byte) bytes [] free (All-nil (IsByteFree byte));
}

pub is_split_at_each_snoc : (byte : ℕ) (bytes rest : List ℕ) (parts : List (List ℕ)) → ArePrefixes byte bytes rest parts → IsByteFree byte rest
    → IsSplitAtEach byte bytes (parts ++ rest ∷ [])
is_split_at_each_snoc byte bytes rest parts prefix free = is_split_at_each_append byte bytes rest parts (rest ∷ []) prefix
    (is_split_at_each_of_byte_free byte rest free)

-- ---- existence

ended_ne_nil : (byte : ℕ) (bytes : List ℕ) → ended byte bytes ≢ []
ended_ne_nil byte [] same = cc same
ended_ne_nil byte (x ∷ bytes) same = cc same

-- a byte that is not the separator joins the first part of the bytes after it
split_at_each_cons_exists : (byte x : ℕ) (bytes : List ℕ) (parts : List (List ℕ)) → x ≢ byte → IsSplitAtEach byte bytes parts → (all : List (List ℕ))
    × IsSplitAtEach byte (x ∷ bytes) all
split_at_each_cons_exists byte x bytes [] other split = absurd (ended_ne_nil byte bytes split.joined)
split_at_each_cons_exists byte x bytes (part ∷ parts) other split = (
  (x ∷ part) ∷ parts,
  record {
    joined = ap (λ (it : List ℕ). x ∷ it) split.joined;
    free = All-cons (IsByteFree byte) (x ∷ part) parts (All-cons (λ (it : ℕ). it ≢ byte) x part other (All-head (IsByteFree byte) part parts split.free))
        (All-tail (IsByteFree byte) part parts split.free);
  },
)

-- each byte string splits into parts
pub split_at_each_exists : (byte : ℕ) (bytes : List ℕ) → (parts : List (List ℕ)) × IsSplitAtEach byte bytes parts
split_at_each_exists byte [] = ([] ∷ [], is_split_at_each_of_byte_free byte [] (All-nil (λ (it : ℕ). it ≢ byte)))
split_at_each_exists byte (x ∷ bytes) =
    let (parts, split) = split_at_each_exists byte bytes in
    elim (ℕ_discrete x byte) [
      | yes same ↦ (
        [] ∷ parts,
        record {
          joined = rw same (ap (λ (it : List ℕ). byte ∷ it) split.joined);
          free = All-cons (IsByteFree byte) [] parts
              (All-nil (λ (it : ℕ). it ≢ byte)) split.free;
        },
      )
      | no other ↦ split_at_each_cons_exists byte x bytes parts other split
    ]

-- ---- uniqueness

ended_append : (byte : ℕ) (part rest : List ℕ) → ended byte part ++ rest ≡ part ++ byte ∷ rest
ended_append byte part rest = append_assoc part (byte ∷ []) rest

flat_map_ended_injective : (byte : ℕ) (a b : List (List ℕ)) → All (IsByteFree byte) a → All (IsByteFree byte) b
    → flat_map (ended byte) a ≡ flat_map (ended byte) b → a ≡ b
flat_map_ended_injective byte [] [] free_a free_b same = refl
flat_map_ended_injective byte [] (part ∷ b) free_a free_b same = absurd (no_part part b same)
  where
    no_part : (part : List ℕ) (b : List (List ℕ)) → [] ≡ flat_map (ended byte) (part ∷ b) → ⊥
    no_part [] b same = cc same
    no_part (x ∷ part) b same = cc same
flat_map_ended_injective byte (part ∷ a) [] free_a free_b same = absurd (no_part part a same)
  where
    no_part : (part : List ℕ) (a : List (List ℕ)) → flat_map (ended byte) (part ∷ a) ≡ [] → ⊥
    no_part [] a same = cc same
    no_part (x ∷ part) a same = cc same
flat_map_ended_injective byte (first ∷ a) (second ∷ b) free_a free_b same =
    let split = split_parts_unique byte first (flat_map (ended byte) a) second (flat_map (ended byte) b) (All-head (IsByteFree byte) first a free_a)
    (All-head (IsByteFree byte) second b free_b)
    (sym (ended_append byte first (flat_map (ended byte) a)) ∙ same ∙ ended_append byte second (flat_map (ended byte) b)) in
    let rest = flat_map_ended_injective byte a b (All-tail (IsByteFree byte) first a free_a) (All-tail (IsByteFree byte) second b free_b) split.1 in
    cc (split.0, rest)

pub split_at_each_unique : (byte : ℕ) (bytes : List ℕ) (a b : List (List ℕ)) → IsSplitAtEach byte bytes a → IsSplitAtEach byte bytes b → a ≡ b
split_at_each_unique byte bytes a b first second = flat_map_ended_injective byte a b first.free second.free (sym first.joined ∙ second.joined)
