-- An input begins with at most one entry, of at least 22 bytes; used by the proofs of `decode_entry` and of lookups.
use Rattle.std.proofs.Common.{◌≡◌, ◌≢◌, ◌<◌, ◌≤◌, ℕ, List, [], ◌∷◌, ◌++◌, ap, append_assoc, arith, length, length-append, refl, subst, sym, ◌∙◌}
use Rattle.std.proofs.lemmas.List.{get_or_append_left}
use Rattle.std.specs.Prelude.{get_or}
use Rattle.gixobj_hash.specs.Hash.{hash_len, id_bytes}
use Rattle.gixobj_hash.specs.declared.hash.kind.Kind.{Kind}
use Rattle.gixobj_hash.specs.declared.hash.kind.Kind.TheVariants as hash
use Rattle.gixobj_hash.specs.declared.hash.object_id.ObjectId.{ObjectId}
use Rattle.gixobj_hash.specs.declared.hash.object_id.ObjectId.TheVariants as id
use Rattle.gixobj_hash.proofs.Splits.{no_split_of_byte_free, split_parts_unique}
use Rattle.gixobj_hash.specs.ByteStrings.{IsByteFree, SplitsAt}
use Rattle.gixobj_tree_entries.proofs.EncodedModes.{octal_digits_space_free, split_at_space_unique}
use Rattle.gixobj_tree_entries.specs.Entries.{EntryView, entry_of}
use Rattle.gixobj_tree_entries.specs.Mode.{BeginsWithMode, ObeysByteSix, DecodesToMode, mode_of_digits}
use Rattle.gixobj_tree_entries.specs.TreeDecoding.{BeginsWithEntry, BeginsWithId, BeginsWithNoEntry, IsIdOf}

-- ---- ids

twenty_le_hash_len : (kind : Kind) → 20 ≤ hash_len kind
twenty_le_hash_len hash.Sha1 = omega arith
twenty_le_hash_len hash.Sha256 = omega arith

id_bytes_injective : (kind : Kind) (a b : ObjectId) → IsIdOf kind a → IsIdOf kind b → id_bytes a ≡ id_bytes b → a ≡ b
id_bytes_injective kind (id.Sha1 x) (id.Sha1 y) p q same = ap id.Sha1 same
id_bytes_injective kind (id.Sha256 x) (id.Sha256 y) p q same = ap id.Sha256 same
id_bytes_injective kind (id.Sha1 x) (id.Sha256 y) p q same = cc (p.0, q.0)
id_bytes_injective kind (id.Sha256 x) (id.Sha1 y) p q same = cc (p.0, q.0)

append_split_unique : (a x b y : List ℕ) → length a ≡ length b → a ++ x ≡ b ++ y → (a ≡ b) × (x ≡ y)
append_split_unique [] x [] y len same = (refl, same)
append_split_unique [] x (second ∷ b) y len same = cc len
append_split_unique (first ∷ a) x [] y len same = cc len
append_split_unique (first ∷ a) x (second ∷ b) y len same =
    let lengths : length a ≡ length b = omega (arith, len) in
    let tails : a ++ x ≡ b ++ y = cc same in
    let rest = append_split_unique a x b y lengths tails in
    let heads : first ≡ second = cc same in
    (cc (heads, rest.0), rest.1)

-- ---- an entry at the beginning of an input, by its parts

-- the input is these digits, a space, the name, a zero byte, the id, and the rest
pub record Parted (kind : Kind) (input : List ℕ) (e : EntryView) (rest : List ℕ) : Type 0 where
  pub digits : List ℕ
  pub joined : input ≡ digits ++ 32 ∷ (e.name ++ 0 ∷ (id_bytes e.id ++ rest))
  pub mode : DecodesToMode digits e.mode
  pub byte_six : ObeysByteSix input digits
  pub name : IsByteFree 0 e.name
  pub id : IsIdOf kind e.id

encoded_entry_append : (digits name id rest : List ℕ) → (digits ++ 32 ∷ (name ++ 0 ∷ id)) ++ rest ≡ digits ++ 32 ∷ (name ++ 0 ∷ (id ++ rest))
encoded_entry_append digits name id rest = append_assoc digits (32 ∷ (name ++ 0 ∷ id)) rest
    ∙ ap (λ (it : List ℕ). digits ++ 32 ∷ it) (append_assoc name (0 ∷ id) rest)

twenty_two_le_entry_len : (digits name id : List ℕ) → 20 ≤ length id → 22 ≤ length (digits ++ 32 ∷ (name ++ 0 ∷ id))
twenty_two_le_entry_len digits name id len = omega (arith, len, length-append digits (32 ∷ (name ++ 0 ∷ id)), length-append name (0 ∷ id))

twenty_le_id_len : (kind : Kind) (it : ObjectId) → IsIdOf kind it → 20 ≤ length (id_bytes it)
twenty_le_id_len kind it is = (let some = twenty_le_hash_len kind in omega (arith, some, is.1))

-- byte 6 of an input that begins with an entry is that of the entry
six_digits_append : (content rest digits : List ℕ) → 22 ≤ length content → ObeysByteSix content digits → ObeysByteSix (content ++ rest) digits
six_digits_append content rest digits len six = λ is other.
    let at_six : get_or (content ++ rest) 6 0 ≡ get_or content 6 0 = get_or_append_left content rest 0 6 (omega (arith, len)) in
    let at_five : get_or (content ++ rest) 5 0 ≡ get_or content 5 0 = get_or_append_left content rest 0 5 (omega (arith, len)) in
    six (sym at_six ∙ is) (λ five. other (at_five ∙ five))

six_digits_of_append : (content rest digits : List ℕ) → 22 ≤ length content → ObeysByteSix (content ++ rest) digits → ObeysByteSix content digits
six_digits_of_append content rest digits len six = λ is other.
    let at_six : get_or (content ++ rest) 6 0 ≡ get_or content 6 0 = get_or_append_left content rest 0 6 (omega (arith, len)) in
    let at_five : get_or (content ++ rest) 5 0 ≡ get_or content 5 0 = get_or_append_left content rest 0 5 (omega (arith, len)) in
    six (at_six ∙ is) (λ five. other (sym at_five ∙ five))

pub parted_of_begins : (kind : Kind) (input : List ℕ) (e : EntryView) (rest : List ℕ) → BeginsWithEntry kind input e rest → Parted kind input e rest
parted_of_begins kind input e rest (content, joined, is) =
    let len : 22 ≤ length content = rw (is.joined) (twenty_two_le_entry_len is.digits e.name (id_bytes e.id) (twenty_le_id_len kind e.id is.id)) in
    record {
      digits = is.digits;
      joined = joined ∙ ap (λ (it : List ℕ). it ++ rest) is.joined ∙ encoded_entry_append is.digits e.name (id_bytes e.id) rest;
      mode = is.mode;
      byte_six = rw joined (six_digits_append content rest is.digits len is.byte_six);
      name = is.name;
      id = is.id;
    }

pub begins_of_parted : (kind : Kind) (input : List ℕ) (e : EntryView) (rest : List ℕ) → Parted kind input e rest → BeginsWithEntry kind input e rest
begins_of_parted kind input e rest p =
    let content = p.digits ++ 32 ∷ (e.name ++ 0 ∷ id_bytes e.id) in
    let entire : input ≡ content ++ rest = p.joined ∙ sym (encoded_entry_append p.digits e.name (id_bytes e.id) rest) in
    let len = twenty_two_le_entry_len p.digits e.name (id_bytes e.id) (twenty_le_id_len kind e.id p.id) in
    let P : List ℕ → Type 0 = λ it. ObeysByteSix it p.digits in (
      content,
      entire,
      record {
        digits = p.digits;
        joined = refl;
        mode = p.mode;
        byte_six = six_digits_of_append content rest p.digits len (subst P entire p.byte_six);
        name = p.name;
        id = p.id;
      },
    )

-- ---- one entry

pub entry_unique : (kind : Kind) (input : List ℕ) (a b : EntryView) (x y : List ℕ) → BeginsWithEntry kind input a x → BeginsWithEntry kind input b y → (a ≡ b)
    × (x ≡ y)
entry_unique kind input a b x y first second =
    let p = parted_of_begins kind input a x first in
    let q = parted_of_begins kind input b y second in
    let parts = split_parts_unique 32 p.digits _ q.digits _ (octal_digits_space_free p.digits p.mode.octal) (octal_digits_space_free q.digits q.mode.octal)
    (sym p.joined ∙ q.joined) in
    let named = split_parts_unique 0 a.name _ b.name _ p.name q.name parts.1 in
    let lengths : length (id_bytes a.id) ≡ length (id_bytes b.id) = p.id.1 ∙ sym q.id.1 in
    let ids = append_split_unique (id_bytes a.id) x (id_bytes b.id) y lengths named.1 in
    let modes : a.mode ≡ b.mode = p.mode.value ∙ ap mode_of_digits parts.0 ∙ sym q.mode.value in
    let id : a.id ≡ b.id = id_bytes_injective kind a.id b.id p.id q.id ids.0 in (
      ap (λ (mode : ℕ). entry_of mode a.name a.id) modes ∙ ap (λ (name : List ℕ). entry_of b.mode name a.id) named.0
          ∙ ap (λ (it : ObjectId). entry_of b.mode b.name it) id,
      ids.1,
    )

-- ---- results of the decoder

pub entry_rest_len_lt : (kind : Kind) (input : List ℕ) (e : EntryView) (rest : List ℕ) → BeginsWithEntry kind input e rest → length rest < length input
entry_rest_len_lt kind input e rest (content, joined, is) =
    let len : 22 ≤ length content = rw (is.joined) (twenty_two_le_entry_len is.digits e.name (id_bytes e.id) (twenty_le_id_len kind e.id is.id)) in
    omega (arith, len, ap length joined, length-append content rest)

-- a decoded mode, name and id are an entry
pub entry_of_parts : (kind : Kind) (input after from_name name from_id rest : List ℕ) (mode : ℕ) (it : ObjectId) → BeginsWithMode input mode after
    → after ≡ 32 ∷ from_name → SplitsAt 0 from_name name from_id
    → BeginsWithId kind from_id it rest → BeginsWithEntry kind input (entry_of mode name it) rest
entry_of_parts kind input after from_name name from_id rest mode it begun spaced split has =
    let tail : from_name ≡ name ++ 0 ∷ (id_bytes it ++ rest) = split.joined ∙ ap (λ (more : List ℕ). name ++ 0 ∷ more) has.0 in
    begins_of_parted kind input (entry_of mode name it) rest (record {
      digits = begun.digits;
      joined = begun.joined ∙ ap (λ (more : List ℕ). begun.digits ++ more) (spaced ∙ ap (λ (more : List ℕ). 32 ∷ more) tail);
      mode = begun.decodes;
      byte_six = begun.byte_six;
      name = split.first;
      id = has.1;
    })

-- an input that does not begin with a mode does not begin with an entry
pub no_entry_without_mode : (kind : Kind) (input : List ℕ) → ((mode : ℕ) (rest : List ℕ) → BeginsWithMode input mode rest → ⊥) → BeginsWithNoEntry kind input
no_entry_without_mode kind input none = λ e rest has.
    let p = parted_of_begins kind input e rest has in
    none e.mode (32 ∷ (e.name ++ 0 ∷ (id_bytes e.id ++ rest))) (mode_read kind input e rest p)
  where
    filled : (digits tail : List ℕ) → digits ++ 32 ∷ tail ≢ []
    filled [] tail = λ bare. cc bare
    filled (digit ∷ digits) tail = λ bare. cc bare

    mode_read : (kind : Kind) (input : List ℕ) (e : EntryView) (rest : List ℕ) → Parted kind input e rest
        → BeginsWithMode input e.mode (32 ∷ (e.name ++ 0 ∷ (id_bytes e.id ++ rest)))
    mode_read kind input e rest p =
        record {
          digits = p.digits;
          some = λ bare. filled p.digits _ (sym p.joined ∙ bare);
          joined = p.joined;
          ends = refl;
          decodes = p.mode;
          byte_six = p.byte_six;
        }

-- a space and the name follow the mode of an entry
after_mode_eq_space_and_name : (kind : Kind) (input after : List ℕ) (mode : ℕ) (e : EntryView) (rest : List ℕ) → BeginsWithMode input mode after
    → Parted kind input e rest
    → after ≡ 32 ∷ (e.name ++ 0 ∷ (id_bytes e.id ++ rest))
after_mode_eq_space_and_name kind input after mode e rest begun p =
    (split_at_space_unique begun.digits after p.digits (32 ∷ (e.name ++ 0 ∷ (id_bytes e.id ++ rest))) (octal_digits_space_free begun.digits begun.decodes.octal)
    (octal_digits_space_free p.digits p.mode.octal) begun.ends refl (sym begun.joined ∙ p.joined)).1

pub no_entry_without_space : (kind : Kind) (input after : List ℕ) (mode : ℕ) → BeginsWithMode input mode after → ((tail : List ℕ) → after ≢ 32 ∷ tail)
    → BeginsWithNoEntry kind input
no_entry_without_space kind input after mode begun none = λ e rest has.
    none (e.name ++ 0 ∷ (id_bytes e.id ++ rest))
    (after_mode_eq_space_and_name kind input after mode e rest begun (parted_of_begins kind input e rest has))

-- the name, a zero byte, the id and the rest follow the space
from_name_eq_name_and_id : (kind : Kind) (input after from_name : List ℕ) (mode : ℕ) (e : EntryView) (rest : List ℕ) → BeginsWithMode input mode after
    → after ≡ 32 ∷ from_name → Parted kind input e rest
    → from_name ≡ e.name ++ 0 ∷ (id_bytes e.id ++ rest)
from_name_eq_name_and_id kind input after from_name mode e rest begun spaced p =
    let same : 32 ∷ from_name ≡ 32 ∷ (e.name ++ 0 ∷ (id_bytes e.id ++ rest)) = sym spaced ∙ after_mode_eq_space_and_name kind input after mode e rest begun p in
    cc same

pub no_entry_without_name : (kind : Kind) (input after from_name : List ℕ) (mode : ℕ) → BeginsWithMode input mode after → after ≡ 32 ∷ from_name
    → IsByteFree 0 from_name
    → BeginsWithNoEntry kind input
no_entry_without_name kind input after from_name mode begun spaced free = λ e rest has.
    let same = from_name_eq_name_and_id kind input after from_name mode e rest begun spaced (parted_of_begins kind input e rest has) in
    no_split_of_byte_free 0 e.name (id_bytes e.id ++ rest) (subst (IsByteFree 0) same free)

pub no_entry_without_id : (kind : Kind) (input after from_name name from_id : List ℕ) (mode : ℕ) → BeginsWithMode input mode after → after ≡ 32 ∷ from_name
    → SplitsAt 0 from_name name from_id → length from_id < hash_len kind
    → BeginsWithNoEntry kind input
no_entry_without_id kind input after from_name name from_id mode begun spaced split short = λ e rest has.
    let p = parted_of_begins kind input e rest has in
    let same = from_name_eq_name_and_id kind input after from_name mode e rest begun spaced p in
    let parts = split_parts_unique 0 name from_id e.name (id_bytes e.id ++ rest) split.first p.name (sym split.joined ∙ same) in
    omega (arith, short, p.id.1, ap length parts.1, length-append (id_bytes e.id) rest)
