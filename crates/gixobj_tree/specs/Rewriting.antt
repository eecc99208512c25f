-- Trees that re-encode identically, and entries that round-trip.
use Rattle.std.specs.Prelude.{◌≡◌, ◌<◌, ◌+◌, ◌^◌, ℕ, List}
use Rattle.std.specs.List.{AllZip, concat}
use Rattle.gixobj_hash.specs.declared.hash.kind.Kind.{Kind}
use Rattle.gixobj_hash.specs.ByteStrings.{IsByteFree}
use Rattle.gixobj_tree_entries.specs.Entries.{EntryView}
use Rattle.gixobj_tree_entries.specs.Mode.{encode_mode, old_tree_type}
use Rattle.gixobj_tree_entries.specs.TreeDecoding.{DecodesToEntry, IsIdOf}

-- the bytes decode to the entry, and the digits of its mode are those that the encoder writes
pub record DecodesToCanonicalEntry (kind : Kind) (e : EntryView) (bytes : List ℕ) : Type 0 where
  pub is : DecodesToEntry kind e bytes
  pub own : is.digits ≡ encode_mode e.mode

-- the bytes decode to the tree, and the digits of each mode are those that the encoder writes
abbrev pub HasCanonicalModes : Kind → List ℕ → List EntryView → Type 0
HasCanonicalModes kind bytes entries = (encodings : List (List ℕ)) × (bytes ≡ concat encodings)
    × AllZip (DecodesToCanonicalEntry kind) entries encodings

-- the entry decodes to itself after encoding; its name has no zero byte, and its id is of this kind; its mode has 16
-- bits, is not 0, and is not an old tree's with other bits
pub record RoundTrips (kind : Kind) (e : EntryView) : Type 0 where
  pub name : IsByteFree 0 e.name
  pub id : IsIdOf kind e.id
  pub some : 0 < e.mode
  pub bits : e.mode < 2 ^ 16
  pub is_distinguished : ¬ ((old_tree_type < e.mode) × (e.mode < old_tree_type + 0o10000))
