-- Results of the calls about the entries of trees.
use Rattle.std.specs.Prelude.{◌≡◌, ◌<◌, ◌≤◌, ◌+◌, ◌⊎◌, ℕ, List, Option, Some, None, drop, length}
use Rattle.gixobj_c_codes.specs.Codes.{at_end, bad_offset, done, malformed, unknown_code}
use Rattle.gixobj_c.specs.Spans.{IsSpanBefore}
use Rattle.gixobj_c.specs.declared.trees.TreeEntry.{TreeEntry}
use Rattle.gixobj_hash.specs.Hash.{id_bytes}
use Rattle.gixobj_hash.specs.declared.hash.kind.Kind.{Kind}
use Rattle.gixobj_tree_entries.specs.Mode.{mode_value}
use Rattle.gixobj_tree_entries.specs.Entries.{EntryView}
use Rattle.gixobj_tree_entries.specs.TreeDecoding.{BeginsWithEntry, BeginsWithNoEntry}

-- an entry of this mode begins at the offset, and the rest begins at `next`: directly before it is the id, and before
-- that, with one byte between them, the name
pub record IsEntryAt (hash : Kind) (tree : List ℕ) (offset : ℕ) (out : TreeEntry) : Type 0 where
  pub entry : EntryView
  pub begins : BeginsWithEntry hash (drop offset tree) entry (drop out.next tree)
  pub within : out.next ≤ length tree
  pub mode : out.mode ≡ mode_value entry.mode
  pub name : IsSpanBefore tree entry.name (length (drop out.next tree) + length (id_bytes entry.id) + 1) out.name
  pub id : IsSpanBefore tree (id_bytes entry.id) (length (drop out.next tree)) out.id

-- why no entry is decoded at this offset
abbrev pub IsEntryStatus : Kind → List ℕ → ℕ → ℕ → Type 0
IsEntryStatus hash tree offset status = ((status ≡ at_end) × (offset ≡ length tree))
    ⊎ (((status ≡ malformed) × (offset < length tree) × BeginsWithNoEntry hash (drop offset tree))
    ⊎ ((status ≡ bad_offset) × (length tree < offset)))

-- the entry at this offset, or why there is none
abbrev pub IsTreeEntryCall : Option Kind → List ℕ → ℕ → TreeEntry → TreeEntry → ℕ → Type 0
IsTreeEntryCall (Some hash) tree offset before after status =
    ((status ≡ done) × IsEntryAt hash tree offset after)
    ⊎ (IsEntryStatus hash tree offset status × (after ≡ before))
IsTreeEntryCall None tree offset before after status = (status ≡ unknown_code) × (after ≡ before)
