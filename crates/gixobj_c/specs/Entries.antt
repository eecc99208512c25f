-- Results of the call about several entries of a tree.
use Rattle.std.specs.Prelude.{◌≡◌, ◌<◌, ◌⊎◌, ℕ, List, [], ◌∷◌, Option, Some, None, drop, length, take}
use Rattle.gixobj_c_codes.specs.Codes.{done, unknown_code}
use Rattle.gixobj_c.specs.Trees.{IsEntryAt, IsEntryStatus}
use Rattle.gixobj_c.specs.declared.trees.TreeEntry.{TreeEntry}
use Rattle.gixobj_hash.specs.declared.hash.kind.Kind.{Kind}

-- these entries follow each other from the offset on, and the bytes after them begin at `next`
abbrev pub AreEntriesFrom : Kind → List ℕ → ℕ → List TreeEntry → ℕ → Type 0
AreEntriesFrom hash tree offset [] next = next ≡ offset
AreEntriesFrom hash tree offset (entry ∷ entries) next =
    IsEntryAt hash tree offset entry × AreEntriesFrom hash tree entry.next entries next

-- the first `count` elements are entries from the offset on, and the others are unchanged. Either all elements are
-- entries, or the status says why none follows them
pub record AreFilled (hash : Kind) (tree : List ℕ) (offset : ℕ) (before after : List TreeEntry) (count status : ℕ)
    : Type 0 where
  pub next : ℕ
  pub entries : AreEntriesFrom hash tree offset (take count after) next
  pub others : drop count after ≡ drop count before
  pub ends : ((status ≡ done) × (count ≡ length after))
      ⊎ (IsEntryStatus hash tree next status × (count < length after))

-- the entries from this offset on; an unknown number leaves all unchanged
abbrev pub IsTreeEntriesCall : Option Kind → List ℕ → ℕ → List TreeEntry → List TreeEntry → ℕ → ℕ → ℕ → Type 0
IsTreeEntriesCall (Some hash) tree offset before after count_before count status =
    AreFilled hash tree offset before after count status
IsTreeEntriesCall None tree offset before after count_before count status =
    (status ≡ unknown_code) × (after ≡ before) × (count ≡ count_before)
