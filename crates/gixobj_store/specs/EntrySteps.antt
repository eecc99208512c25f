-- Steps of the iterator over tree entries (gitdatamodel, "trees").
use Rattle.std.specs.Prelude.{◌≡◌, ◌++◌, ℕ, List, Option, Result, length, ⊤}
use Rattle.std.specs.Iterator.{Count, at_most}
use Rattle.gixobj_parse.specs.Iterators.{NextPiece, ReaderState}
use Rattle.gixobj_hash.specs.Runs as runs
use Rattle.gixobj_hash.specs.declared.decode.Error.{Error}
use Rattle.gixobj_hash.specs.declared.hash.kind.Kind.{Kind}
use Rattle.gixobj_tree_entries.specs.Entries.{EntryView}
use Rattle.gixobj_tree_entries.specs.TreeDecoding.{EntryStep}
use Rattle.gixobj_tree_entries.specs.EntryViews.{entry_view}
use Rattle.gixobj_tree_entries.specs.declared.entry_ref.EntryRef.{EntryRef}
use Rattle.gixobj_store.specs.declared.tree.TreeRefIter.{TreeRefIter}

-- the remaining bytes of an iterator
abbrev pub remaining_tree_bytes : TreeRefIter → List ℕ
remaining_tree_bytes reader = reader.bytes.now

-- the state of an iterator: its hash kind and its remaining bytes, with one state before each entry
abbrev pub tree_reader_state : TreeRefIter → ReaderState Kind ⊤
tree_reader_state reader = record { kind = reader.hash_kind; state = tt; bytes = remaining_tree_bytes reader }

-- the iterator is before this content of a tree, whose ids have this hash kind
abbrev pub IsAtEntry : Kind → List ℕ → TreeRefIter → Type 0
IsAtEntry kind content reader = tree_reader_state reader ≡ record { kind = kind; state = tt; bytes = content }

-- at most as many entries remain as bytes remain
abbrev pub remaining_entry_count : TreeRefIter → Count
remaining_entry_count reader = at_most (length (remaining_tree_bytes reader))

-- no entry allocates
abbrev pub NoEntryAllocates : Kind → ⊤ → List ℕ → Type 0
NoEntryAllocates kind before input = ⊥

-- one call yields the next entry; or an error, after which no bytes remain; or none, if no bytes remain
abbrev pub NextEntry : TreeRefIter → Option (Result EntryRef Error) → TreeRefIter → Type 0
NextEntry = NextPiece tree_reader_state EntryStep NoEntryAllocates entry_view (λ entry. ⊤)

-- an iterator over this content has consumed these entries
abbrev pub HasConsumedEntries : Kind → List ℕ → List EntryView → TreeRefIter → Type 0
HasConsumedEntries kind content entries reader = runs.BeginsWithPieces (EntryStep kind) tt content entries tt
    (remaining_tree_bytes reader) × ((tree_reader_state reader).kind ≡ kind)

-- the content ends with this tail
abbrev pub IsTail : List ℕ → List ℕ → Type 0
IsTail content tail = (prefix : List ℕ) × (content ≡ prefix ++ tail)
