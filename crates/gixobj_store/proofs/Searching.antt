-- Search of an iterator over entries for a name.
use Rattle.std.proofs.Common.{◌≡◌, ◌≤◌, ℕ, List, arith, length, refl}
use Rattle.std.specs.Prelude.{⊤, Some, None, Result, Ok, Err}
use Rattle.gixobj_parse.proofs.Readers as readers
use Rattle.gixobj_hash.specs.Runs.{broken, complete}
use Rattle.gixobj_hash.specs.declared.decode.Error.{Error}
use Rattle.gixobj_hash.specs.declared.decode.Error.TheVariants.{Malformed, OutOfMemory}
use Rattle.gixobj_hash.specs.declared.hash.kind.Kind.{Kind}
use Rattle.gixobj_tree_entries.specs.Entries.{EntryView}
use Rattle.gixobj_tree_entries.proofs.OneEntry.{entry_rest_len_lt}
use Rattle.gixobj_tree_entries.specs.TreeDecoding.{EntryStep}
use Rattle.gixobj_tree_entries.specs.EntryViews.{entry_view}
use Rattle.gixobj_tree_entries.specs.declared.entry_ref.EntryRef.{EntryRef}
use Rattle.gixobj_store.proofs.Paths.{no_entry_named_of_search}
use Rattle.gixobj_store.specs.EntrySteps.{NextEntry, NoEntryAllocates, remaining_tree_bytes, tree_reader_state}
use Rattle.gixobj_store.specs.Lookups.{HasFirstNamed, HasNoEntryNamed, IsNamed, Name}
use Rattle.gixobj_store.specs.declared.tree.TreeRefIter.{TreeRefIter}

pub remaining_len_le : (kind : Kind) (before : ⊤) (input : List ℕ) (e : EntryView) (following : ⊤) (rest : List ℕ)
    → EntryStep kind before input e following rest
    → length rest ≤ length input
remaining_len_le kind before input e following rest has = let less = entry_rest_len_lt kind input e rest has in omega (arith, less)

-- the iterator has consumed entries of other names since this start
abbrev pub Searches : Name → TreeRefIter → TreeRefIter → Type 0
Searches name = readers.SearchInvariant tree_reader_state EntryStep NoEntryAllocates entry_view (λ entry. ⊤) remaining_len_le (IsNamed name)

pub searches_nil : (name : Name) (reader : TreeRefIter) → Searches name reader reader
searches_nil name = readers.search_start tree_reader_state EntryStep NoEntryAllocates entry_view (λ entry. ⊤) remaining_len_le (IsNamed name)

pub searches_snoc : (name : Name) (reader at after : TreeRefIter) (item : Result EntryRef Error) (entry : EntryRef) → Searches name reader at
    → NextEntry at (Some item) after → item ≡ Ok entry → ¬ IsNamed name (entry_view entry) → Searches name reader after
searches_snoc name = readers.search_on tree_reader_state EntryStep NoEntryAllocates entry_view (λ entry. ⊤) remaining_len_le (IsNamed name)

pub has_first_named_of_search : (name : Name) (reader at after : TreeRefIter) (item : Result EntryRef Error) (entry : EntryRef) → Searches name reader at
    → NextEntry at (Some item) after → item ≡ Ok entry → IsNamed name (entry_view entry)
    → HasFirstNamed reader.hash_kind (remaining_tree_bytes reader) name (entry_view entry)
has_first_named_of_search name reader at after item entry searches gives ok is = (
  readers.search_first tree_reader_state EntryStep NoEntryAllocates entry_view (λ entry. ⊤) remaining_len_le
      (IsNamed name) reader at after item entry searches gives
      ok,
  is,
)

pub no_entry_named_to_end : (name : Name) (reader at after : TreeRefIter) → Searches name reader at → NextEntry at None after
    → HasNoEntryNamed reader.hash_kind (remaining_tree_bytes reader) name
no_entry_named_to_end name reader at after searches gives =
    no_entry_named_of_search reader.hash_kind (remaining_tree_bytes reader) name complete
    (readers.search_ends tree_reader_state EntryStep NoEntryAllocates entry_view (λ entry. ⊤) remaining_len_le (IsNamed name) reader at after searches gives)

pub no_entry_named_before_damage : (name : Name) (reader at after : TreeRefIter) (item : Result EntryRef Error) (error : Error) → Searches name reader at
    → NextEntry at (Some item) after → item ≡ Err error → HasNoEntryNamed reader.hash_kind (remaining_tree_bytes reader) name
no_entry_named_before_damage name reader at after item Malformed searches gives err =
    no_entry_named_of_search reader.hash_kind (remaining_tree_bytes reader) name broken
    (readers.search_faults tree_reader_state EntryStep NoEntryAllocates entry_view (λ entry. ⊤) remaining_len_le (IsNamed name) reader at after item Malformed
    Malformed refl searches gives err)
no_entry_named_before_damage name reader at after item OutOfMemory searches gives err =
    absurd (readers.search_faults tree_reader_state EntryStep NoEntryAllocates entry_view (λ entry. ⊤) remaining_len_le
    (IsNamed name) reader at after item OutOfMemory
    OutOfMemory refl searches gives err).3
