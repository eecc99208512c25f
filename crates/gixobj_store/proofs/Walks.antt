-- Iteration over all entries of a tree.
use Rattle.std.proofs.Common.{◌++◌, ◌∷◌, List, [], ℕ, Ok, Err, Some, None, ap, refl, subst, sym, ◌∙◌}
use Rattle.std.proofs.lemmas.List.{append-nil, append_assoc}
use Rattle.std.specs.Prelude.{⊤, Option, Result}
use Rattle.gixobj_hash.proofs.Runs.{begins_with_pieces_snoc, yields_of_begins_with_pieces}
use Rattle.gixobj_parse.specs.Iterators.{ReaderState}
use Rattle.gixobj_hash.specs.Runs.{broken, complete, yields_end, yields_error}
use Rattle.gixobj_hash.specs.declared.decode.Error.{Error}
use Rattle.gixobj_hash.specs.declared.decode.Error.TheVariants.{Malformed, OutOfMemory}
use Rattle.gixobj_hash.specs.declared.hash.kind.Kind.{Kind}
use Rattle.gixobj_tree_entries.specs.Entries.{EntryView}
use Rattle.gixobj_tree_entries.specs.TreeDecoding.{EntryStep, YieldsEntries}
use Rattle.gixobj_tree_entries.specs.EntryViews.{entry_view}
use Rattle.gixobj_tree_entries.specs.declared.entry_ref.EntryRef.{EntryRef}
use Rattle.gixobj_store.specs.EntrySteps.{NextEntry, HasConsumedEntries, IsAtEntry, IsTail, remaining_tree_bytes, tree_reader_state}
use Rattle.gixobj_store.specs.declared.tree.TreeRefIter.{TreeRefIter}

pub has_consumed_nil : (kind : Kind) (content : List ℕ) (reader : TreeRefIter) → IsAtEntry kind content reader → HasConsumedEntries kind content [] reader
has_consumed_nil kind content reader start = ((refl, sym (ap (λ (it : ReaderState Kind ⊤). it.bytes) start)), ap (λ (it : ReaderState Kind ⊤). it.kind) start)

pub has_consumed_snoc : (kind : Kind) (content : List ℕ) (entries : List EntryView) (at after : TreeRefIter) (entry : EntryRef)
    → HasConsumedEntries kind content entries at → NextEntry at (Some (Ok entry)) after
    → HasConsumedEntries kind content (entries ++ entry_view entry ∷ []) after
has_consumed_snoc kind content entries at after entry (consumed, same_kind) (has, kept, such) =
    let here = subst (λ (it : Kind). EntryStep it tt (tree_reader_state at).bytes (entry_view entry) tt (tree_reader_state after).bytes) same_kind has in (
      begins_with_pieces_snoc (EntryStep kind) tt tt tt content (tree_reader_state at).bytes (tree_reader_state after).bytes entries
          (entry_view entry) consumed here,
      kept
          ∙ same_kind,
    )

pub yields_entries_complete : (kind : Kind) (content : List ℕ) (entries : List EntryView) (at after : TreeRefIter) → HasConsumedEntries kind content entries at
    → NextEntry at None after → YieldsEntries kind content entries complete
yields_entries_complete kind content entries at after (consumed, same_kind) gives =
    let end : YieldsEntries kind (tree_reader_state at).bytes [] complete = rw gives.0 (yields_end tt) in
    yields_of_begins_with_pieces (EntryStep kind) tt tt content (tree_reader_state at).bytes entries complete consumed end

next_entry_error_is_malformed : (at after : TreeRefIter) (error : Error) → NextEntry at (Some (Err error)) after → NextEntry at (Some (Err Malformed)) after
next_entry_error_is_malformed at after Malformed gives = gives
next_entry_error_is_malformed at after OutOfMemory gives = absurd gives.1

pub yields_entries_broken : (kind : Kind) (content : List ℕ) (entries : List EntryView) (at after : TreeRefIter) (error : Error)
    → HasConsumedEntries kind content entries at
    → NextEntry at (Some (Err error)) after → YieldsEntries kind content entries broken
yields_entries_broken kind content entries at after error (consumed, same_kind) gives =
    let rejected = next_entry_error_is_malformed at after error gives in
    let none = subst (λ (it : Kind). (e : EntryView) (following : ⊤) (rest : List ℕ) → EntryStep it tt (tree_reader_state at).bytes e following rest
    → ⊥) same_kind rejected.1 in
    let stop : YieldsEntries kind (tree_reader_state at).bytes [] broken = yields_error tt (tree_reader_state at).bytes rejected.0 none in
    yields_of_begins_with_pieces (EntryStep kind) tt tt content (tree_reader_state at).bytes entries broken consumed stop

-- ---- the remaining bytes are a suffix

pub is_tail_refl : (kind : Kind) (content : List ℕ) (reader : TreeRefIter) → IsAtEntry kind content reader → IsTail content (remaining_tree_bytes reader)
is_tail_refl kind content reader start = ([], sym (ap (λ (it : ReaderState Kind ⊤). it.bytes) start))

is_tail_nil : (content : List ℕ) → IsTail content []
is_tail_nil content = (content, sym (append-nil content))

pub is_tail_after_entry : (content : List ℕ) (at after : TreeRefIter) (item : Option (Result EntryRef Error)) → IsTail content (remaining_tree_bytes at)
    → NextEntry at item after → IsTail content (remaining_tree_bytes after)
is_tail_after_entry content at after (Some (Ok entry)) (prefix, joined) (has, kept, such) =
    (prefix ++ has.0, joined ∙ ap (λ (it : List ℕ). prefix ++ it) has.1 ∙ sym (append_assoc prefix has.0 (remaining_tree_bytes after)))
is_tail_after_entry content at after (Some (Err error)) is_tail gives = rw gives.2 (is_tail_nil content)
is_tail_after_entry content at after None is_tail gives = rw gives.1 (is_tail_nil content)
