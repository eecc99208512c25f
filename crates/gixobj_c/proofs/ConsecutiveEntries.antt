-- Entries that follow each other.
use Rattle.std.proofs.Common.{◌≡◌, ◌+◌, ◌<◌, ◌≤◌, ℕ, List, [], ◌∷◌, ◌++◌, ap, arith, drop, inl, inr, length, refl, slice_set, subst, sym, take, ◌∙◌}
use Rattle.std.proofs.lemmas.Grind.{take-set_at}
use Rattle.std.proofs.lemmas.List.{drop-drop, drop-set-lt, length-set}
use Rattle.std.specs.Prelude.{Some}
use Rattle.gixobj_c.specs.Entries.{AreEntriesFrom}
use Rattle.gixobj_c.specs.Trees.{IsEntryAt, IsTreeEntryCall, IsEntryStatus}
use Rattle.gixobj_c.specs.declared.trees.TreeEntry.{TreeEntry}
use Rattle.gixobj_hash.specs.declared.hash.kind.Kind.{Kind}

pub entries_snoc : (hash : Kind) (tree : List ℕ) (offset next : ℕ) (entries : List TreeEntry) (entry : TreeEntry) → AreEntriesFrom hash tree offset entries next
    → IsEntryAt hash tree next entry → AreEntriesFrom hash tree offset (entries ++ entry ∷ []) entry.next
entries_snoc hash tree offset next [] entry are is = (subst (λ (n : ℕ). IsEntryAt hash tree n entry) are is, refl)
entries_snoc hash tree offset next (first ∷ entries) entry are is = (are.0, entries_snoc hash tree first.next next entries entry are.1 is)

pub entry_of_done : (hash : Kind) (tree : List ℕ) (offset : ℕ) (before after : TreeEntry) (status : ℕ)
    → IsTreeEntryCall (Some hash) tree offset before after status
    → status ≡ 0 → IsEntryAt hash tree offset after
entry_of_done hash tree offset before after status (inl (zero, is)) same = is
entry_of_done hash tree offset before after status (inr (inl (one, end), kept)) same = absurd (cc (one, same))
entry_of_done hash tree offset before after status (inr (inr (inl (two, less, none)), kept)) same = absurd (cc (two, same))
entry_of_done hash tree offset before after status (inr (inr (inr (six, less)), kept)) same = absurd (cc (six, same))

pub status_of_failure : (hash : Kind) (tree : List ℕ) (offset : ℕ) (before after : TreeEntry) (status : ℕ)
    → IsTreeEntryCall (Some hash) tree offset before after status
    → (status ≡ 0 → ⊥) → IsEntryStatus hash tree offset status
status_of_failure hash tree offset before after status (inl (zero, is)) other = absurd (other zero)
status_of_failure hash tree offset before after status (inr (is, kept)) other = is

pub filled_next : (hash : Kind) (tree : List ℕ) (offset next i : ℕ) (out old : List TreeEntry) (entry : TreeEntry)
    → AreEntriesFrom hash tree offset (take i out) next
    → drop i out ≡ drop i old → i < length out → IsEntryAt hash tree next entry
    → AreEntriesFrom hash tree offset (take (i + 1) (slice_set out i entry)) entry.next
    × (drop (i + 1) (slice_set out i entry) ≡ drop (i + 1) old) × (i + 1 ≤ length (slice_set out i entry))
filled_next hash tree offset next i out old entry are others less is =
    let tail : drop (i + 1) (slice_set out i entry) ≡ drop (i + 1) out = drop-set-lt (i + 1) out i entry (omega arith) in
    let same : drop (i + 1) out ≡ drop (i + 1) old = sym (drop-drop 1 i out) ∙ ap (drop 1) others ∙ drop-drop 1 i old in (
      subst (λ (it : List TreeEntry). AreEntriesFrom hash tree offset it entry.next) (sym (take-set_at out i (i + 1) entry refl less))
          (entries_snoc hash tree offset next (take i out) entry are is),
      tail ∙ same,
      rw (length-set out i entry) (omega (arith, less)),
    )
