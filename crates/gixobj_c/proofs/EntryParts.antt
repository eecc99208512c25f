-- Positions of the parts of an entry.
use Rattle.std.proofs.Common.{◌≡◌, ◌<◌, ◌≤◌, ◌+◌, ℕ, List, [], ◌∷◌, ◌++◌, ap, append_assoc, arith, drop, inl, inr, length, length-append, refl, subst, sym, ◌∙◌}
use Rattle.std.specs.Prelude.{Some}
use Rattle.gixobj_c.proofs.Pieces.{piece_of_tail, rest_of_tail}
use Rattle.gixobj_c.specs.Spans.{HasPieceBefore, IsSpanBefore}
use Rattle.gixobj_c.specs.Trees.{IsEntryAt, IsTreeEntryCall}
use Rattle.gixobj_c.specs.declared.trees.TreeEntry.{TreeEntry}
use Rattle.gixobj_hash.specs.Hash.{id_bytes}
use Rattle.gixobj_hash.specs.declared.hash.kind.Kind.{Kind}
use Rattle.gixobj_tree_entries.specs.Mode.{mode_value}
use Rattle.gixobj_tree_entries.specs.Entries.{EntryView}
use Rattle.gixobj_tree_entries.specs.TreeDecoding.{BeginsWithEntry, BeginsWithNoEntry}

pub name_before_rest : (hash : Kind) (tree : List ℕ) (offset : ℕ) (input : List ℕ) (e : EntryView) (rest name id : List ℕ) (after : ℕ)
    → input ≡ drop offset tree
    → BeginsWithEntry hash input e rest → name ≡ e.name → id ≡ id_bytes e.id → after ≡ length rest + length id + 1 → HasPieceBefore tree name after
name_before_rest hash tree offset input e rest name id after from (content, joined, is) named same count =
    let flat : (is.digits ++ 32 ∷ (e.name ++ 0 ∷ id_bytes e.id)) ++ rest ≡ (is.digits ++ 32 ∷ []) ++ (e.name ++ (0 ∷ (id_bytes e.id ++ rest))) =
    simp append_assoc in
    let long = ap length same in
    piece_of_tail tree offset (is.digits ++ 32 ∷ []) name (0 ∷ (id_bytes e.id ++ rest)) after
    (sym from ∙ joined ∙ ap (λ (it : List ℕ). it ++ rest) is.joined ∙ flat
    ∙ ap (λ (it : List ℕ). (is.digits ++ 32 ∷ []) ++ (it ++ (0 ∷ (id_bytes e.id ++ rest)))) (sym named))
    (omega (arith, count, long, length-append (id_bytes e.id) rest))

pub id_before_rest : (hash : Kind) (tree : List ℕ) (offset : ℕ) (input : List ℕ) (e : EntryView) (rest id : List ℕ) → input ≡ drop offset tree
    → BeginsWithEntry hash input e rest → id ≡ id_bytes e.id → HasPieceBefore tree id (length rest)
id_before_rest hash tree offset input e rest id from (content, joined, is) same =
    let flat : (is.digits ++ 32 ∷ (e.name ++ 0 ∷ id_bytes e.id)) ++ rest ≡ (is.digits ++ 32 ∷ (e.name ++ 0 ∷ [])) ++ (id_bytes e.id ++ rest) =
    simp append_assoc in
    piece_of_tail tree offset (is.digits ++ 32 ∷ (e.name ++ 0 ∷ [])) id rest (length rest)
    (sym from ∙ joined ∙ ap (λ (it : List ℕ). it ++ rest) is.joined ∙ flat
    ∙ ap (λ (it : List ℕ). (is.digits ++ 32 ∷ (e.name ++ 0 ∷ [])) ++ (it ++ rest)) (sym same))
    refl

pub rest_of_entry : (hash : Kind) (tree : List ℕ) (offset : ℕ) (input : List ℕ) (e : EntryView) (rest : List ℕ) → input ≡ drop offset tree
    → BeginsWithEntry hash input e rest → HasPieceBefore tree rest 0
rest_of_entry hash tree offset input e rest from (content, joined, is) = rest_of_tail tree offset content rest (sym from ∙ joined)

pub is_entry_at_of_spans : (hash : Kind) (tree : List ℕ) (offset : ℕ) (input : List ℕ) (e : EntryView) (rest name id : List ℕ) (out : TreeEntry)
    → input ≡ drop offset tree → BeginsWithEntry hash input e rest → drop out.next tree ≡ rest → out.mode ≡ mode_value e.mode → name ≡ e.name
    → id ≡ id_bytes e.id → out.next ≤ length tree → IsSpanBefore tree name (length rest + length id + 1) out.name
    → IsSpanBefore tree id (length rest) out.id → IsEntryAt hash tree offset out
is_entry_at_of_spans hash tree offset input e rest name id out from begins next mode named same within name_span id_span =
    record {
      entry = e;
      begins = subst (λ (it : List ℕ). BeginsWithEntry hash it e (drop out.next tree)) from
          (subst (λ (it : List ℕ). BeginsWithEntry hash input e it) (sym next) begins);
      within = within;
      mode = mode;
      name = subst (λ (it : List ℕ). IsSpanBefore tree e.name (length it + length (id_bytes e.id) + 1) out.name) (sym next)
          (subst (λ (it : List ℕ). IsSpanBefore tree e.name (length rest + length it + 1) out.name) same
          (subst (λ (it : List ℕ). IsSpanBefore tree it (length rest + length id + 1) out.name) named name_span));
      id = subst (λ (it : List ℕ). IsSpanBefore tree (id_bytes e.id) (length it) out.id) (sym next)
          (subst (λ (it : List ℕ). IsSpanBefore tree it (length rest) out.id) same id_span);
    }

pub malformed_entry_call : (hash : Kind) (tree : List ℕ) (offset : ℕ) (input : List ℕ) (before : TreeEntry) → offset < length tree → input ≡ drop offset tree
    → BeginsWithNoEntry hash input → IsTreeEntryCall (Some hash) tree offset before before 2
malformed_entry_call hash tree offset input before less from none =
    inr (inr (inl (refl, less, subst (λ (it : List ℕ). BeginsWithNoEntry hash it) from none)), refl)
