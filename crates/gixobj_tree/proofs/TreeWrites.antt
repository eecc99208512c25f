-- The writes and the sizes of entries are those of the tree; used by the proofs of the writers of trees.
use Rattle.std.proofs.Common.{◌≡◌, ℕ, ◌+◌, ◌*◌, ◌<◌, ◌≤◌, ◌^◌, List, [], ◌∷◌, ◌++◌, length, get_or, take, drop, All, ◌⊎◌, ⊎_elim, inl, inr, refl, ap, arith}
use Rattle.std.proofs.Common.{subst, sym, ◌∙◌, append_assoc, length-append}
use Rattle.std.specs.Prelude.{Contains}
use Rattle.std.proofs.lemmas.List.{append-nil, take_all, take_more, take-append-drop, drop_more}
use Rattle.std.proofs.lemmas.List.Elements.{All-contains, All-head, All-push, All-tail, Contains-append_right, Contains-get_or}
use Rattle.std.proofs.lemmas.List.Concat.{flat_map-append}
use Rattle.gixobj_tree_entries.specs.Entries.{EntryView}
use Rattle.gixobj_hash.specs.ByteStrings.{IsByteFree}
use Rattle.gixobj_tree.specs.TreeEncoding.{IsEntryEncodeError, IsTreeEncodeError, before_name, encode_entry, encode_tree}
use Rattle.gixobj_tree.specs.TreeSizes.{encode_mode_and_name, with_ids}
use Rattle.gixobj_streams.specs.Streams.{AppendsAll, AppendsPrefix, SinkView}
use Rattle.std.specs.declared.io.Error as io
use Rattle.gixobj_streams.specs.Writing.{IsWritingError, LacksRoom, RejectedValue}
use Rattle.gixobj_streams.specs.declared.encode.Error.{Error}
use Rattle.gixobj_streams.specs.declared.encode.Error.TheVariants.{OutOfMemory}
use Rattle.gixobj_hash.specs.Hash.{id_bytes}
use Rattle.gixobj_tree_entries.specs.Mode.{encode_mode}
use Rattle.gixobj_streams.proofs.Appends.{appends_prefix_first, appends_prefix_append, appends_all_append}
use Rattle.gixobj_streams.proofs.Errors.{lacks_room_after, writing_error_within}

-- no name has a zero byte
abbrev pub AreFree : List EntryView → Type 0
AreFree entries = All (λ e. IsByteFree 0 e.name) entries

pub encode_tree_take_succ : (items : List EntryView) (i : ℕ) (e : EntryView) → i < length items → e ≡ get_or items i e
    → encode_tree (take (i + 1) items) ≡ encode_tree
    (take i items) ++ encode_entry e
encode_tree_take_succ items i e h is =
    rw (take_more items i e h, ← is) (flat_map-append encode_entry (take i items) (e ∷ []) ∙ ap (λ (xs : List ℕ). encode_tree (take i items) ++ xs)
    (append-nil (encode_entry e)))

pub are_free_take_succ : (items : List EntryView) (i : ℕ) (e : EntryView) → i < length items → e ≡ get_or items i e → AreFree (take i items)
    → IsByteFree 0 e.name
    → AreFree (take (i + 1) items)
are_free_take_succ items i e h is head one = rw (take_more items i e h, ← is) (All-push (λ (x : EntryView). IsByteFree 0 x.name) (take i items) e head one)

pub take_cons_drop : (items : List EntryView) (i : ℕ) (e : EntryView) → i < length items → e ≡ get_or items i e
    → items ≡ take i items ++ e ∷ drop (i + 1) items
take_cons_drop items i e h is =
    let rest : drop i items ≡ e ∷ drop (i + 1) items = drop_more items i e h ∙ ap (λ (x : EntryView). x ∷ drop (i + 1) items) (sym is) in
    sym (take-append-drop i items) ∙ ap (λ (xs : List EntryView). take i items ++ xs) rest

encode_tree_at : (items : List EntryView) (i : ℕ) (e : EntryView) → i < length items → e ≡ get_or items i e
    → encode_tree items ≡ encode_tree (take i items) ++ (encode_entry e ++ encode_tree (drop (i + 1) items))
encode_tree_at items i e h is = ap encode_tree (take_cons_drop items i e h is) ∙ flat_map-append encode_entry (take i items) (e ∷ drop (i + 1) items)

pub no_error_of_written_tree : (items : List EntryView) (value : RejectedValue) (parts : List ℕ) → AreFree items → IsTreeEncodeError items value parts → ⊥
no_error_of_written_tree items value parts free r =
    let has : Contains items r.entry =
    rw (r.joined) (Contains-append_right r.prefix (r.entry ∷ r.rest) r.entry (Contains-get_or (r.entry ∷ r.rest) 0 r.entry (omega arith))) in
    All-contains (λ (it : ℕ). it ≡ 0 → ⊥) r.entry.name 0 (All-contains (λ (x : EntryView). IsByteFree 0 x.name) items r.entry free has)
    r.rejected.0 refl

-- a tree is encodable if all its entries are written
pub no_error_of_free_tree : (items all : List EntryView) (i : ℕ) → items ≡ all → length items ≤ i → AreFree (take i items)
    → (value : RejectedValue) (parts : List ℕ)
    → IsTreeEncodeError all value parts → ⊥
no_error_of_free_tree items all i same h free value parts r = no_error_of_written_tree items value parts (rw (← take_all i items h) free) (rw same r)

-- the error of an entry after accepted entries is an error of the tree
pub writing_error_at_entry : (a b c : SinkView) (items : List EntryView) (i : ℕ) (e : EntryView) → i < length items → e ≡ get_or items i e
    → AppendsAll a b (encode_tree (take i items)) → AreFree (take i items) → (why : Error)
    → IsWritingError (IsEntryEncodeError e) b c (encode_entry e) why
    → IsWritingError (IsTreeEncodeError items) a c (encode_tree items) why
writing_error_at_entry a b c items i e h is write_bytes free why says =
    rw (encode_tree_at items i e h is) (writing_error_within (IsEntryEncodeError e) (IsTreeEncodeError items) a b c (encode_tree (take i items))
    (encode_entry e)
    (encode_tree (drop (i + 1) items)) write_bytes
    (λ value parts r. record {
      prefix = take i items;
      entry = e;
      rest = drop (i + 1) items;
      partial = parts;
      joined = take_cons_drop items i e h is;
      no_zero_byte = free;
      rejected = r;
      written = refl;
    })
    why says)

-- a list that splits after free entries, and at a name with a zero byte: the splits are the same, or the second is later
split_eq_or_prefix_longer : (first rest prefix back : List EntryView) (e entry : EntryView) → first ++ e ∷ rest ≡ prefix ++ entry ∷ back → AreFree first
    → Contains entry.name 0
    → ((prefix ≡ first) × (entry ≡ e)) ⊎ (length (encode_tree first) + length (encode_entry e) ≤ length (encode_tree prefix))
split_eq_or_prefix_longer [] rest [] back e entry same free has = inl (refl, cc same)
split_eq_or_prefix_longer [] rest (p ∷ prefix) back e entry same free has =
    let here : e ≡ p = cc same in
    inr (omega (arith, ap (λ (x : EntryView). length (encode_entry x)) here, length-append (encode_entry p) (encode_tree prefix)))
split_eq_or_prefix_longer (f ∷ first) rest [] back e entry same free has =
    let here : f ≡ entry = cc same in
    let its_free = All-head (λ (x : EntryView). IsByteFree 0 x.name) f first free in
    absurd (All-contains (λ (it : ℕ). it ≡ 0 → ⊥) entry.name 0 (subst (λ (x : EntryView). IsByteFree 0 x.name) here its_free) has refl)
split_eq_or_prefix_longer (f ∷ first) rest (p ∷ prefix) back e entry same free has =
    let here : f ≡ p = cc same in
    let following : first ++ e ∷ rest ≡ prefix ++ entry ∷ back = cc same in
    ⊎_elim (λ it. inl (ap (λ (xs : List EntryView). p ∷ xs) it.0 ∙ ap (λ (x : EntryView). x ∷ first) (sym here), it.1))
    (λ later. inr (omega (
      arith,
      later,
      ap (λ (x : EntryView). length (encode_entry x)) here,
      length-append (encode_entry f) (encode_tree first),
      length-append (encode_entry p) (encode_tree prefix),
    )))
    (split_eq_or_prefix_longer first rest prefix back e entry following (All-tail (λ (x : EntryView). IsByteFree 0 x.name) f first free) has)

-- the value that is rejected is of the entry after free entries, or comes after that entry
tree_error_at_entry_or_after : (items : List EntryView) (i : ℕ) (e : EntryView) → i < length items → e ≡ get_or items i e → AreFree (take i items)
    → (value : RejectedValue) (parts : List ℕ) → IsTreeEncodeError items value parts
    → ((begun : List ℕ) × IsEntryEncodeError e value begun × (parts ≡ encode_tree (take i items) ++ begun))
    ⊎ (length (encode_tree (take i items)) + length (encode_entry e) ≤ length parts)
tree_error_at_entry_or_after items i e h is free value parts r =
    ⊎_elim (λ it. inl (
      r.partial,
      subst (λ (x : EntryView). IsEntryEncodeError x value r.partial) it.1 r.rejected,
      r.written ∙ ap (λ (xs : List EntryView). encode_tree xs ++ r.partial) it.0,
    ))
    (λ later. inr (omega (arith, later, ap length r.written, length-append (encode_tree r.prefix) r.partial)))
    (split_eq_or_prefix_longer (take i items) (drop (i + 1) items) r.prefix r.rest e r.entry (sym (take_cons_drop items i e h is) ∙ r.joined) free r.rejected.0)

-- an entry for which a sink lacks room, after accepted entries, is one of a tree for which it lacks room
pub lacks_room_at_entry : (a b c : SinkView) (items : List EntryView) (i : ℕ) (e : EntryView) → i < length items → e ≡ get_or items i e
    → AppendsAll a b (encode_tree (take i items)) → AreFree (take i items) → (why : Error)
    → IsWritingError (IsEntryEncodeError e) b c (encode_entry e) why → LacksRoom (IsEntryEncodeError e) b why
    → LacksRoom (IsTreeEncodeError items) a why
lacks_room_at_entry a b c items i e h is write_bytes free why says short =
    lacks_room_after (IsEntryEncodeError e) (IsTreeEncodeError items) a b c (encode_tree (take i items)) (encode_entry e) write_bytes
    (tree_error_at_entry_or_after items i e h is free) why says short

encode_tree_take_len_le : (items : List EntryView) (n : ℕ) → length (encode_tree (take n items)) ≤ length (encode_tree items)
encode_tree_take_len_le items n =
    let e : encode_tree items ≡ encode_tree (take n items) ++ encode_tree (drop n items) = ap encode_tree (sym (take-append-drop n items))
    ∙ flat_map-append encode_entry (take n items) (drop n items) in
    omega (arith, ap length e, length-append (encode_tree (take n items)) (encode_tree (drop n items)))

-- a tree is too long if its first entries are
pub no_overflow_of_tree : (items all : List EntryView) (i : ℕ) (e : EntryView) (n : ℕ) → items ≡ all → i < length items → e ≡ get_or items i e
    → n ≡ length (encode_tree (take i items))
    → (n + length (encode_entry e) < 2 ^ 64 → ⊥) → length (encode_tree all) < 2 ^ 64 → ⊥
no_overflow_of_tree items all i e n same h is len over short =
    over (omega (
      arith,
      short,
      len,
      ap length (ap encode_tree same),
      ap length (encode_tree_take_succ items i e h is),
      length-append (encode_tree (take i items))
          (encode_entry e),
      encode_tree_take_len_le items (i + 1),
    ))

-- ---- the size, as that of the modes and the names, and that of the spaces, zero bytes and ids

-- an entry has a space, a zero byte and an id next to its mode and its name
encode_entry_len : (e : EntryView) → length (encode_entry e) ≡ length (encode_mode_and_name e) + 2 + length (id_bytes e.id)
encode_entry_len e = omega (
  arith,
  length-append (before_name e ++ e.name) (0 ∷ id_bytes e.id),
  length-append (before_name e) e.name,
  length-append
      (encode_mode e.mode) (32 ∷ []),
  length-append (encode_mode e.mode) e.name,
)

pub tree_len_take_succ : (items : List EntryView) (i : ℕ) (e : EntryView) (size more longer one : ℕ) → i < length items → e ≡ get_or items i e
    → with_ids size i longer ≡ length (encode_tree (take i items))
    → more ≡ size + length (encode_mode_and_name e) → length (id_bytes e.id) ≡ 20 + 12 * one → with_ids more (i + 1) (longer + one) ≡ length
    (encode_tree (take (i + 1) items))
tree_len_take_succ items i e size more longer one h is so_far write_bytes len =
    omega (
      arith,
      so_far,
      write_bytes,
      encode_entry_len e,
      len,
      ap length (encode_tree_take_succ items i e h is),
      length-append (encode_tree (take i items))
          (encode_entry e),
    )

-- a tree is too long if the modes and the names of its first entries are
pub no_overflow_of_size : (items all : List EntryView) (i : ℕ) (e : EntryView) (size longer : ℕ) → items ≡ all → i < length items → e ≡ get_or items i e
    → with_ids size i longer ≡ length (encode_tree (take i items))
    → (size + length (encode_mode_and_name e) < 2 ^ 64 → ⊥) → length (encode_tree all) < 2 ^ 64 → ⊥
no_overflow_of_size items all i e size longer same h is so_far over short =
    over (omega (
      arith,
      short,
      so_far,
      encode_entry_len e,
      ap length (ap encode_tree same),
      ap length (encode_tree_take_succ items i e h is),
      length-append
          (encode_tree (take i items)) (encode_entry e),
      encode_tree_take_len_le items (i + 1),
    ))

-- ---- an entry

-- a proper prefix of the mode and the space is one of the entry
pub appends_prefix_of_mode : {cause : io.Error} (a b : SinkView) (e : EntryView) → AppendsPrefix a b (before_name e) cause
    → AppendsPrefix a b (encode_entry e) cause
appends_prefix_of_mode a b e part = appends_prefix_first a b (before_name e ++ e.name) (0 ∷ id_bytes e.id)
    (appends_prefix_first a b (before_name e) e.name part)

-- the mode, the space and a proper prefix of the name and the id are a proper prefix of the entry
pub appends_prefix_of_entry : {cause : io.Error} (a b c : SinkView) (e : EntryView) → AppendsAll a b (before_name e)
    → AppendsPrefix b c (e.name ++ 0 ∷ id_bytes e.id) cause → AppendsPrefix a c (encode_entry e) cause
appends_prefix_of_entry a b c e write_bytes part = rw (append_assoc (before_name e) e.name (0 ∷ id_bytes e.id))
    (appends_prefix_append a b c (before_name e) (e.name ++ 0 ∷ id_bytes e.id) write_bytes part)

-- the mode and the space, and then the name and the id, are the entry
pub appends_all_of_entry : (a b c : SinkView) (e : EntryView) → AppendsAll a b (before_name e) → AppendsAll b c (e.name ++ 0 ∷ id_bytes e.id)
    → AppendsAll a c (encode_entry e)
appends_all_of_entry a b c e write_bytes more = rw (append_assoc (before_name e) e.name (0 ∷ id_bytes e.id))
    (appends_all_append a b c (before_name e) (e.name ++ 0 ∷ id_bytes e.id) write_bytes more)

-- the copy of a name with a zero byte failed to allocate
pub entry_error_of_copy : (a b : SinkView) (e : EntryView) → Contains e.name 0 → AppendsAll a b (before_name e)
    → IsWritingError (IsEntryEncodeError e) a b (encode_entry e) OutOfMemory
entry_error_of_copy a b e has write_bytes = (e.name, inr (before_name e, (has, refl, refl), write_bytes))
