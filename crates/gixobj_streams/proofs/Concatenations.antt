-- The concatenated encodings of items, item by item.
use Rattle.std.proofs.Common.{◌≡◌, ℕ, ◌+◌, ◌<◌, ◌≤◌, ◌^◌, List, [], ◌∷◌, ◌++◌, length, get_or, take, drop, ap, arith, sym, ◌∙◌, length-append}
use Rattle.std.specs.List.{flat_map}
use Rattle.std.proofs.lemmas.List.{append-nil, take_all, take_more, take-append-drop, drop_more}
use Rattle.std.proofs.lemmas.List.Concat.{flat_map-append}
use Rattle.gixobj_streams.proofs.Appends.{appends_prefix_middle}
use Rattle.gixobj_streams.specs.Streams.{AppendsAll, AppendsPrefix, SinkView}
use Rattle.std.specs.declared.io.Error as io

pub flat_map_take_succ : {X : Type 0} (bytes : X → List ℕ) (items : List X) (i : ℕ) (e : X) → i < length items → e ≡ get_or items i e
    → flat_map bytes (take (i + 1) items) ≡ flat_map bytes (take i items) ++ bytes e
flat_map_take_succ bytes items i e h is =
    rw (take_more items i e h, ← is) (flat_map-append bytes (take i items) (e ∷ []) ∙ ap (λ (xs : List ℕ). flat_map bytes (take i items) ++ xs)
    (append-nil (bytes e)))

take_item_drop : {X : Type 0} (items : List X) (i : ℕ) (e : X) → i < length items → e ≡ get_or items i e → items ≡ take i items ++ e ∷ drop (i + 1) items
take_item_drop {X} items i e h is =
    let rest : drop i items ≡ e ∷ drop (i + 1) items = drop_more items i e h ∙ ap (λ (x : X). x ∷ drop (i + 1) items) (sym is) in
    sym (take-append-drop i items) ∙ ap (λ (xs : List X). take i items ++ xs) rest

flat_map_take_item_drop : {X : Type 0} (bytes : X → List ℕ) (items : List X) (i : ℕ) (e : X) → i < length items → e ≡ get_or items i e
    → flat_map bytes items ≡ flat_map bytes (take i items) ++ (bytes e ++ flat_map bytes (drop (i + 1) items))
flat_map_take_item_drop bytes items i e h is = ap (flat_map bytes) (take_item_drop items i e h is)
    ∙ flat_map-append bytes (take i items) (e ∷ drop (i + 1) items)

-- a proper prefix of an item, after the items before it, is a proper prefix of all items
pub appends_prefix_of_item : {X : Type 0} {cause : io.Error} (bytes : X → List ℕ) (a b c : SinkView) (items : List X) (i : ℕ) (e : X)
    → i < length items → e ≡ get_or items i e → AppendsAll a b (flat_map bytes (take i items)) → AppendsPrefix b c (bytes e) cause
    → AppendsPrefix a c (flat_map bytes items) cause
appends_prefix_of_item bytes a b c items i e h is write_bytes part =
    rw (flat_map_take_item_drop bytes items i e h is) (appends_prefix_middle a b c (flat_map bytes (take i items)) (bytes e)
    (flat_map bytes (drop (i + 1) items)) write_bytes part)

-- all items are too long if the first of them are
pub no_overflow_of_joined : {X : Type 0} (bytes : X → List ℕ) (items : List X) (i : ℕ) (e : X) (start n : ℕ) → i < length items → e ≡ get_or items i e
    → n ≡ start + length (flat_map bytes (take i items)) → (n + length (bytes e) < 2 ^ 64 → ⊥) → start + length (flat_map bytes items) < 2 ^ 64 → ⊥
no_overflow_of_joined bytes items i e start n h is len over short =
    over (omega (
      arith,
      short,
      len,
      ap length (flat_map_take_item_drop bytes items i e h is),
      length-append (flat_map bytes (take i items))
          (bytes e ++ flat_map bytes (drop (i + 1) items)),
      length-append (bytes e) (flat_map bytes (drop (i + 1) items)),
    ))

pub joined_len : {X : Type 0} (bytes : X → List ℕ) (items : List X) (i start n : ℕ) → length items ≤ i → n ≡ start + length (flat_map bytes (take i items))
    → n ≡ start + length (flat_map bytes items)
joined_len {X} bytes items i start n h is = is ∙ ap (λ (it : List X). start + length (flat_map bytes it)) (take_all i items h)
