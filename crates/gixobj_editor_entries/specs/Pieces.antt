-- Lists in pieces, in the order of their items' keys, and what an edit makes of them.
use Rattle.std.specs.Prelude.{◌≡◌, ◌≢◌, ◌+◌, ◌<◌, ◌≤◌, ℕ, zero, suc, Bool, not, List, [], ◌∷◌, ◌++◌, length, take, true}
use Rattle.std.specs.Cmp.Lexicographic.{slice_cmp}
use Rattle.std.specs.List.{AllByRecursion, HoldsAt, filter, flat_map, prefix_len}
use Rattle.std.specs.Ordering.{is_eq, is_gt, is_lt, nat_cmp}
use Rattle.std.specs.declared.cmp.Ordering.{Ordering}
use Rattle.std.specs.declared.cmp.Ordering.TheVariants.{Greater, Less}
use Rattle.gixobj_tree_entries.specs.KeyOrder.{key_of}
use Rattle.gixobj_tree_entries.specs.KeyOrder.{EachLater}

-- the key of an item with this name and kind
abbrev pub item_key : {X : Type 0} → (X → List ℕ) → (X → Bool) → X → List ℕ
item_key name is_tree x = key_of (name x) (is_tree x)

-- the order of an item's key and a searched one
abbrev pub key_cmp : {X : Type 0} → (X → List ℕ) → List ℕ → X → Ordering
key_cmp key searched x = slice_cmp nat_cmp (key x) searched

-- the key of the item is less than the searched one
abbrev pub is_before : {X : Type 0} → (X → List ℕ) → List ℕ → X → Bool
is_before key searched x = is_lt (key_cmp key searched x)

-- the key of the item is greater than the searched one
abbrev pub is_after : {X : Type 0} → (X → List ℕ) → List ℕ → X → Bool
is_after key searched x = is_gt (key_cmp key searched x)

-- the key of the item is the searched one
abbrev pub has_key : {X : Type 0} → (X → List ℕ) → List ℕ → X → Bool
has_key key searched x = is_eq (key_cmp key searched x)

-- each key is less than the later ones
abbrev pub IsAscending : {X : Type 0} → (X → List ℕ) → List X → Type 0
IsAscending key xs = EachLater (λ x y. slice_cmp nat_cmp (key x) (key y) ≡ Less) xs

-- the items with this one inserted at the position of its key, in place of any item of its key
abbrev pub with_item : {X : Type 0} → (X → List ℕ) → X → List X → List X
with_item key x xs = filter (is_before key (key x)) xs ++ x ∷ filter (is_after key (key x)) xs

-- the items of other keys
abbrev pub without_key : {X : Type 0} → (X → List ℕ) → List ℕ → List X → List X
without_key key searched xs = filter (λ x. not (has_key key searched x)) xs

-- the key of the first item is at most the searched one
abbrev pub begins_at_most : {X : Type 0} → (X → List ℕ) → List ℕ → List X → Bool
begins_at_most key searched [] = true
begins_at_most key searched (x ∷ xs) = not (is_after key searched x)

-- no piece is empty
abbrev pub AreNonEmpty : {X Y : Type 0} → (Y → List X) → List Y → Type 0
AreNonEmpty items pieces = AllByRecursion (λ p. items p ≢ []) pieces

-- the list that a first piece and more pieces make
abbrev pub joined : {X Y : Type 0} → (Y → List X) → List X → List Y → List X
joined items first more = first ++ flat_map items more

-- the invariant of a sorted list in pieces: its keys ascend, and no piece but the first is empty
pub record IsPieced {X Y : Type 0} (name : X → List ℕ) (is_tree : X → Bool) (items : Y → List X) (first : List X)
    (more : List Y) : Type 0 where
  pub ascending : IsAscending (item_key name is_tree) (joined items first more)
  pub non_empty : AreNonEmpty items more

-- the number of pieces after the first whose first keys are at most the searched one; they are the first of these
abbrev pub pieces_at_most : {X Y : Type 0} → (X → List ℕ) → List ℕ → (Y → List X) → List Y → ℕ
pieces_at_most key searched items more = prefix_len (λ p. begins_at_most key searched (items p)) more

-- the piece of this number has this property; the first piece has the number 0
abbrev pub HoldsAtPiece : {Y : Type 0} → (Y → Type 0) → Y → List Y → ℕ → Type 0
HoldsAtPiece P first more zero = P first
HoldsAtPiece P first more (suc piece) = HoldsAt P more piece

-- an item is at this index of this piece; the first piece has the number 0
abbrev pub IsPosition : {X Y : Type 0} → (Y → List X) → List X → List Y → ℕ → ℕ → Type 0
IsPosition items first more zero index = index < length first
IsPosition items first more (suc piece) index = (piece < length more)
    × HoldsAt (λ p. index < length (items p)) more piece

-- the number of items before this index of this piece
abbrev pub flat_index : {X Y : Type 0} → (Y → List X) → List X → List Y → ℕ → ℕ → ℕ
flat_index items first more zero index = index
flat_index items first more (suc piece) index = length first + (length (flat_map items (take piece more)) + index)

-- the item before this index is less than the searched key; at the index 0 there is no piece before this one
abbrev pub IsLessBefore : {X : Type 0} → (X → List ℕ) → List ℕ → List X → ℕ → ℕ → Type 0
IsLessBefore key searched xs zero before = before ≡ 0
IsLessBefore key searched xs (suc i) before = (i < length xs) × HoldsAt (λ x. key_cmp key searched x ≡ Less) xs i

-- the item at this index is greater than the searched key; at the end there is no piece after this one
abbrev pub IsGreaterFrom : {X : Type 0} → (X → List ℕ) → List ℕ → List X → ℕ → ℕ → Type 0
IsGreaterFrom key searched xs index after =
    (index < length xs → HoldsAt (λ x. key_cmp key searched x ≡ Greater) xs index) × (length xs ≤ index → after ≡ 0)

-- an index is between the items that are less than the searched key and those that are greater
abbrev pub HasGap : {X : Type 0} → (X → List ℕ) → List ℕ → List X → ℕ → ℕ → Type 0
HasGap key searched xs before after = (index : ℕ) × IsLessBefore key searched xs index before
    × IsGreaterFrom key searched xs index after

-- the key of the item's name and the other kind
abbrev pub other_key : {X : Type 0} → (X → List ℕ) → (X → Bool) → X → List ℕ
other_key name is_tree x = key_of (name x) (not (is_tree x))
