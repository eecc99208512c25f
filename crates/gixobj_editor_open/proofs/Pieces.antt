-- The open directory at a position in pieces is the one at its index in the list, also once it is changed; used for the
-- calls of `Children` and the descents of `Open`.
use Rattle.std.proofs.Common.{◌≡◌, ◌≢◌, ◌∙◌, ◌<◌, ◌≤◌, ℕ, Bool, zero, suc, true, false, cond, List, [], ◌∷◌, ◌++◌, Some, None, get_or, length, length-append}
use Rattle.std.proofs.Common.{set, refl, sym, ap, subst, arith}
use Rattle.std.specs.List.{flat_map, position}
use Rattle.std.specs.Vec.{with_item}
use Rattle.std.specs.declared.alloc.Global.{Global}
use Rattle.std.specs.declared.vec.Vec.{Vec}
use Rattle.std.proofs.lemmas.List.{append-nil, append_assoc, map-append, get_or_append_left, get_or-append-add, get_or_default}
use Rattle.bstr.specs.Owned.{bstring_bytes}
use Rattle.gixobj_tree_entries.specs.Entries.{EntryView}
use Rattle.gixobj_editor_entries.proofs.FlatIndices.{get_or_flat_map, joined_set_first, joined_set_more}
use Rattle.gixobj_editor_entries.proofs.Joined.{are_non_empty_set, non_empty_at}
use Rattle.gixobj_tree_entries.specs.KeyOrder.{key_of}
use Rattle.gixobj_editor_files.specs.Editing.{same_name}
use Rattle.gixobj_editor_entries.specs.Pieces.{AreNonEmpty, IsPieced, flat_index, has_key, joined}
use Rattle.gixobj_editor_open.specs.Children.{IsAt, index_of_child, with_child}
use Rattle.gixobj_editor_open.specs.Decreases.{length-below_append}
use Rattle.gixobj_editor_open.specs.Nested.{AreFilled, AreOrdered, IsPiecedLevel, Opened, below, called, child_key, child_list, length-under, part, parts}
use Rattle.gixobj_editor_open.specs.Nested.{under}
use Rattle.gixobj_editor_open.specs.Children.{next_child, pairs_after_next}
use Rattle.gixobj_editor_open.specs.declared.open.Child.{Child}
use Rattle.gixobj_editor_open.specs.declared.open.Children.{Children}
use Rattle.gixobj_editor_open.proofs.Levels.{IsChanged, IsChild, is_level_set, parts_set_same}
use Rattle.gixobj_editor_open.proofs.Ordered.{called_is_has_key, children_ascend}

-- the pieces of children that are in the order of their entries
pub is_pieced_of_ordered : (children : Children) → AreOrdered (parts (child_list children)) → AreFilled children
    → IsPieced (λ (c : Child). bstring_bytes c.name) (λ _. true) (λ (p : Vec Child Global). p.items) children.first.items children.more.items
is_pieced_of_ordered children up filled = record { ascending = children_ascend (child_list children) up; non_empty = filled }

abbrev items : Vec Child Global → List Child
items p = p.items

-- the child at a position of the first piece, and of another
module _ (children : Children) (piece index : ℕ) (d : Child) where
  pub child_in_first : piece ≡ 0 → IsAt children piece index
      → get_or children.first.items index d ≡ get_or (child_list children) (index_of_child children piece index) d
  child_in_first is within =
      let low : index < length children.first.items = subst (λ (k : ℕ). IsAt children k index) is within in
      sym (get_or_append_left children.first.items (flat_map items children.more.items) d index low)
      ∙ ap (λ (k : ℕ). get_or (child_list children) (index_of_child children k index) d) (sym is)

  module _ (j : ℕ) (is : piece ≡ suc j) (within : IsAt children piece index) (q : Vec Child Global) (at : q ≡ get_or children.more.items j q) where
    piece_low : j < length children.more.items
    piece_low = (subst (λ (k : ℕ). IsAt children k index) is within).0

    low_in_piece : index < length (items (get_or children.more.items j q))
    low_in_piece = (subst (λ (k : ℕ). IsAt children k index) is within).1 q

    pub child_in_more : get_or q.items index d ≡ get_or (child_list children) (index_of_child children piece index) d
    child_in_more =
        ap (λ (p : Vec Child Global). get_or p.items index d) at
        ∙ sym (get_or_flat_map items children.more.items j index d q piece_low low_in_piece)
        ∙ sym (get_or-append-add children.first.items (flat_map items children.more.items) _ d)
        ∙ ap (λ (k : ℕ). get_or (child_list children) (index_of_child children k index) d) (sym is)

    abbrev changed_piece : Vec Child Global → Child → Children
    changed_piece p next = record children { more = with_item children.more j (with_item p index next) }

    pub changed_in_more : (next : Child) → changed_piece q next ≡ with_child children piece index next
    changed_in_more next =
        ap (λ (p : Vec Child Global). changed_piece p next) (at ∙ get_or_default children.more.items j q children.first piece_low)
        ∙ ap (λ (k : ℕ). with_child children k index next) (sym is)

-- the list with a changed child
pub child_list_with_child : (children : Children) (piece index : ℕ) (next : Child) → IsAt children piece index
    → child_list (with_child children piece index next) ≡ set (child_list children) (index_of_child children piece index) next
child_list_with_child children zero index next within = joined_set_first items children.first.items children.more.items index next within
child_list_with_child children (suc j) index next within =
    let q : Vec Child Global = get_or children.more.items j children.first in
    let same : get_or children.more.items j (with_item q index next) ≡ q = get_or_default children.more.items j _ children.first within.0 in
    joined_set_more items children.first.items children.more.items j index (with_item q index next) next within.0
    (within.1 (with_item q index next))
    (ap (λ (p : Vec Child Global). set p.items index next) (sym same))

set_ne_nil : (xs : List Child) (i : ℕ) (x : Child) → (xs ≢ []) → set xs i x ≢ []
set_ne_nil [] i x there = there
set_ne_nil (y ∷ xs) zero x there = λ e. cc e
set_ne_nil (y ∷ xs) (suc i) x there = λ e. cc e

pub are_filled_with_child : (children : Children) (piece index : ℕ) (next : Child) → IsAt children piece index → AreFilled children
    → AreFilled (with_child children piece index next)
are_filled_with_child children zero index next within filled = filled
are_filled_with_child children (suc j) index next within filled =
    let q : Vec Child Global = get_or children.more.items j children.first in
    are_non_empty_set items children.more.items j (with_item q index next)
    (set_ne_nil q.items index next (non_empty_at items children.more.items j children.first within.0 filled)) filled

-- the child that a search found, and what is open in it afterwards
pub record IsFound (name : List ℕ) (children : Children) (piece index : ℕ) (child : Child) : Type 0 where
  pub within : IsAt children piece index
  pub found : Some (index_of_child children piece index) ≡ position (called name) (child_list children)
  pub is : child ≡ get_or (child_list children) (index_of_child children piece index) child

-- the pieces with what is open in a child replaced
abbrev pub with_open : Children → ℕ → ℕ → Child → Opened → Children
with_open children piece index child ds = with_child children piece index (record { name = child.name; «open» = ds })

module _ {name : List ℕ} {children : Children} {piece index : ℕ} {child : Child} (found : IsFound name children piece index child) where
  pub is_child : IsChild name (child_list children) (index_of_child children piece index) child
  is_child = record { found = found.found; is = found.is }

  pub is_changed : (ds : Opened)
      → IsChanged (child_list children) (child_list (with_open children piece index child ds)) (index_of_child children piece index) child
      (record { name = child.name; «open» = ds })
  is_changed ds = record { named = refl; changed = child_list_with_child children piece index _ found.within }

  pub parts_with_open_same : (ds : Opened) → ds ≡ child.open → parts (child_list (with_open children piece index child ds)) ≡ parts (child_list children)
  parts_with_open_same ds same =
      ap parts (is_changed ds).changed
      ∙ parts_set_same (child_list children) (index_of_child children piece index) child (record { name = child.name; «open» = ds }) found.is
      (ap (λ (d : Opened). (bstring_bytes child.name, d)) same)

  pub is_pieced_level_with_open : {es : List EntryView} (ds : Opened) → IsPiecedLevel es children → IsPiecedLevel es (with_open children piece index child ds)
  is_pieced_level_with_open ds pieced = record {
    level = is_level_set is_child (is_changed ds) pieced.level;
    filled = are_filled_with_child children piece index _ found.within pieced.filled;
  }

flat_map_snoc : (ps : List (Vec Child Global)) (p : Vec Child Global) → flat_map items (ps ++ p ∷ []) ≡ flat_map items ps ++ p.items
flat_map_snoc [] p = append-nil p.items
flat_map_snoc (q ∷ ps) p = ap (λ l. q.items ++ l) (flat_map_snoc ps p) ∙ sym (append_assoc q.items (flat_map items ps) p.items)

-- a last piece has the last children
pub joined_snoc : (first : List Child) (more ps : List (Vec Child Global)) (p : Vec Child Global) → more ≡ ps ++ p ∷ []
    → joined items first more ≡ joined items first ps ++ p.items
joined_snoc first more ps p is =
    ap (λ l. first ++ flat_map items l) is ∙ ap (λ l. first ++ l) (flat_map_snoc ps p) ∙ sym (append_assoc first (flat_map items ps) p.items)

-- a child has at most the open directories that are below its directory, and so has a piece
pub child_size_le : (cs : List Child) (i : ℕ) (child : Child) → i < length cs → child ≡ get_or cs i child → length child.open ≤ length (below (parts cs))
child_size_le [] i child low is = absurd (omega (arith, low))
child_size_le (c ∷ cs) zero child low is = omega (
  arith,
  ap (λ (d : Child). length d.open) is,
  length-append (under (bstring_bytes c.name) c.open) (below (parts cs)),
  length-under (bstring_bytes c.name) c.open,
)
child_size_le (c ∷ cs) (suc i) child low is = omega (
  arith,
  child_size_le cs i child (omega (arith, low)) is,
  length-append (under (bstring_bytes c.name) c.open) (below (parts cs)),
)

pub piece_size_le : (ps : List (Vec Child Global)) (i : ℕ) (p : Vec Child Global) → i < length ps → p ≡ get_or ps i p
    → length (below (parts p.items)) ≤ length (below (parts (flat_map items ps)))
piece_size_le [] i p low is = absurd (omega (arith, low))
piece_size_le (q ∷ ps) zero p low is = omega (
  arith,
  ap (λ (v : Vec Child Global). length (below (parts v.items))) is,
  length-below_append q.items (flat_map items ps),
)
piece_size_le (q ∷ ps) (suc i) p low is = omega (
  arith,
  piece_size_le ps i p (omega (arith, low)) is,
  length-below_append q.items (flat_map items ps),
)

-- the parts of two lists in pieces are the same if those of the pieces are
pub parts_joined_of : (first new : List Child) (more ps : List (Vec Child Global)) → parts new ≡ parts first
    → parts (flat_map items ps) ≡ parts (flat_map items more) → parts (joined items new ps) ≡ parts (joined items first more)
parts_joined_of first new more ps same others =
    map-append part new (flat_map items ps) ∙ ap (λ l. l ++ parts (flat_map items ps)) same ∙ ap (λ l. parts first ++ l) others
    ∙ sym (map-append part first (flat_map items more))

-- what a search by the key of a name finds
module _ (children : Children) (name bytes : List ℕ) (first : List Child) (more : List (Vec Child Global)) (first_is : first ≡ children.first.items)
    (more_is : more ≡ children.more.items) (bytes_is : bytes ≡ name) where
  pub found_of_key : (piece index : ℕ) → position (has_key child_key (key_of bytes true)) (joined items first more)
      ≡ Some (flat_index items first more piece index) → Some (index_of_child children piece index) ≡ position (called name) (child_list children)
  found_of_key piece index found =
      let here = rw (first_is, more_is, bytes_is) at found in
      sym (ap (λ (test : Child → Bool). position test (child_list children)) (called_is_has_key name) ∙ here)

  pub none_of_key : position (has_key child_key (key_of bytes true)) (joined items first more) ≡ None → None ≡ position (called name) (child_list children)
  none_of_key none =
      let here = rw (first_is, more_is, bytes_is) at none in
      sym (ap (λ (test : Child → Bool). position test (child_list children)) (called_is_has_key name) ∙ here)

-- the next child of the first piece is that of all
pub next_child_append : (name : List ℕ) (cs ds : List Child) → (cs ≡ [] → cs ++ ds ≡ []) → next_child name (cs ++ ds) ≡ next_child name cs
next_child_append name [] ds none = ap (next_child name) (none refl)
next_child_append name (c ∷ cs) ds none = refl

pub pairs_after_next_append : (name : List ℕ) (cs ds : List Child) → (cs ≡ [] → cs ++ ds ≡ []) → pairs_after_next name (cs ++ ds)
    ≡ pairs_after_next name cs ++ ds
pairs_after_next_append name [] ds none = ap (pairs_after_next name) (none refl) ∙ sym (none refl)
pairs_after_next_append name (c ∷ cs) ds none =
    elim (same_name (bstring_bytes c.name) name) as (λ b. cond b (cs ++ ds) (c ∷ cs ++ ds) ≡ cond b cs (c ∷ cs) ++ ds) [ true ↦ refl | false ↦ refl ]

-- a piece of the same parts changes no parts, and isn't empty
pub parts_flat_map_set : (ps : List (Vec Child Global)) (i : ℕ) (q d : Vec Child Global) → parts q.items ≡ parts (get_or ps i d).items
    → parts (flat_map items (set ps i q)) ≡ parts (flat_map items ps)
parts_flat_map_set [] i q d same = refl
parts_flat_map_set (p ∷ ps) zero q d same =
    map-append part q.items (flat_map items ps) ∙ ap (λ l. l ++ parts (flat_map items ps)) same ∙ sym (map-append part p.items (flat_map items ps))
parts_flat_map_set (p ∷ ps) (suc i) q d same =
    map-append part p.items (flat_map items (set ps i q)) ∙ ap (λ l. parts p.items ++ l) (parts_flat_map_set ps i q d same)
    ∙ sym (map-append part p.items (flat_map items ps))

nil_of_no_parts : (cs : List Child) → parts cs ≡ [] → cs ≡ []
nil_of_no_parts [] none = refl
nil_of_no_parts (c ∷ cs) none = absurd (cc none)

pub are_filled_set : (ps : List (Vec Child Global)) (i : ℕ) (q d : Vec Child Global) → parts q.items ≡ parts (get_or ps i d).items → AreNonEmpty items ps
    → AreNonEmpty items (set ps i q)
are_filled_set [] i q d same filled = tt
are_filled_set (p ∷ ps) zero q d same filled = ((λ none. filled.0 (nil_of_no_parts p.items (sym same ∙ ap parts none))), filled.1)
are_filled_set (p ∷ ps) (suc i) q d same filled = (filled.0, are_filled_set ps i q d same filled.1)
