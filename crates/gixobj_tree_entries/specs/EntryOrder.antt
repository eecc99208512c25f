-- The order and the equality of entries and of trees, and the input of their hashes.
use Rattle.std.specs.Prelude.{◌==◌, ◌&&◌, ◌++◌, ◌∷◌, [], Bool, List, nat_eq}
use Rattle.std.specs.Hash.{HashWrites, slice, u8, u16}
use Rattle.std.specs.Cmp.Lexicographic.{pointwise, slice_cmp}
use Rattle.std.specs.Ordering.{is_eq, nat_cmp, on, then_cmp}
use Rattle.std.specs.declared.cmp.Ordering.{Ordering}
use Rattle.gixobj_hash.specs.Hash.{id_bytes}
use Rattle.gixobj_hash.specs.Hash.Order.{id_cmp}
use Rattle.gixobj_tree_entries.specs.Entries.{EntryView}
use Rattle.gixobj_tree_entries.specs.KeyOrder.{entry_key}

-- the order of entries: by key, then by mode, name and id
abbrev pub entry_cmp : EntryView → EntryView → Ordering
entry_cmp = then_cmp (on entry_key (slice_cmp nat_cmp))
    (then_cmp (on (λ e. e.mode) nat_cmp) (then_cmp (on (λ e. e.name) (slice_cmp nat_cmp)) (on (λ e. e.id) id_cmp)))

-- entries are equal if their modes, names and ids are
abbrev pub same_entry : EntryView → EntryView → Bool
same_entry x y = (x.mode == y.mode) && (pointwise nat_eq x.name y.name && is_eq (id_cmp x.id y.id))

-- the hash input of an entry: its mode, name and id
abbrev pub entry_feed : EntryView → HashWrites
entry_feed e = u16 e.mode ++ (slice u8 e.name ++ (id_bytes e.id ∷ []))

-- the order of trees: entry by entry
abbrev pub tree_cmp : List EntryView → List EntryView → Ordering
tree_cmp = slice_cmp entry_cmp

-- trees are equal if their entries are
abbrev pub same_tree : List EntryView → List EntryView → Bool
same_tree = pointwise same_entry

-- the hash input of a tree: that of its entries
abbrev pub tree_feed : List EntryView → HashWrites
tree_feed = slice entry_feed
