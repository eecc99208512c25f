-- The order of the entries of trees: by key, so that a directory is at the position of its files (gitformat-index
-- orders files by the unsigned bytes of their names; git-fsck reports other orders as `treeNotSorted`).
use Rattle.std.specs.Prelude.{◌≡◌, ℕ, Bool, Option, Some, None, List, [], ◌∷◌, ◌++◌, if◌then◌else◌, length, min, take}
use Rattle.std.specs.Prelude.{drop}
use Rattle.std.specs.Cmp.Lexicographic.{slice_cmp}
use Rattle.std.specs.List.{AllByRecursion}
use Rattle.std.specs.Option.{option_cmp}
use Rattle.std.specs.Ordering.{nat_cmp, ordering_then}
use Rattle.std.specs.declared.cmp.Ordering.{Ordering}
use Rattle.std.specs.declared.cmp.Ordering.TheVariants.{Less}
use Rattle.gixobj_tree_entries.specs.Entries.{EntryView}
use Rattle.gixobj_tree_entries.specs.Mode.{is_tree_mode}
use Rattle.gixobj_hash.specs.Bytes.{slash}

-- the key of a name: the name, with a slash appended for a tree
abbrev pub key_of : List ℕ → Bool → List ℕ
key_of name is_tree = if is_tree then name ++ (slash ∷ []) else name

-- the key of an entry: its name, with a slash appended for a tree
abbrev pub entry_key : EntryView → List ℕ
entry_key e = key_of e.name (is_tree_mode e.mode)

-- the first byte of the rest of a name; the end of a tree's name counts as a slash
abbrev pub next_byte : List ℕ → Bool → Option ℕ
next_byte [] is_tree = if is_tree then Some slash else None
next_byte (byte ∷ rest) is_tree = Some byte

-- the order of two names: by their common length, bytewise, and then by the next byte; no byte precedes every byte
abbrev pub name_cmp : List ℕ → Bool → List ℕ → Bool → Ordering
name_cmp xs x_is_tree ys y_is_tree =
    let n = min (length xs) (length ys) in
    ordering_then (slice_cmp nat_cmp (take n xs) (take n ys))
    (option_cmp nat_cmp (next_byte (drop n xs) x_is_tree) (next_byte (drop n ys) y_is_tree))

-- the key of the first entry is less than that of the second
abbrev pub ComesBefore : EntryView → EntryView → Type 0
ComesBefore x y = slice_cmp nat_cmp (entry_key x) (entry_key y) ≡ Less

-- `R` holds of each element and each later one
abbrev pub EachLater : {X : Type 0} → (X → X → Type 0) → List X → Type 0
EachLater R [] = Unit {0}
EachLater R (x ∷ xs) = AllByRecursion (R x) xs × EachLater R xs
