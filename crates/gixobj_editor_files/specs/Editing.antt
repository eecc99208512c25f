-- The entries of one directory after an edit.
use Rattle.std.specs.Prelude.{ℕ, Bool, not, ◌&&◌, List, ◌∷◌, ◌++◌, nat_eq}
use Rattle.std.specs.List.{filter, list_any}
use Rattle.std.specs.Cmp.Lexicographic.{pointwise, slice_cmp}
use Rattle.std.specs.Ordering.{is_lt, nat_cmp}
use Rattle.gixobj_tree_entries.specs.Entries.{EntryView}
use Rattle.gixobj_tree_entries.specs.KeyOrder.{entry_key}
use Rattle.gixobj_tree_entries.specs.Mode.{is_tree_mode}
use Rattle.gixobj_editor_files.specs.Files.{is_null}

-- two names are equal byte by byte
abbrev pub same_name : List ℕ → List ℕ → Bool
same_name = pointwise nat_eq

-- the key of the first entry is less than that of the second, byte by byte
abbrev pub comes_before : EntryView → EntryView → Bool
comes_before x y = is_lt (slice_cmp nat_cmp (entry_key x) (entry_key y))

-- the entries whose names differ from this one
abbrev pub without : List ℕ → List EntryView → List EntryView
without name entries = filter (λ e. not (same_name e.name name)) entries

-- the entries with this one inserted at the position of its key, in place of any entry of its name
abbrev pub with_entry : EntryView → List EntryView → List EntryView
with_entry x entries = filter (λ e. comes_before e x) (without x.name entries) ++ x ∷ filter
    (λ e. not (comes_before e x)) (without x.name entries)

-- the entries whose ids aren't null
abbrev pub non_null_entries : List EntryView → List EntryView
non_null_entries entries = filter (λ e. not (is_null e.id)) entries

-- the list has an entry of this name and of tree mode
abbrev pub has_tree : List ℕ → List EntryView → Bool
has_tree name entries = list_any (λ e. same_name e.name name && is_tree_mode e.mode) entries
