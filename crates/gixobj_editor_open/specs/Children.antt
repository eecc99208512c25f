-- The open directories in a directory, in pieces: their positions, a changed one, and those that remain in a walk.
use Rattle.std.specs.Prelude.{◌≡◌, ◌<◌, ℕ, zero, suc, List, [], ◌∷◌, Option, Some, None, get_or, vec_capacity, vec_len}
use Rattle.std.specs.Prelude.{true, if◌then◌else◌}
use Rattle.std.specs.Borrow.{Fml, Lends, MutBor}
use Rattle.std.specs.Vec.{with_item}
use Rattle.std.specs.declared.alloc.Global.{Global}
use Rattle.std.specs.declared.vec.Vec.{Vec}
use Rattle.bstr.specs.Owned.{bstring_bytes}
use Rattle.gixobj_tree_entries.specs.KeyOrder.{key_of}
use Rattle.gixobj_editor_files.specs.Editing.{same_name}
use Rattle.gixobj_editor_entries.specs.Pieces.{HoldsAtPiece, IsPosition, flat_index, joined, pieces_at_most}
use Rattle.gixobj_editor_open.specs.Nested.{child_key}
use Rattle.gixobj_editor_open.specs.contracts.open.Child as child
use Rattle.gixobj_editor_open.specs.contracts.open.Children.{the_row}
use Rattle.gixobj_editor_open.specs.declared.children.Remaining.{Remaining}
use Rattle.gixobj_editor_open.specs.declared.open.Child.{Child}
use Rattle.gixobj_editor_open.specs.declared.open.Children.{Children}

-- a directory is at this index of this piece
abbrev pub IsAt : Children → ℕ → ℕ → Type 0
IsAt children piece index = IsPosition (λ (p : Vec Child Global). p.items) children.first.items children.more.items
    piece index

-- the number of directories before this index of this piece
abbrev pub index_of_child : Children → ℕ → ℕ → ℕ
index_of_child children piece index = flat_index (λ (p : Vec Child Global). p.items) children.first.items
    children.more.items piece index

-- the piece of the directory of a name has this number, and capacity for one directory more
abbrev pub HasRoom : Children → List ℕ → ℕ → Type 0
HasRoom children name piece =
    (piece ≡ pieces_at_most child_key (key_of name true) (λ (p : Vec Child Global). p.items) children.more.items)
    × HoldsAtPiece (λ (p : Vec Child Global). vec_len p < vec_capacity p) children.first children.more.items piece

-- the pieces with this directory at this index of this piece
abbrev pub with_child : Children → ℕ → ℕ → Child → Children
with_child children zero index next = record children { first = with_item children.first index next }
with_child children (suc piece) index next =
    record children {
      more = with_item children.more piece (with_item (get_or children.more.items piece children.first) index next);
    }

-- the pieces end with the last value of the reference as the directory at this position
abbrev pub LendsChild : MutBor Children → ℕ → ℕ → MutBor Child → Fml
LendsChild children piece index r = Lends the_row child.the_row children r (with_child children.now piece index)

-- the directories that remain
abbrev pub remaining_list : Remaining → List Child
remaining_list remaining = joined (λ (p : Vec Child Global). p.items) remaining.piece.now remaining.more.now

-- the first of these open directories, if it has this name
abbrev pub next_child : List ℕ → List Child → Option Child
next_child name [] = None
next_child name (c ∷ cs) = if same_name (bstring_bytes c.name) name then Some c else None

-- the open directories after the first if that has this name, and else all of them
abbrev pub pairs_after_next : List ℕ → List Child → List Child
pairs_after_next name [] = []
pairs_after_next name (c ∷ cs) = if same_name (bstring_bytes c.name) name then cs else c ∷ cs
