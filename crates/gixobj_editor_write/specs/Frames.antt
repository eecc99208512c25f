-- Frames of a walk: what came of each directory that is begun, what remains of it, and how heavy that is.
use Rattle.std.specs.Prelude.{◌≡◌, ◌≢◌, ◌+◌, ◌<◌, ℕ, List, [], ◌∷◌, ◌++◌, Option, Some, None, drop, get_or, length}
use Rattle.std.specs.Prelude.{true}
use Rattle.std.specs.List.{AllByRecursion}
use Rattle.std.specs.declared.alloc.Global.{Global}
use Rattle.std.specs.declared.vec.Vec.{Vec}
use Rattle.gixobj_tree_entries.specs.Entries.{EntryView, Pair}
use Rattle.gixobj_tree_entries.specs.KeyOrder.{ComesBefore}
use Rattle.gixobj_tree.specs.WellFormed.{EachLater, IsWellFormed}
use Rattle.gixobj_editor_entries.specs.Pieces.{AreNonEmpty}
use Rattle.gixobj_editor_files.specs.Editing.{has_tree}
use Rattle.gixobj_editor_files.specs.Emission.{EmitsBelow, EmitsEntries, entry_unless_null}
use Rattle.gixobj_editor_files.specs.Files.{Path}
use Rattle.gixobj_editor_files.specs.Opening.{Dirs, in_dir}
use Rattle.gixobj_editor_files.specs.WrittenTrees.{SharesBase, so_far}
use Rattle.gixobj_editor_open.specs.Children.{remaining_list}
use Rattle.gixobj_editor_write.specs.TakenTrees.{child_leaf_trees}
use Rattle.gixobj_editor_open.specs.LeafTrees.{inside_of, leaf_trees}
use Rattle.gixobj_editor_open.specs.Nested.{AreOrdered, Level, Opened, at_side, base_side, bases_of, below, dirs_of}
use Rattle.gixobj_editor_open.specs.Nested.{entries_side, part_at, parts}
use Rattle.gixobj_editor_write.specs.WriteErrors.{EmitsEntry, child_side}
use Rattle.gixobj_editor_write.specs.declared.frames.Frame.{Frame}
use Rattle.gixobj_editor_write.specs.declared.frames.HeldTree.{HeldTree}
use Rattle.gixobj_editor_write.specs.declared.frames.HeldTree.TheVariants as held
use Rattle.gixobj_editor_open.specs.declared.open.Child.{Child}
use Rattle.gixobj_editor_write.specs.declared.walk.Visit.{Visit}
use Rattle.gixobj_editor_write.specs.declared.walk.Visit.TheVariants as visit
use Rattle.gixobj_editor_write.specs.declared.walk.Step.{Step}
use Rattle.gixobj_editor_write.specs.declared.walk.Step.TheVariants as step

-- the remaining children are those of the remaining entries
pub record Ahead (node : Opened) (rest : List EntryView) (remaining : List Child) : Type 0 where
  pub same : (side : Level → List EntryView) → AllByRecursion (λ e. (path : Path)
      → at_side side node (e.name ∷ path) ≡ part_at side e.name (parts remaining) path) rest
  pub above : AllByRecursion (λ p. has_tree p.0 rest ≡ true) (parts remaining)
  pub ordered : AreOrdered (parts remaining)
  pub apart : EachLater (λ x y. x.name ≢ y.name) rest
  pub ascending : EachLater ComesBefore rest

-- the entries that a frame holds
abbrev pub held_entries : HeldTree → List EntryView
held_entries (held.Lent tree) = tree.now
held_entries (held.Copied tree) = tree

-- the entries that remain in a frame
abbrev pub remaining_entries : Frame → List EntryView
remaining_entries f = drop f.next (held_entries f.tree)

-- the written tree of a frame so far
abbrev pub written_entries : Frame → List EntryView
written_entries f = so_far f.base.now f.written_tree

-- a frame holds the entries and the base of its directory; the children that remain are those of these entries
pub record IsInStep (f : Frame) (rest : List EntryView) : Type 0 where
  pub root : dirs_of f.node.now [] ≡ Some (held_entries f.tree)
  pub based : bases_of f.node.now [] ≡ Some f.base.now
  pub formed : IsWellFormed (held_entries f.tree)
  pub shares_base : SharesBase f.base.now f.written_tree
  pub filled : AreNonEmpty (λ (p : Vec Child Global). p.items) f.remaining.more.now
  pub ahead : Ahead f.node.now rest (remaining_list f.remaining)

-- these pairs, and whatever the remaining entries emit, are what all entries of the frame emit
abbrev pub HasWalked : Frame → List Pair → ℕ → Type 0
HasWalked f ps count = (qs : List Pair) (written_tree : List EntryView) (n : ℕ)
    → EmitsEntries (dirs_of f.node.now) (bases_of f.node.now) (remaining_entries f) qs written_tree n
    → EmitsEntries (dirs_of f.node.now) (bases_of f.node.now) (held_entries f.tree) (ps ++ qs)
    (written_entries f ++ written_tree)
    (count + n)

-- what a frame has emitted so far: these pairs, leaf trees, and this number of unchanged directories
pub record HasEmitted (f : Frame) (ps : List Pair) (ts : List (List EntryView)) (count : ℕ) : Type 0 where
  pub in_step : IsInStep f (remaining_entries f)
  pub walked : HasWalked f ps count
  pub trees : ts ++ leaf_trees (below (parts (remaining_list f.remaining))) ≡ leaf_trees (inside_of f.node.now)

-- the directory itself is open
abbrev pub HasRoot : Opened → Type 0
HasRoot node = (entries : List EntryView) × (dirs_of node [] ≡ Some entries)

-- what a frame has emitted that waits for the directory of its next entry: these pairs, leaf trees, and this number of
-- unchanged directories
pub record Waits (f : Frame) (inner : Opened) (ps : List Pair) (ts : List (List EntryView)) (count : ℕ) : Type 0 where
  pub entry : EntryView
  pub low : f.next < length (held_entries f.tree)
  pub is : entry ≡ get_or (held_entries f.tree) f.next entry
  pub dirs : in_dir entry.name (dirs_of f.node.now) ≡ dirs_of inner
  pub bases : in_dir entry.name (bases_of f.node.now) ≡ bases_of inner
  pub root : HasRoot inner
  pub in_step : IsInStep f (drop (f.next + 1) (held_entries f.tree))
  pub walked : HasWalked f ps count
  pub trees : ts ++ (leaf_trees (inside_of inner) ++ leaf_trees (below (parts (remaining_list f.remaining))))
      ≡ leaf_trees (inside_of f.node.now)

-- a step, from this frame to this one, with these pairs and leaf trees
abbrev pub HasStepped : Step → Frame → Frame → List Pair → List (List EntryView) → Type 0
HasStepped step.Visited old new qs us = (ps : List Pair) (ts : List (List EntryView)) (count : ℕ)
    → HasEmitted old ps ts count → HasEmitted new (ps ++ qs) (ts ++ us) count
HasStepped (step.Begins inner) old new qs us = (ps : List Pair) (ts : List (List EntryView)) (count : ℕ)
    → HasEmitted old ps ts count → Waits new inner.now (ps ++ qs) (ts ++ us) count
HasStepped step.Ends old new qs us = (ps : List Pair) (ts : List (List EntryView)) (count : ℕ)
    → HasEmitted old ps ts count → HasEmitted new (ps ++ qs) (ts ++ us) count × (remaining_entries new ≡ [])

-- the frame emits these pairs next
abbrev pub EmitsNext : Frame → List Pair → Type 0
EmitsNext f qs = (ps : List Pair) (ts : List (List EntryView)) (count : ℕ) → HasEmitted f ps ts count
    → (written_tree : List EntryView) × (n : ℕ) × EmitsBelow (dirs_of f.node.now) (bases_of f.node.now)
    (ps ++ qs) written_tree n

-- the weight of open directories: two for each, and one for each entry
abbrev pub weight_of : Opened → ℕ
weight_of [] = 0
weight_of (d ∷ ds) = length d.1.0 + 2 + weight_of ds

-- the weight of a child, if there is one
abbrev pub child_weight : Option Child → ℕ
child_weight None = 0
child_weight (Some c) = weight_of c.open

-- the child has to be written first: it is this directory
pub record IsBegun (child : Option Child) (node : Opened) : Type 0 where
  pub dirs : child_side entries_side child ≡ dirs_of node
  pub bases : child_side base_side child ≡ bases_of node
  pub trees : child_leaf_trees child ≡ leaf_trees (inside_of node)
  pub weight : child_weight child ≡ weight_of node
  pub root : HasRoot node

-- an entry with this child emits these pairs and gets an id, or the child has to be written first
abbrev pub IsVisited : Visit → Option Child → EntryView → List Pair → Type 0
IsVisited (visit.Id id) child e inner =
    EmitsEntry (child_side entries_side child) (child_side base_side child) e inner (entry_unless_null e id) 0
IsVisited (visit.Begins node) child e inner = IsBegun child node.now × (inner ≡ [])

-- the leaf trees of a child that was visited, or none
abbrev pub visited_leaf_trees : Visit → Option Child → List (List EntryView)
visited_leaf_trees (visit.Id id) child = child_leaf_trees child
visited_leaf_trees (visit.Begins node) child = []

-- after its own pairs a directory of this base and written tree emits these pairs, and its entry becomes these entries
abbrev pub EmitsWritten : List EntryView → EntryView → List EntryView → List Pair → List EntryView → ℕ → Type 0
EmitsWritten base e written_tree more kept count = (inside based : Dirs) (inner : List Pair) (n : ℕ)
    → based [] ≡ Some base
    → EmitsBelow inside based inner written_tree n → EmitsEntry inside based e (inner ++ more) kept (n + count)

-- the frame goes on after the directory that it waited for, whose written tree emitted these pairs
abbrev pub HasResumed : Frame → Frame → Frame → List Pair → ℕ → Type 0
HasResumed old done new more k = (ps qs : List Pair) (ts us : List (List EntryView)) (count n : ℕ)
    → Waits old done.node.now ps ts count → HasEmitted done qs us n
    → HasEmitted new (ps ++ (qs ++ more)) (ts ++ us) (count + (n + k))

-- after the directory that the frame waited for, a write that stops has emitted these pairs of its written tree
abbrev pub EmitsAfter : Frame → Frame → List Pair → Type 0
EmitsAfter old done more = (ps qs : List Pair) (ts us : List (List EntryView)) (count n : ℕ)
    → Waits old done.node.now ps ts count → HasEmitted done qs us n
    → (written_tree : List EntryView) × (saved : ℕ)
    × EmitsBelow (dirs_of old.node.now) (bases_of old.node.now) (ps ++ (qs ++ more)) written_tree saved

-- the weight of what remains in a frame
abbrev pub frame_weight : Frame → ℕ
frame_weight f = length (remaining_entries f) + weight_of (below (parts (remaining_list f.remaining))) + 1

-- the weight of what a directory has that has to be begun
abbrev pub begun_weight : Step → ℕ
begun_weight step.Visited = 1
begun_weight (step.Begins inner) = weight_of inner.now
begun_weight step.Ends = 0
