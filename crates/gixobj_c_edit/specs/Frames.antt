-- Trees as loose objects without compression, one after another: each is a frame (gitformat-loose, "Loose object
-- format"). The digest of a frame is the id of its tree.
use Rattle.std.specs.Prelude.{◌≡◌, ◌⊎◌, ◌++◌, ℕ, Contains, List, [], ◌∷◌, drop, length, ⊤}
use Rattle.std.specs.FinMap as map
use Rattle.gixobj_c_edit.specs.Lossy.{DecodesToLossyTree, DecodesToNoLossyTree, IsLossless}
use Rattle.gixobj_c_edit.specs.declared.failure.Failure.{Failure}
use Rattle.gixobj_c_edit.specs.declared.failure.Failure.TheVariants as failure
use Rattle.gixobj_c_edit.specs.declared.frames.Given.{Given}
use Rattle.gixobj_hash.specs.Runs.{BeginsWithPieces, Yields, broken, complete}
use Rattle.gixobj_hash.specs.Decode.{HasLooseHeaderOfLength}
use Rattle.gixobj_hash.specs.Encode.{encode_loose_header}
use Rattle.gixobj_hash.specs.Hash.{id_of}
use Rattle.gixobj_hash.specs.declared.hash.kind.Kind as hash
use Rattle.gixobj_hash.specs.declared.kind.Kind.TheVariants as kind
use Rattle.gixobj_store_keep.specs.Memory.{memory_objects}
use Rattle.gixobj_store_keep.specs.declared.memory.Memory.{Memory}
use Rattle.gixobj_store.specs.Stores.{Objects, StoredObject}
use Rattle.gixobj_tree_entries.specs.Entries.{EntryView, Pair}
use Rattle.gixobj_tree.specs.TreeEncoding.{IsUnencodableTree, encode_tree}

-- the input begins with the frame of this tree, and the rest follows
pub record BeginsWithFrame (input content rest : List ℕ) : Type 0 where
  pub used : ℕ
  pub header : HasLooseHeaderOfLength input kind.Tree (length content) used
  pub joined : drop used input ≡ content ++ rest

-- a frame comes next; a run of frames has no states
abbrev pub NextFrame : Unit {0} → List ℕ → List ℕ → Unit {0} → List ℕ → Type 0
NextFrame before input content following rest = BeginsWithFrame input content rest

-- the bytes are the frames of these trees
abbrev pub AreFrames : List ℕ → List (List ℕ) → Type 0
AreFrames bytes contents = Yields NextFrame tt bytes contents complete

-- the bytes are no frames: after some frames come other bytes
abbrev pub AreNoFrames : List ℕ → Type 0
AreNoFrames bytes = (contents : List (List ℕ)) × Yields NextFrame tt bytes contents broken

-- the objects after these trees are inserted, each under its id
abbrev pub with_contents : hash.Kind → List (List ℕ) → Objects → Objects
with_contents hash [] objects = objects
with_contents hash (content ∷ contents) objects = with_contents hash contents
    (map.insert objects (id_of hash kind.Tree content)
    (record { kind = kind.Tree; object_hash = hash; bytes = content }))

-- the objects of a store of these trees alone
abbrev pub objects_of : hash.Kind → List (List ℕ) → Objects
objects_of hash contents = with_contents hash contents map.empty

-- trees in order, those of them that aren't lossy, and those that are
pub data Parts (hash : hash.Kind) : List (List ℕ) → List (List ℕ) → List (List ℕ) → Type 0 where
  no_tree : Parts hash [] [] []
  other_tree : (contents others lossy : List (List ℕ)) (content : List ℕ) → Parts hash contents others lossy
      → DecodesToNoLossyTree hash content → Parts hash (contents ++ content ∷ []) (others ++ content ∷ []) lossy
  lossy_tree : (contents others lossy : List (List ℕ)) (content : List ℕ) → Parts hash contents others lossy
      → DecodesToLossyTree hash content → Parts hash (contents ++ content ∷ []) others (lossy ++ content ∷ [])

-- the bytes are frames; the first objects are their trees that aren't lossy, each under its id, and no other object;
-- the second objects are the lossy ones
pub record AreTreesOfFrames (hash : hash.Kind) (bytes : List ℕ) (objects lossy : Objects) : Type 0 where
  pub contents : List (List ℕ)
  pub other_contents : List (List ℕ)
  pub lossy_contents : List (List ℕ)
  pub frames : AreFrames bytes contents
  pub parts : Parts hash contents other_contents lossy_contents
  pub others_are : objects ≡ objects_of hash other_contents
  pub lossy_are : lossy ≡ objects_of hash lossy_contents

-- the stores have the trees of the frames
abbrev pub HoldsFrames : hash.Kind → List ℕ → Given → Type 0
HoldsFrames hash bytes it = AreTreesOfFrames hash bytes (memory_objects it.trees) (memory_objects it.lossy)

-- the tree as a stored object
abbrev pub stored_tree : hash.Kind → List ℕ → StoredObject
stored_tree hash content = record { kind = kind.Tree; object_hash = hash; bytes = content }

-- the tree is inserted in a store under its id
abbrev pub IsTreeInserted : hash.Kind → List ℕ → Memory → Memory → Type 0
IsTreeInserted hash content old new = memory_objects new
    ≡ map.insert (memory_objects old) (id_of hash kind.Tree content) (stored_tree hash content)

-- the tree is inserted with the lossy trees if it is lossy, and else with the others
abbrev pub IsInserted : hash.Kind → List ℕ → Given → Given → Type 0
IsInserted hash content old new =
    (DecodesToNoLossyTree hash content × IsTreeInserted hash content old.trees new.trees
    × (memory_objects new.lossy ≡ memory_objects old.lossy))
    ⊎ (DecodesToLossyTree hash content × IsTreeInserted hash content old.lossy new.lossy
    × (memory_objects new.trees ≡ memory_objects old.trees))

-- after some frames comes another one
abbrev pub HasFrame : List ℕ → Type 0
HasFrame bytes = (contents : List (List ℕ)) × (content rest after : List ℕ)
    × BeginsWithPieces NextFrame tt bytes contents tt rest × BeginsWithFrame rest content after

-- Malformed: the bytes are no frames; OutOfMemory: there is a frame, whose tree is stored
abbrev pub IsFramesError : List ℕ → Failure → Type 0
IsFramesError bytes failure.Malformed = AreNoFrames bytes
IsFramesError bytes failure.OutOfMemory = HasFrame bytes
IsFramesError bytes _ = ⊥

-- ---- encoding

-- the frame of a tree with these entries
abbrev pub encode_tree_frame : List EntryView → List ℕ
encode_tree_frame entries = encode_loose_header kind.Tree (length (encode_tree entries)) ++ encode_tree entries

-- the frame of a tree with its id
abbrev pub encode_frame : Pair → List ℕ
encode_frame pair = encode_tree_frame pair.1

-- NotEncodable: a name of the tree is rejected; LossyTree: the encoding of the tree with this id doesn't decode to it;
-- or out of memory
abbrev pub IsFrameError : hash.Kind → Pair → Failure → Type 0
IsFrameError hash pair failure.NotEncodable = IsUnencodableTree pair.1
IsFrameError hash pair (failure.LossyTree id) = (id ≡ pair.0) × (¬ IsLossless hash pair.1)
IsFrameError hash pair failure.OutOfMemory = ⊤
IsFrameError hash pair _ = ⊥

-- the error of one of the trees
abbrev pub IsFramesEncodeError : hash.Kind → List Pair → Failure → Type 0
IsFramesEncodeError hash pairs error = (pair : Pair) × Contains pairs pair × IsFrameError hash pair error
