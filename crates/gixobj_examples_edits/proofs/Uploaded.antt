-- The open directories that a write emits, and those that are unchanged; the proof of `upload_of` uses it.
use Rattle.std.proofs.Common.{◌≡◌, ◌≢◌, ◌<◌, ◌+◌, ◌∙◌, ⊎_elim, inl, inr, ℕ, All, Contains, List, [], ◌∷◌, ◌++◌, None, Option, Some, ap, append_assoc, arith}
use Rattle.std.proofs.Common.{length, length-append, map, refl, subst, sym}
use Rattle.std.proofs.lemmas.List.{append-nil, get_or-map, length-map, map-append}
use Rattle.std.proofs.lemmas.List.Elements.{All-append, All-cons, All-map, All-nil, All-weaker, Contains-append_left, Contains-append_right}
use Rattle.std.specs.List.{AllByRecursion}
use Rattle.gix_object.specs.Entries.{Pair, EntryView}
use Rattle.gix_object.specs.WellFormed.{EachLater, IsWellFormed}
use Rattle.gix_object.specs.Edits.{raised}
use Rattle.gix_object.specs.Files.{ContainsEntry, Path}
use Rattle.gix_object.specs.Emission.{Emits, EmitsBelow, EmitsEntries, left_out_if_empty, end, of_entries, unopened, unchanged, written}
use Rattle.gix_object.specs.Opening.{Dirs, HasAt, IsOpened, in_dir}
use Rattle.gix_object.specs.hash.hash.object_id.ObjectId.{ObjectId}
use Rattle.gixobj_examples_edits.proofs.DistinctPaths.{IsOf, IsPerhaps, Starts, once_under_append_append, entry_name_ne, starts_under_append_append}
use Rattle.gixobj_examples_edits.proofs.DistinctPaths.{starts_cons, under}
use Rattle.gixobj_examples_edits.specs.Uploads.{IsChanged, IsDivided, IsWrittenTree, IsSorted, IsUnchanged, AreDistinctPaths, Sent, loose_pair_of, path_of}

-- ---- lists

contains_map : {X Y : Type 0} (f : X → Y) (xs : List X) (x : X) → Contains xs x → Contains (map f xs) (f x)
contains_map f xs x (k, low, there) =
    let short : k < length (map f xs) = rw length-map low in
    (k, short, get_or-map f xs k x (f x) low ∙ ap f there)

nil_ne_snoc : (xs : List Pair) (x : Pair) → [] ≡ xs ++ x ∷ [] → ⊥
nil_ne_snoc [] x is = cc is
nil_ne_snoc (y ∷ xs) x is = cc is

snoc_injective : (xs ys : List Pair) (x y : Pair) → xs ++ x ∷ [] ≡ ys ++ y ∷ [] → (xs ≡ ys) × (x ≡ y)
snoc_injective [] [] x y is = (refl, cc is)
snoc_injective [] (b ∷ ys) x y is = let rest : [] ≡ ys ++ y ∷ [] = cc is in absurd (nil_ne_snoc ys y rest)
snoc_injective (a ∷ xs) [] x y is = let rest : [] ≡ xs ++ x ∷ [] = cc is in absurd (nil_ne_snoc xs x rest)
snoc_injective (a ∷ xs) (b ∷ ys) x y is =
    let first : a ≡ b = cc is in
    let rest : xs ++ x ∷ [] ≡ ys ++ y ∷ [] = cc is in
    let later = snoc_injective xs ys x y rest in
    (cc (first, later.0), later.1)

-- ---- open directories are in open directories

abbrev Closed : Dirs → Type 0
Closed dirs = (path : Path) (name : List ℕ) (entries : List EntryView) → dirs (path ++ name ∷ []) ≡ Some entries → (e : EntryView)
    × HasAt (dirs path) e
    × (e.name ≡ name)

abbrev IsOpen : Dirs → Path → Type 0
IsOpen dirs path = (entries : List EntryView) × (dirs path ≡ Some entries)

some_of_has_at : (at : Option (List EntryView)) (e : EntryView) → HasAt at e → (entries : List EntryView) × (at ≡ Some entries)
some_of_has_at None e has = absurd has
some_of_has_at (Some entries) e has = (entries, refl)

root_is_open_of_closed : (path : Path) (dirs : Dirs) (entries : List EntryView) → Closed dirs → dirs path ≡ Some entries → IsOpen dirs []
root_is_open_of_closed [] dirs entries closed is = (entries, is)
root_is_open_of_closed (name ∷ path) dirs entries closed is =
    let below : IsOpen (in_dir name dirs) [] = root_is_open_of_closed path (in_dir name dirs) entries (λ at. closed (name ∷ at)) is in
    let it = closed [] name below.0 below.1 in
    some_of_has_at (dirs []) it.0 it.1

-- ---- a directory in a longer list of pairs

module _ (dirs bases : Dirs) where
  written_tree_among : (pairs head part back : List Pair) → pairs ≡ head ++ (part ++ back) → (path : Path) (written_tree : List EntryView)
      → IsWrittenTree dirs bases part path written_tree
      → IsWrittenTree dirs bases pairs path written_tree
  written_tree_among pairs head part back is path written_tree it = record {
    prefix = head ++ it.prefix;
    below = it.below;
    back = it.back ++ back;
    count = it.count;
    split = is ∙ ap (λ (ps : List Pair). head ++ (ps ++ back)) it.split ∙ simp append_assoc;
    emits = it.emits;
  }

  changed_among : (pairs head part back : List Pair) → pairs ≡ head ++ (part ++ back) → (it : Sent) → IsChanged dirs bases part it
      → IsChanged dirs bases pairs it
  changed_among pairs head part back is it changed =
      record {
        written_tree = written_tree_among pairs head part back is it.path it.pair.1 changed.written_tree;
        filled = changed.filled;
        other =
            changed.other;
      }

  unchanged_among : (pairs head part back : List Pair) → pairs ≡ head ++ (part ++ back) → (path : Path) → IsUnchanged dirs bases part path
      → IsUnchanged dirs bases pairs path
  unchanged_among pairs head part back is path same =
      record {
        tree = same.tree;
        written_tree = written_tree_among pairs head part back is path same.tree same.written_tree;
        filled = same.filled;
        same =
            same.same;
      }

  sorted_among : (pairs head part back : List Pair) → pairs ≡ head ++ (part ++ back) → (sent : List Sent) (spared : List Path) (path : Path)
      → IsSorted dirs bases part sent spared path → IsSorted dirs bases pairs sent spared path
  sorted_among pairs head part back is sent spared path =
      ⊎_elim inl (λ stays. inr (⊎_elim inl (λ bare. inr (written_tree_among pairs head part back is path [] bare)) stays))

  sorted_after : (pairs : List Pair) (more sent : List Sent) (others spared : List Path) (path : Path) → IsSorted dirs bases pairs sent spared path
      → IsSorted dirs bases pairs (more ++ sent) (others ++ spared) path
  sorted_after pairs more sent others spared path =
      ⊎_elim (λ goes. inl (goes.0, Contains-append_right more sent (record { path = path; pair = goes.0 }) goes.1))
      (λ stays. inr (⊎_elim (λ at. inl (Contains-append_right others spared path at)) inr stays))

  sorted_before : (pairs : List Pair) (sent more : List Sent) (spared others : List Path) (path : Path) → IsSorted dirs bases pairs sent spared path
      → IsSorted dirs bases pairs (sent ++ more) (spared ++ others) path
  sorted_before pairs sent more spared others path =
      ⊎_elim (λ goes. inl (goes.0, Contains-append_left sent more (record { path = path; pair = goes.0 }) goes.1))
      (λ stays. inr (⊎_elim (λ at. inl (Contains-append_left spared others path at)) inr stays))

  -- the emitted and the unchanged directories, of some of the directories
  record Parts (pairs : List Pair) (saved : ℕ) : Type 0 where
    sent : List Sent
    spared : List Path
    entire : pairs ≡ map loose_pair_of sent
    changed : All (IsChanged dirs bases pairs) sent
    same : All (IsUnchanged dirs bases pairs) spared
    count : length spared ≡ saved

  abbrev IsIn : (pairs : List Pair) (saved : ℕ) → Parts pairs saved → Path → Type 0
  IsIn pairs saved parts path = IsSorted dirs bases pairs parts.sent parts.spared path

  -- each open directory below these entries is one of them
  abbrev AreParts : List EntryView → (pairs : List Pair) (saved : ℕ) → Parts pairs saved → Type 0
  AreParts entries pairs saved parts =
      Closed dirs → (e : EntryView) → ContainsEntry entries e → (path : Path) (there : List EntryView) → dirs (e.name ∷ path) ≡ Some there
      → IsIn pairs saved parts (e.name ∷ path)

  -- each open directory below this one is one of them
  abbrev AreAllParts : (pairs : List Pair) (saved : ℕ) → Parts pairs saved → Type 0
  AreAllParts pairs saved parts = Closed dirs → (name : List ℕ) (path : Path) (there : List EntryView) → dirs (name ∷ path) ≡ Some there
      → IsIn pairs saved parts (name ∷ path)

  -- no path is repeated, and each begins with a name of these
  record Onces (P : List ℕ → Type 0) (pairs : List Pair) (saved : ℕ) (parts : Parts pairs saved) : Type 0 where
    sent : AreDistinctPaths (map path_of parts.sent)
    sent_start : Starts P (map path_of parts.sent)
    spared : AreDistinctPaths parts.spared
    spared_start : Starts P parts.spared

-- each open directory is well-formed
abbrev Formed : Dirs → Type 0
Formed dirs = (path : Path) (entries : List EntryView) → dirs path ≡ Some entries → IsWellFormed entries

abbrev Any : List ℕ → Type 0
Any name = Unit {0}

abbrev AreNamedApart : List EntryView → Type 0
AreNamedApart entries = EachLater (λ (x : EntryView) (y : EntryView). x.name ≢ y.name) entries

abbrev inside : List ℕ → Sent → Sent
inside name it = record { path = name ∷ it.path; pair = it.pair }

loose_pairs_map_inside : (name : List ℕ) (sent : List Sent) → map loose_pair_of (map (inside name) sent) ≡ map loose_pair_of sent
loose_pairs_map_inside name [] = refl
loose_pairs_map_inside name (it ∷ sent) = ap (λ (ps : List Pair). it.pair ∷ ps) (loose_pairs_map_inside name sent)

paths_map_inside : (name : List ℕ) (sent : List Sent) → map path_of (map (inside name) sent) ≡ map (under name) (map path_of sent)
paths_map_inside name [] = refl
paths_map_inside name (it ∷ sent) = ap (λ (ps : List Path). (name ∷ it.path) ∷ ps) (paths_map_inside name sent)

-- ---- the directories in one, that one, and those after it

module _ (dirs bases : Dirs) (name : List ℕ) where
  written_tree_inside : (part : List Pair) (path : Path) (written_tree : List EntryView)
      → IsWrittenTree (in_dir name dirs) (in_dir name bases) part path written_tree
      → IsWrittenTree dirs bases part (name ∷ path) written_tree
  written_tree_inside part path written_tree it =
      record { prefix = it.prefix; below = it.below; back = it.back; count = it.count; split = it.split; emits = it.emits }

  changed_inside : (part : List Pair) (it : Sent) → IsChanged (in_dir name dirs) (in_dir name bases) part it
      → IsChanged dirs bases part (inside name it)
  changed_inside part it changed = record {
    written_tree = written_tree_inside part it.path it.pair.1 changed.written_tree;
    filled = changed.filled;
    other =
        changed.other;
  }

  unchanged_inside : (part : List Pair) (path : Path) → IsUnchanged (in_dir name dirs) (in_dir name bases) part path
      → IsUnchanged dirs bases part (name ∷ path)
  unchanged_inside part path same = record {
    tree = same.tree;
    written_tree = written_tree_inside part path same.tree same.written_tree;
    filled = same.filled;
    same = same.same;
  }

  sorted_inside : (part : List Pair) (sent : List Sent) (spared : List Path) (path : Path)
      → IsSorted (in_dir name dirs) (in_dir name bases) part sent spared path
      → IsSorted dirs bases part (map (inside name) sent) (map (under name) spared) (name ∷ path)
  sorted_inside part sent spared path =
      ⊎_elim (λ goes. inl (goes.0, contains_map (inside name) sent (record { path = path; pair = goes.0 }) goes.1))
      (λ stays. inr (⊎_elim (λ at. inl (contains_map (under name) spared path at)) (λ bare. inr (written_tree_inside part path [] bare)) stays))

  module _ (pairs inner below : List Pair) (low more total : ℕ) (here : List Sent) (kept : List Path)
      (is : pairs ≡ inner ++ (map loose_pair_of here ++ below))
      (sum : total ≡ low + (length kept + more))
      (mine : All (IsChanged dirs bases pairs) here) (its : All (IsUnchanged dirs bases pairs) kept)
      (in_it : Parts (in_dir name dirs) (in_dir name bases) inner low) (after : Parts dirs bases below more) where
    at_prefix : pairs ≡ [] ++ (inner ++ (map loose_pair_of here ++ below))
    at_prefix = is

    at_back : pairs ≡ (inner ++ map loose_pair_of here) ++ (below ++ [])
    at_back = is ∙ simp (append_assoc, append-nil)

    all_of_them : pairs ≡ map loose_pair_of (map (inside name) in_it.sent ++ (here ++ after.sent))
    all_of_them =
        let first : inner ≡ map loose_pair_of (map (inside name) in_it.sent) = in_it.entire ∙ sym (loose_pairs_map_inside name in_it.sent) in
        let apart : map loose_pair_of (map (inside name) in_it.sent ++ (here ++ after.sent)) ≡ map loose_pair_of (map (inside name) in_it.sent)
        ++ (map loose_pair_of here ++ map loose_pair_of after.sent) = simp map-append in
        cc (is, first, after.entire, apart)

    number : length (map (under name) in_it.spared ++ (kept ++ after.spared)) ≡ total
    number = simp (length-append, length-map) (omega (arith, in_it.count, after.count, sum))

    all_changed : All (IsChanged dirs bases pairs) (map (inside name) in_it.sent ++ (here ++ after.sent))
    all_changed =
        let There : Sent → Type 0 = IsChanged dirs bases pairs in
        let low = All-weaker (IsChanged (in_dir name dirs) (in_dir name bases) inner) (λ (it : Sent). There (inside name it))
        (λ it changed. changed_among dirs bases pairs [] inner (map loose_pair_of here ++ below) at_prefix (inside name it)
        (changed_inside inner it changed))
        in_it.sent in_it.changed in
        let late = All-weaker (IsChanged dirs bases below) There (λ it changed. changed_among dirs bases pairs (inner ++ map loose_pair_of here) below
        [] at_back it changed) after.sent after.changed in
        All-append There (map (inside name) in_it.sent) (here ++ after.sent) (All-map There (inside name) in_it.sent low)
        (All-append There here after.sent mine late)

    all_unchanged : All (IsUnchanged dirs bases pairs) (map (under name) in_it.spared ++ (kept ++ after.spared))
    all_unchanged =
        let There : Path → Type 0 = IsUnchanged dirs bases pairs in
        let low = All-weaker (IsUnchanged (in_dir name dirs) (in_dir name bases) inner) (λ (path : Path). There (under name path))
        (λ path same. unchanged_among dirs bases pairs [] inner (map loose_pair_of here ++ below) at_prefix (name ∷ path)
        (unchanged_inside inner path same))
        in_it.spared in_it.same in
        let late = All-weaker (IsUnchanged dirs bases below) There
        (λ path same. unchanged_among dirs bases pairs (inner ++ map loose_pair_of here) below
        [] at_back path same) after.spared after.same in
        All-append There (map (under name) in_it.spared) (kept ++ after.spared) (All-map There (under name) in_it.spared low)
        (All-append There kept after.spared its late)

    abbrev joined : Parts dirs bases pairs total
    joined = record {
      sent = map (inside name) in_it.sent ++ (here ++ after.sent);
      spared = map (under name) in_it.spared ++ (kept ++ after.spared);
      entire = all_of_them;
      changed = all_changed;
      same = all_unchanged;
      count = number;
    }

    at_or_below : AreAllParts (in_dir name dirs) (in_dir name bases) inner low in_it → Closed dirs → IsIn dirs bases pairs total joined (name ∷ [])
        → (path : Path) (there : List EntryView) → dirs (name ∷ path) ≡ Some there → IsIn dirs bases pairs total joined (name ∷ path)
    at_or_below all closed this [] there open_there = this
    at_or_below all closed this (next ∷ path) there open_there =
        let its = all (λ at. closed (name ∷ at)) next path there open_there in
        sorted_before dirs bases pairs (map (inside name) in_it.sent) (here ++ after.sent) (map (under name) in_it.spared) (kept ++ after.spared)
        (name ∷ next ∷ path)
        (sorted_among dirs bases pairs [] inner (map loose_pair_of here ++ below) at_prefix (map (inside name) in_it.sent)
        (map (under name) in_it.spared)
        (name ∷ next ∷ path) (sorted_inside inner in_it.sent in_it.spared (next ∷ path) its))

    each_joined : (e : EntryView) (rest : List EntryView) → e.name ≡ name → IsIn dirs bases pairs total joined (name ∷ [])
        → AreAllParts (in_dir name dirs) (in_dir name bases) inner low in_it
        → AreParts dirs bases rest below more after → AreParts dirs bases (e ∷ rest) pairs total joined
    each_joined e rest named this all others closed x (inl same) path there open_there =
        let so : x.name ≡ name = sym (ap (λ (y : EntryView). y.name) same) ∙ named in
        let at : (path : Path) → dirs (name ∷ path) ≡ Some there → IsIn dirs bases pairs total joined (name ∷ path) =
        λ path open_there. at_or_below all closed this path there open_there in
        subst (λ (first : List ℕ). IsIn dirs bases pairs total joined (first ∷ path)) (sym so)
        (at path (subst (λ (first : List ℕ). dirs (first ∷ path) ≡ Some there) so open_there))
    each_joined e rest named this all others closed x (inr later) path there open_there =
        let its = others closed x later path there open_there in
        sorted_after dirs bases pairs (map (inside name) in_it.sent) (here ++ after.sent) (map (under name) in_it.spared) (kept ++ after.spared)
        (x.name ∷ path)
        (sorted_after dirs bases pairs here after.sent kept after.spared (x.name ∷ path)
        (sorted_among dirs bases pairs (inner ++ map loose_pair_of here) below [] at_back after.sent after.spared (x.name ∷ path) its))

    paths_joined : map path_of (map (inside name) in_it.sent ++ (here ++ after.sent)) ≡ map (under name) (map path_of in_it.sent)
        ++ (map path_of here ++ map path_of after.sent)
    paths_joined =
        let apart : map path_of (map (inside name) in_it.sent ++ (here ++ after.sent)) ≡ map path_of (map (inside name) in_it.sent)
        ++ (map path_of here ++ map path_of after.sent) = simp map-append in
        apart ∙ ap (λ (ps : List Path). ps ++ (map path_of here ++ map path_of after.sent)) (paths_map_inside name in_it.sent)

    once_joined : (e : EntryView) (rest : List EntryView) → e.name ≡ name → AllByRecursion (λ (x : EntryView). e.name ≢ x.name) rest
        → IsPerhaps name (map path_of here) → IsPerhaps name kept
        → Onces (in_dir name dirs) (in_dir name bases) Any inner low in_it → Onces dirs bases (IsOf rest) below more after
        → Onces dirs bases (IsOf (e ∷ rest)) pairs total joined
    once_joined e rest named others one_here one_kept lower later =
        let differ : (n : List ℕ) → IsOf rest n → n ≢ name = λ n of same. entry_name_ne e rest others n of (same ∙ sym named) in
        let more : (n : List ℕ) → IsOf rest n → IsOf (e ∷ rest) n = λ n of. (of.0, inr of.1, of.2) in
        let this : IsOf (e ∷ rest) name = (e, inl refl, named) in
        let goes = map path_of after.sent in
        record {
          sent = subst AreDistinctPaths (sym paths_joined)
              (once_under_append_append Any name (map path_of in_it.sent) (map path_of here) goes one_here lower.sent lower.sent_start later.sent
              (starts_cons (IsOf rest) (λ n. n ≢ name) differ goes later.sent_start));
          sent_start = subst (Starts (IsOf (e ∷ rest))) (sym paths_joined)
              (starts_under_append_append (IsOf (e ∷ rest)) name (map path_of in_it.sent) (map path_of here) goes one_here this
              (starts_cons (IsOf rest) (IsOf (e ∷ rest)) more goes later.sent_start));
          spared = once_under_append_append Any name in_it.spared kept after.spared one_kept lower.spared lower.spared_start later.spared
              (starts_cons (IsOf rest) (λ n. n ≢ name) differ after.spared later.spared_start);
          spared_start = starts_under_append_append (IsOf (e ∷ rest)) name in_it.spared kept after.spared one_kept this
              (starts_cons (IsOf rest) (IsOf (e ∷ rest)) more after.spared later.spared_start);
        }

-- ---- all directories of a write

written_tree_in_dir : (dirs bases : Dirs) (name : List ℕ) (inner back : List Pair) (written_tree : List EntryView) (count : ℕ)
    → EmitsBelow (in_dir name dirs) (in_dir name bases) inner written_tree count → IsWrittenTree dirs bases (inner ++ back) (name ∷ []) written_tree
written_tree_in_dir dirs bases name inner back written_tree count it = record {
  prefix = [];
  below = inner;
  back = back;
  count = count;
  split = refl;
  emits =
      it;
}

all_changed_nil : (dirs bases : Dirs) (pairs : List Pair) → All (IsChanged dirs bases pairs) []
all_changed_nil dirs bases pairs = All-nil (IsChanged dirs bases pairs)

all_unchanged_nil : (dirs bases : Dirs) (pairs : List Pair) → All (IsUnchanged dirs bases pairs) []
all_unchanged_nil dirs bases pairs = All-nil (IsUnchanged dirs bases pairs)

all_changed_singleton : (dirs bases : Dirs) (pairs : List Pair) (it : Sent) → IsChanged dirs bases pairs it → All (IsChanged dirs bases pairs) (it ∷ [])
all_changed_singleton dirs bases pairs it changed = All-cons (IsChanged dirs bases pairs) it [] changed (all_changed_nil dirs bases pairs)

all_unchanged_singleton : (dirs bases : Dirs) (pairs : List Pair) (path : Path) → IsUnchanged dirs bases pairs path
    → All (IsUnchanged dirs bases pairs) (path ∷ [])
all_unchanged_singleton dirs bases pairs path same = All-cons (IsUnchanged dirs bases pairs) path [] same (all_unchanged_nil dirs bases pairs)

mutual
  emits_below_parted : (dirs bases : Dirs) (pairs : List Pair) (written_tree : List EntryView) (saved : ℕ) → EmitsBelow dirs bases pairs written_tree saved
      → (parts : Parts dirs bases pairs saved) × AreAllParts dirs bases pairs saved parts × (Formed dirs → Onces dirs bases Any pairs saved parts)
  emits_below_parted dirs bases pairs written_tree saved (of_entries d b entries below os n is walk) =
      let it = walk_parted d b entries below os n walk in (
        it.0,
        λ closed name path there open_there.
            let first = root_is_open_of_closed path (in_dir name d) there (λ at. closed (name ∷ at)) open_there in
            let (e, has, named) = closed [] name first.0 first.1 in
            let one : ContainsEntry entries e = subst (λ (found : Option (List EntryView)). HasAt found e) is has in
            subst (λ (n : List ℕ). IsSorted d b below it.0.sent it.0.spared (n ∷ path)) named
            (it.1 closed e one path there (subst (λ (n : List ℕ). d (n ∷ path) ≡ Some there) (sym named) open_there)),
        λ formed.
            let once = it.2 formed (formed [] entries is).apart in
            let any : (n : List ℕ) → IsOf entries n → Any n = λ n of. tt in
            record {
              sent = once.sent;
              sent_start = starts_cons (IsOf entries) Any any (map path_of it.0.sent) once.sent_start;
              spared = once.spared;
              spared_start = starts_cons (IsOf entries) Any any it.0.spared once.spared_start;
            },
      )

  walk_parted : (dirs bases : Dirs) (entries : List EntryView) (pairs : List Pair) (written_tree : List EntryView) (saved : ℕ)
      → EmitsEntries dirs bases entries pairs written_tree saved
      → (parts : Parts dirs bases pairs saved) × AreParts dirs bases entries pairs saved parts
      × (Formed dirs → AreNamedApart entries → Onces dirs bases (IsOf entries) pairs saved parts)
  walk_parted dirs bases entries pairs written_tree saved (end d b) = (
    record { sent = []; spared = []; entire = refl; changed = all_changed_nil d b []; same = all_unchanged_nil d b []; count = refl },
    λ closed e has. absurd has,
    λ formed apart. record { sent = tt; sent_start = tt; spared = tt; spared_start = tt },
  )
  walk_parted dirs bases entries pairs written_tree saved (unopened d b e rest below os n none walk) =
      let it = walk_parted d b rest below os n walk in (
        it.0,
        λ closed x has path there open_there. ⊎_elim
            (λ same. absurd
            (let first = root_is_open_of_closed path (in_dir x.name d) there (λ at. closed (x.name ∷ at)) open_there in
            let none_at : d (x.name ∷ []) ≡ None = subst (λ (y : EntryView). d (y.name ∷ []) ≡ None) same none in
            let both : Some first.0 ≡ None = sym first.1 ∙ none_at in
            cc both))
            (λ later. it.1 closed x later path there open_there) has,
        λ formed apart.
            let once = it.2 formed apart.1 in
            let more : (n : List ℕ) → IsOf rest n → IsOf (e ∷ rest) n = λ n of. (of.0, inr of.1, of.2) in
            record {
              sent = once.sent;
              sent_start = starts_cons (IsOf rest) (IsOf (e ∷ rest)) more (map path_of it.0.sent) once.sent_start;
              spared = once.spared;
              spared_start = starts_cons (IsOf rest) (IsOf (e ∷ rest)) more it.0.spared once.spared_start;
            },
      )
  walk_parted dirs bases entries pairs written_tree saved (left_out_if_empty d b e rest inner below os m n found walk) =
      let low = emits_below_parted (in_dir e.name d) (in_dir e.name b) inner [] m found in
      let it = walk_parted d b rest below os n walk in
      let sum : m + n ≡ m + (length {A = Path} [] + n) = omega arith in (
        joined d b e.name (inner ++ below) inner below m n (m + n) [] [] refl sum (all_changed_nil d b (inner ++ below))
            (all_unchanged_nil d b (inner ++ below)) low.0 it.0,
        each_joined d b e.name (inner ++ below) inner below m n (m + n) [] [] refl sum (all_changed_nil d b (inner ++ below))
            (all_unchanged_nil d b (inner ++ below)) low.0 it.0 e rest refl (inr (inr (written_tree_in_dir d b e.name inner below [] m found))) low.1 it.1,
        λ formed apart. once_joined d b e.name (inner ++ below) inner below m n (m + n) [] [] refl sum (all_changed_nil d b (inner ++ below))
            (all_unchanged_nil d b (inner ++ below)) low.0 it.0 e rest refl apart.0 (inl refl) (inl refl) (low.2 (λ path. formed (e.name ∷ path)))
            (it.2 formed apart.1),
      )
  walk_parted dirs bases entries pairs written_tree saved (unchanged d b e first rest more inner below os m n found same walk) =
      let low = emits_below_parted (in_dir e.name d) (in_dir e.name b) inner (first ∷ more) m found in
      let it = walk_parted d b rest below os n walk in
      let tree : List EntryView = first ∷ more in
      let kept : List Path = (e.name ∷ []) ∷ [] in
      let sum : m + 1 + n ≡ m + (1 + n) = omega arith in
      let its : All (IsUnchanged d b (inner ++ below)) kept =
      all_unchanged_singleton d b (inner ++ below) (e.name ∷ [])
      (record { tree = tree; written_tree = written_tree_in_dir d b e.name inner below tree m found; filled = λ empty. cc empty; same = same }) in
      let at = Contains-append_right (map (under e.name) low.0.spared) (kept ++ it.0.spared) (e.name ∷ [])
      (Contains-append_left kept it.0.spared (e.name ∷ []) (0, omega arith, refl)) in (
        joined d b e.name (inner ++ below) inner below m n (m + 1 + n) [] kept refl sum (all_changed_nil d b (inner ++ below)) its low.0 it.0,
        each_joined d b e.name (inner ++ below) inner below m n (m + 1 + n) [] kept refl sum (all_changed_nil d b (inner ++ below)) its low.0 it.0 e rest
            refl
            (inr (inl at)) low.1 it.1,
        λ formed apart. once_joined d b e.name (inner ++ below) inner below m n (m + 1 + n) [] kept refl sum
            (all_changed_nil d b (inner ++ below)) its low.0 it.0
            e rest refl apart.0 (inl refl) (inr refl) (low.2 (λ path. formed (e.name ∷ path))) (it.2 formed apart.1),
      )
  walk_parted dirs bases entries pairs written_tree saved (written d b e first rest more inner below os m n id found other walk) =
      let low = emits_below_parted (in_dir e.name d) (in_dir e.name b) inner (first ∷ more) m found in
      let it = walk_parted d b rest below os n walk in
      let tree : List EntryView = first ∷ more in
      let all : List Pair = inner ++ (id, tree) ∷ below in
      let one : Sent = record { path = e.name ∷ []; pair = (id, tree) } in
      let sum : m + n ≡ m + (0 + n) = omega arith in
      let mine : All (IsChanged d b all) (one ∷ []) =
      all_changed_singleton d b all one (record {
        written_tree = written_tree_in_dir d b e.name inner ((id, tree) ∷ below) tree m found;
        filled = λ empty. cc empty;
        other = other;
      }) in
      let at = Contains-append_right (map (inside e.name) low.0.sent) ((one ∷ []) ++ it.0.sent) one
      (Contains-append_left (one ∷ []) it.0.sent one (0, omega arith, refl)) in (
        joined d b e.name all inner below m n (m + n) (one ∷ []) [] refl sum mine (all_unchanged_nil d b all) low.0 it.0,
        each_joined d b e.name all inner below m n (m + n) (one ∷ []) [] refl sum mine (all_unchanged_nil d b all) low.0 it.0 e rest refl
            (inl ((id, tree), at)) low.1 it.1,
        λ formed apart. once_joined d b e.name all inner below m n (m + n) (one ∷ []) [] refl sum mine (all_unchanged_nil d b all) low.0 it.0 e rest refl
            apart.0
            (inr refl) (inl refl) (low.2 (λ path. formed (e.name ∷ path))) (it.2 formed apart.1),
      )

closed_of_is_opened : (dirs : Dirs) → IsOpened dirs → Closed dirs
closed_of_is_opened dirs is path name entries there = let it = is.above path name entries there in (it.0, it.1, it.2)

-- the emitted pairs of a write, without its own
pub is_divided_of_walk : (dirs bases : Dirs) (pairs below : List Pair) (saved : ℕ) (id : ObjectId) (written_tree : List EntryView)
    → Emits dirs bases saved pairs
    → pairs ≡ below ++ (id, written_tree) ∷ [] → IsDivided dirs bases pairs id saved
is_divided_of_walk dirs bases pairs below saved id written_tree (part, its_id, its_own, (count, goes, saves), full) last =
    let (parts, each, once) = emits_below_parted dirs bases part its_own count goes in
    let same = snoc_injective part below (its_id, its_own) (id, written_tree) (sym full ∙ last) in
    let its : List Pair = (its_id, its_own) ∷ [] in
    let among : pairs ≡ [] ++ (part ++ its) = full in
    record {
      sent = parts.sent;
      spared = parts.spared;
      written_tree = written_tree;
      entire = last ∙ ap (λ (ps : List Pair). ps ++ (id, written_tree) ∷ []) (sym same.0 ∙ parts.entire);
      changed = All-weaker (IsChanged dirs bases part) (IsChanged dirs bases pairs) (λ it. changed_among dirs bases pairs [] part its among it)
          parts.sent
          parts.changed;
      same = All-weaker (IsUnchanged dirs bases part) (IsUnchanged dirs bases pairs) (λ path. unchanged_among dirs bases pairs [] part its among path)
          parts.spared parts.same;
      count = saves ∙ ap (raised 0) (sym parts.count);
      once = λ opened. let them = once opened.well_formed in (them.sent, them.spared);
      each = λ opened name path entries there.
          sorted_among dirs bases pairs [] part its among parts.sent parts.spared (name ∷ path)
          (each (closed_of_is_opened dirs opened) name path entries there);
    }
