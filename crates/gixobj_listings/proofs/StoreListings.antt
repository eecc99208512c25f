-- The files of a store's trees, in each table that agrees with the store: the returns and the step of `files_of`.
use Rattle.std.proofs.Common.{◌≡◌, ◌≢◌, ◌⊎◌, ◌+◌, ◌-◌, ◌<◌, ◌≤◌, ℕ, zero, suc, true, false, List, [], ◌∷◌, ◌++◌, ◌∙◌, All, ap, arith, get_or, length, map}
use Rattle.std.proofs.Common.{subst, sym, take}
use Rattle.std.proofs.lemmas.List.{take_all}
use Rattle.std.specs.List.{AllByRecursion}
use Rattle.std.specs.Prelude.{IsFalse}
use Rattle.gix_object.specs.Entries.{EntryView}
use Rattle.gix_object.specs.Files.{Files, NamedFiles, SameFiles, Table, Trees, is_null}
use Rattle.gix_object.specs.Mode.{is_tree_mode}
use Rattle.gix_object.specs.Openings.{AreTreesOf}
use Rattle.gix_object.specs.Stores.{Objects}
use Rattle.gix_object.specs.Tables.{AgreesWithStore}
use Rattle.gix_object.specs.hash.hash.object_id.ObjectId.{ObjectId}
use Rattle.gixobj_listings.proofs.FileListings.{lists_files_of_directory, lists_nil_at_null, lists_one_file_of_no_tree, lists_take_snoc}
use Rattle.gix_object.proofs.Files.{same_files_trans}
use Rattle.gixobj_listings.proofs.Rooted.{root_named}
use Rattle.gixobj_listings.proofs.Unread.{has_tree_of_read}
use Rattle.gixobj_listings.specs.FileLists.{FileView, IsBounded, Lists, with_first_name}
use Rattle.gixobj_listings.specs.Listings.{AreAllRead, HasFilesAt, HasFilesOf, HasFilesOfEntries, IsAtEntry}
use Rattle.gixobj_listings.specs.Roots.{IsRoot}

-- the files of the entries before a position
abbrev pub HasFilesBefore : Objects → ℕ → List EntryView → ℕ → List FileView → Type 0
HasFilesBefore objects depth tree i files = (trees : Trees) → AreTreesOf objects trees → (T : Table) (n : ℕ) → AgreesWithStore T trees → depth ≤ n
    → SameFiles (Lists files) (Files T n (take i tree))

no_files_of_none : (T : Table) (n : ℕ) → SameFiles (Lists []) (Files T n [])
no_files_of_none T zero path mode id = ((λ h. h), λ h. h)
no_files_of_none T (suc n) [] mode id = ((λ h. h), λ h. h)
no_files_of_none T (suc n) (name ∷ path) mode id = ((λ h. absurd h), λ h. absurd h.1)

pub has_files_before_first : (objects : Objects) (depth : ℕ) (tree : List EntryView) (files : List FileView) → files ≡ []
    → HasFilesBefore objects depth tree 0 files
has_files_before_first objects depth tree files none trees fits T n agrees le = rw none (no_files_of_none T n)

pub has_files_before_next : (objects : Objects) (depth : ℕ) → depth ≢ 0 → (tree : List EntryView) (i : ℕ) (e : EntryView) (name : List ℕ)
    (files below new : List FileView)
    → i < length tree → e ≡ get_or tree i e → name ≡ e.name → new ≡ files ++ map (with_first_name name) below → HasFilesBefore objects depth tree i files
    → HasFilesAt objects (depth - 1) e below
    → HasFilesBefore objects depth tree (i + 1) new
has_files_before_next objects depth some tree i e name files below new lt is named added so_far at trees fits T n agrees le =
    lists_take_snoc T n (nonzero_of_le depth n some le) tree i e name files below new lt is named added (so_far trees fits T n agrees le)
    (at trees fits T (n - 1) agrees (omega (arith, le)))
  where
    nonzero_of_le : (k m : ℕ) → k ≢ 0 → k ≤ m → m ≢ 0
    nonzero_of_le k m some le none = some (omega (arith, le, none))

pub has_files_of_root : ((x y : ObjectId) → (x ≡ y) ⊎ (x ≢ y)) → (objects : Objects) (depth : ℕ) (root : ObjectId) (tree : List EntryView) (i : ℕ)
    (files : List FileView)
    → IsRoot objects root tree → length tree ≤ i → HasFilesBefore objects depth tree i files → IsFalse (is_null root)
    → HasFilesOf objects depth root files
has_files_of_root same_or_not objects depth root tree i files is_root all so_far some trees fits T n agrees le =
    same_files_trans (Lists files) (Files T n tree) (NamedFiles T n root)
    (subst (λ (es : List EntryView). SameFiles (Lists files) (Files T n es)) (take_all i tree all) (so_far trees fits T n agrees le))
    (root_named same_or_not T objects trees root tree some fits agrees is_root n)

-- the same, by the entries of the root
pub has_files_of_entries : (objects : Objects) (depth : ℕ) (tree entries : List EntryView) (i : ℕ) (files : List FileView) → entries ≡ tree
    → length tree ≤ i → HasFilesBefore objects depth tree i files
    → HasFilesOfEntries objects depth entries files
has_files_of_entries objects depth tree entries i files same all so_far trees fits T n agrees le =
    subst (λ (es : List EntryView). SameFiles (Lists files) (Files T n es)) (take_all i tree all ∙ sym same) (so_far trees fits T n agrees le)

-- ---- the files at an entry

pub has_files_at_null : (objects : Objects) (depth : ℕ) (e : EntryView) (files : List FileView) → files ≡ [] → is_null e.id ≡ true
    → HasFilesAt objects depth e files
has_files_at_null objects depth e files none null trees fits T n agrees le = rw none (lists_nil_at_null T n e null)

pub has_files_at_file : (objects : Objects) (depth : ℕ) (e : EntryView) (files : List FileView) → is_null e.id ≡ false → is_tree_mode e.mode ≡ false
    → files ≡ record { path = []; mode = e.mode; id = e.id } ∷ []
    → HasFilesAt objects depth e files
has_files_at_file objects depth e files some other one trees fits T n agrees le = lists_one_file_of_no_tree T n e files some other one

pub has_files_at_directory : ((x y : ObjectId) → (x ≡ y) ⊎ (x ≢ y)) → (objects : Objects) (depth : ℕ) (e : EntryView) (files : List FileView)
    → is_null e.id ≡ false
    → is_tree_mode e.mode ≡ true → AreAllRead objects e.id → HasFilesOf objects depth e.id files
    → HasFilesAt objects depth e files
has_files_at_directory same_or_not objects depth e files some is read same trees fits T n agrees le =
    let there = has_tree_of_read same_or_not T objects trees fits agrees e (λ directory. read) is some in
    lists_files_of_directory T n e there.0 files some is there.1 (same trees fits T n agrees le)

-- the same, by the entry as the code has it
pub has_files_inside_directory : ((x y : ObjectId) → (x ≡ y) ⊎ (x ≢ y)) → (objects : Objects) (depth : ℕ) (inside e : EntryView) → inside ≡ e
    → (files : List FileView) → is_null e.id ≡ false → is_tree_mode e.mode ≡ true → AreAllRead objects inside.id
    → (IsFalse (is_null inside.id) → HasFilesOf objects depth inside.id files)
    → HasFilesAt objects depth e files
has_files_inside_directory same_or_not objects depth inside e same files some is read listed =
    let filled : is_null inside.id ≡ false = ap (λ (y : EntryView). is_null y.id) same ∙ some in
    let tree : is_tree_mode inside.mode ≡ true = ap (λ (y : EntryView). is_tree_mode y.mode) same ∙ is in
    subst (λ (y : EntryView). HasFilesAt objects depth y files) same
    (has_files_at_directory same_or_not objects depth inside files filled tree read (listed filled))

-- the paths of the files of a directory, from the bound of their lengths
pub at_directory_of_bounded : (depth : ℕ) (e : EntryView) → is_tree_mode e.mode ≡ true → (files : List FileView) → All (IsBounded depth) files
    → AllByRecursion (IsAtEntry depth e) files
at_directory_of_bounded depth e is [] all = tt
at_directory_of_bounded depth e is (file ∷ files) all =
    let first : IsBounded depth file = all 0 file (omega arith) in (
      (first.max_len, ((λ _. first.filled), λ other. absurd (cc (is, other)))),
      at_directory_of_bounded depth e is files (λ k d lt. all (suc k) d (omega (arith, lt))),
    )
