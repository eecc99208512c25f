-- The directories of a tree that a store has, and the first that isn't read; used for the listing and the comparison.
use Rattle.std.proofs.Common.{◌≡◌, ◌≢◌, ◌⊎◌, ◌+◌, ◌-◌, ◌<◌, ◌∙◌, inl, inr, ⊎_elim, ℕ, zero, suc, Bool, true, false, List, [], ◌∷◌, ◌++◌, ap, arith, get_or}
use Rattle.std.proofs.Common.{length, refl, subst, sym, take, Some}
use Rattle.std.proofs.lemmas.List.{take_more}
use Rattle.std.specs.Cmp.Lexicographic.{nat_list_cmp_total, slice_cmp}
use Rattle.std.specs.Ordering.{nat_cmp, ordering_reverse}
use Rattle.std.specs.Prelude.{IsFalse}
use Rattle.std.specs.declared.cmp.Ordering.TheVariants.{Less}
use Rattle.gix_object.specs.Calls.{names_of}
use Rattle.gix_object.specs.Entries.{EntryView}
use Rattle.gix_object.specs.Existing.{IsEmptyId}
use Rattle.gix_object.specs.Files.{ContainsEntry, Path, Table, Trees, is_null}
use Rattle.gix_object.specs.Hash.{id_kind, id_of}
use Rattle.gix_object.specs.KeyOrder.{ComesBefore, entry_key, key_of}
use Rattle.gix_object.specs.Mode.{is_tree_mode}
use Rattle.gix_object.specs.Openings.{AreTreesOf, NamesTree}
use Rattle.gix_object.specs.Stores.{Objects, StoredObject}
use Rattle.gix_object.specs.Tables.{AgreesWithStore}
use Rattle.gix_object.specs.TreeDecoding.{DecodesToTree}
use Rattle.gix_object.specs.WellFormed.{AreApart}
use Rattle.gix_object.specs.hash.hash.kind.Kind.{Kind}
use Rattle.gix_object.specs.hash.hash.object_id.ObjectId.{ObjectId}
use Rattle.gix_object.specs.hash.kind.Kind.TheVariants.{Tree}
use Rattle.gixobj_listings.proofs.FileListings.{all_by_recursion_of_has, contains_entry_cases, take_or_at_or_after}
use Rattle.gixobj_listings.proofs.Rooted.{root_there}
use Rattle.gixobj_listings.specs.FileLists.{OpenedBefore}
use Rattle.gixobj_listings.specs.Listings.{AreAllRead, AreReadBelow, IsDirectory, IsErrorWithin, IsFirstUnread, IsListError, IsListErrorAt, IsRead, IsUnread}
use Rattle.gixobj_listings.specs.Listings.{IsUnreadError, LeadsToDirectory}
use Rattle.gixobj_listings.specs.Roots.{IsRoot}
use Rattle.gixobj_listings.specs.declared.listing.ListError.{ListError}
use Rattle.gixobj_listings.specs.declared.listing.ListError.TheVariants as list
use Rattle.gixobj_listings.specs.declared.listing.UnreadError.{UnreadError}
use Rattle.gixobj_listings.specs.declared.listing.UnreadError.TheVariants as unread

-- no key is less than another that is less than it
pub less_asymmetric : (a b : List ℕ) → slice_cmp nat_cmp a b ≡ Less → slice_cmp nat_cmp b a ≡ Less → ⊥
less_asymmetric a b less more = cc (nat_list_cmp_total.antisymm b a ∙ ap ordering_reverse less, more)

-- an entry with the name of another is that entry, if the names of the list are distinct
pub entry_of_name_is_unique : (es : List EntryView) (x y : EntryView) → AreApart es → ContainsEntry es x → ContainsEntry es y → x.name ≡ y.name → x ≡ y
entry_of_name_is_unique [] x y apart has other same = absurd has
entry_of_name_is_unique (e ∷ es) x y apart (inl is) (inl also) same = sym is ∙ also
entry_of_name_is_unique (e ∷ es) x y apart (inl is) (inr other) same =
    absurd (all_by_recursion_of_has (λ z. e.name ≢ z.name) es y apart.0 other (ap (λ (z : EntryView). z.name) is ∙ same))
entry_of_name_is_unique (e ∷ es) x y apart (inr has) (inl also) same =
    absurd (all_by_recursion_of_has (λ z. e.name ≢ z.name) es x apart.0 has (ap (λ (z : EntryView). z.name) also ∙ sym same))
entry_of_name_is_unique (e ∷ es) x y apart (inr has) (inr other) same = entry_of_name_is_unique es x y apart.1 has other same

-- the key of a directory
directory_key : (e : EntryView) → is_tree_mode e.mode ≡ true → entry_key e ≡ key_of e.name true
directory_key e is = rw is refl

unread_error_with_name : (objects : Objects) (may_fail : ObjectId → Bool) (depth : ℕ) → depth ≢ 0 → (name : List ℕ) (path : Path) (id : ObjectId)
    (cause : UnreadError)
    → IsUnreadError objects may_fail (depth - 1) path id cause
    → IsUnreadError objects may_fail depth (name ∷ path) id cause
unread_error_with_name objects may_fail depth some name path id (unread.Tree cause) why = why
unread_error_with_name objects may_fail zero some name path id unread.TooDeep why = absurd (some refl)
unread_error_with_name objects may_fail (suc depth) some name path id unread.TooDeep why = omega (arith, why)

module _ (objects : Objects) (same_or_not : (x y : ObjectId) → (x ≡ y) ⊎ (x ≢ y))
    (one_tree : (kind : Kind) (bytes : List ℕ) (es fs : List EntryView) → DecodesToTree kind bytes es → DecodesToTree kind bytes fs → es ≡ fs) where
  names_one_tree : (id : ObjectId) (es fs : List EntryView) → NamesTree objects id es → NamesTree objects id fs → es ≡ fs
  names_one_tree id es fs ((kept, is, kind, decodes), formed) ((other, also, other_kind, other_decodes), other_formed) =
      let same : kept ≡ other = cc (is, also) in
      one_tree kept.object_hash kept.bytes es fs decodes
      (subst (λ (it : StoredObject). DecodesToTree it.object_hash it.bytes fs) (sym same) other_decodes)

  -- an id has one root
  pub is_root_unique : (id : ObjectId) (es fs : List EntryView) → IsRoot objects id es → IsRoot objects id fs → es ≡ fs
  is_root_unique id es fs is also = ⊎_elim (λ (empty : IsEmptyId Tree id). is.empty empty ∙ sym (also.empty empty))
      (λ other. names_one_tree id es fs (is.stored other) (also.stored other)) (same_or_not id (id_of (id_kind id) Tree []))

  module _ (root : ObjectId) (entries : List EntryView) (is_root : IsRoot objects root entries) where
    -- the store has each directory of a root, if it has those of each of the entries
    pub are_all_read_of_entries : ((e : EntryView) → ContainsEntry entries e → AreReadBelow objects e) → AreAllRead objects root
    are_all_read_of_entries read [] id leads = (entries, subst (λ (it : ObjectId). IsRoot objects it entries) leads is_root)
    are_all_read_of_entries read (name ∷ path) id (others, also, (e, has, called, directory, leads)) =
        read e (subst (λ (es : List EntryView). ContainsEntry es e) (is_root_unique root others entries also is_root) has) directory path id leads

    -- the error of an entry is that of its root, if the store has the directories of the entries before it
    module _ (i : ℕ) (e : EntryView) (lt : i < length entries) (is : e ≡ get_or entries i e) (has_e : ContainsEntry entries e) (directory : IsDirectory e)
        (read : (x : EntryView) → ContainsEntry (take i entries) x → AreReadBelow objects x) where
      read_before : (x : EntryView) → ContainsEntry entries x → IsDirectory x → slice_cmp nat_cmp (key_of x.name true) (key_of e.name true) ≡ Less
          → ContainsEntry (take i entries) x
      read_before x has is_directory less =
          let before : ComesBefore x e = rw (directory_key x is_directory.0, directory_key e directory.0) less in
          ⊎_elim (λ k. k)
          (λ k. absurd (⊎_elim
          (λ same.
          let itself : ComesBefore x x = subst (λ (z : EntryView). ComesBefore x z) (sym same) before in
          less_asymmetric (entry_key x) (entry_key x) itself itself)
          (λ after. less_asymmetric (entry_key x) (entry_key e) before after) k))
          (take_or_at_or_after entries i e x is_root.well_formed.ascending lt is has)

      earlier_read : (path : Path) (id : ObjectId) → IsFirstUnread objects e.id path id → (before : Path) (other : ObjectId)
          → LeadsToDirectory objects root before other → OpenedBefore before (e.name ∷ path)
          → IsRead objects other
      earlier_read path id inner [] other leads opened = (entries, subst (λ (it : ObjectId). IsRoot objects it entries) leads is_root)
      earlier_read path id inner (name ∷ rest) other (others, also, (x, has, called, is_directory, leads)) opened =
          let has_x : ContainsEntry entries x = subst (λ (es : List EntryView). ContainsEntry es x) (is_root_unique root others entries also is_root) has in
          ⊎_elim
          (λ less. read x (read_before x has_x is_directory (subst (λ (n : List ℕ). slice_cmp nat_cmp (key_of n true) (key_of e.name true) ≡ Less)
          (sym called) less))
          is_directory rest other leads)
          (λ within.
          let same : x ≡ e = entry_of_name_is_unique entries x e is_root.well_formed.apart has_x has_e (called ∙ within.0) in
          inner.earlier rest other (subst (λ (z : EntryView). LeadsToDirectory objects z.id rest other) same leads) within.1)
          opened

      pub first_unread_of_entry : (path : Path) (id : ObjectId) → IsFirstUnread objects e.id path id → IsFirstUnread objects root (e.name ∷ path) id
      first_unread_of_entry path id inner = record {
        leads = (entries, is_root, (e, has_e, refl, directory, inner.leads));
        earlier = earlier_read path id inner;
      }

      pub list_error_of_directory : (may_fail : ObjectId → Bool) (depth : ℕ) → depth ≢ 0 → (inner error : ListError)
          → IsListError objects may_fail (depth - 1) e.id inner
          → IsErrorWithin e.name inner error
          → IsListError objects may_fail depth root error
      list_error_of_directory may_fail depth some (list.Directory path id cause) (list.Directory path' id' cause') (first, why) (longer, same_id, same_cause) =
          rw (longer, same_id, same_cause) (
            first_unread_of_entry (names_of path.items) id first,
            unread_error_with_name objects may_fail depth some e.name (names_of path.items) id cause why,
          )
      list_error_of_directory may_fail depth some inner list.OutOfMemory is within = tt
      list_error_of_directory may_fail depth some list.OutOfMemory (list.Directory path' id' cause') is within = absurd within

-- the entries before a position and the entry there have the directories
pub read_take_snoc : (objects : Objects) (tree : List EntryView) (i : ℕ) (e : EntryView) → i < length tree → e ≡ get_or tree i e
    → ((x : EntryView) → ContainsEntry (take i tree) x → AreReadBelow objects x) → AreReadBelow objects e
    → (x : EntryView) → ContainsEntry (take (i + 1) tree) x → AreReadBelow objects x
read_take_snoc objects tree i e lt is so_far at x has =
    let joined : take (i + 1) tree ≡ take i tree ++ e ∷ [] = take_more tree i e lt ∙ ap (λ (y : EntryView). take i tree ++ y ∷ []) (sym is) in
    ⊎_elim (so_far x)
    (λ k. ⊎_elim (λ same. subst (AreReadBelow objects) same at) (λ no. absurd no) k)
    (contains_entry_cases (take i tree) (e ∷ []) x (subst (λ (es : List EntryView). ContainsEntry es x) joined has))

-- the error of an entry is that of its root
pub list_error_of_entry : (objects : Objects) → ((x y : ObjectId) → (x ≡ y) ⊎ (x ≢ y))
    → ((kind : Kind) (bytes : List ℕ) (es fs : List EntryView) → DecodesToTree kind bytes es → DecodesToTree kind bytes fs → es ≡ fs)
    → (root : ObjectId) (entries : List EntryView) → IsRoot objects root entries → (i : ℕ) (e : EntryView) → i < length entries → e ≡ get_or entries i e
    → ContainsEntry entries e → ((x : EntryView) → ContainsEntry (take i entries) x → AreReadBelow objects x)
    → (may_fail : ObjectId → Bool) (depth : ℕ) → depth ≢ 0 → (error : ListError) → IsListErrorAt objects may_fail (depth - 1) e error
    → IsListError objects may_fail depth root error
list_error_of_entry objects same_or_not one_tree root entries is_root i e lt is has read may_fail depth some error (inl out) = rw out tt
list_error_of_entry objects same_or_not one_tree root entries is_root i e lt is has read may_fail depth some error (inr (directory, (inner, why, within))) =
    list_error_of_directory objects same_or_not one_tree root entries is_root i e lt is has directory read may_fail depth some inner error why within

-- a table that agrees with the store has the tree of a directory that the store has
pub has_tree_of_read : ((x y : ObjectId) → (x ≡ y) ⊎ (x ≢ y)) → (T : Table) (objects : Objects) (trees : Trees) → AreTreesOf objects trees
    → AgreesWithStore T trees
    → (e : EntryView) → AreReadBelow objects e → is_tree_mode e.mode ≡ true → IsFalse (is_null e.id) → (es : List EntryView) × (T.tree_at e.id ≡ Some es)
has_tree_of_read same_or_not T objects trees fits agrees e read is some =
    let found = read (is, some) [] e.id refl in (found.0, root_there same_or_not T objects trees e.id found.0 some fits agrees found.1)

root_is_first_unread : (objects : Objects) (root : ObjectId) → IsFirstUnread objects root [] root
root_is_first_unread objects root = record { leads = refl; earlier = none_before }
  where
    none_before : (before : Path) (other : ObjectId) → LeadsToDirectory objects root before other → OpenedBefore before [] → IsRead objects other
    none_before [] other leads opened = absurd opened
    none_before (name ∷ path) other leads opened = absurd opened

-- the error of a root that isn't read
pub list_error_of_root : (objects : Objects) (may_fail : ObjectId → Bool) (depth : ℕ) (root : ObjectId) (cause : UnreadError) (error : ListError)
    → IsUnread root cause error → IsUnreadError objects may_fail depth [] root cause
    → IsListError objects may_fail depth root error
list_error_of_root objects may_fail depth root cause (list.Directory path id cause') (none, same_id, same_cause) why =
    rw (none, same_id, same_cause) (root_is_first_unread objects root, why)
list_error_of_root objects may_fail depth root cause list.OutOfMemory is why = absurd is

-- the error of the tree of a directory, by the entry as the code has it
pub list_error_inside_directory : (objects : Objects) (may_fail : ObjectId → Bool) (depth : ℕ) (inside e : EntryView) → inside ≡ e → is_null e.id ≡ false
    → is_tree_mode e.mode ≡ true → (inner error : ListError) → IsListError objects may_fail depth inside.id inner → IsErrorWithin inside.name inner error
    → IsListErrorAt objects may_fail depth e error
list_error_inside_directory objects may_fail depth inside e same some is inner error why within = inr (
  (is, some),
  (
    inner,
    subst (λ (y : EntryView). IsListError objects may_fail depth y.id inner) same why,
    subst (λ (y : EntryView). IsErrorWithin y.name inner error) same within,
  ),
)
