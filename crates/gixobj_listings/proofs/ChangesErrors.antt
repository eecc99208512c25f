-- Errors of comparisons: an error of a side is one of its pair, and an error of a pair is one of both roots. The proofs
-- of `differences` use them.
use Rattle.std.proofs.Common.{◌≡◌, ◌≢◌, ◌∙◌, ◌+◌, inl, inr, ℕ, Bool, false, List, [], ◌∷◌, ap, arith, refl, subst, sym, Option, Some, None}
use Rattle.gix_object.specs.Calls.{names_of}
use Rattle.gix_object.specs.Entries.{EntryView}
use Rattle.gix_object.specs.Files.{ContainsEntry, Path, is_null}
use Rattle.gix_object.specs.Stores.{Objects}
use Rattle.gix_object.specs.hash.hash.object_id.ObjectId.{ObjectId}
use Rattle.gixobj_listings.proofs.EntryPairs.{IsAmongPairs, has_entry_if_some}
use Rattle.gixobj_listings.proofs.PairReturns.{side_of_unless_null}
use Rattle.gixobj_listings.proofs.CompleteMerges.{left_side_of_directory, right_side_of_directory}
use Rattle.gixobj_listings.specs.Changes.{EntryPairView, Merges, side_unless_null}
use Rattle.gixobj_listings.specs.Differences.{IsChangesError, IsChangesErrorAt, IsDirectoryOfName, LeadsFromPair, LeadsToUnequal, side_list}
use Rattle.gixobj_listings.specs.Listings.{IsDirectory, IsErrorWithin, IsListError, IsListErrorAt, IsUnread, IsUnreadError, LeadsToDirectory}
use Rattle.gixobj_listings.specs.Roots.{IsRoot}
use Rattle.gixobj_listings.specs.declared.listing.ListError.{ListError}
use Rattle.gixobj_listings.specs.declared.listing.ListError.TheVariants as list
use Rattle.gixobj_listings.specs.declared.listing.UnreadError.{UnreadError}
use Rattle.gixobj_listings.specs.declared.listing.UnreadError.TheVariants as unread

unread_error_of_longer_path : (objects : Objects) (may_fail : ObjectId → Bool) (depth : ℕ) (name : List ℕ) (path : Path) (id : ObjectId) (cause : UnreadError)
    → IsUnreadError objects may_fail depth path id cause
    → IsUnreadError objects may_fail (depth + 1) (name ∷ path) id cause
unread_error_of_longer_path objects may_fail depth name path id (unread.Tree cause) why = why
unread_error_of_longer_path objects may_fail depth name path id unread.TooDeep why = omega (arith, why)

module _ (objects : Objects) (may_fail : ObjectId → Bool) (depth : ℕ) where
  -- the error of the files of an entry, as one of a pair that leads to its directories
  error_of_inner : (pair : EntryPairView) (e : EntryView)
      → ((path : Path) (id : ObjectId) → LeadsToDirectory objects e.id path id → LeadsFromPair objects pair (e.name ∷ path) id)
      → (inner error : ListError) → IsListError objects may_fail depth e.id inner → IsErrorWithin e.name inner error
      → IsChangesErrorAt objects may_fail depth pair error
  error_of_inner pair e leads (list.Directory path id cause) (list.Directory path' id' cause') (first, why) (longer, same_id, same_cause) =
      rw (longer, same_id, same_cause) (
        leads (names_of path.items) id first.leads,
        unread_error_of_longer_path objects may_fail depth e.name (names_of path.items) id cause why,
      )
  error_of_inner pair e leads inner list.OutOfMemory is within = tt
  error_of_inner pair e leads list.OutOfMemory (list.Directory path' id' cause') is within = absurd within

  -- a side that is none, or has the null id, has no directory
  no_directory_of_null : (side : Option EntryView) → None ≡ side_unless_null side → (name : List ℕ) → IsDirectoryOfName (side_list side) name None
  no_directory_of_null None is name e has called directory = absurd has
  no_directory_of_null (Some x) is name e (inr other) called directory = absurd other
  no_directory_of_null (Some x) is name e (inl same) called directory =
      let some : is_null x.id ≡ false = ap (λ (y : EntryView). is_null y.id) same ∙ directory.1 in
      let kept : side_unless_null (Some x) ≡ Some x = rw some refl in
      cc (is, kept)

  -- the error of the files of one side is that of the pair, if the other side isn't compared
  pub changes_error_of_left : (e : EntryView) (before side : Option EntryView) → Some e ≡ side_unless_null before → None ≡ side_unless_null side
      → (error : ListError) → IsListErrorAt objects may_fail depth e error
      → IsChangesErrorAt objects may_fail depth (before, side) error
  changes_error_of_left e before side is none error (inl out) = rw out tt
  changes_error_of_left e before side is none error (inr (directory, (inner, why, within))) =
      subst (λ (it : Option EntryView). IsChangesErrorAt objects may_fail depth (it, side) error) (sym (side_of_unless_null before e is))
      (error_of_inner (Some e, side) e
      (λ path id leads. (Some e, None, (inl refl, refl, directory), no_directory_of_null side none e.name, leads)) inner error why within)

  pub changes_error_of_right : (e : EntryView) (side after : Option EntryView) → None ≡ side_unless_null side → Some e ≡ side_unless_null after
      → (error : ListError) → IsListErrorAt objects may_fail depth e error
      → IsChangesErrorAt objects may_fail depth (side, after) error
  changes_error_of_right e side after none is error (inl out) = rw out tt
  changes_error_of_right e side after none is error (inr (directory, (inner, why, within))) =
      subst (λ (it : Option EntryView). IsChangesErrorAt objects may_fail depth (side, it) error) (sym (side_of_unless_null after e is))
      (error_of_inner (side, Some e) e
      (λ path id leads. (None, Some e, no_directory_of_null side none e.name, (inl refl, refl, directory), leads)) inner error why within)

  -- the error of two directories of one name that differ, with the name before its path
  pub changes_error_between : (e other : EntryView) → IsDirectory e → IsDirectory other → other.name ≡ e.name → e ≢ other → (inner error : ListError)
      → IsChangesError objects may_fail depth e.id other.id inner → IsErrorWithin e.name inner error
      → IsChangesErrorAt objects may_fail depth (Some e, Some other) error
  changes_error_between e other e_is other_is called differ (list.Directory path id cause) (list.Directory path' id' cause') (leads, why)
      (longer, same_id, same_cause) =
      rw (longer, same_id, same_cause) (
        (Some e, Some other, (inl refl, refl, e_is), (inl refl, called, other_is), (differ, leads)),
        unread_error_of_longer_path objects may_fail depth e.name (names_of path.items) id cause why,
      )
  changes_error_between e other e_is other_is called differ inner list.OutOfMemory is within = tt
  changes_error_between e other e_is other_is called differ list.OutOfMemory (list.Directory path' id' cause') is within = absurd within

  -- the same, by the entries as the code has them
  pub changes_error_inside : (inside e inside' other : EntryView) → inside ≡ e → inside' ≡ other → IsDirectory e → IsDirectory other → other.name ≡ e.name
      → e ≢ other → (inner error : ListError) → IsChangesError objects may_fail depth inside.id inside'.id inner → IsErrorWithin inside.name inner error
      → IsChangesErrorAt objects may_fail depth (Some e, Some other) error
  changes_error_inside inside e inside' other same also e_is other_is called differ inner error why within =
      changes_error_between e other e_is other_is called differ inner error
      (subst (λ (y : EntryView). IsChangesError objects may_fail depth y.id other.id inner) same
      (subst (λ (y : EntryView). IsChangesError objects may_fail depth inside.id y.id inner) also why))
      (subst (λ (y : EntryView). IsErrorWithin y.name inner error) same within)

  entry_of_side : (entries : List EntryView) (side : Option EntryView) → has_entry_if_some entries side → (e : EntryView)
      → ContainsEntry (side_list side) e → ContainsEntry entries e
  entry_of_side entries None has e other = absurd other
  entry_of_side entries (Some a) has e (inl is) = subst (ContainsEntry entries) is has
  entry_of_side entries (Some a) has e (inr other) = absurd other

  side_is : (side : Option EntryView) (e : EntryView) → ContainsEntry (side_list side) e → side ≡ Some e
  side_is None e other = absurd other
  side_is (Some a) e (inl is) = ap Some is
  side_is (Some a) e (inr other) = absurd other

  in_side : (side : Option EntryView) (e : EntryView) → side ≡ Some e → ContainsEntry (side_list side) e
  in_side side e is = subst (λ (it : Option EntryView). ContainsEntry (side_list it) e) (sym is) (inl refl)

  module _ (from to : ObjectId) (lefts rights : List EntryView) (is_from : IsRoot objects from lefts) (is_to : IsRoot objects to rights)
      (pairs : List EntryPairView) (merged : Merges lefts rights pairs) (x y : Option EntryView) (among : IsAmongPairs pairs (x, y))
      (left : has_entry_if_some lefts x) (right : has_entry_if_some rights y) where
    leads_from_root : (path : Path) (id : ObjectId) → LeadsFromPair objects (x, y) path id → LeadsToUnequal objects from to path id
    leads_from_root [] id leads = absurd leads
    leads_from_root (name ∷ path) id (None, None, l, r, leads) = absurd leads
    leads_from_root (name ∷ path) id (Some e, Some b, l, r, leads) = (
      lefts,
      rights,
      is_from,
      is_to,
      (
        Some e,
        Some b,
        (entry_of_side lefts x left e l.0, l.1, l.2),
        (entry_of_side rights y right b r.0, r.1, r.2),
        leads,
      ),
    )
    leads_from_root (name ∷ path) id (Some e, None, l, r, leads) = (
      lefts,
      rights,
      is_from,
      is_to,
      (
        Some e,
        None,
        (entry_of_side lefts x left e l.0, l.1, l.2),
        (λ b has called directory. r b (in_side y b (right_side_of_directory lefts rights pairs merged is_from.well_formed.ascending
            is_to.well_formed.ascending x y among e b (side_is x e l.0) (entry_of_side lefts x left e l.0) has (l.1 ∙ sym called)
            (l.2.0 ∙ sym directory.0))) called directory),
        leads,
      ),
    )
    leads_from_root (name ∷ path) id (None, Some b, l, r, leads) = (
      lefts,
      rights,
      is_from,
      is_to,
      (
        None,
        Some b,
        (λ e has called directory. l e (in_side x e (left_side_of_directory lefts rights pairs merged is_from.well_formed.ascending
            is_to.well_formed.ascending x y among e b (side_is y b r.0) has (entry_of_side rights y right b r.0) (called ∙ sym r.1)
            (directory.0 ∙ sym r.2.0))) called directory),
        (entry_of_side rights y right b r.0, r.1, r.2),
        leads,
      ),
    )

    -- the error of a pair of entries of two roots is one of the roots
    pub changes_error_of_pair : (error : ListError) → IsChangesErrorAt objects may_fail depth (x, y) error
        → IsChangesError objects may_fail (depth + 1) from to error
    changes_error_of_pair (list.Directory path id cause) (leads, why) = (leads_from_root (names_of path.items) id leads, why)
    changes_error_of_pair list.OutOfMemory at = tt

  -- the error of the first tree that isn't read, and of the second
  pub changes_error_of_from : (from to : ObjectId) (cause : UnreadError) (error : ListError) → IsUnread from cause error
      → IsUnreadError objects may_fail depth [] from cause
      → IsChangesError objects may_fail depth from to error
  changes_error_of_from from to cause (list.Directory path id cause') (none, same_id, same_cause) why = rw (none, same_id, same_cause) (inl refl, why)
  changes_error_of_from from to cause list.OutOfMemory is why = absurd is

  pub changes_error_of_to : (from to : ObjectId) (cause : UnreadError) (error : ListError) → IsUnread to cause error
      → IsUnreadError objects may_fail depth [] to cause
      → IsChangesError objects may_fail depth from to error
  changes_error_of_to from to cause (list.Directory path id cause') (none, same_id, same_cause) why = rw (none, same_id, same_cause) (inr refl, why)
  changes_error_of_to from to cause list.OutOfMemory is why = absurd is
