-- How far the opening of a removal comes, and which names it validates; the proof of `open_for_removal` uses it.
use Rattle.std.proofs.Common.{◌≡◌, ◌≢◌, ◌∙◌, ◌⊎◌, inl, inr, ℕ, Bool, List, [], ◌∷◌, ◌++◌, Option, Some, None, append-nil, refl, sym, ap, subst}
use Rattle.std.proofs.lemmas.List.Elements.{All-cons, All-head, All-nil, All-tail}
use Rattle.gixobj_tree_entries.specs.Entries.{EntryView}
use Rattle.gixobj_tree.specs.WellFormed.{IsEntryName}
use Rattle.gixobj_hash.specs.declared.hash.object_id.ObjectId.{ObjectId}
use Rattle.gixobj_store.specs.Stores.{Objects}
use Rattle.gixobj_editor_open.specs.Paths.{AreNames}
use Rattle.gixobj_editor_lookups.specs.Openings.{IsOpenErrorAt}
use Rattle.gixobj_editor_lookups.specs.declared.opening.Error as directory
use Rattle.gixobj_editor_lookups.specs.declared.opening.Error.TheVariants as opening
use Rattle.gixobj_editor_files.specs.Edits.{Opens, arrived, counted, down, found, stops}
use Rattle.gixobj_editor_files.specs.Files.{Path, Trees}
use Rattle.gixobj_editor_files.specs.OpeningStops.{CountsEachLookup, ReachesDirectory, StopsOpening, before_lookup, at_lookup}
use Rattle.gixobj_editor_files.specs.OpeningStops as halting
use Rattle.gixobj_editor_files.specs.Opening.{Dirs}
use Rattle.gixobj_editor_files.proofs.ReachedDirectories.{comes_open, open_comes, opens_of_longer_path}
use Rattle.gixobj_editor_files.proofs.StoppedOpenings.{halted_at, halted_unopened}
use Rattle.gixobj_editor_files.proofs.UnopenedCounts.{IsIdle}
use Rattle.gixobj_editor_lookups.specs.EditNames.{SplitsForRemoval, IsEntryNameError, IsFirstNameError, StartsInvalid, directory_of}
use Rattle.gixobj_editor_lookups.specs.FailedOpenings.{OpensInPart, edit_error}
use Rattle.gixobj_editor_lookups.specs.RemovalErrors.{ValidatesUpTo, IsRemovalErrorUpTo}
use Rattle.gixobj_editor_lookups.specs.declared.error.Error.{Error}
use Rattle.gixobj_editor_lookups.specs.declared.error.Error.TheVariants as error
use Rattle.gixobj_editor_lookups.proofs.ValidNames.{no_lookup_of_name}
use Rattle.gixobj_editor_lookups.proofs.InPart.{halted_counts, halted_in_part, opened_counts, opened_in_part}
use Rattle.gixobj_editor_lookups.proofs.Paths.{snoc_prefix_cases, directory_of_snoc}

-- valid names of a path and of its parts
pub are_names_prefix : (prefix back : Path) → AreNames (prefix ++ back) → AreNames prefix
are_names_prefix [] back names = All-nil IsEntryName
are_names_prefix (name ∷ prefix) back names = All-cons IsEntryName name prefix (All-head IsEntryName name (prefix ++ back) names)
    (are_names_prefix prefix back (All-tail IsEntryName name (prefix ++ back) names))

pub is_entry_name_of_member : (prefix : Path) (name : List ℕ) (back : Path) → AreNames (prefix ++ name ∷ back) → IsEntryName name
is_entry_name_of_member [] name back names = All-head IsEntryName name back names
is_entry_name_of_member (first ∷ prefix) name back names = is_entry_name_of_member prefix name back (All-tail IsEntryName first (prefix ++ name ∷ back) names)

pub path_nil_or_snoc : (path : Path) → (path ≡ []) ⊎ ((prefix : Path) × (last : List ℕ) × (path ≡ prefix ++ last ∷ []))
path_nil_or_snoc [] = inl refl
path_nil_or_snoc (name ∷ path) = elim (path_nil_or_snoc path) [
  | inl none ↦ inr ([], name, ap (λ p. name ∷ p) none)
  | inr ends ↦ inr (name ∷ ends.0, ends.1, ap (λ p. name ∷ p) ends.2)
]

pub directory_of_append : (prefix : Path) (name : List ℕ) (back : Path) → directory_of (prefix ++ name ∷ back) ≡ prefix ++ directory_of (name ∷ back)
directory_of_append [] name back = refl
directory_of_append (first ∷ []) name back = refl
directory_of_append (first ∷ second ∷ prefix) name back = ap (λ p. first ∷ p) (directory_of_append (second ∷ prefix) name back)

-- a split path is empty, or has a name after those that are opened
splits_at_first_invalid_cases : (path names rejected : Path) → SplitsForRemoval path names rejected → ((path ≡ []) × (names ≡ []))
    ⊎ ((last : List ℕ) × (following : Path) × (path ≡ names ++ last ∷ following) × AreNames names)
splits_at_first_invalid_cases path names [] splits = elim (path_nil_or_snoc path) [
  | inl none ↦ inl (none, splits.1 ∙ ap directory_of none)
  | inr ends ↦
      let prefix : names ≡ ends.0 = splits.1 ∙ ap directory_of ends.2 ∙ directory_of_snoc ends.0 ends.1 in
      inr (
        ends.1,
        [],
        ends.2 ∙ ap (λ p. p ++ ends.1 ∷ []) (sym prefix),
        subst AreNames (sym prefix)
            (are_names_prefix ends.0 (ends.1 ∷ []) (subst AreNames ends.2 splits.0)),
      )
]
splits_at_first_invalid_cases path names (name ∷ rest) splits = inr (name, rest, splits.2, splits.0)

pub no_halt : {StopsBefore : EntryView → Type 0} (trees : Trees) (path : Path) → path ≡ []
    → (old new : Dirs) (requested : List ObjectId) (failed_lookup : Option ObjectId)
    → StopsOpening StopsBefore trees path old new requested failed_lookup → ⊥
no_halt trees path is old new requested failed_lookup (before_lookup name rest d e entry tree free none idle) = cc is
no_halt trees path is old new requested failed_lookup (at_lookup name rest d e entry tree free none filled) = cc is
no_halt trees path is old new requested failed_lookup (halting.down name rest d inner e entries more v has named there halts) = cc is
no_halt trees path is old new requested failed_lookup (halting.found name rest d inner e entries first more v entry tree free none finds halts) = cc is

-- if the first name is invalid, no directory is opened
pub nothing_validated : (path names rejected : Path) → SplitsForRemoval path names rejected → StartsInvalid path → names ≡ []
nothing_validated [] names [] splits bad = splits.1
nothing_validated (name ∷ path) names [] splits bad = absurd (bad (All-head IsEntryName name path splits.0))
nothing_validated path [] (name ∷ rest) splits bad = refl
nothing_validated path (first ∷ names) (name ∷ rest) splits bad =
    absurd (subst StartsInvalid splits.2 bad (All-head IsEntryName first names splits.0))

pub opens_nothing : {StopsBefore : EntryView → Type 0} (trees : Trees) (path : Path) → path ≡ [] → (old new : Dirs) (requested : List ObjectId)
    → Opens StopsBefore trees path old new requested → (new ≡ old) × (requested ≡ [])
opens_nothing trees path none old new requested (arrived d) = (refl, refl)
opens_nothing trees path none old new requested (stops name rest d other unopened) = (refl, refl)
opens_nothing trees path none old new requested (down name rest d inner e entries more has named is below) = absurd (cc none)
opens_nothing trees path none old new requested (found name rest d inner e entries first more entry tree free unopened finds below) = absurd (cc none)

-- the effect of a failed removal: the opened directories, the lookups and the error
abbrev pub IsRejectedSo : (EntryView → Type 0) → Objects → (ObjectId → Bool) → Trees → Path → Dirs → Dirs → ℕ → ℕ → Error → Type 0
IsRejectedSo StopsBefore objects may_fail trees path old new before after failure =
    OpensInPart StopsBefore objects may_fail trees path old new before after failure × IsRemovalErrorUpTo StopsBefore objects may_fail trees old path failure

module _ {StopsBefore : EntryView → Type 0} (idle : IsIdle StopsBefore) (objects : Objects) (may_fail : ObjectId → Bool) (trees : Trees) where
  -- a directory isn't opened
  stopped_opening_fails : (path names : Path) (last : List ℕ) (following : Path) → path ≡ names ++ last ∷ following → AreNames names
      → (old new : Dirs) (requested : List ObjectId) (failed_lookup : Option ObjectId) → StopsOpening StopsBefore trees names old new requested failed_lookup
      → (cause : directory.Error) → IsOpenErrorAt objects may_fail failed_lookup cause
      → IsRemovalErrorUpTo StopsBefore objects may_fail trees old path (edit_error cause)
  stopped_opening_fails path names last following is good old new requested failed_lookup halts opening.OutOfMemory at =
      subst (λ p. IsRemovalErrorUpTo StopsBefore objects may_fail trees old p error.OutOfMemory) (sym is)
      (halted_unopened trees names last following old new requested failed_lookup halts)
  stopped_opening_fails path names last following is good old new requested None halts opening.MalformedTree at = absurd (cc at)
  stopped_opening_fails path names last following is good old new requested (Some it) halts opening.MalformedTree at =
      let h = halted_at trees names last following old new requested (Some it) halts it refl in
      subst (λ p. IsRemovalErrorUpTo StopsBefore objects may_fail trees old p error.MalformedTree) (sym is)
      (it, h.0, are_names_prefix h.0.parent h.1 (subst AreNames h.2 good), at)
  stopped_opening_fails path names last following is good old new requested None halts (opening.FindExistingObject why) at = absurd (cc at)
  stopped_opening_fails path names last following is good old new requested (Some it) halts (opening.FindExistingObject why) at =
      let h = halted_at trees names last following old new requested (Some it) halts it refl in
      subst (λ p. IsRemovalErrorUpTo StopsBefore objects may_fail trees old p (error.FindExistingObject why)) (sym is)
      (it, h.0, are_names_prefix h.0.parent h.1 (subst AreNames h.2 good), at)

  pub halted_removal : (path names rejected : Path) → SplitsForRemoval path names rejected
      → (old new : Dirs) (requested : List ObjectId) (failed_lookup : Option ObjectId)
      → StopsOpening StopsBefore trees names old new requested failed_lookup → (cause : directory.Error) → IsOpenErrorAt objects may_fail failed_lookup cause
      → (n m : ℕ) → m ≡ counted n requested → IsRejectedSo StopsBefore objects may_fail trees path old new n m (edit_error cause)
  halted_removal path names rejected splits old new requested failed_lookup halts cause at n m count =
      elim (splits_at_first_invalid_cases path names rejected splits) [
        | inl none ↦ absurd (no_halt trees names none.1 old new requested failed_lookup halts)
        | inr remaining ↦ (
          halted_in_part objects may_fail trees path names remaining.0 remaining.1 remaining.2 old new requested failed_lookup halts n m count cause at,
          stopped_opening_fails path names remaining.0 remaining.1 remaining.2 remaining.3 old new requested failed_lookup halts cause at,
        )
      ]

  -- a name is invalid
  first_failed : (path names : Path) (name : List ℕ) (rest : Path) → AreNames names → path ≡ names ++ name ∷ rest → (old new : Dirs) (requested : List ObjectId)
      → Opens StopsBefore trees names old new requested → (entries : List EntryView) → new names ≡ Some entries
      → (failure : Error) → IsEntryNameError name failure → IsRemovalErrorUpTo StopsBefore objects may_fail trees old path failure
  first_failed path names name rest good is old new requested opens entries there error.EmptyPathComponent h =
      (name, (names, rest, is, good, open_comes idle trees names old new requested opens entries there), h)
  first_failed path names name rest good is old new requested opens entries there error.SlashInPathComponent h =
      (name, (names, rest, is, good, open_comes idle trees names old new requested opens entries there), h)
  first_failed path names name rest good is old new requested opens entries there (error.FindExistingObject cause) h = absurd h
  first_failed path names name rest good is old new requested opens entries there (error.CannotRemoveNonLeaf at) h = absurd h
  first_failed path names name rest good is old new requested opens entries there error.MalformedTree h = absurd h
  first_failed path names name rest good is old new requested opens entries there error.OutOfMemory h = absurd h

  pub name_rejected_so : (path names rejected : Path) → SplitsForRemoval path names rejected → (old new : Dirs) (requested : List ObjectId)
      → Opens StopsBefore trees names old new requested → (entries : List EntryView) → new names ≡ Some entries → (failure : Error)
      → IsFirstNameError rejected failure
      → (n m : ℕ) → m ≡ counted n requested → IsRejectedSo StopsBefore objects may_fail trees path old new n m failure
  name_rejected_so path names [] splits old new requested opens entries there failure h n m count = absurd h
  name_rejected_so path names (name ∷ rest) splits old new requested opens entries there failure (inl h) n m count = (
    opened_in_part objects may_fail trees path names name rest splits.2 old new requested opens n m count failure
        (no_lookup_of_name (name ∷ rest) failure (inl h)),
    first_failed path names name rest splits.0 splits.2 old new requested opens entries there failure h,
  )
  name_rejected_so path names (name ∷ rest) splits old new requested opens entries there failure (inr h) n m count = absurd (splits.1 h.0)

-- the effect of an opening without an error: the opened directories, and that each reached name is valid
abbrev pub IsOpenedFor : (EntryView → Type 0) → Trees → Path → Dirs → Dirs → List ObjectId → Type 0
IsOpenedFor StopsBefore trees path old new requested = Opens StopsBefore trees (directory_of path) old new requested
    × ((name : List ℕ) → ValidatesUpTo StopsBefore trees old path name → IsEntryName name)

pub is_opened_for_of_opens : {StopsBefore : EntryView → Type 0} → IsIdle StopsBefore → (trees : Trees) (path names rejected : Path)
    → SplitsForRemoval path names rejected
    → (old new : Dirs)
    → old [] ≢ None → (requested : List ObjectId) → Opens StopsBefore trees names old new requested → (new names ≡ None) ⊎ AreNames rejected
    → IsOpenedFor StopsBefore trees path old new requested
is_opened_for_of_opens {StopsBefore = StopsBefore} idle trees path names [] splits old new root requested opens came =
    (subst (λ p. Opens StopsBefore trees p old new requested) splits.1 opens, λ name it. is_entry_name_of_member it.0 name it.1 (subst AreNames it.2 splits.0))
is_opened_for_of_opens {StopsBefore = StopsBefore} idle trees path names (bad ∷ rest) splits old new root requested opens (inr good) =
    absurd (splits.1 (All-head IsEntryName bad rest good))
is_opened_for_of_opens {StopsBefore = StopsBefore} idle trees path names (bad ∷ rest) splits old new root requested opens (inl ended) = (
  subst (λ p. Opens StopsBefore trees p old new requested) (sym (ap directory_of splits.2 ∙ directory_of_append names bad rest))
      (opens_of_longer_path trees names (directory_of (bad ∷ rest)) old new requested opens root ended),
  λ name it. elim (snoc_prefix_cases names bad rest it.0 name it.1 (sym splits.2 ∙ it.2)) [
    | inl within ↦ is_entry_name_of_member it.0 name within.0 (subst AreNames within.1 splits.0)
    | inr (inl at) ↦ absurd (comes_open idle trees names old new requested opens root
        (subst (λ p. ReachesDirectory StopsBefore trees old p) (sym at.0) it.4) ended)
    | inr (inr following) ↦ absurd (splits.1 (is_entry_name_of_member names bad following.0 (subst AreNames following.1 it.3)))
  ],
)

-- each lookup of the opening is counted, if it halts
pub halted_removal_counts : {StopsBefore : EntryView → Type 0} (trees : Trees) (path names rejected : Path) → SplitsForRemoval path names rejected
    → (old new : Dirs) (requested : List ObjectId) (failed_lookup : Option ObjectId)
    → StopsOpening StopsBefore trees names old new requested failed_lookup → (n m : ℕ) → m ≡ counted n requested
    → CountsEachLookup StopsBefore trees path old new n m
halted_removal_counts trees path names rejected splits old new requested failed_lookup halts n m count =
    elim (splits_at_first_invalid_cases path names rejected splits) [
      | inl none ↦ absurd (no_halt trees names none.1 old new requested failed_lookup halts)
      | inr remaining ↦ halted_counts trees path names remaining.0 remaining.1 remaining.2 old new requested failed_lookup halts n m count
    ]

-- and if the directories above the path are opened
pub opened_above_counts : {StopsBefore : EntryView → Type 0} (trees : Trees) (path : Path) (old new : Dirs) (requested : List ObjectId)
    → Opens StopsBefore trees (directory_of path) old new requested → (n m : ℕ) → m ≡ counted n requested
    → CountsEachLookup StopsBefore trees path old new n m
opened_above_counts {StopsBefore = StopsBefore} trees path old new requested opens n m count = elim (path_nil_or_snoc path) [
  | inl none ↦ record {
    reached = [];
    more = [];
    on_the_way = none;
    looked_up = requested;
    opens = subst (λ p. Opens StopsBefore trees p old new requested) (ap directory_of none) opens;
    last_lookup = [];
    lookups = count ∙ ap (counted n) (sym (append-nil requested));
    next = λ it (name, next, rest, e, more_is, unopened, seen, named). absurd (cc more_is);
  }
  | inr ends ↦ opened_counts trees path ends.0 ends.1 ends.2 old new requested
      (subst (λ p. Opens StopsBefore trees p old new requested) (ap directory_of ends.2 ∙ directory_of_snoc ends.0 ends.1) opens) n m count
]
