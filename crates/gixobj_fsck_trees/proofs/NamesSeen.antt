-- Names that were seen before: how a set of them finds a name that two entries have.
use Rattle.std.proofs.Common.{◌≡◌, ◌⊎◌, ◌↔◌, ◌∙◌, ℕ, Bool, true, false, cond, List, [], ◌∷◌, Bor, drop, length, not, ◌<◌, ◌+◌, inl, inr, refl, subst, sym}
use Rattle.std.proofs.lemmas.List.{drop_more}
use Rattle.std.specs.BTreeMap.{is_at}
use Rattle.std.specs.BTreeSet.{BTreeSet, contains}
use Rattle.std.specs.List.{list_any}
use Rattle.std.specs.declared.cmp.Ordering.{Ordering}
use Rattle.std.specs.Cmp.Lexicographic.{bytes_decides, slice_cmp, texts_ties}
use Rattle.std.specs.Ordering.{is_eq, nat_cmp}
use Rattle.gixobj_fsck_trees.specs.FirstOffsets.{IsNoName, IsRepeatOffset}
use Rattle.gixobj_fsck_trees.specs.RawEntries.{RawEntryView}
use Rattle.gixobj_fsck_trees.specs.RawViews.{raw_entry_view, raw_entry_views}
use Rattle.gixobj_fsck_trees.proofs.FirstOffsets.{IsNameOrSeen}
use Rattle.gixobj_fsck_trees.proofs.TreeLoops.{borrowed, entry_at, no_entry}
use Rattle.gixobj_fsck_trees.specs.declared.raw_entry.RawEntry.{RawEntry}

-- the order of borrowed names
abbrev pub bytes_order : Bor (List ℕ) → Bor (List ℕ) → Ordering
bytes_order x y = slice_cmp nat_cmp x.now y.now

-- the set after has the names of the set before, and this one
abbrev pub Sees : (Bor (List ℕ) → Bool) → Bor (List ℕ) → (Bor (List ℕ) → Bool) → Type 0
Sees before name after = (other : Bor (List ℕ)) → after other ≡ cond (is_eq (slice_cmp nat_cmp name.now other.now)) true (before other)

not_true : (value : Bool) → true ≡ not value → value ≡ false
not_true true is = cc
not_true false is = refl

not_false : (value : Bool) → false ≡ not value → value ≡ true
not_false true is = refl
not_false false is = cc

cond_cases : (test value : Bool) → cond test true value ≡ true → (test ≡ true) ⊎ (value ≡ true)
cond_cases true value is = inl refl
cond_cases false value is = inr is

seen_cases : (before after : Bor (List ℕ) → Bool) (name other : Bor (List ℕ)) → Sees before name after → after other ≡ true
    → (other.now ≡ name.now) ⊎ (before other ≡ true)
seen_cases before after name other sees is =
    elim (cond_cases (is_eq (slice_cmp nat_cmp name.now other.now)) (before other) (sym (sees other) ∙ is)) [
      | inl ties ↦ inl (sym ((bytes_decides name.now other.now).0 (texts_ties name.now other.now ∙ ties)))
      | inr old ↦ inr old
    ]

cond_of_test : (test value : Bool) → test ≡ true → cond test true value ≡ true
cond_of_test test value is = rw is refl

cond_of_value : (test value : Bool) → value ≡ true → cond test true value ≡ true
cond_of_value true value is = refl
cond_of_value false value is = is

seen_of_same : (before after : Bor (List ℕ) → Bool) (name other : Bor (List ℕ)) → Sees before name after → other.now ≡ name.now → after other ≡ true
seen_of_same before after name other sees same =
    let ties : is_eq (slice_cmp nat_cmp name.now other.now) ≡ true =
    sym (texts_ties name.now other.now) ∙ (bytes_decides name.now other.now).1 (sym same) in
    sees other ∙ cond_of_test (is_eq (slice_cmp nat_cmp name.now other.now)) (before other) ties

seen_of_before : (before after : Bor (List ℕ) → Bool) (name other : Bor (List ℕ)) → Sees before name after → before other ≡ true → after other ≡ true
seen_of_before before after name other sees old =
    sees other ∙ cond_of_value (is_eq (slice_cmp nat_cmp name.now other.now)) (before other) old

still_seen : (before after : Bor (List ℕ) → Bool) (name other : Bor (List ℕ)) → Sees before name after
    → (other.now ≡ name.now) ⊎ (before other ≡ true) → after other ≡ true
still_seen before after name other sees (inl same) = seen_of_same before after name other sees same
still_seen before after name other sees (inr old) = seen_of_before before after name other sees old

-- a set without keys has seen no name
pub not_seen_of_empty : (names : BTreeSet (Bor (List ℕ))) → names.keys ≡ [] → (name : Bor (List ℕ)) → contains bytes_order names name ≡ false
not_seen_of_empty names empty name = let P : List (Bor (List ℕ)) → Type 0 = λ keys. list_any (is_at (bytes_order name)) keys ≡ false in
    subst P (sym empty) refl

-- ---- the first repeat

-- the name is in the set
abbrev pub IsSeen : (Bor (List ℕ) → Bool) → List ℕ → Type 0
IsSeen seen name = seen (borrowed name) ≡ true

not_seen : (seen : Bor (List ℕ) → Bool) (name : List ℕ) → ((it : Bor (List ℕ)) → seen it ≡ false) → IsSeen seen name → ⊥
not_seen seen name none old = let new = none (borrowed name) in cc (new, old)

name_or_seen_of : (S T : List ℕ → Type 0) (e : RawEntryView) (name : List ℕ) → (S name → T name) → IsNameOrSeen S e name → IsNameOrSeen T e name
name_or_seen_of S T e name implies (inl same) = inl same
name_or_seen_of S T e name implies (inr seen) = inr (implies seen)

repeat_of_same_names : (S T : List ℕ → Type 0) → ((name : List ℕ) → S name ↔ T name) → (entries : List RawEntryView) (offset : ℕ)
    → IsRepeatOffset S entries offset → IsRepeatOffset T entries offset
repeat_of_same_names S T same [] offset repeat = repeat
repeat_of_same_names S T same (e ∷ entries) offset (inl here) = inl ((same e.name).0 here.0, here.1)
repeat_of_same_names S T same (e ∷ entries) offset (inr later) =
    inr (
      λ (seen : T e.name). later.0 ((same e.name).1 seen),
      repeat_of_same_names (IsNameOrSeen S e) (IsNameOrSeen T e)
          (λ name. (name_or_seen_of S T e name (same name).0, name_or_seen_of T S e name (same name).1)) entries offset later.1,
    )

seen_after : (before after : Bor (List ℕ) → Bool) (entry : RawEntry) → Sees before entry.name after → (name : List ℕ)
    → IsNameOrSeen (IsSeen before) (raw_entry_view entry) name ↔ IsSeen after name
seen_after before after entry sees name = (
  λ either. still_seen before after entry.name (borrowed name) sees either,
  λ seen. seen_cases before after entry.name (borrowed name) sees seen,
)

repeat_rest : (before after : Bor (List ℕ) → Bool) (entry : RawEntry) (entries : List RawEntryView) (offset : ℕ) → Sees before entry.name after
    → before (borrowed entry.name.now) ≡ false → IsRepeatOffset (IsSeen before) (raw_entry_view entry ∷ entries) offset
    → IsRepeatOffset (IsSeen after) entries offset
repeat_rest before after entry entries offset sees new (inl here) =
    let old : before (borrowed entry.name.now) ≡ true = here.0 in cc (new, old)
repeat_rest before after entry entries offset sees new (inr later) =
    repeat_of_same_names (IsNameOrSeen (IsSeen before) (raw_entry_view entry)) (IsSeen after) (seen_after before after entry sees) entries offset later.1

repeat_cons : (before after : Bor (List ℕ) → Bool) (entry : RawEntry) (entries : List RawEntryView) (offset : ℕ) → Sees before entry.name after
    → before (borrowed entry.name.now) ≡ false → IsRepeatOffset (IsSeen after) entries offset
    → IsRepeatOffset (IsSeen before) (raw_entry_view entry ∷ entries) offset
repeat_cons before after entry entries offset sees new repeat =
    inr (
      λ (old : before (borrowed entry.name.now) ≡ true). cc (new, old),
      repeat_of_same_names (IsSeen after) (IsNameOrSeen (IsSeen before) (raw_entry_view entry))
          (λ name. let same = seen_after before after entry sees name in (same.1, same.0)) entries offset repeat,
    )

-- an empty set: the first repeat is that of the entries alone
pub repeat_start : (seen : Bor (List ℕ) → Bool) (entries : List RawEntryView) (offset : ℕ) → ((name : Bor (List ℕ)) → seen name ≡ false)
    → IsRepeatOffset (IsSeen seen) entries offset ↔ IsRepeatOffset IsNoName entries offset
repeat_start seen entries offset none = (
  repeat_of_same_names (IsSeen seen) IsNoName (λ name. (not_seen seen name none, λ no. absurd no)) entries offset,
  repeat_of_same_names IsNoName (IsSeen seen) (λ name. (λ no. absurd no, not_seen seen name none)) entries offset,
)

-- ---- at an index

-- a new name goes into the set
pub repeat_step_at : (before after : Bor (List ℕ) → Bool) (entries : List RawEntry) (at : ℕ) → at < length entries
    → Sees before (entry_at entries at).name after → true ≡ not (before (borrowed (entry_at entries at).name.now)) → (offset : ℕ)
    → IsRepeatOffset (IsSeen before) (raw_entry_views (drop at entries)) offset
    ↔ IsRepeatOffset (IsSeen after) (raw_entry_views (drop (at + 1) entries)) offset
repeat_step_at before after entries at within sees added offset =
    let new = not_true (before (borrowed (entry_at entries at).name.now)) added in
    rw (drop_more entries at no_entry within) (
      repeat_rest before after (entry_at entries at) (raw_entry_views (drop (at + 1) entries)) offset sees new,
      repeat_cons before after (entry_at entries at) (raw_entry_views (drop (at + 1) entries)) offset sees new,
    )

-- a name that is in the set is that of the first repeat
pub repeat_at : (before : Bor (List ℕ) → Bool) (entries : List RawEntry) (at : ℕ) → at < length entries
    → false ≡ not (before (borrowed (entry_at entries at).name.now))
    → IsRepeatOffset (IsSeen before) (raw_entry_views (drop at entries)) (entry_at entries at).offset
repeat_at before entries at within added =
    rw (drop_more entries at no_entry within) (inl (not_false (before (borrowed (entry_at entries at).name.now)) added, refl))
