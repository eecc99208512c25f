-- Steps of the loops over the entries of a tree.
use Rattle.std.proofs.Common.{◌≡◌, ◌<◌, ◌≤◌, ◌↔◌, ◌+◌, ◌-◌, ◌∙◌, ℕ, List, [], ◌∷◌, Bor, ap, drop, get_or, inl, inr, length, refl, subst, sym, take}
use Rattle.std.proofs.Math.ListN.{drop_of_length-le}
use Rattle.std.proofs.lemmas.List.{drop_more, length-map, take-map}
use Rattle.gixobj_fsck_trees.specs.FirstOffsets.{IsFirstOffset, IsStepOffset}
use Rattle.gixobj_fsck_trees.specs.RawEntries.{RawEntryView}
use Rattle.gixobj_fsck_trees.specs.RawViews.{raw_entry_view, raw_entry_views}
use Rattle.gixobj_fsck_trees.specs.TreeMessages.{StepsDown, without_last}
use Rattle.gixobj_fsck_trees.specs.declared.raw_entry.RawEntry.{RawEntry}

-- the views from an index on, by the entry there
pub views_at : (entries : List RawEntry) (at : ℕ) (entry : RawEntry) → at < length entries → entry ≡ get_or entries at entry
    → raw_entry_views (drop at entries) ≡ raw_entry_view entry ∷ raw_entry_views (drop (at + 1) entries)
views_at entries at entry within is =
    ap raw_entry_views (drop_more entries at entry within ∙ ap (λ (it : RawEntry). it ∷ drop (at + 1) entries) (sym is))

-- all entries but the last
pub views_without_last : (entries : List RawEntry) (n : ℕ) → n ≡ length entries - 1
    → raw_entry_views (take n entries) ≡ without_last (raw_entry_views entries)
views_without_last entries n is =
    let same : raw_entry_views (take (length entries - 1) entries) ≡ take (length entries - 1) (raw_entry_views entries) =
    sym (take-map raw_entry_view (length entries - 1) entries) in
    rw (is, length-map entries raw_entry_view) same

-- a borrowed name
abbrev pub borrowed : List ℕ → Bor (List ℕ)
borrowed name = record { ref_ptr = (0, 0); now = name }

-- an entry past the end
abbrev pub no_entry : RawEntry
no_entry = record { mode = 0; first_digit = 0; name = borrowed []; id = borrowed []; offset = 0; end = 0 }

-- the entry at an index
abbrev pub entry_at : List RawEntry → ℕ → RawEntry
entry_at entries at = get_or entries at no_entry

-- the entry at an index lacks the property
pub first_offset_step : (P : RawEntryView → Type 0) (entries : List RawEntry) (at : ℕ) → at < length entries
    → (¬ P (raw_entry_view (entry_at entries at))) → (offset : ℕ)
    → IsFirstOffset P (raw_entry_views (drop at entries)) offset ↔ IsFirstOffset P (raw_entry_views (drop (at + 1) entries)) offset
first_offset_step P entries at within other offset =
    rw (drop_more entries at no_entry within) (
      λ first. elim first [ inl here ↦ absurd (other here.0) | inr later ↦ later.1 ],
      λ later. inr (other, later),
    )

-- the entry at an index has it
pub first_offset_here : (P : RawEntryView → Type 0) (entries : List RawEntry) (at : ℕ) → at < length entries
    → P (raw_entry_view (entry_at entries at)) → IsFirstOffset P (raw_entry_views (drop at entries)) (entry_at entries at).offset
first_offset_here P entries at within has = rw (drop_more entries at no_entry within) (inl (has, refl))

-- no entry remains
pub no_first_offset : (P : RawEntryView → Type 0) (entries : List RawEntry) (at offset : ℕ) → length entries ≤ at
    → ¬ IsFirstOffset P (raw_entry_views (drop at entries)) offset
no_first_offset P entries at offset past first =
    let Rest : List RawEntry → Type 0 = λ rest. IsFirstOffset P (raw_entry_views rest) offset in
    subst Rest (drop_of_length-le entries past) first

-- two neighbours are in order
pub step_offset_next : (e next : RawEntryView) (entries : List RawEntryView) (offset : ℕ) → (¬ StepsDown e next)
    → IsStepOffset (e ∷ next ∷ entries) offset ↔ IsStepOffset (next ∷ entries) offset
step_offset_next e next entries offset other = (
  λ first. elim first [ inl here ↦ absurd (other here.0) | inr later ↦ later.1 ],
  λ later. inr (other, later),
)
