-- Entries that are filtered one after the other, and those that a write emits: for `assign_ids` and `write_settled`.
use mathlib.Core.Bool.{true≢false}
use Rattle.std.proofs.Common.{◌≡◌, ◌≢◌, ◌∙◌, inl, inr, ⊎_elim, ℕ, true, false, not, cond, List, [], ◌∷◌, ◌++◌, Some, refl, sym, ap, subst}
use Rattle.std.specs.Prelude.{IsFalse}
use Rattle.std.specs.Cmp.Lexicographic.{bytes_decides}
use Rattle.std.specs.List.{AllByRecursion}
use Rattle.gixobj_tree_entries.specs.Entries.{EntryView, Pair}
use Rattle.gixobj_hash.specs.Hash.{null_id}
use Rattle.gixobj_hash.specs.declared.hash.kind.Kind.TheVariants.{Sha1}
use Rattle.gixobj_hash.specs.declared.hash.object_id.ObjectId.{ObjectId}
use Rattle.gixobj_editor_files.specs.Editing.{non_null_entries, same_name}
use Rattle.gixobj_editor_files.specs.Files.{is_null}
use Rattle.gixobj_editor_files.specs.Emission.{EmitsBelow, EmitsEntries, left_out_if_empty, end, entry_unless_null, of_entries, unopened, unchanged, written}
use Rattle.gixobj_editor_files.specs.Opening.{Dirs}
use Rattle.gixobj_editor_files.specs.WrittenTrees.{with_id}
use Rattle.gixobj_editor_files.specs.FilteredTrees.{IsFilteredTree, first_id_if_named, after_first_if_named}

-- no entry has a null id
abbrev pub AreFilled : List EntryView → Type 0
AreFilled es = AllByRecursion (λ e. IsFalse (is_null e.id)) es

-- the filtered entries after an entry got this id: the rest filters what follows
pub record FiltersEntry (e : EntryView) (rest remaining : List EntryView) (id : ObjectId) (following : List EntryView) : Type 0 where
  pub here : non_null_entries (with_id e id ∷ []) ++ following ≡ remaining
  pub is_filtered : IsFilteredTree following rest
  pub filled : AreFilled following

cons_injective_head : (x y : EntryView) (xs ys : List EntryView) → x ∷ xs ≡ y ∷ ys → x ≡ y
cons_injective_head x y xs ys is = cc is

cons_injective_tail : (x y : EntryView) (xs ys : List EntryView) → x ∷ xs ≡ y ∷ ys → xs ≡ ys
cons_injective_tail x y xs ys is = cc is

-- the first filtered entry has the name of an entry
filtered_head_name_ne : (name : List ℕ) (x : EntryView) (xs es : List EntryView) → IsFilteredTree (x ∷ xs) es → AllByRecursion (λ y. name ≢ y.name) es
    → name ≢ x.name
filtered_head_name_ne name x xs [] h others is = cc h
filtered_head_name_ne name x xs (e ∷ es) (inl h) others is = filtered_head_name_ne name x xs es h others.1 is
filtered_head_name_ne name x xs (e ∷ es) (inr h) others is = others.0 (is ∙ ap (λ (y : EntryView). y.name) (cons_injective_head x (with_id e h.0) xs h.1 h.2))

non_null_entries_singleton : (x : EntryView) → IsFalse (is_null x.id) → non_null_entries (x ∷ []) ≡ x ∷ []
non_null_entries_singleton x filled = ap (λ b. cond (not b) (x ∷ []) []) filled

with_id_of_with_id : (e x : EntryView) (id : ObjectId) → x ≡ with_id e id → with_id e x.id ≡ x
with_id_of_with_id e x id is = ap (λ (y : EntryView). with_id e y.id) is ∙ sym is

pub filters_step : (e : EntryView) (rest remaining : List EntryView) → AllByRecursion (λ y. e.name ≢ y.name) rest → AreFilled remaining
    → IsFilteredTree remaining (e ∷ rest) → FiltersEntry e rest remaining (first_id_if_named e.name remaining) (after_first_if_named e.name remaining)
filters_step e rest [] apart filled (inl h) = record { here = refl; is_filtered = h; filled = tt }
filters_step e rest [] apart filled (inr h) = absurd (cc h.2)
filters_step e rest (x ∷ xs) apart filled h =
    elim (same_name x.name e.name) as (λ b. same_name x.name e.name ≡ b → FiltersEntry e rest (x ∷ xs) (cond b x.id (null_id Sha1)) (cond b xs (x ∷ xs))) [
      | true ↦ λ is. ⊎_elim (λ following. absurd (filtered_head_name_ne e.name x xs rest following apart (sym ((bytes_decides x.name e.name).0 is))))
          (λ (here : (id : ObjectId) × (more : List EntryView) × (x ∷ xs ≡ with_id e id ∷ more) × IsFilteredTree more rest). record {
            here = ap (λ (y : EntryView). non_null_entries (y ∷ []) ++ xs)
                (with_id_of_with_id e x here.0 (cons_injective_head x (with_id e here.0) xs here.1 here.2))
                ∙ ap (λ ys. ys ++ xs) (non_null_entries_singleton x filled.0);
            is_filtered = subst (λ ys. IsFilteredTree ys rest) (sym (cons_injective_tail x (with_id e here.0) xs here.1 here.2)) here.3;
            filled = filled.1;
          }) h
      | false ↦ λ is. ⊎_elim (λ following. record { here = refl; is_filtered = following; filled = filled })
          (λ (here : (id : ObjectId) × (more : List EntryView) × (x ∷ xs ≡ with_id e id ∷ more) × IsFilteredTree more rest).
          absurd (true≢false (sym ((bytes_decides x.name e.name).1 (ap (λ (y : EntryView). y.name)
          (cons_injective_head x (with_id e here.0) xs here.1 here.2))) ∙ is))) h
    ] refl

is_filtered_tree_cons : (e : EntryView) (id : ObjectId) (os es : List EntryView) → IsFilteredTree os es → IsFilteredTree (entry_unless_null e id ++ os) (e ∷ es)
is_filtered_tree_cons e id os es h = elim (is_null id) as (λ b. IsFilteredTree (cond b [] (with_id e id ∷ []) ++ os) (e ∷ es))
    [ true ↦ inl h | false ↦ inr (id, os, refl, h) ]

is_filtered_tree_of_emits : (dirs bases : Dirs) (es : List EntryView) (ps : List Pair) (written_tree : List EntryView) (n : ℕ)
    → EmitsEntries dirs bases es ps written_tree n
    → IsFilteredTree written_tree es
is_filtered_tree_of_emits dirs bases es ps written_tree n (end d b) = refl
is_filtered_tree_of_emits dirs bases es ps written_tree n (unopened d b e rest below os m none walk) =
    is_filtered_tree_cons e e.id os rest (is_filtered_tree_of_emits d b rest below os m walk)
is_filtered_tree_of_emits dirs bases es ps written_tree n (left_out_if_empty d b e rest inner below os i m found walk) =
    inl (is_filtered_tree_of_emits d b rest below os m walk)
is_filtered_tree_of_emits dirs bases es ps written_tree n (unchanged d b e first rest more inner below os i m found same walk) =
    is_filtered_tree_cons e e.id os rest (is_filtered_tree_of_emits d b rest below os m walk)
is_filtered_tree_of_emits dirs bases es ps written_tree n (written d b e first rest more inner below os i m id found changed walk) =
    is_filtered_tree_cons e id os rest (is_filtered_tree_of_emits d b rest below os m walk)

some_injective : (xs ys : List EntryView) → Some xs ≡ Some ys → xs ≡ ys
some_injective xs ys is = cc is

-- the written tree of a directory has some of its entries
pub is_filtered_tree_of_walk : (dirs bases : Dirs) (ps : List Pair) (written_tree : List EntryView) (n : ℕ) (es : List EntryView)
    → EmitsBelow dirs bases ps written_tree n
    → dirs [] ≡ Some es → IsFilteredTree written_tree es
is_filtered_tree_of_walk dirs bases ps written_tree n es (of_entries d b items below os m is walk) there =
    subst (IsFilteredTree written_tree) (some_injective items es (sym is ∙ there))
    (is_filtered_tree_of_emits d b items below written_tree m walk)
