-- Edits keep entries well-formed, and a root alone satisfies the invariant of open directories: for the levels of open
-- directories and `StillOpened`.
use Rattle.std.proofs.Common.{◌≡◌, ◌≢◌, ◌∙◌, ℕ, Bool, true, not, cond, List, [], ◌∷◌, ◌++◌, Option, Some, None, refl, sym, ap, subst}
use mathlib.Core.Bool.{true≢false}
use Rattle.std.specs.Cmp.Lexicographic.{bytes_decides, slice_cmp}
use Rattle.std.specs.FinMap as map
use Rattle.std.specs.List.{AllByRecursion, filter}
use Rattle.std.specs.Ordering.{is_eq, nat_cmp}
use Rattle.std.proofs.lemmas.Cmp.{lists_total, nat_list_cmp_total}
use Rattle.gixobj_tree_entries.specs.Entries.{EntryView}
use Rattle.gixobj_tree_entries.specs.KeyOrder.{ComesBefore}
use Rattle.gixobj_tree.specs.WellFormed.{EachLater, IsEntryName, IsWellFormed}
use Rattle.gixobj_editor_files.specs.Editing.{comes_before, non_null_entries, same_name, with_entry, without}
use Rattle.gixobj_editor_files.specs.Files.{Path, is_null}
use Rattle.gixobj_editor_files.specs.Opening.{IsOpened}
use Rattle.gixobj_editor_files.specs.State.{root_alone}
use Rattle.gixobj_editor_files.proofs.KeyOrder.{comes_before_of_false, comes_before_of_true}
use Rattle.gixobj_editor_entries.proofs.Sublists.{all_append, all_both, all_kept, all_pass, all_weaker, later_append, later_kept, later_parted}
use Rattle.gixobj_tree.proofs.WellFormed.{comes_before_trans}

-- a filtered list is well-formed
pub is_well_formed_filter : (p : EntryView → Bool) (es : List EntryView) → IsWellFormed es → IsWellFormed (filter p es)
is_well_formed_filter p es formed = record {
  names = all_kept (λ e. IsEntryName e.name) p es formed.names;
  apart = later_kept (λ x y. x.name ≢ y.name) p es formed.apart;
  ascending = later_kept ComesBefore p es formed.ascending;
}

pub is_well_formed_without : (name : List ℕ) (es : List EntryView) → IsWellFormed es → IsWellFormed (without name es)
is_well_formed_without name = is_well_formed_filter (λ e. not (same_name e.name name))

pub is_well_formed_non_null : (es : List EntryView) → IsWellFormed es → IsWellFormed (non_null_entries es)
is_well_formed_non_null = is_well_formed_filter (λ e. not (is_null e.id))

-- a list is well-formed with an entry at its position, among entries of other names
module _ (x : EntryView) (es : List EntryView) (formed : IsWellFormed es) (name : IsEntryName x.name) (others : AllByRecursion (λ e. e.name ≢ x.name) es) where
  abbrev lower : List EntryView
  lower = filter (λ e. comes_before e x) es

  abbrev upper : List EntryView
  upper = filter (λ e. not (comes_before e x)) es

  upper_differ : AllByRecursion (λ e. x.name ≢ e.name) upper
  upper_differ = all_weaker (λ (e : EntryView). e.name ≢ x.name) (λ (e : EntryView). x.name ≢ e.name) (λ e differ same. differ (sym same)) upper
      (all_kept (λ (e : EntryView). e.name ≢ x.name) (λ e. not (comes_before e x)) es others)

  lower_below : AllByRecursion (λ e. ComesBefore e x) lower
  lower_below = all_weaker (λ (e : EntryView). comes_before e x ≡ true) (λ (e : EntryView). ComesBefore e x) (λ e passes. comes_before_of_true e x passes) lower
      (all_pass (λ e. comes_before e x) es)

  upper_above : AllByRecursion (ComesBefore x) upper
  upper_above =
      let facts = all_both (λ (e : EntryView). IsEntryName e.name) (λ (e : EntryView). e.name ≢ x.name) es formed.names others in
      let upper_facts = all_kept (λ (e : EntryView). IsEntryName e.name × (e.name ≢ x.name)) (λ e. not (comes_before e x)) es facts in
      all_weaker (λ (e : EntryView). (IsEntryName e.name × (e.name ≢ x.name)) × (not (comes_before e x) ≡ true)) (ComesBefore x)
      (λ e h. comes_before_of_false e x h.0.0.one_name name.one_name h.0.1 h.1) upper
      (all_both (λ (e : EntryView). IsEntryName e.name × (e.name ≢ x.name)) (λ (e : EntryView). not (comes_before e x) ≡ true) upper upper_facts
      (all_pass (λ e. not (comes_before e x)) es))

  inserted_names : AllByRecursion (λ e. IsEntryName e.name) (lower ++ x ∷ upper)
  inserted_names =
      all_append (λ (e : EntryView). IsEntryName e.name) lower (x ∷ upper)
      (all_kept (λ (e : EntryView). IsEntryName e.name) (λ e. comes_before e x) es formed.names)
      (name, all_kept (λ (e : EntryView). IsEntryName e.name) (λ e. not (comes_before e x)) es formed.names)

  inserted_apart : EachLater (λ y z. y.name ≢ z.name) (lower ++ x ∷ upper)
  inserted_apart =
      let Apart : EntryView → EntryView → Type 0 = λ y z. y.name ≢ z.name in
      later_append Apart lower (x ∷ upper) (later_kept Apart (λ e. comes_before e x) es formed.apart)
      (upper_differ, later_kept Apart (λ e. not (comes_before e x)) es formed.apart)
      (all_both (λ (e : EntryView). e.name ≢ x.name) (λ (e : EntryView). AllByRecursion (Apart e) upper) lower
      (all_kept (λ (e : EntryView). e.name ≢ x.name) (λ e. comes_before e x) es others)
      (later_parted Apart (λ e. comes_before e x) es (λ y z differ same. differ (sym same)) formed.apart))

  inserted_ascending : EachLater ComesBefore (lower ++ x ∷ upper)
  inserted_ascending =
      later_append ComesBefore lower (x ∷ upper) (later_kept ComesBefore (λ e. comes_before e x) es formed.ascending)
      (upper_above, later_kept ComesBefore (λ e. not (comes_before e x)) es formed.ascending)
      (all_weaker (λ (e : EntryView). ComesBefore e x) (λ (e : EntryView). ComesBefore e x × AllByRecursion (ComesBefore e) upper)
      (λ e below. (below, all_weaker (ComesBefore x) (ComesBefore e) (λ z above. comes_before_trans e x z below above) upper upper_above)) lower lower_below)

  inserted_formed : IsWellFormed (lower ++ x ∷ upper)
  inserted_formed = record { names = inserted_names; apart = inserted_apart; ascending = inserted_ascending }

without_names_ne : (name : List ℕ) (es : List EntryView) → AllByRecursion (λ e. e.name ≢ name) (without name es)
without_names_ne name es =
    all_weaker (λ (e : EntryView). not (same_name e.name name) ≡ true) (λ (e : EntryView). e.name ≢ name)
    (λ e passes same. true≢false (sym passes ∙ ap not ((bytes_decides e.name name).1 same))) (without name es) (all_pass (λ e. not (same_name e.name name)) es)

pub is_well_formed_with_entry : (x : EntryView) (es : List EntryView) → IsWellFormed es → IsEntryName x.name → IsWellFormed (with_entry x es)
is_well_formed_with_entry x es formed name = inserted_formed x (without x.name es) (is_well_formed_without x.name es formed) name (without_names_ne x.name es)

-- the open directories if the root alone is open
abbrev only_at_root : Path → List EntryView → Option (List EntryView)
only_at_root path es = cond (is_eq (slice_cmp (slice_cmp nat_cmp) path [])) (Some es) None

root_alone_get : (es : List EntryView) (path : Path) → map.get (root_alone es) path ≡ only_at_root path es
root_alone_get es path =
    map.get-insert (lists_total nat_list_cmp_total) map.empty [] es path
    ∙ ap (λ (o : Option (List EntryView)). cond (is_eq (slice_cmp (slice_cmp nat_cmp) path [])) (Some es) o)
    (map.get-empty (slice_cmp (slice_cmp nat_cmp)) path)

root_of_only_at_root : (path : Path) (es entries : List EntryView) → only_at_root path es ≡ Some entries → (path ≡ []) × (es ≡ entries)
root_of_only_at_root [] es entries e = (refl, cc e)
root_of_only_at_root (name ∷ path) es entries e = absurd (cc e)

snoc_ne_nil : (path : Path) (name : List ℕ) → path ++ name ∷ [] ≢ []
snoc_ne_nil [] name e = cc e
snoc_ne_nil (first ∷ path) name e = cc e

pub root_alone_is_opened : (es : List EntryView) → IsWellFormed es → IsOpened (λ path. map.get (root_alone es) path)
root_alone_is_opened es formed = record {
  root = λ none. cc (sym (root_alone_get es []) ∙ none);
  well_formed = λ path entries opened. subst IsWellFormed (root_of_only_at_root path es entries (sym (root_alone_get es path) ∙ opened)).1 formed;
  above = λ path name entries opened. absurd
      (snoc_ne_nil path name (root_of_only_at_root (path ++ name ∷ []) es entries (sym (root_alone_get es (path ++ name ∷ [])) ∙ opened)).0);
}
