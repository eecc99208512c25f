-- The entry of a name is the file of the name, or else the directory of it; the proofs of `Entries::find`, `find_tree`
-- and `remove_named` use it.
use Rattle.std.proofs.Common.{◌≡◌, ◌≢◌, ◌∙◌, ◌<◌, ℕ, length, arith, Bool, true, false, not, cond, Contains, List, [], ◌∷◌, Option, Some, None, refl, sym, ap}
use Rattle.std.proofs.Common.{subst}
use mathlib.Core.Bool.{true≢false}
use Rattle.std.specs.Prelude.{◌&&◌}
use Rattle.std.specs.Cmp.Lexicographic.{bytes_decides}
use Rattle.std.specs.List.{AllByRecursion, filter, find}
use Rattle.std.proofs.lemmas.Bool.{false_from_ne_true}
use Rattle.std.proofs.lemmas.List.Elements.{All-contains}
use Rattle.gixobj_hash.specs.ByteStrings.{IsByteFree}
use Rattle.gixobj_tree_entries.specs.Mode.{is_tree_mode}
use Rattle.gixobj_tree_entries.specs.Entries.{EntryView}
use Rattle.gixobj_tree_entries.specs.KeyOrder.{entry_key, key_of}
use Rattle.gixobj_tree.specs.WellFormed.{EachLater, IsEntryName, IsWellFormed}
use Rattle.gixobj_editor_entries.proofs.FlatIndices.{fails_of_none}
use Rattle.gixobj_editor_entries.proofs.Sublists.{all_weaker}
use Rattle.gixobj_editor_entries.specs.Pieces.{has_key, without_key}
use Rattle.gixobj_editor_files.specs.Editing.{same_name, without}
use Rattle.gixobj_editor_files.proofs.WithEntry.{absent_key, absent_other_key, has_key_of_name, key_of_has_key, tree_key_eq, without_eq}
use Rattle.gixobj_editor_files.proofs.KeyOrder.{name_of_key_unique}

find_agree : {X : Type 0} (p q : X → Bool) (xs : List X) → AllByRecursion (λ x. p x ≡ q x) xs → find p xs ≡ find q xs
find_agree p q [] same = refl
find_agree p q (x ∷ xs) same = rw same.0 (ap (λ r. cond (q x) (Some x) r) (find_agree p q xs same.1))

find_none : {X : Type 0} (p : X → Bool) (xs : List X) → AllByRecursion (λ x. p x ≡ false) xs → find p xs ≡ None
find_none p [] fail = refl
find_none p (x ∷ xs) fail = rw fail.0 (find_none p xs fail.1)

filter_all : {X : Type 0} (p : X → Bool) (xs : List X) → AllByRecursion (λ x. p x ≡ true) xs → filter p xs ≡ xs
filter_all p [] pass = refl
filter_all p (x ∷ xs) pass = rw pass.0 (ap (λ l. x ∷ l) (filter_all p xs pass.1))

-- the first of these, or else the other
abbrev pub first_some : {X : Type 0} → Option X → Option X → Option X
first_some (Some x) other = Some x
first_some None other = other

names_free : (es : List EntryView) → IsWellFormed es → AllByRecursion (λ e. IsByteFree 47 e.name) es
names_free es formed = all_weaker (λ (e : EntryView). IsEntryName e.name) (λ (e : EntryView). IsByteFree 47 e.name) (λ e name. name.one_name) es formed.names

-- no entry of a well-formed tree has a name with a slash
module _ (es : List EntryView) (formed : IsWellFormed es) (name : List ℕ) (slashed : Contains name 47) where
  fails : (e : EntryView) → IsByteFree 47 e.name → same_name e.name name ≡ false
  fails e free = false_from_ne_true (same_name e.name name) (λ same.
      All-contains (λ b. b ≢ 47) name 47 (subst (IsByteFree 47) ((bytes_decides e.name name).0 same) free) slashed refl)

  pub find_slashed : find (λ e. same_name e.name name) es ≡ None
  find_slashed = find_none (λ e. same_name e.name name) es
      (all_weaker (λ (e : EntryView). IsByteFree 47 e.name) (λ (e : EntryView). same_name e.name name ≡ false) fails es (names_free es formed))

  pub find_tree_slashed : find (λ e. same_name e.name name && is_tree_mode e.mode) es ≡ None
  find_tree_slashed = find_none (λ e. same_name e.name name && is_tree_mode e.mode) es
      (all_weaker (λ (e : EntryView). IsByteFree 47 e.name) (λ (e : EntryView). (same_name e.name name && is_tree_mode e.mode) ≡ false)
      (λ e free. ap (λ b. b && is_tree_mode e.mode) (fails e free)) es (names_free es formed))

  pub without_slashed : es ≡ without name es
  without_slashed = sym (filter_all (λ e. not (same_name e.name name)) es
      (all_weaker (λ (e : EntryView). IsByteFree 47 e.name) (λ (e : EntryView). not (same_name e.name name) ≡ true) (λ e free. ap not (fails e free)) es
      (names_free es formed)))

-- if no entry has the key of a directory, none is a directory of that name
module _ (name : List ℕ) where
  is_no_tree : (e : EntryView) → has_key entry_key (key_of name true) e ≡ false → (same_name e.name name && is_tree_mode e.mode) ≡ false
  is_no_tree e differs =
      elim (same_name e.name name) as (λ b. same_name e.name name ≡ b → (b && is_tree_mode e.mode) ≡ false) [
        | true ↦ λ is. false_from_ne_true (is_tree_mode e.mode)
            (λ kind. true≢false (sym (has_key_of_name name e true kind ((bytes_decides e.name name).0 is)) ∙ differs))
        | false ↦ λ is. refl
      ] refl

  pub find_tree_none_of_key : (es : List EntryView) → find (has_key entry_key (key_of name true)) es ≡ None
      → find (λ e. same_name e.name name && is_tree_mode e.mode) es ≡ None
  find_tree_none_of_key [] none = refl
  find_tree_none_of_key (e ∷ es) none =
      let rest = fails_of_none (has_key entry_key (key_of name true) e) e (find (has_key entry_key (key_of name true)) es) none in
      rw (is_no_tree e rest.0) (find_tree_none_of_key es rest.1)

module _ (name : List ℕ) (free : IsByteFree 47 name) where
  absent_later : (t : Bool) (e : EntryView) (es : List EntryView) → e.name ≡ name → AllByRecursion (λ y. e.name ≢ y.name) es
      → AllByRecursion (λ e. IsByteFree 47 e.name) es → find (has_key entry_key (key_of name t)) es ≡ None
  absent_later t e [] named differ frees = refl
  absent_later t e (y ∷ ys) named differ frees =
      rw (absent_key name free y frees.0 t (λ same. differ.0 (named ∙ sym same))) (absent_later t e ys named differ.1 frees.1)

  name_of_key : (e : EntryView) → IsByteFree 47 e.name → (t : Bool) → has_key entry_key (key_of name t) e ≡ true → e.name ≡ name
  name_of_key e here t has = name_of_key_unique e.name (is_tree_mode e.mode) name t here free (key_of_has_key e (key_of name t) has)

  found_of_kinds : (es : List EntryView) → AllByRecursion (λ e. IsByteFree 47 e.name) es → EachLater (λ x y. x.name ≢ y.name) es
      → first_some (find (has_key entry_key (key_of name false)) es) (find (has_key entry_key (key_of name true)) es) ≡ find (λ e. same_name e.name name) es
  found_of_kinds [] frees apart = refl
  found_of_kinds (e ∷ es) frees apart =
      elim (same_name e.name name) as (λ b. same_name e.name name ≡ b
      → first_some (find (has_key entry_key (key_of name false)) (e ∷ es)) (find (has_key entry_key (key_of name true)) (e ∷ es))
      ≡ cond b (Some e) (find (λ e. same_name e.name name) es)) [
        | true ↦ λ is. of_kind (is_tree_mode e.mode) refl ((bytes_decides e.name name).0 is)
        | false ↦ λ is.
            let differ : (e.name ≡ name → ⊥) = λ same. true≢false (sym ((bytes_decides e.name name).1 same) ∙ is) in
            rw (absent_key name free e frees.0 false differ, absent_key name free e frees.0 true differ) (found_of_kinds es frees.1 apart.1)
      ] refl
    where
      of_kind : (t : Bool) → is_tree_mode e.mode ≡ t → e.name ≡ name
          → first_some (find (has_key entry_key (key_of name false)) (e ∷ es)) (find (has_key entry_key (key_of name true)) (e ∷ es)) ≡ Some e
      of_kind false kind named = rw (has_key_of_name name e false kind named) refl
      of_kind true kind named = rw (
        absent_other_key name free e frees.0 true kind named,
        absent_later false e es named apart.0 frees.1,
        has_key_of_name name
            e true kind named,
      ) refl

  pub find_of_kinds : (es : List EntryView) → IsWellFormed es
      → first_some (find (has_key entry_key (key_of name false)) es) (find (has_key entry_key (key_of name true)) es) ≡ find (λ e. same_name e.name name) es
  find_of_kinds es formed = found_of_kinds es (names_free es formed) formed.apart

  pub find_tree_of_key : (es : List EntryView) → IsWellFormed es
      → find (has_key entry_key (key_of name true)) es ≡ find (λ e. same_name e.name name && is_tree_mode e.mode) es
  find_tree_of_key es formed = find_agree (has_key entry_key (key_of name true)) (λ e. same_name e.name name && is_tree_mode e.mode) es
      (all_weaker (λ (e : EntryView). IsByteFree 47 e.name)
      (λ (e : EntryView). has_key entry_key (key_of name true) e ≡ (same_name e.name name && is_tree_mode e.mode)) (λ e here. tree_key_eq name free e here) es
      (names_free es formed))

  module _ (es : List EntryView) (formed : IsWellFormed es) where
    pub find_of_file : (f : EntryView) → Some f ≡ find (has_key entry_key (key_of name false)) es → Some f ≡ find (λ e. same_name e.name name) es
    find_of_file f is = ap (λ r. first_some r (find (has_key entry_key (key_of name true)) es)) is ∙ find_of_kinds es formed

    pub find_of_no_file : None ≡ find (has_key entry_key (key_of name false)) es
        → find (has_key entry_key (key_of name true)) es ≡ find (λ e. same_name e.name name) es
    find_of_no_file is = ap (λ r. first_some r (find (has_key entry_key (key_of name true)) es)) is ∙ find_of_kinds es formed

  -- if the file of a name is removed, no directory has the name
  without_key_of_differ : (t : Bool) (e : EntryView) (es : List EntryView) → e.name ≡ name → AllByRecursion (λ y. e.name ≢ y.name) es
      → AllByRecursion (λ e. IsByteFree 47 e.name) es → without_key entry_key (key_of name t) es ≡ es
  without_key_of_differ t e [] named differ frees = refl
  without_key_of_differ t e (y ∷ ys) named differ frees =
      rw (absent_key name free y frees.0 t (λ same. differ.0 (named ∙ sym same))) (ap (λ l. y ∷ l) (without_key_of_differ t e ys named differ.1 frees.1))

  shorter_of_other : (e : EntryView) (es : List EntryView) → AllByRecursion (λ e. IsByteFree 47 e.name) (e ∷ es)
      → EachLater (λ x y. x.name ≢ y.name) (e ∷ es) → (b : Bool) → has_key entry_key (key_of name true) e ≡ b
      → length (e ∷ without_key entry_key (key_of name false) es) < length (e ∷ es)
      → (length (without_key entry_key (key_of name false) es) < length es
      → without_key entry_key (key_of name true) (without_key entry_key (key_of name false) es) ≡ without_key entry_key (key_of name false) es)
      → without_key entry_key (key_of name true) (e ∷ without_key entry_key (key_of name false) es) ≡ e ∷ without_key entry_key (key_of name false) es
  shorter_of_other e es frees apart true is low rest =
      absurd (omega (arith, low, ap length (without_key_of_differ false e es (name_of_key e frees.0 true is) apart.0 frees.1)))
  shorter_of_other e es frees apart false is low rest = rw is (ap (λ l. e ∷ l) (rest (omega (arith, low))))

  no_tree_of_shorter : (es : List EntryView) → AllByRecursion (λ e. IsByteFree 47 e.name) es → EachLater (λ x y. x.name ≢ y.name) es
      → length (without_key entry_key (key_of name false) es) < length es
      → without_key entry_key (key_of name true) (without_key entry_key (key_of name false) es) ≡ without_key entry_key (key_of name false) es
  no_tree_of_shorter [] frees apart short = absurd (omega (arith, short))
  no_tree_of_shorter (e ∷ es) frees apart short =
      elim (has_key entry_key (key_of name false) e) as (λ b. has_key entry_key (key_of name false) e ≡ b
      → length (cond (not b) (e ∷ without_key entry_key (key_of name false) es) (without_key entry_key (key_of name false) es)) < length (e ∷ es)
      → without_key entry_key (key_of name true) (cond (not b) (e ∷ without_key entry_key (key_of name false) es)
      (without_key entry_key (key_of name false) es))
      ≡ cond (not b) (e ∷ without_key entry_key (key_of name false) es) (without_key entry_key (key_of name false) es)) [
        | true ↦ λ is _.
            let named : e.name ≡ name = name_of_key e frees.0 false is in
            rw (without_key_of_differ false e es named apart.0 frees.1) (without_key_of_differ true e es named apart.0 frees.1)
        | false ↦ λ is low. shorter_of_other e es frees apart (has_key entry_key (key_of name true) e) refl low
            (λ l. no_tree_of_shorter es frees.1 apart.1 l)
      ] refl short

  pub without_of_file : (es : List EntryView) → IsWellFormed es → length (without_key entry_key (key_of name false) es) < length es
      → without_key entry_key (key_of name false) es ≡ without name es
  without_of_file es formed short = sym (no_tree_of_shorter es (names_free es formed) formed.apart short) ∙ without_eq name free es formed
