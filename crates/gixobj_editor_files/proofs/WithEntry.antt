-- An item inserted at its key, and the item of its name's other key removed, make the entries with this entry instead
-- of any of its name; `Entries::insert`, `remove_named` and `EitherKind` use it.
use Rattle.std.proofs.Common.{◌≡◌, ◌≢◌, ◌∙◌, ℕ, Bool, true, false, not, cond, List, [], ◌∷◌, ◌++◌, Less, Equal, Greater, None, refl, sym, ap, subst}
use mathlib.Core.Bool.{true≢false}
use Rattle.std.specs.Prelude.{◌&&◌}
use Rattle.std.specs.Cmp.Lexicographic.{bytes_decides, slice_cmp}
use Rattle.std.specs.List.{AllByRecursion, filter, find}
use Rattle.std.specs.Ordering.{is_eq, is_gt, is_lt, nat_cmp}
use Rattle.std.proofs.lemmas.Bool.{false_from_ne_true}
use Rattle.std.proofs.lemmas.List.Elements.{filter-append}
use Rattle.gixobj_hash.specs.ByteStrings.{IsByteFree}
use Rattle.gixobj_tree_entries.specs.Mode.{is_tree_mode}
use Rattle.gixobj_tree_entries.proofs.TiedBytes.{eq_of_slice_cmp_equal, slice_cmp_equal_of_eq}
use Rattle.gixobj_tree.proofs.WellFormed.{no_slash_at_end}
use Rattle.gixobj_tree_entries.specs.Entries.{EntryView}
use Rattle.gixobj_tree_entries.specs.KeyOrder.{entry_key, key_of}
use Rattle.gixobj_tree.specs.WellFormed.{IsEntryName, IsWellFormed}
use Rattle.gixobj_editor_entries.proofs.Neighbours.{find_none_with_item}
use Rattle.gixobj_editor_entries.proofs.Sublists.{all_weaker}
use Rattle.gixobj_editor_entries.specs.Pieces.{has_key, is_after, is_before, with_item, without_key}
use Rattle.gixobj_editor_files.specs.Editing.{comes_before, same_name, with_entry, without}
use Rattle.gixobj_editor_files.proofs.KeyOrder.{name_of_key_unique}

module _ {X : Type 0} (p q : X → Bool) where
  filter_filter : (xs : List X) → filter p (filter q xs) ≡ filter (λ x. q x && p x) xs
  filter_filter [] = refl
  filter_filter (x ∷ xs) =
      elim (q x) as (λ b. filter p (cond b (x ∷ filter q xs) (filter q xs))
      ≡ cond (b && p x) (x ∷ filter (λ y. q y && p y) xs) (filter (λ y. q y && p y) xs)) [
        | true ↦ ap (λ l. cond (p x) (x ∷ l) l) (filter_filter xs)
        | false ↦ filter_filter xs
      ]

  filter_agree : (xs : List X) → AllByRecursion (λ x. p x ≡ q x) xs → filter p xs ≡ filter q xs
  filter_agree [] same = refl
  filter_agree (x ∷ xs) same = rw same.0 (ap (λ l. cond (q x) (x ∷ l) l) (filter_agree xs same.1))

and_false : (b : Bool) → (b && false) ≡ false
and_false true = refl
and_false false = refl

and_true : (b : Bool) → (b && true) ≡ b
and_true true = refl
and_true false = refl

not_of_ne : (a b : Bool) → (a ≡ b → ⊥) → a ≡ not b
not_of_ne true true differ = absurd (differ refl)
not_of_ne true false differ = refl
not_of_ne false true differ = refl
not_of_ne false false differ = absurd (differ refl)

pub key_of_has_key : (e : EntryView) (k : List ℕ) → has_key entry_key k e ≡ true → entry_key e ≡ k
key_of_has_key e k has =
    elim (slice_cmp nat_cmp (entry_key e) k) as (λ o. slice_cmp nat_cmp (entry_key e) k ≡ o → is_eq o ≡ true → entry_key e ≡ k) [
      | Less ↦ λ is h. absurd (true≢false (sym h))
      | Equal ↦ λ is h. eq_of_slice_cmp_equal (entry_key e) k is
      | Greater ↦ λ is h. absurd (true≢false (sym h))
    ] refl has

key_ne_other_kind : (n : List ℕ) (t : Bool) → IsByteFree 47 n → key_of n t ≡ key_of n (not t) → ⊥
key_ne_other_kind n true named e = no_slash_at_end n (subst (IsByteFree 47) (sym e) named)
key_ne_other_kind n false named e = no_slash_at_end n (subst (IsByteFree 47) e named)

module _ (x : EntryView) (free : IsByteFree 47 x.name) where
  -- the key of the entry of the name and the other kind
  abbrev pub other_key : List ℕ
  other_key = key_of x.name (not (is_tree_mode x.mode))

  name_eq_of_key : (e : EntryView) (t : Bool) → IsByteFree 47 e.name → entry_key e ≡ key_of x.name t → e.name ≡ x.name
  name_eq_of_key e t here same = name_of_key_unique e.name (is_tree_mode e.mode) x.name t here free same

  other_key_of_name : (e : EntryView) → e.name ≡ x.name → (entry_key e ≢ entry_key x) → entry_key e ≡ other_key
  other_key_of_name e named differ =
      let kind : is_tree_mode e.mode ≡ not (is_tree_mode x.mode) = not_of_ne (is_tree_mode e.mode) (is_tree_mode x.mode)
      (λ same. differ (ap (key_of e.name) same ∙ ap (λ (n : List ℕ). key_of n (is_tree_mode x.mode)) named)) in
      ap (key_of e.name) kind ∙ ap (λ (n : List ℕ). key_of n (not (is_tree_mode x.mode))) named

  -- an entry that hasn't this one's key has its name if and only if it has the other key
  has_other_key_eq_same_name : (e : EntryView) → IsByteFree 47 e.name → (entry_key e ≢ entry_key x) → has_key entry_key other_key e ≡ same_name e.name x.name
  has_other_key_eq_same_name e here differ =
      elim (same_name e.name x.name) as (λ b. same_name e.name x.name ≡ b → has_key entry_key other_key e ≡ b) [
        | true ↦ λ is. ap is_eq (slice_cmp_equal_of_eq (entry_key e) other_key (other_key_of_name e ((bytes_decides e.name x.name).0 is) differ))
        | false ↦ λ is. false_from_ne_true (has_key entry_key other_key e)
            (λ has. true≢false (sym ((bytes_decides e.name x.name).1 (name_eq_of_key e (not (is_tree_mode x.mode)) here (key_of_has_key e other_key has)))
            ∙ is))
      ] refl

  lower_agree : (e : EntryView) → IsByteFree 47 e.name
      → (is_before entry_key (entry_key x) e && not (has_key entry_key other_key e)) ≡ (not (same_name e.name x.name) && comes_before e x)
  lower_agree e here =
      elim (slice_cmp nat_cmp (entry_key e) (entry_key x)) as (λ o. slice_cmp nat_cmp (entry_key e) (entry_key x) ≡ o
      → (is_lt o && not (has_key entry_key other_key e)) ≡ (not (same_name e.name x.name) && is_lt o)) [
        | Less ↦ λ is. ap not (has_other_key_eq_same_name e here (λ same. true≢false (ap is_lt (sym is ∙ slice_cmp_equal_of_eq _ _ same))))
            ∙ sym (and_true (not (same_name e.name x.name)))
        | Equal ↦ λ is. sym (and_false (not (same_name e.name x.name)))
        | Greater ↦ λ is. sym (and_false (not (same_name e.name x.name)))
      ] refl

  upper_agree : (e : EntryView) → IsByteFree 47 e.name
      → (is_after entry_key (entry_key x) e && not (has_key entry_key other_key e)) ≡ (not (same_name e.name x.name) && not (comes_before e x))
  upper_agree e here =
      elim (slice_cmp nat_cmp (entry_key e) (entry_key x)) as (λ o. slice_cmp nat_cmp (entry_key e) (entry_key x) ≡ o
      → (is_gt o && not (has_key entry_key other_key e)) ≡ (not (same_name e.name x.name) && not (is_lt o))) [
        | Less ↦ λ is. sym (and_false (not (same_name e.name x.name)))
        | Equal ↦ λ is.
            let named : same_name e.name x.name ≡ true =
            (bytes_decides e.name x.name).1 (name_eq_of_key e (is_tree_mode x.mode) here (eq_of_slice_cmp_equal (entry_key e) (entry_key x) is)) in
            sym (and_true (not (same_name e.name x.name)) ∙ ap not named)
        | Greater ↦ λ is. ap not (has_other_key_eq_same_name e here (λ same. true≢false (ap is_gt (sym is ∙ slice_cmp_equal_of_eq _ _ same))))
            ∙ sym (and_true (not (same_name e.name x.name)))
      ] refl

  own_key_differs : has_key entry_key other_key x ≡ false
  own_key_differs = false_from_ne_true (has_key entry_key other_key x) (λ has. key_ne_other_kind x.name (is_tree_mode x.mode) free
      (key_of_has_key x other_key has))

  pub with_entry_eq : (es : List EntryView) → IsWellFormed es → without_key entry_key other_key (with_item entry_key x es) ≡ with_entry x es
  with_entry_eq es formed =
      let names : AllByRecursion (λ (e : EntryView). IsByteFree 47 e.name) es =
      all_weaker (λ (e : EntryView). IsEntryName e.name) (λ (e : EntryView). IsByteFree 47 e.name) (λ e name. name.one_name) es formed.names in
      let kept : EntryView → Bool = λ e. not (has_key entry_key other_key e) in
      let before : EntryView → Bool = is_before entry_key (entry_key x) in
      let after : EntryView → Bool = is_after entry_key (entry_key x) in
      let others : EntryView → Bool = λ e. not (same_name e.name x.name) in
      let lower = filter before es in
      let upper = filter after es in
      let low : filter kept lower ≡ filter (λ e. comes_before e x) (without x.name es) =
      filter_filter kept before es
      ∙ filter_agree (λ e. before e && kept e) (λ e. others e && comes_before e x) es
      (all_weaker (λ (e : EntryView). IsByteFree 47 e.name) (λ (e : EntryView). (before e && kept e) ≡ (others e && comes_before e x)) lower_agree es names)
      ∙ sym (filter_filter (λ e. comes_before e x) others es) in
      let high : filter kept upper ≡ filter (λ e. not (comes_before e x)) (without x.name es) =
      filter_filter kept after es
      ∙ filter_agree (λ e. after e && kept e) (λ e. others e && not (comes_before e x)) es
      (all_weaker (λ (e : EntryView). IsByteFree 47 e.name) (λ (e : EntryView). (after e && kept e) ≡ (others e && not (comes_before e x))) upper_agree es
      names)
      ∙ sym (filter_filter (λ e. not (comes_before e x)) others es) in
      let own : filter kept (x ∷ upper) ≡ x ∷ filter kept upper =
      ap (λ (b : Bool). cond (not b) (x ∷ filter kept upper) (filter kept upper)) own_key_differs in
      filter-append kept lower (x ∷ upper) ∙ ap (λ l. filter kept lower ++ l) own ∙ ap (λ l. l ++ x ∷ filter kept upper) low
      ∙ ap (λ l. filter (λ e. comes_before e x) (without x.name es) ++ x ∷ l) high

-- an entry has a key of the name if and only if it has the name, and the kind of the key
pub has_key_of_name : (name : List ℕ) (e : EntryView) (t : Bool) → is_tree_mode e.mode ≡ t → e.name ≡ name → has_key entry_key (key_of name t) e ≡ true
has_key_of_name name e t kind named =
    ap is_eq (slice_cmp_equal_of_eq (entry_key e) (key_of name t) (ap (key_of e.name) kind ∙ ap (λ (n : List ℕ). key_of n t) named))

module _ (name : List ℕ) (free : IsByteFree 47 name) (e : EntryView) (here : IsByteFree 47 e.name) where
  pub absent_key : (t : Bool) → (e.name ≢ name) → has_key entry_key (key_of name t) e ≡ false
  absent_key t differ = false_from_ne_true (has_key entry_key (key_of name t) e)
      (λ has. differ (name_of_key_unique e.name (is_tree_mode e.mode) name t here free (key_of_has_key e (key_of name t) has)))

  pub absent_other_key : (t : Bool) → is_tree_mode e.mode ≡ t → e.name ≡ name → has_key entry_key (key_of name (not t)) e ≡ false
  absent_other_key t kind named = false_from_ne_true (has_key entry_key (key_of name (not t)) e)
      (λ has. key_ne_other_kind name t free
      (ap (λ (n : List ℕ). key_of n t) (sym named) ∙ ap (key_of e.name) (sym kind) ∙ key_of_has_key e (key_of name (not t)) has))

  differ_of_not_same : same_name e.name name ≡ false → e.name ≢ name
  differ_of_not_same is same = true≢false (sym ((bytes_decides e.name name).1 same) ∙ is)

  pub tree_key_eq : has_key entry_key (key_of name true) e ≡ (same_name e.name name && is_tree_mode e.mode)
  tree_key_eq =
      elim (same_name e.name name) as (λ b. same_name e.name name ≡ b → has_key entry_key (key_of name true) e ≡ (b && is_tree_mode e.mode)) [
        | true ↦ λ is. of_kind (is_tree_mode e.mode) refl ((bytes_decides e.name name).0 is)
        | false ↦ λ is. absent_key true (differ_of_not_same is)
      ] refl
    where
      of_kind : (t : Bool) → is_tree_mode e.mode ≡ t → e.name ≡ name → has_key entry_key (key_of name true) e ≡ t
      of_kind true kind named = has_key_of_name name e true kind named
      of_kind false kind named = absent_other_key false kind named

  pub no_key_agree : (not (has_key entry_key (key_of name false) e) && not (has_key entry_key (key_of name true) e)) ≡ not (same_name e.name name)
  no_key_agree =
      elim (same_name e.name name) as (λ b. same_name e.name name ≡ b
      → (not (has_key entry_key (key_of name false) e) && not (has_key entry_key (key_of name true) e)) ≡ not b) [
        | true ↦ λ is. of_kind (is_tree_mode e.mode) refl ((bytes_decides e.name name).0 is)
        | false ↦ λ is. rw (absent_key false (differ_of_not_same is), absent_key true (differ_of_not_same is)) refl
      ] refl
    where
      of_kind : (t : Bool) → is_tree_mode e.mode ≡ t → e.name ≡ name
          → (not (has_key entry_key (key_of name false) e) && not (has_key entry_key (key_of name true) e)) ≡ false
      of_kind true kind named = rw (has_key_of_name name e true kind named) (and_false (not (has_key entry_key (key_of name false) e)))
      of_kind false kind named = rw (has_key_of_name name e false kind named) refl

-- the entries of other names: those of neither key of the name
module _ (name : List ℕ) (free : IsByteFree 47 name) where
  pub without_eq : (es : List EntryView) → IsWellFormed es
      → without_key entry_key (key_of name true) (without_key entry_key (key_of name false) es) ≡ without name es
  without_eq es formed =
      let names : AllByRecursion (λ (e : EntryView). IsByteFree 47 e.name) es =
      all_weaker (λ (e : EntryView). IsEntryName e.name) (λ (e : EntryView). IsByteFree 47 e.name) (λ e named. named.one_name) es formed.names in
      let no_file : EntryView → Bool = λ e. not (has_key entry_key (key_of name false) e) in
      let no_tree : EntryView → Bool = λ e. not (has_key entry_key (key_of name true) e) in
      filter_filter no_tree no_file es
      ∙ filter_agree (λ e. no_file e && no_tree e) (λ e. not (same_name e.name name)) es
      (all_weaker (λ (e : EntryView). IsByteFree 47 e.name) (λ (e : EntryView). (no_file e && no_tree e) ≡ not (same_name e.name name))
      (λ e here. no_key_agree name free e here) es names)

-- the entries after an insertion at a key and a removal at the name's other key
pub with_entry_of_edits : (x y : EntryView) (name : List ℕ) (t : Bool) (es reserved inserted removed : List EntryView) → IsByteFree 47 x.name → IsWellFormed es
    → reserved ≡ es → y ≡ x → inserted ≡ with_item entry_key y reserved → name ≡ x.name → t ≡ is_tree_mode x.mode
    → removed ≡ without_key entry_key (key_of name (not t)) inserted → removed ≡ with_entry x es
with_entry_of_edits x y name t es reserved inserted removed free formed a b c d e f =
    f ∙ rw (c, d, e, a, b) (with_entry_eq x free es formed)

-- if no entry has the name and the other kind before an insertion, none has after it
pub no_other_of_alone : (x y : EntryView) (name : List ℕ) (t : Bool) (es reserved inserted : List EntryView) → IsByteFree 47 x.name → reserved ≡ es
    → y ≡ x → inserted ≡ with_item entry_key y reserved → name ≡ x.name → t ≡ is_tree_mode x.mode
    → find (has_key entry_key (key_of y.name (not (is_tree_mode y.mode)))) reserved ≡ None
    → find (has_key entry_key (key_of name (not t))) inserted ≡ None
no_other_of_alone x y name t es reserved inserted free a b c d e none =
    rw (d, e, c, b) (find_none_with_item entry_key x _ reserved (own_key_differs x free) (rw b at none))
