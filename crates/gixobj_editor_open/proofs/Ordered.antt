-- Open directories in the order of their entries: for the searches among them and for `Levels`.
use Rattle.std.proofs.Common.{◌≡◌, ◌≢◌, ◌∙◌, ℕ, Bool, true, false, not, cond, List, [], ◌∷◌, ◌++◌, Less, refl, sym, ap}
use mathlib.Core.Bool.{true≢false}
use Rattle.std.specs.Cmp.Lexicographic.{bytes_decides, slice_cmp}
use Rattle.std.specs.List.{AllByRecursion, filter}
use Rattle.std.specs.Ordering.{is_eq, is_lt, nat_cmp}
use Rattle.std.proofs.lemmas.Bool.{false_from_ne_true}
use Rattle.std.proofs.lemmas.List.{append_cancel_right, map-append}
use Rattle.bstr.specs.Owned.{bstring_bytes}
use Rattle.gixobj_editor_files.specs.Editing.{same_name}
use Rattle.gixobj_tree_entries.proofs.TiedBytes.{slice_cmp_equal_of_eq}
use Rattle.gixobj_tree_entries.specs.Entries.{EntryView}
use Rattle.gixobj_tree_entries.specs.KeyOrder.{key_of}
use Rattle.gixobj_tree.specs.WellFormed.{EachLater}
use Rattle.gixobj_editor_open.specs.declared.open.Child.{Child}
use Rattle.gixobj_editor_open.specs.Nested.{AreOrdered, IsLevel, Part, called, child_key, other_parts, part, part_key, parts, with_part}
use Rattle.gixobj_editor_entries.proofs.FlatIndices.{key_of_has_key}
use Rattle.gixobj_editor_entries.proofs.Joined.{is_ascending_with_item}
use Rattle.gixobj_editor_entries.proofs.Sublists.{all_append, all_kept, all_weaker}
use Rattle.gixobj_editor_entries.specs.Pieces.{IsAscending, has_key, is_after, is_before, with_item, without_key}

abbrev pub Before : Part → Part → Type 0
Before p q = slice_cmp nat_cmp (part_key p) (part_key q) ≡ Less

-- a key has one name
pub name_of_key_unique : (n m : List ℕ) → key_of n true ≡ key_of m true → n ≡ m
name_of_key_unique n m same = append_cancel_right n m (47 ∷ []) same

pub names_differ : (p q : Part) → Before p q → p.0 ≢ q.0
names_differ p q before same = true≢false (ap is_lt (sym before ∙ slice_cmp_equal_of_eq (part_key p) (part_key q) (ap (λ (n : List ℕ). key_of n true) same)))

-- no two of them have the same name
pub children_names_apart : (ps : List Part) → AreOrdered ps → EachLater (λ x y. x.0 ≢ y.0) ps
children_names_apart [] up = tt
children_names_apart (p ∷ ps) up = (all_weaker (Before p) (λ q. p.0 ≢ q.0) (λ q before. names_differ p q before) ps up.0, children_names_apart ps up.1)

pub level_names_apart : {es : List EntryView} {ps : List Part} → IsLevel es ps → EachLater (λ x y. x.0 ≢ y.0) ps
level_names_apart {es} {ps} level = children_names_apart ps level.ordered

-- a property of all directories holds with one more
pub all_with_part : (P : Part → Type 0) (p : Part) (ps : List Part) → P p → AllByRecursion P ps → AllByRecursion P (with_part p ps)
all_with_part P p ps here h =
    all_append P (filter (is_before part_key (part_key p)) ps) (p ∷ filter (is_after part_key (part_key p)) ps)
    (all_kept P (is_before part_key (part_key p)) ps h) (here, all_kept P (is_after part_key (part_key p)) ps h)

pub are_ordered_with_part : (p : Part) (ps : List Part) → AreOrdered ps → AreOrdered (with_part p ps)
are_ordered_with_part p ps up = is_ascending_with_item part_key p ps up

-- the keys of children ascend
pub children_ascend : (cs : List Child) → AreOrdered (parts cs) → IsAscending child_key cs
children_ascend [] up = tt
children_ascend (c ∷ cs) up = (each cs up.0, children_ascend cs up.1)
  where
    each : (ds : List Child) → AllByRecursion (Before (part c)) (parts ds)
        → AllByRecursion (λ d. slice_cmp nat_cmp (child_key c) (child_key d) ≡ Less) ds
    each [] h = tt
    each (d ∷ ds) h = (h.0, each ds h.1)

-- a child has a name if it has the key of the name
pub called_is_has_key : (name : List ℕ) → called name ≡ has_key child_key (key_of name true)
called_is_has_key name = λ i c. each c i
  where
    each : (c : Child) → called name c ≡ has_key child_key (key_of name true) c
    each c = elim (same_name (bstring_bytes c.name) name) as
        (λ b. same_name (bstring_bytes c.name) name ≡ b → b ≡ has_key child_key (key_of name true) c) [
          | true ↦ λ is. sym (ap is_eq (slice_cmp_equal_of_eq (child_key c) (key_of name true)
              (ap (λ (n : List ℕ). key_of n true) ((bytes_decides (bstring_bytes c.name) name).0 is))))
          | false ↦ λ is. sym (false_from_ne_true (has_key child_key (key_of name true) c) (λ has. true≢false
              (sym ((bytes_decides (bstring_bytes c.name) name).1
              (name_of_key_unique (bstring_bytes c.name) name (key_of_has_key child_key (key_of name true) c has))) ∙ is)))
        ] refl

-- the parts of some of the children
parts_filter : (test : Part → Bool) (cs : List Child) → parts (filter (λ c. test (part c)) cs) ≡ filter test (parts cs)
parts_filter test [] = refl
parts_filter test (c ∷ cs) =
    elim (test (part c)) as (λ b. parts (cond b (c ∷ filter (λ d. test (part d)) cs) (filter (λ d. test (part d)) cs)) ≡ cond b
    (part c ∷ filter test (parts cs)) (filter test (parts cs))) [
      | true ↦ ap (λ ps. part c ∷ ps) (parts_filter test cs)
      | false ↦ parts_filter test cs
    ]

pub parts_with_item : (c : Child) (cs : List Child) → parts (with_item child_key c cs) ≡ with_part (part c) (parts cs)
parts_with_item c cs =
    let lower = filter (is_before child_key (child_key c)) cs in
    let upper = filter (is_after child_key (child_key c)) cs in
    map-append part lower (c ∷ upper)
    ∙ ap (λ ps. ps ++ part c ∷ parts upper) (parts_filter (is_before part_key (part_key (part c))) cs)
    ∙ ap (λ ps. filter (is_before part_key (part_key (part c))) (parts cs) ++ part c ∷ ps) (parts_filter (is_after part_key (part_key (part c))) cs)

pub parts_without_key : (name : List ℕ) (cs : List Child) → parts (without_key child_key (key_of name true) cs) ≡ other_parts name (parts cs)
parts_without_key name cs =
    ap (λ (test : Child → Bool). parts (filter (λ c. not (test c)) cs)) (sym (called_is_has_key name))
    ∙ parts_filter (λ p. not (same_name p.0 name)) cs
