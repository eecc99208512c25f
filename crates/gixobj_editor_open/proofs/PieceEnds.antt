-- A list in pieces without its last open directory, or with another first one, is the list without the last, or with
-- another first one: for drops and leaf trees.
use Rattle.std.proofs.Common.{◌≡◌, ◌≢◌, ◌∙◌, ◌≤◌, ◌+◌, ℕ, Less, true, List, [], ◌∷◌, ◌++◌, get_or, set, length, length-append, refl, sym, ap, subst, arith}
use Rattle.std.proofs.lemmas.List.{map-append}
use Rattle.std.specs.List.{flat_map}
use Rattle.std.specs.Cmp.Lexicographic.{slice_cmp}
use Rattle.std.specs.Ordering.{nat_cmp}
use Rattle.std.specs.declared.alloc.Global.{Global}
use Rattle.std.specs.declared.vec.Vec.{Vec}
use Rattle.bstr.specs.Owned.{bstring_bytes}
use Rattle.gixobj_editor_files.specs.Editing.{has_tree}
use Rattle.gixobj_editor_entries.specs.Pieces.{AreNonEmpty}
use Rattle.gixobj_editor_entries.proofs.Keys.{all_of_append_left, each_later_of_append_left}
use Rattle.gixobj_tree_entries.specs.Entries.{EntryView}
use Rattle.gixobj_editor_open.specs.Children.{IsAt, index_of_child, with_child}
use Rattle.gixobj_editor_open.specs.Decreases.{length-below_append}
use Rattle.gixobj_editor_open.specs.Nested.{AreFilled, IsLevel, IsPiecedLevel, Opened, Part, below, child_list, length-under, part, part_key, parts, under}
use Rattle.gixobj_editor_open.specs.declared.open.Child.{Child}
use Rattle.gixobj_editor_open.specs.declared.open.Children.{Children}
use Rattle.gixobj_editor_open.proofs.Pieces.{child_list_with_child}

abbrev items : Vec Child Global → List Child
items p = p.items

pub nil_of_length : {X : Type 0} (xs : List X) → length xs ≡ 0 → xs ≡ []
nil_of_length [] none = refl
nil_of_length (x ∷ xs) none = absurd (omega (arith, none))

-- lists in pieces without children have no pieces
pub no_pieces_of_no_items : (ps : List (Vec Child Global)) → length (flat_map items ps) ≡ 0 → AreNonEmpty items ps → length ps ≡ 0
no_pieces_of_no_items [] none filled = refl
no_pieces_of_no_items (p ∷ ps) none filled = absurd (filled.0 (nil_of_length p.items (omega (arith, none, length-append p.items (flat_map items ps)))))

module _ (children : Children) (none : child_list children ≡ []) where
  no_items : length children.first.items + length (flat_map items children.more.items) ≡ 0
  no_items = let sizes : length (child_list children) ≡ 0 = ap length none in
      omega (arith, sizes, length-append children.first.items (flat_map items children.more.items))

  pub first_is_empty : length children.first.items ≡ 0
  first_is_empty = omega (arith, no_items)

  pub more_is_empty : AreFilled children → length children.more.items ≡ 0
  more_is_empty filled = no_pieces_of_no_items children.more.items (omega (arith, no_items)) filled

-- an open directory without its last child
module _ (children new : Children) (c : Child) (is : child_list children ≡ child_list new ++ c ∷ []) where
  parts_split : parts (child_list children) ≡ parts (child_list new) ++ part c ∷ []
  parts_split = ap parts is ∙ map-append part (child_list new) (c ∷ [])

  pub is_pieced_level_before_last : {es : List EntryView} → AreFilled new → IsPiecedLevel es children → IsPiecedLevel es new
  is_pieced_level_before_last {es} filled pieced = record {
    level = record {
      formed = pieced.level.formed;
      ordered = each_later_of_append_left (λ p q. slice_cmp nat_cmp (part_key p) (part_key q) ≡ Less) (parts (child_list new)) (part c ∷ [])
          (subst (λ (ps : List Part). IsLevel es ps) parts_split pieced.level).ordered;
      above = all_of_append_left (λ p. has_tree p.0 es ≡ true) (parts (child_list new)) (part c ∷ [])
          (subst (λ (ps : List Part). IsLevel es ps) parts_split pieced.level).above;
    };
    filled = filled;
  }

  pub length_before_last : length (below (parts (child_list new))) + length c.open ≡ length (below (parts (child_list children)))
  length_before_last =
      let sizes : length (below (parts (child_list children))) ≡ length (below (parts (child_list new ++ c ∷ []))) =
      ap (λ (cs : List Child). length (below (parts cs))) is in
      omega (
        arith,
        sizes,
        length-below_append (child_list new) (c ∷ []),
        length-append (under (bstring_bytes c.name) c.open) [],
        length-under (bstring_bytes c.name) c.open,
      )

-- the first child, with another directory in its place
pub record HasFirst (cs new : List Child) (was next : Opened) : Type 0 where
  pub name : List ℕ
  pub rest : List Child
  pub before : parts cs ≡ (name, was) ∷ parts rest
  pub after : parts new ≡ (name, next) ∷ parts rest

has_first_of_set : (cs : List Child) (child : Child) (next : Opened) → (cs ≢ []) → child ≡ get_or cs 0 child
    → HasFirst cs (set cs 0 (record { name = child.name; «open» = next })) child.open next
has_first_of_set [] child next some is = absurd (some refl)
has_first_of_set (c ∷ cs) child next some is = record {
  name = bstring_bytes child.name;
  rest = cs;
  before = ap (λ (d : Child). part d ∷ parts cs) (sym is);
  after = refl;
}

module _ (children : Children) (piece index : ℕ) (child : Child) (next : Opened) (some : child_list children ≢ []) (within : IsAt children piece index)
    (first : index_of_child children piece index ≡ 0) (is : child ≡ get_or (child_list children) (index_of_child children piece index) child) where
  pub has_first_of_position : HasFirst (child_list children)
      (child_list (with_child children piece index (record { name = child.name; «open» = next }))) child.open next
  has_first_of_position =
      subst (λ (l : List Child). HasFirst (child_list children) l child.open next)
      (sym (child_list_with_child children piece index (record { name = child.name; «open» = next }) within
      ∙ ap (λ (k : ℕ). set (child_list children) k (record { name = child.name; «open» = next })) first))
      (has_first_of_set (child_list children) child next some (is ∙ ap (λ (k : ℕ). get_or (child_list children) k child) first))

-- a level with another directory in the first one's place
pub is_level_of_first : (es : List EntryView) (name : List ℕ) (was next : Opened) (ps qs rest : List Part) → ps ≡ (name, was) ∷ rest
    → qs ≡ (name, next) ∷ rest → IsLevel es ps → IsLevel es qs
is_level_of_first es name was next ps qs rest is new level =
    let here : IsLevel es ((name, was) ∷ rest) = subst (λ (l : List Part). IsLevel es l) is level in
    subst (λ (l : List Part). IsLevel es l) (sym new) (record { formed = here.formed; ordered = here.ordered; above = here.above })

-- the sizes of two such levels
pub length_of_first : (name : List ℕ) (was next : Opened) (ps qs rest : List Part) → ps ≡ (name, was) ∷ rest
    → qs ≡ (name, next) ∷ rest → length (below qs) + length was ≡ length (below ps) + length next
length_of_first name was next ps qs rest is new =
    let before : length (below ps) ≡ length (below ((name, was) ∷ rest)) = ap (λ l. length (below l)) is in
    let after : length (below qs) ≡ length (below ((name, next) ∷ rest)) = ap (λ l. length (below l)) new in
    omega (
      arith,
      before,
      after,
      length-append (under name was) (below rest),
      length-append (under name next) (below rest),
      length-under name was,
      length-under name next,
    )

pub length_first_le : (name : List ℕ) (was : Opened) (ps rest : List Part) → ps ≡ (name, was) ∷ rest → length was ≤ length (below ps)
length_first_le name was ps rest is =
    let sizes : length (below ps) ≡ length (below ((name, was) ∷ rest)) = ap (λ l. length (below l)) is in
    omega (arith, sizes, length-append (under name was) (below rest), length-under name was)
