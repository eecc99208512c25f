-- The directory that `with_inner` sets at a name is the one that `inner` finds there, in any list of open directories
-- and in one level. Descents use it.
use mathlib.Core.Bool.{true≢false}
use Rattle.std.proofs.Common.{zero, suc, ◌≡◌, ◌≢◌, ◌<◌, ◌+◌, ℕ, true, false, not, cond, List, [], ◌∷◌, ◌++◌, Some, None, get_or, length, nat_lt, refl, sym, ap}
use Rattle.std.proofs.Common.{subst, ◌∙◌, one-add, arith}
use Rattle.std.specs.Prelude.{◌&&◌, ◌||◌, set}
use Rattle.std.specs.Cmp.Lexicographic.{bytes_decides}
use Rattle.std.specs.List.{AllByRecursion, position, position_or_len}
use Rattle.std.proofs.lemmas.Bool.{ltb-true}
use Rattle.std.proofs.lemmas.List.{append-nil, get_or-set_same, length-set, set-set}
use Rattle.bstr.specs.Owned.{bstring_bytes}
use Rattle.gixobj_tree_entries.specs.Entries.{EntryView}
use Rattle.gixobj_tree.specs.WellFormed.{EachLater}
use Rattle.gixobj_editor_files.specs.Editing.{same_name}
use Rattle.gixobj_editor_files.specs.Edits.{with_dir}
use Rattle.gixobj_editor_files.specs.Files.{Path}
use Rattle.gixobj_editor_files.proofs.OpenedFiles.{same_name_false, same_name_refl}
use Rattle.gixobj_editor_open.specs.Descents.{IsExchanged, has_inner, inner, is_in, outside, with_inner}
use Rattle.gixobj_editor_open.specs.Nested.{IsLevel, Level, Opened, Part, at_side, bases_of, below, called, dirs_of, opened, part, parts, under}
use Rattle.gixobj_editor_open.specs.declared.open.Child.{Child}
use Rattle.gixobj_editor_open.proofs.Levels.{IsChanged, IsChild, all_names_differ, child_has_tree, is_level_set, parts_set_same, tied, tied_cons}
use Rattle.gixobj_editor_open.proofs.Levels.{true_of_cond_some}
use Rattle.gixobj_editor_open.proofs.Ordered.{level_names_apart}

module _ (name : List ℕ) where
  inner_under : (xs rest : Opened) → inner name (under name xs ++ rest) ≡ xs ++ inner name rest
  inner_under [] rest = refl
  inner_under (x ∷ xs) rest = rw (same_name_refl name) (ap (λ l. x ∷ l) (inner_under xs rest))

  outside_under : (xs rest : Opened) → outside name (under name xs ++ rest) ≡ outside name rest
  outside_under [] rest = refl
  outside_under (x ∷ xs) rest = rw (same_name_refl name) (outside_under xs rest)

  with_inner_under : (y xs rest : Opened) → xs ≢ [] → with_inner name y (under name xs ++ rest) ≡ under name y ++ outside name rest
  with_inner_under y [] rest filled = absurd (filled refl)
  with_inner_under y (x ∷ xs) rest filled = rw (same_name_refl name) (ap (λ l. under name y ++ l) (outside_under xs rest))

  has_inner_under : (xs rest : Opened) → xs ≢ [] → has_inner name (under name xs ++ rest) ≡ true
  has_inner_under [] rest filled = absurd (filled refl)
  has_inner_under (x ∷ xs) rest filled = rw (same_name_refl name) refl

  inner_outside : (ds : Opened) → inner name (outside name ds) ≡ []
  inner_outside [] = refl
  inner_outside (d ∷ ds) = elim (is_in name d.0) as (λ b. is_in name d.0 ≡ b → inner name (cond (not b) (d ∷ outside name ds) (outside name ds)) ≡ [])
      [ true ↦ λ is. inner_outside ds | false ↦ λ is. rw is (inner_outside ds) ] refl

  -- what is open in the directory of the name is what was exchanged for it
  pub inner_with_inner : (y ds : Opened) → has_inner name ds ≡ true → inner name (with_inner name y ds) ≡ y
  inner_with_inner y [] has = absurd (true≢false (sym has))
  inner_with_inner y (d ∷ ds) has =
      elim (is_in name d.0) as (λ b. is_in name d.0 ≡ b → (b || has_inner name ds) ≡ true
      → inner name (cond b (under name y ++ outside name ds) (d ∷ with_inner name y ds)) ≡ y) [
        | true ↦ λ is h. inner_under y (outside name ds) ∙ ap (λ l. y ++ l) (inner_outside ds) ∙ append-nil y
        | false ↦ λ is h. rw is (inner_with_inner y ds h)
      ] refl has

  module _ (other : List ℕ) (differ : name ≢ other) where
    inner_under_other : (xs rest : Opened) → inner name (under other xs ++ rest) ≡ inner name rest
    inner_under_other [] rest = refl
    inner_under_other (x ∷ xs) rest = rw (same_name_false name other differ) (inner_under_other xs rest)

    outside_under_other : (xs rest : Opened) → outside name (under other xs ++ rest) ≡ under other xs ++ outside name rest
    outside_under_other [] rest = refl
    outside_under_other (x ∷ xs) rest = rw (same_name_false name other differ) (ap (λ l. (other ∷ x.0, x.1) ∷ l) (outside_under_other xs rest))

    with_inner_under_other : (y xs rest : Opened) → with_inner name y (under other xs ++ rest) ≡ under other xs ++ with_inner name y rest
    with_inner_under_other y [] rest = refl
    with_inner_under_other y (x ∷ xs) rest = rw (same_name_false name other differ) (ap (λ l. (other ∷ x.0, x.1) ∷ l) (with_inner_under_other y xs rest))

    has_inner_under_other : (xs rest : Opened) → has_inner name (under other xs ++ rest) ≡ has_inner name rest
    has_inner_under_other [] rest = refl
    has_inner_under_other (x ∷ xs) rest = rw (same_name_false name other differ) (has_inner_under_other xs rest)

  inner_below : (ps : List Part) → AllByRecursion (λ p. name ≢ p.0) ps → inner name (below ps) ≡ []
  inner_below [] others = refl
  inner_below (p ∷ ps) others = inner_under_other p.0 others.0 p.1 (below ps) ∙ inner_below ps others.1

  outside_below : (ps : List Part) → AllByRecursion (λ p. name ≢ p.0) ps → outside name (below ps) ≡ below ps
  outside_below [] others = refl
  outside_below (p ∷ ps) others = outside_under_other p.0 others.0 p.1 (below ps) ∙ ap (λ l. under p.0 p.1 ++ l) (outside_below ps others.1)

  has_inner_below : (ps : List Part) → AllByRecursion (λ p. p.0 ≢ name) ps → has_inner name (below ps) ≡ false
  has_inner_below [] others = refl
  has_inner_below (p ∷ ps) others = has_inner_under_other p.0 (λ same. others.0 (sym same)) p.1 (below ps) ∙ has_inner_below ps others.1

-- the child at this position has the name, and its directory is open
pub record IsInner (name : List ℕ) (cs : List Child) (i : ℕ) (child : Child) : Type 0 where
  pub low : i < length cs
  pub is : child ≡ get_or cs i child
  pub named : bstring_bytes child.name ≡ name
  pub filled : child.open ≢ []

abbrev with_open : Child → Opened → Child
with_open child ds = record { name = child.name; «open» = ds }

-- what is open below the children, by the directory of the name
pub record IsBelow (name : List ℕ) (cs : List Child) (i : ℕ) (child : Child) : Type 0 where
  pub has : has_inner name (below (parts cs)) ≡ true
  pub inner_is : inner name (below (parts cs)) ≡ child.open
  pub with_is : (y : Opened) → with_inner name y (below (parts cs)) ≡ below (parts (set cs i (with_open child y)))

all_at : (P : Part → Type 0) (cs : List Child) (i : ℕ) (d : Child) → i < length cs → AllByRecursion P (parts cs) → P (part (get_or cs i d))
all_at P [] i d low all = absurd (omega (arith, low))
all_at P (c ∷ cs) zero d low all = all.0
all_at P (c ∷ cs) (suc i) d low all = all_at P cs i d (omega (arith, low)) all.1

is_below_first : (c : Child) (cs : List Child) → c.open ≢ [] → AllByRecursion (λ p. bstring_bytes c.name ≢ p.0) (parts cs)
    → IsBelow (bstring_bytes c.name) (c ∷ cs) 0 c
is_below_first c cs filled others =
    let name : List ℕ = bstring_bytes c.name in record {
      has = has_inner_under name c.open (below (parts cs)) filled;
      inner_is = inner_under name c.open (below (parts cs)) ∙ ap (λ l. c.open ++ l) (inner_below name (parts cs) others) ∙ append-nil c.open;
      with_is = λ y. with_inner_under name y c.open (below (parts cs)) filled ∙ ap (λ l. under name y ++ l) (outside_below name (parts cs) others);
    }

is_below : (name : List ℕ) (cs : List Child) (i : ℕ) (child : Child) → EachLater (λ x y. x.0 ≢ y.0) (parts cs) → IsInner name cs i child
    → IsBelow name cs i child
is_below name [] i child apart at = absurd (omega (arith, at.low))
is_below name (c ∷ cs) zero child apart at =
    let same : c ≡ child = sym at.is in
    let filled : c.open ≢ [] = subst (λ (d : Child). d.open ≢ []) at.is at.filled in
    subst (λ (n : List ℕ). IsBelow n (c ∷ cs) 0 child) (ap (λ (d : Child). bstring_bytes d.name) same ∙ at.named)
    (subst (λ (d : Child). IsBelow (bstring_bytes c.name) (c ∷ cs) 0 d) same (is_below_first c cs filled apart.0))
is_below name (c ∷ cs) (suc i) child apart at =
    let low : i < length cs = omega (arith, at.low) in
    let own : bstring_bytes (get_or cs i child).name ≡ name = ap (λ (d : Child). bstring_bytes d.name) (sym at.is) ∙ at.named in
    let differ : name ≢ bstring_bytes c.name = λ same. all_at (λ p. bstring_bytes c.name ≢ p.0) cs i child low apart.0 (sym same ∙ sym own) in
    let first : List ℕ = bstring_bytes c.name in
    let rest = is_below name cs i child apart.1 (record { low = low; is = at.is; named = at.named; filled = at.filled }) in record {
      has = has_inner_under_other name first differ c.open (below (parts cs)) ∙ rest.has;
      inner_is = inner_under_other name first differ c.open (below (parts cs)) ∙ rest.inner_is;
      with_is = λ y. with_inner_under_other name first differ y c.open (below (parts cs)) ∙ ap (λ l. under first c.open ++ l) (rest.with_is y);
    }

name_of_position : (name : List ℕ) (cs : List Child) (d : Child) → position_or_len (called name) cs < length cs
    → bstring_bytes (get_or cs (position_or_len (called name) cs) d).name ≡ name
name_of_position name [] d low = absurd (omega (arith, low))
name_of_position name (c ∷ cs) d low =
    elim (called name c) as (λ b. called name c ≡ b → cond (not b) (1 + position_or_len (called name) cs) 0 < length (c ∷ cs)
    → bstring_bytes (get_or (c ∷ cs) (cond (not b) (1 + position_or_len (called name) cs) 0) d).name ≡ name) [
      | true ↦ λ is l. (bytes_decides (bstring_bytes c.name) name).0 is
      | false ↦ λ is l. rw one-add (name_of_position name cs d (omega (arith, l)))
    ] refl low

is_inner : {name : List ℕ} {cs : List Child} {i : ℕ} {child : Child} → IsChild name cs i child → child.open ≢ [] → IsInner name cs i child
is_inner {name} {cs} {i} {child} here filled =
    let child_position : ℕ = position_or_len (called name) cs in
    let chose = true_of_cond_some (nat_lt child_position (length cs)) child_position i here.found in
    let low : child_position < length cs = ltb-true _ _ chose.0 in record {
      low = subst (λ (k : ℕ). k < length cs) chose.1 low;
      is = here.is;
      named = ap (λ (d : Child). bstring_bytes d.name) (here.is ∙ ap (λ k. get_or cs k child) (sym chose.1)) ∙ name_of_position name cs child low;
      filled = filled;
    }

-- one level of open directories, in which the child of a name is exchanged
module _ {name : List ℕ} {cs : List Child} {i : ℕ} {child : Child} (old : Opened) (es base : List EntryView) (view : opened es base (parts cs) ≡ old)
    (level : IsLevel es (parts cs)) (here : IsChild name cs i child) (filled : child.open ≢ []) where
  now_below : IsBelow name cs i child
  now_below = is_below name cs i child (level_names_apart level) (is_inner here filled)

  pub has_inner_of_child : has_inner name old ≡ true
  has_inner_of_child = subst (λ (d : Opened). has_inner name d ≡ true) view now_below.has

  exchanged : (other : Opened) → other ≢ [] → (entries : List EntryView) × (dirs_of child.open [] ≡ Some entries)
      → IsExchanged name (opened es base (parts cs)) other (opened es base (parts (set cs i (with_open child other)))) child.open
  exchanged other some root =
      let next : Child = with_open child other in
      let at = is_inner here filled in
      let apart = level_names_apart (is_level_set here (record { named = refl; changed = refl }) level) in
      let then = is_below name (set cs i next) i next apart (record {
        low = omega (arith, at.low, length-set cs i next);
        is = sym (get_or-set_same cs i next next at.low);
        named = at.named;
        filled = some;
      }) in record {
        taken_is = sym now_below.inner_is;
        new_is = ap (λ l. ([], (es, base)) ∷ l) (sym (now_below.with_is other));
        has_again = then.has;
        inner_again = then.inner_is;
        old_again = ap (λ l. ([], (es, base)) ∷ l) (then.with_is child.open
            ∙ ap (λ (l : List Child). below (parts l)) (set-set cs i next (with_open child child.open))
            ∙ ap below (parts_set_same cs i child (with_open child child.open) here.is refl));
        tree = (es, refl, child_has_tree es here level.above);
        taken_root = root;
      }

  pub is_exchanged : (other : Opened) → other ≢ [] → (new : List Child) → IsChanged cs new i child (with_open child other)
      → (entries : List EntryView) × (dirs_of child.open [] ≡ Some entries) → IsExchanged name old other (opened es base (parts new)) child.open
  is_exchanged other some new changed root =
      subst (λ (d : Opened). IsExchanged name d other (opened es base (parts new)) child.open) view
      (subst (λ (l : List Child). IsExchanged name (opened es base (parts cs)) other (opened es base (parts l)) child.open) (sym changed.changed)
      (exchanged other some root))

-- an open directory has a base
pub filled_of_base : (ds : Opened) (base : List EntryView) → bases_of ds [] ≡ Some base → ds ≢ []
filled_of_base ds base is none = let nothing : None ≡ Some base = subst (λ (d : Opened). bases_of d [] ≡ Some base) none is in cc nothing

pub has_inner_of_none : (name : List ℕ) (cs : List Child) (old : Opened) (es base : List EntryView) → opened es base (parts cs) ≡ old
    → None ≡ position (called name) cs → has_inner name old ≡ false
has_inner_of_none name cs old es base view absent =
    subst (λ (d : Opened). has_inner name d ≡ false) view (has_inner_below name (parts cs) (all_names_differ name cs absent))

-- the paths to and below the directory of the name are none of the others
tied_elsewhere : (name : List ℕ) (q p : Path) → is_in name q ≢ is_in name p → tied q p ≡ false
tied_elsewhere name [] [] differ = absurd (differ refl)
tied_elsewhere name [] (y ∷ p) differ = refl
tied_elsewhere name (x ∷ q) [] differ = refl
tied_elsewhere name (x ∷ q) (y ∷ p) differ =
    rw (tied_cons x y q p) (elim (same_name x y) as (λ b. same_name x y ≡ b → (b && tied q p) ≡ false) [
      | true ↦ λ is. absurd (differ (ap (λ (n : List ℕ). same_name name n) ((bytes_decides x y).0 is)))
      | false ↦ λ is. refl
    ] refl)

-- for either list of the open directories
module _ (side : Level → List EntryView) (name : List ℕ) where
  at_under_inside : (path : Path) (xs rest : Opened) → at_side side rest (name ∷ path) ≡ None
      → at_side side (under name xs ++ rest) (name ∷ path) ≡ at_side side xs path
  at_under_inside path [] rest none = none
  at_under_inside path (d ∷ ds) rest none =
      rw (tied_cons name name path d.0, same_name_refl name) (ap (λ r. cond (tied path d.0) (Some (side d.1)) r) (at_under_inside path ds rest none))

  module _ (q : Path) (out : is_in name q ≡ false) where
    tied_out : (p : Path) → is_in name p ≡ true → tied q p ≡ false
    tied_out p is = tied_elsewhere name q p (λ e. true≢false (sym is ∙ sym e ∙ out))

    at_under_elsewhere : (xs rest : Opened) → at_side side (under name xs ++ rest) q ≡ at_side side rest q
    at_under_elsewhere [] rest = refl
    at_under_elsewhere (x ∷ xs) rest = rw (tied_out (name ∷ x.0) (same_name_refl name)) (at_under_elsewhere xs rest)

    at_outside_elsewhere : (ds : Opened) → at_side side (outside name ds) q ≡ at_side side ds q
    at_outside_elsewhere [] = refl
    at_outside_elsewhere (d ∷ ds) =
        elim (is_in name d.0) as (λ b. is_in name d.0 ≡ b → at_side side (cond (not b) (d ∷ outside name ds) (outside name ds)) q
        ≡ cond (tied q d.0) (Some (side d.1)) (at_side side ds q)) [
          | true ↦ λ is. rw (tied_out d.0 is) (at_outside_elsewhere ds)
          | false ↦ λ is. ap (λ r. cond (tied q d.0) (Some (side d.1)) r) (at_outside_elsewhere ds)
        ] refl

    at_with_elsewhere : (y ds : Opened) → at_side side (with_inner name y ds) q ≡ at_side side ds q
    at_with_elsewhere y [] = refl
    at_with_elsewhere y (d ∷ ds) =
        elim (is_in name d.0) as (λ b. is_in name d.0 ≡ b → at_side side (cond b (under name y ++ outside name ds) (d ∷ with_inner name y ds)) q
        ≡ cond (tied q d.0) (Some (side d.1)) (at_side side ds q)) [
          | true ↦ λ is. at_under_elsewhere y (outside name ds) ∙ at_outside_elsewhere ds ∙ rw (tied_out d.0 is) refl
          | false ↦ λ is. ap (λ r. cond (tied q d.0) (Some (side d.1)) r) (at_with_elsewhere y ds)
        ] refl

  module _ (path : Path) where
    tied_in : (p : Path) → is_in name p ≡ false → tied (name ∷ path) p ≡ false
    tied_in p is = tied_elsewhere name (name ∷ path) p (λ e. true≢false (sym (same_name_refl name) ∙ e ∙ is))

    at_outside_inside : (ds : Opened) → at_side side (outside name ds) (name ∷ path) ≡ None
    at_outside_inside [] = refl
    at_outside_inside (d ∷ ds) =
        elim (is_in name d.0) as (λ b. is_in name d.0 ≡ b
        → at_side side (cond (not b) (d ∷ outside name ds) (outside name ds)) (name ∷ path) ≡ None) [
          | true ↦ λ is. at_outside_inside ds
          | false ↦ λ is. rw (tied_in d.0 is) (at_outside_inside ds)
        ] refl

    at_with_inside : (y ds : Opened) → has_inner name ds ≡ true → at_side side (with_inner name y ds) (name ∷ path) ≡ at_side side y path
    at_with_inside y [] has = absurd (true≢false (sym has))
    at_with_inside y (d ∷ ds) has =
        elim (is_in name d.0) as (λ b. is_in name d.0 ≡ b → (b || has_inner name ds) ≡ true
        → at_side side (cond b (under name y ++ outside name ds) (d ∷ with_inner name y ds)) (name ∷ path) ≡ at_side side y path) [
          | true ↦ λ is h. at_under_inside path y (outside name ds) (at_outside_inside ds)
          | false ↦ λ is h. rw (tied_in d.0 is) (at_with_inside y ds h)
        ] refl has

  pub at_without_inner : (ds : Opened) → has_inner name ds ≡ false → (path : Path) → at_side side ds (name ∷ path) ≡ None
  at_without_inner [] has path = refl
  at_without_inner (d ∷ ds) has path =
      elim (is_in name d.0) as (λ b. is_in name d.0 ≡ b → (b || has_inner name ds) ≡ false
      → cond (tied (name ∷ path) d.0) (Some (side d.1)) (at_side side ds (name ∷ path)) ≡ None) [
        | true ↦ λ is h. absurd (true≢false h)
        | false ↦ λ is h. rw (tied_in path d.0 is) (at_without_inner ds h path)
      ] refl has

  pub at_with_inner : (y ds : Opened) → has_inner name ds ≡ true → (path : Path)
      → at_side side (with_inner name y ds) path ≡ with_dir name (at_side side y) (at_side side ds) path
  at_with_inner y ds has [] = at_with_elsewhere [] refl y ds
  at_with_inner y ds has (first ∷ path) =
      elim (same_name name first) as (λ b. same_name name first ≡ b
      → at_side side (with_inner name y ds) (first ∷ path) ≡ cond b (at_side side y path) (at_side side ds (first ∷ path))) [
        | true ↦ λ is. subst (λ (n : List ℕ). at_side side (with_inner name y ds) (n ∷ path) ≡ at_side side y path) ((bytes_decides name first).0 is)
            (at_with_inside path y ds has)
        | false ↦ λ is. at_with_elsewhere (first ∷ path) is y ds
      ] refl
