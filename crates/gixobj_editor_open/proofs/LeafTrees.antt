-- The leaf trees of a directory are those of its open directories in order, or its entries alone: for the functions of
-- `leaf_trees` and `dropping`, and for the leaf trees that a write moves.
use Rattle.std.proofs.Common.{◌≡◌, ◌≢◌, ◌∙◌, ◌+◌, ℕ, Bool, false, not, cond, List, [], ◌∷◌, ◌++◌, Some, length, refl, sym, ap, subst, arith, append_assoc}
use Rattle.std.proofs.Common.{append-nil, length-append}
use Rattle.std.specs.Prelude.{◌&&◌}
use Rattle.std.specs.List.{AllByRecursion}
use Rattle.std.proofs.lemmas.List.{map-append}
use Rattle.bstr.specs.Owned.{bstring_bytes}
use Rattle.gixobj_tree_entries.specs.Entries.{EntryView}
use Rattle.gixobj_tree.specs.WellFormed.{EachLater}
use Rattle.gixobj_editor_files.specs.Files.{Path}
use Rattle.gixobj_editor_files.proofs.OpenedFiles.{same_name_refl, same_name_false}
use Rattle.gixobj_editor_entries.proofs.Keys.{all_of_append_left, each_later_of_append_left, each_later_of_append_right}
use Rattle.gixobj_editor_open.specs.declared.open.Child.{Child}
use Rattle.gixobj_editor_open.specs.Nested.{Level, Opened, Part, bases_of, below, length-under, opened, part, parts, under}
use Rattle.gixobj_editor_open.specs.LeafTrees.{is_at_or_below, is_above, is_leaf_tree, leaf_trees}

-- what a directory adds to the leaf trees, by whether it is above the next
abbrev leaf_tree_of_open : Bool → Level → List (List EntryView)
leaf_tree_of_open above level = cond (not above && is_leaf_tree level) (level.0 ∷ []) []

is_above_under : (name : List ℕ) (path : Path) (ds : Opened) → is_above (name ∷ path) (under name ds) ≡ is_above path ds
is_above_under name path [] = refl
is_above_under name path (d ∷ ds) = ap (λ b. b && is_at_or_below path d.0) (same_name_refl name)

is_above_under_append : (name : List ℕ) (path : Path) (other : List ℕ) (ds rest : Opened) → other ≢ name → is_above (name ∷ path) rest ≡ false
    → is_above (name ∷ path) (under other ds ++ rest) ≡ false
is_above_under_append name path other [] rest differ none = none
is_above_under_append name path other (d ∷ ds) rest differ none = ap (λ b. b && is_at_or_below path d.0) (same_name_false other name differ)

-- no directory that is open in directories of other names is open in this one
not_is_above_below : (name : List ℕ) (path : Path) (ps : List Part) → AllByRecursion (λ p. name ≢ p.0) ps → is_above (name ∷ path) (below ps) ≡ false
not_is_above_below name path [] others = refl
not_is_above_below name path (p ∷ ps) others = is_above_under_append name path p.0 p.1 (below ps) (λ is. others.0 (sym is))
    (not_is_above_below name path ps others.1)

-- the leaf trees of the first name come first
leaf_trees_under_append : (name : List ℕ) (ds : Opened) (rest : Opened) → ((path : Path) → is_above (name ∷ path) rest ≡ false)
    → leaf_trees (under name ds ++ rest) ≡ leaf_trees ds ++ leaf_trees rest
leaf_trees_under_append name [] rest none = refl
leaf_trees_under_append name (d ∷ []) rest none = ap (λ b. leaf_tree_of_open b d.1 ++ leaf_trees rest) (none d.0)
    ∙ sym (append_assoc (leaf_tree_of_open false d.1) [] (leaf_trees rest))
leaf_trees_under_append name (d ∷ e ∷ ds) rest none =
    ap (λ b. leaf_tree_of_open b d.1 ++ leaf_trees (under name (e ∷ ds) ++ rest)) (is_above_under name d.0 (e ∷ ds))
    ∙ ap (λ ts. leaf_tree_of_open (is_above d.0 (e ∷ ds)) d.1 ++ ts) (leaf_trees_under_append name (e ∷ ds) rest none)
    ∙ sym (append_assoc (leaf_tree_of_open (is_above d.0 (e ∷ ds)) d.1) (leaf_trees (e ∷ ds)) (leaf_trees rest))

pub leaf_trees_below_cons : (p : Part) (ps : List Part) → AllByRecursion (λ q. p.0 ≢ q.0) ps → leaf_trees (below (p ∷ ps)) ≡ leaf_trees p.1 ++ leaf_trees
    (below ps)
leaf_trees_below_cons p ps others = leaf_trees_under_append p.0 p.1 (below ps) (λ path. not_is_above_below p.0 path ps others)

-- the leaf trees of the first of two lists of directories come first
leaf_trees_below_append : (ps qs : List Part) → EachLater (λ x y. x.0 ≢ y.0) (ps ++ qs) → leaf_trees (below (ps ++ qs)) ≡ leaf_trees (below ps) ++ leaf_trees
    (below qs)
leaf_trees_below_append [] qs apart = refl
leaf_trees_below_append (p ∷ ps) qs apart =
    leaf_trees_below_cons p (ps ++ qs) apart.0
    ∙ ap (λ ts. leaf_trees p.1 ++ ts) (leaf_trees_below_append ps qs apart.1)
    ∙ sym (append_assoc (leaf_trees p.1) (leaf_trees (below ps)) (leaf_trees (below qs)))
    ∙ ap (λ ts. ts ++ leaf_trees (below qs)) (sym (leaf_trees_below_cons p ps (all_of_append_left (λ x. p.0 ≢ x.0) ps qs apart.0)))

-- the leaf trees of a directory with an open directory are those below it
pub leaf_trees_of_parent : (es base : List EntryView) (name : List ℕ) (ds : Opened) (ps : List Part) (found : List EntryView)
    → bases_of ds [] ≡ Some found
    → leaf_trees (opened es base ((name, ds) ∷ ps)) ≡ leaf_trees (below ((name, ds) ∷ ps))
leaf_trees_of_parent es base name [] ps found is = absurd (cc is)
leaf_trees_of_parent es base name (d ∷ ds) ps found is = refl

-- something is open below a directory with an open directory
pub below_ne_nil : (name : List ℕ) (ds : Opened) (ps : List Part) (found : List EntryView) → bases_of ds [] ≡ Some found → below ((name, ds) ∷ ps) ≢ []
below_ne_nil name [] ps found is none = absurd (cc is)
below_ne_nil name (d ∷ ds) ps found is none = absurd (cc none)

-- a directory with no open directory is at most one leaf tree, that of its entries
pub leaf_trees_of_childless : (es base : List EntryView) (b : Bool) → is_leaf_tree (es, base) ≡ b → leaf_trees (opened es base []) ≡ cond b (es ∷ []) []
leaf_trees_of_childless es base b is = ap (λ k. cond k (es ∷ []) [] ++ []) is ∙ append-nil (cond b (es ∷ []) [])

below_append_len : (ps qs : List Part) → length (below (ps ++ qs)) ≡ length (below ps) + length (below qs)
below_append_len [] qs = omega arith
below_append_len (p ∷ ps) qs = omega (
  arith,
  length-append (under p.0 p.1) (below (ps ++ qs)),
  length-append (under p.0 p.1) (below ps),
  below_append_len ps qs,
)

-- children in two lists
pub record Parted (old new last : List Child) : Type 0 where
  pub trees : leaf_trees (below (parts old)) ≡ leaf_trees (below (parts new)) ++ leaf_trees (below (parts last))
  pub apart : EachLater (λ x y. x.0 ≢ y.0) (parts new)
  pub last_apart : EachLater (λ x y. x.0 ≢ y.0) (parts last)
  pub sizes : length (below (parts old)) ≡ length (below (parts new)) + length (below (parts last))

pub parted_of_append : (old new last : List Child) → old ≡ new ++ last → EachLater (λ x y. x.0 ≢ y.0) (parts old) → Parted old new last
parted_of_append old new last is apart =
    let split : parts old ≡ parts new ++ parts last = ap parts is ∙ map-append part new last in
    let both : EachLater (λ x y. x.0 ≢ y.0) (parts new ++ parts last) = subst (EachLater (λ x y. x.0 ≢ y.0)) split apart in record {
      trees = ap (λ ps. leaf_trees (below ps)) split ∙ leaf_trees_below_append (parts new) (parts last) both;
      apart = each_later_of_append_left (λ x y. x.0 ≢ y.0) (parts new) (parts last) both;
      last_apart = each_later_of_append_right (λ x y. x.0 ≢ y.0) (parts new) (parts last) both;
      sizes = ap (λ ps. length (below ps)) split ∙ below_append_len (parts new) (parts last);
    }

-- the children without the last one
pub record TakenOff (old new : List Child) (c : Child) : Type 0 where
  pub last : leaf_trees (below (parts old)) ≡ leaf_trees (below (parts new)) ++ leaf_trees c.open
  pub apart : EachLater (λ x y. x.0 ≢ y.0) (parts new)
  pub fewer : length (below (parts old)) ≡ length (below (parts new)) + length c.open

pub taken_off_of_parts : (old new : List Child) (c : Child) → old ≡ new ++ c ∷ [] → EachLater (λ x y. x.0 ≢ y.0) (parts old) → TakenOff old new c
taken_off_of_parts old new c is apart =
    let parted = parted_of_append old new (c ∷ []) is apart in record {
      last = parted.trees ∙ ap (λ ts. leaf_trees (below (parts new)) ++ ts) (leaf_trees_below_cons (part c) [] tt ∙ append-nil (leaf_trees c.open));
      apart = parted.apart;
      fewer = omega (arith, parted.sizes, length-append (under (bstring_bytes c.name) c.open) [], length-under (bstring_bytes c.name) c.open);
    }
