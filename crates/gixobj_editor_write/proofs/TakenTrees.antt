-- How leaf trees fill the pairs that were made for them: for the functions of `taken_trees`, `walk` and `write`.
use mathlib.Core.Bool.{true≢false}
use Rattle.std.proofs.Common.{◌≡◌, ◌≢◌, ◌∙◌, ◌≤◌, ℕ, inl, inr, Bool, true, false, not, cond, List, [], ◌∷◌, ◌++◌, Option, Some, None, length, refl, sym, ap}
use Rattle.std.proofs.Common.{subst, arith, append_assoc, append-nil}
use Rattle.std.specs.Prelude.{◌==◌, IsFalse}
use Rattle.std.specs.List.{AllByRecursion}
use Rattle.std.specs.Option.{option_copied}
use Rattle.std.proofs.lemmas.Bool.{and_parts}
use Rattle.std.proofs.lemmas.List.Elements.{recursion_from_All}
use Rattle.std.proofs.lemmas.List.Sums.{AllPass-from_list_all}
use denote.Ref.{Bor}
use Rattle.bstr.specs.Owned.{bstring_bytes}
use Rattle.gixobj_tree_entries.specs.Entries.{EntryView, Pair}
use Rattle.gixobj_tree_entries.specs.EntryOrder.{same_tree}
use Rattle.gixobj_editor_files.specs.Editing.{has_tree, same_name}
use Rattle.gixobj_editor_files.specs.Files.{is_null}
use Rattle.gixobj_editor_files.specs.Emission.{EmitsBelow, EmitsEntries, end, of_entries, unopened}
use Rattle.gixobj_editor_entries.proofs.Sublists.{all_weaker}
use Rattle.gixobj_editor_open.specs.declared.open.Child.{Child}
use Rattle.gixobj_editor_open.specs.Children.{next_child, pairs_after_next}
use Rattle.gixobj_editor_open.specs.Nested.{AreOrdered, Opened, bases_of, below, dirs_of, opened, part, parts}
use Rattle.gixobj_editor_write.specs.TakenTrees.{Adds, Fills, child_leaf_trees}
use Rattle.gixobj_editor_open.specs.LeafTrees.{is_leaf_tree, leaf_trees}
use Rattle.gixobj_editor_write.specs.Frames.{Ahead}
use Rattle.gixobj_editor_write.proofs.Emitting.{not_nil_of_not_empty}
use Rattle.gixobj_editor_open.proofs.LeafTrees.{leaf_trees_below_cons, leaf_trees_of_childless}
use Rattle.gixobj_editor_open.proofs.Ordered.{children_names_apart}
use Rattle.gixobj_editor_files.proofs.SameTrees.{same_tree_false_ne}

-- pairs that are filled one after the other are filled as appended lists
fills_append : (qs : List Pair) (ts : List (List EntryView)) (ps qs' : List Pair) (ts' : List (List EntryView)) (ps' : List Pair) → Fills qs ts ps
    → Fills qs' ts' ps' → Fills (qs ++ qs') (ts ++ ts') (ps ++ ps')
fills_append [] ts ps qs' ts' ps' h k = subst (λ us. Fills qs' us (ps ++ ps')) (ap (λ us. us ++ ts') (sym h.0))
    (subst (λ us. Fills qs' ts' us) (ap (λ us. us ++ ps') (sym h.1)) k)
fills_append (q ∷ qs) ts ps qs' ts' ps' (inl h) k = inl (h.0 ++ ps', h.1, ap (λ us. us ++ ps') h.2, fills_append qs ts h.0 qs' ts' ps' h.3 k)
fills_append (q ∷ qs) ts ps qs' ts' ps' (inr h) k =
    inr (h.0, h.1 ++ ts', h.2 ++ ps', h.3, ap (λ us. us ++ ts') h.4, ap (λ us. us ++ ps') h.5, fills_append qs h.1 h.2 qs' ts' ps' h.6 k)

pub adds_append : (a b c : List Pair) (ts : List (List EntryView)) (ps : List Pair) (ts' : List (List EntryView)) (ps' : List Pair) → Adds a b ts ps
    → Adds b c ts' ps' → Adds a c (ts ++ ts') (ps ++ ps')
adds_append a b c ts ps ts' ps' h k = (h.0 ++ k.0, k.1 ∙ ap (λ l. l ++ k.0) h.1 ∙ append_assoc a h.0 k.0, fills_append h.0 ts ps k.0 ts' ps' h.2 k.2)

pub adds_nil : (a : List Pair) → Adds a a [] []
adds_nil a = ([], sym (append-nil a), (refl, refl))

-- a pair with its tree adds no leaf tree, and one with an empty tree adds one
pub adds_pair : (a b : List Pair) (pair : Pair) → pair.1 ≢ [] → b ≡ a ++ pair ∷ [] → Adds a b [] (pair ∷ [])
adds_pair a b pair filled is = (pair ∷ [], is, inl ([], filled, refl, (refl, refl)))

pub adds_blank_tree : (a b : List Pair) (pair : Pair) (tree : List EntryView) → pair.1 ≡ [] → b ≡ a ++ pair ∷ []
    → Adds a b (tree ∷ []) ((pair.0, tree) ∷ [])
adds_blank_tree a b pair tree blank is = (pair ∷ [], is, inr (tree, [], [], blank, refl, refl, (refl, refl)))

-- there are at most as many leaf trees as pairs
pub leaf_trees_len_le : (qs : List Pair) (ts : List (List EntryView)) (ps : List Pair) → Fills qs ts ps → length ts ≤ length qs
leaf_trees_len_le [] ts ps h = let none : length ts ≡ 0 = ap length h.0 in omega (arith, none)
leaf_trees_len_le (q ∷ qs) ts ps (inl h) = let rest = leaf_trees_len_le qs ts h.0 h.3 in omega (arith, rest)
leaf_trees_len_le (q ∷ qs) ts ps (inr h) = let rest = leaf_trees_len_le qs h.1 h.2 h.6 in let more : length ts ≡ length (h.0 ∷ h.1) =
    ap length h.4 in omega (arith, rest, more)

-- the leaf trees of the next child come before those of the children after it
pub leaf_trees_of_next_child : (name : List ℕ) (remaining : List Child) → AreOrdered (parts remaining)
    → child_leaf_trees (next_child name remaining) ++ leaf_trees
    (below (parts (pairs_after_next name remaining))) ≡ leaf_trees (below (parts remaining))
leaf_trees_of_next_child name [] ordered = refl
leaf_trees_of_next_child name (c ∷ cs) ordered =
    elim (same_name (bstring_bytes c.name) name) as
    (λ b. child_leaf_trees (cond b (Some c) None) ++ leaf_trees (below (parts (cond b cs (c ∷ cs)))) ≡ leaf_trees (below (parts (c ∷ cs)))) [
      | true ↦ sym (leaf_trees_below_cons (part c) (parts cs) (children_names_apart (parts (c ∷ cs)) ordered).0)
      | false ↦ refl
    ]

-- after the last entry no children remain
pub remaining_nil : (node : Opened) (rest : List EntryView) (remaining : List Child) → rest ≡ [] → Ahead node rest remaining → remaining ≡ []
remaining_nil node rest [] none ahead = refl
remaining_nil node rest (c ∷ cs) none ahead = let there : has_tree (bstring_bytes c.name) [] ≡ true =
    subst (λ es. has_tree (bstring_bytes c.name) es ≡ true) none ahead.above.0 in absurd (true≢false (sym there))

-- a child adds what is open in it
pub adds_leaf_trees_of_child : (child_if_any : Option (Bor Child)) (child : Bor Child) → child_if_any ≡ Some child → (ts : List (List EntryView))
    → leaf_trees child.now.open ≡ ts
    → (a b ps : List Pair) → Adds a b ts ps → Adds a b (child_leaf_trees (option_copied child_if_any)) ps
adds_leaf_trees_of_child child_if_any child is ts same a b ps adds =
    subst (λ us. Adds a b us ps) (sym (ap (λ (o : Option (Bor Child)). child_leaf_trees (option_copied o)) is ∙ same)) adds

-- a directory whose tree is emitted as a leaf tree
pub record Goes (ds : Opened) (tree base : List EntryView) : Type 0 where
  pub filled : tree ≢ []
  pub changed : tree ≢ base
  pub storing : AllByRecursion (λ e. IsFalse (is_null e.id)) tree
  pub based : bases_of ds [] ≡ Some base
  pub found : EmitsBelow (dirs_of ds) (bases_of ds) [] tree 0
  pub adds : leaf_trees ds ≡ tree ∷ []

false_of_not_true : (b : Bool) → not b ≡ true → b ≡ false
false_of_not_true true h = absurd (true≢false (sym h))
false_of_not_true false h = refl

all_not_null_of_tests : (es : List EntryView) → AllByRecursion (λ e. not (is_null e.id) ≡ true) es → AllByRecursion (λ e. IsFalse (is_null e.id)) es
all_not_null_of_tests es h = all_weaker (λ (e : EntryView). not (is_null e.id) ≡ true) (λ (e : EntryView). IsFalse (is_null e.id))
    (λ e k. false_of_not_true (is_null e.id) k) es h

emits_entries_of_childless : (ds : Opened) (tree base : List EntryView) → ds ≡ opened tree base [] → (es : List EntryView)
    → AllByRecursion (λ e. IsFalse (is_null e.id)) es
    → EmitsEntries (dirs_of ds) (bases_of ds) es [] es 0
emits_entries_of_childless ds tree base is [] filled = end (dirs_of ds) (bases_of ds)
emits_entries_of_childless ds tree base is (e ∷ es) filled =
    subst (λ written_tree. EmitsEntries (dirs_of ds) (bases_of ds) (e ∷ es) [] written_tree 0) (ap (λ b. cond b [] (e ∷ []) ++ es) filled.0)
    (unopened (dirs_of ds) (bases_of ds) e es [] es 0 (ap (λ (d : Opened). dirs_of d (e.name ∷ [])) is)
    (emits_entries_of_childless ds tree base is es filled.1))

pub leaf_tree_has_base_or_is_emitted : (ds : Opened) (tree base : List EntryView) → ds ≡ opened tree base [] → is_leaf_tree (tree, base) ≡ true
    → Goes ds tree base
leaf_tree_has_base_or_is_emitted ds tree base is entire =
    let parts = and_parts _ _ entire in
    let first = and_parts _ _ parts.0 in
    let filled = all_not_null_of_tests tree
    (recursion_from_All (λ (e : EntryView). not (is_null e.id) ≡ true) tree
    (AllPass-from_list_all (λ (e : EntryView). not (is_null e.id)) tree first.1)) in record {
      filled = not_nil_of_not_empty tree (sym (false_of_not_true (length tree == 0) first.0));
      changed = same_tree_false_ne tree base (false_of_not_true (same_tree tree base) parts.1);
      storing = filled;
      based = ap (λ (d : Opened). bases_of d []) is;
      found = of_entries (dirs_of ds) (bases_of ds) tree [] tree 0 (ap (λ (d : Opened). dirs_of d []) is)
          (emits_entries_of_childless ds tree base is tree filled);
      adds = ap leaf_trees is ∙ leaf_trees_of_childless tree base true entire;
    }

-- equal options have equal lists
pub some_unique : (xs ys : List EntryView) → Some xs ≡ Some ys → xs ≡ ys
some_unique xs ys is = cc is

-- the first pair keeps its tree, or gets the first of the trees
pub fills_without_tree : (q : Pair) (rest ps : List Pair) (ts : List (List EntryView)) → q.1 ≢ [] → Fills (q ∷ rest) ts ps → (more : List Pair)
    × (ps ≡ q ∷ more)
    × Fills rest ts more
fills_without_tree q rest ps ts filled (inl h) = (h.0, h.2, h.3)
fills_without_tree q rest ps ts filled (inr h) = absurd (filled h.3)

pub fills_with_tree : (q : Pair) (rest ps : List Pair) (ts new : List (List EntryView)) (tree : List EntryView) → q.1 ≡ [] → ts ≡ tree ∷ new
    → Fills (q ∷ rest) ts ps → (more : List Pair) × (ps ≡ (q.0, tree) ∷ more) × Fills rest new more
fills_with_tree q rest ps ts new tree blank is (inl h) = absurd (h.1 blank)
fills_with_tree q rest ps ts new tree blank is (inr h) =
    let both : h.0 ∷ h.1 ≡ tree ∷ new = sym h.4 ∙ is in
    let head : h.0 ≡ tree = cc both in
    let remaining : h.1 ≡ new = cc both in
    (h.2, h.5 ∙ ap (λ (t : List EntryView). (q.0, t) ∷ h.2) head, subst (λ us. Fills rest us h.2) remaining h.6)

pub not_fills_nil : (q : Pair) (rest ps : List Pair) (ts : List (List EntryView)) → q.1 ≡ [] → ts ≡ [] → Fills (q ∷ rest) ts ps → ⊥
not_fills_nil q rest ps ts blank none (inl h) = h.1 blank
not_fills_nil q rest ps ts blank none (inr h) = let both : h.0 ∷ h.1 ≡ [] = sym h.4 ∙ none in cc both
