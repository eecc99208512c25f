-- What is open in the directories of a list, moved on by one: its leaf trees stay in their order; used for the calls
-- named `move_on`.
use Rattle.std.proofs.Common.{◌≡◌, ◌≢◌, ◌∙◌, ◌≤◌, ◌<◌, ◌+◌, ℕ, Less, List, [], ◌∷◌, ◌++◌, true, drop, get_or, set, take, length, length-append, refl, sym, ap}
use Rattle.std.proofs.Common.{arith}
use Rattle.std.proofs.lemmas.List.{append-nil, append_assoc, drop-set-lt, drop_more, map-append, take_more_set}
use Rattle.std.specs.List.{AllByRecursion, flat_map}
use Rattle.std.specs.Cmp.Lexicographic.{slice_cmp}
use Rattle.std.specs.Ordering.{nat_cmp}
use Rattle.std.specs.declared.alloc.Global.{Global}
use Rattle.std.specs.declared.vec.Vec.{Vec}
use Rattle.gixobj_editor_files.specs.Editing.{has_tree}
use Rattle.gixobj_editor_entries.specs.Pieces.{AreNonEmpty, joined}
use Rattle.gixobj_editor_entries.proofs.Joined.{are_non_empty_set, non_empty_at}
use Rattle.gixobj_tree_entries.specs.Entries.{EntryView}
use Rattle.gixobj_tree_entries.specs.KeyOrder.{key_of}
use Rattle.gixobj_tree.specs.WellFormed.{EachLater}
use Rattle.gixobj_editor_open.specs.LeafTrees.{leaf_trees}
use Rattle.gixobj_editor_write.specs.Moves.{moved_on, moved_out}
use Rattle.gixobj_editor_open.specs.Nested.{IsLevel, Opened, Part, below, length-under, part, parts, under}
use Rattle.gixobj_editor_open.specs.declared.open.Child.{Child}
use Rattle.gixobj_editor_open.proofs.LeafTrees.{leaf_trees_below_cons}
use Rattle.gixobj_editor_open.proofs.Pieces.{joined_snoc}

-- the names stay
all_moved_on : (P : List ℕ → Type 0) (first : Opened) (ps : List Part) → AllByRecursion (λ p. P p.0) ps → AllByRecursion (λ p. P p.0) (moved_on first ps)
all_moved_on P first [] h = tt
all_moved_on P first (p ∷ ps) h = (h.0, all_moved_on P p.1 ps h.1)

each_later_moved_on : (R : List ℕ → List ℕ → Type 0) (first : Opened) (ps : List Part) → EachLater (λ p q. R p.0 q.0) ps
    → EachLater (λ p q. R p.0 q.0) (moved_on first ps)
each_later_moved_on R first [] h = tt
each_later_moved_on R first (p ∷ ps) h = (all_moved_on (R p.0) p.1 ps h.0, each_later_moved_on R p.1 ps h.1)

pub is_level_moved_on : {es : List EntryView} (first : Opened) (ps : List Part) → IsLevel es ps → IsLevel es (moved_on first ps)
is_level_moved_on {es} first ps level = record {
  formed = level.formed;
  ordered = each_later_moved_on (λ n m. slice_cmp nat_cmp (key_of n true) (key_of m true) ≡ Less) first ps level.ordered;
  above = all_moved_on (λ n. has_tree n es ≡ true) first ps level.above;
}

-- the leaf trees are the same, in the same order
pub leaf_trees_moved_on : (first : Opened) (ps : List Part) → EachLater (λ x y. x.0 ≢ y.0) ps
    → leaf_trees (below (moved_on first ps)) ++ leaf_trees (moved_out first ps) ≡ leaf_trees first ++ leaf_trees (below ps)
leaf_trees_moved_on first [] apart = sym (append-nil (leaf_trees first))
leaf_trees_moved_on first (p ∷ ps) apart =
    ap (λ ts. ts ++ leaf_trees (moved_out p.1 ps)) (leaf_trees_below_cons (p.0, first) (moved_on p.1 ps) (all_moved_on (λ n. p.0 ≢ n) p.1 ps apart.0))
    ∙ append_assoc (leaf_trees first) (leaf_trees (below (moved_on p.1 ps))) (leaf_trees (moved_out p.1 ps))
    ∙ ap (λ ts. leaf_trees first ++ ts) (leaf_trees_moved_on p.1 ps apart.1 ∙ sym (leaf_trees_below_cons p ps apart.0))

-- the number of open directories is the same
pub length_moved_on : (first : Opened) (ps : List Part)
    → length (below (moved_on first ps)) + length (moved_out first ps) ≡ length first + length (below ps)
length_moved_on first [] = omega arith
length_moved_on first (p ∷ ps) = omega (
  arith,
  length_moved_on p.1 ps,
  length-append (under p.0 first) (below (moved_on p.1 ps)),
  length-append (under p.0 p.1) (below ps),
  length-under p.0 first,
  length-under p.0 p.1,
)

pub length_moved_out_le : (first : Opened) (ps : List Part) → (below ps ≢ []) → length (moved_out first ps) ≤ length (below ps)
length_moved_out_le first [] some = absurd (some refl)
length_moved_out_le first (p ∷ ps) some = omega (
  arith,
  length_moved_on p.1 ps,
  length-append (under p.0 p.1) (below ps),
  length-under p.0 p.1,
)

-- two lists that are moved on one after the other are moved on as one
pub moved_on_append : (first : Opened) (ps qs : List Part) → moved_on first (ps ++ qs) ≡ moved_on first ps ++ moved_on (moved_out first ps) qs
moved_on_append first [] qs = refl
moved_on_append first (p ∷ ps) qs = ap (λ l. (p.0, first) ∷ l) (moved_on_append p.1 ps qs)

pub moved_out_append : (first : Opened) (ps qs : List Part) → moved_out first (ps ++ qs) ≡ moved_out (moved_out first ps) qs
moved_out_append first [] qs = refl
moved_out_append first (p ∷ ps) qs = moved_out_append p.1 ps qs

abbrev items : Vec Child Global → List Child
items p = p.items

-- a piece that was moved on has children if it had some
pub non_empty_of_moved_on : (first : Opened) (old new : List Child) → parts new ≡ moved_on first (parts old) → (old ≢ []) → new ≢ []
non_empty_of_moved_on first [] new is some = absurd (some refl)
non_empty_of_moved_on first (c ∷ cs) new is some = λ none. let both : [] ≡ (moved_on first (parts (c ∷ cs))) = sym (ap parts none) ∙ is in absurd (cc both)

-- a first piece and others, moved on
pub moved_on_joined : (first : Opened) (cs new : List Child) (ps qs : List (Vec Child Global)) → parts new ≡ moved_on first (parts cs)
    → parts (flat_map items qs) ≡ moved_on (moved_out first (parts cs)) (parts (flat_map items ps))
    → parts (joined items new qs) ≡ moved_on first (parts (joined items cs ps))
moved_on_joined first cs new ps qs is others =
    map-append part new (flat_map items qs)
    ∙ ap (λ l. l ++ parts (flat_map items qs)) is
    ∙ ap (λ l. moved_on first (parts cs) ++ l) others
    ∙ sym (moved_on_append first (parts cs) (parts (flat_map items ps)))
    ∙ ap (moved_on first) (sym (map-append part cs (flat_map items ps)))

pub moved_out_joined : (first : Opened) (cs : List Child) (ps : List (Vec Child Global))
    → moved_out (moved_out first (parts cs)) (parts (flat_map items ps)) ≡ moved_out first (parts (joined items cs ps))
moved_out_joined first cs ps =
    sym (moved_out_append first (parts cs) (parts (flat_map items ps))) ∙ ap (moved_out first) (sym (map-append part cs (flat_map items ps)))

-- a step through the pieces
module _ (ps : List (Vec Child Global)) (i : ℕ) (q d : Vec Child Global) (next after : Opened) (low : i < length ps)
    (is : parts q.items ≡ moved_on next (parts (get_or ps i d).items)) (after_is : after ≡ moved_out next (parts (get_or ps i d).items)) where
  abbrev here : Vec Child Global
  here = get_or ps i d

  abbrev others : List Part
  others = parts (flat_map items (drop (i + 1) ps))

  rest_is : parts (flat_map items (drop i ps)) ≡ parts here.items ++ others
  rest_is = ap (λ l. parts (flat_map items l)) (drop_more ps i d low) ∙ map-append part here.items (flat_map items (drop (i + 1) ps))

  pub moved_on_more : parts (flat_map items (take (i + 1) (set ps i q))) ++ moved_on after (parts (flat_map items (drop (i + 1) (set ps i q))))
      ≡ parts (flat_map items (take i ps)) ++ moved_on next (parts (flat_map items (drop i ps)))
  moved_on_more =
      let before = flat_map items (take i ps) in
      let so_far : parts (flat_map items (take (i + 1) (set ps i q))) ≡ parts before ++ parts q.items =
      ap (λ l. parts (flat_map items l)) (take_more_set ps i q low)
      ∙ ap parts (joined_snoc [] (take i ps ++ q ∷ []) (take i ps) q refl) ∙ map-append part before q.items in
      ap (λ l. l ++ moved_on after (parts (flat_map items (drop (i + 1) (set ps i q))))) so_far
      ∙ ap (λ l. (parts before ++ parts q.items) ++ moved_on after (parts (flat_map items l))) (drop-set-lt (i + 1) ps i q (omega arith))
      ∙ append_assoc (parts before) (parts q.items) (moved_on after others)
      ∙ ap (λ l. parts before ++ l)
      (ap (λ l. l ++ moved_on after others) is ∙ ap (λ (ds : Opened). moved_on next (parts here.items) ++ moved_on ds others) after_is
      ∙ sym (moved_on_append next (parts here.items) others) ∙ ap (moved_on next) (sym rest_is))

  pub moved_out_more : moved_out after (parts (flat_map items (drop (i + 1) (set ps i q)))) ≡ moved_out next (parts (flat_map items (drop i ps)))
  moved_out_more =
      ap (λ l. moved_out after (parts (flat_map items l))) (drop-set-lt (i + 1) ps i q (omega arith))
      ∙ ap (λ (ds : Opened). moved_out ds others) after_is
      ∙ sym (moved_out_append next (parts here.items) others) ∙ ap (moved_out next) (sym rest_is)

  pub non_empty_more : AreNonEmpty items ps → AreNonEmpty items (set ps i q)
  non_empty_more filled =
      are_non_empty_set items ps i q (non_empty_of_moved_on next here.items q.items is (non_empty_at items ps i d low filled)) filled
