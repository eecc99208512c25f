-- One level of open directories: what is open at the directory itself, and at and below each name in it. All proofs of
-- open directories use it.
use mathlib.Core.Bool.{true≢false}
use Rattle.std.proofs.Common.{inl, inr, zero, suc, ◌≡◌, ◌≢◌, ◌<◌, ◌≤◌, ◌+◌, ℕ, Bool, true, false, not, cond, Less, Equal, Greater, List, [], ◌∷◌, ◌++◌, Option}
use Rattle.std.proofs.Common.{Some, None, get_or, length, nat_lt, refl, sym, ap, subst, ◌∙◌, one-add, arith}
use Rattle.std.specs.Prelude.{◌&&◌, set}
use Rattle.std.specs.Cmp.{tied_then}
use Rattle.std.specs.Cmp.Lexicographic.{bytes_decides, slice_cmp, texts_ties}
use Rattle.std.specs.List.{AllByRecursion, filter, position, position_or_len}
use Rattle.std.specs.Ordering.{eq_by_cmp, is_gt, is_lt, nat_cmp}
use Rattle.std.proofs.lemmas.Bool.{ltb-false, ltb-true}
use Rattle.bstr.specs.Owned.{bstring_bytes}
use Rattle.gixobj_tree_entries.specs.Entries.{EntryView}
use Rattle.gixobj_tree_entries.specs.KeyOrder.{key_of}
use Rattle.gixobj_tree.specs.WellFormed.{EachLater, IsEntryName}
use Rattle.gixobj_hash.specs.declared.hash.object_id.ObjectId.{ObjectId}
use Rattle.gixobj_editor_files.specs.Editing.{has_tree, same_name, with_entry, without}
use Rattle.gixobj_editor_files.specs.Edits.{with_directory}
use Rattle.gixobj_editor_files.specs.Files.{Path}
use Rattle.gixobj_editor_open.specs.Nested.{IsLevel, Level, Opened, Part, at_side, base_side, bases_in, bases_of, below, called, dirs_of, entries_side, in_part}
use Rattle.gixobj_editor_open.specs.Nested.{opened, other_parts, part, part_at, part_key, parts, under, with_part}
use Rattle.gixobj_editor_files.specs.Opening.{Dirs}
use Rattle.gixobj_editor_open.specs.declared.open.Child.{Child}
use Rattle.gixobj_editor_files.proofs.WellFormedEdits.{is_well_formed_with_entry, is_well_formed_without}
use Rattle.gixobj_editor_files.proofs.HasTrees.{is_well_formed_with_directory, has_tree_with_other_directory, has_tree_without_other, has_tree_with_entry}
use Rattle.gixobj_editor_files.proofs.HasTrees.{has_tree_with_directory}
use Rattle.gixobj_editor_entries.proofs.Sublists.{all_pass, all_weaker, later_kept}
use Rattle.gixobj_editor_entries.specs.Pieces.{is_after, is_before}
use Rattle.gixobj_tree_entries.proofs.TiedBytes.{eq_of_slice_cmp_equal}
use Rattle.gixobj_editor_files.proofs.OpenedFiles.{same_name_refl, same_name_false, name_eq_or_ne}
use Rattle.gixobj_editor_open.proofs.Ordered.{all_with_part, are_ordered_with_part, name_of_key_unique}

abbrev pub tied : Path → Path → Bool
tied = eq_by_cmp (slice_cmp (slice_cmp nat_cmp))

pub tied_cons : (x y : List ℕ) (p q : Path) → tied (x ∷ p) (y ∷ q) ≡ same_name x y && tied p q
tied_cons x y p q = sym (tied_then (slice_cmp nat_cmp x y) (slice_cmp (slice_cmp nat_cmp) p q)) ∙ ap (λ b. b && tied p q) (sym (texts_ties x y))

pub true_of_cond_some : (b : Bool) (k i : ℕ) → Some i ≡ cond b (Some k) None → (b ≡ true) × (k ≡ i)
true_of_cond_some true k i e = (refl, cc)
true_of_cond_some false k i e = absurd (cc)

pub false_of_cond_none : (b : Bool) (k : ℕ) → None ≡ cond b (Some k) None → b ≡ false
false_of_cond_none true k e = absurd (cc)
false_of_cond_none false k e = refl

cond_cond_same : {X : Type 0} (b : Bool) (x y z : X) → cond b x z ≡ cond b x (cond b y z)
cond_cond_same true x y z = refl
cond_cond_same false x y z = refl

cond_swap_of_disjoint : {X : Type 0} (a b : Bool) (x y z : X) → (a ≡ true → b ≡ true → ⊥) → cond a x (cond b y z) ≡ cond b y (cond a x z)
cond_swap_of_disjoint true true x y z apart = absurd (apart refl refl)
cond_swap_of_disjoint true false x y z apart = refl
cond_swap_of_disjoint false b x y z apart = refl

-- a name equals at most one of two names that differ
not_same_name_of_both : (x y first : List ℕ) → same_name x y ≡ false → same_name x first ≡ true → same_name y first ≡ true → ⊥
not_same_name_of_both x y first differ p q = true≢false (sym ((bytes_decides x y).1 ((bytes_decides x first).0 p ∙ sym ((bytes_decides y first).0 q))) ∙ differ)

-- the directory of one name is replaced or removed; those of other names are unchanged
pub record BecomesBy (side : Level → List EntryView) (name : List ℕ) (next : Dirs) (old new : List Part) : Type 0 where
  pub says : (first : List ℕ) (path : Path) → part_at side first new path ≡ cond (same_name name first) (next path) (part_at side first old path)

-- the child of a name is at this position
pub record IsChild (name : List ℕ) (cs : List Child) (i : ℕ) (child : Child) : Type 0 where
  pub found : Some i ≡ position (called name) cs
  pub is : child ≡ get_or cs i child

-- a child is replaced by another of its name
pub record IsChanged (cs new : List Child) (i : ℕ) (child next : Child) : Type 0 where
  pub named : bstring_bytes next.name ≡ bstring_bytes child.name
  pub changed : new ≡ set cs i next

-- for either list of the open directories
module _ (side : Level → List EntryView) where
  in_under : (name : List ℕ) (ds rest : Opened) (path : Path) → at_side side rest (name ∷ path) ≡ None
      → at_side side (under name ds ++ rest) (name ∷ path) ≡ at_side side ds path
  in_under name [] rest path none = none
  in_under name (d ∷ ds) rest path none =
      rw (tied_cons name name path d.0, same_name_refl name) (ap (λ r. cond (tied path d.0) (Some (side d.1)) r) (in_under name ds rest path none))

  out_of_under : (name other : List ℕ) (ds rest : Opened) (path : Path) → other ≢ name
      → at_side side (under name ds ++ rest) (other ∷ path) ≡ at_side side rest
      (other ∷ path)
  out_of_under name other [] rest path differ = refl
  out_of_under name other (d ∷ ds) rest path differ = rw (tied_cons other name path d.0, same_name_false other name differ)
      (out_of_under name other ds rest path differ)

  none_below : (name : List ℕ) (ps : List Part) (path : Path) → AllByRecursion (λ p. name ≢ p.0) ps → at_side side (below ps) (name ∷ path) ≡ None
  none_below name [] path differ = refl
  none_below name (p ∷ ps) path differ = out_of_under p.0 name p.1 (below ps) path differ.0 ∙ none_below name ps path differ.1

  below_name : (name : List ℕ) (ps : List Part) (path : Path) → EachLater (λ x y. x.0 ≢ y.0) ps
      → at_side side (below ps) (name ∷ path) ≡ part_at side name ps path
  below_name name [] path apart = refl
  below_name name (p ∷ ps) path apart =
      elim (name_eq_or_ne p.0 name) [
        | inl same ↦ subst (λ (n : List ℕ). at_side side (below (p ∷ ps)) (n ∷ path) ≡ part_at side n (p ∷ ps) path) same
            (rw (same_name_refl p.0) (in_under p.0 p.1 (below ps) path (none_below p.0 ps path apart.0)))
        | inr differ ↦ rw (same_name_false p.0 name differ) (out_of_under p.0 name p.1 (below ps) path (λ e. differ (sym e))
            ∙ below_name name ps path apart.1)
      ]

  -- what is open at and below a name is what is open in its directory
  pub at_name_by : (es base : List EntryView) (ps : List Part) (name : List ℕ) (path : Path) → EachLater (λ x y. x.0 ≢ y.0) ps
      → at_side side (opened es base ps) (name ∷ path) ≡ part_at side name ps path
  at_name_by es base ps name path apart = below_name name ps path apart

  found_first : (name : List ℕ) (cs : List Child) (d : Child) (path : Path) → position_or_len (called name) cs < length cs
      → part_at side name (parts cs) path ≡ at_side side (get_or cs (position_or_len (called name) cs) d).open path
  found_first name [] d path low = absurd (omega (arith, low))
  found_first name (c ∷ cs) d path low =
      elim (called name c) as (λ b. cond (not b) (1 + position_or_len (called name) cs) 0 < length (c ∷ cs)
      → cond b (at_side side c.open path) (part_at side name (parts cs) path) ≡ at_side side
      (get_or (c ∷ cs) (cond (not b) (1 + position_or_len (called name) cs) 0) d).open path) [
        | true ↦ λ l. refl
        | false ↦ λ l. rw one-add (found_first name cs d path (omega (arith, l)))
      ] low

  -- the child at the position that the search returned is that of the name
  pub found_by : {name : List ℕ} {cs : List Child} {i : ℕ} {child : Child} → IsChild name cs i child → (path : Path)
      → part_at side name (parts cs) path ≡ at_side side child.open path
  found_by {name} {cs} {i} {child} here path =
      let child_position : ℕ = position_or_len (called name) cs in
      let chose = true_of_cond_some (nat_lt child_position (length cs)) child_position i here.found in
      found_first name cs child path (ltb-true _ _ chose.0) ∙ ap (λ (c : Child). at_side side c.open path)
      (ap (λ k. get_or cs k child) chose.1 ∙ sym here.is)

  none_first : (name : List ℕ) (cs : List Child) (path : Path) → length cs ≤ position_or_len (called name) cs
      → part_at side name (parts cs) path ≡ None
  none_first name [] path high = refl
  none_first name (c ∷ cs) path high =
      elim (called name c) as (λ b. length (c ∷ cs) ≤ cond (not b) (1 + position_or_len (called name) cs) 0
      → cond b (at_side side c.open path) (part_at side name (parts cs) path) ≡ None) [
        | true ↦ λ l. absurd (omega (arith, l))
        | false ↦ λ l. none_first name cs path (omega (arith, l))
      ] high

  pub not_found_by : (name : List ℕ) (cs : List Child) → None ≡ position (called name) cs → (path : Path)
      → part_at side name (parts cs) path ≡ None
  not_found_by name cs found_at path =
      none_first name cs path (ltb-false _ _ (false_of_cond_none (nat_lt (position_or_len (called name) cs) (length cs)) _ found_at))

  -- the open directories of a level, by its list of parts
  pub level_at_by : (ds : Opened) (es base : List EntryView) (ps : List Part) → opened es base ps ≡ ds → EachLater (λ x y. x.0 ≢ y.0) ps
      → (name : List ℕ) (path : Path) → at_side side ds (name ∷ path) ≡ part_at side name ps path
  level_at_by ds es base ps is apart name path = subst (λ (d : Opened). at_side side d (name ∷ path) ≡ part_at side name ps path) is
      (at_name_by es base ps name path apart)

  -- a child that is replaced at its position
  set_first : (name : List ℕ) (cs : List Child) (d child : Child) (first : List ℕ) (path : Path) → position_or_len (called name) cs < length cs
      → bstring_bytes child.name ≡ bstring_bytes (get_or cs (position_or_len (called name) cs) d).name
      → part_at side first (parts (set cs (position_or_len (called name) cs) child)) path ≡ cond (same_name name first) (at_side side child.open path)
      (part_at side first (parts cs) path)
  set_first name [] d child first path low named = absurd (omega (arith, low))
  set_first name (c ∷ cs) d child first path low named =
      elim (called name c) as (λ b. called name c ≡ b → cond (not b) (1 + position_or_len (called name) cs) 0 < length (c ∷ cs)
      → bstring_bytes child.name ≡ bstring_bytes (get_or (c ∷ cs) (cond (not b) (1 + position_or_len (called name) cs) 0) d).name
      → part_at side first (parts (set (c ∷ cs) (cond (not b) (1 + position_or_len (called name) cs) 0) child)) path ≡ cond (same_name name first)
      (at_side side child.open path) (cond (same_name (bstring_bytes c.name) first) (at_side side c.open path) (part_at side first (parts cs) path))) [
        | true ↦ λ is l n. let own : bstring_bytes c.name ≡ name = (bytes_decides (bstring_bytes c.name) name).0 is in
            rw (n, own) (cond_cond_same (same_name name first) _ _ _)
        | false ↦ λ is l n. let rest = set_first name cs d child first path (omega (arith, l)) (rw one-add at n) in
            rw (one-add, rest) (cond_swap_of_disjoint (same_name (bstring_bytes c.name) first) (same_name name first) _ _ _
            (not_same_name_of_both (bstring_bytes c.name) name first is))
      ] refl low named

  pub set_becomes_by : {name : List ℕ} {cs new : List Child} {i : ℕ} {child next : Child} → IsChild name cs i child → IsChanged cs new i child next
      → BecomesBy side name (at_side side next.open) (parts cs) (parts new)
  set_becomes_by {name} {cs} {new} {i} {child} {next} here now =
      let child_position : ℕ = position_or_len (called name) cs in
      let chose = true_of_cond_some (nat_lt child_position (length cs)) child_position i here.found in
      record {
        says = λ first path. ap (λ (l : List Child). part_at side first (parts l) path) now.changed
            ∙ subst (λ k. part_at side first (parts (set cs k next)) path ≡ cond (same_name name first) (at_side side next.open path)
            (part_at side first (parts cs) path)) chose.1
            (set_first name cs child next first path (ltb-true _ _ chose.0)
            (now.named ∙ ap (λ (c : Child). bstring_bytes c.name) (here.is ∙ ap (λ k. get_or cs k child) (sym chose.1))));
      }

  others_first : (name : List ℕ) (ps : List Part) (first : List ℕ) (path : Path) → part_at side first (other_parts name ps) path ≡ cond
      (same_name name first) None (part_at side first ps path)
  others_first name [] first path = either (same_name name first)
    where
      either : (b : Bool) → ◌≡◌ {A = Option (List EntryView)} None (cond b None None)
      either true = refl
      either false = refl
  others_first name (p ∷ ps) first path =
      elim (same_name p.0 name) as
      (λ b. same_name p.0 name ≡ b → part_at side first (cond (not b) (p ∷ other_parts name ps) (other_parts name ps)) path ≡ cond
      (same_name name first) None (cond (same_name p.0 first) (at_side side p.1 path) (part_at side first ps path))) [
        | true ↦ λ is. let own : p.0 ≡ name =
            (bytes_decides p.0 name).0 is in rw own (others_first name ps first path ∙ cond_cond_same (same_name name first) _ _ _)
        | false ↦ λ is. rw (others_first name ps first path)
            (cond_swap_of_disjoint (same_name p.0 first) (same_name name first) _ _ _ (not_same_name_of_both p.0 name first is))
      ] refl

  pub others_becomes_by : (name : List ℕ) (ps : List Part) → BecomesBy side name (λ _. None) ps (other_parts name ps)
  others_becomes_by name ps = record { says = λ first path. others_first name ps first path }

  -- a directory before which none has its name can be searched first
  part_at_swap : (first : List ℕ) (p q : Part) (xs ys : List Part) (path : Path) → p.0 ≢ q.0 → AllByRecursion (λ r. r.0 ≢ q.0) xs
      → part_at side first (xs ++ p ∷ q ∷ ys) path ≡ cond (same_name q.0 first) (at_side side q.1 path) (part_at side first (xs ++ p ∷ ys) path)
  part_at_swap first p q [] ys path differ others =
      cond_swap_of_disjoint (same_name p.0 first) (same_name q.0 first) _ _ _ (not_same_name_of_both p.0 q.0 first (same_name_false p.0 q.0 differ))
  part_at_swap first p q (r ∷ xs) ys path differ others =
      ap (λ o. cond (same_name r.0 first) (at_side side r.1 path) o) (part_at_swap first p q xs ys path differ others.1)
      ∙ cond_swap_of_disjoint (same_name r.0 first) (same_name q.0 first) _ _ _ (not_same_name_of_both r.0 q.0 first (same_name_false r.0 q.0 others.0))

  -- what comes before a key doesn't have the name of what comes after it
  names_before_differ : (k : List ℕ) (q : Part) (ps : List Part) → slice_cmp nat_cmp (part_key q) k ≡ Greater
      → AllByRecursion (λ r. r.0 ≢ q.0) (filter (is_before part_key k) ps)
  names_before_differ k q ps after = all_weaker (λ (r : Part). is_before part_key k r ≡ true) (λ (r : Part). r.0 ≢ q.0)
      (λ r before same. true≢false (sym before ∙ ap (λ (n : List ℕ). is_lt (slice_cmp nat_cmp (key_of n true) k)) same ∙ ap is_lt after))
      (filter (is_before part_key k) ps) (all_pass (is_before part_key k) ps)

  with_first : (name : List ℕ) (ds : Opened) (ps : List Part) → AllByRecursion (λ p. p.0 ≢ name) ps → (first : List ℕ) (path : Path)
      → part_at side first (with_part (name, ds) ps) path ≡ cond (same_name name first) (at_side side ds path) (part_at side first ps path)
  with_first name ds [] others first path = refl
  with_first name ds (q ∷ ps) others first path =
      let k : List ℕ = key_of name true in
      let lower : List Part = filter (is_before part_key k) ps in
      let upper : List Part = filter (is_after part_key k) ps in
      let rest = with_first name ds ps others.1 first path in
      let swap = cond_swap_of_disjoint (same_name q.0 first) (same_name name first) (at_side side q.1 path) (at_side side ds path)
      (part_at side first ps path) (not_same_name_of_both q.0 name first (same_name_false q.0 name others.0)) in
      let step = ap (λ o. cond (same_name q.0 first) (at_side side q.1 path) o) rest ∙ swap in
      elim (slice_cmp nat_cmp (part_key q) k) as (λ o. slice_cmp nat_cmp (part_key q) k ≡ o
      → part_at side first (cond (is_lt o) (q ∷ lower) lower ++ (name, ds) ∷ cond (is_gt o) (q ∷ upper) upper) path ≡ cond
      (same_name name first) (at_side side ds path) (cond (same_name q.0 first) (at_side side q.1 path) (part_at side first ps path))) [
        | Less ↦ λ is. step
        | Equal ↦ λ is. absurd (others.0 (name_of_key_unique q.0 name (eq_of_slice_cmp_equal (part_key q) k is)))
        | Greater ↦ λ is. part_at_swap first (name, ds) q lower upper path (λ same. others.0 (sym same)) (names_before_differ k q ps is) ∙ step
      ] refl

  pub with_becomes_by : (name : List ℕ) (ds : Opened) (ps : List Part) → AllByRecursion (λ p. p.0 ≢ name) ps
      → BecomesBy side name (at_side side ds) ps (with_part (name, ds) ps)
  with_becomes_by name ds ps others = record { says = with_first name ds ps others }

-- for the entries of the open directories
abbrev pub Becomes : List ℕ → Dirs → List Part → List Part → Type 0
Becomes = BecomesBy entries_side

pub dirs_of_opened_nil : (es base : List EntryView) (ps : List Part) → dirs_of (opened es base ps) [] ≡ Some es
dirs_of_opened_nil es base ps = refl

-- what is open at and below a name is what is open in its directory
pub dirs_of_opened_cons : (es base : List EntryView) (ps : List Part) (name : List ℕ) (path : Path) → EachLater (λ x y. x.0 ≢ y.0) ps
    → dirs_of (opened es base ps) (name ∷ path) ≡ in_part name ps path
dirs_of_opened_cons = at_name_by entries_side

-- the child at the position that the search returned is that of the name
pub in_part_of_child : {name : List ℕ} {cs : List Child} {i : ℕ} {child : Child} → IsChild name cs i child → (path : Path)
    → in_part name (parts cs) path ≡ dirs_of child.open path
in_part_of_child here = found_by entries_side here

pub in_part_none : (name : List ℕ) (cs : List Child) → None ≡ position (called name) cs → (path : Path) → in_part name (parts cs) path ≡ None
in_part_none = not_found_by entries_side

-- the open directories of a level, by its list of parts
pub dirs_of_cons : (ds : Opened) (es : List EntryView) {base : List EntryView} (ps : List Part) → opened es base ps ≡ ds → EachLater (λ x y. x.0 ≢ y.0) ps
    → (name : List ℕ) (path : Path) → dirs_of ds (name ∷ path) ≡ in_part name ps path
dirs_of_cons ds es {base} ps is = level_at_by entries_side ds es base ps is

pub dirs_of_nil : (ds : Opened) (es : List EntryView) {base : List EntryView} (ps : List Part) → opened es base ps ≡ ds → dirs_of ds [] ≡ Some es
dirs_of_nil ds es ps is = subst (λ (d : Opened). dirs_of d [] ≡ Some es) is refl

-- the bases of a level, by its list of parts
pub bases_of_cons : (ds : Opened) (es : List EntryView) {base : List EntryView} (ps : List Part) → opened es base ps ≡ ds → EachLater (λ x y. x.0 ≢ y.0) ps
    → (name : List ℕ) (path : Path) → bases_of ds (name ∷ path) ≡ bases_in name ps path
bases_of_cons ds es {base} ps is = level_at_by base_side ds es base ps is

pub bases_of_nil : (ds : Opened) (es : List EntryView) {base : List EntryView} (ps : List Part) → opened es base ps ≡ ds → bases_of ds [] ≡ Some base
bases_of_nil ds es {base} ps is = subst (λ (d : Opened). bases_of d [] ≡ Some base) is refl

pub becomes_of_set : {name : List ℕ} {cs new : List Child} {i : ℕ} {child next : Child} → IsChild name cs i child → IsChanged cs new i child next
    → Becomes name (dirs_of next.open) (parts cs) (parts new)
becomes_of_set here now = set_becomes_by entries_side here now

pub becomes_of_removal : (name : List ℕ) (ps : List Part) → Becomes name (λ _. None) ps (other_parts name ps)
becomes_of_removal = others_becomes_by entries_side

pub becomes_of_with_part : (name : List ℕ) (ds : Opened) (ps : List Part) → AllByRecursion (λ p. p.0 ≢ name) ps
    → Becomes name (dirs_of ds) ps (with_part (name, ds) ps)
becomes_of_with_part = with_becomes_by entries_side

-- a level remains one after a child is replaced by one of the same name
all_parts_set : (P : List ℕ → Type 0) (cs : List Child) (i : ℕ) (next : Child) → AllByRecursion (λ p. P p.0) (parts cs)
    → bstring_bytes next.name ≡ bstring_bytes (get_or cs i next).name → AllByRecursion (λ p. P p.0) (parts (set cs i next))
all_parts_set P [] i next h named = h
all_parts_set P (c ∷ cs) zero next h named = (subst P (sym named) h.0, h.1)
all_parts_set P (c ∷ cs) (suc i) next h named = (h.0, all_parts_set P cs i next h.1 named)

each_later_parts_set : (R : List ℕ → List ℕ → Type 0) (cs : List Child) (i : ℕ) (next : Child) → EachLater (λ x y. R x.0 y.0) (parts cs)
    → bstring_bytes next.name ≡ bstring_bytes (get_or cs i next).name → EachLater (λ x y. R x.0 y.0) (parts (set cs i next))
each_later_parts_set R [] i next h named = h
each_later_parts_set R (c ∷ cs) zero next h named = (subst (λ n. AllByRecursion (λ p. R n p.0) (parts cs)) (sym named) h.0, h.1)
each_later_parts_set R (c ∷ cs) (suc i) next h named = (
  all_parts_set (R (bstring_bytes c.name)) cs i next h.0 named,
  each_later_parts_set R cs i next h.1
      named,
)

pub is_level_set : {name : List ℕ} {es : List EntryView} {cs new : List Child} {i : ℕ} {child next : Child} → IsChild name cs i child
    → IsChanged cs new i child next → IsLevel es (parts cs) → IsLevel es (parts new)
is_level_set {name} {es} {cs} {new} {i} {child} {next} here now level =
    let own : bstring_bytes next.name ≡ bstring_bytes (get_or cs i next).name = own_name cs i child next here.is now.named in
    subst (λ (l : List Child). IsLevel es (parts l)) (sym now.changed) (record {
      formed = level.formed;
      ordered = each_later_parts_set (λ x y. slice_cmp nat_cmp (key_of x true) (key_of y true) ≡ Less) cs i next level.ordered own;
      above = all_parts_set (λ n. has_tree n es ≡ true) cs i next level.above own;
    })
  where
    own_name : (cs : List Child) (i : ℕ) (child next : Child) → child ≡ get_or cs i child → bstring_bytes next.name ≡ bstring_bytes child.name
        → bstring_bytes next.name ≡ bstring_bytes (get_or cs i next).name
    own_name [] i child next is named = refl
    own_name (c ∷ cs) zero child next is named = named ∙ ap (λ (d : Child). bstring_bytes d.name) is
    own_name (c ∷ cs) (suc i) child next is named = own_name cs i child next is named

-- a child that is replaced by an equal one changes nothing
pub parts_set_same : (cs : List Child) (i : ℕ) (child next : Child) → child ≡ get_or cs i child → part next ≡ part child → parts (set cs i next) ≡ parts cs
parts_set_same [] i child next is same = refl
parts_set_same (c ∷ cs) zero child next is same = ap (λ p. p ∷ parts cs) (same ∙ ap part is)
parts_set_same (c ∷ cs) (suc i) child next is same = ap (λ ps. part c ∷ ps) (parts_set_same cs i child next is same)

-- if the search finds no child, no directory has the name
pub all_names_differ : (name : List ℕ) (cs : List Child) → None ≡ position (called name) cs → AllByRecursion (λ p. p.0 ≢ name) (parts cs)
all_names_differ name cs found_at =
    each cs (ltb-false _ _ (false_of_cond_none (nat_lt (position_or_len (called name) cs) (length cs)) _ found_at))
  where
    each : (ds : List Child) → length ds ≤ position_or_len (called name) ds → AllByRecursion (λ p. p.0 ≢ name) (parts ds)
    each [] high = tt
    each (d ∷ ds) high = elim (called name d) as (λ b. called name d ≡ b → length (d ∷ ds) ≤ cond (not b) (1 + position_or_len (called name) ds) 0
        → (bstring_bytes d.name ≢ name) × AllByRecursion (λ p. p.0 ≢ name) (parts ds)) [
          | true ↦ λ is h. absurd (omega (arith, h))
          | false ↦ λ is h. ((λ q. true≢false (sym ((bytes_decides (bstring_bytes d.name) name).1 q) ∙ is)), each ds (omega (arith, h)))
        ] refl high

other_parts_have_trees : (name : List ℕ) (next es : List EntryView) (ps : List Part) → ((n : List ℕ) → n ≢ name → has_tree n es ≡ true → has_tree n next ≡ true)
    → AllByRecursion (λ p. has_tree p.0 es ≡ true) ps → AllByRecursion (λ p. has_tree p.0 next ≡ true) (other_parts name ps)
other_parts_have_trees name next es [] keeps h = tt
other_parts_have_trees name next es (p ∷ ps) keeps h =
    elim (same_name p.0 name) as
    (λ b. same_name p.0 name ≡ b → AllByRecursion (λ q. has_tree q.0 next ≡ true) (cond (not b) (p ∷ other_parts name ps) (other_parts name ps))) [
      | true ↦ λ is. other_parts_have_trees name next es ps keeps h.1
      | false ↦ λ is. (keeps p.0 (λ q. true≢false (sym ((bytes_decides p.0 name).1 q) ∙ is)) h.0, other_parts_have_trees name next es ps keeps h.1)
    ] refl

-- a level remains one after an edit of its entries
pub is_level_with_entry : (x : EntryView) (es : List EntryView) (ps : List Part) → IsEntryName x.name → IsLevel es ps
    → IsLevel (with_entry x es) (other_parts x.name ps)
is_level_with_entry x es ps is_name level = record {
  formed = is_well_formed_with_entry x es level.formed is_name;
  ordered = later_kept (λ p q. slice_cmp nat_cmp (part_key p) (part_key q) ≡ Less) (λ p. not (same_name p.0 x.name)) ps level.ordered;
  above = other_parts_have_trees x.name (with_entry x es) es ps (λ n differ h. has_tree_with_entry n x es differ h) level.above;
}

pub is_level_without : (name : List ℕ) (es : List EntryView) (ps : List Part) → IsLevel es ps → IsLevel (without name es) (other_parts name ps)
is_level_without name es ps level = record {
  formed = is_well_formed_without name es level.formed;
  ordered = later_kept (λ p q. slice_cmp nat_cmp (part_key p) (part_key q) ≡ Less) (λ p. not (same_name p.0 name)) ps level.ordered;
  above = other_parts_have_trees name (without name es) es ps (λ n differ h. has_tree_without_other n name es differ h) level.above;
}

pub is_level_with_directory : (name : List ℕ) (null : ObjectId) (ds : Opened) (es : List EntryView) (ps : List Part) → IsEntryName name
    → IsLevel es ps → IsLevel (with_directory name null es) (with_part (name, ds) ps)
is_level_with_directory name null ds es ps is_name level = record {
  formed = is_well_formed_with_directory name null es level.formed is_name;
  ordered = are_ordered_with_part (name, ds) ps level.ordered;
  above = all_with_part (λ (p : Part). has_tree p.0 (with_directory name null es) ≡ true) (name, ds) ps (has_tree_with_directory name null es)
      (all_weaker (λ (p : Part). has_tree p.0 es ≡ true) (λ (p : Part). has_tree p.0 (with_directory name null es) ≡ true)
      (λ p h. has_tree_with_other_directory p.0 name null es h) ps level.above);
}

-- the open directory of a name has an entry of tree mode
has_tree_of_position : (es : List EntryView) (name : List ℕ) (cs : List Child) → position_or_len (called name) cs < length cs
    → AllByRecursion (λ p. has_tree p.0 es ≡ true) (parts cs) → has_tree name es ≡ true
has_tree_of_position es name [] low above = absurd (omega (arith, low))
has_tree_of_position es name (c ∷ cs) low above =
    elim (called name c) as (λ b. called name c ≡ b → cond (not b) (1 + position_or_len (called name) cs) 0 < length (c ∷ cs)
    → has_tree name es ≡ true) [
      | true ↦ λ is l. subst (λ n. has_tree n es ≡ true) ((bytes_decides (bstring_bytes c.name) name).0 is) above.0
      | false ↦ λ is l. has_tree_of_position es name cs (omega (arith, l)) above.1
    ] refl low

pub child_has_tree : (es : List EntryView) {name : List ℕ} {cs : List Child} {i : ℕ} {child : Child} → IsChild name cs i child
    → AllByRecursion (λ p. has_tree p.0 es ≡ true) (parts cs) → has_tree name es ≡ true
child_has_tree es {name} {cs} {i} here above =
    let child_position : ℕ = position_or_len (called name) cs in
    has_tree_of_position es name cs (ltb-true _ _ (true_of_cond_some (nat_lt child_position (length cs)) child_position i here.found).0) above

-- a level remains one with a directory more, if the directory has an entry of tree mode
pub is_level_with_part : (name : List ℕ) (ds : Opened) (es : List EntryView) (ps : List Part) → has_tree name es ≡ true → IsLevel es ps
    → IsLevel es (with_part (name, ds) ps)
is_level_with_part name ds es ps tree level = record {
  formed = level.formed;
  ordered = are_ordered_with_part (name, ds) ps level.ordered;
  above = all_with_part (λ (p : Part). has_tree p.0 es ≡ true) (name, ds) ps tree level.above;
}
