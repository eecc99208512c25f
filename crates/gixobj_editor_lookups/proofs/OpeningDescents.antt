-- An opening of a directory, and then of the rest of the path in it, is an opening of the entire path: for openings
-- that a loop makes one after the other.
use Rattle.std.proofs.Common.{Bool, ◌≡◌, ◌<◌, ◌+◌, drop, get_or, length, take, ◌≢◌, ◌∙◌, ℕ, true, false, cond, List, [], ◌∷◌, ◌++◌, Option, Some, None, refl}
use Rattle.std.proofs.Common.{sym, ap, subst}
use Rattle.std.proofs.lemmas.List.{append-nil, append_assoc, take-append-drop}
use Rattle.gixobj_hash.specs.declared.hash.object_id.ObjectId.{ObjectId}
use Rattle.gixobj_tree_entries.specs.Entries.{EntryView}
use Rattle.gixobj_editor_files.specs.Editing.{same_name}
use Rattle.gixobj_editor_files.specs.Bases.{base_opened}
use Rattle.gixobj_editor_files.specs.Edits.{Opens, counted, arrived, down, found, only_open, stops, with_dir, with_path}
use Rattle.gixobj_editor_files.specs.Files.{Path, Trees}
use Rattle.gixobj_editor_files.specs.OpeningStops.{StopsOpening, before_lookup, at_lookup}
use Rattle.gixobj_editor_files.specs.OpeningStops as halting
use Rattle.gixobj_editor_files.specs.Opening.{Dirs, HasAt, IsOpened, in_dir, in_path}
use Rattle.gixobj_editor_files.proofs.HasTrees.{entry_of_has_tree}
use Rattle.gixobj_editor_files.proofs.OpenedFiles.{same_name_refl}
use Rattle.gixobj_editor_open.specs.Descents.{AreAbove, HaveTrees, IsDescended, IsExchanged, KeepsOpen, rebuilt}
use Rattle.gixobj_editor_open.specs.Nested.{Opened, bases_of, dirs_of, entries_side, opened, parts}
use Rattle.gixobj_editor_lookups.specs.Openings.{EndsBefore, IsOpenErrorAt, OfTrees}
use Rattle.gixobj_editor_open.specs.declared.open.Child.{Child}
use Rattle.gixobj_editor_lookups.specs.declared.opening.Error.{Error}
use Rattle.gixobj_editor_lookups.specs.declared.opening.NotLookedUp.{NotLookedUp}
use Rattle.gixobj_store.specs.Stores.{Objects}
use Rattle.std.specs.Prelude.{reverse}
use Rattle.bstr.specs.Owned.{bstring_bytes}
use Rattle.bstr.specs.declared.bstring.BString.{BString}
use Rattle.gixobj_editor_open.specs.Paths.{names_of}
use Rattle.std.specs.Cmp.Lexicographic.{bytes_decides}
use Rattle.gixobj_editor_open.proofs.BaseSteps.{opening, unmoved}
use Rattle.gixobj_editor_open.proofs.Descents.{at_ascent, at_descent, bases_at_ascent, in_dir_with_dir, is_descended_nil, is_descended_snoc, names_of_parts}
use Rattle.gixobj_editor_open.proofs.Descents.{names_of_take_more, with_dir_twice, with_path_append}
use Rattle.gixobj_editor_lookups.proofs.OpeningSteps.{GoesDown, GoesIn, HaltsAt, IsFormedList, OpensAs, StaysOpened, counted_append, stays_opened_goes_down}
use Rattle.gixobj_editor_lookups.proofs.OpeningSteps.{halts_at_goes_down, halts_at_goes_in, opens_goes_down, opens_goes_in}

same_head : (x y : List ℕ) (xs ys : Path) → x ∷ xs ≡ y ∷ ys → x ≡ y
same_head x y xs ys is = cc is

same_tail : (x y : List ℕ) (xs ys : Path) → x ∷ xs ≡ y ∷ ys → xs ≡ ys
same_tail x y xs ys is = cc is

in_dir_of_with_dir : (name : List ℕ) (inner dirs : Dirs) → in_dir name (with_dir name inner dirs) ≡ inner
in_dir_of_with_dir name inner dirs = λ i at. in_dir_with_dir name inner dirs at i

with_dir_again : (name : List ℕ) (next other dirs : Dirs) → with_dir name next dirs ≡ with_dir name next (with_dir name other dirs)
with_dir_again name next other dirs = λ i at. with_dir_twice name next other dirs at i

module _ {StopsBefore : EntryView → Type 0} (trees : Trees) where
  -- an opening along no names changes nothing
  opens_nil : (path : Path) (old new : Dirs) (looked_up : List ObjectId) → Opens StopsBefore trees path old new looked_up → path ≡ []
      → (new ≡ old) × (looked_up ≡ [])
  opens_nil path old new looked_up (arrived d) is = (refl, refl)
  opens_nil path old new looked_up (stops name rest d other none) is = absurd (cc is)
  opens_nil path old new looked_up (down name rest d inner e entries more has named there opens) is = absurd (cc is)
  opens_nil path old new looked_up (found name rest d inner e entries first more own tree free none finds opens) is = absurd (cc is)

  halts_nil : (path : Path) (old new : Dirs) (looked_up : List ObjectId) (failed : Option ObjectId)
      → StopsOpening StopsBefore trees path old new looked_up failed → path ≢ []
  halts_nil path old new looked_up failed (before_lookup name rest d e own tree free none idle) is = cc is
  halts_nil path old new looked_up failed (at_lookup name rest d e own tree free none filled) is = cc is
  halts_nil path old new looked_up failed (halting.down name rest d inner e entries more v has named there halts) is = cc is
  halts_nil path old new looked_up failed (halting.found name rest d inner e entries first more v own tree free none finds halts) is = cc is

  module _ (R : Path → Dirs → Dirs → List ObjectId → Type 0) (goes_down : GoesDown R) (goes_in : GoesIn (OpensAs StopsBefore trees) R) where
    step_down : (n : List ℕ) (rest : Path) (d below inner : Dirs) (first more : List ObjectId) → R (n ∷ rest) d (with_dir n inner d) (first ++ more)
        → (next : List ObjectId) → next ≡ [] → R (n ∷ rest) d (with_dir n inner (with_dir n below d)) ((first ++ next) ++ more)
    step_down n rest d below inner first more r next none =
        subst (λ (l : List ObjectId). R (n ∷ rest) d (with_dir n inner (with_dir n below d)) (l ++ more))
        (sym (ap (λ (l : List ObjectId). first ++ l) none ∙ append-nil first))
        (subst (λ (s : Dirs). R (n ∷ rest) d s (first ++ more)) (with_dir_again n inner below d) r)

    -- once the directory of a name is opened, what holds in it holds above
    pub opens_then : (path : Path) (old new : Dirs) (looked_up : List ObjectId) → Opens StopsBefore trees path old new looked_up
        → (name : List ℕ) → path ≡ name ∷ [] → new (name ∷ []) ≢ None → (rest : Path) (inner : Dirs) (more : List ObjectId)
        → R rest (in_dir name new) inner more → R (name ∷ rest) old (with_dir name inner new) (looked_up ++ more)
    opens_then path old new looked_up (arrived d) name is entered rest inner more r = absurd (cc is)
    opens_then path old new looked_up (stops n after d other none) name is entered rest inner more r =
        absurd (entered (subst (λ (m : List ℕ). d (m ∷ []) ≡ None) (same_head n name after [] is) (none [])))
    opens_then path old new looked_up (down n after d below e entries again has named there opens) name is entered rest inner more r =
        let same = same_head n name after [] is in
        let last = opens_nil after (in_dir n d) below again opens (same_tail n name after [] is) in
        let here : R rest (in_dir n d) inner more = subst (λ (s : Dirs). R rest s inner more)
        (in_dir_of_with_dir n below d ∙ last.0) (subst (λ (m : List ℕ). R rest (in_dir m (with_dir n below d)) inner more) (sym same) r) in
        subst (λ (m : List ℕ). R (m ∷ rest) d (with_dir m inner (with_dir n below d)) (again ++ more)) same
        (step_down n rest d below inner [] more (goes_down n rest d inner e entries more has named there here) again last.1)
    opens_then path old new looked_up (found n after d below e entries first again own tree free none finds opens) name is entered rest inner more r =
        let same = same_head n name after [] is in
        let last = opens_nil after (only_open entries) below again opens (same_tail n name after [] is) in
        let here : R rest (only_open entries) inner more = subst (λ (s : Dirs). R rest s inner more)
        (in_dir_of_with_dir n below d ∙ last.0) (subst (λ (m : List ℕ). R rest (in_dir m (with_dir n below d)) inner more) (sym same) r) in
        subst (λ (m : List ℕ). R (m ∷ rest) d (with_dir m inner (with_dir n below d)) ((first ++ again) ++ more)) same
        (step_down n rest d below inner first more (goes_in n rest d inner e entries first more own tree none (free, finds) here) again last.1)

  -- an opening that ends above the directory of a name ends there for each path through it
  pub opens_stays : (path : Path) (old new : Dirs) (looked_up : List ObjectId) → Opens StopsBefore trees path old new looked_up
      → (name : List ℕ) → path ≡ name ∷ [] → new (name ∷ []) ≡ None → (rest : Path) → Opens StopsBefore trees (name ∷ rest) old new looked_up
  opens_stays path old new looked_up (arrived d) name is none rest = absurd (cc is)
  opens_stays path old new looked_up (stops n after d other free) name is none rest =
      subst (λ (m : List ℕ). Opens StopsBefore trees (m ∷ rest) d d []) (same_head n name after [] is) (stops n rest d other free)
  opens_stays path old new looked_up (down n after d below e entries again has named there opens) name is none rest =
      let same = same_head n name after [] is in
      let last = opens_nil after (in_dir n d) below again opens (same_tail n name after [] is) in
      let nothing : with_dir n below d (n ∷ []) ≡ None = subst (λ (m : List ℕ). with_dir n below d (m ∷ []) ≡ None) (sym same) none in
      absurd (let bad : Some entries ≡ None = sym there ∙ ap (λ (s : Dirs). s []) (sym last.0) ∙ sym (in_dir_with_dir n below d []) ∙ nothing in cc bad)
  opens_stays path old new looked_up (found n after d below e entries first again own tree free empty finds opens) name is none rest =
      let same = same_head n name after [] is in
      let last = opens_nil after (only_open entries) below again opens (same_tail n name after [] is) in
      let nothing : with_dir n below d (n ∷ []) ≡ None = subst (λ (m : List ℕ). with_dir n below d (m ∷ []) ≡ None) (sym same) none in
      absurd (let bad : Some entries ≡ None = ap (λ (s : Dirs). s []) (sym last.0) ∙ sym (in_dir_with_dir n below d []) ∙ nothing in cc bad)

  pub halts_stays : (path : Path) (old new : Dirs) (looked_up : List ObjectId) (failed : Option ObjectId)
      → StopsOpening StopsBefore trees path old new looked_up failed → (name : List ℕ) → path ≡ name ∷ [] → (rest : Path)
      → StopsOpening StopsBefore trees (name ∷ rest) old new looked_up failed
  halts_stays path old new looked_up failed (before_lookup n after d e own tree free none idle) name is rest =
      subst (λ (m : List ℕ). StopsOpening StopsBefore trees (m ∷ rest) d d [] None) (same_head n name after [] is)
      (before_lookup n rest d e own tree free none idle)
  halts_stays path old new looked_up failed (at_lookup n after d e own tree free none filled) name is rest =
      subst (λ (m : List ℕ). StopsOpening StopsBefore trees (m ∷ rest) d d (e.id ∷ []) (Some e.id)) (same_head n name after [] is)
      (at_lookup n rest d e own tree free none filled)
  halts_stays path old new looked_up failed (halting.down n after d inner e entries more v has named there halts) name is rest =
      absurd (halts_nil after (in_dir n d) inner more v halts (same_tail n name after [] is))
  halts_stays path old new looked_up failed (halting.found n after d inner e entries first more v own tree free none finds halts) name is rest =
      absurd (halts_nil after (only_open entries) inner more v halts (same_tail n name after [] is))

-- what is changed at and below a path
in_dir_with_path : (name : List ℕ) (path : Path) (next dirs : Dirs) → in_dir name (with_path (name ∷ path) next dirs) ≡ with_path path next (in_dir name dirs)
in_dir_with_path name path next dirs =
    λ i at. ap (λ b. cond b (with_path path next (in_dir name dirs) at) (dirs (name ∷ at))) (same_name_refl name) i

pub in_path_with_path : (path : Path) (next dirs : Dirs) → in_path path (with_path path next dirs) ≡ next
in_path_with_path [] next dirs = refl
in_path_with_path (name ∷ path) next dirs = ap (in_path path) (in_dir_with_path name path next dirs) ∙ in_path_with_path path next (in_dir name dirs)

with_path_twice : (path : Path) (next other dirs : Dirs) (at : Path) → with_path path next (with_path path other dirs) at ≡ with_path path next dirs at
with_path_twice [] next other dirs at = refl
with_path_twice (n ∷ path) next other dirs [] = refl
with_path_twice (n ∷ path) next other dirs (first ∷ at) =
    elim (same_name n first) as (λ b. cond b (with_path path next (in_dir n (with_path (n ∷ path) other dirs)) at)
    (cond b (with_path path other (in_dir n dirs) at) (dirs (first ∷ at))) ≡ cond b (with_path path next (in_dir n dirs) at) (dirs (first ∷ at))) [
      | true ↦ ap (λ (d : Dirs). with_path path next d at) (in_dir_with_path n path other dirs) ∙ with_path_twice path next other (in_dir n dirs) at
      | false ↦ refl
    ]

have_trees_with_path : (path : Path) (next dirs : Dirs) → HaveTrees path dirs → HaveTrees path (with_path path next dirs)
have_trees_with_path [] next dirs trees = tt
have_trees_with_path (name ∷ path) next dirs trees =
    (trees.0, subst (HaveTrees path) (sym (in_dir_with_path name path next dirs)) (have_trees_with_path path next (in_dir name dirs) trees.1))

-- a relation at the end of a path holds at the entire path
module _ (R : Path → Dirs → Dirs → List ObjectId → Type 0) (goes_down : GoesDown R) where
  pub goes_along : (path : Path) (dirs : Dirs) → HaveTrees path dirs → (entries : List EntryView) → in_path path dirs [] ≡ Some entries → (rest : Path)
      (inner : Dirs) (looked_up : List ObjectId) → R rest (in_path path dirs) inner looked_up → R (path ++ rest) dirs (with_path path inner dirs) looked_up
  goes_along [] dirs trees entries root rest inner looked_up r = r
  goes_along (name ∷ path) dirs trees entries root rest inner looked_up r =
      let e = entry_of_has_tree name trees.0.0 trees.0.2 in
      let next = root_of_path path (in_dir name dirs) trees.1 entries root in
      subst (λ (d : Dirs). R (name ∷ path ++ rest) dirs d looked_up) (λ i at. same at i)
      (goes_down name (path ++ rest) dirs (with_path path inner (in_dir name dirs)) e.0 next.0 looked_up
      (subst (λ o. HasAt o e.0) (sym trees.0.1) e.1) e.2 next.1
      (goes_along path (in_dir name dirs) trees.1 entries root rest inner looked_up r))
    where
      same : (at : Path) → with_dir name (with_path path inner (in_dir name dirs)) dirs at ≡ with_path (name ∷ path) inner dirs at
      same [] = refl
      same (first ∷ at) = refl

      root_of_path : (p : Path) (d : Dirs) → HaveTrees p d → (es : List EntryView) → in_path p d [] ≡ Some es
          → (own : List EntryView) × (d [] ≡ Some own)
      root_of_path [] d h es is = (es, is)
      root_of_path (m ∷ p) d h es is = (h.0.0, h.0.1)

-- what an opening that has come along this path does at all
pub record OpensAlong (StopsBefore : EntryView → Type 0) (trees : Trees) (path : Path) (old entire here : Dirs) (looked_up : List ObjectId) : Type 0 where
  pub opens : (rest : Path) (inner : Dirs) (more : List ObjectId) → Opens StopsBefore trees rest here inner more
      → Opens StopsBefore trees (path ++ rest) old (with_path path inner entire) (looked_up ++ more)
  pub halts : (rest : Path) (inner : Dirs) (more : List ObjectId) (failed : Option ObjectId) → StopsOpening StopsBefore trees rest here inner more failed
      → StopsOpening StopsBefore trees (path ++ rest) old (with_path path inner entire) (looked_up ++ more) failed

-- a relation at the next name holds at the path with that name
snoc_step : (R : Path → Dirs → List ObjectId → Type 0) (path : Path) (name : List ℕ) (rest : Path) (inner entire here : Dirs)
    (looked_up next more : List ObjectId) → R (path ++ name ∷ rest) (with_path path (with_dir name inner here) entire) (looked_up ++ (next ++ more))
    → R ((path ++ name ∷ []) ++ rest) (with_path (path ++ name ∷ []) inner (with_path path here entire)) ((looked_up ++ next) ++ more)
snoc_step R path name rest inner entire here looked_up next more r =
    subst (λ (p : Path). R p (with_path (path ++ name ∷ []) inner (with_path path here entire)) ((looked_up ++ next) ++ more))
    (sym (append_assoc path (name ∷ []) rest))
    (subst (λ (d : Dirs). R (path ++ name ∷ rest) d ((looked_up ++ next) ++ more)) (λ i at. same at i)
    (subst (λ (l : List ObjectId). R (path ++ name ∷ rest) (with_path path (with_dir name inner here) entire) l)
    (sym (append_assoc looked_up next more)) r))
  where
    last : (at : Path) → with_path (name ∷ []) inner here at ≡ with_dir name inner here at
    last [] = refl
    last (first ∷ at) = refl

    same : (at : Path) → with_path path (with_dir name inner here) entire at ≡ with_path (path ++ name ∷ []) inner (with_path path here entire) at
    same at = sym (with_path_append path (name ∷ []) inner (with_path path here entire) at
        ∙ ap (λ (d : Dirs). with_path path (with_path (name ∷ []) inner d) (with_path path here entire) at) (in_path_with_path path here entire)
        ∙ ap (λ (d : Dirs). with_path path d (with_path path here entire) at) (λ i q. last q i)
        ∙ with_path_twice path (with_dir name inner here) here entire at)

module _ {StopsBefore : EntryView → Type 0} (trees : Trees) where
  pub opens_along_nil : (old : Dirs) → OpensAlong StopsBefore trees [] old old old []
  opens_along_nil old = record { opens = λ rest inner more r. r; halts = λ rest inner more failed r. r }

  pub opens_along_snoc : (path : Path) (old entire here next : Dirs) (looked_up found_next : List ObjectId)
      → OpensAlong StopsBefore trees path old entire here looked_up → (name : List ℕ) → Opens StopsBefore trees (name ∷ []) here next found_next
      → next (name ∷ []) ≢ None
      → OpensAlong StopsBefore trees (path ++ name ∷ []) old (with_path path next entire) (in_dir name next) (looked_up ++ found_next)
  opens_along_snoc path old entire here next looked_up found_next along name opens entered = record {
    opens = λ rest inner more r. snoc_step (λ p d l. Opens StopsBefore trees p old d l) path name rest inner entire next looked_up found_next more
        (along.opens (name ∷ rest) (with_dir name inner next) (found_next ++ more)
        (opens_then trees (Opens StopsBefore trees) (opens_goes_down StopsBefore trees) (opens_goes_in StopsBefore trees) (name ∷ []) here next found_next
        opens name refl entered rest inner more r));
    halts = λ rest inner more failed r. snoc_step (λ p d l. StopsOpening StopsBefore trees p old d l failed) path name rest inner entire next looked_up
        found_next more (along.halts (name ∷ rest) (with_dir name inner next) (found_next ++ more) failed
        (opens_then trees (HaltsAt StopsBefore trees failed) (halts_at_goes_down StopsBefore trees failed) (halts_at_goes_in StopsBefore trees failed)
        (name ∷ []) here next found_next opens name refl entered rest inner more r));
  }

-- open directories keep their entries, also in the directory above
abbrev pub KeepsEntries : Path → Dirs → Dirs → List ObjectId → Type 0
KeepsEntries path old new looked_up = KeepsOpen old new

pub keeps_goes_down : GoesDown KeepsEntries
keeps_goes_down name rest dirs inner e entries looked_up has named is below = keeps
  where
    keeps : KeepsOpen dirs (with_dir name inner dirs)
    keeps [] es h = h
    keeps (first ∷ at) es h =
        elim (same_name name first) as (λ b. same_name name first ≡ b → cond b (inner at) (dirs (first ∷ at)) ≡ Some es) [
          | true ↦ λ same. below at es (subst (λ (n : List ℕ). dirs (n ∷ at) ≡ Some es) (sym ((bytes_decides name first).0 same)) h)
          | false ↦ λ same. h
        ] refl

pub keeps_goes_in : GoesIn IsFormedList KeepsEntries
keeps_goes_in name rest dirs inner e entries first looked_up own tree none formed below = keeps
  where
    keeps : KeepsOpen dirs (with_dir name inner dirs)
    keeps [] es h = h
    keeps (next ∷ at) es h =
        elim (same_name name next) as (λ b. same_name name next ≡ b → cond b (inner at) (dirs (next ∷ at)) ≡ Some es) [
          | true ↦ λ same. absurd (let bad : Some es ≡ None = sym h ∙ subst (λ (n : List ℕ). dirs (n ∷ at) ≡ None) ((bytes_decides name next).0 same) (none at)
              in cc bad)
          | false ↦ λ same. h
        ] refl

pub keeps_open_of_same : (es : List EntryView) (ds : Opened) (cs new : List Child) {base : List EntryView} → opened es base (parts cs) ≡ ds → new ≡ cs
    → KeepsOpen (dirs_of ds) (dirs_of (opened es [] (parts new)))
keeps_open_of_same es ds cs new {base} view same =
    subst (λ (d : Opened). KeepsOpen (dirs_of ds) (dirs_of d)) (sym (ap (λ (l : List Child). opened es base (parts l)) same ∙ view)) (λ at entries is. is)

-- the bases after two openings
base_opened_twice : (o w new b bw bnew : Option (List EntryView)) → bw ≡ base_opened o w b → bnew ≡ base_opened w new bw
    → ((es : List EntryView) → o ≡ Some es → w ≡ Some es) → ((es : List EntryView) → w ≡ Some es → new ≡ Some es) → bnew ≡ base_opened o new b
base_opened_twice None None new b bw bnew first second kept more = second
base_opened_twice None (Some es) new b bw bnew first second kept more = second ∙ first ∙ sym (more es refl)
base_opened_twice (Some e) None new b bw bnew first second kept more = absurd (let bad : None ≡ Some e = kept e refl in cc bad)
base_opened_twice (Some e) (Some es) new b bw bnew first second kept more = second ∙ first

with_path_root : (path : Path) (next dirs : Dirs) → next [] ≡ in_path path dirs [] → with_path path next dirs [] ≡ dirs []
with_path_root [] next dirs same = same
with_path_root (name ∷ path) next dirs same = refl

-- what openings leave of the entire directory
pub record IsOpenedFrom (root entire : Opened) : Type 0 where
  pub kept : KeepsOpen (dirs_of root) (dirs_of entire)
  pub still_opened : IsOpened (dirs_of root) → IsOpened (dirs_of entire)
  pub bases : (at : Path) → bases_of entire at ≡ base_opened (dirs_of root at) (dirs_of entire at) (bases_of root at)
  pub same_root : dirs_of entire [] ≡ dirs_of root []

-- an opening along these names, with the number of lookups before and after, and one that stops with this error
abbrev pub Opening : Objects → NotLookedUp → Path → Dirs → Dirs → ℕ → ℕ → Type 0
Opening objects ends path old new before after = OfTrees objects (λ trees. (looked_up : List ObjectId)
    × Opens (EndsBefore ends) trees path old new looked_up × (after ≡ counted before looked_up))

abbrev pub Stopping : Objects → (ObjectId → Bool) → NotLookedUp → Error → Path → Dirs → Dirs → ℕ → ℕ → Type 0
Stopping objects may_fail ends error path old new before after = OfTrees objects (λ trees. (looked_up : List ObjectId) × (failed : Option ObjectId)
    × StopsOpening (EndsBefore ends) trees path old new looked_up failed × (after ≡ counted before looked_up)
    × IsOpenErrorAt objects may_fail failed error)

pub record ComesAlong (objects : Objects) (ends : NotLookedUp) (path : Path) (root here above : Opened) (before count : ℕ) : Type 0 where
  pub are_above : AreAbove (reverse path) above
  pub trees : HaveTrees path (dirs_of (rebuilt (reverse path) above here))
  pub opens : OfTrees objects (λ trees. (looked_up : List ObjectId)
      × OpensAlong (EndsBefore ends) trees path (dirs_of root) (dirs_of (rebuilt (reverse path) above here)) (dirs_of here) looked_up
      × (count ≡ counted before looked_up))
  pub entire : IsOpenedFrom root (rebuilt (reverse path) above here)

pub comes_along_nil : (objects : Objects) (ends : NotLookedUp) (root above : Opened) (count : ℕ) → ComesAlong objects ends [] root root above count count
comes_along_nil objects ends root above count = record {
  are_above = tt;
  trees = tt;
  opens = λ trees fits. ([], opens_along_nil trees (dirs_of root), refl);
  entire = record { kept = λ at es is. is; still_opened = λ all. all; bases = unmoved base_opened opening root; same_root = refl };
}

-- after the directories of one name more are opened in the directory reached
module _ {objects : Objects} {ends : NotLookedUp} {path : Path} {root here above : Opened} {before count : ℕ}
    (along : ComesAlong objects ends path root here above before count) (next : Opened) where
  here_descended : IsDescended path (rebuilt (reverse path) above here) here above
  here_descended = record { rebuilt_is = refl; are_above = along.are_above; trees = along.trees }

  pub top_is : dirs_of (rebuilt (reverse path) above next) ≡ with_path path (dirs_of next) (dirs_of (rebuilt (reverse path) above here))
  top_is = λ i at. at_ascent here_descended (rebuilt (reverse path) above next) next refl entries_side at i

  reached : in_path path (dirs_of (rebuilt (reverse path) above here)) ≡ dirs_of here
  reached = at_descent here_descended entries_side

  pub is_opened_from_next : KeepsOpen (dirs_of here) (dirs_of next) → (IsOpened (dirs_of here) → IsOpened (dirs_of next))
      → ((at : Path) → bases_of next at ≡ base_opened (dirs_of here at) (dirs_of next at) (bases_of here at)) → dirs_of next [] ≡ dirs_of here []
      → (entries : List EntryView) → dirs_of here [] ≡ Some entries → IsOpenedFrom root (rebuilt (reverse path) above next)
  is_opened_from_next kept still bases same entries is =
      let entire : Dirs = dirs_of (rebuilt (reverse path) above here) in
      let there : in_path path entire [] ≡ Some entries = ap (λ (d : Dirs). d []) reached ∙ is in
      let more : KeepsOpen entire (dirs_of (rebuilt (reverse path) above next)) = subst (KeepsOpen entire) (sym top_is)
      (goes_along KeepsEntries keeps_goes_down path entire along.trees entries there [] (dirs_of next) []
      (subst (λ (d : Dirs). KeepsOpen d (dirs_of next)) (sym reached) kept)) in
      let opens : IsOpened entire → IsOpened (dirs_of (rebuilt (reverse path) above next)) = subst (λ (d : Dirs). IsOpened entire → IsOpened d) (sym top_is)
      (goes_along StaysOpened stays_opened_goes_down path entire along.trees entries there [] (dirs_of next) []
      (subst (λ (d : Dirs). IsOpened d → IsOpened (dirs_of next)) (sym reached) still)) in record {
        kept = λ at es h. more at es (along.entire.kept at es h);
        still_opened = λ all. opens (along.entire.still_opened all);
        bases = λ at. base_opened_twice (dirs_of root at) (entire at) (dirs_of (rebuilt (reverse path) above next) at) (bases_of root at)
            (bases_of (rebuilt (reverse path) above here) at) (bases_of (rebuilt (reverse path) above next) at) (along.entire.bases at)
            (bases_at_ascent here_descended (rebuilt (reverse path) above next) next refl base_opened opening bases at) (along.entire.kept at) (more at);
        same_root = ap (λ (d : Dirs). d []) top_is ∙ with_path_root path (dirs_of next) entire (same ∙ sym (ap (λ (d : Dirs). d []) reached))
            ∙ along.entire.same_root;
      }

  -- into the directory of the name, which was opened
  pub comes_along_snoc : (name : List ℕ) (new taken : Opened) (more : ℕ) → IsOpenedFrom root (rebuilt (reverse path) above next)
      → OfTrees objects (λ trees. (looked_up : List ObjectId) × Opens (EndsBefore ends) trees (name ∷ []) (dirs_of here) (dirs_of next) looked_up
      × (more ≡ counted count looked_up)) → IsExchanged name next above new taken
      → ComesAlong objects ends (path ++ name ∷ []) root taken new before more
  comes_along_snoc name new taken more entire opened exchanged =
      let top : Opened = rebuilt (reverse path) above next in
      let at_next : IsDescended path top next above = record {
        rebuilt_is = refl;
        are_above = along.are_above;
        trees = subst (HaveTrees path) (sym top_is) (have_trees_with_path path (dirs_of next) (dirs_of (rebuilt (reverse path) above here)) along.trees);
      } in
      let deeper = is_descended_snoc at_next name new taken exchanged in
      let inside : in_dir name (dirs_of next) ≡ dirs_of taken =
      at_descent (is_descended_snoc (is_descended_nil next above) name new taken exchanged) entries_side in
      let entered : dirs_of next (name ∷ []) ≢ None = λ none. let bad : Some exchanged.taken_root.0 ≡ None =
      sym exchanged.taken_root.1 ∙ sym (ap (λ (d : Dirs). d []) inside) ∙ none in cc bad in record {
        are_above = deeper.are_above;
        trees = subst (λ (d : Opened). HaveTrees (path ++ name ∷ []) (dirs_of d)) (sym deeper.rebuilt_is) deeper.trees;
        opens = λ trees fits.
            let so_far = along.opens trees fits in
            let step = opened trees fits in (
              so_far.0 ++ step.0,
              subst (λ (d : Dirs). OpensAlong (EndsBefore ends) trees (path ++ name ∷ []) (dirs_of root)
                  (dirs_of (rebuilt (reverse (path ++ name ∷ [])) new taken)) d (so_far.0 ++ step.0)) inside
                  (subst (λ (d : Dirs). OpensAlong (EndsBefore ends) trees (path ++ name ∷ []) (dirs_of root) d (in_dir name (dirs_of next))
                  (so_far.0 ++ step.0))
                  (sym top_is ∙ ap dirs_of (sym deeper.rebuilt_is))
                  (opens_along_snoc trees path (dirs_of root) (dirs_of (rebuilt (reverse path) above here)) (dirs_of here) (dirs_of next) so_far.0 step.0
                  so_far.1 name step.1 entered)),
              step.2 ∙ ap (λ n. counted n step.0) so_far.2 ∙ counted_append before so_far.0 step.0,
            );
        entire = subst (IsOpenedFrom root) (sym deeper.rebuilt_is) entire;
      }

  -- an opening that ends here
  pub opens_of_stay : (name : List ℕ) (rest : Path) (more : ℕ) → dirs_of next (name ∷ []) ≡ None
      → OfTrees objects (λ trees. (looked_up : List ObjectId) × Opens (EndsBefore ends) trees (name ∷ []) (dirs_of here) (dirs_of next) looked_up
      × (more ≡ counted count looked_up))
      → OfTrees objects (λ trees. (looked_up : List ObjectId)
      × Opens (EndsBefore ends) trees (path ++ name ∷ rest) (dirs_of root) (dirs_of (rebuilt (reverse path) above next)) looked_up
      × (more ≡ counted before looked_up))
  opens_of_stay name rest more none opened trees fits =
      let so_far = along.opens trees fits in
      let step = opened trees fits in (
        so_far.0 ++ step.0,
        subst (λ (d : Dirs). Opens (EndsBefore ends) trees (path ++ name ∷ rest) (dirs_of root) d (so_far.0 ++ step.0)) (sym top_is)
            (so_far.1.opens (name ∷ rest) (dirs_of next) step.0
            (opens_stays trees (name ∷ []) (dirs_of here) (dirs_of next) step.0 step.1 name refl none rest)),
        step.2 ∙ ap (λ n. counted n step.0) so_far.2 ∙ counted_append before so_far.0 step.0,
      )

  pub halts_of_error : (may_fail : ObjectId → Bool) (name : List ℕ) (rest : Path) (more : ℕ) (error : Error)
      → OfTrees objects (λ trees. (looked_up : List ObjectId) × (failed : Option ObjectId)
      × StopsOpening (EndsBefore ends) trees (name ∷ []) (dirs_of here) (dirs_of next) looked_up failed × (more ≡ counted count looked_up)
      × IsOpenErrorAt objects may_fail failed error)
      → OfTrees objects (λ trees. (looked_up : List ObjectId) × (failed : Option ObjectId)
      × StopsOpening (EndsBefore ends) trees (path ++ name ∷ rest) (dirs_of root) (dirs_of (rebuilt (reverse path) above next)) looked_up failed
      × (more ≡ counted before looked_up) × IsOpenErrorAt objects may_fail failed error)
  halts_of_error may_fail name rest more error stopped trees fits =
      let so_far = along.opens trees fits in
      let step = stopped trees fits in (
        so_far.0 ++ step.0,
        step.1,
        subst (λ (d : Dirs). StopsOpening (EndsBefore ends) trees (path ++ name ∷ rest) (dirs_of root) d (so_far.0 ++ step.0) step.1) (sym top_is)
            (so_far.1.halts (name ∷ rest) (dirs_of next) step.0 step.1
            (halts_stays trees (name ∷ []) (dirs_of here) (dirs_of next) step.0 step.1 step.2 name refl rest)),
        step.3 ∙ ap (λ n. counted n step.0) so_far.2 ∙ counted_append before so_far.0 step.0,
        step.4,
      )

-- an opening that came along the entire path
pub opens_of_end : {objects : Objects} {ends : NotLookedUp} {path : Path} {root here above : Opened} {before count : ℕ}
    → ComesAlong objects ends path root here above before count
    → OfTrees objects (λ trees. (looked_up : List ObjectId)
    × Opens (EndsBefore ends) trees path (dirs_of root) (dirs_of (rebuilt (reverse path) above here)) looked_up × (count ≡ counted before looked_up))
opens_of_end {ends = ends} {path = path} {root} {here} {above} {before} along trees fits =
    let so_far = along.opens trees fits in (
      so_far.0,
      subst (λ (d : Dirs). Opens (EndsBefore ends) trees path (dirs_of root) d so_far.0) (sym (top_is along here))
          (subst (λ (p : Path). Opens (EndsBefore ends) trees p (dirs_of root)
          (with_path path (dirs_of here) (dirs_of (rebuilt (reverse path) above here))) so_far.0) (append-nil path)
          (subst (λ (l : List ObjectId). Opens (EndsBefore ends) trees (path ++ []) (dirs_of root)
          (with_path path (dirs_of here) (dirs_of (rebuilt (reverse path) above here))) l) (append-nil so_far.0)
          (so_far.1.opens [] (dirs_of here) [] (arrived (dirs_of here))))),
      so_far.2,
    )

-- the names of a path, with one in the middle
pub names_of_middle : (path : List BString) (k : ℕ) (name : BString) → k < length path → name ≡ get_or path k name
    → names_of path ≡ names_of (take k path) ++ bstring_bytes name ∷ names_of (drop (k + 1) path)
names_of_middle path k name low is =
    names_of_parts path (take (k + 1) path) (drop (k + 1) path) (sym (take-append-drop (k + 1) path))
    ∙ ap (λ (p : Path). p ++ names_of (drop (k + 1) path)) (names_of_take_more path k name low is)
    ∙ append_assoc (names_of (take k path)) (bstring_bytes name ∷ []) (names_of (drop (k + 1) path))
