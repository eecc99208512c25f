-- An opening of a path is an opening of its first directory and one of the rest below it: for `open_along` and the
-- other calls that take a path, and for the editor's openings.
use Rattle.std.proofs.Common.{◌≡◌, ◌≢◌, inl, inr, ◌∙◌, ◌≤◌, ℕ, Bool, true, false, cond, List, [], ◌∷◌, ◌++◌, Option, Some, None, length, length-append, refl}
use Rattle.std.proofs.Common.{sym, ap, subst, arith}
use Rattle.std.specs.Prelude.{◌&&◌, IfNone}
use Rattle.std.proofs.lemmas.Bool.{and_parts}
use Rattle.std.specs.Option.{option_copied}
use denote.Ref.{Bor}
use Rattle.std.specs.List.{AllByRecursion, find}
use Rattle.std.specs.Cmp.Lexicographic.{bytes_decides}
use Rattle.gixobj_tree_entries.specs.Entries.{EntryView}
use Rattle.gixobj_tree.specs.WellFormed.{EachLater, IsWellFormed}
use Rattle.gixobj_tree_entries.specs.Mode.{is_tree_mode}
use Rattle.gixobj_hash.specs.declared.hash.object_id.ObjectId.{ObjectId}
use Rattle.gixobj_editor_files.specs.Editing.{same_name}
use Rattle.gixobj_editor_files.specs.Edits.{Finds, IsEntryOf, Opens, counted, down, found, only_open, raised, stops, with_dir}
use Rattle.gixobj_editor_files.specs.Files.{ContainsEntry, Path, Trees}
use Rattle.gixobj_editor_open.specs.Nested.{IsLevel, Opened, Part, dirs_of, in_part, opened, parts, with_part}
use Rattle.gixobj_editor_files.specs.OpeningStops.{StopsOpening, before_lookup, at_lookup}
use Rattle.gixobj_editor_files.specs.OpeningStops as halting
use Rattle.gixobj_editor_files.specs.Opening.{Dirs, HasAt, IsOpened, in_dir}
use Rattle.gixobj_editor_files.specs.Tables.{IsNeverLookedUp}
use Rattle.gixobj_editor_lookups.specs.Openings.{EndsBefore}
use Rattle.gixobj_editor_open.specs.declared.open.Child.{Child}
use Rattle.gixobj_editor_lookups.specs.declared.opening.NotLookedUp.{NotLookedUp}
use Rattle.gixobj_editor_lookups.specs.declared.opening.NotLookedUp.TheVariants as not_looked_up
use Rattle.gixobj_editor_files.proofs.Counts.{raised_raised}
use Rattle.gixobj_editor_files.proofs.UnopenedCounts.{IsIdle}
use Rattle.gixobj_editor_files.proofs.StillOpenedOpenings.{is_opened_in_dir, is_opened_of_only, is_opened_with_dir}
use Rattle.gixobj_editor_files.proofs.HasTrees.{entry_of_has_tree, has_tree_of_entry}
use Rattle.gixobj_editor_open.proofs.Levels.{IsChanged, IsChild, dirs_of_opened_cons, child_has_tree, is_level_with_part, is_level_set, becomes_of_with_part}
use Rattle.gixobj_editor_open.proofs.Levels.{becomes_of_set}
use Rattle.gixobj_editor_open.proofs.Levels as levels
use Rattle.gixobj_editor_open.proofs.Steps.{dirs_of_childless, replaced}
use Rattle.gixobj_editor_open.proofs.Ordered.{level_names_apart}

-- an entry differs in its name from those after it
name_ne_of_later : (x : EntryView) (ys : List EntryView) (other : EntryView) → AllByRecursion (λ y. x.name ≢ y.name) ys → ContainsEntry ys other
    → x.name ≢ other.name
name_ne_of_later x [] other h k = absurd k
name_ne_of_later x (y ∷ ys) other h (inl same) = λ q. h.0 (q ∙ ap (λ (z : EntryView). z.name) (sym same))
name_ne_of_later x (y ∷ ys) other h (inr k) = name_ne_of_later x ys other h.1 k

-- the entry is of tree mode, and has the name
abbrev pub is_tree_named : List ℕ → EntryView → Bool
is_tree_named name e = same_name e.name name && is_tree_mode e.mode

-- the first entry of tree mode of a name is the only one of that name
pub is_entry_of_first_tree : (name : List ℕ) (es : List EntryView) (e : EntryView) → find (is_tree_named name) es ≡ Some e
    → EachLater (λ x y. x.name ≢ y.name) es → IsEntryOf name (Some es) e × (is_tree_mode e.mode ≡ true)
is_entry_of_first_tree name [] e is apart = absurd (cc is)
is_entry_of_first_tree name (x ∷ xs) e is apart =
    elim (is_tree_named name x) as (λ b. is_tree_named name x ≡ b → cond b (Some x) (find (is_tree_named name) xs) ≡ Some e
    → IsEntryOf name (Some (x ∷ xs)) e × (is_tree_mode e.mode ≡ true)) [
      | true ↦ λ passes k.
          let same : x ≡ e = cc k in
          let both = and_parts _ _ passes in
          let named : x.name ≡ name = (bytes_decides x.name name).0 both.0 in (
            (inl same, ap (λ (y : EntryView). y.name) (sym same) ∙ named, λ other h n. only_first other h n same named),
            ap (λ (y : EntryView). is_tree_mode y.mode) (sym same) ∙ both.1,
          )
      | false ↦ λ fails k.
          let rest = is_entry_of_first_tree name xs e k apart.1 in ((inr rest.0.0, rest.0.1, λ other h n. later other h n rest.0), rest.1)
    ] refl is
  where
    only_first : (other : EntryView) → ContainsEntry (x ∷ xs) other → other.name ≡ name → x ≡ e → x.name ≡ name → other ≡ e
    only_first other (inl same) n is_e named = sym same ∙ is_e
    only_first other (inr k) n is_e named = absurd (name_ne_of_later x xs other apart.0 k (named ∙ sym n))

    later : (other : EntryView) → ContainsEntry (x ∷ xs) other → other.name ≡ name → IsEntryOf name (Some xs) e → other ≡ e
    later other (inl same) n rest = absurd (name_ne_of_later x xs e apart.0 rest.0 (ap (λ (z : EntryView). z.name) same ∙ n ∙ sym rest.1))
    later other (inr k) n rest = rest.2 other k n

second_of_false_and : (a b : Bool) → a ≡ true → (a && b) ≡ false → b ≡ false
second_of_false_and true b holds fails = fails
second_of_false_and false b holds fails = absurd (cc holds)

-- no entry of a name is of tree mode
pub is_tree_false_of_none : (name : List ℕ) (es : List EntryView) → find (is_tree_named name) es ≡ None → (e : EntryView) → ContainsEntry es e
    → e.name ≡ name → is_tree_mode e.mode ≡ false
is_tree_false_of_none name [] is e h named = absurd h
is_tree_false_of_none name (x ∷ xs) is e h named =
    elim (is_tree_named name x) as (λ b. is_tree_named name x ≡ b → cond b (Some x) (find (is_tree_named name) xs) ≡ None → is_tree_mode e.mode ≡ false) [
      | true ↦ λ passes k. absurd (cc k)
      | false ↦ λ fails k. here h fails (λ l. is_tree_false_of_none name xs k e l named)
    ] refl is
  where
    here : ContainsEntry (x ∷ xs) e → is_tree_named name x ≡ false → (ContainsEntry xs e → is_tree_mode e.mode ≡ false) → is_tree_mode e.mode ≡ false
    here (inl same) fails k = ap (λ (y : EntryView). is_tree_mode y.mode) (sym same)
        ∙ second_of_false_and (same_name x.name name) (is_tree_mode x.mode)
        ((bytes_decides x.name name).1 (ap (λ (y : EntryView). y.name) same ∙ named)) fails
    here (inr l) fails k = k l

pub counted_append : (n : ℕ) (first looked_up : List ObjectId) → counted (counted n first) looked_up ≡ counted n (first ++ looked_up)
counted_append n first looked_up =
    raised_raised n (length first) (length looked_up) ∙ ap (λ k. raised n k) (sym (length-append first looked_up))

pub requested_len_le_one : (trees : Trees) (id : ObjectId) (entries : List EntryView) (looked_up : List ObjectId) → Finds trees id entries looked_up
    → length looked_up ≤ 1
requested_len_le_one trees id entries looked_up (formed, inl h) = subst (λ (l : List ObjectId). length l ≤ 1) (sym h.2) (omega arith)
requested_len_le_one trees id entries looked_up (formed, inr h) = subst (λ (l : List ObjectId). length l ≤ 1) (sym h.2) (omega arith)

-- a relation in the directory of a name holds in the directory above it
abbrev pub GoesDown : (Path → Dirs → Dirs → List ObjectId → Type 0) → Type 0
GoesDown R =
    (name : List ℕ) (rest : Path) (dirs inner : Dirs) (e : EntryView) (entries : List EntryView) (looked_up : List ObjectId) → HasAt (dirs []) e
    → e.name ≡ name
    → dirs (name ∷ []) ≡ Some entries
    → R rest (in_dir name dirs) inner looked_up → R (name ∷ rest) dirs (with_dir name inner dirs) looked_up

-- a relation in a directory that is opened with a fitting list holds in the directory above it
abbrev pub GoesIn : (EntryView → List EntryView → List ObjectId → Type 0) → (Path → Dirs → Dirs → List ObjectId → Type 0) → Type 0
GoesIn Fits R =
    (name : List ℕ) (rest : Path) (dirs inner : Dirs) (e : EntryView) (entries : List EntryView) (first looked_up : List ObjectId)
    → IsEntryOf name (dirs []) e
    → is_tree_mode e.mode ≡ true → ((path : Path) → dirs (name ∷ path) ≡ None)
    → Fits e entries first → R rest (only_open entries) inner looked_up → R (name ∷ rest) dirs (with_dir name inner dirs) (first ++ looked_up)

pub opens_stopped_at_child : {StopsBefore : EntryView → Type 0} (trees : Trees) (es : List EntryView) (ps : List Part) → IsLevel es ps
    → (name : List ℕ) (rest : Path)
    → ((path : Path) → in_part name ps path ≡ None) → ((e : EntryView) → ContainsEntry es e → e.name ≡ name → StopsBefore e)
    → Opens StopsBefore trees (name ∷ rest) (dirs_of (opened es [] ps)) (dirs_of (opened es [] ps)) []
opens_stopped_at_child trees es ps level name rest none other = stops name rest (dirs_of (opened es [] ps)) other
    (λ path. dirs_of_opened_cons es [] ps name path (level_names_apart level) ∙ none path)

module _ (Fits : EntryView → List EntryView → List ObjectId → Type 0) (R : Path → Dirs → Dirs → List ObjectId → Type 0) (goes_down : GoesDown R)
    (goes_in : GoesIn Fits R) (es : List EntryView) where
  pub down_step : {cs new : List Child} {name : List ℕ} {i : ℕ} {child next : Child} → IsChild name cs i child → IsChanged cs new i child next
      → IsLevel es (parts cs) → (rest : Path) (entries : List EntryView) → dirs_of child.open [] ≡ Some entries → (looked_up : List ObjectId)
      → R rest (dirs_of child.open) (dirs_of next.open) looked_up
      → R (name ∷ rest) (dirs_of (opened es [] (parts cs))) (dirs_of (opened es [] (parts new))) looked_up
  down_step {cs} {new} {name} {i} {child} {next} here now level rest entries root looked_up opens =
      let old : Dirs = dirs_of (opened es [] (parts cs)) in
      let e = entry_of_has_tree name es (child_has_tree es here level.above) in
      let inside : in_dir name old ≡ dirs_of child.open =
      λ j path. (dirs_of_opened_cons es [] (parts cs) name path (level_names_apart level) ∙ levels.in_part_of_child here path) j in
      let new_is : dirs_of (opened es [] (parts new)) ≡ with_dir name (dirs_of next.open) old =
      λ j path. replaced (opened es [] (parts cs)) es es
      (parts cs) (parts new) refl (level_names_apart level) (level_names_apart (is_level_set here now level)) name
      (dirs_of next.open)
      (becomes_of_set here now) refl path j in
      subst (λ (d : Dirs). R (name ∷ rest) old d looked_up) (sym new_is)
      (goes_down name rest old (dirs_of next.open) e.0 entries looked_up e.1 e.2 (ap (λ (d : Dirs). d []) inside ∙ root)
      (subst (λ (d : Dirs). R rest d (dirs_of next.open) looked_up) (sym inside) opens))

  pub found_step : (ps : List Part) → IsLevel es ps → (name : List ℕ) (rest : Path) → AllByRecursion (λ p. p.0 ≢ name) ps
      → ((path : Path) → in_part name ps path ≡ None) → (e : EntryView) → IsEntryOf name (Some es) e → is_tree_mode e.mode ≡ true
      → (entries : List EntryView) (first looked_up : List ObjectId) → Fits e entries first → (inner : Opened)
      → R rest (dirs_of (opened entries [] [])) (dirs_of inner) looked_up
      → R (name ∷ rest) (dirs_of (opened es [] ps)) (dirs_of (opened es [] (with_part (name, inner) ps))) (first ++ looked_up)
  found_step ps level name rest others none e entry tree entries first looked_up finds inner opens =
      let old : Dirs = dirs_of (opened es [] ps) in
      let more = is_level_with_part name inner es ps (has_tree_of_entry name es e entry.0 entry.1 tree) level in
      let new_is : dirs_of (opened es [] (with_part (name, inner) ps)) ≡ with_dir name (dirs_of inner) old =
      λ j path. replaced (opened es [] ps) es es ps
      (with_part (name, inner) ps) refl (level_names_apart level) (level_names_apart more) name (dirs_of inner)
      (becomes_of_with_part name inner ps others) refl path j in
      subst (λ (d : Dirs). R (name ∷ rest) old d (first ++ looked_up)) (sym new_is)
      (goes_in name rest old (dirs_of inner) e entries first looked_up entry tree (λ path. dirs_of_opened_cons es [] ps name path (level_names_apart level)
      ∙ none path)
      finds
      (subst (λ (d : Dirs). R rest d (dirs_of inner) looked_up) (dirs_of_childless entries) opens))

-- an option that is copied is the option of the copy
pub option_of_copied_some : {X : Type 0} (r : Option (Bor X)) (o : Option X) (x : Bor X) → option_copied r ≡ o → r ≡ Some x → o ≡ Some x.now
option_of_copied_some r o x is some = sym is ∙ ap option_copied some

pub option_of_copied_none : {X : Type 0} (r : Option (Bor X)) (o : Option X) → option_copied r ≡ o → r ≡ None → o ≡ None
option_of_copied_none r o is none = sym is ∙ ap option_copied none

pub if_none_weaken : {X : Type 0} (r : Option X) (P : Type 0) → r ≡ None → P → IfNone r P
if_none_weaken r P is p = subst (λ (o : Option _). IfNone o P) (sym is) p

pub opens_stopped_here : {StopsBefore : EntryView → Type 0} (trees : Trees) (es : List EntryView) (ds : Opened) (path : Path) (name : List ℕ) (rest : Path)
    → path ≡ name ∷ rest
    → (ps : List Part) {base : List EntryView} → opened es base ps ≡ ds → IsLevel es ps → ((at : Path) → in_part name ps at ≡ None)
    → ((e : EntryView) → ContainsEntry es e → e.name ≡ name → StopsBefore e) → Opens StopsBefore trees path (dirs_of ds) (dirs_of ds) []
opens_stopped_here {StopsBefore = StopsBefore} trees es ds path name rest path_is ps view level none other =
    subst (λ p. Opens StopsBefore trees p (dirs_of ds) (dirs_of ds) []) (sym path_is)
    (subst (λ (d : Opened). Opens StopsBefore trees (name ∷ rest) (dirs_of d) (dirs_of d) []) view
    (opens_stopped_at_child trees es ps level name rest none other))

-- the steps for an entire level, and a path that is known by its parts
module _ (Fits : EntryView → List EntryView → List ObjectId → Type 0) (R : Path → Dirs → Dirs → List ObjectId → Type 0) (goes_down : GoesDown R)
    (goes_in : GoesIn Fits R) (es : List EntryView) (ds : Opened) (path : Path) (name : List ℕ) (rest : Path) (path_is : path ≡ name ∷ rest) where
  pub down_in : {cs new : List Child} {base : List EntryView} {i : ℕ} {child next : Child} → IsChild name cs i child → IsChanged cs new i child next
      → opened es base (parts cs) ≡ ds → IsLevel es (parts cs) → (entries : List EntryView) → dirs_of child.open [] ≡ Some entries
      → (looked_up : List ObjectId) → R rest (dirs_of child.open) (dirs_of next.open) looked_up
      → R path (dirs_of ds) (dirs_of (opened es [] (parts new))) looked_up
  down_in {new = new} here now view level entries root looked_up opens =
      subst (λ p. R p (dirs_of ds) (dirs_of (opened es [] (parts new))) looked_up) (sym path_is)
      (subst (λ (d : Opened). R (name ∷ rest) (dirs_of d) (dirs_of (opened es [] (parts new))) looked_up) view
      (down_step Fits R goes_down goes_in es here now level rest entries root looked_up opens))

  pub found_in : (cs : List Child) {base : List EntryView} → opened es base (parts cs) ≡ ds → IsLevel es (parts cs)
      → AllByRecursion (λ p. p.0 ≢ name) (parts cs) → ((at : Path) → in_part name (parts cs) at ≡ None) → (e : EntryView) → IsEntryOf name (Some es) e
      → is_tree_mode e.mode ≡ true
      → (entries : List EntryView) (first looked_up : List ObjectId) → Fits e entries first → (inner : Opened) (new : List Child)
      → parts new ≡ with_part (name, inner) (parts cs) → R rest (dirs_of (opened entries [] [])) (dirs_of inner) looked_up
      → R path (dirs_of ds) (dirs_of (opened es [] (parts new))) (first ++ looked_up)
  found_in cs view level others none e entry tree entries first looked_up finds inner new is opens =
      subst (λ p. R p (dirs_of ds) (dirs_of (opened es [] (parts new))) (first ++ looked_up)) (sym path_is)
      (subst (λ (ps : List Part). R (name ∷ rest) (dirs_of ds) (dirs_of (opened es [] ps)) (first ++ looked_up)) (sym is)
      (subst (λ (d : Opened). R (name ∷ rest) (dirs_of d) (dirs_of (opened es [] (with_part (name, inner) (parts cs)))) (first ++ looked_up)) view
      (found_step Fits R goes_down goes_in es (parts cs) level name rest others none e entry tree entries first looked_up finds inner opens)))

pub is_level_of_new_child : (name : List ℕ) (es : List EntryView) (cs : List Child) → IsLevel es (parts cs) → (e : EntryView)
    → IsEntryOf name (Some es) e → is_tree_mode e.mode ≡ true → (inner : Opened) (new : List Child) → parts new ≡ with_part (name, inner) (parts cs)
    → IsLevel es (parts new)
is_level_of_new_child name es cs level e entry tree inner new is =
    subst (IsLevel es) (sym is) (is_level_with_part name inner es (parts cs) (has_tree_of_entry name es e entry.0 entry.1 tree) level)

-- the list that an entry's directory is opened with
abbrev pub OpensAs : (EntryView → Type 0) → Trees → EntryView → List EntryView → List ObjectId → Type 0
OpensAs StopsBefore trees e entries first = (StopsBefore e → ⊥) × Finds trees e.id entries first

-- an opening ends at most before entries that aren't looked up
pub ends_before_is_idle : (it : NotLookedUp) → IsIdle (EndsBefore it)
ends_before_is_idle not_looked_up.Opened e other = inl other
ends_before_is_idle not_looked_up.Unopened e idle = idle

-- openings, and openings that stop, hold in the directory above
pub opens_goes_down : (StopsBefore : EntryView → Type 0) (trees : Trees) → GoesDown (Opens StopsBefore trees)
opens_goes_down StopsBefore trees name rest dirs inner e entries looked_up has named is opens = down name rest dirs inner e entries looked_up has named is opens

pub opens_goes_in : (StopsBefore : EntryView → Type 0) (trees : Trees) → GoesIn (OpensAs StopsBefore trees) (Opens StopsBefore trees)
opens_goes_in StopsBefore trees name rest dirs inner e entries first looked_up entry tree none finds opens =
    found name rest dirs inner e entries first looked_up entry tree finds.0 none finds.1 opens

abbrev pub HaltsAt : (EntryView → Type 0) → Trees → Option ObjectId → Path → Dirs → Dirs → List ObjectId → Type 0
HaltsAt StopsBefore trees failed_lookup path old new looked_up = StopsOpening StopsBefore trees path old new looked_up failed_lookup

pub halts_at_goes_down : (StopsBefore : EntryView → Type 0) (trees : Trees) (failed_lookup : Option ObjectId)
    → GoesDown (HaltsAt StopsBefore trees failed_lookup)
halts_at_goes_down StopsBefore trees failed_lookup name rest dirs inner e entries looked_up has named is halts =
    halting.down name rest dirs inner e entries looked_up failed_lookup has named is halts

pub halts_at_goes_in : (StopsBefore : EntryView → Type 0) (trees : Trees) (failed_lookup : Option ObjectId)
    → GoesIn (OpensAs StopsBefore trees) (HaltsAt StopsBefore trees failed_lookup)
halts_at_goes_in StopsBefore trees failed_lookup name rest dirs inner e entries first looked_up entry tree none finds halts =
    halting.found name rest dirs inner e entries first looked_up failed_lookup entry tree finds.0 none finds.1 halts

-- an opening that stops at a level leaves the level unchanged
pub stops_opening_here : (StopsBefore : EntryView → Type 0) (trees : Trees) (path : Path) (name : List ℕ) (rest : Path) (es : List EntryView) (ds : Opened)
    (cs new : List Child) → path ≡ name ∷ rest → {base : List EntryView} → opened es base (parts cs) ≡ ds → new ≡ cs
    → (looked_up : List ObjectId) (failed_lookup : Option ObjectId)
    → StopsOpening StopsBefore trees (name ∷ rest) (dirs_of (opened es [] (parts cs))) (dirs_of (opened es [] (parts cs))) looked_up failed_lookup
    → StopsOpening StopsBefore trees path (dirs_of ds) (dirs_of (opened es [] (parts new))) looked_up failed_lookup
stops_opening_here StopsBefore trees path name rest es ds cs new path_is {base} view same looked_up failed_lookup halts =
    subst (λ p. StopsOpening StopsBefore trees p (dirs_of ds) (dirs_of (opened es [] (parts new))) looked_up failed_lookup) (sym path_is)
    (subst (λ (d : Opened). StopsOpening StopsBefore trees (name ∷ rest) (dirs_of ds) (dirs_of d) looked_up failed_lookup)
    (sym (ap (λ (l : List Child). opened es base (parts l)) same ∙ view))
    (subst (λ (d : Opened). StopsOpening StopsBefore trees (name ∷ rest) (dirs_of d) (dirs_of d) looked_up failed_lookup) view halts))

-- an opening stops at a directory that is never looked up if memory runs out
pub stops_opening_for_memory : (StopsBefore : EntryView → Type 0) (trees : Trees) (name : List ℕ) (rest : Path) (es : List EntryView) (cs : List Child)
    → IsLevel es (parts cs)
    → ((at : Path) → in_part name (parts cs) at ≡ None) → (e : EntryView) → IsEntryOf name (Some es) e → is_tree_mode e.mode ≡ true → (StopsBefore e → ⊥)
    → IsNeverLookedUp e.id
    → StopsOpening StopsBefore trees (name ∷ rest) (dirs_of (opened es [] (parts cs))) (dirs_of (opened es [] (parts cs))) [] None
stops_opening_for_memory StopsBefore trees name rest es cs level none e entry tree free idle =
    before_lookup name rest (dirs_of (opened es [] (parts cs))) e entry tree free
    (λ at. dirs_of_opened_cons es [] (parts cs) name at (level_names_apart level) ∙ none at) idle

-- an opening stops at a directory whose tree isn't found
pub stops_opening_not_found : (StopsBefore : EntryView → Type 0) (trees : Trees) (name : List ℕ) (rest : Path) (es : List EntryView) (cs : List Child)
    → IsLevel es (parts cs)
    → ((at : Path) → in_part name (parts cs) at ≡ None) → (e : EntryView) → IsEntryOf name (Some es) e → is_tree_mode e.mode ≡ true → (StopsBefore e → ⊥)
    → (IsNeverLookedUp e.id → ⊥) → StopsOpening StopsBefore trees (name ∷ rest) (dirs_of (opened es [] (parts cs))) (dirs_of (opened es [] (parts cs)))
    (e.id ∷ [])
    (Some e.id)
stops_opening_not_found StopsBefore trees name rest es cs level none e entry tree free filled =
    at_lookup name rest (dirs_of (opened es [] (parts cs))) e entry tree free
    (λ at. dirs_of_opened_cons es [] (parts cs) name at (level_names_apart level) ∙ none at) filled

-- the invariant of open directories holds in the directory above
abbrev pub StaysOpened : Path → Dirs → Dirs → List ObjectId → Type 0
StaysOpened path old new looked_up = IsOpened old → IsOpened new

abbrev pub IsFormedList : EntryView → List EntryView → List ObjectId → Type 0
IsFormedList e entries first = IsWellFormed entries

pub stays_opened_goes_down : GoesDown StaysOpened
stays_opened_goes_down name rest dirs inner e entries looked_up has named is below =
    λ all. is_opened_with_dir name inner dirs (below (is_opened_in_dir name dirs entries is all)) all (all.above [] name entries is)

pub stays_opened_goes_in : GoesIn IsFormedList StaysOpened
stays_opened_goes_in name rest dirs inner e entries first looked_up entry tree none formed below =
    λ all. is_opened_with_dir name inner dirs (below (is_opened_of_only entries formed)) all (e, entry.0, entry.1, tree)

pub is_opened_after_opening : (es : List EntryView) (ds : Opened) (cs new : List Child) {base : List EntryView} → opened es base (parts cs) ≡ ds → new ≡ cs
    → IsOpened (dirs_of ds) → IsOpened (dirs_of (opened es [] (parts new)))
is_opened_after_opening es ds cs new {base} view same all =
    subst (λ (d : Opened). IsOpened (dirs_of d)) (sym (ap (λ (l : List Child). opened es base (parts l)) same ∙ view)) all
