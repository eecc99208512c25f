-- An opening that stopped with an error has opened the directories before it, counted their lookups, and stopped at the
-- error's directory. The editor's failed calls use it.
use Rattle.std.proofs.Common.{◌≡◌, inl, inr, ℕ, ◌≤◌, true, false, List, [], ◌∷◌, ◌++◌, append_assoc, length, length-append, refl, sym, ap, subst, ◌∙◌, arith}
use Rattle.std.proofs.Common.{Option, Some, None}
use Rattle.std.specs.Prelude.{◌&&◌}
use Rattle.gixobj_tree_entries.specs.Entries.{EntryView}
use Rattle.gixobj_tree_entries.specs.Mode.{is_tree_mode}
use Rattle.gixobj_hash.specs.declared.hash.object_id.ObjectId.{ObjectId}
use Rattle.gixobj_editor_files.specs.Edits.{Finds, IsEntryOf, Opens, arrived, down, first_entry_of, found, only_open, stops}
use Rattle.gixobj_editor_files.specs.Files.{Path, Trees}
use Rattle.gixobj_editor_files.specs.OpeningStops.{StopsOpening, IsAbove, IsNextUnopened, IsEnteredOnPath, IsUnopenedAbove, before_lookup, at_lookup}
use Rattle.gixobj_editor_files.specs.OpeningStops as halting
use Rattle.gixobj_editor_files.specs.Opening.{Dirs, in_dir}
use Rattle.gixobj_editor_files.specs.Unopened.{needs_opening, needs_lookup, needs_tree_lookup, is_unopened, looked_up_entry, unopened_count}
use Rattle.gixobj_editor_files.proofs.UnopenedCounts.{IsIdle, count_found, count_open, count_vain, found_below, lookup_needed, first_entry_of_has_at}
use Rattle.gixobj_editor_files.proofs.UnopenedCounts.{known_open, unopened_found, unopened_here, unopened_nowhere, unopened_open, needs_no_lookup}

-- the id that was looked up without success, if there is one
abbrev pub failed_ids : Option ObjectId → List ObjectId
failed_ids None = []
failed_ids (Some id) = id ∷ []

module _ (trees : Trees) where
  -- a path has a name after each of its directories
  one_more : (rest : Path) (last : List ℕ) (after : Path) → (next : List ℕ) × (more : Path) × (rest ++ last ∷ after ≡ next ∷ more)
  one_more [] last after = (last, after, refl)
  one_more (next ∷ rest) last after = (next, rest ++ last ∷ after, refl)

  -- the next unopened directory in an open directory, or in one that is opened, is the next after its name
  next_open : (name : List ℕ) (d : Dirs) (entries : List EntryView) → d (name ∷ []) ≡ Some entries → (prefix more : Path) (id : ObjectId)
      → IsNextUnopened trees (in_dir name d) prefix more id → IsNextUnopened trees d (name ∷ prefix) more id
  next_open name d entries there prefix more id (next, rest, e, is, unopened, seen, named) =
      let remaining = one_more prefix next [] in (
        next,
        rest,
        e,
        is,
        subst (λ q. is_unopened trees d (name ∷ q) ≡ true) (sym remaining.2) (unopened_open trees name remaining.0 remaining.1 d entries there
            ∙ subst (λ q. is_unopened trees (in_dir name d) q ≡ true) remaining.2 unopened),
        subst (λ q. looked_up_entry trees (name ∷ q) d ≡ Some e) (sym remaining.2) (known_open trees name remaining.0 remaining.1 d entries there
            ∙ subst (λ q. looked_up_entry trees q (in_dir name d) ≡ Some e) remaining.2 seen),
        named,
      )

  next_found : (name : List ℕ) (d : Dirs) (e : EntryView) (entries : List EntryView) (requests : List ObjectId) → IsEntryOf name (d []) e
      → is_tree_mode e.mode ≡ true → ((path : Path) → d (name ∷ path) ≡ None) → Finds trees e.id entries requests
      → (prefix more : Path) (id : ObjectId) → IsNextUnopened trees (only_open entries) prefix more id → IsNextUnopened trees d (name ∷ prefix) more id
  next_found name d e entries requests entry tree none finds prefix more id (next, rest, it, is, unopened, seen, named) =
      let remaining = one_more prefix next [] in (
        next,
        rest,
        it,
        is,
        subst (λ q. is_unopened trees d (name ∷ q) ≡ true) (sym remaining.2)
            (unopened_found trees name remaining.0 remaining.1 d e entries requests entry tree none finds
            ∙ subst (λ q. is_unopened trees (only_open entries) q ≡ true) remaining.2 unopened),
        subst (λ q. looked_up_entry trees (name ∷ q) d ≡ Some it) (sym remaining.2)
            (found_below trees name remaining.0 remaining.1 d e entries requests entry tree (none []) finds
            ∙ subst (λ q. looked_up_entry trees q (only_open entries) ≡ Some it) remaining.2 seen),
        named,
      )

  -- before the error the directories of a prefix of the path were opened, and the one more id that was looked up, if any, is that of the failed lookup
  pub halts_opens : {StopsBefore : EntryView → Type 0} (path : Path) (old new : Dirs) (looked_up : List ObjectId) (failed_lookup : Option ObjectId)
      → StopsOpening StopsBefore trees path old new looked_up failed_lookup
      → (prefix back : Path) × (answered tried : List ObjectId) × (path ≡ prefix ++ back) × Opens StopsBefore trees prefix old new answered
      × (looked_up ≡ answered ++ tried) × (tried ≡ failed_ids failed_lookup)
      × ((it : ObjectId) → tried ≡ it ∷ [] → IsNextUnopened trees old prefix back it)
  halts_opens path old new looked_up failed_lookup (before_lookup name rest d e entry tree free none idle) =
      ([], name ∷ rest, [], [], refl, arrived d, refl, refl, λ it is. absurd (cc is))
  halts_opens path old new looked_up failed_lookup (at_lookup name rest d e entry tree free none filled) = (
    [],
    name ∷ rest,
    [],
    e.id ∷ [],
    refl,
    arrived d,
    refl,
    refl,
    λ it is. (
      name,
      rest,
      e,
      refl,
      unopened_here trees name d e entry tree (none []) ∙ lookup_needed e.id filled,
      first_entry_of_has_at name (d []) e entry,
      cc is,
    ),
  )
  halts_opens path old new looked_up failed_lookup (halting.down name rest d inner e entries more v has named is halts) =
      let r = halts_opens rest (in_dir name d) inner more v halts in (
        name ∷ r.0,
        r.1,
        r.2,
        r.3,
        ap (λ p. name ∷ p) r.4,
        down name r.0 d inner e entries r.2 has named is r.5,
        r.6,
        r.7,
        λ it tried. next_open name d entries is r.0 r.1 it (r.8 it tried),
      )
  halts_opens path old new looked_up failed_lookup (halting.found name rest d inner e entries first more v entry tree free none finds halts) =
      let r = halts_opens rest (only_open entries) inner more v halts in (
        name ∷ r.0,
        r.1,
        first ++ r.2,
        r.3,
        ap (λ p. name ∷ p) r.4,
        found name r.0 d inner e entries first r.2 entry tree free none finds r.5,
        ap (λ ids. first ++ ids) r.6 ∙ sym (append_assoc first r.2 r.3),
        r.7,
        λ it tried. next_found name d e entries first entry tree none finds r.0 r.1 it (r.8 it tried),
      )

  -- an opening stops before a directory of its path; if this isn't open and would be looked up, its lookup is the one that failed
  pub halts_next : {StopsBefore : EntryView → Type 0} (path : Path) (old new : Dirs) (looked_up : List ObjectId) (failed_lookup : Option ObjectId)
      → StopsOpening StopsBefore trees path old new looked_up failed_lookup
      → (prefix : Path) × (next : List ℕ) × (rest : Path) × (answered : List ObjectId) × (path ≡ prefix ++ next ∷ rest)
      × Opens StopsBefore trees prefix old new answered × (looked_up ≡ answered ++ failed_ids failed_lookup)
      × ((e : EntryView) → is_unopened trees old (prefix ++ next ∷ []) ≡ true → looked_up_entry trees (prefix ++ next ∷ []) old ≡ Some e
      → failed_ids failed_lookup ≡ e.id ∷ [])
  halts_next path old new looked_up failed_lookup (before_lookup name rest d e entry tree free none idle) = (
    [],
    name,
    rest,
    [],
    refl,
    arrived d,
    refl,
    λ it unopened seen. absurd (let bad : true ≡ false =
        sym unopened ∙ unopened_here trees name d e entry tree (none []) ∙ needs_no_lookup e.id idle in cc bad),
  )
  halts_next path old new looked_up failed_lookup (at_lookup name rest d e entry tree free none filled) = (
    [],
    name,
    rest,
    [],
    refl,
    arrived d,
    refl,
    λ it unopened seen. let here = first_entry_of_has_at name (d []) e entry in let same : e ≡ it = cc (here, seen) in ap (λ (x : EntryView). x.id ∷ []) same,
  )
  halts_next path old new looked_up failed_lookup (halting.down name rest d inner e entries more v has named is halts) =
      let r = halts_next rest (in_dir name d) inner more v halts in
      let remaining = one_more r.0 r.1 [] in (
        name ∷ r.0,
        r.1,
        r.2,
        r.3,
        ap (λ p. name ∷ p) r.4,
        down name r.0 d inner e entries r.3 has named is r.5,
        r.6,
        λ it unopened seen. r.7 it
            (subst (λ q. is_unopened trees (in_dir name d) q ≡ true) (sym remaining.2) (sym (unopened_open trees name remaining.0 remaining.1 d entries is)
            ∙ subst (λ q. is_unopened trees d (name ∷ q) ≡ true) remaining.2 unopened))
            (subst (λ q. looked_up_entry trees q (in_dir name d) ≡ Some it) (sym remaining.2) (sym (known_open trees name remaining.0 remaining.1 d entries is)
            ∙ subst (λ q. looked_up_entry trees (name ∷ q) d ≡ Some it) remaining.2 seen)),
      )
  halts_next path old new looked_up failed_lookup (halting.found name rest d inner e entries first more v entry tree free none finds halts) =
      let r = halts_next rest (only_open entries) inner more v halts in
      let remaining = one_more r.0 r.1 [] in (
        name ∷ r.0,
        r.1,
        r.2,
        first ++ r.3,
        ap (λ p. name ∷ p) r.4,
        found name r.0 d inner e entries first r.3 entry tree free none finds r.5,
        ap (λ ids. first ++ ids) r.6 ∙ sym (append_assoc first r.3 (failed_ids v)),
        λ it unopened seen. r.7 it
            (subst (λ q. is_unopened trees (only_open entries) q ≡ true) (sym remaining.2)
            (sym (unopened_found trees name remaining.0 remaining.1 d e entries first entry tree none finds)
            ∙ subst (λ q. is_unopened trees d (name ∷ q) ≡ true) remaining.2 unopened))
            (subst (λ q. looked_up_entry trees q (only_open entries) ≡ Some it) (sym remaining.2)
            (sym (found_below trees name remaining.0 remaining.1 d e entries first entry tree (none []) finds)
            ∙ subst (λ q. looked_up_entry trees (name ∷ q) d ≡ Some it) remaining.2 seen)),
      )

  -- an opening that stopped looked up at most as many ids as there are unopened directories
  pub halted_count : {StopsBefore : EntryView → Type 0} (path : Path) (last : List ℕ) (after : Path) (old new : Dirs) (looked_up : List ObjectId)
      (failed_lookup : Option ObjectId) → StopsOpening StopsBefore trees path old new looked_up failed_lookup → length looked_up ≤ unopened_count trees old
      (path ++ last ∷ after)
  halted_count path last after old new looked_up failed_lookup (before_lookup name rest d e entry tree free none idle) = omega arith
  halted_count path last after old new looked_up failed_lookup (at_lookup name rest d e entry tree free none filled) =
      count_vain trees name rest last after d e entry tree (none []) filled
  halted_count path last after old new looked_up failed_lookup (halting.down name rest d inner e entries more v has named is halts) =
      omega (arith, count_open trees name rest last after d entries is, halted_count rest last after (in_dir name d) inner more v halts)
  halted_count path last after old new looked_up failed_lookup (halting.found name rest d inner e entries first more v entry tree free none finds halts) =
      omega (
        arith,
        length-append first more,
        count_found trees name rest last after d e entries first entry tree none finds,
        halted_count rest last after
            (only_open entries) inner more v halts,
      )

  above_more : (name : List ℕ) (parent path : Path) → IsAbove parent path → IsAbove (name ∷ parent) (name ∷ path)
  above_more name parent path (first, more, next, rest, is, joined) = (name, parent, next, rest, refl, ap (λ p. name ∷ p) joined)

  -- an unopened directory in an open directory, or in one that is opened, is one above the path
  abbrev in_open : (name : List ℕ) (path : Path) (d : Dirs) (entries : List EntryView) → d (name ∷ []) ≡ Some entries → (it : ObjectId)
      → IsUnopenedAbove trees (in_dir name d) path it → IsUnopenedAbove trees d (name ∷ path) it
  in_open name path d entries there it h =
      let at = h.above in
      record {
        parent = name ∷ h.parent;
        entry = h.entry;
        above = above_more name h.parent path h.above;
        unopened = subst (λ q. is_unopened trees d (name ∷ q) ≡ true) (sym at.4)
            (unopened_open trees name at.0 at.1 d entries there ∙ subst (λ q. is_unopened trees (in_dir name d) q ≡ true) at.4 h.unopened);
        yielded = subst (λ q. looked_up_entry trees (name ∷ q) d ≡ Some h.entry) (sym at.4)
            (known_open trees name at.0 at.1 d entries there ∙ subst (λ q. looked_up_entry trees q (in_dir name d) ≡ Some h.entry) at.4 h.yielded);
        named = h.named;
      }

  abbrev in_found : (name : List ℕ) (path : Path) (d : Dirs) (e : EntryView) (entries : List EntryView) (requests : List ObjectId)
      → IsEntryOf name (d []) e
      → is_tree_mode e.mode ≡ true → ((path : Path) → d (name ∷ path) ≡ None) → Finds trees e.id entries requests
      → (it : ObjectId) → IsUnopenedAbove trees (only_open entries) path it → IsUnopenedAbove trees d (name ∷ path) it
  in_found name path d e entries requests entry tree none finds it h =
      let at = h.above in
      record {
        parent = name ∷ h.parent;
        entry = h.entry;
        above = above_more name h.parent path h.above;
        unopened = subst (λ q. is_unopened trees d (name ∷ q) ≡ true) (sym at.4)
            (unopened_found trees name at.0 at.1 d e entries requests entry tree none finds
            ∙ subst (λ q. is_unopened trees (only_open entries) q ≡ true) at.4 h.unopened);
        yielded = subst (λ q. looked_up_entry trees (name ∷ q) d ≡ Some h.entry) (sym at.4)
            (found_below trees name at.0 at.1 d e entries requests entry tree (none []) finds
            ∙ subst (λ q. looked_up_entry trees q (only_open entries) ≡ Some h.entry) at.4 h.yielded);
        named = h.named;
      }

  -- an opening stops at an unopened directory on the path
  pub halted_at : {StopsBefore : EntryView → Type 0} (path : Path) (last : List ℕ) (after : Path) (old new : Dirs) (looked_up : List ObjectId)
      (failed_lookup : Option ObjectId)
      → StopsOpening StopsBefore trees path old new looked_up failed_lookup → (it : ObjectId) → failed_lookup ≡ Some it
      → (h : IsUnopenedAbove trees old (path ++ last ∷ after) it) × (rest : Path) × (path ≡ h.parent ++ rest)
  halted_at path last after old new looked_up failed_lookup (before_lookup name rest d e entry tree free none idle) it is = absurd (cc is)
  halted_at path last after old new looked_up failed_lookup (at_lookup name rest d e entry tree free none filled) it is =
      let remaining = one_more rest last after in (
        record {
          parent = name ∷ [];
          entry = e;
          above = (name, [], remaining.0, remaining.1, refl, ap (λ p. name ∷ p) remaining.2);
          unopened = unopened_here trees name d e entry tree (none []) ∙ lookup_needed e.id filled;
          yielded = first_entry_of_has_at name (d []) e entry;
          named = cc is;
        },
        rest,
        refl,
      )
  halted_at path last after old new looked_up failed_lookup (halting.down name rest d inner e entries more v has named there halts) it is =
      let below = halted_at rest last after (in_dir name d) inner more v halts it is in
      (in_open name (rest ++ last ∷ after) d entries there it below.0, below.1, ap (λ p. name ∷ p) below.2)
  halted_at path last after old new looked_up failed_lookup (halting.found name rest d inner e entries first more v entry tree free none finds halts) it is =
      let below = halted_at rest last after (only_open entries) inner more v halts it is in
      (in_found name (rest ++ last ∷ after) d e entries first entry tree none finds it below.0, below.1, ap (λ p. name ∷ p) below.2)

  not_open_here : {StopsBefore : EntryView → Type 0} (name : List ℕ) (rest : Path) (last : List ℕ) (after : Path) (d : Dirs) (e : EntryView)
      → IsEntryOf name (d []) e
      → is_tree_mode e.mode ≡ true → (StopsBefore e → ⊥) → ((path : Path) → d (name ∷ path) ≡ None)
      → IsEnteredOnPath StopsBefore trees d (name ∷ (rest ++ last ∷ after))
  not_open_here name rest last after d e entry tree free none =
      let remaining = one_more rest last after in
      record {
        parent = name ∷ [];
        entry = e;
        above = (name, [], remaining.0, remaining.1, refl, ap (λ p. name ∷ p) remaining.2);
        not_open = none [];
        yielded = first_entry_of_has_at name (d []) e entry;
        tree = tree;
        free = free;
      }

  -- an opening stops at a directory that isn't open
  pub halted_unopened : {StopsBefore : EntryView → Type 0} (path : Path) (last : List ℕ) (after : Path) (old new : Dirs) (looked_up : List ObjectId)
      (failed_lookup : Option ObjectId) → StopsOpening StopsBefore trees path old new looked_up failed_lookup
      → IsEnteredOnPath StopsBefore trees old (path ++ last ∷ after)
  halted_unopened path last after old new looked_up failed_lookup (before_lookup name rest d e entry tree free none idle) =
      not_open_here name rest last after d e entry tree free none
  halted_unopened path last after old new looked_up failed_lookup (at_lookup name rest d e entry tree free none filled) =
      not_open_here name rest last after d e entry tree free none
  halted_unopened path last after old new looked_up failed_lookup (halting.down name rest d inner e entries more v has named there halts) =
      let h = halted_unopened rest last after (in_dir name d) inner more v halts in
      let at = h.above in
      record {
        parent = name ∷ h.parent;
        entry = h.entry;
        above = above_more name h.parent (rest ++ last ∷ after) h.above;
        not_open = h.not_open;
        yielded = subst (λ q. looked_up_entry trees (name ∷ q) d ≡ Some h.entry) (sym at.4)
            (known_open trees name at.0 at.1 d entries there ∙ subst (λ q. looked_up_entry trees q (in_dir name d) ≡ Some h.entry) at.4 h.yielded);
        tree = h.tree;
        free = h.free;
      }
  halted_unopened path last after old new looked_up failed_lookup (halting.found name rest d inner e entries first more v entry tree free none finds halts) =
      let h = halted_unopened rest last after (only_open entries) inner more v halts in
      let at = h.above in
      record {
        parent = name ∷ h.parent;
        entry = h.entry;
        above = above_more name h.parent (rest ++ last ∷ after) h.above;
        not_open = none h.parent;
        yielded = subst (λ q. looked_up_entry trees (name ∷ q) d ≡ Some h.entry) (sym at.4)
            (found_below trees name at.0 at.1 d e entries first entry tree (none []) finds
            ∙ subst (λ q. looked_up_entry trees q (only_open entries) ≡ Some h.entry)
            at.4 h.yielded);
        tree = h.tree;
        free = h.free;
      }

  -- after an opening without an error the store has the tree of each unopened directory on the path
  same_head : (x y : List ℕ) (xs ys : Path) → x ∷ xs ≡ y ∷ ys → x ≡ y
  same_head x y xs ys is = cc is

  same_tail : (x y : List ℕ) (xs ys : Path) → x ∷ xs ≡ y ∷ ys → xs ≡ ys
  same_tail x y xs ys is = cc is

  one_known : (x y : EntryView) (o : Option EntryView) → o ≡ Some x → o ≡ Some y → x ≡ y
  one_known x y o p q = cc (p, q)

  known_one : (it : ObjectId) (entries : List EntryView) (first : List ObjectId) → Finds trees it entries first → needs_lookup it ≡ true
      → trees it ≡ Some entries
  known_one it entries first (formed, inl (empty, nothing, none)) is = absurd (let bad : true ≡ false = sym is ∙ needs_no_lookup it empty in cc bad)
  known_one it entries first (formed, inr (filled, named, requests)) is = named

  pub opens_known : {StopsBefore : EntryView → Type 0} → IsIdle StopsBefore → (path : Path) (old new : Dirs) (looked_up : List ObjectId)
      → Opens StopsBefore trees path old new looked_up → (first : List ℕ) (more rest : Path) → path ≡ (first ∷ more) ++ rest
      → is_unopened trees old (first ∷ more) ≡ true → (entry : EntryView) → looked_up_entry trees (first ∷ more) old ≡ Some entry
      → (entries : List EntryView)
      × (trees entry.id ≡ Some entries)
  opens_known idle path old new looked_up (arrived d) first more rest joined unopened entry seen = absurd (cc joined)
  opens_known idle path old new looked_up (stops name after d other none) first more rest joined unopened entry seen =
      let same = same_head name first _ _ joined in
      absurd (let bad : true ≡ false = sym unopened ∙ subst (λ n. is_unopened trees d (n ∷ more) ≡ false) same
      (unopened_nowhere trees name more d (λ e h n. idle e (other e h n)) none) in cc bad)
  opens_known idle path old new looked_up (down name after d inner e entries requested_more has named is opens) first
      [] rest joined unopened entry seen =
      let same = same_head name first _ _ joined in
      absurd (let bad : true ≡ false = sym unopened ∙ subst (λ n. is_unopened trees d (n ∷ []) ≡ false) same
      (ap (λ o. needs_opening o && needs_tree_lookup (first_entry_of name (d []))) is) in cc bad)
  opens_known idle path old new looked_up (down name after d inner e entries requested_more has named is opens) first
      (second ∷ more) rest joined unopened entry seen =
      let same = same_head name first _ _ joined in
      let there : d (first ∷ []) ≡ Some entries = subst (λ n. d (n ∷ []) ≡ Some entries) same is in
      opens_known idle after (in_dir name d) inner requested_more opens second more rest (same_tail name first _ _ joined)
      (subst (λ n. is_unopened trees (in_dir n d) (second ∷ more) ≡ true) (sym same)
      (sym (unopened_open trees first second more d entries there) ∙ unopened))
      entry
      (subst (λ n. looked_up_entry trees (second ∷ more) (in_dir n d) ≡ Some entry) (sym same)
      (sym (known_open trees first second more d entries there) ∙ seen))
  opens_known idle path old new looked_up (found name after d inner e entries requests requested_more own tree free none finds opens) first
      [] rest joined unopened entry seen =
      let same = same_head name first _ _ joined in
      let here : first_entry_of name (d []) ≡ Some entry = subst (λ n. first_entry_of n (d []) ≡ Some entry) (sym same) seen in
      let it : e ≡ entry = one_known e entry (first_entry_of name (d [])) (first_entry_of_has_at name (d []) e own) here in
      let requested_for : needs_lookup e.id ≡ true = sym (unopened_here trees name d e own tree (none []))
      ∙ subst (λ n. is_unopened trees d (n ∷ []) ≡ true)
      (sym same) unopened in
      (entries, ap (λ (x : EntryView). trees x.id) (sym it) ∙ known_one e.id entries requests finds requested_for)
  opens_known idle path old new looked_up (found name after d inner e entries requests requested_more own tree free none finds opens) first
      (second ∷ more) rest joined unopened entry seen =
      let same = same_head name first _ _ joined in
      opens_known idle after (only_open entries) inner requested_more opens second more rest (same_tail name first _ _ joined)
      (sym (unopened_found trees name second more d e entries requests own tree none finds)
      ∙ subst (λ n. is_unopened trees d (n ∷ second ∷ more) ≡ true)
      (sym same) unopened) entry
      (sym (found_below trees name second more d e entries requests own tree (none []) finds)
      ∙ subst (λ n. looked_up_entry trees (n ∷ second ∷ more) d ≡ Some entry) (sym same) seen)
