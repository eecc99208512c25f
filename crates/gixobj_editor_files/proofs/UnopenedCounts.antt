-- An opening looks up as many ids as there are unopened directories above the last name of its path: for the editor's
-- counts of lookups.
use Rattle.std.proofs.Common.{◌≡◌, ◌⊎◌, inl, inr, ℕ, ◌+◌, Bool, true, false, not, cond, List, [], ◌∷◌, ◌++◌, length, refl, sym, ap, ◌∙◌, arith, Option, Some}
use Rattle.std.proofs.Common.{None}
use Rattle.std.specs.Prelude.{◌&&◌, ◌≤◌, map}
use Rattle.std.specs.List.{filter, find}
use Rattle.std.specs.Cmp.Lexicographic.{bytes_decides}
use Rattle.std.proofs.lemmas.List.{length-append}
use Rattle.gixobj_tree_entries.specs.Entries.{EntryView}
use Rattle.gixobj_tree_entries.specs.Mode.{is_tree_mode}
use Rattle.gixobj_hash.specs.Hash.{id_bytes, id_kind, id_of}
use Rattle.gixobj_hash.specs.declared.hash.kind.Kind.TheVariants as hash
use Rattle.gixobj_hash.specs.declared.hash.object_id.ObjectId.{ObjectId}
use Rattle.gixobj_hash.specs.declared.hash.object_id.ObjectId.TheVariants as id
use Rattle.gixobj_hash.specs.declared.kind.Kind.TheVariants.{Tree}
use Rattle.gixobj_editor_files.specs.Editing.{same_name}
use Rattle.gixobj_editor_files.specs.Edits.{Finds, IsEntryOf, IsNotLookedUp, Opens, arrived, down, first_entry_of, found, only_open, stops}
use Rattle.gixobj_editor_files.specs.Files.{ContainsEntry, Path, Trees, is_null}
use Rattle.gixobj_editor_files.specs.Opening.{Dirs, HasAt, in_dir}
use Rattle.gixobj_editor_files.specs.Tables.{IsNeverLookedUp}
use Rattle.gixobj_editor_files.specs.Unopened.{is_empty_tree_id, needs_opening, needs_lookup, needs_tree_lookup, is_unopened, list_of, by_openness}
use Rattle.gixobj_editor_files.specs.Unopened.{strict_beginnings, looked_up_entry, entry_in_store, tree_of, unopened_count}

-- the tests of an id agree with the definitions: an id is looked up unless it is null or the empty tree's
eq_of_is_empty_tree_id : (it : ObjectId) → is_empty_tree_id it ≡ true → it ≡ id_of (id_kind it) Tree []
eq_of_is_empty_tree_id (id.Sha1 bytes) is = ap id.Sha1 ((bytes_decides bytes (id_bytes (id_of hash.Sha1 Tree []))).0 is)
eq_of_is_empty_tree_id (id.Sha256 bytes) is = ap id.Sha256 ((bytes_decides bytes (id_bytes (id_of hash.Sha256 Tree []))).0 is)

pub not_null_and_not_empty_of_lookup : (it : ObjectId) → (IsNeverLookedUp it → ⊥) → (is_null it ≡ false) × (is_empty_tree_id it ≡ false)
not_null_and_not_empty_of_lookup it filled = (
  elim (is_null it) as (λ b. is_null it ≡ b → b ≡ false) [ true ↦ λ is. absurd (filled (inl is)) | false ↦ λ is. refl ] refl,
  elim (is_empty_tree_id it) as (λ b. is_empty_tree_id it ≡ b → b ≡ false)
      [ true ↦ λ is. absurd (filled (inr (eq_of_is_empty_tree_id it is))) | false ↦ λ is. refl ]
      refl,
)

pub lookup_needed : (it : ObjectId) → (IsNeverLookedUp it → ⊥) → needs_lookup it ≡ true
lookup_needed it filled = let both = not_null_and_not_empty_of_lookup it filled in rw (both.0, both.1) refl

not_and_not_of_or : (x y : Bool) → (x ≡ true) ⊎ (y ≡ true) → (not x && not y) ≡ false
not_and_not_of_or true y h = refl
not_and_not_of_or false true h = refl
not_and_not_of_or false false (inl h) = absurd (cc h)
not_and_not_of_or false false (inr h) = absurd (cc h)

is_empty_tree_id_of_eq : (it : ObjectId) → it ≡ id_of (id_kind it) Tree [] → is_empty_tree_id it ≡ true
is_empty_tree_id_of_eq it is = (bytes_decides (id_bytes it) (id_bytes (id_of (id_kind it) Tree []))).1 (ap id_bytes is)

pub needs_no_lookup : (it : ObjectId) → IsNeverLookedUp it → needs_lookup it ≡ false
needs_no_lookup it (inl null) = not_and_not_of_or (is_null it) (is_empty_tree_id it) (inl null)
needs_no_lookup it (inr is) = not_and_not_of_or (is_null it) (is_empty_tree_id it) (inr (is_empty_tree_id_of_eq it is))

-- entries by name
contains_of_find_some : (name : List ℕ) (es : List EntryView) (e : EntryView) → find (λ x. same_name x.name name) es ≡ Some e
    → ContainsEntry es e × (e.name ≡ name)
contains_of_find_some name [] e is = absurd (cc is)
contains_of_find_some name (x ∷ xs) e is =
    elim (same_name x.name name) as (λ b. same_name x.name name ≡ b → cond b (Some x) (find (λ y. same_name y.name name) xs) ≡ Some e → ContainsEntry (x ∷ xs) e
    × (e.name ≡ name)) [
      | true ↦ λ called k. let same : x ≡ e = cc k in (inl same, ap (λ (y : EntryView). y.name) (sym same) ∙ (bytes_decides x.name name).0 called)
      | false ↦ λ other k. let rest = contains_of_find_some name xs e k in (inr rest.0, rest.1)
    ] refl is

not_contains_of_find_none : (name : List ℕ) (es : List EntryView) → find (λ x. same_name x.name name) es ≡ None → (e : EntryView) → ContainsEntry es e
    → e.name ≡ name → ⊥
not_contains_of_find_none name [] is e h named = h
not_contains_of_find_none name (x ∷ xs) is e h named =
    elim (same_name x.name name) as (λ b. same_name x.name name ≡ b → cond b (Some x) (find (λ y. same_name y.name name) xs) ≡ None → ⊥) [
      | true ↦ λ called k. cc k
      | false ↦ λ other k. here h other (λ l. not_contains_of_find_none name xs k e l named)
    ] refl is
  where
    here : ContainsEntry (x ∷ xs) e → same_name x.name name ≡ false → (ContainsEntry xs e → ⊥) → ⊥
    here (inl same) other k = let yes : same_name x.name name ≡ true =
        (bytes_decides x.name name).1 (ap (λ (y : EntryView). y.name) same ∙ named) in let bad : true ≡ false = sym yes ∙ other in cc bad
    here (inr l) other k = k l

pub has_at_of_entry_at : (name : List ℕ) (here : Option (List EntryView)) (e : EntryView) → first_entry_of name here ≡ Some e → HasAt here e × (e.name ≡ name)
has_at_of_entry_at name None e is = absurd (cc is)
has_at_of_entry_at name (Some es) e is = contains_of_find_some name es e is

no_entry_of_first_entry_none : (name : List ℕ) (here : Option (List EntryView)) → first_entry_of name here ≡ None → (e : EntryView) → HasAt here e
    → e.name ≡ name → ⊥
no_entry_of_first_entry_none name None is e h named = h
no_entry_of_first_entry_none name (Some es) is e h named = not_contains_of_find_none name es is e h named

pub option_none_or_some : (o : Option EntryView) → (o ≡ None) ⊎ ((e : EntryView) × (o ≡ Some e))
option_none_or_some None = inl refl
option_none_or_some (Some e) = inr (e, refl)

pub first_entry_of_has_at : (name : List ℕ) (here : Option (List EntryView)) (e : EntryView) → IsEntryOf name here e → first_entry_of name here ≡ Some e
first_entry_of_has_at name here e entry = by_cases (option_none_or_some (first_entry_of name here))
  where
    by_cases : (first_entry_of name here ≡ None) ⊎ ((x : EntryView) × (first_entry_of name here ≡ Some x)) → first_entry_of name here ≡ Some e
    by_cases (inl none) = absurd (no_entry_of_first_entry_none name here none e entry.0 entry.1)
    by_cases (inr some) = let has = has_at_of_entry_at name here some.0 some.1 in some.1 ∙ ap Some (entry.2 some.0 has.0 has.1)

-- the number of parent directories of a path that pass a test
abbrev passes : (Path → Bool) → Path → ℕ
passes p path = length (filter p (strict_beginnings path))

filter_map_cons_len : (p : Path → Bool) (name : List ℕ) (paths : List Path) → length (filter p (map (λ path. name ∷ path) paths)) ≡ length
    (filter (λ path. p (name ∷ path)) paths)
filter_map_cons_len p name [] = refl
filter_map_cons_len p name (path ∷ paths) =
    elim (p (name ∷ path)) as (λ b. length (cond b ((name ∷ path) ∷ filter p (map (λ q. name ∷ q) paths)) (filter p (map (λ q. name ∷ q) paths)))
    ≡ length
    (cond b (path ∷ filter (λ q. p (name ∷ q)) paths) (filter (λ q. p (name ∷ q)) paths))) [
      | true ↦ omega (arith, filter_map_cons_len p name paths)
      | false ↦ filter_map_cons_len p name paths
    ]

abbrev one_if : Bool → ℕ
one_if true = 1
one_if false = 0

passes_cons_cons : (p : Path → Bool) (name next : List ℕ) (rest : Path) → passes p (name ∷ next ∷ rest) ≡ one_if (p (name ∷ [])) + passes
    (λ path. p (name ∷ path))
    (next ∷ rest)
passes_cons_cons p name next rest =
    let others : List Path = map (λ path. name ∷ path) (strict_beginnings (next ∷ rest)) in
    elim (p (name ∷ [])) as (λ b. length (cond b ((name ∷ []) ∷ filter p others) (filter p others)) ≡ one_if b + passes (λ path. p (name ∷ path))
    (next ∷ rest)) [
      | true ↦ omega (arith, filter_map_cons_len p name (strict_beginnings (next ∷ rest)))
      | false ↦ omega (arith, filter_map_cons_len p name (strict_beginnings (next ∷ rest)))
    ]

passes_cons_append : (p : Path → Bool) (name : List ℕ) (rest : Path) (last : List ℕ) (after : Path) → passes p (name ∷ (rest ++ last ∷ after)) ≡ one_if
    (p (name ∷ [])) + passes (λ path. p (name ∷ path)) (rest ++ last ∷ after)
passes_cons_append p name [] last after = passes_cons_cons p name last after
passes_cons_append p name (next ∷ rest) last after = passes_cons_cons p name next (rest ++ last ∷ after)

-- tests that agree on all paths with names have equal counts
passes_congruent : (p r : Path → Bool) → ((first : List ℕ) (path : Path) → p (first ∷ path) ≡ r (first ∷ path)) → (path : Path)
    → passes p path ≡ passes r path
passes_congruent p r same [] = refl
passes_congruent p r same (name ∷ []) = refl
passes_congruent p r same (name ∷ next ∷ rest) =
    passes_cons_cons p name next rest ∙ ap (λ b. one_if b + passes (λ path. p (name ∷ path)) (next ∷ rest)) (same name [])
    ∙ ap (λ n. one_if (r (name ∷ [])) + n) (passes_congruent (λ path. p (name ∷ path)) (λ path. r (name ∷ path)) (λ first path. same name (first ∷ path))
    (next ∷ rest))
    ∙ sym (passes_cons_cons r name next rest)

abbrev never : Path → Bool
never path = false

passes_never_eq_zero : (path : Path) → passes never path ≡ 0
passes_never_eq_zero [] = refl
passes_never_eq_zero (name ∷ []) = refl
passes_never_eq_zero (name ∷ next ∷ rest) = omega (arith, passes_cons_cons never name next rest, passes_never_eq_zero (next ∷ rest))

passes_zero_of_all_false : (p : Path → Bool) → ((first : List ℕ) (path : Path) → p (first ∷ path) ≡ false) → (path : Path) → passes p path ≡ 0
passes_zero_of_all_false p fails path = passes_congruent p never fails path ∙ passes_never_eq_zero path

passes_cons_append_zero : (p : Path → Bool) (name : List ℕ) (rest : Path) (last : List ℕ) (after : Path) → p (name ∷ []) ≡ false
    → ((first : List ℕ) (path : Path) → p (name ∷ first ∷ path) ≡ false) → passes p (name ∷ (rest ++ last ∷ after)) ≡ 0
passes_cons_append_zero p name rest last after here below =
    let none : one_if (p (name ∷ [])) ≡ 0 = ap one_if here in
    let nothing : passes (λ path. p (name ∷ path)) (rest ++ last ∷ after) ≡ 0 =
    passes_zero_of_all_false (λ path. p (name ∷ path)) below (rest ++ last ∷ after) in
    omega (arith, passes_cons_append p name rest last after, none, nothing)

-- an opening ends at most before entries that aren't looked up
abbrev pub IsIdle : (EntryView → Type 0) → Type 0
IsIdle StopsBefore = (e : EntryView) → StopsBefore e → IsNotLookedUp e

-- entries at a path below a list
module _ (trees : Trees) where
  known_none : (path : Path) → entry_in_store trees path None ≡ None
  known_none [] = refl
  known_none (name ∷ []) = refl
  known_none (name ∷ next ∷ rest) = known_none (next ∷ rest)

  known_nothing : (path : Path) → entry_in_store trees path (Some []) ≡ None
  known_nothing [] = refl
  known_nothing (name ∷ []) = refl
  known_nothing (name ∷ next ∷ rest) = known_none (next ∷ rest)

  known_only : (path : Path) (entries : List EntryView) → looked_up_entry trees path (only_open entries) ≡ entry_in_store trees path (Some entries)
  known_only [] entries = refl
  known_only (name ∷ []) entries = refl
  known_only (name ∷ next ∷ rest) entries = refl

  known_unopened : (name first : List ℕ) (path : Path) (dirs : Dirs) → dirs (name ∷ []) ≡ None
      → looked_up_entry trees (name ∷ first ∷ path) dirs ≡ entry_in_store trees (first ∷ path) (list_of trees (first_entry_of name (dirs [])))
  known_unopened name first path dirs none =
      ap (λ o. by_openness o (entry_in_store trees (first ∷ path) (list_of trees (first_entry_of name (dirs []))))
      (looked_up_entry trees (first ∷ path) (in_dir name dirs))) none

  -- no entry is below an id that isn't looked up
  not_looked_up_known : (it : ObjectId) → IsNeverLookedUp it → (path : Path) → entry_in_store trees path (tree_of trees it) ≡ None
  not_looked_up_known it empty path =
      elim (is_null it) as (λ b. is_null it ≡ b → entry_in_store trees path (cond b None (cond (is_empty_tree_id it) (Some []) (trees it))) ≡ None) [
        | true ↦ λ null. known_none path
        | false ↦ λ some. ap (λ b. entry_in_store trees path (cond b (Some []) (trees it))) (is_empty empty some) ∙ known_nothing path
      ] refl
    where
      is_empty : IsNeverLookedUp it → is_null it ≡ false → is_empty_tree_id it ≡ true
      is_empty (inl null) some = absurd (let bad : true ≡ false = sym null ∙ some in cc bad)
      is_empty (inr is) some = is_empty_tree_id_of_eq it is

  -- a name without an entry that is looked up needs no lookup, and has no entry below it
  idle_entry : (name : List ℕ) (dirs : Dirs) → ((e : EntryView) → HasAt (dirs []) e → e.name ≡ name → IsNotLookedUp e)
      → (needs_tree_lookup (first_entry_of name (dirs [])) ≡ false)
      × ((path : Path) → entry_in_store trees path (list_of trees (first_entry_of name (dirs []))) ≡ None)
  idle_entry name dirs idle = by_cases (option_none_or_some (first_entry_of name (dirs [])))
    where
      by_kind : (e : EntryView) → IsNotLookedUp e → (needs_tree_lookup (Some e) ≡ false)
          × ((path : Path) → entry_in_store trees path (list_of trees (Some e)) ≡ None)
      by_kind e (inl mode) = (
        ap (λ b. b && needs_lookup e.id) mode,
        λ path. ap (λ b. entry_in_store trees path (cond b (tree_of trees e.id) None)) mode
            ∙ known_none path,
      )
      by_kind e (inr empty) = (
        elim (is_tree_mode e.mode) as (λ b. (b && needs_lookup e.id) ≡ false) [ true ↦ needs_no_lookup e.id empty | false ↦ refl ],
        λ path. elim (is_tree_mode e.mode) as (λ b. entry_in_store trees path (cond b (tree_of trees e.id) None) ≡ None)
            [ true ↦ not_looked_up_known e.id empty path | false ↦ known_none path ],
      )

      by_cases : (first_entry_of name (dirs []) ≡ None) ⊎ ((x : EntryView) × (first_entry_of name (dirs []) ≡ Some x))
          → (needs_tree_lookup (first_entry_of name (dirs [])) ≡ false)
          × ((path : Path) → entry_in_store trees path (list_of trees (first_entry_of name (dirs []))) ≡ None)
      by_cases (inl none) = (ap needs_tree_lookup none, λ path. ap (λ o. entry_in_store trees path (list_of trees o)) none ∙ known_none path)
      by_cases (inr some) =
          let has = has_at_of_entry_at name (dirs []) some.0 some.1 in
          let it = by_kind some.0 (idle some.0 has.0 has.1) in
          (ap needs_tree_lookup some.1 ∙ it.0, λ path. ap (λ o. entry_in_store trees path (list_of trees o)) some.1 ∙ it.1 path)

  pub known_nowhere : (name first : List ℕ) (path : Path) (dirs : Dirs) → ((e : EntryView) → HasAt (dirs []) e → e.name ≡ name → IsNotLookedUp e)
      → ((path : Path) → dirs (name ∷ path) ≡ None) → looked_up_entry trees (name ∷ first ∷ path) dirs ≡ None
  known_nowhere name first path dirs idle none = known_unopened name first path dirs (none []) ∙ (idle_entry name dirs idle).1 (first ∷ path)

  -- an entry of tree mode that isn't open counts one if its id is looked up
  first_requested : (it : ObjectId) (entries : List EntryView) (first : List ObjectId) → Finds trees it entries first
      → length first ≡ one_if (needs_lookup it)
  first_requested it entries first (formed, inl (empty, nothing, none)) = ap length none ∙ sym (ap one_if (needs_no_lookup it empty))
  first_requested it entries first (formed, inr (filled, is, requests)) = ap length requests ∙ sym (ap one_if (lookup_needed it filled))

  below_found : (it : ObjectId) (entries : List EntryView) (first : List ObjectId) → Finds trees it entries first → (path : Path)
      → entry_in_store trees path (tree_of trees it) ≡ entry_in_store trees path (Some entries)
  below_found it entries first (formed, inr (filled, is, requests)) path = let both = not_null_and_not_empty_of_lookup it filled in
      ap (entry_in_store trees path)
      (ap (λ b. cond b None (cond (is_empty_tree_id it) (Some []) (trees it))) both.0 ∙ ap (λ b. cond b (Some []) (trees it)) both.1 ∙ is)
  below_found it entries first (formed, inl (empty, nothing, none)) path = not_looked_up_known it empty path
      ∙ sym (ap (λ es. entry_in_store trees path (Some es)) nothing ∙ known_nothing path)

  pub found_below : (name first : List ℕ) (path : Path) (dirs : Dirs) (e : EntryView) (entries : List EntryView) (requests : List ObjectId)
      → IsEntryOf name (dirs []) e → is_tree_mode e.mode ≡ true → dirs (name ∷ []) ≡ None → Finds trees e.id entries requests
      → looked_up_entry trees (name ∷ first ∷ path) dirs ≡ looked_up_entry trees (first ∷ path) (only_open entries)
  found_below name first path dirs e entries requests entry tree none finds =
      known_unopened name first path dirs none
      ∙ ap (λ o. entry_in_store trees (first ∷ path) (list_of trees o)) (first_entry_of_has_at name (dirs []) e entry)
      ∙ ap (λ b. entry_in_store trees (first ∷ path) (cond b (tree_of trees e.id) None)) tree
      ∙ below_found e.id entries requests finds (first ∷ path)
      ∙ sym (known_only (first ∷ path) entries)

  -- below an open directory the entries and counts are those of its directories
  pub known_open : (name first : List ℕ) (path : Path) (dirs : Dirs) (entries : List EntryView) → dirs (name ∷ []) ≡ Some entries
      → looked_up_entry trees (name ∷ first ∷ path) dirs ≡ looked_up_entry trees (first ∷ path) (in_dir name dirs)
  known_open name first path dirs entries is =
      ap (λ o. by_openness o (entry_in_store trees (first ∷ path) (list_of trees (first_entry_of name (dirs []))))
      (looked_up_entry trees (first ∷ path) (in_dir name dirs))) is

  pub unopened_open : (name first : List ℕ) (path : Path) (dirs : Dirs) (entries : List EntryView) → dirs (name ∷ []) ≡ Some entries
      → is_unopened trees dirs (name ∷ first ∷ path) ≡ is_unopened trees (in_dir name dirs) (first ∷ path)
  unopened_open name first path dirs entries is = ap (λ o. needs_opening (dirs (name ∷ first ∷ path)) && needs_tree_lookup o)
      (known_open name first path dirs entries is)

  -- below a directory that is opened the entries and counts are those of the list found
  pub unopened_found : (name first : List ℕ) (path : Path) (dirs : Dirs) (e : EntryView) (entries : List EntryView) (requests : List ObjectId)
      → IsEntryOf name (dirs []) e → is_tree_mode e.mode ≡ true → ((path : Path) → dirs (name ∷ path) ≡ None)
      → Finds trees e.id entries requests → is_unopened trees dirs (name ∷ first ∷ path) ≡ is_unopened trees (only_open entries) (first ∷ path)
  unopened_found name first path dirs e entries requests entry tree none finds =
      ap (λ o. needs_opening o && needs_tree_lookup (looked_up_entry trees (name ∷ first ∷ path) dirs)) (none (first ∷ path)) ∙ ap needs_tree_lookup
      (found_below name first path dirs e entries requests entry tree (none []) finds)

  -- a directory that isn't open counts if its id is looked up
  pub unopened_here : (name : List ℕ) (dirs : Dirs) (e : EntryView) → IsEntryOf name (dirs []) e → is_tree_mode e.mode ≡ true
      → dirs (name ∷ []) ≡ None
      → is_unopened trees dirs (name ∷ []) ≡ needs_lookup e.id
  unopened_here name dirs e entry tree none =
      ap (λ o. needs_opening o && needs_tree_lookup (first_entry_of name (dirs []))) none ∙ ap needs_tree_lookup (first_entry_of_has_at name (dirs []) e entry)
      ∙ ap (λ b. b && needs_lookup e.id) tree

  -- a name without a directory that is looked up has no unopened directory at or below it
  pub unopened_nowhere : (name : List ℕ) (path : Path) (dirs : Dirs) → ((e : EntryView) → HasAt (dirs []) e → e.name ≡ name → IsNotLookedUp e)
      → ((path : Path) → dirs (name ∷ path) ≡ None) → is_unopened trees dirs (name ∷ path) ≡ false
  unopened_nowhere name [] dirs idle none = ap (λ o. needs_opening o && needs_tree_lookup (first_entry_of name (dirs []))) (none [])
      ∙ (idle_entry name dirs idle).0
  unopened_nowhere name (first ∷ path) dirs idle none =
      ap (λ o. needs_opening o && needs_tree_lookup (looked_up_entry trees (name ∷ first ∷ path) dirs))
      (none (first ∷ path)) ∙ ap needs_tree_lookup (known_nowhere name first path dirs idle none)

  -- the count of a path is that from its first directory, and one more if that directory is looked up
  pub count_open : (name : List ℕ) (rest : Path) (last : List ℕ) (after : Path) (dirs : Dirs) (entries : List EntryView)
      → dirs (name ∷ []) ≡ Some entries
      → unopened_count trees dirs (name ∷ (rest ++ last ∷ after)) ≡ unopened_count trees (in_dir name dirs) (rest ++ last ∷ after)
  count_open name rest last after dirs entries is =
      let here : one_if (is_unopened trees dirs (name ∷ [])) ≡ 0 =
      ap (λ o. one_if (needs_opening o && needs_tree_lookup (first_entry_of name (dirs [])))) is in
      let below = passes_congruent (λ q. is_unopened trees dirs (name ∷ q)) (is_unopened trees (in_dir name dirs))
      (λ first q. unopened_open name first q dirs entries is) (rest ++ last ∷ after) in
      omega (arith, passes_cons_append (is_unopened trees dirs) name rest last after, here, below)

  pub count_found : (name : List ℕ) (rest : Path) (last : List ℕ) (after : Path) (dirs : Dirs) (e : EntryView) (entries : List EntryView)
      (first : List ObjectId) → IsEntryOf name (dirs []) e → is_tree_mode e.mode ≡ true → ((path : Path) → dirs (name ∷ path) ≡ None)
      → Finds trees e.id entries first → unopened_count trees dirs (name ∷ (rest ++ last ∷ after)) ≡ length first + unopened_count trees
      (only_open entries)
      (rest ++ last ∷ after)
  count_found name rest last after dirs e entries first entry tree none finds =
      let here : one_if (is_unopened trees dirs (name ∷ [])) ≡ length first = ap one_if (unopened_here name dirs e entry tree (none []))
      ∙ sym (first_requested e.id entries first finds) in
      let below = passes_congruent (λ q. is_unopened trees dirs (name ∷ q)) (is_unopened trees (only_open entries))
      (λ next q. unopened_found name next q dirs e entries first entry tree none finds) (rest ++ last ∷ after) in
      omega (arith, passes_cons_append (is_unopened trees dirs) name rest last after, here, below)

  pub count_vain : (name : List ℕ) (rest : Path) (last : List ℕ) (after : Path) (dirs : Dirs) (e : EntryView) → IsEntryOf name (dirs []) e
      → is_tree_mode e.mode ≡ true → dirs (name ∷ []) ≡ None → (IsNeverLookedUp e.id → ⊥)
      → 1 ≤ unopened_count trees dirs (name ∷ (rest ++ last ∷ after))
  count_vain name rest last after dirs e entry tree none filled =
      let here : one_if (is_unopened trees dirs (name ∷ [])) ≡ 1 =
      ap one_if (unopened_here name dirs e entry tree none ∙ lookup_needed e.id filled) in
      omega (arith, passes_cons_append (is_unopened trees dirs) name rest last after, here)

  pub requested_count : {StopsBefore : EntryView → Type 0} → IsIdle StopsBefore → (path : Path) (last : List ℕ) (dirs new : Dirs) (looked_up : List ObjectId)
      → Opens StopsBefore trees path dirs new looked_up → length looked_up ≡ unopened_count trees dirs (path ++ last ∷ [])
  requested_count idle path last dirs new looked_up (arrived d) = refl
  requested_count idle path last dirs new looked_up (stops name rest d other none) =
      sym (passes_cons_append_zero (is_unopened trees d) name rest last [] (unopened_nowhere name [] d (λ e h n. idle e (other e h n)) none)
      (λ first q. unopened_nowhere name (first ∷ q) d (λ e h n. idle e (other e h n)) none))
  requested_count idle path last dirs new looked_up (down name rest d inner e entries more has named is opens) =
      requested_count idle rest last (in_dir name d) inner more opens ∙ sym (count_open name rest last [] d entries is)
  requested_count idle path last dirs new looked_up (found name rest d inner e entries first more entry tree free none finds opens) =
      omega (
        arith,
        length-append first more,
        count_found name rest last [] d e entries first entry tree none finds,
        requested_count idle rest last
            (only_open entries) inner more opens,
      )

  -- an opening looks up at most as many ids as there are unopened directories above a longer path
  pub opens_at_most : {StopsBefore : EntryView → Type 0} (path : Path) (last : List ℕ) (after : Path) (dirs new : Dirs) (looked_up : List ObjectId)
      → Opens StopsBefore trees path dirs new looked_up → length looked_up ≤ unopened_count trees dirs (path ++ last ∷ after)
  opens_at_most path last after dirs new looked_up (arrived d) = omega arith
  opens_at_most path last after dirs new looked_up (stops name rest d other none) = omega arith
  opens_at_most path last after dirs new looked_up (down name rest d inner e entries more has named is opens) =
      omega (arith, count_open name rest last after d entries is, opens_at_most rest last after (in_dir name d) inner more opens)
  opens_at_most path last after dirs new looked_up (found name rest d inner e entries first more entry tree free none finds opens) =
      omega (
        arith,
        length-append first more,
        count_found name rest last after d e entries first entry tree none finds,
        opens_at_most rest last after
            (only_open entries) inner more opens,
      )
