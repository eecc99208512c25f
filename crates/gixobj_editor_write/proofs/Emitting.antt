-- What one entry emits, what a walk along the entries emits, and where it stops: for the functions of `write`, and the
-- errors of the editor.
use mathlib.Core.Bool.{true≢false}
use Rattle.std.proofs.Common.{◌≡◌, ◌≢◌, ◌⊎◌, inl, inr, ⊎_elim, ◌∙◌, ◌≤◌, ◌<◌, ◌+◌, ℕ, suc, zero, max, Bool, true, false, cond, List, [], ◌∷◌, ◌++◌, Option}
use Rattle.std.proofs.Common.{Some, None, length, get_or, drop, Result, refl, sym, ap, subst, arith, append_assoc, append-nil, add-one, drop-cons}
use Rattle.std.specs.Prelude.{◌==◌, ◌&&◌, IsFalse}
use Rattle.std.specs.List.{AllByRecursion, FoldsTo}
use Rattle.std.specs.Option.{option_copied}
use Rattle.std.proofs.lemmas.Bool.{eqb-true}
use Rattle.std.proofs.lemmas.List.{drop_all}
use Rattle.std.proofs.lemmas.List.Elements.{All-from_recursion}
use Rattle.gixobj_tree_entries.specs.Entries.{EntryView, Pair}
use Rattle.gixobj_tree_entries.specs.KeyOrder.{ComesBefore}
use Rattle.gixobj_tree.specs.WellFormed.{EachLater, IsEntryName, IsWellFormed}
use Rattle.gixobj_hash.specs.declared.hash.object_id.ObjectId.{ObjectId}
use denote.Ref.{Bor}
use Rattle.gixobj_editor_write.specs.Calls.{IsCallableOnTrees, IsStorable}
use Rattle.gixobj_editor_files.specs.Editing.{same_name}
use Rattle.gixobj_editor_files.specs.Edits.{raised}
use Rattle.gixobj_editor_files.specs.Files.{Path, is_null}
use Rattle.gixobj_editor_write.specs.WriteErrors.{IsWriteError, EmitsEntry, child_side}
use Rattle.gixobj_hash.specs.declared.hash.object_id.ObjectId.TheVariants.{Sha1}
use Rattle.gixobj_editor_files.specs.Emission.{EmitsSome, EmitsBelow, EmitsEntries, left_out_if_empty, end, entry_unless_null, of_entries, unopened, unchanged}
use Rattle.gixobj_editor_files.specs.Emission.{written}
use Rattle.gixobj_editor_open.specs.Nested.{Level, Opened, at_side, bases_of, dirs_of}
use Rattle.gixobj_editor_open.specs.declared.open.Child.{Child}
use Rattle.gixobj_editor_files.specs.Opening.{Dirs, in_dir}
use Rattle.gixobj_editor_write.specs.declared.write.WriteError.{WriteError}
use Rattle.gixobj_editor_write.specs.declared.write.WriteError.TheVariants as write
use Rattle.gixobj_editor_files.proofs.Counts.{raised_raised}
use Rattle.gixobj_editor_entries.proofs.Sublists.{all_weaker}
use Rattle.gixobj_editor_open.proofs.Levels.{tied, tied_cons}
use Rattle.gixobj_editor_files.proofs.SameTrees.{entries_eq_or_ne}

-- a walk with an equal count
pub walks_of_count : {dirs bases : Dirs} {entries : List EntryView} {below : List Pair} {written_tree : List EntryView} (m n : ℕ) → m ≡ n
    → EmitsEntries dirs bases entries below written_tree m
    → EmitsEntries dirs bases entries below written_tree n
walks_of_count {dirs} {bases} {entries} {below} {written_tree} m n is walk = subst (EmitsEntries dirs bases entries below written_tree) is walk

-- increments add up
pub raised_append : (old between new first then : ℕ) → between ≡ raised old first → new ≡ raised between then → new ≡ raised old (first + then)
raised_append old between new first then before after = after ∙ ap (λ n. raised n then) before ∙ raised_raised old first then

pub emits_entry_unopened : (inside based : Dirs) (e : EntryView) → inside [] ≡ None → EmitsEntry inside based e [] (entry_unless_null e e.id) 0
emits_entry_unopened inside based e none = λ dirs bases is b entries below written_tree more walk. walks_of_count more (0 + more) (omega arith)
    (unopened dirs bases e entries below written_tree more (ap (λ (d : Dirs). d []) is ∙ none) walk)

-- equal open directories with equal bases emit equal pairs
pub emits_below_of_both : (dirs bases dirs' bases' : Dirs) → dirs ≡ dirs' → bases ≡ bases' → (ps : List Pair) (written_tree : List EntryView) (n : ℕ)
    → EmitsBelow dirs bases ps written_tree n → EmitsBelow dirs' bases' ps written_tree n
emits_below_of_both dirs bases dirs' bases' is b ps written_tree n found = subst (λ (d : Dirs). EmitsBelow d bases' ps written_tree n) is
    (subst (λ (d : Dirs). EmitsBelow dirs d ps written_tree n) b found)

-- what the directory of a name emits is what its open directories emit
emits_below_congruent : (inside based : Dirs) (dirs bases : Dirs) (name : List ℕ) → in_dir name dirs ≡ inside → in_dir name bases ≡ based
    → (inner : List Pair) (written_tree : List EntryView) (saved : ℕ) → EmitsBelow inside based inner written_tree saved
    → EmitsBelow (in_dir name dirs) (in_dir name bases) inner written_tree saved
emits_below_congruent inside based dirs bases name is b inner written_tree saved found =
    subst (λ (d : Dirs). EmitsBelow d (in_dir name bases) inner written_tree saved) (sym is)
    (subst (λ (d : Dirs). EmitsBelow inside d inner written_tree saved) (sym b) found)

pub emits_entry_emptied : (inside based : Dirs) (e : EntryView) (inner : List Pair) (written_tree : List EntryView) (saved : ℕ) → written_tree ≡ []
    → EmitsBelow inside based inner written_tree saved → EmitsEntry inside based e inner [] saved
emits_entry_emptied inside based e inner [] saved is found = λ dirs bases same b entries below written_tree more walk. left_out_if_empty dirs bases e entries
    inner
    below written_tree
    saved more
    (emits_below_congruent inside based dirs bases e.name same b inner [] saved found) walk
emits_entry_emptied inside based e inner (x ∷ xs) saved is found = absurd (cc is)

pub emits_entry_written : (inside based : Dirs) (e : EntryView) (inner : List Pair) (tree : List EntryView) (saved : ℕ) (id : ObjectId) → tree ≢ []
    → based [] ≢ Some tree → EmitsBelow inside based inner tree saved → EmitsEntry inside based e (inner ++ (id, tree) ∷ []) (entry_unless_null e id) saved
emits_entry_written inside based e inner [] saved id filled changed found = absurd (filled refl)
emits_entry_written inside based e inner (first ∷ rest) saved id filled changed found =
    λ dirs bases same b entries below written_tree more walk. rw append_assoc
    (written dirs bases e first entries rest inner below written_tree saved more id
    (emits_below_congruent inside based dirs bases e.name same b inner (first ∷ rest) saved found)
    (λ is. changed (sym (ap (λ (d : Dirs). d []) b) ∙ is)) walk)

pub emits_entry_unchanged : (inside based : Dirs) (e : EntryView) (inner : List Pair) (tree : List EntryView) (saved : ℕ) → tree ≢ [] → based [] ≡ Some tree
    → EmitsBelow inside based inner tree saved → EmitsEntry inside based e inner (entry_unless_null e e.id) (saved + 1)
emits_entry_unchanged inside based e inner [] saved filled is found = absurd (filled refl)
emits_entry_unchanged inside based e inner (first ∷ rest) saved filled is found =
    λ dirs bases same b entries below written_tree more walk. unchanged dirs bases e first entries rest inner below written_tree saved more
    (emits_below_congruent inside based dirs bases e.name same b inner (first ∷ rest) saved found) (ap (λ (d : Dirs). d []) b ∙ is) walk

-- the base is a tree, or it isn't
some_eq_or_ne : (o : Option (List EntryView)) (tree : List EntryView) → (o ≡ Some tree) ⊎ (o ≢ Some tree)
some_eq_or_ne None tree = inr (λ is. cc is)
some_eq_or_ne (Some base) tree = ⊎_elim (λ same. inl (ap Some same)) (λ other. inr (λ is. other (cc is))) (entries_eq_or_ne base tree)

-- the entry of a directory emits what the directory emits, and then the directory if it is changed
pub emits_entry_open : (inside based : Dirs) (e : EntryView) (inner : List Pair) (written_tree : List EntryView) (saved : ℕ)
    → EmitsBelow inside based inner written_tree saved
    → (more : List Pair) × (kept : List EntryView) × (count : ℕ) × EmitsEntry inside based e (inner ++ more) kept count
emits_entry_open inside based e inner [] saved found = ([], [], saved, rw append-nil (emits_entry_emptied inside based e inner [] saved refl found))
emits_entry_open inside based e inner (first ∷ rest) saved found =
    ⊎_elim (λ same. (
      [],
      entry_unless_null e e.id,
      saved + 1,
      rw append-nil
          (emits_entry_unchanged inside based e inner (first ∷ rest) saved (λ q. cc q) same found),
    ))
    (λ other. (
      (e.id, first ∷ rest) ∷ [],
      entry_unless_null e e.id,
      saved,
      emits_entry_written inside based e inner (first ∷ rest) saved e.id
          (λ q. cc q) other found,
    ))
    (some_eq_or_ne (based []) (first ∷ rest))

pub nil_of_is_empty : {X : Type 0} (xs : List X) → true ≡ (length xs == 0) → xs ≡ []
nil_of_is_empty [] h = refl
nil_of_is_empty (x ∷ xs) h = let none : length (x ∷ xs) ≡ 0 = eqb-true (length (x ∷ xs)) 0 (sym h) in absurd (omega (arith, none))

pub not_nil_of_not_empty : {X : Type 0} (xs : List X) → false ≡ (length xs == 0) → xs ≢ []
not_nil_of_not_empty [] h q = true≢false (sym h)
not_nil_of_not_empty (x ∷ xs) h q = cc q

-- calls for two lists, one after the other, are calls for the appended list
pub folds_to_append : {P A : Type 0} (R : P → A → P → Type 0) (p : P) (xs : List A) (q : P) (ys : List A) (r : P) → FoldsTo R p xs q → FoldsTo R q ys r
    → FoldsTo R p (xs ++ ys) r
folds_to_append R p [] q ys r h k = subst (λ v. FoldsTo R v ys r) (sym h) k
folds_to_append R p (x ∷ xs) q ys r h k = (h.0, h.1, folds_to_append R h.0 xs q ys r h.2 k)

-- a closure that may be called may be called after calls
pub callable_after_folds : {F : Type 0} (pre : F → Bor (List EntryView) → Type 0) (gave : F → Pair → F → Type 0) (old : F) (ps : List Pair) (mid : F)
    → FoldsTo gave old ps mid → IsCallableOnTrees pre gave old → IsCallableOnTrees pre gave mid
callable_after_folds pre gave old ps mid calls callable more state further tree storable =
    callable (ps ++ more) state (folds_to_append gave old ps mid more state calls further) tree storable

pub folds_to_one : {P A : Type 0} (R : P → A → P → Type 0) (p : P) (x : A) (q : P) → R p x q → FoldsTo R p (x ∷ []) q
folds_to_one R p x q h = (q, h, refl)

-- a write that stops after the calls for some pairs
pub stopped_after_folds : {F E : Type 0} (gave : F → Pair → F → Type 0) (rejected : F → List EntryView → E → F → Type 0) (P Q : List Pair → Type 0)
    (old mid new : F)
    (ps : List Pair)
    → FoldsTo gave old ps mid → ((qs : List Pair) → P qs → (more : List Pair) × Q (ps ++ (qs ++ more))) → (error : WriteError E)
    → IsWriteError gave rejected P mid new error → IsWriteError gave rejected Q old new error
stopped_after_folds gave rejected P Q old mid new ps calls goes (write.Out e) s = record {
  before = ps ++ s.before;
  tree = s.tree;
  between = s.between;
  called = folds_to_append gave old ps mid s.before s.between calls s.called;
  failed = s.failed;
  emitted = λ id.
      let one = s.emitted id in
      let more = goes (s.before ++ (id, s.tree) ∷ one.0) one.1 in
      (one.0 ++ more.0, subst Q (joined s.before (id, s.tree) one.0 more.0) more.1);
}
  where
    joined : (before : List Pair) (pair : Pair) (rest more : List Pair)
        → ps ++ ((before ++ pair ∷ rest) ++ more) ≡ (ps ++ before) ++ pair ∷ (rest ++ more)
    joined before pair rest more = rw (append_assoc, append_assoc) refl
stopped_after_folds gave rejected P Q old mid new ps calls goes write.OutOfMemory s =
    let more = goes (s.before ++ s.rest) s.emitted in
    record {
      before = ps ++ s.before;
      rest = s.rest ++ more.0;
      called = folds_to_append gave old ps mid s.before new calls s.called;
      emitted = subst Q (joined s.before s.rest more.0) more.1;
    }
  where
    joined : (before rest more : List Pair) → ps ++ ((before ++ rest) ++ more) ≡ (ps ++ before) ++ (rest ++ more)
    joined before rest more = rw (append_assoc, append_assoc) refl

-- memory ran out after these calls
pub stopped_at_call : {F E : Type 0} (gave : F → Pair → F → Type 0) (rejected : F → List EntryView → E → F → Type 0) (Q : List Pair → Type 0)
    (old new : F)
    (ps rest : List Pair)
    → FoldsTo gave old ps new → Q (ps ++ rest) → (error : WriteError E) → error ≡ write.OutOfMemory → IsWriteError gave rejected Q old new error
stopped_at_call {F} {E} gave rejected Q old new ps rest calls goes error is = subst (IsWriteError gave rejected Q old new) (sym is)
    (record { before = ps; rest = rest; called = calls; emitted = goes })

-- directories whose paths are of bounded length emit some list
pub walk_exists : (n : ℕ) (dirs bases : Dirs) → ((path : Path) → n ≤ length path → dirs path ≡ None) → (entries : List EntryView) → (below : List Pair)
    × (written_tree : List EntryView) × (saved : ℕ) × EmitsEntries dirs bases entries below written_tree saved
walk_exists n dirs bases bound [] = ([], [], 0, end dirs bases)
walk_exists zero dirs bases bound (e ∷ entries) =
    let rest = walk_exists zero dirs bases bound entries in
    (rest.0, entry_unless_null e e.id ++ rest.1, rest.2, unopened dirs bases e entries rest.0 rest.1 rest.2 (bound (e.name ∷ []) (omega arith)) rest.3)
walk_exists (suc n) dirs bases bound (e ∷ entries) =
    let rest = walk_exists (suc n) dirs bases bound entries in
    elim (dirs (e.name ∷ [])) as (λ o. dirs (e.name ∷ []) ≡ o → (below : List Pair) × (written_tree : List EntryView) × (saved : ℕ)
    × EmitsEntries dirs bases (e ∷ entries) below written_tree saved) [
      | None ↦ λ is. (rest.0, entry_unless_null e e.id ++ rest.1, rest.2, unopened dirs bases e entries rest.0 rest.1 rest.2 is rest.3)
      | Some es ↦ λ is. let inner = walk_exists n (in_dir e.name dirs) (in_dir e.name bases) (λ path long. bound (e.name ∷ path) (omega (arith, long)))
          es in
          let seen = emits_entry_open (in_dir e.name dirs) (in_dir e.name bases) e inner.0 inner.1 inner.2
          (of_entries (in_dir e.name dirs) (in_dir e.name bases) es inner.0 inner.1 inner.2 is inner.3) in
          ((inner.0 ++ seen.0) ++ rest.0, seen.1 ++ rest.1, seen.2 + rest.2, seen.3 dirs bases refl refl entries rest.0 rest.1 rest.2 rest.3)
    ] refl

-- the paths of a list of open directories are of bounded length
pub longest : Opened → ℕ
longest [] = 0
longest (d ∷ ds) = max (length d.0 + 1) (longest ds)

tied_len_eq : (p q : Path) → tied p q ≡ true → length p ≡ length q
tied_len_eq [] [] h = refl
tied_len_eq [] (y ∷ q) h = absurd (true≢false (sym h))
tied_len_eq (x ∷ p) [] h = absurd (true≢false (sym h))
tied_len_eq (x ∷ p) (y ∷ q) h = let rest : length p ≡ length q =
    tied_len_eq p q (second (same_name x y) (tied p q) (sym (tied_cons x y p q) ∙ h)) in omega
    (arith, rest)
  where
    second : (a b : Bool) → (a && b) ≡ true → b ≡ true
    second true b k = k
    second false b k = absurd (true≢false (sym k))

pub dirs_none_of_long_path : (ds : Opened) (path : Path) → longest ds ≤ length path → dirs_of ds path ≡ None
unfolding longest
dirs_none_of_long_path [] path h = refl
dirs_none_of_long_path (d ∷ ds) path h =
    elim (tied path d.0) as (λ b. tied path d.0 ≡ b → cond b (Some d.1.0) (dirs_of ds path) ≡ None) [
      | true ↦ λ is. let same : length path ≡ length d.0 = tied_len_eq path d.0 is in absurd (omega (arith, same, h))
      | false ↦ λ is. dirs_none_of_long_path ds path (omega (arith, h))
    ] refl

pub walk_exists_of_open : (ds : Opened) (entries : List EntryView) → (below : List Pair) × (written_tree : List EntryView) × (saved : ℕ)
    × EmitsEntries (dirs_of ds) (bases_of ds) entries below written_tree saved
walk_exists_of_open ds entries = walk_exists (longest ds) (dirs_of ds) (bases_of ds) (dirs_none_of_long_path ds) entries

-- a property of an entry and of the others holds of the list with the entry, if its id isn't null
all_entry_unless_null : (P : EntryView → Type 0) (e : EntryView) (id : ObjectId) (os : List EntryView) → P (record { mode = e.mode; name = e.name; id = id })
    → AllByRecursion P os → AllByRecursion P (entry_unless_null e id ++ os)
all_entry_unless_null P e id os h k = elim (is_null id) as (λ b. AllByRecursion P (cond b [] ((record { mode = e.mode; name = e.name; id = id }) ∷ []) ++ os))
    [ true ↦ k | false ↦ (h, k) ]

-- a written tree has names and modes of the entries, in the same order
all_emitted : (P : EntryView → Type 0) → ((e : EntryView) (id : ObjectId) → P e → P (record { mode = e.mode; name = e.name; id = id }))
    → (dirs bases : Dirs) (entries : List EntryView) (below : List Pair) (written_tree : List EntryView) (n : ℕ)
    → EmitsEntries dirs bases entries below written_tree n → AllByRecursion P entries → AllByRecursion P written_tree
all_emitted P same dirs bases entries below written_tree n (end dirs' b') h = tt
all_emitted P same dirs bases entries below written_tree n (unopened dirs' b' e es ps os m none walk) h =
    all_entry_unless_null P e e.id os (same e e.id h.0) (all_emitted P same dirs' b' es ps os m walk h.1)
all_emitted P same dirs bases entries below written_tree n (left_out_if_empty dirs' b' e es inner ps os i m found walk) h =
    all_emitted P same dirs' b' es ps os m walk h.1
all_emitted P same dirs bases entries below written_tree n (written dirs' b' e first es rest inner ps os i m id found changed walk) h =
    all_entry_unless_null P e id os (same e id h.0) (all_emitted P same dirs' b' es ps os m walk h.1)
all_emitted P same dirs bases entries below written_tree n (unchanged dirs' b' e first es rest inner ps os i m found same_base walk) h =
    all_entry_unless_null P e e.id os (same e e.id h.0) (all_emitted P same dirs' b' es ps os m walk h.1)

each_later_entry_unless_null : (R : EntryView → EntryView → Type 0) (e : EntryView) (id : ObjectId) (os : List EntryView)
    → AllByRecursion (R (record { mode = e.mode; name = e.name; id = id })) os → EachLater R os → EachLater R (entry_unless_null e id ++ os)
each_later_entry_unless_null R e id os h k = elim (is_null id) as (λ b. EachLater R (cond b [] ((record { mode = e.mode; name = e.name; id = id }) ∷ []) ++ os))
    [ true ↦ k | false ↦ (h, k) ]

module _ (R : EntryView → EntryView → Type 0) (remaining : (e y : EntryView) (id : ObjectId) → R e y
    → R (record { mode = e.mode; name = e.name; id = id }) y)
    (right : (x e : EntryView) (id : ObjectId) → R x e → R x (record { mode = e.mode; name = e.name; id = id })) where
  later_kept_as : (dirs bases : Dirs) (e : EntryView) (id : ObjectId) (es : List EntryView) (ps : List Pair) (os : List EntryView) (n : ℕ)
      → EmitsEntries dirs bases es ps os n → AllByRecursion (R e) es → AllByRecursion (R (record { mode = e.mode; name = e.name; id = id })) os
  later_kept_as dirs bases e id es ps os n walk h = all_weaker (R e) (R (record { mode = e.mode; name = e.name; id = id }))
      (λ y r. remaining e y id r) os
      (all_emitted (R e) (λ y other r. right e y other r) dirs bases es ps os n walk h)

  walk_later : (dirs bases : Dirs) (entries : List EntryView) (below : List Pair) (written_tree : List EntryView) (n : ℕ)
      → EmitsEntries dirs bases entries below written_tree n
      → EachLater R entries → EachLater R written_tree
  walk_later dirs bases entries below written_tree n (end dirs' b') h = tt
  walk_later dirs bases entries below written_tree n (unopened dirs' b' e es ps os m none walk) h =
      each_later_entry_unless_null R e e.id os (later_kept_as dirs' b' e e.id es ps os m walk h.0) (walk_later dirs' b' es ps os m walk h.1)
  walk_later dirs bases entries below written_tree n (left_out_if_empty dirs' b' e es inner ps os i m found walk) h = walk_later dirs' b' es ps os m walk h.1
  walk_later dirs bases entries below written_tree n (written dirs' b' e first es rest inner ps os i m id found changed walk) h =
      each_later_entry_unless_null R e id os (later_kept_as dirs' b' e id es ps os m walk h.0) (walk_later dirs' b' es ps os m walk h.1)
  walk_later dirs bases entries below written_tree n (unchanged dirs' b' e first es rest inner ps os i m found same_base walk) h =
      each_later_entry_unless_null R e e.id os (later_kept_as dirs' b' e e.id es ps os m walk h.0) (walk_later dirs' b' es ps os m walk h.1)

all_not_null_entry_unless_null : (e : EntryView) (id : ObjectId) (os : List EntryView) → AllByRecursion (λ x. IsFalse (is_null x.id)) os
    → AllByRecursion (λ x. IsFalse (is_null x.id)) (entry_unless_null e id ++ os)
all_not_null_entry_unless_null e id os k = elim (is_null id) as
    (λ b. is_null id ≡ b → AllByRecursion (λ x. IsFalse (is_null x.id)) (cond b [] ((record { mode = e.mode; name = e.name; id = id }) ∷ []) ++ os))
    [ true ↦ λ is. k | false ↦ λ is. (is, k) ] refl

all_emitted_not_null : (dirs bases : Dirs) (entries : List EntryView) (below : List Pair) (written_tree : List EntryView) (n : ℕ)
    → EmitsEntries dirs bases entries below written_tree n
    → AllByRecursion (λ x. IsFalse (is_null x.id)) written_tree
all_emitted_not_null dirs bases entries below written_tree n (end dirs' b') = tt
all_emitted_not_null dirs bases entries below written_tree n (unopened dirs' b' e es ps os m none walk) =
    all_not_null_entry_unless_null e e.id os (all_emitted_not_null dirs' b' es ps os m walk)
all_emitted_not_null dirs bases entries below written_tree n (left_out_if_empty dirs' b' e es inner ps os i m found walk) =
    all_emitted_not_null dirs' b' es ps os m walk
all_emitted_not_null dirs bases entries below written_tree n (written dirs' b' e first es rest inner ps os i m id found changed walk) =
    all_not_null_entry_unless_null e id os (all_emitted_not_null dirs' b' es ps os m walk)
all_emitted_not_null dirs bases entries below written_tree n (unchanged dirs' b' e first es rest inner ps os i m found same_base walk) =
    all_not_null_entry_unless_null e e.id os (all_emitted_not_null dirs' b' es ps os m walk)

pub written_is_storable : (dirs bases : Dirs) (entries : List EntryView) (below : List Pair) (written_tree : List EntryView) (n : ℕ)
    → EmitsEntries dirs bases entries below written_tree n
    → IsWellFormed entries → IsStorable written_tree
written_is_storable dirs bases entries below written_tree n walk formed = record {
  well_formed = record {
    names = all_emitted (λ e. IsEntryName e.name) (λ e id h. h) dirs bases entries below written_tree n walk formed.names;
    apart = walk_later (λ x y. x.name ≢ y.name) (λ e y id h. h) (λ x e id h. h) dirs bases entries below written_tree n walk formed.apart;
    ascending = walk_later ComesBefore (λ e y id h. h) (λ x e id h. h) dirs bases entries below written_tree n walk formed.ascending;
  };
  no_nulls = All-from_recursion (λ (e : EntryView). IsFalse (is_null e.id)) written_tree (all_emitted_not_null dirs bases entries below written_tree n walk);
}

-- what is open in a child
pub side_of_open_child : (side : Level → List EntryView) (child_if_any : Option (Bor Child)) (child : Bor Child) → child_if_any ≡ Some child
    → at_side side child.now.open ≡ child_side side (option_copied child_if_any)
side_of_open_child side child_if_any child is = sym (ap (λ (o : Option (Bor Child)). child_side side (option_copied o)) is)

-- a walk with one entry more
module _ (dirs bases inside based : Dirs) (items : List EntryView) (i : ℕ) (e : EntryView) (ps inner : List Pair) (acc kept : List EntryView)
    (count saved : ℕ)
    (low : i < length items) (is : e ≡ get_or items i e)
    (same : in_dir e.name dirs ≡ inside) (base : in_dir e.name bases ≡ based) (seen : EmitsEntry inside based e inner kept saved)
    (so_far : (qs : List Pair) (written_tree : List EntryView) (n : ℕ) → EmitsEntries dirs bases (drop i items) qs written_tree n
    → EmitsEntries dirs bases items (ps ++ qs) (acc ++ written_tree)
    (count + n)) where
  pub walk_goes : (qs : List Pair) (written_tree : List EntryView) (n : ℕ) → EmitsEntries dirs bases (drop (i + 1) items) qs written_tree n
      → EmitsEntries dirs bases items (ps ++ (inner ++ qs)) (acc ++ (kept ++ written_tree)) (count + (saved + n))
  walk_goes qs written_tree n walk =
      let here : drop i items ≡ e ∷ drop (i + 1) items = rw add-one (drop-cons items i e low ∙ ap (λ x. x ∷ drop (suc i) items) (sym is)) in
      so_far (inner ++ qs) (kept ++ written_tree) (saved + n) (subst (λ es. EmitsEntries dirs bases es (inner ++ qs) (kept ++ written_tree) (saved + n))
      (sym here)
      (seen dirs bases same base (drop (i + 1) items) qs written_tree n walk))

  pub walk_step : (next : List EntryView) → next ≡ acc ++ kept → (qs : List Pair) (written_tree : List EntryView) (n : ℕ)
      → EmitsEntries dirs bases (drop (i + 1) items) qs written_tree n → EmitsEntries dirs bases items ((ps ++ inner) ++ qs) (next ++ written_tree)
      (count + saved + n)
  walk_step next is_next qs written_tree n walk = walks_of_count (count + (saved + n)) (count + saved + n) (omega arith)
      (rw (is_next, append_assoc, append_assoc) (walk_goes qs written_tree n walk))

-- the end of a walk
pub walks_at_end : (dirs bases : Dirs) (items : List EntryView) (i : ℕ) (ps : List Pair) (acc : List EntryView) (count : ℕ) → length items ≤ i
    → ((qs : List Pair) (written_tree : List EntryView) (n : ℕ) → EmitsEntries dirs bases (drop i items) qs written_tree n
    → EmitsEntries dirs bases items (ps ++ qs) (acc ++ written_tree)
    (count + n))
    → EmitsEntries dirs bases items ps acc count
walks_at_end dirs bases items i ps acc count high so_far =
    let none : drop i items ≡ [] = drop_all i items high in
    let walk = so_far [] [] 0 (subst (λ es. EmitsEntries dirs bases es [] [] 0) (sym none) (end dirs bases)) in
    walks_of_count (count + 0) count (omega arith) (rw (append-nil, append-nil) at walk)

-- what is emitted below a directory is a prefix of what the directory emits, with itself
pub emits_some_append : (dirs bases : Dirs) (below : List Pair) (written_tree : List EntryView) (saved : ℕ) → EmitsBelow dirs bases below written_tree saved
    → (more : List Pair)
    × EmitsSome dirs bases (below ++ more)
emits_some_append dirs bases below written_tree saved found = (
  (Sha1 [], written_tree) ∷ [],
  (raised 0 saved, (below, Sha1 [], written_tree, (saved, found, refl), refl)),
)

-- a write that stops does so in equal open directories
pub stopped_of_same_dirs : {F E : Type 0} (gave : F → Pair → F → Type 0) (rejected : F → List EntryView → E → F → Type 0) (dirs dirs' bases bases' : Dirs)
    → dirs ≡ dirs' → bases ≡ bases' → (old new : F) (error : WriteError E)
    → IsWriteError gave rejected (EmitsSome dirs bases) old new error → IsWriteError gave rejected (EmitsSome dirs' bases') old new error
stopped_of_same_dirs gave rejected dirs dirs' bases bases' same same_bases old new error stopped =
    subst (λ (b : Dirs). IsWriteError gave rejected (EmitsSome dirs' b) old new error) same_bases
    (subst (λ (d : Dirs). IsWriteError gave rejected (EmitsSome d bases) old new error) same stopped)
