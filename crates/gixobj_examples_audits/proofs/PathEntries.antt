-- Names lead to at most one entry, and those of a file of a stored tree lead to it; the laws on lookups use it.
-- `gix_object`'s law of trees has it that an input begins with at most one entry.
use Rattle.std.proofs.Common.{◌≡◌, ◌≢◌, ◌⊎◌, ◌∙◌, ◌++◌, ◌∷◌, ℕ, zero, suc, [], Bool, false, true, List, None, Option, Some, ⊎_elim, ap, inl, inr, refl, subst}
use Rattle.std.proofs.Common.{sym}
use Rattle.std.proofs.lemmas.List.Elements.{All-cons, All-head, All-nil, All-tail}
use Rattle.std.specs.Prelude.{All, IsFalse, MatchOption, if◌then◌else◌}
use Rattle.std.specs.List.{AllByRecursion, AllZip, concat}
use Rattle.gix_object.specs.Entries.{EntryView}
use Rattle.gix_object.specs.Files.{ContainsEntry, Files, Path, Table, Trees, is_null, resolves_to}
use Rattle.gix_object.specs.Hash.{id_kind, id_of}
use Rattle.gix_object.specs.LookedUp.{IsDirectoryIn, IsFileIn, IsLookedUp}
use Rattle.gix_object.specs.Lookups.{FoundIn, HasFirstNamed, IsNamed, IsPath, LeadsTo, Name}
use Rattle.gix_object.specs.Mode.{is_tree_mode}
use Rattle.gix_object.specs.Openings.{AreTreesOf, NamesTree}
use Rattle.gix_object.specs.Runs as runs
use Rattle.gix_object.specs.Stores.{Objects, StoredObject, named}
use Rattle.gix_object.specs.Tables.{IsNeverLookedUp, IsTableOfStore}
use Rattle.gix_object.specs.TreeDecoding.{BeginsWithEntry, DecodesToEntry, DecodesToTree, EntryStep}
use Rattle.gix_object.specs.WellFormed.{EachLater, IsWellFormed}
use Rattle.gix_object.specs.hash.hash.kind.Kind.{Kind}
use Rattle.gix_object.specs.hash.hash.object_id.ObjectId.{ObjectId}
use Rattle.gix_object.specs.hash.kind.Kind.TheVariants as kind

-- ---- names lead to one entry

-- an input begins with at most one entry
abbrev pub BeginsWithOneEntry : Type 0
BeginsWithOneEntry = (hash : Kind) (input : List ℕ) (e it : EntryView) (rest after : List ℕ) → BeginsWithEntry hash input e rest
    → BeginsWithEntry hash input it after → (e ≡ it) × (rest ≡ after)

-- this entry of the name comes after entries of other names
record Comes (hash : Kind) (input : List ℕ) (consumed : List EntryView) (name : Name) (e : EntryView) : Type 0 where
  here : List ℕ
  rest : List ℕ
  begins_with : runs.BeginsWithPieces (EntryStep hash) tt input consumed tt here
  begins : BeginsWithEntry hash here e rest
  others : All (λ x. ¬ IsNamed name x) consumed
  said : IsNamed name e

comes_of_first_named : (hash : Kind) (input : List ℕ) (name : Name) (e : EntryView) → HasFirstNamed hash input name e
    → (consumed : List EntryView) × Comes hash input consumed name e
comes_of_first_named hash input name e ((_, _, here, rest, (consumed, begins_with, others), begins), said) =
    (consumed, record { here = here; rest = rest; begins_with = begins_with; begins = begins; others = others; said = said })

-- by the law that an input begins with at most one entry
module _ (entry_unique : BeginsWithOneEntry) where
  -- an entry at the beginning has the name of the first consumed entry
  name_at_beginning : (hash : Kind) (input here rest after : List ℕ) (name : Name) (e x : EntryView) → input ≡ here → BeginsWithEntry hash here e rest
      → IsNamed name e → BeginsWithEntry hash input x after → IsNamed name x
  name_at_beginning hash input here rest after name e x same begins said first =
      sym (ap (λ (y : EntryView). y.name)
      (entry_unique hash input e x rest after (subst (λ (at : List ℕ). BeginsWithEntry hash at e rest) (sym same) begins) first).0) ∙ said

  comes_unique : (hash : Kind) (input : List ℕ) (name : Name) (consumed others : List EntryView) (e it : EntryView) → Comes hash input consumed name e
      → Comes hash input others name it → e ≡ it
  comes_unique hash input name [] [] e it one other =
      (entry_unique hash one.here e it one.rest other.rest one.begins
      (subst (λ (at : List ℕ). BeginsWithEntry hash at it other.rest) (sym other.begins_with.1 ∙ one.begins_with.1) other.begins)).0
  comes_unique hash input name [] (x ∷ others) e it one other =
      absurd (All-head (λ (y : EntryView). ¬ IsNamed name y) x others other.others
      (name_at_beginning hash input one.here one.rest other.begins_with.1 name e x one.begins_with.1 one.begins one.said other.begins_with.2))
  comes_unique hash input name (x ∷ consumed) [] e it one other =
      absurd (All-head (λ (y : EntryView). ¬ IsNamed name y) x consumed one.others
      (name_at_beginning hash input other.here other.rest one.begins_with.1 name it x other.begins_with.1 other.begins other.said one.begins_with.2))
  comes_unique hash input name (x ∷ consumed) (y ∷ others) e it one other =
      let same = (entry_unique hash input x y one.begins_with.1 other.begins_with.1 one.begins_with.2 other.begins_with.2).1 in
      comes_unique hash one.begins_with.1 name consumed others e it (record {
        here = one.here;
        rest = one.rest;
        begins_with = one.begins_with.3;
        begins = one.begins;
        others = All-tail (λ (z : EntryView). ¬ IsNamed name z) x consumed one.others;
        said = one.said;
      }) (record {
        here = other.here;
        rest = other.rest;
        begins_with = subst (λ (at : List ℕ). runs.BeginsWithPieces (EntryStep hash) tt at others tt other.here) (sym same) other.begins_with.3;
        begins = other.begins;
        others = All-tail (λ (z : EntryView). ¬ IsNamed name z) y others other.others;
        said = other.said;
      })

  found_unique : (first : Option StoredObject) (name : Name) (e it : EntryView) → FoundIn first name e → FoundIn first name it → e ≡ it
  found_unique None name e it one other = absurd one
  found_unique (Some tree) name e it one other =
      let (consumed, comes) = comes_of_first_named tree.object_hash tree.bytes name e one.1 in
      let (others, also) = comes_of_first_named tree.object_hash tree.bytes name it other.1 in
      comes_unique tree.object_hash tree.bytes name consumed others e it comes also

  no_path_of_nil : (objects : Objects) (first : Option StoredObject) (before : List EntryView) (e : EntryView) → IsPath objects first [] (before ++ e ∷ []) → ⊥
  no_path_of_nil objects first [] e path = path
  no_path_of_nil objects first (b ∷ before) e path = path

  paths_unique : (objects : Objects) (first : Option StoredObject) (names : List Name) (before others : List EntryView) (e it : EntryView)
      → IsPath objects first names (before ++ e ∷ []) → IsPath objects first names (others ++ it ∷ []) → e ≡ it
  paths_unique objects first [] before others e it one other = absurd (no_path_of_nil objects first before e one)
  paths_unique objects first (name ∷ names) [] [] e it one other = found_unique first name e it one.0 other.0
  paths_unique objects first (name ∷ []) [] (o ∷ others) e it one other = absurd (no_path_of_nil objects (named objects o.id) others it other.1)
  paths_unique objects first (name ∷ next ∷ names) [] (o ∷ others) e it one other = absurd one.1
  paths_unique objects first (name ∷ []) (b ∷ before) others e it one other = absurd (no_path_of_nil objects (named objects b.id) before e one.1)
  paths_unique objects first (name ∷ next ∷ names) (b ∷ before) [] e it one other = absurd other.1
  paths_unique objects first (name ∷ next ∷ names) (b ∷ before) (o ∷ others) e it one other =
      let same = found_unique first name b o one.0 other.0 in
      paths_unique objects (named objects b.id) (next ∷ names) before others e it one.1
      (subst (λ (x : EntryView). IsPath objects (named objects x.id) (next ∷ names) (others ++ it ∷ [])) (sym same) other.1)

  pub leads_to_unique : (objects : Objects) (first : Option StoredObject) (names : List Name) (e it : EntryView) → LeadsTo objects first names e
      → LeadsTo objects first names it → e ≡ it
  leads_to_unique objects first names e it (before, one) (others, other) = paths_unique objects first names before others e it one other

-- ---- the names of a file lead to it

of_contained : (P : EntryView → Type 0) (xs : List EntryView) (e : EntryView) → AllByRecursion P xs → ContainsEntry xs e → P e
of_contained P [] e all has = absurd has
of_contained P (x ∷ xs) e all (inl is) = subst P is all.0
of_contained P (x ∷ xs) e all (inr has) = of_contained P xs e all.1 has

-- an entry of a list without equal names is the first of its name
first_of_contained : (hash : Kind) (entries : List EntryView) (encodings : List (List ℕ)) (e : EntryView)
    → AllZip (DecodesToEntry hash) entries encodings → EachLater (λ x y. x.name ≢ y.name) entries → ContainsEntry entries e
    → runs.FindsFirst (EntryStep hash) (IsNamed e.name) tt (concat encodings) e
first_of_contained hash [] encodings e all apart has = absurd has
first_of_contained hash (x ∷ xs) [] e all apart has = absurd all
first_of_contained hash (x ∷ xs) (t ∷ ts) e all apart (inl is) = (
  tt,
  tt,
  t ++ concat ts,
  concat ts,
  ([], (refl, refl), All-nil (λ (y : EntryView). IsNamed e.name y → ⊥)),
  (t, refl, subst (λ (y : EntryView). DecodesToEntry hash y t) is all.0),
)
first_of_contained hash (x ∷ xs) (t ∷ ts) e all apart (inr has) =
    let (before, following, here, rest, (consumed, on, none), comes) = first_of_contained hash xs ts e all.1 apart.1 has in
    let other : x.name ≡ e.name → ⊥ = of_contained (λ (y : EntryView). x.name ≢ y.name) xs e apart.0 has in (
      before,
      following,
      here,
      rest,
      (x ∷ consumed, (tt, concat ts, (t, refl, all.0), on), All-cons (λ (y : EntryView). IsNamed e.name y → ⊥) x consumed other none),
      comes,
    )

pub no_file_in_nil : (T : Table) (n : ℕ) (path : Path) (mode : ℕ) (id : ObjectId) → Files T n [] path mode id → ⊥
no_file_in_nil T zero path mode id file = file
no_file_in_nil T (suc n) [] mode id file = file
no_file_in_nil T (suc n) (name ∷ path) mode id file = file.1

null_of_not_null : (b : Bool) → IsFalse b → b ≡ true → ⊥
null_of_not_null true not_null is = absurd (cc not_null)
null_of_not_null false not_null is = absurd (cc is)

-- a mode and an id that resolve to a tree are those of a directory
record Resolved (T : Table) (mode : ℕ) (id : ObjectId) (entries : List EntryView) : Type 0 where
  tree : is_tree_mode mode ≡ true
  there : T.tree_at id ≡ Some entries

resolved : (T : Table) (mode : ℕ) (id : ObjectId) (entries : List EntryView) → resolves_to T mode id ≡ Some entries → Resolved T mode id entries
resolved T mode id entries is = by_mode (is_tree_mode mode) refl is
  where
    by_mode : (b : Bool) → is_tree_mode mode ≡ b → (if b then T.tree_at id else None) ≡ Some entries → Resolved T mode id entries
    by_mode true tree there = record { tree = tree; there = there }
    by_mode false tree there = absurd (cc there)

-- an id is never looked up, or it is; by the law that ids are equal or not
never_looked_up_or_not : ((x y : ObjectId) → (x ≡ y) ⊎ (x ≢ y)) → (id : ObjectId) → IsNeverLookedUp id ⊎ (¬ IsNeverLookedUp id)
never_looked_up_or_not same_or_not id = by_null (is_null id) refl
  where
    by_null : (b : Bool) → is_null id ≡ b → IsNeverLookedUp id ⊎ (¬ IsNeverLookedUp id)
    by_null true is = inl (inl is)
    by_null false is = ⊎_elim (λ empty. inl (inr empty)) (λ filled. inr (⊎_elim (λ null. absurd (cc (null, is))) filled))
        (same_or_not id (id_of (id_kind id) kind.Tree []))

module _ (same_or_not : (x y : ObjectId) → (x ≡ y) ⊎ (x ≢ y)) (objects : Objects) (trees : Trees) (fits : AreTreesOf objects trees) (T : Table)
    (own : IsTableOfStore T trees) where
  -- the object of a directory's id
  record IsKept (id : ObjectId) (entries : List EntryView) : Type 0 where
    kept : StoredObject
    names : named objects id ≡ Some kept
    tree : kept.kind ≡ kind.Tree
    decodes : DecodesToTree kept.object_hash kept.bytes entries
    well_formed : IsWellFormed entries
    tree_of_id : NamesTree objects id entries

  kept_by : (id : ObjectId) (entries : List EntryView) → (¬ IsNeverLookedUp id) → T.tree_at id ≡ Some entries → IsKept id entries
  kept_by id entries searched there =
      let its = (fits id entries).0 (sym (own id searched) ∙ there) in
      let ((kept, names, tree, decodes), well_formed) = its in
      record { kept = kept; names = names; tree = tree; decodes = decodes; well_formed = well_formed; tree_of_id = its }

  empty_at : (id : ObjectId) (entries : List EntryView) → IsFalse (is_null id) → IsNeverLookedUp id → T.tree_at id ≡ Some entries → [] ≡ entries
  empty_at id entries filled (inl null) there = absurd (null_of_not_null (is_null id) filled null)
  empty_at id entries filled (inr empty) there =
      let both : Some [] ≡ Some entries = sym (T.none_in_empty (id_kind id)) ∙ (sym (ap (λ (i : ObjectId). T.tree_at i) empty) ∙ there) in cc both

  -- the names lead through directories to an entry that is this file
  record IsThere (first : StoredObject) (path : Path) (mode : ℕ) (id : ObjectId) : Type 0 where
    entry : EntryView
    before : List EntryView
    way : IsPath objects (Some first) path (before ++ entry ∷ [])
    directories : All (IsDirectoryIn objects) before
    file : IsFileIn T entry
    its_mode : entry.mode ≡ mode
    its_id : entry.id ≡ id

  -- the files of directories are found to this depth
  abbrev Next : ℕ → Path → ℕ → ObjectId → Type 0
  Next n path mode id = (kept : StoredObject) (entries : List EntryView) → kept.kind ≡ kind.Tree → DecodesToTree kept.object_hash kept.bytes entries
      → IsWellFormed entries → Files T n entries path mode id → IsThere kept path mode id

  there_through : (first : StoredObject) (n : ℕ) (name : List ℕ) (path : Path) (mode : ℕ) (id : ObjectId) → Next n path mode id → (e : EntryView)
      → FoundIn (Some first) name e → IsFalse (is_null e.id) → (entries : List EntryView) → Resolved T e.mode e.id entries
      → IsNeverLookedUp e.id ⊎ (¬ IsNeverLookedUp e.id) → Files T n entries path mode id → IsThere first (name ∷ path) mode id
  there_through first n name path mode id next e found filled entries at (inl never) file =
      absurd (no_file_in_nil T n path mode id
      (subst (λ (es : List EntryView). Files T n es path mode id) (sym (empty_at e.id entries filled never at.there)) file))
  there_through first n name path mode id next e found filled entries at (inr searched) file =
      let it = kept_by e.id entries searched at.there in
      let r = next it.kept entries it.tree it.decodes it.well_formed file in
      record {
        entry = r.entry;
        before = e ∷ r.before;
        way = (found, subst (λ (o : Option StoredObject). IsPath objects o path (r.before ++ r.entry ∷ [])) (sym it.names) r.way);
        directories = All-cons (IsDirectoryIn objects) e r.before
            (record { tree = at.tree; searched = searched; entries = entries; named = it.tree_of_id }) r.directories;
        file = r.file;
        its_mode = r.its_mode;
        its_id = r.its_id;
      }

  there_from : (first : StoredObject) (n : ℕ) (name : List ℕ) (path : Path) (mode : ℕ) (id : ObjectId) → Next n path mode id → (e : EntryView)
      → FoundIn (Some first) name e → IsFalse (is_null e.id) → (target : Option (List EntryView)) → resolves_to T e.mode e.id ≡ target
      → MatchOption target ((path ≡ []) × (mode ≡ e.mode) × (id ≡ e.id)) (λ entries. Files T n entries path mode id) → IsThere first (name ∷ path) mode id
  there_from first n name path mode id next e found filled None is (ends, that_mode, that_id) = record {
    entry = e;
    before = [];
    way = subst (λ (p : Path). IsPath objects (Some first) (name ∷ p) (e ∷ [])) (sym ends) (found, tt);
    directories = All-nil (IsDirectoryIn objects);
    file = (filled, is);
    its_mode = sym that_mode;
    its_id = sym that_id;
  }
  there_from first n name path mode id next e found filled (Some entries) is file =
      there_through first n name path mode id next e found filled entries (resolved T e.mode e.id entries is) (never_looked_up_or_not same_or_not e.id) file

  there : (n : ℕ) (path : Path) (mode : ℕ) (id : ObjectId) (first : StoredObject) (root : List EntryView) → first.kind ≡ kind.Tree
      → DecodesToTree first.object_hash first.bytes root → IsWellFormed root → Files T n root path mode id → IsThere first path mode id
  there zero path mode id first root tree decodes well_formed file = absurd file
  there (suc n) [] mode id first root tree decodes well_formed file = absurd file
  there (suc n) (name ∷ path) mode id first root tree (encodings, joined, all) well_formed (e, has, said, (filled, below)) =
      let finds = subst (λ (bytes : List ℕ). runs.FindsFirst (EntryStep first.object_hash) (IsNamed e.name) tt bytes e) (sym joined)
      (first_of_contained first.object_hash root encodings e all well_formed.apart has) in
      let found : HasFirstNamed first.object_hash first.bytes name e =
      subst (λ (s : List ℕ). HasFirstNamed first.object_hash first.bytes s e) said (finds, refl) in
      there_from first n name path mode id (there n path mode id) e (tree, found) filled (resolves_to T e.mode e.id) refl below

  pub looked_up_of_file : (hash : Kind) (content : List ℕ) (root : List EntryView) → DecodesToTree hash content root → IsWellFormed root
      → (n : ℕ) (names : List Name) (mode : ℕ) (id : ObjectId) → Files T n root names mode id
      → (e : EntryView) × IsLookedUp objects hash content names e × IsFileIn T e × (e.mode ≡ mode) × (e.id ≡ id)
  looked_up_of_file hash content root is well_formed n names mode id file =
      let r = there n names mode id (record { kind = kind.Tree; object_hash = hash; bytes = content }) root refl is well_formed file in
      (r.entry, (r.before, r.way, r.directories), r.file, r.its_mode, r.its_id)
