-- The entry that a lookup finds in the tree of the last commit is the file that the steps made; the proof of `entry_after_import` uses it.
use Rattle.std.proofs.Common.{◌≡◌, ◌<◌, ◌↔◌, ◌∙◌, ◌++◌, ◌∷◌, ℕ, suc, [], Err, List, None, Ok, Option, Result, Some, ap, arith, inl, inr, length, refl}
use Rattle.std.proofs.Common.{subst, sym}
use Rattle.std.proofs.lemmas.Bool.{false≢true}
use Rattle.std.proofs.lemmas.List.{length-append, take_all}
use Rattle.std.specs.Prelude.{IfErr, IfOk, IsErrAnd, IsSome, IsSomeAnd, MatchOption, slice_get}
use Rattle.gix_object.specs.Entries.{EntryView}
use Rattle.gix_object.specs.EntrySteps.{IsAtEntry}
use Rattle.gix_object.specs.Files.{Files, NamedFiles, SameFiles, Table, Trees}
use Rattle.gix_object.specs.Hash.{id_kind}
use Rattle.gix_object.specs.History.{FilesAfter}
use Rattle.gix_object.specs.Imports.{AgreesWithImports, HaveFilesOfNothing, edits_of}
use Rattle.gix_object.specs.LookedUp.{IsFileIn, IsLookedUp}
use Rattle.gix_object.specs.Lookups.{IsAtPath, LeadsTo, Name, remaining_tree}
use Rattle.gix_object.specs.Openings.{AreTreesOf}
use Rattle.gix_object.specs.PlainHistory.{NoFiles}
use Rattle.gix_object.specs.Steps.{AreImported}
use Rattle.gix_object.specs.Stores.{Objects, StoreModel, StoredObject}
use Rattle.gix_object.specs.Tables.{IsNeverLookedUp, IsTableOfStore}
use Rattle.gix_object.specs.TreeDecoding.{DecodesToTree}
use Rattle.gix_object.specs.WellFormed.{IsWellFormed}
use Rattle.gix_object.specs.hash.hash.kind.Kind.{Kind}
use Rattle.gix_object.specs.hash.hash.object_id.ObjectId.{ObjectId}
use Rattle.gix_object.specs.hash.kind.Kind.TheVariants.{Tree}
use Rattle.gix_object.specs.import.import.Imported.{Imported}
use Rattle.gix_object.specs.import.import.Importer.{Importer}
use Rattle.gix_object.specs.import.import.Step.{Step}
use Rattle.gix_object.specs.store.tree.TreeRefIter.{TreeRefIter}
use Rattle.gixobj_examples_audits.proofs.PathEntries.{no_file_in_nil}
use Rattle.gixobj_examples_audits.specs.Imports.{IsEntryAfterImport, IsFoundIn, IsFoundInError, IsImportOf, IsLookupError}
use Rattle.gixobj_examples_audits.specs.declared.imports.LookupError.{LookupError}
use Rattle.gixobj_examples_audits.specs.declared.imports.LookupError.TheVariants as lookup

pub remaining_tree_at_start : (reader : TreeRefIter) (tree : StoredObject) → tree.kind ≡ Tree → IsAtEntry tree.object_hash tree.bytes reader
    → remaining_tree reader ≡ tree
remaining_tree_at_start reader tree kind start i = record { kind = sym kind i; object_hash = (start i).kind; bytes = (start i).bytes }

-- a property of an error, from an equal error
pub if_err_of : {A E : Type 0} (r : Result A E) (e : E) (P : E → Type 0) → IsErrAnd r (λ x. x ≡ e) → P e → IfErr r P
if_err_of (Ok x) e P is p = tt
if_err_of (Err x) e P is p = subst P (sym is) p

-- a list without a last item is empty
pub nil_of_popped : (xs : List Imported) (popped : Option Imported) (count : ℕ) → count ≡ length xs → IsSome popped ↔ (0 < count) → popped ≡ None → xs ≡ []
nil_of_popped [] popped count counted some is = refl
nil_of_popped (x ∷ xs) None count counted some is = absurd (false≢true (some.1 (omega (arith, counted))))
nil_of_popped (x ∷ xs) (Some last) count counted some is = absurd (cc is)

-- ---- the files of the last import

imported_lengths : {S : Type 0} (model : StoreModel S) (old new : Importer S) (steps : List Step) (imported : List Imported)
    → AreImported model old steps imported new → length imported ≡ length steps
imported_lengths model old new [] [] are = refl
imported_lengths model old new (step ∷ steps) (it ∷ imported) (between, first, rest) = ap suc (imported_lengths model between new steps imported rest)
imported_lengths model old new [] (it ∷ imported) are = absurd are
imported_lengths model old new (step ∷ steps) [] are = absurd are

slice_get_last : (before : List Imported) (last : Imported) → slice_get (before ++ last ∷ []) (length before) ≡ Some last
slice_get_last [] last = refl
slice_get_last (it ∷ before) last = slice_get_last before last

files_of_last : (objects : Objects) (steps : List Step) (imported before : List Imported) (last : Imported) → imported ≡ before ++ last ∷ []
    → length imported ≡ length steps → HaveFilesOfNothing objects steps imported
    → (T : Table) (n : ℕ) → AgreesWithImports T objects None steps imported
    → SameFiles (NamedFiles T n last.written.id) (FilesAfter T n (edits_of steps) NoFiles)
files_of_last objects steps imported before last is one_each files T n agrees =
    let count : length steps ≡ suc (length before) = sym one_each ∙ ap length is ∙ length-append before (last ∷ []) ∙ omega arith in
    let at : slice_get imported (length before) ≡ Some last = ap (λ (all : List Imported). slice_get all (length before)) is ∙ slice_get_last before last in
    subst (λ (ss : List Step). SameFiles (NamedFiles T n last.written.id) (FilesAfter T n (edits_of ss) NoFiles))
    (take_all (suc (length before)) steps (omega (arith, count)))
    (files T n agrees (length before) last at)

-- ---- a file of a tree that an id names

-- a file of the tree that an id names is one of the entries of the table's tree; that tree is looked up
record IsNamedFile (T : Table) (n : ℕ) (root : ObjectId) (names : List Name) (mode : ℕ) (id : ObjectId) : Type 0 where
  entries : List EntryView
  there : T.tree_at root ≡ Some entries
  file : Files T n entries names mode id
  searched : ¬ IsNeverLookedUp root

named_file : (T : Table) (n : ℕ) (root : ObjectId) (names : List Name) (mode : ℕ) (id : ObjectId) → NamedFiles T n root names mode id
    → IsNamedFile T n root names mode id
named_file T n root names mode id file = at_root (T.tree_at root) refl file
  where
    not_never : (entries : List EntryView) → T.tree_at root ≡ Some entries → Files T n entries names mode id → IsNeverLookedUp root → ⊥
    not_never entries there file (inl null) = let both : None ≡ Some entries = sym (T.nothing_by_null root null) ∙ there in absurd (cc both)
    not_never entries there file (inr empty) =
        let both : Some [] ≡ Some entries = sym (T.none_in_empty (id_kind root)) ∙ (sym (ap (λ (i : ObjectId). T.tree_at i) empty) ∙ there) in
        let none : [] ≡ entries = cc both in
        no_file_in_nil T n names mode id (subst (λ (es : List EntryView). Files T n es names mode id) (sym none) file)

    at_root : (found : Option (List EntryView)) → T.tree_at root ≡ found → MatchOption found ⊥ (λ entries. Files T n entries names mode id)
        → IsNamedFile T n root names mode id
    at_root None there file = absurd file
    at_root (Some entries) there file = record { entries = entries; there = there; file = file; searched = not_never entries there file }

-- the laws of the crate that a path leads to at most one entry, and that a file is found by a lookup of its path
abbrev OneEntry : Type 0
OneEntry = (objects : Objects) (first : Option StoredObject) (names : List Name) (e other : EntryView) → LeadsTo objects first names e
    → LeadsTo objects first names other → e ≡ other

abbrev FilesAreLookedUp : Type 0
FilesAreLookedUp = (objects : Objects) (trees : Trees) → AreTreesOf objects trees → (T : Table) → IsTableOfStore T trees
    → (kind : Kind) (bytes : List ℕ) (root : List EntryView) → DecodesToTree kind bytes root → IsWellFormed root
    → (n : ℕ) (names : List Name) (mode : ℕ) (id : ObjectId) → Files T n root names mode id
    → (e : EntryView) × IsLookedUp objects kind bytes names e × IsFileIn T e × (e.mode ≡ mode) × (e.id ≡ id)

-- the entry at the end of a lookup is the only one to which its names lead
entry_of_found : OneEntry → (objects : Objects) (tree : StoredObject) (names : List Name) (e : EntryView) (found : Option EntryView) (mode : ℕ) (id : ObjectId)
    → LeadsTo objects (Some tree) names e → e.mode ≡ mode → e.id ≡ id → IsAtPath objects (Some tree) names found
    → IsSomeAnd found (λ x. (x.mode ≡ mode) × (x.id ≡ id))
entry_of_found one_entry objects tree names e None mode id leads its_mode its_id none = absurd (none e leads)
entry_of_found one_entry objects tree names e (Some other) mode id leads its_mode its_id led =
    let same = one_entry objects (Some tree) names e other leads led in
    (ap (λ (x : EntryView). x.mode) (sym same) ∙ its_mode, ap (λ (x : EntryView). x.id) (sym same) ∙ its_id)

-- a file of a stored tree is found by the lookup of its path
found_of_named_file : OneEntry → FilesAreLookedUp → (objects : Objects) (trees : Trees) → AreTreesOf objects trees
    → (T : Table) → IsTableOfStore T trees → (n : ℕ) (root : ObjectId) (names : List Name) (mode : ℕ) (id : ObjectId)
    → NamedFiles T n root names mode id → (found : Option EntryView) → IsFoundIn objects root names found
    → IsSomeAnd found (λ e. (e.mode ≡ mode) × (e.id ≡ id))
found_of_named_file one_entry looked_up objects trees fits T own n root names mode id file found (tree, named_so, kind, at) =
    let it = named_file T n root names mode id file in
    let ((kept, kept_so, kept_kind, decodes), well_formed) = (fits root it.entries).0 (sym (own root it.searched) ∙ it.there) in
    let both : Some kept ≡ Some tree = sym kept_so ∙ named_so in
    let same : kept ≡ tree = cc both in
    let (e, (before, way, directories), is_file, its_mode, its_id) = looked_up objects trees fits T own kept.object_hash kept.bytes
    it.entries decodes well_formed n names mode id it.file in
    let entire : record { kind = Tree; object_hash = kept.object_hash; bytes = kept.bytes } ≡ kept =
    λ i. record { kind = sym kept_kind i; object_hash = kept.object_hash; bytes = kept.bytes } in
    let leads : LeadsTo objects (Some tree) names e = subst (λ (o : StoredObject). LeadsTo objects (Some o) names e) (entire ∙ same) (before, way) in
    entry_of_found one_entry objects tree names e found mode id leads its_mode its_id at

-- ---- the entry after an import

module _ {S : Type 0} (model : StoreModel S) (store : S) (hash : Kind) (steps : List Step) (names : List Name)
    (one_entry : OneEntry) (looked_up : FilesAreLookedUp) (imported : List Imported) (done : IsImportOf model store hash steps imported)
    (files : HaveFilesOfNothing (model.objects store) steps imported) where
  pub entry_of_last : (before : List Imported) (last : Imported) (found : Option EntryView) → imported ≡ before ++ last ∷ []
      → IsFoundIn (model.objects done.after.editor.store) last.written.id names found
      → IsEntryAfterImport model store hash steps names found
  entry_of_last before last found is there = record {
    imported = imported;
    done = done;
    none = λ nothing. let none : [] ≡ before ++ last ∷ [] = sym nothing ∙ is in absurd (not_nil before last none);
    lookup = λ others other is_other.
        let same : last ≡ other = last_unique before others last other (sym is ∙ is_other) in
        subst (λ (x : Imported). IsFoundIn (model.objects done.after.editor.store) x.written.id names found) same there;
    entry = λ trees fits T n mode id own agrees file.
        let one_each = imported_lengths model done.start done.after steps imported done.imported_steps in
        let its_file = (files_of_last (model.objects store) steps imported before last is one_each files T n agrees names mode id).1 file in
        found_of_named_file one_entry looked_up (model.objects done.after.editor.store) trees fits T own n last.written.id names mode id its_file found there;
  }
    where
      not_nil : (before : List Imported) (last : Imported) → [] ≡ before ++ last ∷ [] → ⊥
      not_nil [] last none = absurd (cc none)
      not_nil (it ∷ before) last none = absurd (cc none)

      last_unique : (before others : List Imported) (last other : Imported) → before ++ last ∷ [] ≡ others ++ other ∷ [] → last ≡ other
      last_unique [] [] last other same = cc same
      last_unique [] (o ∷ []) last other same = absurd (cc same)
      last_unique [] (o ∷ p ∷ others) last other same = absurd (cc same)
      last_unique (b ∷ []) [] last other same = absurd (cc same)
      last_unique (b ∷ c ∷ before) [] last other same = absurd (cc same)
      last_unique (b ∷ before) (o ∷ others) last other same = last_unique before others last other (cc same)

  pub entry_of_last_result : (before : List Imported) (last : Imported) → imported ≡ before ++ last ∷ [] → (r : Result (Option EntryView) LookupError)
      → IfOk r (IsFoundIn (model.objects done.after.editor.store) last.written.id names) → IfOk r (IsEntryAfterImport model store hash steps names)
  entry_of_last_result before last is (Ok found) there = entry_of_last before last found is there
  entry_of_last_result before last is (Err error) there = tt

  pub lookup_error_of_last : (before : List Imported) (last : Imported) → imported ≡ before ++ last ∷ [] → (r : Result (Option EntryView) LookupError)
      → IfErr r (IsFoundInError (model.objects done.after.editor.store) (model.may_fail done.after.editor.store) last.written.id names)
      → IfErr r (IsLookupError model store hash steps names)
  lookup_error_of_last before last is (Ok found) rejects = tt
  lookup_error_of_last before last is (Err (lookup.Import error)) rejects = absurd rejects
  lookup_error_of_last before last is (Err error) rejects = (
    before,
    last,
    record {
      start = done.start;
      after = done.after;
      is_new = done.is_new;
      over = done.over;
      ids = done.ids;
      imported_steps = subst (λ (all : List Imported). AreImported model done.start steps all done.after) is done.imported_steps;
    },
    rejects,
  )

  pub entry_of_none : imported ≡ [] → IsEntryAfterImport model store hash steps names None
  entry_of_none is = record {
    imported = imported;
    done = done;
    none = λ nothing. refl;
    lookup = λ before last is_last. let none : [] ≡ before ++ last ∷ [] = sym is ∙ is_last in absurd (not_nil before last none);
    entry = λ trees fits T n mode id own agrees file.
        let one_each : 0 ≡ length steps = ap length (sym is) ∙ imported_lengths model done.start done.after steps imported done.imported_steps in
        absurd (no_file steps one_each T n mode id file);
  }
    where
      not_nil : (before : List Imported) (last : Imported) → [] ≡ before ++ last ∷ [] → ⊥
      not_nil [] last none = absurd (cc none)
      not_nil (it ∷ before) last none = absurd (cc none)

      no_file : (ss : List Step) → 0 ≡ length ss → (T : Table) (n mode : ℕ) (id : ObjectId) → FilesAfter T n (edits_of ss) NoFiles names mode id → ⊥
      no_file [] none T n mode id file = file
      no_file (s ∷ ss) none T n mode id file = absurd (cc none)
