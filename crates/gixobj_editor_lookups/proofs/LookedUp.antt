-- The entry at the end of a path through directories is a file; the law `looked_up_file_exists` uses it.
use Rattle.std.proofs.Common.{◌≡◌, ◌++◌, ◌∷◌, ◌∙◌, ℕ, List, [], ap, arith, inl, inr, length, length-append, refl, subst, sym, true, false, None, Some}
use Rattle.std.specs.Prelude.{All, Bool, IsFalse, MatchOption, Option, if◌then◌else◌}
use Rattle.std.proofs.lemmas.List.Elements.{All-head, All-tail}
use Rattle.gixobj_store.specs.Lookups.{HasFirstNamed, IsPath, Name}
use Rattle.gixobj_store.specs.Stores.{Objects, StoredObject}
use Rattle.gixobj_hash.specs.Runs as runs
use Rattle.gixobj_hash.specs.Runs.{complete, yields_end, yields_piece}
use Rattle.gixobj_editor_files.specs.Files.{Below, Files, ContainsEntry, Table, Trees, is_null, resolves_to}
use Rattle.gixobj_editor_files.specs.Tables.{AgreesWithStore}
use Rattle.gixobj_hash.specs.Hash.{id_bytes}
use Rattle.gixobj_hash.specs.declared.hash.kind.Kind.{Kind}
use Rattle.gixobj_hash.specs.declared.hash.object_id.ObjectId.{ObjectId}
use Rattle.gixobj_tree_entries.proofs.EntryRuns.{yields_entries_iff}
use Rattle.gixobj_tree_entries.proofs.OneEntry.{entry_unique}
use Rattle.gixobj_tree_entries.specs.TreeDecoding.{BeginsWithEntry, EntryStep, DecodesToTree, YieldsEntries}
use Rattle.gixobj_tree_entries.specs.Entries.{EntryView}
use Rattle.gixobj_editor_lookups.specs.LookedUp.{IsDirectoryIn, IsFileIn, IsLookedUp}
use Rattle.gixobj_editor_lookups.specs.Openings.{AreTreesOf}

-- no entry begins with no bytes
nil_begins_with_no_entry : (kind : Kind) (e : EntryView) (rest : List ℕ) → BeginsWithEntry kind [] e rest → ⊥
nil_begins_with_no_entry kind e rest (content, joined, is) =
    omega (
      arith,
      ap length joined,
      length-append content rest,
      ap length is.joined,
      length-append is.digits (32 ∷ (e.name ++ 0 ∷ [])),
      length-append is.digits
          (32 ∷ (e.name ++ 0 ∷ id_bytes e.id)),
    )

-- an entry that comes after others is one of those that the iterator yields
contains_entry_after_consumed : (kind : Kind) (content here rest : List ℕ) (entries consumed : List EntryView) (e : EntryView)
    → YieldsEntries kind content entries complete
    → runs.BeginsWithPieces (EntryStep kind) tt content consumed tt here → BeginsWithEntry kind here e rest → ContainsEntry entries e
contains_entry_after_consumed kind content here rest entries [] e (yields_end _) (_, same) has =
    absurd (nil_begins_with_no_entry kind e rest (subst (λ (at : List ℕ). BeginsWithEntry kind at e rest) (sym same) has))
contains_entry_after_consumed kind content here rest entries [] e (yields_piece _ _ _ following x more _ first on) (_, same) has =
    inl (entry_unique kind content x e following rest first (subst (λ (at : List ℕ). BeginsWithEntry kind at e rest) (sym same) has)).0
contains_entry_after_consumed kind content here rest entries (p ∷ consumed) e (yields_end _) (_, after, first, on) has =
    absurd (nil_begins_with_no_entry kind p after first)
contains_entry_after_consumed kind content here rest entries (p ∷ consumed) e (yields_piece _ _ _ following x more _ first on) (_, after, other, way) has =
    let same = (entry_unique kind content p x after following other first).1 in
    inr (contains_entry_after_consumed kind following here rest more consumed e on
    (subst (λ (at : List ℕ). runs.BeginsWithPieces (EntryStep kind) tt at consumed tt here) same way) has)

contains_entry_of_first_named : (kind : Kind) (content : List ℕ) (entries : List EntryView) (name : Name) (e : EntryView) → DecodesToTree kind content entries
    → HasFirstNamed kind content name e → ContainsEntry entries e × (e.name ≡ name)
contains_entry_of_first_named kind content entries name e is ((_, _, here, rest, (consumed, on, none), has), said) =
    (contains_entry_after_consumed kind content here rest entries consumed e (yields_entries_iff kind content entries is) on has, said)

module _ (objects : Objects) (trees : Trees) (fits : AreTreesOf objects trees) (T : Table) (agrees : AgreesWithStore T trees) where
  filled : (id : ObjectId) → (is_null id ≡ true → ⊥) → IsFalse (is_null id)
  filled id some = elim (is_null id) as (λ b. is_null id ≡ b → IsFalse b) [ true ↦ λ null. absurd (some null) | false ↦ λ _. refl ] refl

  below_there : (n : ℕ) (more : List Name) (b e : EntryView) → (is : IsDirectoryIn objects b) → Files T n is.entries more e.mode e.id
      → Below T (Files T n) b.mode b.id more e.mode e.id
  below_there n more b e is file =
      let tree : resolves_to T b.mode b.id ≡ T.tree_at b.id = ap (λ (t : Bool). if t then T.tree_at b.id else None) is.tree in
      let there : T.tree_at b.id ≡ Some is.entries = agrees b.id is.entries is.searched ((fits b.id is.entries).1 is.named) in (
        filled b.id (λ null. is.searched (inl null)),
        subst (λ (it : Option (List EntryView)). MatchOption it ((more ≡ []) × (e.mode ≡ b.mode) × (e.id ≡ b.id))
            (λ entries. Files T n entries more e.mode e.id)) (sym (tree ∙ there)) file,
      )

  file_there : (first : StoredObject) (root : List EntryView) (names : List Name) (before : List EntryView) (e : EntryView)
      → DecodesToTree first.object_hash first.bytes root
      → IsPath objects (Some first) names (before ++ e ∷ []) → All (IsDirectoryIn objects) before → IsFileIn T e → Files T (length names) root names e.mode e.id
  file_there first root [] [] e is path dirs file = absurd path
  file_there first root [] (b ∷ before) e is path dirs file = absurd path
  file_there first root (name ∷ []) [] e is path dirs file =
      let (has, said) = contains_entry_of_first_named first.object_hash first.bytes root name e is path.0.1 in (
        e,
        has,
        said,
        (
          file.0,
          subst (λ (it : Option (List EntryView)). MatchOption it ((◌≡◌ {A = List Name} [] []) × (e.mode ≡ e.mode) × (e.id ≡ e.id))
              (λ entries. Files T 0 entries [] e.mode e.id)) (sym file.1) (refl, refl, refl),
        ),
      )
  file_there first root (name ∷ other ∷ more) [] e is path dirs file = absurd path.1
  file_there first root (name ∷ more) (b ∷ before) e is path dirs file =
      let (has, said) = contains_entry_of_first_named first.object_hash first.bytes root name b is path.0.1 in
      let directory = All-head (IsDirectoryIn objects) b before dirs in
      let ((kept, names, kind, content), well) = directory.named in
      let on : IsPath objects (Some kept) more (before ++ e ∷ []) =
      subst (λ (it : Option StoredObject). IsPath objects it more (before ++ e ∷ [])) names path.1 in (
        b,
        has,
        said,
        below_there (length more) more b e directory
            (file_there kept directory.entries more before e content on (All-tail (IsDirectoryIn objects) b before dirs) file),
      )

  pub file_looked_up : (kind : Kind) (content : List ℕ) (root : List EntryView) (names : List Name) (e : EntryView) → DecodesToTree kind content root
      → IsLookedUp objects kind content names e → IsFileIn T e → Files T (length names) root names e.mode e.id
  file_looked_up kind content root names e is (before, path, dirs) file = file_there _ root names before e is path dirs file
