-- Canonical roots of two stores have equal ids if and only if they have the same files; the law
-- `equal_files_have_equal_ids` uses it. Both laws of the parameters are those of `gix_object`.
use Rattle.std.proofs.Common.{◌≡◌, ◌≢◌, ◌↔◌, inl, inr, ℕ, zero, suc, true, false, List, [], ◌∷◌, ◌++◌, Option, Some, None, refl, sym, ap, subst, ◌∙◌}
use Rattle.std.specs.Prelude.{MatchOption}
use Rattle.std.proofs.lemmas.List.Elements.{All-contains, All-from_recursion, Contains-append_left, Contains-append_right}
use Rattle.gix_object.proofs.Files.{same_files_sym, same_files_trans}
use Rattle.gix_object.specs.BuiltTrees.{BuiltTreesAreUnique, DirectoryHasFilesOfTree}
use Rattle.gix_object.specs.Entries.{EntryView, Pair}
use Rattle.gix_object.specs.Files.{Below, ContainsEntry, Files, NamedFiles, SameFiles, Table, Trees, resolves_to}
use Rattle.gix_object.specs.Hash.{id_kind}
use Rattle.gix_object.specs.Mode.{is_tree_mode}
use Rattle.gix_object.specs.Tables.{AgreesWithPairs, AgreesWithStore, HasOneIdPerTree}
use Rattle.gix_object.specs.hash.hash.kind.Kind.{Kind}
use Rattle.gix_object.specs.hash.hash.object_id.ObjectId.{ObjectId}
use Rattle.gixobj_examples_audits.specs.Canonical.{AgreesWithBoth, IsCanonicalTree, IsCanonicalEntry, IsCanonicalRoot}
use Rattle.gixobj_examples_audits.proofs.BuiltTrees.{IsBuiltOfKnown, all_joined, all_of_contains, is_built_of_canonical, is_built_within, some_of_match}

-- ---- the files of a canonical tree are the same in each table that agrees with its store

module _ (directory_has_files : DirectoryHasFilesOfTree) (T U : Table) where
  leaf_is_in_both : (k : ℕ) (mode : ℕ) (id : ObjectId) → is_tree_mode mode ≡ false → SameFiles (Below T (Files T k) mode id) (Below U (Files U k) mode id)
  leaf_is_in_both k m named leaf path mode id =
      let in_t : resolves_to T m named ≡ None = rw leaf refl in
      let in_u : resolves_to U m named ≡ None = rw leaf refl in
      let AtT : Option (List EntryView) → Type 0 = λ o. MatchOption o ((path ≡ []) × (mode ≡ m) × (id ≡ named)) (λ l. Files T k l path mode id) in
      let AtU : Option (List EntryView) → Type 0 = λ o. MatchOption o ((path ≡ []) × (mode ≡ m) × (id ≡ named)) (λ l. Files U k l path mode id) in
      ((λ h. (h.0, subst AtU (sym in_u) (subst AtT in_t h.1))), λ h. (h.0, subst AtT (sym in_t) (subst AtU in_u h.1)))

  module _ (trees : Trees) (hash : Kind) (in_t : AgreesWithStore T trees) (in_u : AgreesWithStore U trees) where
    entry_is_in_both : (IsIts : List EntryView → Type 0) (k : ℕ) → ((tree : List EntryView) → IsIts tree → SameFiles (Files T k tree) (Files U k tree))
        → (e : EntryView) → IsCanonicalEntry trees hash IsIts e → SameFiles (Below T (Files T k) e.mode e.id) (Below U (Files U k) e.mode e.id)
    entry_is_in_both IsIts k deep e (filled, is) =
        elim (is_tree_mode e.mode) as (λ b. is_tree_mode e.mode ≡ b → SameFiles (Below T (Files T k) e.mode e.id) (Below U (Files U k) e.mode e.id)) [
          | true ↦ λ t.
              let it = some_of_match (trees e.id) (λ entries. (entries ≢ []) × IsIts entries) (is t).1.tree in
              same_files_trans (Below T (Files T k) e.mode e.id) (Files T k it.0) (Below U (Files U k) e.mode e.id)
              (directory_has_files T k e.mode e.id it.0 t (in_t e.id it.0 (is t).1.looked_up it.1))
              (same_files_trans (Files T k it.0) (Files U k it.0) (Below U (Files U k) e.mode e.id) (deep it.0 it.2.1)
              (same_files_sym (Below U (Files U k) e.mode e.id) (Files U k it.0)
              (directory_has_files U k e.mode e.id it.0 t (in_u e.id it.0 (is t).1.looked_up it.1))))
          | false ↦ leaf_is_in_both k e.mode e.id
        ] refl

    pub canonical_files_are_in_both : (n : ℕ) (es : List EntryView) → IsCanonicalTree trees hash n es → (k : ℕ) → SameFiles (Files T k es) (Files U k es)
    canonical_files_are_in_both zero es h k path mode id = absurd h
    canonical_files_are_in_both (suc n) es h zero path mode id = ((λ f. f), λ f. f)
    canonical_files_are_in_both (suc n) es h (suc k) [] mode id = ((λ f. f), λ f. f)
    canonical_files_are_in_both (suc n) es (formed, all) (suc k) (name ∷ path) mode id =
        let entry : (e : EntryView) → ContainsEntry es e → SameFiles (Below T (Files T k) e.mode e.id) (Below U (Files U k) e.mode e.id) = λ e h.
        entry_is_in_both (IsCanonicalTree trees hash n) k (λ tree is. canonical_files_are_in_both n tree is k) e
        (all_of_contains (IsCanonicalEntry trees hash (IsCanonicalTree trees hash n)) es all e h) in
        ((λ f. (f.0, f.1, f.2, (entry f.0 f.1 path mode id).0 f.3)), λ f. (f.0, f.1, f.2, (entry f.0 f.1 path mode id).1 f.3))

-- ---- roots

-- the canonical tree of a root, which each table that agrees with its store has by the root's id
record HasRoot (trees : Trees) (hash : Kind) (id : ObjectId) : Type 0 where
  depth : ℕ
  tree : List EntryView
  canonical : IsCanonicalTree trees hash depth tree
  named : (T : Table) → AgreesWithStore T trees → T.tree_at id ≡ Some tree

has_root_of_canonical : (trees : Trees) (hash : Kind) (n : ℕ) (id : ObjectId) → IsCanonicalRoot trees hash n id → HasRoot trees hash id
has_root_of_canonical trees hash n id (kind, inl empty) = record {
  depth = suc zero;
  tree = [];
  canonical = (record { names = tt; apart = tt; ascending = tt }, tt);
  named = λ T agrees. ap T.tree_at empty ∙ T.none_in_empty hash;
}
has_root_of_canonical trees hash n id (kind, inr is) =
    let it = some_of_match (trees id) (λ entries. (entries ≢ []) × IsCanonicalTree trees hash n entries) is.tree in record {
      depth = n;
      tree = it.0;
      canonical = it.2.1;
      named = λ T agrees. agrees id it.0 is.looked_up it.1;
    }

-- the files of a root in a table that agrees with its store are those of its tree in any other
module _ (directory_has_files : DirectoryHasFilesOfTree) (T shared : Table) (trees : Trees) (hash : Kind) (id : ObjectId)
    (root : HasRoot trees hash id) where
  root_files : AgreesWithStore T trees → AgreesWithStore shared trees → (k : ℕ) → SameFiles (NamedFiles T k id) (Files shared k root.tree)
  root_files in_t in_shared k =
      let At : Option (List EntryView) → Type 0 = λ o.
      SameFiles (λ path mode it. MatchOption o ⊥ (λ es. Files T k es path mode it)) (Files shared k root.tree) in
      subst At (sym (root.named T in_t)) (canonical_files_are_in_both directory_has_files T shared trees hash in_t in_shared root.depth root.tree
      root.canonical k)

module _ (unique : BuiltTreesAreUnique) (shared : Table) (trees others : Trees) (hash : Kind) (both : AgreesWithBoth shared trees others) where
  -- canonical trees with the same files are equal
  canonical_trees_eq : (n m : ℕ) (xs ys : List EntryView) → IsCanonicalTree trees hash n xs → IsCanonicalTree others hash m ys
      → ((k : ℕ) → SameFiles (Files shared k xs) (Files shared k ys)) → xs ≡ ys
  canonical_trees_eq n m xs ys cx cy same =
      let one : IsBuiltOfKnown shared trees hash both.one_store xs = is_built_of_canonical shared trees hash both.one_store n xs cx in
      let other : IsBuiltOfKnown shared others hash both.other_store ys = is_built_of_canonical shared others hash both.other_store m ys cy in
      let pairs : List Pair = one.0 ++ other.0 in
      let Known : Pair → Type 0 = λ pair. (shared.tree_at pair.0 ≡ Some pair.1) × (id_kind pair.0 ≡ hash) in
      let all = All-from_recursion Known pairs (all_joined Known one.0 other.0 one.1 other.1) in
      let known : AgreesWithPairs shared pairs = λ k d lt. (all k d lt).0 in
      let one_id : HasOneIdPerTree pairs = λ tree x y h k.
      let of_x = All-contains Known pairs (x, tree) all h in
      let of_y = All-contains Known pairs (y, tree) all k in
      both.one_id tree x y (of_x.1 ∙ sym of_y.1) of_x.0 of_y.0 in
      unique shared pairs known one_id
      xs (is_built_within one.0 pairs (λ pair h. Contains-append_left one.0 other.0 pair h) xs one.2)
      ys (is_built_within other.0 pairs (λ pair h. Contains-append_right one.0 other.0 pair h) ys other.2) same

pub equal_ids_iff_same_files : BuiltTreesAreUnique → DirectoryHasFilesOfTree → (T U shared : Table) (trees others : Trees) (hash : Kind) (n m : ℕ)
    (x y : ObjectId) → AgreesWithStore T trees → AgreesWithStore U others → AgreesWithBoth shared trees others → IsCanonicalRoot trees hash n x
    → IsCanonicalRoot others hash m y
    → (x ≡ y) ↔ ((k : ℕ) → SameFiles (NamedFiles T k x) (NamedFiles U k y))
equal_ids_iff_same_files unique directory_has_files T U shared trees others hash n m x y in_t in_u both cx cy =
    let one = has_root_of_canonical trees hash n x cx in
    let other = has_root_of_canonical others hash m y cy in
    let of_one : (k : ℕ) → SameFiles (NamedFiles T k x) (Files shared k one.tree) =
    root_files directory_has_files T shared trees hash x one in_t both.one_store in
    let of_other : (k : ℕ) → SameFiles (NamedFiles U k y) (Files shared k other.tree) =
    root_files directory_has_files U shared others hash y other in_u both.other_store in
    let known : shared.tree_at x ≡ Some one.tree = one.named shared both.one_store in
    let its : shared.tree_at y ≡ Some other.tree = other.named shared both.other_store in (
      (λ same k.
          let found : Some one.tree ≡ Some other.tree = sym known ∙ ap shared.tree_at same ∙ its in
          let trees_eq : one.tree ≡ other.tree = cc found in
          same_files_trans (NamedFiles T k x) (Files shared k other.tree) (NamedFiles U k y)
          (subst (λ (l : List EntryView). SameFiles (NamedFiles T k x) (Files shared k l)) trees_eq (of_one k))
          (same_files_sym (NamedFiles U k y) (Files shared k other.tree) (of_other k))),
      λ same.
          let trees_eq : one.tree ≡ other.tree = canonical_trees_eq unique shared trees others hash both one.depth other.depth one.tree other.tree
          one.canonical other.canonical (λ k. same_files_trans (Files shared k one.tree) (NamedFiles T k x) (Files shared k other.tree)
          (same_files_sym (NamedFiles T k x) (Files shared k one.tree) (of_one k))
          (same_files_trans (NamedFiles T k x) (NamedFiles U k y) (Files shared k other.tree) (same k) (of_other k))) in
          both.one_id other.tree x y (cx.0 ∙ sym cy.0) (known ∙ ap Some trees_eq) its,
    )
