-- A write of the same open directories emits the same pairs, if ids are a function of the trees; the law `write_has_one_outcome` uses it.
use Rattle.std.proofs.Common.{◌≡◌, ◌∙◌, ◌+◌, ◌++◌, ◌∷◌, ℕ, [], List, None, Option, Some, ap, refl, subst, sym}
use Rattle.gix_object.specs.Edits.{raised}
use Rattle.gix_object.specs.Emission.{Emits, EmitsBelow, EmitsEntries, end, entry_unless_null, left_out_if_empty, of_entries, unchanged, unopened, written}
use Rattle.gix_object.specs.Entries.{EntryView, Pair}
use Rattle.gix_object.specs.Opening.{Dirs, in_dir}
use Rattle.gix_object.specs.hash.hash.object_id.ObjectId.{ObjectId}
use Rattle.gixobj_examples_audits.specs.Outcomes.{AreSameDirs, HaveIdsBy}

-- ---- ids of pairs

ids_of_prefix : (f : List EntryView → ObjectId) (ps qs : List Pair) → HaveIdsBy f (ps ++ qs) → HaveIdsBy f ps
ids_of_prefix f [] qs by = tt
ids_of_prefix f (p ∷ ps) qs by = (by.0, ids_of_prefix f ps qs by.1)

ids_of_suffix : (f : List EntryView → ObjectId) (ps qs : List Pair) → HaveIdsBy f (ps ++ qs) → HaveIdsBy f qs
ids_of_suffix f [] qs by = by
ids_of_suffix f (p ∷ ps) qs by = ids_of_suffix f ps qs by.1

-- ---- the same directories

-- the same directories are open, with the same bases
record AreAlike (dirs others bases its : Dirs) : Type 0 where
  open_dirs : AreSameDirs dirs others
  open_bases : AreSameDirs bases its

alike_in_dir : (dirs others bases its : Dirs) (name : List ℕ) → AreAlike dirs others bases its
    → AreAlike (in_dir name dirs) (in_dir name others) (in_dir name bases) (in_dir name its)
alike_in_dir dirs others bases its name alike =
    record { open_dirs = λ path. alike.open_dirs (name ∷ path); open_bases = λ path. alike.open_bases (name ∷ path) }

none_not_some : (x : Option (List EntryView)) (ys : List EntryView) → x ≡ None → x ≡ Some ys → ⊥
none_not_some x ys none some = let both : None ≡ Some ys = sym none ∙ some in cc both

some_injective : (xs ys : List EntryView) → Some xs ≡ Some ys → xs ≡ ys
some_injective xs ys is = cc is

nil_not_cons : (x : EntryView) (xs : List EntryView) → [] ≡ x ∷ xs → ⊥
nil_not_cons x xs is = cc is

open_of_emits : (dirs bases : Dirs) (ps : List Pair) (written_tree : List EntryView) (n : ℕ) → EmitsBelow dirs bases ps written_tree n
    → (entries : List EntryView) × (dirs [] ≡ Some entries)
open_of_emits dirs bases ps written_tree n (of_entries d b entries below os m is walk) = (entries, is)

-- a directory that isn't open emits nothing
unopened_not_emitted : (dirs others bases : Dirs) (name : List ℕ) (ps : List Pair) (written_tree : List EntryView) (n : ℕ)
    → dirs (name ∷ []) ≡ others (name ∷ [])
    → dirs (name ∷ []) ≡ None → EmitsBelow (in_dir name others) bases ps written_tree n → ⊥
unopened_not_emitted dirs others bases name ps written_tree n same none emits =
    let it = open_of_emits (in_dir name others) bases ps written_tree n emits in none_not_some (dirs (name ∷ [])) it.0 none (same ∙ it.1)

-- ---- one outcome

record AreOne (ps qs : List Pair) (written_tree other : List EntryView) (n k : ℕ) : Type 0 where
  pairs : ps ≡ qs
  tree : written_tree ≡ other
  count : n ≡ k

module _ (f : List EntryView → ObjectId) where
  mutual
    below_unique : (dirs others bases its : Dirs) → AreAlike dirs others bases its → (ps qs : List Pair) (written_tree other : List EntryView) (n k : ℕ)
        → HaveIdsBy f ps → HaveIdsBy f qs → EmitsBelow dirs bases ps written_tree n → EmitsBelow others its qs other k → AreOne ps qs written_tree other n k
    below_unique dirs others bases its alike ps qs written_tree other n k by also (of_entries _ _ entries _ _ _ is walk)
        (of_entries _ _ entries' _ _ _ is' walk') =
        let same : entries' ≡ entries = some_injective entries' entries (sym is' ∙ (sym (alike.open_dirs []) ∙ is)) in
        entries_unique dirs others bases its alike entries ps qs written_tree other n k by also walk
        (subst (λ (es : List EntryView). EmitsEntries others its es qs other k) same walk')

    entries_unique : (dirs others bases its : Dirs) → AreAlike dirs others bases its → (entries : List EntryView) (ps qs : List Pair)
        (written_tree other : List EntryView) (n k : ℕ) → HaveIdsBy f ps → HaveIdsBy f qs
        → EmitsEntries dirs bases entries ps written_tree n → EmitsEntries others its entries qs other k → AreOne ps qs written_tree other n k
    entries_unique dirs others bases its alike _ ps qs written_tree other n k by also (end _ _) (end _ _) = record { pairs = refl; tree = refl; count = refl }
    entries_unique dirs others bases its alike _ ps qs written_tree other n k by also (unopened _ _ e rest below os m none walk)
        (unopened _ _ _ _ below' os' m' none' walk') =
        let r = entries_unique dirs others bases its alike rest below below' os os' m m' by also walk walk' in
        record { pairs = r.pairs; tree = ap (λ es. entry_unless_null e e.id ++ es) r.tree; count = r.count }
    entries_unique dirs others bases its alike _ ps qs written_tree other n k by also (unopened _ _ e rest below os m none walk)
        (left_out_if_empty _ _ _ _ inner' below' os' i' m' emits' walk') =
        absurd (unopened_not_emitted dirs others (in_dir e.name its) e.name inner' [] i' (alike.open_dirs (e.name ∷ [])) none emits')
    entries_unique dirs others bases its alike _ ps qs written_tree other n k by also (unopened _ _ e rest below os m none walk)
        (unchanged _ _ _ first' _ more' inner' below' os' i' m' emits' same' walk') =
        absurd (unopened_not_emitted dirs others (in_dir e.name its) e.name inner' (first' ∷ more') i' (alike.open_dirs (e.name ∷ [])) none emits')
    entries_unique dirs others bases its alike _ ps qs written_tree other n k by also (unopened _ _ e rest below os m none walk)
        (written _ _ _ first' _ more' inner' below' os' i' m' id' emits' changed' walk') =
        absurd (unopened_not_emitted dirs others (in_dir e.name its) e.name inner' (first' ∷ more') i' (alike.open_dirs (e.name ∷ [])) none emits')
    entries_unique dirs others bases its alike _ ps qs written_tree other n k by also (left_out_if_empty _ _ e rest inner below os i m emits walk)
        (unopened _ _ _ _ below' os' m' none' walk') =
        absurd (unopened_not_emitted others dirs (in_dir e.name bases) e.name inner [] i (sym (alike.open_dirs (e.name ∷ []))) none' emits)
    entries_unique dirs others bases its alike _ ps qs written_tree other n k by also (left_out_if_empty _ _ e rest inner below os i m emits walk)
        (left_out_if_empty _ _ _ _ inner' below' os' i' m' emits' walk') =
        let r = entries_unique dirs others bases its alike rest below below' os os' m m' (ids_of_suffix f inner below by) (ids_of_suffix f inner' below' also)
        walk walk' in
        let s = below_unique (in_dir e.name dirs) (in_dir e.name others) (in_dir e.name bases) (in_dir e.name its)
        (alike_in_dir dirs others bases its e.name alike) inner inner' [] [] i i' (ids_of_prefix f inner below by) (ids_of_prefix f inner' below' also)
        emits emits' in
        record {
          pairs = ap (λ xs. inner ++ xs) r.pairs ∙ ap (λ xs. xs ++ below') s.pairs;
          tree = r.tree;
          count = ap (λ x. i + x) r.count ∙ ap (λ x. x + m') s.count;
        }
    entries_unique dirs others bases its alike _ ps qs written_tree other n k by also (left_out_if_empty _ _ e rest inner below os i m emits walk)
        (unchanged _ _ _ first' _ more' inner' below' os' i' m' emits' same' walk') =
        let s = below_unique (in_dir e.name dirs) (in_dir e.name others) (in_dir e.name bases) (in_dir e.name its)
        (alike_in_dir dirs others bases its e.name alike) inner inner' [] (first' ∷ more') i i' (ids_of_prefix f inner below by)
        (ids_of_prefix f inner' below' also) emits emits' in
        absurd (nil_not_cons first' more' s.tree)
    entries_unique dirs others bases its alike _ ps qs written_tree other n k by also (left_out_if_empty _ _ e rest inner below os i m emits walk)
        (written _ _ _ first' _ more' inner' below' os' i' m' id' emits' changed' walk') =
        let s = below_unique (in_dir e.name dirs) (in_dir e.name others) (in_dir e.name bases) (in_dir e.name its)
        (alike_in_dir dirs others bases its e.name alike) inner inner' [] (first' ∷ more') i i' (ids_of_prefix f inner below by)
        (ids_of_prefix f inner' ((id', first' ∷ more') ∷ below') also) emits emits' in
        absurd (nil_not_cons first' more' s.tree)
    entries_unique dirs others bases its alike _ ps qs written_tree other n k by also (unchanged _ _ e first rest more inner below os i m emits same walk)
        (unopened _ _ _ _ below' os' m' none' walk') =
        absurd (unopened_not_emitted others dirs (in_dir e.name bases) e.name inner (first ∷ more) i (sym (alike.open_dirs (e.name ∷ []))) none' emits)
    entries_unique dirs others bases its alike _ ps qs written_tree other n k by also (unchanged _ _ e first rest more inner below os i m emits same walk)
        (left_out_if_empty _ _ _ _ inner' below' os' i' m' emits' walk') =
        let s = below_unique (in_dir e.name dirs) (in_dir e.name others) (in_dir e.name bases) (in_dir e.name its)
        (alike_in_dir dirs others bases its e.name alike) inner inner' (first ∷ more) [] i i' (ids_of_prefix f inner below by)
        (ids_of_prefix f inner' below' also) emits emits' in
        absurd (nil_not_cons first more (sym s.tree))
    entries_unique dirs others bases its alike _ ps qs written_tree other n k by also (unchanged _ _ e first rest more inner below os i m emits same walk)
        (unchanged _ _ _ first' _ more' inner' below' os' i' m' emits' same' walk') =
        let r = entries_unique dirs others bases its alike rest below below' os os' m m' (ids_of_suffix f inner below by) (ids_of_suffix f inner' below' also)
        walk walk' in
        let s = below_unique (in_dir e.name dirs) (in_dir e.name others) (in_dir e.name bases) (in_dir e.name its)
        (alike_in_dir dirs others bases its e.name alike) inner inner' (first ∷ more) (first' ∷ more') i i' (ids_of_prefix f inner below by)
        (ids_of_prefix f inner' below' also) emits emits' in
        record {
          pairs = ap (λ xs. inner ++ xs) r.pairs ∙ ap (λ xs. xs ++ below') s.pairs;
          tree = ap (λ es. entry_unless_null e e.id ++ es) r.tree;
          count = ap (λ x. i + 1 + x) r.count ∙ ap (λ x. x + 1 + m') s.count;
        }
    entries_unique dirs others bases its alike _ ps qs written_tree other n k by also (unchanged _ _ e first rest more inner below os i m emits same walk)
        (written _ _ _ first' _ more' inner' below' os' i' m' id' emits' changed' walk') =
        let s = below_unique (in_dir e.name dirs) (in_dir e.name others) (in_dir e.name bases) (in_dir e.name its)
        (alike_in_dir dirs others bases its e.name alike) inner inner' (first ∷ more) (first' ∷ more') i i' (ids_of_prefix f inner below by)
        (ids_of_prefix f inner' ((id', first' ∷ more') ∷ below') also) emits emits' in
        absurd (changed' (sym (alike.open_bases (e.name ∷ [])) ∙ (same ∙ ap (λ es. Some es) s.tree)))
    entries_unique dirs others bases its alike _ ps qs written_tree other n k by also (written _ _ e first rest more inner below os i m id emits changed walk)
        (unopened _ _ _ _ below' os' m' none' walk') =
        absurd (unopened_not_emitted others dirs (in_dir e.name bases) e.name inner (first ∷ more) i (sym (alike.open_dirs (e.name ∷ []))) none' emits)
    entries_unique dirs others bases its alike _ ps qs written_tree other n k by also (written _ _ e first rest more inner below os i m id emits changed walk)
        (left_out_if_empty _ _ _ _ inner' below' os' i' m' emits' walk') =
        let s = below_unique (in_dir e.name dirs) (in_dir e.name others) (in_dir e.name bases) (in_dir e.name its)
        (alike_in_dir dirs others bases its e.name alike) inner inner' (first ∷ more) [] i i'
        (ids_of_prefix f inner ((id, first ∷ more) ∷ below) by) (ids_of_prefix f inner' below' also) emits emits' in
        absurd (nil_not_cons first more (sym s.tree))
    entries_unique dirs others bases its alike _ ps qs written_tree other n k by also (written _ _ e first rest more inner below os i m id emits changed walk)
        (unchanged _ _ _ first' _ more' inner' below' os' i' m' emits' same' walk') =
        let s = below_unique (in_dir e.name dirs) (in_dir e.name others) (in_dir e.name bases) (in_dir e.name its)
        (alike_in_dir dirs others bases its e.name alike) inner inner' (first ∷ more) (first' ∷ more') i i'
        (ids_of_prefix f inner ((id, first ∷ more) ∷ below) by) (ids_of_prefix f inner' below' also) emits emits' in
        absurd (changed (alike.open_bases (e.name ∷ []) ∙ (same' ∙ ap (λ es. Some es) (sym s.tree))))
    entries_unique dirs others bases its alike _ ps qs written_tree other n k by also (written _ _ e first rest more inner below os i m id emits changed walk)
        (written _ _ _ first' _ more' inner' below' os' i' m' id' emits' changed' walk') =
        let here = ids_of_suffix f inner ((id, first ∷ more) ∷ below) by in
        let here' = ids_of_suffix f inner' ((id', first' ∷ more') ∷ below') also in
        let r = entries_unique dirs others bases its alike rest below below' os os' m m' here.1 here'.1 walk walk' in
        let s = below_unique (in_dir e.name dirs) (in_dir e.name others) (in_dir e.name bases) (in_dir e.name its)
        (alike_in_dir dirs others bases its e.name alike) inner inner' (first ∷ more) (first' ∷ more') i i'
        (ids_of_prefix f inner ((id, first ∷ more) ∷ below) by) (ids_of_prefix f inner' ((id', first' ∷ more') ∷ below') also) emits emits' in
        let one : id ≡ id' = here.0 ∙ (ap f s.tree ∙ sym here'.0) in
        record {
          pairs = ap (λ xs. inner ++ (id, first ∷ more) ∷ xs) r.pairs ∙ (ap (λ es. inner ++ (id, es) ∷ below') s.tree
              ∙ (ap (λ (x : ObjectId). inner ++ (x, first' ∷ more') ∷ below') one ∙ ap (λ xs. xs ++ (id', first' ∷ more') ∷ below') s.pairs));
          tree = ap (λ es. entry_unless_null e id ++ es) r.tree ∙ ap (λ (x : ObjectId). entry_unless_null e x ++ os') one;
          count = ap (λ x. i + x) r.count ∙ ap (λ x. x + m') s.count;
        }

  pub emits_unique : (dirs others bases its : Dirs) (saved saved' : ℕ) (pairs pairs' : List Pair) → AreSameDirs dirs others → AreSameDirs bases its
      → HaveIdsBy f pairs → HaveIdsBy f pairs' → Emits dirs bases saved pairs → Emits others its saved' pairs' → (pairs ≡ pairs') × (saved ≡ saved')
  emits_unique dirs others bases its saved saved' pairs pairs' same_dirs same_bases by also (below, id, written_tree, saves, is)
      (below', id', written_tree', saves', is') =
      let all = subst (HaveIdsBy f) is by in
      let all' = subst (HaveIdsBy f) is' also in
      let it = below_unique dirs others bases its (record { open_dirs = same_dirs; open_bases = same_bases }) below below' written_tree written_tree' saves.0
      saves'.0
      (ids_of_prefix f below ((id, written_tree) ∷ []) all) (ids_of_prefix f below' ((id', written_tree') ∷ []) all') saves.1 saves'.1 in
      let one : id ≡ id' = (ids_of_suffix f below ((id, written_tree) ∷ []) all).0
      ∙ (ap f it.tree ∙ sym (ids_of_suffix f below' ((id', written_tree') ∷ []) all').0) in (
        is ∙ (ap (λ es. below ++ (id, es) ∷ []) it.tree ∙ (ap (λ (x : ObjectId). below ++ (x, written_tree') ∷ []) one
            ∙ (ap (λ xs. xs ++ (id', written_tree') ∷ []) it.pairs ∙ sym is'))),
        saves.2 ∙ (ap (λ x. raised 0 x) it.count ∙ sym saves'.2),
      )
