-- Trees built from pairs are equal if their files are and no tree has two ids: for the editor's law of one id for equal
-- files.
use Rattle.std.proofs.Common.{◌≡◌, ◌≢◌, inl, inr, ⊎_elim, ℕ, zero, suc, Bool, true, false, cond, List, [], ◌∷◌, refl, sym, ap, subst, ◌∙◌, Some, None, Contains}
use Rattle.std.specs.Prelude.{MatchOption}
use Rattle.std.specs.List.{AllByRecursion}
use Rattle.std.proofs.lemmas.Cmp.{nat_list_cmp_total}
use Rattle.std.proofs.lemmas.List.Elements.{All-contains}
use Rattle.gixobj_tree_entries.specs.Entries.{EntryView, Pair, entry_of}
use Rattle.gixobj_tree_entries.specs.KeyOrder.{ComesBefore, entry_key}
use Rattle.gixobj_tree.specs.WellFormed.{EachLater, IsWellFormed}
use Rattle.gixobj_tree_entries.specs.Mode.{is_tree_mode, tree_type}
use Rattle.gixobj_hash.specs.declared.hash.object_id.ObjectId.{ObjectId}
pub use Rattle.gixobj_editor_files.specs.BuiltTrees.{IsBuilt, IsClean, built}
use Rattle.gixobj_editor_files.specs.Files.{Below, Files, ContainsEntry, Path, SameFiles, Table, is_null}
use Rattle.gixobj_editor_files.specs.Tables.{AgreesWithPairs, HasOneIdPerTree}
use Rattle.gixobj_editor_files.proofs.OpenedFiles.{files_below_of_table}
use Rattle.gixobj_tree.proofs.WellFormed.{comes_before_trans}

-- an entry comes before those after it, and never before itself
comes_before_of_contains : (x : EntryView) (ys : List EntryView) (y : EntryView) → AllByRecursion (ComesBefore x) ys → ContainsEntry ys y → ComesBefore x y
comes_before_of_contains x [] y h k = absurd k
comes_before_of_contains x (z ∷ zs) y h (inl same) = subst (ComesBefore x) same h.0
comes_before_of_contains x (z ∷ zs) y h (inr k) = comes_before_of_contains x zs y h.1 k

comes_before_irreflexive : (x : EntryView) → ComesBefore x x → ⊥
comes_before_irreflexive x h = let back = nat_list_cmp_total.antisymm (entry_key x) (entry_key x) in cc (h, back)

-- ascending lists with the same entries are equal
ordered_entries_unique : (xs ys : List EntryView) → EachLater ComesBefore xs → EachLater ComesBefore ys
    → ((e : EntryView) → ContainsEntry xs e → ContainsEntry ys e)
    → ((e : EntryView) → ContainsEntry ys e → ContainsEntry xs e) → xs ≡ ys
ordered_entries_unique [] [] a b f g = refl
ordered_entries_unique [] (y ∷ ys) a b f g = absurd (g y (inl refl))
ordered_entries_unique (x ∷ xs) [] a b f g = absurd (f x (inl refl))
ordered_entries_unique (x ∷ xs) (y ∷ ys) a b f g =
    let head : x ≡ y = ⊎_elim (λ s. sym s)
    (λ k. ⊎_elim (λ s. s) (λ l. absurd (comes_before_irreflexive x (comes_before_trans x y x (comes_before_of_contains x xs y a.0 l)
    (comes_before_of_contains y ys x b.0 k)))) (g y (inl refl)))
    (f x (inl refl)) in
    let rest : xs ≡ ys = ordered_entries_unique xs ys a.1 b.1
    (λ e h. ⊎_elim (λ s. absurd (comes_before_irreflexive x (subst (ComesBefore x) (sym s ∙ sym head) (comes_before_of_contains x xs e a.0 h)))) (λ k. k)
    (f e (inr h)))
    (λ e h. ⊎_elim (λ s. absurd (comes_before_irreflexive y (subst (ComesBefore y) (sym s ∙ head) (comes_before_of_contains y ys e b.0 h)))) (λ k. k)
    (g e (inr h))) in
    cc (head, rest)

-- entries of one name in a list are equal, since the names in it differ
names_differ_of_contains : (x : EntryView) (ys : List EntryView) (y : EntryView) → AllByRecursion (λ z. x.name ≢ z.name) ys → ContainsEntry ys y
    → x.name ≢ y.name
names_differ_of_contains x [] y h k = absurd k
names_differ_of_contains x (z ∷ ys) y h (inl same) = λ q. h.0 (q ∙ ap (λ (w : EntryView). w.name) (sym same))
names_differ_of_contains x (z ∷ ys) y h (inr k) = names_differ_of_contains x ys y h.1 k

pub entry_of_name_unique : (es : List EntryView) → EachLater (λ x y. x.name ≢ y.name) es → (x y : EntryView) → ContainsEntry es x → ContainsEntry es y
    → x.name ≡ y.name → x ≡ y
entry_of_name_unique [] apart x y h k q = absurd h
entry_of_name_unique (e ∷ es) apart x y (inl s) (inl t) q = sym s ∙ t
entry_of_name_unique (e ∷ es) apart x y (inl s) (inr k) q = absurd (names_differ_of_contains e es y apart.0 k (ap (λ (w : EntryView). w.name) s ∙ q))
entry_of_name_unique (e ∷ es) apart x y (inr h) (inl t) q = absurd (names_differ_of_contains e es x apart.0 h (ap (λ (w : EntryView). w.name) t ∙ sym q))
entry_of_name_unique (e ∷ es) apart x y (inr h) (inr k) q = entry_of_name_unique es apart.1 x y h k q

-- entries with the same mode, name and id are equal
entry_of_congruent : (mode other : ℕ) (name its_name : List ℕ) (id its_id : ObjectId) → mode ≡ other → name ≡ its_name → id ≡ its_id
    → entry_of mode name id ≡ entry_of other its_name its_id
entry_of_congruent mode other name its_name id its_id m n i = cc (m, n, i)

pub entries_named_alike_eq : (x y : EntryView) → x.mode ≡ y.mode → x.name ≡ y.name → x.id ≡ y.id → x ≡ y
entries_named_alike_eq x y m n i = entry_of_congruent x.mode y.mode x.name y.name x.id y.id m n i

module _ (T : Table) where
  -- an entry that isn't of tree mode is a file, and the only one of its name
  own_file : (k : ℕ) (e : EntryView) → is_tree_mode e.mode ≡ false → is_null e.id ≡ false → Below T (Files T k) e.mode e.id [] e.mode e.id
  own_file k e other filled = (
    filled,
    subst (λ (b : Bool). MatchOption (cond b (T.tree_at e.id) None) ((◌≡◌ {A = Path} [] []) × (e.mode ≡ e.mode) × (e.id ≡ e.id))
        (λ es. Files T k es [] e.mode e.id)) (sym other) (refl, refl, refl),
  )

  of_file : (k : ℕ) (e : EntryView) → is_tree_mode e.mode ≡ false → (mode : ℕ) (id : ObjectId) → Below T (Files T k) e.mode e.id [] mode id → (mode ≡ e.mode)
      × (id ≡ e.id)
  of_file k e other mode id h =
      let it = subst (λ (b : Bool). MatchOption (cond b (T.tree_at e.id) None) ((◌≡◌ {A = Path} [] []) × (mode ≡ e.mode) × (id ≡ e.id))
      (λ es. Files T k es [] mode id)) other h.1 in (it.1, it.2)

  -- the files at the name of an entry are the files at and below the entry
  at_entry : (xs : List EntryView) → IsClean xs → (e : EntryView) → ContainsEntry xs e → (k : ℕ) (path : Path) (mode : ℕ) (id : ObjectId)
      → Files T (suc k) xs (e.name ∷ path) mode id → Below T (Files T k) e.mode e.id path mode id
  at_entry xs clean e h k path mode id f =
      subst (λ (x : EntryView). Below T (Files T k) x.mode x.id path mode id) (entry_of_name_unique xs clean.formed.apart f.0 e f.1 h f.2) f.3

module _ (T : Table) (pairs : List Pair) (known : AgreesWithPairs T pairs) where
  its_tree : (id : ObjectId) (tree : List EntryView) → Contains pairs (id, tree) → T.tree_at id ≡ Some tree
  its_tree id tree has = All-contains (λ pair. T.tree_at pair.0 ≡ Some pair.1) pairs (id, tree) known has

  -- the files of an entry of tree mode are those of its tree
  into_tree : (xs : List EntryView) → IsClean xs → (e : EntryView) → ContainsEntry xs e → is_tree_mode e.mode ≡ true → (tree : List EntryView)
      → Contains pairs (e.id, tree)
      → (k : ℕ) (path : Path) (mode : ℕ) (id : ObjectId) → Files T (suc k) xs (e.name ∷ path) mode id → Files T k tree path mode id
  into_tree xs clean e h t tree has k path mode id f = (files_below_of_table T k e.mode e.id tree t (inr (its_tree e.id tree has)) path mode id).0
      (at_entry T xs clean e h k path mode id f)

  of_tree : (xs : List EntryView) (e : EntryView) → ContainsEntry xs e → is_tree_mode e.mode ≡ true → (tree : List EntryView) → Contains pairs (e.id, tree)
      → (k : ℕ) (path : Path) (mode : ℕ) (id : ObjectId) → Files T k tree path mode id → Files T (suc k) xs (e.name ∷ path) mode id
  of_tree xs e h t tree has k path mode id f = (e, h, refl, (files_below_of_table T k e.mode e.id tree t (inr (its_tree e.id tree has)) path mode id).1 f)

  -- each entry of a built tree has a file at or below it
  abbrev HasFile : List EntryView → Type 0
  HasFile xs = (n : ℕ) × (path : Path) × (mode : ℕ) × (id : ObjectId) × Files T n xs path mode id

  abbrev HasFileAt : List EntryView → List ℕ → Type 0
  HasFileAt xs name = (n : ℕ) × (path : Path) × (mode : ℕ) × (id : ObjectId) × Files T (suc n) xs (name ∷ path) mode id

  file_at : (xs : List EntryView) → IsClean xs → (e : EntryView) → ContainsEntry xs e
      → (tree : is_tree_mode e.mode ≡ true → List EntryView) → ((t : is_tree_mode e.mode ≡ true) → Contains pairs (e.id, tree t))
      → ((t : is_tree_mode e.mode ≡ true) → HasFile (tree t)) → HasFileAt xs e.name
  file_at xs clean e h tree named deep =
      elim (is_tree_mode e.mode) as (λ b. is_tree_mode e.mode ≡ b → HasFileAt xs e.name) [
        | true ↦ λ t. let f = deep t in (f.0, f.1, f.2, f.3, of_tree xs e h t (tree t) (named t) f.0 f.1 f.2 f.3 f.4)
        | false ↦ λ t. (zero, [], e.mode, e.id, (e, h, refl, own_file T zero e t (clean.filled e h)))
      ] refl

  has_file : (xs : List EntryView) → IsBuilt pairs xs → xs ≢ [] → HasFile xs
  has_file [] (built l clean modes tree filled named deep) some = absurd (some refl)
  has_file (e ∷ es) (built l clean modes tree filled named deep) some =
      let f = file_at (e ∷ es) clean e (inl refl) (tree e (inl refl)) (named e (inl refl))
      (λ t. has_file (tree e (inl refl) t) (deep e (inl refl) t) (filled e (inl refl) t)) in
      (suc f.0, e.name ∷ f.1, f.2, f.3, f.4)

  has_file_at : (xs : List EntryView) → IsBuilt pairs xs → (e : EntryView) → ContainsEntry xs e → HasFileAt xs e.name
  has_file_at xs (built l clean modes tree filled named deep) e h =
      file_at xs clean e h (tree e h) (named e h) (λ t. has_file (tree e h t) (deep e h t) (filled e h t))

  -- entries of one name in trees with the same files are equal, if their trees are equal
  abbrev Same : List EntryView → List EntryView → Type 0
  Same xs ys = (n : ℕ) → SameFiles (Files T n xs) (Files T n ys)

  both : (one : HasOneIdPerTree pairs) (xs ys : List EntryView) → IsClean xs → IsClean ys → Same xs ys → (x y : EntryView)
      → ContainsEntry xs x → ContainsEntry ys y
      → x.name ≡ y.name
      → (is_tree_mode x.mode ≡ true → x.mode ≡ tree_type) → (is_tree_mode y.mode ≡ true → y.mode ≡ tree_type)
      → (xt : is_tree_mode x.mode ≡ true → List EntryView) → ((t : is_tree_mode x.mode ≡ true) → Contains pairs (x.id, xt t))
      → (yt : is_tree_mode y.mode ≡ true → List EntryView) → ((t : is_tree_mode y.mode ≡ true) → Contains pairs (y.id, yt t))
      → ((t : is_tree_mode x.mode ≡ true) (u : is_tree_mode y.mode ≡ true) → Same (xt t) (yt u) → xt t ≡ yt u) → x ≡ y
  both one xs ys cx cy same x y hx hy called mx my xt nx yt ny deep =
      elim (is_tree_mode x.mode) as (λ b. is_tree_mode x.mode ≡ b → x ≡ y) [
        | true ↦ λ t. elim (is_tree_mode y.mode) as (λ b. is_tree_mode y.mode ≡ b → x ≡ y) [
          | true ↦ λ u.
              let trees : xt t ≡ yt u = deep t u (λ k path mode id. (
                (λ f. into_tree ys cy y hy u (yt u) (ny u) k path mode id
                    (subst (λ n. Files T (suc k) ys (n ∷ path) mode id) called
                    ((same (suc k) (x.name ∷ path) mode id).0 (of_tree xs x hx t (xt t) (nx t) k path mode id f)))),
                λ f. into_tree xs cx x hx t (xt t) (nx t) k path mode id
                    (subst (λ n. Files T (suc k) xs (n ∷ path) mode id) (sym called)
                    ((same (suc k) (y.name ∷ path) mode id).1 (of_tree ys y hy u (yt u) (ny u) k path mode id f))),
              )) in
              entries_named_alike_eq x y (mx t ∙ sym (my u)) called (one (xt t) x.id y.id (nx t) (subst (λ l. Contains pairs (y.id, l)) (sym trees) (ny u)))
          | false ↦ λ u. absurd (into_tree xs cx x hx t (xt t) (nx t) zero [] y.mode y.id
              (subst (λ n. Files T (suc zero) xs (n ∷ []) y.mode y.id) (sym called)
              ((same (suc zero) (y.name ∷ []) y.mode y.id).1 (y, hy, refl, own_file T zero y u (cy.filled y hy)))))
        ] refl
        | false ↦ λ t.
            let there : Files T (suc zero) ys (y.name ∷ []) x.mode x.id = subst (λ n. Files T (suc zero) ys (n ∷ []) x.mode x.id) called
            ((same (suc zero) (x.name ∷ []) x.mode x.id).0 (x, hx, refl, own_file T zero x t (cx.filled x hx))) in
            elim (is_tree_mode y.mode) as (λ b. is_tree_mode y.mode ≡ b → x ≡ y) [
              | true ↦ λ u. absurd (into_tree ys cy y hy u (yt u) (ny u) zero [] x.mode x.id there)
              | false ↦ λ u. let is = of_file T zero y u x.mode x.id (at_entry T ys cy y hy zero [] x.mode x.id there) in
                  entries_named_alike_eq x y is.0 called is.1
            ] refl
      ] refl

  -- built trees with the same files are equal
  pub same_trees : (one : HasOneIdPerTree pairs) (xs : List EntryView) → IsBuilt pairs xs → (ys : List EntryView) → IsBuilt pairs ys → Same xs ys → xs ≡ ys
  same_trees one xs (built lx cx mx tx fx nx dx) ys (built ly cy my ty fy ny dy) same =
      let x_built : IsBuilt pairs xs = built xs cx mx tx fx nx dx in
      let y_built : IsBuilt pairs ys = built ys cy my ty fy ny dy in
      let meet : (x y : EntryView) → ContainsEntry xs x → ContainsEntry ys y → x.name ≡ y.name → x ≡ y =
      λ x y hx hy called. both one xs ys cx cy same x y hx hy called (mx x hx) (my y hy) (tx x hx) (nx x hx) (ty y hy) (ny y hy)
      (λ t u. same_trees one (tx x hx t) (dx x hx t) (ty y hy u) (dy y hy u)) in
      ordered_entries_unique xs ys cx.formed.ascending cy.formed.ascending
      (λ x hx. let f = has_file_at xs x_built x hx in let g = (same (suc f.0) (x.name ∷ f.1) f.2 f.3).0 f.4 in subst (ContainsEntry ys)
      (sym (meet x g.0 hx g.1 (sym g.2))) g.1)
      (λ y hy. let f = has_file_at ys y_built y hy in let g = (same (suc f.0) (y.name ∷ f.1) f.2 f.3).1 f.4 in
      subst (ContainsEntry xs) (meet g.0 y g.1 hy g.2) g.1)
