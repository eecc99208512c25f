-- The files of edited entries: of an inserted entry, of removed and of kept ones, and of a root that is open alone. The
-- proofs of each edit use it.
use Rattle.std.proofs.Common.{◌≡◌, ◌≢◌, ◌⊎◌, inl, inr, ⊎_elim, ℕ, zero, suc, ◌-◌, Bool, true, false, not, cond, List, [], ◌∷◌, ◌++◌, length, refl, sym, ap}
use Rattle.std.proofs.Common.{subst, ◌∙◌, arith, Some, None}
use Rattle.std.specs.List.{filter}
use Rattle.std.specs.Cmp.Lexicographic.{bytes_decides, lists_total, nat_list_cmp_total, slice_cmp}
use Rattle.std.specs.Ordering.{nat_cmp}
use Rattle.std.specs.FinMap as map
use Rattle.gixobj_tree_entries.specs.Entries.{EntryView}
use Rattle.gixobj_hash.specs.declared.hash.object_id.ObjectId.{ObjectId}
use Rattle.gixobj_editor_files.specs.Editing.{comes_before, non_null_entries, same_name, with_entry, without}
use Rattle.gixobj_editor_files.specs.Files.{Ensured, Below, FileSet, Files, ContainsEntry, Path, Removed, SameFiles, Table, Upserted, is_null}
use Rattle.gixobj_editor_files.specs.Opening.{OpenFiles}
use Rattle.gixobj_editor_files.specs.State.{root_alone}
use Rattle.gixobj_editor_files.proofs.OpenedFiles.{open_files_of_root_alone}

-- the entries of an appended list are those of its parts
pub has_append_cases : (xs ys : List EntryView) (e : EntryView) → ContainsEntry (xs ++ ys) e → ContainsEntry xs e ⊎ ContainsEntry ys e
has_append_cases [] ys e h = inr h
has_append_cases (x ∷ xs) ys e (inl p) = inl (inl p)
has_append_cases (x ∷ xs) ys e (inr h) = ⊎_elim (λ k. inl (inr k)) inr (has_append_cases xs ys e h)

pub has_append_left : (xs ys : List EntryView) (e : EntryView) → ContainsEntry xs e → ContainsEntry (xs ++ ys) e
has_append_left (x ∷ xs) ys e (inl p) = inl p
has_append_left (x ∷ xs) ys e (inr h) = inr (has_append_left xs ys e h)
has_append_left [] ys e h = absurd h

pub has_append_right : (xs ys : List EntryView) (e : EntryView) → ContainsEntry ys e → ContainsEntry (xs ++ ys) e
has_append_right [] ys e h = h
has_append_right (x ∷ xs) ys e h = inr (has_append_right xs ys e h)

-- a filter keeps the entries that pass
Has-kept : (p : EntryView → Bool) (xs : List EntryView) (e : EntryView) → ContainsEntry (filter p xs) e → ContainsEntry xs e × (p e ≡ true)
Has-kept p [] e h = absurd h
Has-kept p (x ∷ xs) e h =
    elim (p x) as (λ b. p x ≡ b → ContainsEntry (cond b (x ∷ filter p xs) (filter p xs)) e → ContainsEntry (x ∷ xs) e × (p e ≡ true)) [
      | true ↦ λ t k. ⊎_elim (λ q. (inl q, subst (λ y. p y ≡ true) q t)) (λ r. let s = Has-kept p xs e r in (inr s.0, s.1)) k
      | false ↦ λ t k. let s = Has-kept p xs e k in (inr s.0, s.1)
    ] refl h

Has-keeps : (p : EntryView → Bool) (xs : List EntryView) (e : EntryView) → ContainsEntry xs e → p e ≡ true → ContainsEntry (filter p xs) e
Has-keeps p [] e h t = h
Has-keeps p (x ∷ xs) e (inl q) t = rw (subst (λ y. p y ≡ true) (sym q) t) (inl q)
Has-keeps p (x ∷ xs) e (inr h) t =
    elim (p x) as (λ b. ContainsEntry (cond b (x ∷ filter p xs) (filter p xs)) e) [ true ↦ inr (Has-keeps p xs e h t) | false ↦ Has-keeps p xs e h t ]

-- the entries of other names are those whose names differ
pub has_of_without : (name : List ℕ) (es : List EntryView) (e : EntryView) → ContainsEntry (without name es) e → ContainsEntry es e × (e.name ≢ name)
has_of_without name es e h =
    let s = Has-kept (λ y. not (same_name y.name name)) es e h in
    (s.0, λ q. cc (ap not ((bytes_decides e.name name).1 q), s.1))

pub has_without_other : (name : List ℕ) (es : List EntryView) (e : EntryView) → ContainsEntry es e → e.name ≢ name → ContainsEntry (without name es) e
has_without_other name es e h n = Has-keeps (λ y. not (same_name y.name name)) es e h
    (apart (same_name e.name name) (λ t. n ((bytes_decides e.name name).0 t)))
  where
    apart : (b : Bool) → b ≢ true → not b ≡ true
    apart true f = absurd (f refl)
    apart false f = refl

true_or_not_true : (b : Bool) → (b ≡ true) ⊎ (not b ≡ true)
true_or_not_true true = inl refl
true_or_not_true false = inr refl

-- after an insertion the list has the inserted entry, and those of other names
pub has_of_with_entry : (x : EntryView) (es : List EntryView) (e : EntryView) → ContainsEntry (with_entry x es) e
    → (x ≡ e) ⊎ (ContainsEntry es e × (e.name ≢ x.name))
has_of_with_entry x es e h =
    let others : ContainsEntry (without x.name es) e → ContainsEntry es e × (e.name ≢ x.name) = has_of_without x.name es e in
    ⊎_elim (λ k. inr (others (Has-kept (λ y. comes_before y x) (without x.name es) e k).0))
    (⊎_elim inl (λ k. inr (others (Has-kept (λ y. not (comes_before y x)) (without x.name es) e k).0)))
    (has_append_cases (filter (λ y. comes_before y x) (without x.name es)) (x ∷ filter (λ y. not (comes_before y x)) (without x.name es)) e h)

pub has_with_entry_new : (x : EntryView) (es : List EntryView) → ContainsEntry (with_entry x es) x
has_with_entry_new x es = has_append_right (filter (λ y. comes_before y x) (without x.name es)) (x ∷ filter (λ y. not (comes_before y x)) (without x.name es)) x
    (inl refl)

pub has_with_entry_other : (x : EntryView) (es : List EntryView) (e : EntryView) → ContainsEntry es e → e.name ≢ x.name → ContainsEntry (with_entry x es) e
has_with_entry_other x es e h n =
    let remaining = has_without_other x.name es e h n in
    ⊎_elim (λ l. has_append_left (filter (λ y. comes_before y x) (without x.name es)) _ e
    (Has-keeps (λ y. comes_before y x) (without x.name es) e remaining l))
    (λ g. has_append_right (filter (λ y. comes_before y x) (without x.name es)) _ e
    (inr (Has-keeps (λ y. not (comes_before y x)) (without x.name es) e remaining g)))
    (true_or_not_true (comes_before e x))

pub sub_len_one : (n : ℕ) (name : List ℕ) → suc n - length (name ∷ []) ≡ n
sub_len_one n name = omega arith

pub files_with_entry : (T : Table) (n : ℕ) (x : EntryView) (es : List EntryView)
    → SameFiles (Files T n (with_entry x es)) (Upserted T n (x.name ∷ []) x.mode x.id (Files T n es))
files_with_entry T zero x es path mode id = ((λ h. absurd h), ⊎_elim (λ h. absurd h.0) (λ h. absurd (omega (arith, h.0))))
files_with_entry T (suc n) x es [] mode id = ((λ h. absurd h), ⊎_elim (λ h. absurd h.0) (λ h. cc (h.2)))
files_with_entry T (suc n) x es (name ∷ path) mode id =
    let depth : suc n - length (x.name ∷ []) ≡ n = sub_len_one n x.name in
    let At : ℕ → Path → EntryView → Type 0 = λ k p e. Below T (Files T k) e.mode e.id p mode id in (
      (λ h. ⊎_elim
          (λ new.
          let named : name ≡ x.name = sym h.2 ∙ ap (λ (e : EntryView). e.name) (sym new) in
          inr (omega arith, path, rw named refl, subst (λ k. At k path x) (sym depth) (subst (At n path) (sym new) h.3)))
          (λ old. inl ((h.0, old.0, h.2, h.3), (λ b. old.1 (cc (h.2, b.1))), (λ b. old.1 (cc (h.2, b.1)))))
          (has_of_with_entry x es h.0 h.1)),
      ⊎_elim
          (λ h.
          let other : (h.0.0).name ≢ x.name = λ q. h.1 (path, (let named : name ≡ x.name = sym (h.0.2) ∙ q in rw named refl)) in
          (h.0.0, has_with_entry_other x es h.0.0 h.0.1 other, h.0.2, h.0.3))
          (λ h.
          let rest : path ≡ h.1 = cc (h.2) in
          (x, has_with_entry_new x es, cc (h.2), subst (λ p. At n p x) (sym rest) (subst (λ k. At k h.1 x) depth h.3))),
    )

pub files_without : (T : Table) (n : ℕ) (name : List ℕ) (es : List EntryView)
    → SameFiles (Files T n (without name es)) (Removed (name ∷ []) (Files T n es))
files_without T zero name es path mode id = ((λ h. absurd h), λ h. absurd h.0)
files_without T (suc n) name es [] mode id = ((λ h. absurd h), λ h. absurd h.0)
files_without T (suc n) name es (first ∷ path) mode id = (
  (λ h. let o = has_of_without name es h.0 h.1 in ((h.0, o.0, h.2, h.3), λ b. o.1 (cc (h.2, b.1)))),
  λ h. let ne : (h.0.0).name ≢ name = λ q. h.1 (path, (let r : first ≡ name = sym (h.0.2) ∙ q in rw r refl)) in
      (h.0.0, has_without_other name es h.0.0 h.0.1 ne, h.0.2, h.0.3),
)

pub files_of_non_null_entries : (T : Table) (n : ℕ) (es : List EntryView) → SameFiles (Files T n (non_null_entries es)) (Files T n es)
files_of_non_null_entries T zero es path mode id = ((λ h. absurd h), λ h. absurd h)
files_of_non_null_entries T (suc n) es [] mode id = ((λ h. absurd h), λ h. absurd h)
files_of_non_null_entries T (suc n) es (name ∷ path) mode id = (
  (λ h. (h.0, (Has-kept (λ e. not (is_null e.id)) es h.0 h.1).0, h.2, h.3)),
  λ h. (h.0, Has-keeps (λ e. not (is_null e.id)) es h.0 h.1 (ap not h.3.0), h.2, h.3),
)

-- having the same files is an equivalence of sets of files
pub same_files_refl : (A : FileSet) → SameFiles A A
same_files_refl A path mode id = ((λ h. h), λ h. h)

pub same_files_sym : (A B : FileSet) → SameFiles A B → SameFiles B A
same_files_sym A B same path mode id = ((same path mode id).1, (same path mode id).0)

pub same_files_trans : (A B C : FileSet) → SameFiles A B → SameFiles B C → SameFiles A C
same_files_trans A B C prefix back path mode id =
    ((λ h. (back path mode id).0 ((prefix path mode id).0 h)), λ h. (prefix path mode id).1 ((back path mode id).1 h))

pub upserted_congruent : (T : Table) (n : ℕ) (path : Path) (mode : ℕ) (id : ObjectId) (A B : FileSet) → SameFiles A B
    → SameFiles (Upserted T n path mode id A) (Upserted T n path mode id B)
upserted_congruent T n [] mode id A B same at mode' id' = same at mode' id'
upserted_congruent T n (name ∷ path) mode id A B same at mode' id' =
    (⊎_elim (λ h. inl ((same at mode' id').0 h.0, h.1, h.2)) inr, ⊎_elim (λ h. inl ((same at mode' id').1 h.0, h.1, h.2)) inr)

pub removed_congruent : (path : Path) (A B : FileSet) → SameFiles A B → SameFiles (Removed path A) (Removed path B)
removed_congruent [] A B same at mode id = same at mode id
removed_congruent (name ∷ path) A B same at mode id = ((λ h. ((same at mode id).0 h.0, h.1)), λ h. ((same at mode id).1 h.0, h.1))

pub ensured_congruent : (path : Path) (A B : FileSet) → SameFiles A B → SameFiles (Ensured path A) (Ensured path B)
ensured_congruent [] A B same at mode id = same at mode id
ensured_congruent (name ∷ path) A B same at mode id = ((λ h. ((same at mode id).0 h.0, h.1)), λ h. ((same at mode id).1 h.0, h.1))

-- if the root alone is open, it is the only directory
pub root_alone_at_root : (es : List EntryView) → map.get (root_alone es) [] ≡ Some es
root_alone_at_root es = map.get-insert (lists_total nat_list_cmp_total) map.empty [] es []

pub root_alone_below_root : (es : List EntryView) (name : List ℕ) (path : Path) → map.get (root_alone es) (name ∷ path) ≡ None
root_alone_below_root es name path = map.get-insert (lists_total nat_list_cmp_total) map.empty [] es (name ∷ path)
    ∙ map.get-empty (slice_cmp (slice_cmp nat_cmp))
    (name ∷ path)

pub root_alone_files : (T : Table) (n : ℕ) (es : List EntryView) → SameFiles (OpenFiles T n (λ path. map.get (root_alone es) path)) (Files T n es)
root_alone_files T n es = open_files_of_root_alone T n (λ path. map.get (root_alone es) path) es (root_alone_at_root es)
    (λ name. root_alone_below_root es name [])
