-- A canonical tree is built from pairs of a table; the law of equal ids uses it.
use Rattle.std.proofs.Common.{◌≡◌, ◌≢◌, inl, inr, ⊎_elim, ℕ, zero, suc, true, false, List, [], ◌∷◌, ◌++◌, Option, Some, None, Contains, refl, sym, ap, subst}
use Rattle.std.proofs.Common.{◌∙◌, arith}
use Rattle.std.specs.Prelude.{MatchOption}
use Rattle.std.specs.List.{AllByRecursion}
use Rattle.std.proofs.lemmas.List.Elements.{Contains-append_left, Contains-append_right}
use Rattle.gix_object.specs.BuiltTrees.{IsBuilt, IsClean, built}
use Rattle.gix_object.specs.Entries.{EntryView, Pair}
use Rattle.gix_object.specs.Files.{ContainsEntry, Table, Trees}
use Rattle.gix_object.specs.Hash.{id_kind}
use Rattle.gix_object.specs.Mode.{is_tree_mode, tree_type}
use Rattle.gix_object.specs.Tables.{AgreesWithStore}
use Rattle.gix_object.specs.hash.hash.kind.Kind.{Kind}
use Rattle.gix_object.specs.hash.hash.object_id.ObjectId.{ObjectId}
use Rattle.gixobj_examples_audits.specs.Canonical.{IsCanonicalTree, IsCanonicalEntry, IsPlainDirectory, NamesFilledTree}

-- an option with a property has a value with it
pub some_of_match : {X : Type 0} (o : Option X) (P : X → Type 0) → MatchOption o ⊥ P → (x : X) × (o ≡ Some x) × P x
some_of_match None P h = absurd h
some_of_match (Some x) P h = (x, refl, h)

-- each entry of a list has what all have
pub all_of_contains : (P : EntryView → Type 0) (es : List EntryView) → AllByRecursion P es → (e : EntryView) → ContainsEntry es e → P e
all_of_contains P [] all e h = absurd h
all_of_contains P (x ∷ es) all e (inl same) = subst P same all.0
all_of_contains P (x ∷ es) all e (inr h) = all_of_contains P es all.1 e h

-- what all of two lists have, all of the appended lists have
pub all_joined : (P : Pair → Type 0) (xs ys : List Pair) → AllByRecursion P xs → AllByRecursion P ys → AllByRecursion P (xs ++ ys)
all_joined P [] ys h k = k
all_joined P (x ∷ xs) ys h k = (h.0, all_joined P xs ys h.1 k)

Contains-head : (x : Pair) (xs : List Pair) → Contains (x ∷ xs) x
Contains-head x xs = (zero, omega arith, refl)

-- the id is that of a pair whose tree is built and isn't empty
record IsOfPair (pairs : List Pair) (id : ObjectId) : Type 0 where
  tree : List EntryView
  filled : tree ≢ []
  named : Contains pairs (id, tree)
  is_built : IsBuilt pairs tree

-- each directory of the entries has the mode 040000 and the id of a pair
abbrev RestsOn : List Pair → List EntryView → Type 0
RestsOn pairs entries = (e : EntryView) → ContainsEntry entries e → is_tree_mode e.mode ≡ true → (e.mode ≡ tree_type) × IsOfPair pairs e.id

is_built_of_rests_on : (pairs : List Pair) (entries : List EntryView) → IsClean entries → RestsOn pairs entries → IsBuilt pairs entries
is_built_of_rests_on pairs entries clean rests =
    built entries clean (λ e h t. (rests e h t).0) (λ e h t. (rests e h t).1.tree) (λ e h t. (rests e h t).1.filled) (λ e h t. (rests e h t).1.named)
    (λ e h t. (rests e h t).1.is_built)

-- a tree that is built from pairs is built from more
abbrev Within : List Pair → List Pair → Type 0
Within pairs more = (pair : Pair) → Contains pairs pair → Contains more pair

pub is_built_within : (pairs more : List Pair) → Within pairs more → (es : List EntryView) → IsBuilt pairs es → IsBuilt more es
is_built_within pairs more within es (built l clean modes tree filled named deep) =
    built l clean modes tree filled (λ e h t. within (e.id, tree e h t) (named e h t))
    (λ e h t. is_built_within pairs more within (tree e h t) (deep e h t))

rests_on_within : (pairs more : List Pair) → Within pairs more → (es : List EntryView) → RestsOn pairs es → RestsOn more es
rests_on_within pairs more within es rests e h t =
    let it = (rests e h t).1 in (
      (rests e h t).0,
      record {
        tree = it.tree;
        filled = it.filled;
        named = within (e.id, it.tree) it.named;
        is_built = is_built_within pairs more within it.tree it.is_built;
      },
    )

module _ (T : Table) (trees : Trees) (hash : Kind) (agrees : AgreesWithStore T trees) where
  -- the table has the tree by the id, which is of the kind
  abbrev pub IsKnown : Pair → Type 0
  IsKnown pair = (T.tree_at pair.0 ≡ Some pair.1) × (id_kind pair.0 ≡ hash)

  abbrev pub IsBuiltOfKnown : List EntryView → Type 0
  IsBuiltOfKnown es = (pairs : List Pair) × AllByRecursion IsKnown pairs × IsBuilt pairs es

  abbrev RestsOnKnown : List EntryView → Type 0
  RestsOnKnown es = (pairs : List Pair) × AllByRecursion IsKnown pairs × RestsOn pairs es

  directory_rests : (e : EntryView) (es : List EntryView) (IsIts : List EntryView → Type 0)
      → IsPlainDirectory hash e → NamesFilledTree trees IsIts e.id
      → ((tree : List EntryView) → IsIts tree → IsBuiltOfKnown tree) → RestsOnKnown es → RestsOnKnown (e ∷ es)
  directory_rests e es IsIts plain is deep more =
      let it = some_of_match (trees e.id) (λ entries. (entries ≢ []) × IsIts entries) is.tree in
      let below = deep it.0 it.2.1 in
      let pairs : List Pair = (e.id, it.0) ∷ below.0 ++ more.0 in
      let later : Within (below.0 ++ more.0) pairs = Contains-append_right ((e.id, it.0) ∷ []) (below.0 ++ more.0) in
      let named : T.tree_at e.id ≡ Some it.0 = agrees e.id it.0 is.looked_up it.1 in
      let first : IsOfPair pairs e.id = record {
        tree = it.0;
        filled = it.2.0;
        named = Contains-head (e.id, it.0) (below.0 ++ more.0);
        is_built = is_built_within below.0 pairs (λ pair h. later pair (Contains-append_left below.0 more.0 pair h)) it.0 below.2;
      } in
      let rest = rests_on_within more.0 pairs (λ pair h. later pair (Contains-append_right below.0 more.0 pair h)) es more.2 in
      let rests : RestsOn pairs (e ∷ es) = λ x h t. ⊎_elim
      (λ same. subst (λ (y : EntryView). (y.mode ≡ tree_type) × IsOfPair pairs y.id) same (plain.0, first))
      (λ k. rest x k t) h in
      (pairs, ((named, plain.1), all_joined IsKnown below.0 more.0 below.1 more.1), rests)

  entries_rest : (IsIts : List EntryView → Type 0) → ((tree : List EntryView) → IsIts tree → IsBuiltOfKnown tree) → (es : List EntryView)
      → AllByRecursion (IsCanonicalEntry trees hash IsIts) es → RestsOnKnown es
  entries_rest IsIts deep [] all = ([], tt, λ e h t. absurd h)
  entries_rest IsIts deep (e ∷ es) (first, all) =
      let more = entries_rest IsIts deep es all in
      elim (is_tree_mode e.mode) as (λ b. is_tree_mode e.mode ≡ b → RestsOnKnown (e ∷ es)) [
        | true ↦ λ t. directory_rests e es IsIts (first.1 t).0 (first.1 t).1 deep more
        | false ↦ λ t. (
          more.0,
          more.1,
          λ x h u. ⊎_elim
              (λ same. absurd (let no : true ≡ false = sym u ∙ ap (λ (y : EntryView). is_tree_mode y.mode) (sym same) ∙ t in cc no))
              (λ k. more.2 x k u) h,
        )
      ] refl

  -- a canonical tree is built from pairs of the table
  pub is_built_of_canonical : (n : ℕ) (es : List EntryView) → IsCanonicalTree trees hash n es → IsBuiltOfKnown es
  is_built_of_canonical zero es h = absurd h
  is_built_of_canonical (suc n) es (formed, all) =
      let r = entries_rest (IsCanonicalTree trees hash n) (is_built_of_canonical n) es all in (
        r.0,
        r.1,
        is_built_of_rests_on r.0 es (record {
          formed = formed;
          filled = λ e h.
              (all_of_contains (IsCanonicalEntry trees hash (IsCanonicalTree trees hash n)) es all e h).0;
        }) r.2,
      )
