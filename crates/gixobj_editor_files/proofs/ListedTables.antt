-- A list of pairs, a store, and both together have a table of trees. The laws of tables use it.
use Rattle.std.proofs.Common.{All, ◌≡◌, ◌≢◌, ◌⊎◌, inl, inr, ⊎_elim, Bool, true, false, List, [], ◌∷◌, ◌∙◌, refl, sym, ap, subst, Option, Some, None}
use Rattle.std.specs.Fmt.{digits}
use Rattle.std.specs.List.{AllByRecursion}
use Rattle.std.proofs.lemmas.List.Elements.{All-from_recursion, recursion_from_All}
use Rattle.sha1.specs.Sha1 as sha1
use Rattle.sha2.specs.Sha256 as sha256
use Rattle.gixobj_tree_entries.specs.Entries.{EntryView, Pair}
use Rattle.gixobj_hash.specs.Hash.{id_kind, id_of}
use Rattle.gixobj_hash.specs.declared.hash.kind.Kind.{Kind}
use Rattle.gixobj_hash.specs.declared.hash.kind.Kind.TheVariants as hash
use Rattle.gixobj_hash.specs.declared.hash.object_id.ObjectId.{ObjectId}
use Rattle.gixobj_hash.specs.declared.kind.Kind.TheVariants.{Tree}
use Rattle.gixobj_editor_files.specs.Files.{Table, Trees, is_null}
use Rattle.gixobj_editor_files.specs.Tables.{AgreesWithPairs, AgreesWithStore, IsConsistentWith, IsNeverLookedUp, IsFirst, IsTableOfStore, IsTableOf}
use Rattle.gixobj_hash.proofs.SameIds.{id_eq_or_ne}

-- the ids of the empty tree, as digests, aren't null
sha1_empty_tree_id_not_null : is_null (id_of hash.Sha1 Tree []) ≡ false
unfolding digits sha1.first_words sha1.schedule sha1.rounds sha1.compress sha1.hash_after sha1.digest_bytes sha1.sha1
sha1_empty_tree_id_not_null = refl

sha256_empty_tree_id_not_null : is_null (id_of hash.Sha256 Tree []) ≡ false
unfolding digits sha256.first_words sha256.schedule sha256.rounds sha256.compress sha256.hash_after sha256.digest_bytes sha256.sha256
sha256_empty_tree_id_not_null = refl

empty_tree_id_not_null : (hash : Kind) → is_null (id_of hash Tree []) ≡ false
empty_tree_id_not_null hash.Sha1 = sha1_empty_tree_id_not_null
empty_tree_id_not_null hash.Sha256 = sha256_empty_tree_id_not_null

abbrev IsEmpty : ObjectId → Type 0
IsEmpty it = (hash : Kind) × (it ≡ id_of hash Tree [])

abbrev IsFilled : ObjectId → Type 0
IsFilled it = (hash : Kind) → it ≢ id_of hash Tree []

is_filled_of_ne_empty_ids : (it : ObjectId) → it ≢ id_of hash.Sha1 Tree [] → it ≢ id_of hash.Sha256 Tree [] → IsFilled it
is_filled_of_ne_empty_ids it one other hash.Sha1 = one
is_filled_of_ne_empty_ids it one other hash.Sha256 = other

is_empty_or_is_filled : (it : ObjectId) → IsEmpty it ⊎ IsFilled it
is_empty_or_is_filled it =
    ⊎_elim (λ is. inl (hash.Sha1, is))
    (λ one. ⊎_elim (λ is. inl (hash.Sha256, is)) (λ other. inr (is_filled_of_ne_empty_ids it one other)) (id_eq_or_ne it (id_of hash.Sha256 Tree [])))
    (id_eq_or_ne it (id_of hash.Sha1 Tree []))

-- a table of chosen trees; the null ids and those of the empty tree are as in every table
module _ (choose : Trees) where
  abbrev chosen : (it : ObjectId) → IsEmpty it ⊎ IsFilled it → Option (List EntryView)
  chosen it (inl is) = Some []
  chosen it (inr is) = choose it

  abbrev chosen_at : ObjectId → Bool → Option (List EntryView)
  chosen_at it true = None
  chosen_at it false = chosen it (is_empty_or_is_filled it)

  chosen_empty : (hash : Kind) (which : IsEmpty (id_of hash Tree []) ⊎ IsFilled (id_of hash Tree [])) → chosen (id_of hash Tree []) which ≡ Some []
  chosen_empty hash (inl is) = refl
  chosen_empty hash (inr is) = absurd (is hash refl)

  chosen_filled : (it : ObjectId) → IsFilled it → (which : IsEmpty it ⊎ IsFilled it) → chosen it which ≡ choose it
  chosen_filled it other (inl is) = absurd (other is.0 is.1)
  chosen_filled it other (inr is) = refl

  abbrev chosen_table : Table
  chosen_table = record {
    tree_at = λ it. chosen_at it (is_null it);
    nothing_by_null = λ it null. ap (chosen_at it) null;
    none_in_empty = λ hash. ap (chosen_at (id_of hash Tree [])) (empty_tree_id_not_null hash) ∙ chosen_empty hash (is_empty_or_is_filled (id_of hash Tree []));
  }

  chooses : (it : ObjectId) → is_null it ≡ false → IsFilled it → chosen_table.tree_at it ≡ choose it
  chooses it some other = ap (chosen_at it) some ∙ chosen_filled it other (is_empty_or_is_filled it)

first_in_pairs_exists : (pairs : List Pair) (it : ObjectId) → (found : Option (List EntryView)) × IsFirst pairs it found
first_in_pairs_exists [] it = (None, refl)
first_in_pairs_exists (pair ∷ pairs) it = ⊎_elim (λ same. (Some pair.1, inl (same, refl))) (λ other. let rest = first_in_pairs_exists pairs it in
    (rest.0, inr (other, rest.1)))
    (id_eq_or_ne pair.0 it)

pub table_of_pairs_exists : (pairs : List Pair) → (T : Table) × IsTableOf T pairs
table_of_pairs_exists pairs =
    let choose : Trees = λ it. (first_in_pairs_exists pairs it).0 in
    (chosen_table choose, λ it some other. subst (IsFirst pairs it) (sym (chooses choose it some other)) (first_in_pairs_exists pairs it).1)

-- an id that is looked up isn't null
not_null_of_looked_up : (it : ObjectId) → (IsNeverLookedUp it → ⊥) → is_null it ≡ false
not_null_of_looked_up it searched = elim (is_null it) as (λ b. is_null it ≡ b → b ≡ false) [
  | true ↦ λ null. absurd (searched (inl null))
  | false ↦
      λ some. refl
] refl

empty_tree_id_kind : (hash : Kind) → id_kind (id_of hash Tree []) ≡ hash
empty_tree_id_kind hash.Sha1 = refl
empty_tree_id_kind hash.Sha256 = refl

is_filled_of_looked_up : (it : ObjectId) → (IsNeverLookedUp it → ⊥) → IsFilled it
is_filled_of_looked_up it searched hash is = searched (inr (is ∙ ap (λ (h : Kind). id_of h Tree []) (sym (ap id_kind is ∙ empty_tree_id_kind hash))))

pub table_of_store_exists : (trees : Trees) → (T : Table) × IsTableOfStore T trees
table_of_store_exists trees = (chosen_table trees, λ it searched. chooses trees it (not_null_of_looked_up it searched) (is_filled_of_looked_up it searched))

-- the pair is in the list
abbrev IsIn : List Pair → Pair → Type 0
IsIn [] pair = ⊥
IsIn (first ∷ pairs) pair = (first ≡ pair) ⊎ IsIn pairs pair

holds_of_all_pairs : (P : Pair → Type 0) (pairs : List Pair) → AllByRecursion P pairs → (pair : Pair) → IsIn pairs pair → P pair
holds_of_all_pairs P [] all pair h = absurd h
holds_of_all_pairs P (first ∷ pairs) all pair (inl same) = subst P same all.0
holds_of_all_pairs P (first ∷ pairs) all pair (inr h) = holds_of_all_pairs P pairs all.1 pair h

all_pairs_of_each : (P : Pair → Type 0) (pairs : List Pair) → ((pair : Pair) → IsIn pairs pair → P pair) → AllByRecursion P pairs
all_pairs_of_each P [] all = tt
all_pairs_of_each P (first ∷ pairs) all = (all first (inl refl), all_pairs_of_each P pairs (λ pair h. all pair (inr h)))

-- the tree of the first pair of an id is that of some pair of the id
abbrev IsKnown : List Pair → ObjectId → Option (List EntryView) → Type 0
IsKnown pairs it found = ((found ≡ None) × ((pair : Pair) → IsIn pairs pair → pair.0 ≢ it))
    ⊎ ((pair : Pair) × IsIn pairs pair × (pair.0 ≡ it) × (found ≡ Some pair.1))

is_known_of_first : (pairs : List Pair) (it : ObjectId) (found : Option (List EntryView)) → IsFirst pairs it found → IsKnown pairs it found
is_known_of_first [] it found none = inl (none, λ pair h. absurd h)
is_known_of_first (first ∷ pairs) it found (inl is) = inr (first, inl refl, is.0, is.1)
is_known_of_first (first ∷ pairs) it found (inr (other, rest)) = in_rest (is_known_of_first pairs it found rest)
  where
    differs : ((pair : Pair) → IsIn pairs pair → pair.0 ≢ it) → (pair : Pair) → IsIn (first ∷ pairs) pair → pair.0 ≢ it
    differs none pair (inl same) = λ is. other (ap (λ (p : Pair). p.0) same ∙ is)
    differs none pair (inr h) = none pair h

    in_rest : IsKnown pairs it found → IsKnown (first ∷ pairs) it found
    in_rest (inl none) = inl (none.0, differs none.1)
    in_rest (inr some) = inr (some.0, inr some.1, some.2, some.3)

module _ (pairs : List Pair) (trees : Trees) (fits : IsConsistentWith pairs trees) where
  abbrev or_the_store : ObjectId → Option (List EntryView) → Option (List EntryView)
  or_the_store it None = trees it
  or_the_store it (Some entries) = Some entries

  abbrev either : Trees
  either it = or_the_store it (first_in_pairs_exists pairs it).0

  filled_pair : (pair : Pair) → IsIn pairs pair → is_null pair.0 ≡ false
  filled_pair = holds_of_all_pairs (λ pair. is_null pair.0 ≡ false) pairs (recursion_from_All (λ pair. is_null pair.0 ≡ false) pairs fits.filled)

  empty_pair : (pair : Pair) → IsIn pairs pair → (hash : Kind) → pair.0 ≡ id_of hash Tree [] → pair.1 ≡ []
  empty_pair = holds_of_all_pairs (λ pair. (hash : Kind) → pair.0 ≡ id_of hash Tree [] → pair.1 ≡ []) pairs
      (recursion_from_All (λ pair. (hash : Kind) → pair.0 ≡ id_of hash Tree [] → pair.1 ≡ []) pairs fits.empty)

  same_tree : (pair : Pair) → IsIn pairs pair → (other : Pair) → IsIn pairs other → other.0 ≡ pair.0 → other.1 ≡ pair.1
  same_tree pair h other =
      holds_of_all_pairs (λ other. other.0 ≡ pair.0 → other.1 ≡ pair.1) pairs (recursion_from_All (λ other. other.0 ≡ pair.0 → other.1 ≡ pair.1) pairs
      (holds_of_all_pairs (λ (pair : Pair). All (λ other. other.0 ≡ pair.0 → other.1 ≡ pair.1) pairs) pairs
      (recursion_from_All (λ (pair : Pair). All (λ other. other.0 ≡ pair.0 → other.1 ≡ pair.1) pairs) pairs fits.one_tree) pair h)) other

  store_tree : (pair : Pair) → IsIn pairs pair → (entries : List EntryView) → trees pair.0 ≡ Some entries → entries ≡ pair.1
  store_tree = holds_of_all_pairs (λ pair. (entries : List EntryView) → trees pair.0 ≡ Some entries → entries ≡ pair.1) pairs
      (recursion_from_All (λ pair. (entries : List EntryView) → trees pair.0 ≡ Some entries → entries ≡ pair.1) pairs fits.of_the_store)

  -- the table has the tree of each pair at its id
  either_pair : (pair : Pair) → IsIn pairs pair → (found : Option (List EntryView)) → IsKnown pairs pair.0 found → or_the_store pair.0 found ≡ Some pair.1
  either_pair pair h found (inl none) = absurd (none.1 pair h refl)
  either_pair pair h found (inr some) = ap (or_the_store pair.0) some.3 ∙ ap Some (same_tree pair h some.0 some.1 some.2)

  -- the table has the store's tree at each id that the store names
  either_store : (it : ObjectId) (entries : List EntryView) → trees it ≡ Some entries → (found : Option (List EntryView)) → IsKnown pairs it found
      → or_the_store it found ≡ Some entries
  either_store it entries is found (inl none) = ap (or_the_store it) none.0 ∙ is
  either_store it entries is found (inr some) = ap (or_the_store it) some.3 ∙ ap Some (sym (store_tree some.0 some.1 entries (ap trees some.2 ∙ is)))

  at_pair : (pair : Pair) → IsIn pairs pair → (which : IsEmpty pair.0 ⊎ IsFilled pair.0) → (chosen_table either).tree_at pair.0 ≡ Some pair.1
  at_pair pair h (inl is) = ap (chosen_table either).tree_at is.1 ∙ (chosen_table either).none_in_empty is.0 ∙ ap Some (sym (empty_pair pair h is.0 is.1))
  at_pair pair h (inr other) = chooses either pair.0 (filled_pair pair h) other ∙ either_pair pair h (first_in_pairs_exists pairs pair.0).0
      (is_known_of_first pairs pair.0 (first_in_pairs_exists pairs pair.0).0 (first_in_pairs_exists pairs pair.0).1)

  pub fitting_table : (T : Table) × AgreesWithStore T trees × AgreesWithPairs T pairs
  fitting_table = (
    chosen_table either,
    (λ it entries searched is. chooses either it (not_null_of_looked_up it searched) (is_filled_of_looked_up it searched)
        ∙ either_store it entries is (first_in_pairs_exists pairs it).0
        (is_known_of_first pairs it (first_in_pairs_exists pairs it).0 (first_in_pairs_exists pairs it).1)),
    All-from_recursion (λ pair. (chosen_table either).tree_at pair.0 ≡ Some pair.1) pairs
        (all_pairs_of_each (λ pair. (chosen_table either).tree_at pair.0 ≡ Some pair.1) pairs (λ pair h. at_pair pair h (is_empty_or_is_filled pair.0))),
  )
