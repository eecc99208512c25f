-- The numbers of commits' ids: what a lookup finds, and the numbers after an id is appended.
use Rattle.std.proofs.Common.{◌≡◌, ◌∙◌, ◌++◌, ℕ, zero, suc, Bool, true, false, cond, List, [], ◌∷◌, refl, sym, ap, subst}
use Rattle.std.proofs.Common.{◌⊎◌, MatchOption, arith, inl, inr, length, ⊎_elim}
use Rattle.std.specs.Prelude.{Option, Some, None}
use Rattle.std.specs.BTreeMap as tree
use Rattle.std.specs.BTreeMap.{BTreeMap, Updates, is_at}
use Rattle.std.specs.Cmp.{eq_by_cmp_equiv}
use Rattle.std.specs.Map.{lookup}
use mathlib.Core.Bool.{true≢false}
use Rattle.gixobj_hash.specs.Hash.Order.{id_cmp}
use Rattle.gixobj_hash.specs.Hash.OrderLaws.{id_cmp_total}
use Rattle.gixobj_hash.specs.declared.hash.object_id.ObjectId.{ObjectId}
use Rattle.gixobj_walks.proofs.IdOrder.{same_id_of_is_eq}
use Rattle.gixobj_walks.specs.Named.{AreDistinct, IsUnnamed, Names}
use Rattle.gixobj_walks.specs.Numbers.{AreNumbers}

-- what a lookup finds is the number, or there is none
pub number_of_lookup : (ids : List ObjectId) (numbers : BTreeMap ObjectId ℕ) → AreNumbers ids numbers → (id : ObjectId)
    (found : Option ℕ) → found ≡ tree.get id_cmp numbers id → MatchOption found (IsUnnamed ids id) (λ number. Names ids number id)
number_of_lookup ids numbers are id None is = λ number name. cc (are.numbered id number name)
number_of_lookup ids numbers are id (Some number) is = are.named id number (sym is)

-- each id has one number
pub distinct_of_numbers : (ids : List ObjectId) (numbers : BTreeMap ObjectId ℕ) → AreNumbers ids numbers → AreDistinct ids
distinct_of_numbers ids numbers are number other id name other_name = cc (are.numbered id number name, are.numbered id other other_name)

-- ---- an id is appended

-- an id compares as equal to itself
other_than_itself : {id key : ObjectId} → is_at (id_cmp id) key ≡ false → ¬ (id ≡ key)
other_than_itself {id} {key} other same =
    let equal : is_at (id_cmp id) id ≡ true = (eq_by_cmp_equiv id_cmp_total).refl id in
    true≢false (sym (subst (λ it. is_at (id_cmp id) it ≡ true) same equal) ∙ other)

name_of_longer : {V : Type 0} (ids : List V) (more : V) (number : ℕ) (id : V) → Names ids number id → Names (ids ++ more ∷ []) number id
name_of_longer [] more number id name = absurd (cc)
name_of_longer (first ∷ ids) more zero id name = name
name_of_longer (first ∷ ids) more (suc number) id name = name_of_longer ids more number id name

pub name_of_last : {V : Type 0} (ids : List V) (id : V) → Names (ids ++ id ∷ []) (length ids) id
name_of_last [] id = refl
name_of_last (first ∷ ids) id = name_of_last ids id

-- a name in the longer list is one of before, or the last
name_cases : {V : Type 0} (ids : List V) (more : V) (number : ℕ) (id : V) → Names (ids ++ more ∷ []) number id
    → (Names ids number id) ⊎ ((number ≡ length ids) × (more ≡ id))
name_cases [] more zero id name = inr (refl, cc)
name_cases [] more (suc number) id name = absurd (cc)
name_cases (first ∷ ids) more zero id name = inl name
name_cases (first ∷ ids) more (suc number) id name = ⊎_elim (λ it. inl it)
    (λ last. let position : number ≡ length ids = last.0 in inr (omega arith, last.1)) (name_cases ids more number id name)

-- an id that no number has is at no key of the map
absent_of_unnamed : (ids : List ObjectId) (numbers : BTreeMap ObjectId ℕ) → AreNumbers ids numbers → (id : ObjectId)
    → IsUnnamed ids id → (found : Option ℕ) → tree.get id_cmp numbers id ≡ found → found ≡ None
absent_of_unnamed ids numbers are id unnamed None is = refl
absent_of_unnamed ids numbers are id unnamed (Some number) is = absurd (unnamed number (are.named id number is))

module _ (ids : List ObjectId) (old new : BTreeMap ObjectId ℕ) (id : ObjectId) where
  pushed_named : AreNumbers ids old → Updates id_cmp old new id (Some (length ids)) → (key : ObjectId) (number : ℕ) (b : Bool)
      → is_at (id_cmp id) key ≡ b → tree.get id_cmp new key ≡ Some number → Names (ids ++ id ∷ []) number key
  pushed_named are updates key number true same is =
      let last : length ids ≡ number = cc (updates.0 key) in
      subst (λ it. Names (ids ++ id ∷ []) number it) (same_id_of_is_eq id key same)
      (subst (λ n. Names (ids ++ id ∷ []) n id) last (name_of_last ids id))
  pushed_named are updates key number false other is =
      name_of_longer ids id number key (are.named key number (sym (updates.2 key other) ∙ is))

  pushed_numbered : AreNumbers ids old → IsUnnamed ids id → Updates id_cmp old new id (Some (length ids)) → (key : ObjectId) (number : ℕ)
      (b : Bool) → is_at (id_cmp id) key ≡ b → Names (ids ++ id ∷ []) number key → tree.get id_cmp new key ≡ Some number
  pushed_numbered are unnamed updates key number true same name =
      ⊎_elim (λ before. absurd (unnamed number (subst (λ it. Names ids number it) (sym (same_id_of_is_eq id key same)) before)))
      (λ last. updates.0 key ∙ ap (λ b. cond b (Some (length ids)) (tree.get id_cmp old key)) same ∙ ap Some (sym last.0)) (name_cases ids id number key name)
  pushed_numbered are unnamed updates key number false other name =
      ⊎_elim (λ before. updates.2 key other ∙ are.numbered key number before)
      (λ last. absurd (other_than_itself other last.1)) (name_cases ids id number key name)

  -- the numbers after the id is appended
  pub numbers_of_push : AreNumbers ids old → IsUnnamed ids id → Updates id_cmp old new id (Some (length ids))
      → AreNumbers (ids ++ id ∷ []) new
  numbers_of_push are unnamed updates = record {
    named = λ key number is. pushed_named are updates key number (is_at (id_cmp id) key) refl is;
    numbered = λ key number name. pushed_numbered are unnamed updates key number (is_at (id_cmp id) key) refl name;
  }

-- the numbers of a map with the entries of before
pub numbers_unchanged : (ids : List ObjectId) (old new : BTreeMap ObjectId ℕ) → tree.IsUnchanged old new → AreNumbers ids old
    → AreNumbers ids new
numbers_unchanged ids old new same are =
    let lookups : (id : ObjectId) → tree.get id_cmp new id ≡ tree.get id_cmp old id =
    λ id. ap (λ entries. lookup (is_at (id_cmp id)) entries) same in
    record {
      named = λ id number is. are.named id number (sym (lookups id) ∙ is);
      numbered = λ id number name. lookups id ∙ are.numbered id number name;
    }
