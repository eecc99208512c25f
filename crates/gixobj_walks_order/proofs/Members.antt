-- What a list contains, and lists in which each element is once.
use Rattle.std.proofs.Common.{◌≡◌, ◌≢◌, ◌⊎◌, ◌++◌, ◌∙◌, ◌+◌, length, List, [], ◌∷◌, Contains, inl, inr, refl, sym, ap, subst, ⊎_elim, arith}
use Rattle.std.specs.List.{AllByRecursion}
use Rattle.std.proofs.lemmas.List.Elements.{All-contains, All-from_recursion, Contains-append_cases, Contains-append_left, Contains-append_right}
use Rattle.std.proofs.lemmas.List.Elements.{Contains-push_cases, Contains-push}
use Rattle.gixobj_walks_graph.specs.Graph.{AreOnce}

pub contains_nothing : {V : Type 0} (x : V) → ¬ Contains [] x
contains_nothing x has = omega (arith, has.1)

pub contains_here : {V : Type 0} (x : V) (xs : List V) → Contains (x ∷ xs) x
contains_here x xs = Contains-append_left (x ∷ []) xs x (Contains-push [] x)

pub contains_later : {V : Type 0} (x y : V) (xs : List V) → Contains xs y → Contains (x ∷ xs) y
contains_later x y xs has = Contains-append_right (x ∷ []) xs y has

pub contains_only : {V : Type 0} (x y : V) → Contains (x ∷ []) y → x ≡ y
contains_only x y has = ⊎_elim (λ none. absurd (contains_nothing y none)) (λ same. same) (Contains-push_cases [] x y has)

pub contains_cases : {V : Type 0} (x y : V) (xs : List V) → Contains (x ∷ xs) y → (x ≡ y) ⊎ Contains xs y
contains_cases x y xs has = ⊎_elim (λ here. inl (contains_only x y here)) (λ later. inr later)
    (Contains-append_cases (x ∷ []) xs y has)

pub contains_decided : {V : Type 0} → ((x y : V) → (x ≡ y) ⊎ (x ≢ y)) → (xs : List V) (y : V)
    → Contains xs y ⊎ (¬ Contains xs y)
contains_decided decide [] y = inr (contains_nothing y)
contains_decided decide (x ∷ xs) y = ⊎_elim
    (λ same. inl (subst (λ z. Contains (x ∷ xs) z) same (contains_here x xs)))
    (λ other. ⊎_elim
    (λ later. inl (contains_later x y xs later))
    (λ none. inr (λ has. ⊎_elim other none (contains_cases x y xs has)))
    (contains_decided decide xs y))
    (decide x y)

pub each_contained : {V : Type 0} (P : V → Type 0) (xs : List V) (x : V) → AllByRecursion P xs → Contains xs x → P x
each_contained P xs x each has = All-contains P xs x (All-from_recursion P xs each) has

pub each_from_contained : {V : Type 0} (P : V → Type 0) (xs : List V) → ((x : V) → Contains xs x → P x)
    → AllByRecursion P xs
each_from_contained P [] each = tt
each_from_contained P (x ∷ xs) each =
    (each x (contains_here x xs), each_from_contained P xs (λ y has. each y (contains_later x y xs has)))

-- ---- an element that is inserted

-- the second list is the first one with an element more
pub record IsInserted {V : Type 0} (id : V) (old new : List V) : Type 0 where
  pub before : List V
  pub after : List V
  pub was : old ≡ before ++ after
  pub joined : new ≡ before ++ id ∷ after

inserted_cases_at : {V : Type 0} (id x : V) (before after : List V) → Contains (before ++ id ∷ after) x
    → (id ≡ x) ⊎ Contains (before ++ after) x
inserted_cases_at id x before after has = ⊎_elim
    (λ left. inr (Contains-append_left before after x left))
    (λ right. ⊎_elim (λ same. inl same) (λ later. inr (Contains-append_right before after x later)) (contains_cases id x after right))
    (Contains-append_cases before (id ∷ after) x has)

inserted_keeps_at : {V : Type 0} (id x : V) (before after : List V) → Contains (before ++ after) x
    → Contains (before ++ id ∷ after) x
inserted_keeps_at id x before after has = ⊎_elim
    (λ left. Contains-append_left before (id ∷ after) x left)
    (λ right. Contains-append_right before (id ∷ after) x (contains_later id x after right))
    (Contains-append_cases before after x has)

once_inserted_at : {V : Type 0} (id : V) (before after : List V) → AreOnce (before ++ after)
    → (¬ Contains (before ++ after) id) → AreOnce (before ++ id ∷ after)
once_inserted_at id [] after once new =
    (each_from_contained (λ y. id ≢ y) after (λ y has same. new (subst (λ z. Contains after z) (sym same) has)), once)
once_inserted_at id (b ∷ bs) after once new = (
  each_from_contained (λ y. b ≢ y) (bs ++ id ∷ after)
      (λ y has. ⊎_elim
      (λ same is. new (subst (λ z. Contains (b ∷ (bs ++ after)) z) (is ∙ sym same) (contains_here b (bs ++ after))))
      (λ old. each_contained (λ y. b ≢ y) (bs ++ after) y once.0 old)
      (inserted_cases_at id y bs after has)),
  once_inserted_at id bs after once.1 (λ has. new (contains_later b id (bs ++ after) has)),
)

once_removed_at : {V : Type 0} (id : V) (before after : List V) → AreOnce (before ++ id ∷ after)
    → AreOnce (before ++ after) × (¬ Contains (before ++ after) id)
once_removed_at id [] after once = (once.1, λ has. each_contained (λ y. id ≢ y) after id once.0 has refl)
once_removed_at id (b ∷ bs) after once =
    let more = once_removed_at id bs after once.1 in (
      (
        each_from_contained (λ y. b ≢ y) (bs ++ after)
            (λ y has. each_contained (λ y. b ≢ y) (bs ++ id ∷ after) y once.0 (inserted_keeps_at id y bs after has)),
        more.0,
      ),
      λ has. ⊎_elim
          (λ same. each_contained (λ y. b ≢ y) (bs ++ id ∷ after) id once.0 (Contains-append_right bs (id ∷ after) id (contains_here id after)) same)
          more.1
          (contains_cases b id (bs ++ after) has),
    )

module _ {V : Type 0} (id : V) (old new : List V) (inserted : IsInserted id old new) where
  pub inserted_cases : (x : V) → Contains new x → (id ≡ x) ⊎ Contains old x
  inserted_cases x has = ⊎_elim (λ same. inl same) (λ rest. inr (subst (λ l. Contains l x) (sym inserted.was) rest))
      (inserted_cases_at id x inserted.before inserted.after (subst (λ l. Contains l x) inserted.joined has))

  pub inserted_keeps : (x : V) → Contains old x → Contains new x
  inserted_keeps x has = subst (λ l. Contains l x) (sym inserted.joined)
      (inserted_keeps_at id x inserted.before inserted.after (subst (λ l. Contains l x) inserted.was has))

  pub inserted_itself : Contains new id
  inserted_itself = subst (λ l. Contains l id) (sym inserted.joined)
      (Contains-append_right inserted.before (id ∷ inserted.after) id (contains_here id inserted.after))

  pub once_inserted : AreOnce old → (¬ Contains old id) → AreOnce new
  once_inserted once absent = subst (λ l. AreOnce l) (sym inserted.joined)
      (once_inserted_at id inserted.before inserted.after (subst (λ l. AreOnce l) inserted.was once)
      (λ has. absent (subst (λ l. Contains l id) (sym inserted.was) has)))

  pub once_removed : AreOnce new → AreOnce old
  once_removed once = subst (λ l. AreOnce l) (sym inserted.was)
      (once_removed_at id inserted.before inserted.after (subst (λ l. AreOnce l) inserted.joined once)).0

  pub absent_removed : AreOnce new → ¬ Contains old id
  absent_removed once has = (once_removed_at id inserted.before inserted.after (subst (λ l. AreOnce l) inserted.joined once)).1
      (subst (λ l. Contains l id) inserted.was has)

-- the elements are inserted, one after the other
abbrev pub AreInserted : {V : Type 0} → List V → List V → List V → Type 0
AreInserted [] old new = new ≡ old
AreInserted {V} (id ∷ ids) old new = (next : List V) × IsInserted id old next × AreInserted ids next new

pub all_inserted_cases : {V : Type 0} (ids old new : List V) → AreInserted ids old new → (x : V) → Contains new x
    → Contains ids x ⊎ Contains old x
all_inserted_cases [] old new inserted x has = inr (subst (λ l. Contains l x) inserted has)
all_inserted_cases (id ∷ ids) old new (next, first, others) x has = ⊎_elim
    (λ later. inl (contains_later id x ids later))
    (λ rest. ⊎_elim
    (λ same. inl (subst (λ z. Contains (id ∷ ids) z) same (contains_here id ids)))
    (λ was. inr was)
    (inserted_cases id old next first x rest))
    (all_inserted_cases ids next new others x has)

pub all_inserted_keeps : {V : Type 0} (ids old new : List V) → AreInserted ids old new → (x : V) → Contains old x
    → Contains new x
all_inserted_keeps [] old new inserted x has = subst (λ l. Contains l x) (sym inserted) has
all_inserted_keeps (id ∷ ids) old new (next, first, others) x has =
    all_inserted_keeps ids next new others x (inserted_keeps id old next first x has)

pub all_inserted_each : {V : Type 0} (ids old new : List V) → AreInserted ids old new → (x : V) → Contains ids x
    → Contains new x
all_inserted_each [] old new inserted x has = absurd (contains_nothing x has)
all_inserted_each (id ∷ ids) old new (next, first, others) x has = ⊎_elim
    (λ same. all_inserted_keeps ids next new others x (subst (λ z. Contains next z) same (inserted_itself id old next first)))
    (λ later. all_inserted_each ids next new others x later)
    (contains_cases id x ids has)

pub all_inserted_once : {V : Type 0} (ids old new : List V) → AreInserted ids old new → AreOnce ids → AreOnce old
    → ((x : V) → Contains ids x → ¬ Contains old x) → AreOnce new
all_inserted_once [] old new inserted once_ids once apart = subst (λ l. AreOnce l) (sym inserted) once
all_inserted_once (id ∷ ids) old new (next, first, others) once_ids once apart =
    all_inserted_once ids next new others once_ids.1
    (once_inserted id old next first once (apart id (contains_here id ids)))
    (λ x has there. ⊎_elim
    (λ same. each_contained (λ y. id ≢ y) ids x once_ids.0 has same)
    (λ was. apart x (contains_later id x ids has) was)
    (inserted_cases id old next first x there))

inserted_length : {V : Type 0} (id : V) (before after : List V)
    → length (before ++ id ∷ after) ≡ length (before ++ after) + 1
inserted_length id [] after = omega arith
inserted_length id (b ∷ bs) after = let more = inserted_length id bs after in omega arith

pub all_inserted_length : {V : Type 0} (ids old new : List V) → AreInserted ids old new
    → length new ≡ length old + length ids
all_inserted_length [] old new inserted = let same : length new ≡ length old = ap length inserted in omega arith
all_inserted_length (id ∷ ids) old new (next, first, others) =
    let one : length next ≡ length old + 1 =
    ap length first.joined ∙ inserted_length id first.before first.after ∙ ap (λ l. length l + 1) (sym first.was) in
    let more = all_inserted_length ids next new others in
    omega arith
