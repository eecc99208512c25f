-- The ids that a walk knows are those of its starts, and of the parents of what it was given.
use Rattle.std.proofs.Common.{◌≡◌, ◌++◌, ℕ, ◌+◌, ◌<◌, List, [], ◌∷◌, ⊎_elim, get_or, inl, inr, sym, ap, subst, length, take, arith}
use Rattle.std.proofs.lemmas.List.{take_more}
use Rattle.std.proofs.lemmas.List.Elements.{Contains-append_cases, Contains-append_left, Contains-append_right}
use Rattle.std.specs.Prelude.{Contains}
use Rattle.gixobj_walks.specs.Named.{AreOfEither}

pub known_already : {V : Type 0} (ids more : List V) → AreOfEither ids ids more
known_already ids more = λ id has. inl has

-- an id is appended
pub known_appended : {V : Type 0} (old new : List V) (id : V) → new ≡ old ++ id ∷ [] → AreOfEither new old (id ∷ [])
known_appended old new id is = λ other has.
    Contains-append_cases old (id ∷ []) other (subst (λ ids. Contains ids other) is has)

-- the ids up to an index are known, and then the next
pub known_one_more : {V : Type 0} (first second third ids : List V) (index : ℕ) (d : V) → index < length ids
    → AreOfEither second first (take index ids) → AreOfEither third second (get_or ids index d ∷ [])
    → AreOfEither third first (take (index + 1) ids)
known_one_more first second third ids index d inside before last =
    subst (λ more. AreOfEither third first more) (sym (take_more ids index d inside))
    (λ id has. ⊎_elim
    (λ old. ⊎_elim (λ it. inl it) (λ it. inr (Contains-append_left (take index ids) (get_or ids index d ∷ []) id it)) (before id old))
    (λ new. inr (Contains-append_right (take index ids) (get_or ids index d ∷ []) id new))
    (last id has))

-- the starts of both sides
pub known_starts : {V : Type 0} (none first second left right : List V) → none ≡ [] → AreOfEither first none left
    → AreOfEither second first right → AreOfEither second left right
known_starts none first second left right empty from_left from_right = λ id has. ⊎_elim
    (λ it. ⊎_elim
    (λ never.
    let is : length none ≡ 0 = ap length empty in
    let inside : never.0 < length none = never.1 in
    absurd (omega (arith, inside, is)))
    (λ here. inl here)
    (from_left id it))
    (λ here. inr here)
    (from_right id has)
