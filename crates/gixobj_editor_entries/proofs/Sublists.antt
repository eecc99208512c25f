-- A property of the elements of a list, or of each with each later one, holds of a filtered list.
use Rattle.std.proofs.Common.{◌≡◌, Bool, true, false, not, cond, List, [], ◌∷◌, ◌++◌, refl}
use Rattle.std.specs.List.{AllByRecursion, filter}
use Rattle.gixobj_tree_entries.specs.KeyOrder.{EachLater}

module _ {X : Type 0} where
  pub all_weaker : (P Q : X → Type 0) → ((x : X) → P x → Q x) → (xs : List X) → AllByRecursion P xs → AllByRecursion Q xs
  all_weaker P Q f [] h = tt
  all_weaker P Q f (x ∷ xs) h = (f x h.0, all_weaker P Q f xs h.1)

  pub all_both : (P Q : X → Type 0) (xs : List X) → AllByRecursion P xs → AllByRecursion Q xs → AllByRecursion (λ x. P x × Q x) xs
  all_both P Q [] h k = tt
  all_both P Q (x ∷ xs) h k = ((h.0, k.0), all_both P Q xs h.1 k.1)

  pub all_append : (P : X → Type 0) (xs ys : List X) → AllByRecursion P xs → AllByRecursion P ys → AllByRecursion P (xs ++ ys)
  all_append P [] ys h k = k
  all_append P (x ∷ xs) ys h k = (h.0, all_append P xs ys h.1 k)

  pub all_kept : (P : X → Type 0) (p : X → Bool) (xs : List X) → AllByRecursion P xs → AllByRecursion P (filter p xs)
  all_kept P p [] h = tt
  all_kept P p (x ∷ xs) h = elim (p x) as (λ b. AllByRecursion P (cond b (x ∷ filter p xs) (filter p xs))) [
    | true ↦ (h.0, all_kept P p xs h.1)
    | false ↦ all_kept P p xs h.1
  ]

  pub all_pass : (p : X → Bool) (xs : List X) → AllByRecursion (λ x. p x ≡ true) (filter p xs)
  all_pass p [] = tt
  all_pass p (x ∷ xs) = elim (p x) as (λ b. p x ≡ b → AllByRecursion (λ y. p y ≡ true) (cond b (x ∷ filter p xs) (filter p xs))) [
    | true ↦ λ passes. (passes, all_pass p xs)
    | false ↦ λ fails. all_pass p xs
  ] refl

  pub later_append : (R : X → X → Type 0) (xs ys : List X) → EachLater R xs → EachLater R ys → AllByRecursion (λ x. AllByRecursion (R x) ys) xs
      → EachLater R (xs ++ ys)
  later_append R [] ys h k c = k
  later_append R (x ∷ xs) ys h k c = (all_append (R x) xs ys h.0 c.0, later_append R xs ys h.1 k c.1)

  pub later_kept : (R : X → X → Type 0) (p : X → Bool) (xs : List X) → EachLater R xs → EachLater R (filter p xs)
  later_kept R p [] h = tt
  later_kept R p (x ∷ xs) h = elim (p x) as (λ b. EachLater R (cond b (x ∷ filter p xs) (filter p xs))) [
    | true ↦ (all_kept (R x) p xs h.0, later_kept R p xs h.1)
    | false ↦ later_kept R p xs h.1
  ]

  -- a symmetric relation holds between the elements that pass a test and the others
  pub later_parted : (R : X → X → Type 0) (p : X → Bool) (xs : List X) → ((x y : X) → R x y → R y x) → EachLater R xs
      → AllByRecursion (λ x. AllByRecursion (R x) (filter (λ y. not (p y)) xs)) (filter p xs)
  later_parted R p [] flip h = tt
  later_parted R p (x ∷ xs) flip h =
      elim (p x) as (λ b. AllByRecursion (λ y. AllByRecursion (R y) (cond (not b) (x ∷ filter (λ z. not (p z)) xs) (filter (λ z. not (p z)) xs)))
      (cond b (x ∷ filter p xs) (filter p xs))) [
        | true ↦ (all_kept (R x) (λ z. not (p z)) xs h.0, later_parted R p xs flip h.1)
        | false ↦ all_both (λ y. R y x) (λ y. AllByRecursion (R y) (filter (λ z. not (p z)) xs)) (filter p xs)
            (all_weaker (λ y. R x y) (λ y. R y x) (λ y r. flip x y r) (filter p xs) (all_kept (R x) p xs h.0)) (later_parted R p xs flip h.1)
      ]
