-- Searches by name of the headers that an iterator yields.
use Rattle.std.proofs.Common.{◌≡◌, ◌≢◌, ℕ, List, [], ◌∷◌, ◌++◌, map, Option, Some, arith, length, length-append, refl, sym, ap, subst, ◌∙◌}
use Rattle.std.proofs.lemmas.List.Elements.{All-nil, All-push}
use Rattle.std.proofs.lemmas.List.{map-append}
use Rattle.std.specs.Iterator.{Yields}
use Rattle.bstr.specs.BStr.{bstr_bytes}
use Rattle.bstr.specs.declared.bstr.BStr.{BStr}
use Rattle.gixobj_commit.specs.ExtraHeaders.{FindsPosition, Gave, NextValue, HasNoHeaderNamed, header_at, pair_of}

pub no_header_named_in_nil : (name : List ℕ) → HasNoHeaderNamed name (map pair_of [])
no_header_named_in_nil name = All-nil (λ it. it.name ≢ name)

pub no_header_named_snoc : (name : List ℕ) (others : List (BStr × BStr)) (key value : BStr) → HasNoHeaderNamed name (map pair_of others) → bstr_bytes key ≢ name
    → HasNoHeaderNamed name (map pair_of (others ++ (key, value) ∷ []))
no_header_named_snoc name others key value lacks other =
    subst (HasNoHeaderNamed name) (sym (map-append pair_of others ((key, value) ∷ [])))
    (All-push (λ it. it.name ≢ name) (map pair_of others) (pair_of (key, value)) lacks other)

module _ {S : Type 0} (steps : S → Option (BStr × BStr) → S → Type 0) (name : List ℕ) where
  -- a step after others yields one more header
  yields_one_more : (from at to : S) (others : List (BStr × BStr)) (pair : BStr × BStr) → Yields steps from others at → steps at (Some pair) to
      → Yields steps from (others ++ pair ∷ []) to
  yields_one_more from at to [] pair yielded step = (to, subst (λ it. steps it (Some pair) to) (sym yielded) step, refl)
  yields_one_more from at to (first ∷ others) pair (next, gave, yielded) step = (next, gave, yields_one_more next at to others pair yielded step)

  gave_first : (from at to : S) (others : List (BStr × BStr)) (key value : BStr) → HasNoHeaderNamed name (map pair_of others) → Yields steps from others at
      → steps at (Some (key, value)) to → bstr_bytes key ≡ name
      → Gave steps name from (others ++ (key, value) ∷ []) (Some value) to
  gave_first from at to others key value lacks yielded step named = (
    yields_one_more from at to others (key, value) yielded step,
    map pair_of others,
    (lacks, map-append pair_of others ((key, value) ∷ []) ∙ ap (λ (it : List ℕ). map pair_of others ++ header_at it value ∷ []) named),
  )

  pub next_value_of_yields : (from at to : S) (others : List (BStr × BStr)) (key value : BStr) → HasNoHeaderNamed name (map pair_of others)
      → Yields steps from others at → steps at (Some (key, value)) to → bstr_bytes key ≡ name
      → NextValue steps name from (Some value) to
  next_value_of_yields from at to others key value lacks yielded step named =
      (others ++ (key, value) ∷ [], gave_first from at to others key value lacks yielded step named)

  pub finds_position_of_yields : (start from at to : S) (others : List (BStr × BStr)) (key value : BStr) (index : ℕ) → index ≡ length others
      → HasNoHeaderNamed name (map pair_of others) → from ≡ start
      → Yields steps from others at → steps at (Some (key, value)) to → bstr_bytes key ≡ name → FindsPosition steps name start (Some index)
  finds_position_of_yields start from at to others key value index counted lacks same yielded step named =
      let found_first = gave_first start at to others key value lacks (subst (λ it. Yields steps it others at) same yielded) step named in
      (others ++ (key, value) ∷ [], to, (value, found_first, omega (arith, counted, length-append others ((key, value) ∷ []))))
