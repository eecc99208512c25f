-- One more id is peeled, or it is not.
use Rattle.std.proofs.Common.{◌≡◌, ◌∙◌, ◌++◌, ℕ, ◌+◌, ◌<◌, List, [], ◌∷◌, get_or, take, sym, ap, subst, length}
use Rattle.std.proofs.lemmas.List.{take_more}
use Rattle.std.proofs.lemmas.List.Elements.{Contains-get_or, filter_map-append}
use Rattle.std.specs.Prelude.{Bool, Option}
use Rattle.std.specs.List.{AllZip}
use Rattle.gixobj_hash.specs.declared.hash.object_id.ObjectId.{ObjectId}
use Rattle.gixobj_store.specs.Stores.{Objects}
use Rattle.gixobj_walks_commits.specs.Tags.{IsPeelError, IsPeeled}
use Rattle.gixobj_walks_commits.specs.declared.error.NodeError.{NodeError}
use Rattle.gixobj_walks_store.specs.Peeled.{ArePeeled, IsPeelToCommitsError, present}
use Rattle.gixobj_walks_store.specs.declared.error.WalkError.TheVariants as walk

zip_push : {A B : Type 0} (R : A → B → Type 0) (xs : List A) (ys : List B) (x : A) (y : B) → AllZip R xs ys → R x y
    → AllZip R (xs ++ x ∷ []) (ys ++ y ∷ [])
zip_push R [] [] x y zip last = (last, tt)
zip_push R [] (b ∷ ys) x y zip last = absurd zip
zip_push R (a ∷ xs) [] x y zip last = absurd zip
zip_push R (a ∷ xs) (b ∷ ys) x y zip last = (zip.0, zip_push R xs ys x y zip.1 last)

pub peeled_one_more : (objects : Objects) (max : ℕ) (ids : List ObjectId) (index : ℕ) (d looked_up : ObjectId) (old new : List ObjectId)
    (found : Option ObjectId) → index < length ids → looked_up ≡ get_or ids index d → ArePeeled objects max (take index ids) old
    → IsPeeled objects max looked_up found → new ≡ old ++ present (found ∷ []) → ArePeeled objects max (take (index + 1) ids) new
peeled_one_more objects max ids index d looked_up old new found inside same (before, zip, is) last grown = (
  before ++ found ∷ [],
  subst (λ it. AllZip (IsPeeled objects max) it (before ++ found ∷ [])) (sym (take_more ids index d inside))
      (zip_push (IsPeeled objects max) (take index ids) before (get_or ids index d) found zip
      (subst (λ (id : ObjectId). IsPeeled objects max id found) same last)),
  grown ∙ ap (λ it. it ++ present (found ∷ [])) is ∙ sym (filter_map-append (λ (it : Option ObjectId). it) before (found ∷ [])),
)

pub peel_error_at : (objects : Objects) (may_fail : ObjectId → Bool) (max : ℕ) (ids : List ObjectId) (index : ℕ) (d looked_up : ObjectId)
    (cause : NodeError) → index < length ids → looked_up ≡ get_or ids index d → IsPeelError objects may_fail max looked_up cause
    → IsPeelToCommitsError objects may_fail max ids (walk.Node cause)
peel_error_at objects may_fail max ids index d looked_up cause inside same error = (
  get_or ids index d,
  Contains-get_or ids index d inside,
  subst (λ (id : ObjectId). IsPeelError objects may_fail max id cause) same error,
)
