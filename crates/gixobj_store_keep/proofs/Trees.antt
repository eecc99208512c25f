-- Trees that are kept in order.
use Rattle.std.proofs.Common.{◌≡◌, ◌<◌, ◌+◌, ℕ, All, List, [], ◌∷◌, ◌++◌, add-one, ap, get_or, length, refl, subst, sym, take, ◌∙◌}
use Rattle.std.proofs.Math.Seq.{take-suc}
use Rattle.std.proofs.lemmas.List.Elements.{All-append, All-cons, All-nil}
use Rattle.gixobj_store.specs.Stores.{Objects}
use Rattle.gixobj_tree_entries.specs.Entries.{Pair}
use Rattle.gixobj_store_keep.specs.Keeping.{with_tree, with_trees}
use Rattle.gixobj_tree.specs.TreeEncoding.{IsEncodableTree}

-- a list of trees is kept by keeping its two parts in order
pub with_trees_append : (first then : List Pair) (objects : Objects) → with_trees (first ++ then) objects ≡ with_trees then (with_trees first objects)
with_trees_append [] then objects = refl
with_trees_append (it ∷ first) then objects = with_trees_append first then (with_tree it objects)

module _ (trees : List Pair) (number : ℕ) (it : Pair) (within : number < length trees) (is : it ≡ get_or trees number it) where
  one_more : take (number + 1) trees ≡ take number trees ++ it ∷ []
  one_more = ap (λ n. take n trees) (add-one number) ∙ take-suc trees number it within ∙ ap (λ (x : Pair). take number trees ++ x ∷ []) (sym is)

  pub more_kept : (old before after : Objects) → before ≡ with_trees (take number trees) old → after ≡ with_tree it before
      → after ≡ with_trees (take (number + 1) trees) old
  more_kept old before after so_far kept =
      kept ∙ ap (with_tree it) so_far ∙ sym (with_trees_append (take number trees) (it ∷ []) old) ∙ ap (λ (ts : List Pair). with_trees ts old) (sym one_more)

  pub more_have_encodings : All (λ kept. IsEncodableTree kept.1) (take number trees) → IsEncodableTree it.1
      → All (λ kept. IsEncodableTree kept.1) (take (number + 1) trees)
  more_have_encodings so_far has =
      let P : Pair → Type 0 = λ kept. IsEncodableTree kept.1 in
      subst (All P) (sym one_more) (All-append P (take number trees) (it ∷ []) so_far (All-cons P it [] has (All-nil P)))
