-- The arguments of walks: which of them name none.
use Rattle.std.proofs.Common.{◌≡◌, ◌∙◌, ◌⊎◌, ◌++◌, ℕ, List, [], ◌∷◌, Option, None, Some, ⊎_elim, ap, arith, codes, inl, inr, length, refl, subst, sym}
use Rattle.gix_object.specs.hash.hash.object_id.ObjectId.{ObjectId}
use Rattle.gixobj_cli_batch.specs.Arguments.{AreWalkArguments, NamesNoCommand, NamesNoHiddenId, NamesNoOrder, NamesNoWalk, order_arguments}
use Rattle.gixobj_cli_batch.specs.Arguments.{IsHiddenArgument}
use Rattle.gixobj_cli_batch.specs.declared.arguments.Command.TheVariants as command
use Rattle.gixobj_walks_graph.specs.declared.order.Order.{Order}
use Rattle.gixobj_walks_graph.specs.declared.order.Order.TheVariants.{Date, Topological}

-- the length of the first argument, and the other arguments
abbrev first_length : List (List ℕ) → ℕ
first_length [] = 0
first_length (first ∷ rest) = length first

abbrev after_first : List (List ℕ) → List (List ℕ)
after_first [] = []
after_first (first ∷ rest) = rest

abbrev second_of : List (List ℕ) → List ℕ
second_of [] = []
second_of (first ∷ []) = []
second_of (first ∷ second ∷ rest) = second

tip_length : (ids : List (List ℕ)) (tip : ObjectId) (hidden : Option ObjectId) → AreWalkArguments ids tip hidden
    → (first_length ids ≡ 40) ⊎ (first_length ids ≡ 64)
tip_length ids tip None walk =
    ⊎_elim (λ it. inl (ap first_length walk.1 ∙ it)) (λ it. inr (ap first_length walk.1 ∙ it)) walk.2.0.0
tip_length ids tip (Some hidden) walk =
    ⊎_elim (λ it. inl (ap first_length walk.2 ∙ it)) (λ it. inr (ap first_length walk.2 ∙ it)) walk.3.0.0

one_is_not_two : (first second hex : List ℕ) → ¬ (first ∷ second ∷ [] ≡ hex ∷ [])
one_is_not_two first second hex same =
    let count : 2 ≡ 1 = ap (λ (it : List (List ℕ)). length it) same in
    omega (arith, count)

pub no_walk_without_hidden : (first second : List ℕ) → NamesNoHiddenId second → NamesNoWalk (first ∷ second ∷ [])
no_walk_without_hidden first second none tip None walk = absurd (one_is_not_two first second walk.0 walk.1)
no_walk_without_hidden first second none tip (Some hidden) walk =
    none hidden (subst (λ (it : List ℕ). IsHiddenArgument it hidden) (sym (ap second_of walk.2)) walk.4)

no_walk_of_order : (ids rest : List (List ℕ)) (tip : ObjectId) (hidden : Option ObjectId) → ids ≡ codes "--topo-order" ∷ rest
    → ¬ AreWalkArguments ids tip hidden
no_walk_of_order ids rest tip hidden is walk =
    let twelve : first_length ids ≡ 12 = ap first_length is in
    ⊎_elim (λ it. omega (arith, it, twelve)) (λ it. omega (arith, it, twelve)) (tip_length ids tip hidden walk)

no_walk_of_arguments : (order named : Order) (arguments ids others : List (List ℕ)) (tip : ObjectId) (hidden : Option ObjectId)
    → arguments ≡ order_arguments order ++ ids → (order ≡ Date → NamesNoOrder arguments) → NamesNoWalk ids
    → arguments ≡ order_arguments named ++ others → ¬ AreWalkArguments others tip hidden
no_walk_of_arguments Date Date arguments ids others tip hidden is none no_walk same walk =
    no_walk tip hidden (subst (λ (it : List (List ℕ)). AreWalkArguments it tip hidden) (sym same ∙ is) walk)
no_walk_of_arguments Date Topological arguments ids others tip hidden is none no_walk same walk = none refl others same
no_walk_of_arguments Topological Date arguments ids others tip hidden is none no_walk same walk =
    no_walk_of_order others ids tip hidden (sym same ∙ is) walk
no_walk_of_arguments Topological Topological arguments ids others tip hidden is none no_walk same walk =
    no_walk tip hidden (subst (λ (it : List (List ℕ)). AreWalkArguments it tip hidden) (ap after_first (sym same ∙ is)) walk)

-- the name `rev-list` has eight bytes, and no other name has
pub no_rev_list : (order : Order) (arguments ids : List (List ℕ)) → arguments ≡ order_arguments order ++ ids
    → (order ≡ Date → NamesNoOrder arguments) → NamesNoWalk ids → NamesNoCommand (codes "rev-list" ∷ arguments)
no_rev_list order arguments ids is none no_walk (command.Check strict) named =
    let eight : 8 ≡ 5 = ap first_length named in omega (arith, eight)
no_rev_list order arguments ids is none no_walk (command.Log id) named =
    let eight : 8 ≡ 3 = ap first_length named.1 in omega (arith, eight)
no_rev_list order arguments ids is none no_walk (command.List id) named =
    let eight : 8 ≡ 2 = ap first_length named.1 in omega (arith, eight)
no_rev_list order arguments ids is none no_walk (command.Diff from to) named =
    let eight : 8 ≡ 4 = ap first_length named.2 in omega (arith, eight)
no_rev_list order arguments ids is none no_walk (command.MergeBase one other) named =
    let eight : 8 ≡ 10 = ap first_length named.2 in omega (arith, eight)
no_rev_list order arguments ids is none no_walk (command.RevList other tip hidden) named =
    no_walk_of_arguments order other arguments ids named.0 tip hidden is none no_walk (ap after_first named.1) named.2
