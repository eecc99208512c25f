-- Steps from a commit to its parents, joined.
use Rattle.std.proofs.Common.{◌+◌, ℕ, zero, suc, refl, sym, subst, suc-add, zero-add}
use Rattle.gixobj_walks_graph.specs.Graph.{Graph, HasAncestor, HasParent, LeadsTo}

pub steps_joined : {V : Type 0} (G : Graph V) (m n : ℕ) (a b c : V) → LeadsTo G m a b → LeadsTo G n b c
    → LeadsTo G (m + n) a c
steps_joined G zero n a b c first second =
    subst (λ k. LeadsTo G k a c) (sym (zero-add n)) (subst (λ x. LeadsTo G n x c) (sym first) second)
steps_joined G (suc m) n a b c first second =
    subst (λ k. LeadsTo G k a c) (sym (suc-add m n))
    (first.0, first.1, steps_joined G m n first.0 b c first.2 second)

-- an ancestor of an ancestor is an ancestor
pub ancestor_of_ancestor : {V : Type 0} (G : Graph V) (a b c : V) → HasAncestor G a b → HasAncestor G b c
    → HasAncestor G a c
ancestor_of_ancestor G a b c (m, first) (n, second) = (m + suc n, (first.0, first.1, steps_joined G m (suc n) first.0 b c first.2 second))

pub ancestor_from_parent : {V : Type 0} (G : Graph V) (a b : V) → HasParent G a b → HasAncestor G a b
ancestor_from_parent G a b parent = (0, (b, parent, refl))
