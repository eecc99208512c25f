use Rattle.std.proofs.Common.{◌≡◌, ◌∙◌, ◌∷◌, List, sym, ap, subst}
use Rattle.bstr.specs.Owned.{bstring_bytes}
use Rattle.gixobj_editor_open.specs.declared.open.Child.{Child}
use Rattle.gixobj_editor_open.specs.Nested.{Opened, opened, parts}
use Rattle.gixobj_editor_open.specs.LeafTrees.{inside_of, leaf_trees}
use Rattle.gixobj_editor_open.proofs.LeafTrees.{below_ne_nil, leaf_trees_of_parent}
use Rattle.gixobj_editor_open.proofs.open.Open.has_open_directory.Goals as goal

pub returns-clause-some : goal.returns-clause-some
returns-clause-some c = λ _.
    let child = c.in-Some.child.now in
    let es = c.self.inside.entries in
    let base = c.self.inside.base in
    let all = (c.in-Some.ensures {u = tt}).some in
    let node : opened es base (parts (child ∷ all.0)) ≡ c.args.self.now = ap (λ (cs : List Child). opened es base (parts cs)) (sym all.1) ∙ c.self.view_is in
    subst (λ (ds : Opened). leaf_trees ds ≡ leaf_trees (inside_of ds)) node
    (leaf_trees_of_parent es base (bstring_bytes child.name) child.open (parts all.0) _ c.base_of.ensures)

pub returns-clause-non_empty : goal.returns-clause-non_empty
returns-clause-non_empty c = λ _ none.
    let child = c.in-Some.child.now in
    let es = c.self.inside.entries in
    let base = c.self.inside.base in
    let all = (c.in-Some.ensures {u = tt}).some in
    let node : opened es base (parts (child ∷ all.0)) ≡ c.args.self.now = ap (λ (cs : List Child). opened es base (parts cs)) (sym all.1) ∙ c.self.view_is in
    below_ne_nil (bstring_bytes child.name) child.open (parts all.0) _ c.base_of.ensures (ap inside_of node ∙ none)
