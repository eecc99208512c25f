use Rattle.std.proofs.Common.{◌≡◌, ◌∙◌, ◌++◌, length, sym, ap, subst, arith}
use Rattle.gixobj_editor_open.specs.Children.{remaining_list}
use Rattle.gixobj_editor_open.specs.Nested.{IsLevel, below, child_list, opened, parts}
use Rattle.gixobj_editor_open.proofs.copying.begin.Goals as goal

pub returns-clause-half : goal.returns-clause-half
returns-clause-half c =
    let rest = parts (remaining_list c.remaining-remaining.result) in
    let here = parts (child_list c.node.inside.children) in
    let es = c.from_tree.result in
    let base = c.in_ok-base.base in
    let all : parts c.new.result.items ++ rest ≡ here = ap (λ xs. parts xs ++ rest) c.new.ensures.items ∙ ap parts c.remaining-remaining.ensures.list in
    let same : es ≡ c.node.inside.entries = c.from_tree.ensures ∙ c.in_ok-tree.ensures in
    record {
      view = ap (opened es base) all ∙ ap (λ b. opened es b here) c.in_ok-base.ensures ∙ ap (λ xs. opened xs c.node.inside.base here) same ∙ c.node.view_is;
      level = subst (IsLevel es) (sym all) (subst (λ xs. IsLevel xs here) (sym same) c.node.invariant.level);
      filled = c.remaining-remaining.ensures.filled;
    }

pub returns-clause-fewer : goal.returns-clause-fewer
returns-clause-fewer c = omega (arith, ap (λ cs. length (below (parts cs))) c.remaining-remaining.ensures.list, ap length c.node.view_is)
