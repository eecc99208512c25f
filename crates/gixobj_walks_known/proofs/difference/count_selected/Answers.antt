use Rattle.std.proofs.Common.{◌∙◌, Bool, List, ap}
use Rattle.std.specs.Prelude.{count_by}
use Rattle.gixobj_walks_known.proofs.Marks.{count_of_marks}
use Rattle.gixobj_walks_known.proofs.difference.count_selected.Goals as goal

pub returns : goal.returns
returns c = λ nodes tips hidden on_left on_right.
    let marks = c.in_ok-chosen.ensures.selected nodes tips hidden on_left on_right in
    let found = count_of_marks c.in_ok-chosen.chosen.items marks in
    record {
      ids = found.0;
      exact = found.1;
      once = found.2;
      count_is = c.count.ensures ∙ ap (λ (it : List Bool). count_by (λ mark. mark) it) c.deref.ensures.value ∙ found.3;
    }
