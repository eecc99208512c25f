use Rattle.std.proofs.Common.{◌∙◌, ap, refl}
use Rattle.std.specs.List.{flat_map}
use Rattle.gixobj_cli_batch.specs.Lines.{change_line}
use Rattle.gixobj_cli_batch.proofs.differences.list_changes.Goals as goal

pub returns-clause-printed : goal.returns-clause-printed
returns-clause-printed c = record {
  before = c.in_ok-before.before;
  after = c.in_ok-after.after;
  changes = c.in_ok-changes.changes.items;
  tree_before = c.in_ok-before.ensures.found;
  tree_after = c.in_ok-after.ensures.found;
  same = c.in_ok-changes.ensures.none;
  listed = c.in_ok-changes.ensures.changes;
  ordered = c.in_ok-changes.ensures.ordered;
  printed = c.in_ok-lines.ensures ∙ ap (flat_map change_line) c.deref.ensures.value;
  no_fault = refl;
}
