use Rattle.std.proofs.Common.{◌∙◌, ap, refl}
use Rattle.std.specs.List.{flat_map}
use Rattle.gixobj_cli_batch.specs.Lines.{file_line}
use Rattle.gixobj_cli_batch.proofs.files.list_files.Goals as goal

pub returns-clause-printed : goal.returns-clause-printed
returns-clause-printed c = record {
  root = c.in_ok-root.root;
  files = c.in_ok-files.files.items;
  tree = c.in_ok-root.ensures.found;
  listed = c.in_ok-files.ensures.files;
  ordered = c.in_ok-files.ensures.ordered;
  read = c.in_ok-files.ensures.opened;
  printed = c.in_ok-lines.ensures ∙ ap (flat_map file_line) c.deref.ensures.value;
  no_fault = refl;
}
