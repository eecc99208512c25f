-- The root alone is open.
use Rattle.std.proofs.Common.{[]}
use Rattle.gixobj_editor.proofs.Edited.{map_is_opened}
use Rattle.gixobj_editor.proofs.RootAlone.{root_alone_dirs_have_bases, root_alone_open_files, root_alone_is_opened}
use Rattle.gixobj_editor.proofs.OpenedOn.{root_opened_on}
use Rattle.gixobj_editor.proofs.editor.Editor.new.Goals as goal

pub invariant_of-result : goal.invariant_of-result
invariant_of-result g c = root_opened_on c.new.result c.args.root [] c.new.ensures c.requires

pub returns-clause-is_opened : goal.returns-clause-is_opened
returns-clause-is_opened g c = map_is_opened c.new.result (root_alone_is_opened c.new.result c.args.root c.new.ensures c.requires)

pub returns-clause-files : goal.returns-clause-files
returns-clause-files g c = root_alone_open_files c.new.result c.args.root c.new.ensures

pub returns-clause-has_bases : goal.returns-clause-has_bases
returns-clause-has_bases g c = root_alone_dirs_have_bases c.new.result c.args.root c.new.ensures
