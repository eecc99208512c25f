use Rattle.std.proofs.Common.{◌∙◌, ap, sym}
use Rattle.bstr.specs.Owned.{bstring_bytes}
use Rattle.gixobj_editor_open.specs.Paths.{names_of}
use Rattle.gixobj_editor_lookups.specs.EditNames.{directory_of}
use Rattle.gixobj_editor_lookups.proofs.Paths.{directory_of_snoc, names_of_snoc}
use Rattle.gixobj_editor_lookups.proofs.names.above.Goals as goal

pub returns-in-Some : goal.returns-in-Some
returns-in-Some c =
    sym (ap directory_of (names_of_snoc c.args.path.now c.in-Some.directory.now c.in-Some._last.now c.in-Some.ensures.cases.0)
    ∙ directory_of_snoc (names_of c.in-Some.directory.now) (bstring_bytes c.in-Some._last.now))
