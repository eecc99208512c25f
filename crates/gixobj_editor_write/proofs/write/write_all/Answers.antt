use Rattle.std.proofs.Common.{◌≡◌, subst}
use Rattle.std.specs.Prelude.{OnOk}
use Rattle.gixobj_editor_files.specs.Bases.{edited_bases}
use Rattle.gixobj_editor_files.specs.Files.{Path}
use Rattle.gixobj_editor_open.specs.Nested.{Opened, bases_of, dirs_of}
use Rattle.gixobj_editor_write.proofs.write.write_all.Goals as goal

pub returns-clause-bases : goal.returns-clause-bases
returns-clause-bases g c = subst
    (λ (ds : Opened). OnOk c.write_settled.result ((at : Path) → bases_of c.write_settled.new.node at
    ≡ edited_bases (dirs_of ds) (dirs_of c.write_settled.new.node) (bases_of ds) at))
    c.settle.ensures c.write_settled.ensures.bases
