use Rattle.std.proofs.Common.{◌≡◌, subst, sym}
use Rattle.std.specs.Prelude.{IfErr, OnOk}
use Rattle.gixobj_editor_files.specs.Bases.{opened_bases}
use Rattle.gixobj_editor_files.specs.Files.{Path}
use Rattle.gixobj_editor_open.specs.Paths.{names_of}
use Rattle.gixobj_editor_open.specs.Nested.{Opened, bases_of, child_list, dirs_of, parts}
use Rattle.gixobj_editor_open.proofs.Levels.{dirs_of_nil}
use Rattle.gixobj_editor_lookups.proofs.OpeningDescents.{Opening, Stopping}
use Rattle.gixobj_editor_lookups.proofs.opening.open_along.Goals as goal

pub returns-clause-opened : goal.returns-clause-opened
returns-clause-opened g c =
    subst (λ (d : Opened). OnOk c.open_and_enter-depth.result.1 (Opening (g.S.Store.objects c.args.store.now) c.args.not_looked_up
    (names_of c.args.path.now) (dirs_of c.args.node.now) (dirs_of d) c.args.lookups.now c.open_and_enter-depth.new.lookups))
    (sym c.leave.ensures) c.open_and_enter-depth.ensures.opened

pub returns-clause-stopped_opening : goal.returns-clause-stopped_opening
returns-clause-stopped_opening g c =
    subst (λ (d : Opened). IfErr c.open_and_enter-depth.result.1 (λ error. Stopping (g.S.Store.objects c.args.store.now)
    (g.S.Store.may_fail c.args.store.now) c.args.not_looked_up error (names_of c.args.path.now) (dirs_of c.args.node.now) (dirs_of d)
    c.args.lookups.now c.open_and_enter-depth.new.lookups)) (sym c.leave.ensures) c.open_and_enter-depth.ensures.stopped_opening

pub returns-clause-bases : goal.returns-clause-bases
returns-clause-bases g c =
    subst (λ (d : Opened). (at : Path) → bases_of d at ≡ opened_bases (dirs_of c.args.node.now) (dirs_of d) (bases_of c.args.node.now) at)
    (sym c.leave.ensures) c.open_and_enter-depth.ensures.bases

pub returns-clause-root : goal.returns-clause-root
returns-clause-root g c =
    (c.node.inside.entries, dirs_of_nil c.args.node.now c.node.inside.entries (parts (child_list c.node.inside.children)) c.node.view_is)
