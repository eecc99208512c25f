-- The path is opened in the directory at the prefix, which holds from the top.
use Rattle.std.proofs.Common.{◌≡◌, subst}
use Rattle.std.proofs.lemmas.Result.{MatchResult-weaker}
use Rattle.gixobj_editor_files.specs.Bases.{base_opened}
use Rattle.gixobj_editor_files.specs.Edits.{Opens}
use Rattle.gixobj_editor_open.specs.Paths.{names_of}
use Rattle.gixobj_editor_open.proofs.BaseSteps.{opening}
use Rattle.gixobj_editor_open.proofs.Descents.{bases_at_ascent}
use Rattle.gixobj_editor_lookups.specs.Openings.{EndsBefore}
use Rattle.gixobj_editor_lookups.proofs.OpeningSteps.{HaltsAt, halts_at_goes_down, opens_goes_down}
use Rattle.gixobj_editor_lookups.proofs.OpeningsBelow.{goes_below, root_of_descended}
use Rattle.gixobj_editor_lookups.proofs.below.open_below.Goals as goal

pub leave-requires : goal.leave-requires
leave-requires g c = c.enter_all.ensures.are_above

pub returns-clause-opened : goal.returns-clause-opened
returns-clause-opened g c = MatchResult-weaker c.open_along-opened.result c.open_along-opened.ensures.opened (λ _ ok trees fits.
    let it = ok trees fits in
    let root = c.open_along-opened.ensures.root in
    let StopsBefore = EndsBefore c.args.not_looked_up in (
      it.0,
      goes_below (Opens StopsBefore trees) (opens_goes_down StopsBefore trees) (names_of c.args.prefix.now) (names_of c.args.path.now)
          c.args.node.now c.enter_all.new.node c.enter_all.new.above c.leave.new.self c.open_along-opened.new.node c.enter_all.ensures
          c.leave.ensures root.0 root.1 it.0 it.1,
      it.2,
    )) (λ _ u. u)

pub returns-clause-stopped_opening : goal.returns-clause-stopped_opening
returns-clause-stopped_opening g c = MatchResult-weaker c.open_along-opened.result c.open_along-opened.ensures.stopped_opening (λ _ u. u)
    (λ error bad trees fits.
    let it = bad trees fits in
    let root = c.open_along-opened.ensures.root in
    let StopsBefore = EndsBefore c.args.not_looked_up in (
      it.0,
      it.1,
      goes_below (HaltsAt StopsBefore trees it.1) (halts_at_goes_down StopsBefore trees it.1) (names_of c.args.prefix.now) (names_of c.args.path.now)
          c.args.node.now c.enter_all.new.node c.enter_all.new.above c.leave.new.self c.open_along-opened.new.node c.enter_all.ensures
          c.leave.ensures root.0 root.1 it.0 it.2,
      it.3,
      it.4,
    ))

pub returns-clause-root : goal.returns-clause-root
returns-clause-root g c =
    let root = c.open_along-opened.ensures.root in
    root_of_descended (names_of c.args.prefix.now) c.args.node.now c.enter_all.new.node c.enter_all.new.above c.enter_all.ensures root.0 root.1

pub returns-clause-bases : goal.returns-clause-bases
returns-clause-bases g c =
    bases_at_ascent c.enter_all.ensures c.leave.new.self c.open_along-opened.new.node c.leave.ensures base_opened opening
    c.open_along-opened.ensures.bases
