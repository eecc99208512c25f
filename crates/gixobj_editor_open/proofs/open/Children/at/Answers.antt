use Rattle.std.proofs.Common.{◌≡◌, ◌∙◌, ◌-◌, suc, arith}
use Rattle.gixobj_editor_open.proofs.Pieces.{child_in_more}
use Rattle.gixobj_editor_open.proofs.open.Children.at.Goals as goal

pub returns : goal.returns
returns c =
    let is : c.args.at.piece ≡ suc (c.args.at.piece - 1) = omega (arith, c.if-at-eq0.false) in
    c.index-2.ensures ∙ child_in_more c.args.self.now c.args.at.piece c.args.at.index c.index-2.result.now (c.args.at.piece - 1) is c.requires
    c.index-piece.result.now c.index-piece.ensures
