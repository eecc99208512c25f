use Rattle.std.proofs.Common.{◌≡◌, ◌∙◌, ◌-◌, ℕ, suc, refl, sym, ap, arith}
use Rattle.gixobj_editor_open.specs.Children.{with_child}
use Rattle.gixobj_editor_open.proofs.Pieces.{changed_in_more, child_in_first, child_in_more}
use Rattle.gixobj_editor_open.proofs.open.Children.at_mut.Goals as goal

pub returns-then-at-eq0 : goal.returns-then-at-eq0
returns-then-at-eq0 c = (
  (refl, λ next. ap (λ (k : ℕ). with_child c.args.self.now k c.args.at.index next) (sym c.if-at-eq0.true)),
  record {
    writes_back = tt;
    value = c.index_mut.ensures.value
        ∙ child_in_first c.args.self.now c.args.at.piece c.args.at.index c.index_mut.result.now c.if-at-eq0.true c.requires;
  },
)

pub returns : goal.returns
returns c =
    let is : c.args.at.piece ≡ suc (c.args.at.piece - 1) = omega (arith, c.if-at-eq0.false) in
    let child = c.index_mut-2.result.now in
    let piece = c.index_mut-piece.result.now in (
      (refl, changed_in_more c.args.self.now c.args.at.piece c.args.at.index child (c.args.at.piece - 1) is c.requires piece c.index_mut-piece.ensures.value),
      record {
        writes_back = tt;
        value = c.index_mut-2.ensures.value
            ∙ child_in_more c.args.self.now c.args.at.piece c.args.at.index child (c.args.at.piece - 1) is c.requires piece c.index_mut-piece.ensures.value;
      },
    )
