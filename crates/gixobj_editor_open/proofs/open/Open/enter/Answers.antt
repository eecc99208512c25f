use Rattle.std.proofs.Common.{◌+◌, ℕ, ap, refl, subst, sym}
use Rattle.bstr.specs.Owned.{bstring_bytes}
use Rattle.gixobj_editor_files.specs.Files.{Path}
use Rattle.gixobj_editor_open.specs.Descents.{IsDescended}
use Rattle.gixobj_editor_open.proofs.Descents.{is_descended_nil, is_descended_snoc, names_of_take_more}
use Rattle.gixobj_editor_open.proofs.open.Open.enter.Goals as goal

pub loop-name-init : goal.loop-name-init
loop-name-init c = record { count = refl; descended = is_descended_nil c.args.self.now c.args.above.now }

pub loop-name-preserved : goal.loop-name-preserved
loop-name-preserved c =
    let inv = c.loop-name.invariant in record {
      count = ap (λ (k : ℕ). k + 1) inv.count;
      descended = rw (c.swap.ensures.x_after, c.swap.ensures.y_after)
          (subst (λ (p : Path). IsDescended p c.args.self.now c.exchange.new.other c.exchange.new.self)
          (sym (names_of_take_more c.args.path.now c.loop-name.name-index c.name-item.result c.loop-name-test.true c.name-item.is))
          (is_descended_snoc inv.descended (bstring_bytes c.name-item.result) c.exchange.new.self c.exchange.new.other
          ((c.if-not-exchange.ensures {u = tt}).exchanged refl)));
    }
