use Rattle.bstr.specs.Owned.{bstring_bytes}
use Rattle.std.proofs.Common.{◌++◌, ◌∙◌, List, ap, ℕ}
use Rattle.gixobj_cli_batch.proofs.Appended.{more_path_bytes_take}
use Rattle.gixobj_cli_batch.proofs.lines.push_names.Goals as goal

pub loop-name-preserved : goal.loop-name-preserved
loop-name-preserved c =
    more_path_bytes_take bstring_bytes c.args.names.now c.loop-name.name-index c.name-item.result c.args.lines.now.items c.loop-name.lines.items
    c.push.new.self.items c.extend_from_slice.new.self.items c.loop-name-test.true c.name-item.is c.loop-name.invariant c.in_ok-push.ensures.items
    (c.in_ok-extend_from_slice.ensures.items ∙ ap (λ (bytes : List ℕ). c.push.new.self.items ++ bytes) c.as_bytes.ensures)
