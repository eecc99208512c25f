use Rattle.std.proofs.Common.{◌+◌}
use Rattle.std.specs.Prelude.{reverse}
use Rattle.bstr.specs.Owned.{bstring_bytes}
use Rattle.gixobj_editor_open.specs.Children.{remaining_list}
use Rattle.gixobj_editor_open.specs.Copies.{IsCopiedInPart}
use Rattle.gixobj_editor_open.specs.Nested.{Opened, parts}
use Rattle.gixobj_editor_open.proofs.CopiedFrames.{AllCopied, copying_weight, copying_weights}
use Rattle.gixobj_editor_open.proofs.copying.copied.Given as goal

-- each copy that is begun is that of its directory so far
abbrev pub invariant-frames : goal.invariant-frames
invariant-frames l = (node : Opened) × AllCopied l.fn.node (reverse l.above.items) (bstring_bytes l.frame.name) node
    × IsCopiedInPart l.frame (parts (remaining_list l.frame.remaining)) node

abbrev pub decreases-frames : goal.decreases-frames
decreases-frames l = copying_weight l.frame + copying_weights l.above.items
