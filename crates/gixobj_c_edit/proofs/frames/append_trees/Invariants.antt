-- The frames are those before the call, and those of the trees before the current one.
use Rattle.std.proofs.Common.{All, ◌≡◌, ◌++◌, take}
use Rattle.std.specs.List.{flat_map}
use Rattle.gixobj_c_edit.specs.Frames.{encode_frame}
use Rattle.gixobj_c_edit.specs.Lossy.{IsLossless}
use Rattle.gixobj_c_edit.proofs.frames.append_trees.Given as goal

abbrev pub invariant-loop-id : goal.invariant-loop-id
invariant-loop-id l =
    (l.frames.items ≡ l.fn.frames.items ++ flat_map encode_frame (take l.id-index l.trees))
    × All (λ pair. IsLossless l.fn.hash pair.1) (take l.id-index l.trees)
