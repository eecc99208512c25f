-- The frames are those before the call, and those of the replies before the current one.
use Rattle.std.proofs.Common.{All, ◌≡◌, ◌++◌, take}
use Rattle.std.specs.List.{flat_map}
use Rattle.gixobj_c_edit.specs.Frames.{encode_frame}
use Rattle.gixobj_c_edit.specs.Lossy.{IsLossless}
use Rattle.gixobj_editor.specs.Commands.{pairs_of_edit}
use Rattle.gixobj_c_edit.proofs.frames.append_each.Given as goal

abbrev pub invariant-loop-reply : goal.invariant-loop-reply
invariant-loop-reply l =
    (l.frames.items ≡ l.fn.frames.items ++ flat_map encode_frame (flat_map pairs_of_edit (take l.reply-index l.replies)))
    × All (λ pair. IsLossless l.fn.hash pair.1) (flat_map pairs_of_edit (take l.reply-index l.replies))
