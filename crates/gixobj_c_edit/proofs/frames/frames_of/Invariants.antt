-- The frames are those of the replies before the current one.
use Rattle.std.proofs.Common.{All, ◌≡◌, take}
use Rattle.std.specs.List.{flat_map}
use Rattle.gixobj_c_edit.specs.Frames.{encode_frame}
use Rattle.gixobj_c_edit.specs.Lossy.{IsLossless}
use Rattle.gixobj_editor.specs.Commands.{emitted_pairs}
use Rattle.gixobj_c_edit.proofs.frames.frames_of.Given as goal

abbrev pub invariant-loop-reply : goal.invariant-loop-reply
invariant-loop-reply l =
    (l.frames.items ≡ flat_map encode_frame (emitted_pairs (take l.reply-index l.replies)))
    × All (λ pair. IsLossless l.fn.hash pair.1) (emitted_pairs (take l.reply-index l.replies))
