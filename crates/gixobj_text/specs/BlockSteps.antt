-- What remains of an iterator over message blocks, and what a step yields.
use Rattle.std.specs.Prelude.{◌≡◌, ◌<◌, ℕ, List, [], Option, Some, None, length}
use Rattle.std.specs.Iterator.{Count, at_most}
use Rattle.bstr.specs.BStr.{bstr_bytes}
use Rattle.gixobj_text.specs.MessageBlocks.{BlockView, IsFirstMessageBlock}
use Rattle.gixobj_text.specs.declared.commit.message.body.blocks.MessageBlock.{MessageBlock}
use Rattle.gixobj_text.specs.declared.commit.message.body.blocks.MessageBlocks.{MessageBlocks}

-- the bytes of the trailers that follow a message
abbrev pub bytes_of_trailers : MessageBlock → List ℕ
bytes_of_trailers it = it.trailers.now

-- a block as contracts see it: the message, and the bytes of its trailers
abbrev pub block_view : MessageBlock → BlockView
block_view it = record { message = bstr_bytes it.message; trailers = bytes_of_trailers it }

-- the remaining bytes
abbrev pub remaining_block_bytes : MessageBlocks → List ℕ
remaining_block_bytes it = it.cursor.now

-- the minimum length of the next message
abbrev pub first_start : MessageBlocks → ℕ
first_start it = it.trailer_start

-- a step yields the first block of the remaining bytes, and the next message has no minimum length; it yields nothing
-- if and only if no byte remains
abbrev pub NextBlock : MessageBlocks → Option MessageBlock → MessageBlocks → Type 0
NextBlock before (Some block) after =
    IsFirstMessageBlock (first_start before) (remaining_block_bytes before) (block_view block)
    (remaining_block_bytes after)
    × (first_start after ≡ 0) × (length (remaining_block_bytes after) < length (remaining_block_bytes before))
NextBlock before None after = (remaining_block_bytes before ≡ []) × (remaining_block_bytes after ≡ [])

-- at most one block for each remaining byte
abbrev pub remaining_block_count : MessageBlocks → Count
remaining_block_count it = at_most (length (remaining_block_bytes it))
