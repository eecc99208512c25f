use Rattle.std.proofs.Common.{◌≡◌, ◌∙◌, List, ap, map}
use Rattle.gix_object.specs.MessageBlocks.{AreBlocksFrom, joined_parts}
use Rattle.gix_object.specs.BlockSteps.{block_view, remaining_block_bytes, first_start}
use Rattle.gix_object.specs.message.commit.message.body.blocks.MessageBlock.{MessageBlock}
use Rattle.gixobj_examples_objects.proofs.signers.parts_of.Goals as goal

pub returns : goal.returns
returns c =
    let reader = c.message_blocks.result in
    let (items, (last, yielded, ends), (same, _)) = c.in_ok-blocks.ensures.ran in
    let (after, none) = ends tt in
    let are : AreBlocksFrom (first_start reader) (remaining_block_bytes reader) (map block_view items) = c.readers_yield_all.ensures.blocks reader items
    (after, (last, yielded, none)) in
    let entire : joined_parts (map block_view items) ≡ remaining_block_bytes reader = c.parts_append_to_body.ensures.blocks (first_start reader)
    (remaining_block_bytes reader) (map block_view items) are in
    ap (λ (blocks : List MessageBlock). joined_parts (map block_view blocks)) same ∙ entire ∙ c.message_blocks.ensures.remaining
