-- A drained iterator has yielded all blocks, all trailers or all filtered trailers.
use Rattle.std.proofs.Common.{◌≡◌, ◌∷◌, ◌∙◌, ap, sym, subst, ℕ, List, [], Ok, Some, None, map}
use Rattle.std.specs.Iterator.{Drains, Yields}
use Rattle.gixobj_text.specs.MessageBlocks.{AreBlocksFrom}
use Rattle.gixobj_text.specs.MessageBlocks.AreBlocksFrom.{block, none}
use Rattle.gixobj_text.specs.Filters.{NextFiltered, all_of, filter_of, remaining_filtered}
use Rattle.gixobj_text.specs.BlockSteps.{NextBlock, block_view, remaining_block_bytes, first_start}
use Rattle.gixobj_text.specs.TrailerSteps.{NextTrailer, trailer_view, remaining_trailers}
use Rattle.gixobj_text.specs.Trailers.{TrailerView}
use Rattle.gixobj_text.specs.declared.commit.message.body.blocks.MessageBlock.{MessageBlock}
use Rattle.gixobj_text.specs.declared.commit.message.body.blocks.MessageBlocks.{MessageBlocks}
use Rattle.gixobj_text.specs.declared.commit.message.body.filters.Filter.{Filter}
use Rattle.gixobj_text.specs.declared.commit.message.body.filters.Filtered.{Filtered}
use Rattle.gixobj_text.specs.declared.commit.message.body.trailers.TrailerRef.{TrailerRef}
use Rattle.gixobj_text.specs.declared.commit.message.body.trailers.Trailers.{Trailers}
use Rattle.gixobj_text.proofs.Filtering.{filtered_of_next, filtered_of_none, filtered_of}

-- ---- blocks

are_blocks_of_yields : (before : MessageBlocks) (blocks : List MessageBlock) (last after : MessageBlocks) → Yields NextBlock before blocks last
    → NextBlock last None after
    → AreBlocksFrom (first_start before) (remaining_block_bytes before) (map block_view blocks)
are_blocks_of_yields before [] last after is ends =
    subst (λ (bytes : List ℕ). AreBlocksFrom (first_start before) bytes []) (sym (ap (λ (it : MessageBlocks). remaining_block_bytes it) is ∙ ends.0))
    (none (first_start before))
are_blocks_of_yields before (one ∷ blocks) last after (middle, (first, start, less), more) ends =
    block (first_start before) (remaining_block_bytes before) (block_view one) (remaining_block_bytes middle) (map block_view blocks) first
    (subst (λ (n : ℕ). AreBlocksFrom n (remaining_block_bytes middle) (map block_view blocks)) start (are_blocks_of_yields middle blocks last after more ends))

pub are_blocks_from_run : (before : MessageBlocks) (blocks : List MessageBlock) → Drains NextBlock before blocks
    → AreBlocksFrom (first_start before) (remaining_block_bytes before) (map block_view blocks)
are_blocks_from_run before blocks (after, (last, run, ends)) = are_blocks_of_yields before blocks last after run ends

-- ---- trailers

trailer_views_of_yields : (before : Trailers) (trailers : List TrailerRef) (last after : Trailers) → Yields NextTrailer before (map (λ it. Ok it) trailers) last
    → NextTrailer last None after
    → map trailer_view trailers ≡ remaining_trailers before
trailer_views_of_yields before [] last after is ends = sym (ap (λ (it : Trailers). remaining_trailers it) is ∙ ends.0)
trailer_views_of_yields before (one ∷ trailers) last after (middle, step, more) ends =
    ap (λ (rest : List TrailerView). trailer_view one ∷ rest) (trailer_views_of_yields middle trailers last after more ends) ∙ sym step.0

pub remaining_trailers_of_run : (before : Trailers) (trailers : List TrailerRef) → Drains NextTrailer before (map (λ it. Ok it) trailers)
    → map trailer_view trailers ≡ remaining_trailers before
remaining_trailers_of_run before trailers (after, (last, run, ends)) = trailer_views_of_yields before trailers last after run ends

-- ---- filtered trailers

remaining_filtered_of_none : (before after : Filtered) → NextFiltered before None after → remaining_filtered before ≡ []
remaining_filtered_of_none before after (middle, passes, gives, filter_answer, same) = filtered_of_none (filter_of before) (all_of before) middle passes gives.0

remaining_filtered_of_next : (before : Filtered) (one : TrailerRef) (after : Filtered) → NextFiltered before (Some (Ok one)) after
    → remaining_filtered before ≡ trailer_view one ∷ remaining_filtered after
remaining_filtered_of_next before one after (middle, passes, gives, filter_answer, same) =
    filtered_of_next (filter_of before) (all_of before) middle (all_of after) one passes gives.0 filter_answer
    ∙ ap (λ (by : Filter). trailer_view one ∷ filtered_of by (remaining_trailers (all_of after))) (sym same)

trailer_views_of_filtered_yields : (before : Filtered) (trailers : List TrailerRef) (last after : Filtered)
    → Yields NextFiltered before (map (λ it. Ok it) trailers) last
    → NextFiltered last None after
    → map trailer_view trailers ≡ remaining_filtered before
trailer_views_of_filtered_yields before [] last after is ends = sym (ap (λ (it : Filtered). remaining_filtered it) is
    ∙ remaining_filtered_of_none last after ends)
trailer_views_of_filtered_yields before (one ∷ trailers) last after (middle, step, more) ends =
    ap (λ (rest : List TrailerView). trailer_view one ∷ rest) (trailer_views_of_filtered_yields middle trailers last after more ends)
    ∙ sym (remaining_filtered_of_next before one middle step)

pub remaining_filtered_of_run : (before : Filtered) (trailers : List TrailerRef) → Drains NextFiltered before (map (λ it. Ok it) trailers)
    → map trailer_view trailers ≡ remaining_filtered before
remaining_filtered_of_run before trailers (after, (last, run, ends)) = trailer_views_of_filtered_yields before trailers last after run ends
