-- Worked examples of message blocks, checked against the definitions; no proof uses them.
use Rattle.std.proofs.Common.{◌∷◌, refl, List, [], ℕ, codes}
use Rattle.std.proofs.lemmas.List.Elements.{All-cons, All-nil}
use Rattle.bstr.proofs.Computing.{computing}
use Rattle.gixobj_text.specs.MessageBlocks.{AreBlocksFrom, BlockView}
use Rattle.gixobj_text.specs.MessageBlocks.AreBlocksFrom.{block, none}
use Rattle.gixobj_text.specs.LineSteps.{ContinuesTrailer, NoTrailer}

abbrev of : List ℕ → List ℕ → BlockView
of message trailers = record { message = message; trailers = trailers }

-- a message with two trailers
message_has_one_block : AreBlocksFrom 0 (codes "m\nA: 1\nB: 2\n") (of (codes "m\n") (codes "A: 1\nB: 2\n") ∷ [])
unfolding computing
message_has_one_block = block 0 (codes "m\nA: 1\nB: 2\n") (of (codes "m\n") (codes "A: 1\nB: 2\n")) [] []
    (record {
      some = λ is. cc is;
      skipped = codes "m\n" ∷ [];
      consumed = codes "A: 1\n" ∷ codes "B: 2\n" ∷ [];
      lines = record {
        split = refl;
        message = All-cons NoTrailer (codes "m\n") [] refl (All-nil NoTrailer);
        trailers = (refl, All-cons ContinuesTrailer (codes "B: 2\n") [] refl (All-nil ContinuesTrailer));
        none = λ is. cc is;
        ends = tt;
      };
      message = refl;
      trailers = refl;
    })
    (none 0)

-- the trailer block starts after the content of a line: the line breaks belong to the message
block_after_empty_line : AreBlocksFrom 1 (codes "m\n\nA: 1\n") (of (codes "m\n\n") (codes "A: 1\n") ∷ [])
unfolding computing
block_after_empty_line = block 1 (codes "m\n\nA: 1\n") (of (codes "m\n\n") (codes "A: 1\n")) [] []
    (record {
      some = λ is. cc is;
      skipped = codes "\n" ∷ codes "\n" ∷ [];
      consumed = codes "A: 1\n" ∷ [];
      lines = record {
        split = refl;
        message = All-cons NoTrailer (codes "\n") (codes "\n" ∷ []) refl (All-cons NoTrailer (codes "\n") [] refl (All-nil NoTrailer));
        trailers = (refl, All-nil ContinuesTrailer);
        none = λ is. cc is;
        ends = tt;
      };
      message = refl;
      trailers = refl;
    })
    (none 0)

-- the second message begins after the trailers of the first
rest_has_one_block : AreBlocksFrom 0 (codes "n\nB: 2\n") (of (codes "n\n") (codes "B: 2\n") ∷ [])
unfolding computing
rest_has_one_block = block 0 (codes "n\nB: 2\n") (of (codes "n\n") (codes "B: 2\n")) [] []
    (record {
      some = λ is. cc is;
      skipped = codes "n\n" ∷ [];
      consumed = codes "B: 2\n" ∷ [];
      lines = record {
        split = refl;
        message = All-cons NoTrailer (codes "n\n") [] refl (All-nil NoTrailer);
        trailers = (refl, All-nil ContinuesTrailer);
        none = λ is. cc is;
        ends = tt;
      };
      message = refl;
      trailers = refl;
    })
    (none 0)

message_has_two_blocks : AreBlocksFrom 0 (codes "m\nA: 1\nn\nB: 2\n") (of (codes "m\n") (codes "A: 1\n") ∷ of (codes "n\n") (codes "B: 2\n") ∷ [])
unfolding computing
message_has_two_blocks = block 0 (codes "m\nA: 1\nn\nB: 2\n") (of (codes "m\n") (codes "A: 1\n")) (codes "n\nB: 2\n") (of (codes "n\n") (codes "B: 2\n") ∷ [])
    (record {
      some = λ is. cc is;
      skipped = codes "m\n" ∷ [];
      consumed = codes "A: 1\n" ∷ [];
      lines = record {
        split = refl;
        message = All-cons NoTrailer (codes "m\n") [] refl (All-nil NoTrailer);
        trailers = (refl, All-nil ContinuesTrailer);
        none = λ is. cc is;
        ends = refl;
      };
      message = refl;
      trailers = refl;
    })
    rest_has_one_block
