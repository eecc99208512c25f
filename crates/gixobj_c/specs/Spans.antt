-- Positions of pieces in the input.
use Rattle.std.specs.Prelude.{◌≡◌, ◌≤◌, ◌+◌, ◌++◌, ℕ, List, drop, length, take}
use Rattle.gixobj_c.specs.declared.spans.Span.{Span}

-- this number of bytes of the input follows the span, whose bytes are this piece
pub record IsSpanBefore (input piece : List ℕ) (after : ℕ) (span : Span) : Type 0 where
  pub ends : span.start + span.len + after ≡ length input
  pub bytes : take span.len (drop span.start input) ≡ piece

-- the span is at the beginning of the input, and its bytes are this piece
pub record IsSpanAtStart (input piece : List ℕ) (span : Span) : Type 0 where
  pub start : span.start ≡ 0
  pub within : span.len ≤ length input
  pub bytes : take span.len input ≡ piece

-- the span has no bytes, and this offset
pub record IsEmptyAt (offset : ℕ) (span : Span) : Type 0 where
  pub start : span.start ≡ offset
  pub len : span.len ≡ 0

-- the input has this piece, and this number of bytes follows it
pub record HasPieceBefore (input piece : List ℕ) (after : ℕ) : Type 0 where
  pub prefix : List ℕ
  pub rest : List ℕ
  pub joined : input ≡ prefix ++ (piece ++ rest)
  pub remaining : length rest ≡ after

-- the input begins with this piece
pub record BeginsWithPiece (input piece : List ℕ) : Type 0 where
  pub rest : List ℕ
  pub joined : input ≡ piece ++ rest
