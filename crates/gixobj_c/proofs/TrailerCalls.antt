-- The lines of a trailer block are at the end of the message, and so is what follows a trailer.
use Rattle.std.proofs.Common.{◌≡◌, ◌≤◌, ◌-◌, ◌++◌, ℕ, List, [], ap, append_assoc, arith, drop, inl, inr, length, length-append, subst, sym, take, ◌∙◌}
use Rattle.std.proofs.lemmas.List.{append-nil, length-drop, take-append-drop}
use Rattle.std.proofs.lemmas.List.Folds.{concat-append}
use Rattle.std.specs.List.{concat}
use Rattle.std.specs.Prelude.{Option, Some, None}
use Rattle.bstr.proofs.lemmas.RestLemmas.{concat-lines_of}
use Rattle.bstr.specs.Text.{lines_of}
use Rattle.gixobj_c_codes.specs.Buffers.{WritesTwo}
use Rattle.gixobj_c.proofs.Pieces.{rest_of_tail}
use Rattle.gixobj_c.specs.Spans.{HasPieceBefore}
use Rattle.gixobj_c.specs.Trailers.{HasLinesAt, IsTrailerCall, MovesTo}
use Rattle.gixobj_c.specs.declared.commits.Cursor.{Cursor}
use Rattle.gixobj_text.specs.FirstLines.{HasLastLines}
use Rattle.gixobj_text.specs.MessageTrailers.{BodyHasTrailerBlock, HasTrailerBlock}
use Rattle.gixobj_text.specs.Titles.{SplitsTitle}
use Rattle.gixobj_text.specs.TrailerSteps.{IsFirstTrailer}
use Rattle.gixobj_text.specs.Trailers.{TrailerView}

-- the bytes end with the rest
EndsWith : List ℕ → List ℕ → Type 0
EndsWith bytes rest = (prefix : List ℕ) × (bytes ≡ prefix ++ rest)

ends_with_trans : (bytes middle rest : List ℕ) → EndsWith bytes middle → EndsWith middle rest → EndsWith bytes rest
unfolding EndsWith
ends_with_trans bytes middle rest (one, joined) (other, more) =
    (one ++ other, joined ∙ ap (λ (it : List ℕ). one ++ it) more ∙ sym (append_assoc one other rest))

ends_with_last_lines : (bytes rest : List ℕ) → HasLastLines bytes rest → EndsWith bytes rest
unfolding EndsWith
ends_with_last_lines bytes rest has = (
  concat has.skipped,
  sym (concat-lines_of bytes) ∙ ap concat has.joined ∙ concat-append has.skipped (lines_of rest)
      ∙ ap (λ (it : List ℕ). concat has.skipped ++ it) (concat-lines_of rest),
)

ends_with_block_of : (message title : List ℕ) (body : Option (List ℕ)) (block : List ℕ) → SplitsTitle message title body → BodyHasTrailerBlock body block
    → EndsWith message block
unfolding EndsWith
ends_with_block_of message title None block split none = (message, sym (append-nil message) ∙ ap (λ (it : List ℕ). message ++ it) (sym none))
ends_with_block_of message title (Some body) block (split, some) (start, is, same) =
    let here = split.here in
    let body_is : body ≡ take start body ++ block = sym (take-append-drop start body) ∙ ap (λ (it : List ℕ). take start body ++ it) (sym same) in (
      title ++ here.first ++ here.second ++ take start body,
      here.joined ∙ ap (λ (it : List ℕ). title ++ here.first ++ here.second ++ it) body_is
          ∙ sym (append_assoc (title ++ here.first ++ here.second) (take start body) block),
    )

ends_with_block : (message block : List ℕ) → HasTrailerBlock message block → EndsWith message block
ends_with_block message block has = ends_with_block_of message has.title has.body block has.split has.has

ends_with_lines : (message : List ℕ) (offset state : ℕ) (lines : List ℕ) → HasLinesAt message offset state lines → EndsWith (drop offset message) lines
unfolding EndsWith
ends_with_lines message offset state lines (within, inl (zero, has)) = ends_with_block (drop offset message) lines has
ends_with_lines message offset state lines (within, inr (one, same)) = ([], sym same)

end_len : (bytes rest : List ℕ) → EndsWith bytes rest → length rest ≤ length bytes
unfolding EndsWith
end_len bytes rest (prefix, joined) =
    let all : length bytes ≡ length (prefix ++ rest) = ap length joined in
    omega (arith, all, length-append prefix rest)

pub lines_len : (message : List ℕ) (offset state : ℕ) (lines : List ℕ) → HasLinesAt message offset state lines → length lines ≤ length message - offset
lines_len message offset state lines has =
    let within = end_len (drop offset message) lines (ends_with_lines message offset state lines has) in
    omega (arith, within, length-drop offset message)

rest_of_end : (message : List ℕ) (offset : ℕ) (rest : List ℕ) → EndsWith (drop offset message) rest → HasPieceBefore message rest 0
unfolding EndsWith
rest_of_end message offset rest (piece, joined) = rest_of_tail message offset piece rest joined

-- what follows a trailer of the lines is at the end of the message
pub rest_of_lines : (message : List ℕ) (offset state : ℕ) (lines : List ℕ) (trailer : TrailerView) (rest : List ℕ) → HasLinesAt message offset state lines
    → IsFirstTrailer lines trailer rest → HasPieceBefore message rest 0
rest_of_lines message offset state lines trailer rest has is =
    rest_of_end message offset rest
    (ends_with_trans (drop offset message) lines rest (ends_with_lines message offset state lines has) (ends_with_last_lines lines rest is.last_lines))

pub trailer_call_of_written : (message : List ℕ) (old new : Cursor) (lines rest first second a b c d : List ℕ) (i m j n status : ℕ) (trailer : TrailerView)
    → HasLinesAt message old.offset old.state lines → IsFirstTrailer lines trailer rest → MovesTo message rest old new status
    → first ≡ trailer.token → second ≡ trailer.value → WritesTwo first a b m second c d n status → IsTrailerCall message old new a b i m c d j n status
trailer_call_of_written message old new lines rest first second a b c d i m j n status trailer has is moves same other writes =
    inl (
      lines,
      trailer,
      rest,
      has,
      is,
      moves,
      subst (λ (it : List ℕ). WritesTwo it a b m trailer.value c d n status) same
          (subst (λ (it : List ℕ). WritesTwo first a b m it c d n status) other writes),
    )
