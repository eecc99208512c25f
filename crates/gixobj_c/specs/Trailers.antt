-- Results of the call about the trailers of messages.
use Rattle.std.specs.Prelude.{◌≡◌, ◌<◌, ◌≤◌, ◌⊎◌, ℕ, List, [], drop, length, true}
use Rattle.bstr.specs.Text.{lines_of}
use Rattle.gixobj_c_codes.specs.Buffers.{WritesTwo}
use Rattle.gixobj_c_codes.specs.Codes.{at_end, bad_offset, buffer_too_short, done, out_of_memory, unknown_code}
use Rattle.gixobj_c.specs.declared.commits.Cursor.{Cursor}
use Rattle.gixobj_text.specs.MessageTrailers.{HasTrailerBlock}
use Rattle.gixobj_text.specs.TrailerSteps.{IsFirstTrailer}
use Rattle.gixobj_text.specs.Trailers.{TrailerView, trailers_of_bytes}
use Rattle.gixobj_text.specs.Unfolding.{first_is_folded}

-- the lines whose trailers come at this offset: in state 0 the trailer block of the message that begins there, in
-- state 1 all bytes from there on
abbrev pub HasLinesAt : List ℕ → ℕ → ℕ → List ℕ → Type 0
HasLinesAt message offset state lines = (offset ≤ length message)
    × (((state ≡ 0) × HasTrailerBlock (drop offset message) lines) ⊎ ((state ≡ 1) × (lines ≡ drop offset message)))

-- the cursor is where the rest begins, in state 1; it is unchanged if a buffer is too short
abbrev pub MovesTo : List ℕ → List ℕ → Cursor → Cursor → ℕ → Type 0
MovesTo message rest old new status =
    ((status ≡ done) × (new.state ≡ 1) × (new.offset ≤ length message) × (drop new.offset message ≡ rest))
    ⊎ ((status ≡ buffer_too_short) × (new ≡ old))

-- why no trailer is decoded at this offset
abbrev pub IsTrailerStatus : List ℕ → ℕ → ℕ → ℕ → Type 0
IsTrailerStatus message offset state status = ((lines : List ℕ) × HasLinesAt message offset state lines
    × (((status ≡ at_end) × (trailers_of_bytes lines ≡ []))
    ⊎ ((status ≡ out_of_memory) × (first_is_folded (lines_of lines) ≡ true))))
    ⊎ (((status ≡ bad_offset) × (state < 2) × (length message < offset)) ⊎ ((status ≡ unknown_code) × (1 < state)))

-- the trailer at the cursor is written, and the cursor is after it; or nothing is written
abbrev pub IsTrailerCall : List ℕ → Cursor → Cursor → List ℕ → List ℕ → ℕ → ℕ → List ℕ → List ℕ → ℕ → ℕ → ℕ → Type 0
IsTrailerCall message old new before after len_before len value_before value_after value_len_before value_len status =
    ((lines : List ℕ) × (trailer : TrailerView) × (rest : List ℕ) × HasLinesAt message old.offset old.state lines
    × IsFirstTrailer lines trailer rest × MovesTo message rest old new status
    × WritesTwo trailer.token before after len trailer.value value_before value_after value_len status)
    ⊎ (IsTrailerStatus message old.offset old.state status × (new ≡ old) × (after ≡ before) × (len ≡ len_before)
    × (value_after ≡ value_before) × (value_len ≡ value_len_before))
