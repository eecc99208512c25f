-- What remains of an iterator over trailers, and what a step yields.
use Rattle.std.specs.Prelude.{◌≡◌, ◌<◌, ℕ, Bool, true, false, List, [], ◌∷◌, Option, Some, None, Result, Ok, Err}
use Rattle.std.specs.Prelude.{length}
use Rattle.std.specs.Iterator.{Count, at_most}
use Rattle.std.specs.declared.alloc.Global.{Global}
use Rattle.std.specs.declared.borrow.CowSlice.{CowSlice}
use Rattle.std.specs.declared.borrow.CowSlice.TheVariants as slice
use Rattle.std.specs.Cow.{cow_slice_items}
use Rattle.bstr.specs.BStr.{bstr_bytes}
use Rattle.bstr.specs.Text.{lines_of}
use Rattle.gixobj_hash.specs.declared.memory.OutOfMemory.{OutOfMemory}
use Rattle.gixobj_text.specs.FirstLines.{HasLastLines}
use Rattle.gixobj_text.specs.Trailers.{TrailerView, trailers_of_bytes}
use Rattle.gixobj_text.specs.Unfolding.{first_is_folded}
use Rattle.gixobj_text.specs.declared.commit.message.body.trailers.TrailerRef.{TrailerRef}
use Rattle.gixobj_text.specs.declared.commit.message.body.trailers.Trailers.{Trailers}

-- a trailer as contracts see it: lists of bytes
abbrev pub trailer_view : TrailerRef → TrailerView
trailer_view it = record { token = bstr_bytes it.token; value = cow_slice_items it.value }

-- the value is owned: it has its own allocation
abbrev pub is_owned : CowSlice ℕ Global → Bool
is_owned (slice.Borrowed bytes) = false
is_owned (slice.Owned items) = true

-- the remaining bytes
abbrev pub remaining_bytes : Trailers → List ℕ
remaining_bytes it = it.cursor.now

-- the remaining trailers
abbrev pub remaining_trailers : Trailers → List TrailerView
remaining_trailers it = trailers_of_bytes (remaining_bytes it)

-- reading the next trailer allocates: its value has several lines, which are joined
abbrev pub next_allocates : Trailers → Bool
next_allocates it = first_is_folded (lines_of (remaining_bytes it))

-- a step yields the next trailer, owned if and only if its value has several lines, and then the last lines remain; or
-- an error for such a value, and then nothing remains; or nothing, if no trailer remains
abbrev pub NextTrailer : Trailers → Option (Result TrailerRef OutOfMemory) → Trailers → Type 0
NextTrailer before (Some (Ok trailer)) after =
    (remaining_trailers before ≡ trailer_view trailer ∷ remaining_trailers after)
    × (is_owned trailer.value ≡ next_allocates before)
    × (length (remaining_bytes after) < length (remaining_bytes before))
    × HasLastLines (remaining_bytes before) (remaining_bytes after)
NextTrailer before (Some (Err error)) after =
    (next_allocates before ≡ true) × (remaining_bytes after ≡ [])
    × (length (remaining_bytes after) < length (remaining_bytes before))
NextTrailer before None after = (remaining_trailers before ≡ []) × (remaining_bytes after ≡ [])

-- the first trailer of the lines; the lines after it have the others, and are the last lines
pub record IsFirstTrailer (lines : List ℕ) (trailer : TrailerView) (rest : List ℕ) : Type 0 where
  pub trailers : trailers_of_bytes lines ≡ trailer ∷ trailers_of_bytes rest
  pub shorter : length rest < length lines
  pub last_lines : HasLastLines lines rest

-- at most one trailer for each remaining byte
abbrev pub remaining_trailer_count : Trailers → Count
remaining_trailer_count it = at_most (length (remaining_bytes it))
