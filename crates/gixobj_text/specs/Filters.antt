-- Filters of trailers by their tokens.
use Rattle.std.specs.Prelude.{◌≡◌, ℕ, Bool, List, [], ◌∷◌, IsFalse, IsTrue, Option, Some, None, Result, Ok, Err, codes}
use Rattle.std.specs.Prelude.{filter as filtered, ⊤}
use Rattle.std.specs.Iterator.{Count}
use Rattle.gixobj_hash.specs.declared.memory.OutOfMemory.{OutOfMemory}
use Rattle.gixobj_text.specs.TrailerSteps.{NextTrailer, remaining_trailer_count, trailer_view, remaining_trailers}
use Rattle.gixobj_text.specs.TrailerNames.{is_named, names_author, names_attribution}
use Rattle.gixobj_text.specs.Trailers.{TrailerView}
use Rattle.gixobj_text.specs.declared.commit.message.body.filters.Filter.{Filter}
use Rattle.gixobj_text.specs.declared.commit.message.body.filters.Filter.TheVariants as filter
use Rattle.gixobj_text.specs.declared.commit.message.body.filters.Filtered.{Filtered}
use Rattle.gixobj_text.specs.declared.commit.message.body.trailers.TrailerRef.{TrailerRef}
use Rattle.gixobj_text.specs.declared.commit.message.body.trailers.Trailers.{Trailers}

-- the filter keeps trailers with this token
abbrev pub passes_filter : Filter → List ℕ → Bool
passes_filter filter.SignedOffBy token = is_named (codes "Signed-off-by") token
passes_filter filter.CoAuthoredBy token = is_named (codes "Co-authored-by") token
passes_filter filter.AssistedBy token = is_named (codes "Assisted-by") token
passes_filter filter.Authors token = names_author token
passes_filter filter.Attributions token = names_attribution token

-- the unfiltered iterator
abbrev pub all_of : Filtered → Trailers
all_of it = it.trailers

-- the filter of an iterator
abbrev pub filter_of : Filtered → Filter
filter_of it = it.filter

-- the remaining trailers that the filter keeps
abbrev pub remaining_filtered : Filtered → List TrailerView
remaining_filtered it = filtered (λ trailer. passes_filter (filter_of it) trailer.token)
    (remaining_trailers (all_of it))

-- the iterator yields these trailers one after the other, and the filter keeps none of them
abbrev pub YieldsUnfiltered : Filter → Trailers → List TrailerRef → Trailers → Type 0
YieldsUnfiltered by before [] after = before ≡ after
YieldsUnfiltered by before (trailer ∷ skipped) after =
    (next : Trailers) × NextTrailer before (Some (Ok trailer)) next
    × IsFalse (passes_filter by (trailer_view trailer).token) × YieldsUnfiltered by next skipped after

-- the iterator has skipped trailers that the filter doesn't keep
pub record SkipsUnfiltered (by : Filter) (before after : Trailers) : Type 0 where
  pub skipped : List TrailerRef
  pub yields : YieldsUnfiltered by before skipped after

-- an item that is yielded: a trailer that the filter keeps, an error, or the end
abbrev pub IsForwarded : Filter → Option (Result TrailerRef OutOfMemory) → Type 0
IsForwarded by (Some (Ok trailer)) = IsTrue (passes_filter by (trailer_view trailer).token)
IsForwarded by (Some (Err error)) = ⊤
IsForwarded by None = ⊤

-- steps of the unfiltered iterator skip trailers that the filter doesn't keep, and the next one yields the item; the
-- filter is unchanged
abbrev pub NextFiltered : Filtered → Option (Result TrailerRef OutOfMemory) → Filtered → Type 0
NextFiltered before item after =
    (middle : Trailers) × SkipsUnfiltered (filter_of before) (all_of before) middle
    × NextTrailer middle item (all_of after)
    × IsForwarded (filter_of before) item × (filter_of after ≡ filter_of before)

-- at most one trailer for each remaining byte
abbrev pub remaining_filtered_count : Filtered → Count
remaining_filtered_count it = remaining_trailer_count (all_of it)
