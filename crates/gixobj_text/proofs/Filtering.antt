-- Trailers that a filter skips.
use Rattle.std.proofs.Common.{◌++◌, ◌∙◌, ◌∷◌, ◌≡◌, Bool, List, Ok, Some, [], ap, cond, false, filter, refl, subst, sym, true}
use Rattle.gixobj_text.specs.Filters.{SkipsUnfiltered, YieldsUnfiltered, passes_filter}
use Rattle.gixobj_text.specs.TrailerSteps.{NextTrailer, trailer_view, remaining_trailers}
use Rattle.gixobj_text.specs.Trailers.{TrailerView}
use Rattle.gixobj_text.specs.declared.commit.message.body.filters.Filter.{Filter}
use Rattle.gixobj_text.specs.declared.commit.message.body.trailers.TrailerRef.{TrailerRef}
use Rattle.gixobj_text.specs.declared.commit.message.body.trailers.Trailers.{Trailers}

-- ---- skipped trailers

pub skips_unfiltered_refl : (by : Filter) (it : Trailers) → SkipsUnfiltered by it it
skips_unfiltered_refl by it = record { skipped = []; yields = refl }

yields_snoc : (by : Filter) (before : Trailers) (skipped : List TrailerRef) (middle after : Trailers) (trailer : TrailerRef)
    → YieldsUnfiltered by before skipped middle → NextTrailer middle (Some (Ok trailer)) after
    → passes_filter by (trailer_view trailer).token ≡ false → YieldsUnfiltered by before (skipped ++ trailer ∷ []) after
yields_snoc by before [] middle after trailer same step other =
    (after, subst (λ (it : Trailers). NextTrailer it (Some (Ok trailer)) after) (sym same) step, other, refl)
yields_snoc by before (one ∷ skipped) middle after trailer (next, first, filter_answer, more) step other =
    (next, first, filter_answer, yields_snoc by next skipped middle after trailer more step other)

pub skips_unfiltered_step : (by : Filter) (before middle after : Trailers) (trailer : TrailerRef) → SkipsUnfiltered by before middle
    → NextTrailer middle (Some (Ok trailer)) after → passes_filter by (trailer_view trailer).token ≡ false → SkipsUnfiltered by before after
skips_unfiltered_step by before middle after trailer it step other = record {
  skipped = it.skipped ++ trailer ∷ [];
  yields = yields_snoc by before it.skipped middle after trailer it.yields step other;
}

-- ---- the next trailer that the filter keeps

abbrev pub filtered_of : Filter → List TrailerView → List TrailerView
filtered_of by trailers = filter (λ it. passes_filter by it.token) trailers

filtered_of_cons : (by : Filter) (b : Bool) (one : TrailerView) (rest : List TrailerView) → passes_filter by one.token ≡ b
    → filtered_of by (one ∷ rest) ≡ cond b (one ∷ filtered_of by rest) (filtered_of by rest)
filtered_of_cons by b one rest is = ap (λ (c : Bool). cond c (one ∷ filtered_of by rest) (filtered_of by rest)) is

filtered_of_skipped : (by : Filter) (before : Trailers) (skipped : List TrailerRef) (middle : Trailers)
    → YieldsUnfiltered by before skipped middle → filtered_of by (remaining_trailers before) ≡ filtered_of by (remaining_trailers middle)
filtered_of_skipped by before [] middle same = ap (λ (it : Trailers). filtered_of by (remaining_trailers it)) same
filtered_of_skipped by before (one ∷ skipped) middle (next, step, other, more) =
    ap (filtered_of by) step.0 ∙ filtered_of_cons by false (trailer_view one) (remaining_trailers next) other
    ∙ filtered_of_skipped by next skipped middle more

pub filtered_of_next : (by : Filter) (before middle after : Trailers) (trailer : TrailerRef) → SkipsUnfiltered by before middle
    → remaining_trailers middle ≡ trailer_view trailer ∷ remaining_trailers after → passes_filter by (trailer_view trailer).token ≡ true
    → filtered_of by (remaining_trailers before) ≡ trailer_view trailer ∷ filtered_of by (remaining_trailers after)
filtered_of_next by before middle after trailer it remaining kept =
    filtered_of_skipped by before it.skipped middle it.yields ∙ ap (filtered_of by) remaining
    ∙ filtered_of_cons by true (trailer_view trailer) (remaining_trailers after) kept

pub filtered_of_none : (by : Filter) (before middle : Trailers) → SkipsUnfiltered by before middle → remaining_trailers middle ≡ []
    → filtered_of by (remaining_trailers before) ≡ []
filtered_of_none by before middle it none = filtered_of_skipped by before it.skipped middle it.yields ∙ ap (filtered_of by) none
