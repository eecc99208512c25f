-- Calls about trailers, one after another: what they find are the trailers of the message.
use Rattle.std.proofs.Common.{◌≡◌, ◌<◌, ◌≤◌, ◌-◌, ◌++◌, ◌∷◌, ◌⊎◌, ℕ, List, [], ap, append_assoc, arith, drop, inl, inr, length, length-append, refl, subst, sym}
use Rattle.std.proofs.Common.{take, ◌∙◌}
use Rattle.std.proofs.lemmas.List.{append-nil, length-drop, take_at}
use Rattle.std.specs.Prelude.{false, true}
use Rattle.bstr.proofs.lemmas.LineLemmas.{lines-nil}
use Rattle.bstr.specs.Text.{lines_of}
use Rattle.gixobj_c_codes.specs.Buffers.{HasPrefix}
use Rattle.gixobj_c.proofs.CursorRuns.{are_of_snoc}
use Rattle.gixobj_c.proofs.TrailerCalls.{lines_len}
use Rattle.gixobj_c.specs.Runs.{AreOf}
use Rattle.gixobj_c.specs.TrailerRuns.{AreTrailersOf, HasLongTrailer, HasSomeBlock, IsTrailerOf, IsTrailerRunStatus}
use Rattle.gixobj_c.specs.Trailers.{HasLinesAt, IsTrailerCall}
use Rattle.gixobj_c.specs.declared.commits.Cursor.{Cursor}
use Rattle.gixobj_c.specs.declared.laws.trailers.FoundTrailer.{FoundTrailer}
use Rattle.gixobj_text.specs.MessageTrailers.{HasTrailerBlock}
use Rattle.gixobj_text.specs.TrailerSteps.{IsFirstTrailer}
use Rattle.gixobj_text.specs.Trailers.{TrailerView, trailers_of_bytes}
use Rattle.gixobj_text.specs.Unfolding.{first_is_folded}

-- these trailers of the block were found, and those of the lines remain
pub record FoundUpTo (message lines : List ℕ) (items : List FoundTrailer) : Type 0 where
  pub block : List ℕ
  pub found : List TrailerView
  pub has : HasTrailerBlock message block
  pub within : length lines ≤ length block
  pub trailers : trailers_of_bytes block ≡ found ++ trailers_of_bytes lines
  pub each : AreOf IsTrailerOf found items

-- the calls up to this cursor found these trailers
abbrev pub HasFound : List ℕ → Cursor → List FoundTrailer → Type 0
HasFound message cursor items = ((cursor.state ≡ 0) × (cursor.offset ≡ 0) × (items ≡ []))
    ⊎ ((cursor.state ≡ 1) × (cursor.offset ≤ length message) × FoundUpTo message (drop cursor.offset message) items)

pub has_found_none : (message : List ℕ) (items : List FoundTrailer) → items ≡ [] → HasFound message (record { offset = 0; state = 0 }) items
has_found_none message items none = inl (refl, refl, none)

up_to_lines : (message : List ℕ) (cursor : Cursor) (items : List FoundTrailer) (lines : List ℕ) → HasFound message cursor items
    → HasLinesAt message cursor.offset cursor.state lines → FoundUpTo message lines items
up_to_lines message cursor items lines (inl (zero, first, none)) (within, inl (_, has)) = record {
  block = lines;
  found = [];
  has = subst (λ (it : ℕ). HasTrailerBlock (drop it message) lines) first has;
  within = omega arith;
  trailers = refl;
  each = subst (λ (it : List FoundTrailer). AreOf IsTrailerOf [] it) (sym none) tt;
}
up_to_lines message cursor items lines (inl (zero, first, none)) (within, inr (one, _)) = absurd (cc (zero, one))
up_to_lines message cursor items lines (inr (one, _, up_to)) (within, inl (zero, _)) = absurd (cc (zero, one))
up_to_lines message cursor items lines (inr (one, _, up_to)) (within, inr (_, same)) =
    subst (λ (it : List ℕ). FoundUpTo message it items) (sym same) up_to

up_to_rest : (message lines : List ℕ) (items : List FoundTrailer) (trailer : TrailerView) (rest : List ℕ) (item : FoundTrailer) → FoundUpTo message lines items
    → IsFirstTrailer lines trailer rest → IsTrailerOf trailer item → FoundUpTo message rest (items ++ item ∷ [])
up_to_rest message lines items trailer rest item up_to is same =
    let shorter = is.shorter in
    let within = up_to.within in
    record {
      block = up_to.block;
      found = up_to.found ++ trailer ∷ [];
      has = up_to.has;
      within = omega (arith, shorter, within);
      trailers = up_to.trailers ∙ ap (λ (it : List TrailerView). up_to.found ++ it) is.trailers
          ∙ sym (append_assoc up_to.found (trailer ∷ []) (trailers_of_bytes rest));
      each = are_of_snoc IsTrailerOf up_to.found items trailer item up_to.each same;
    }

-- ---- what a call wrote

written_fits : (first before after : List ℕ) (len : ℕ) → len ≡ length first → HasPrefix first before after → len ≤ length after
written_fits first before after len same has =
    let all : length after ≡ length (first ++ drop (length first) before) = ap length has in
    omega (arith, all, length-append first (drop (length first) before), same)

written_is : (first before after : List ℕ) (len : ℕ) → len ≡ length first → HasPrefix first before after → take len after ≡ first
written_is first before after len same has = ap (take len) has ∙ take_at first (drop (length first) before) len (sym same)

-- the trailer that a successful call wrote
pub record HasWritten (message : List ℕ) (old new : Cursor) (token : List ℕ) (token_len : ℕ) (value : List ℕ) (value_len : ℕ) : Type 0 where
  pub lines : List ℕ
  pub trailer : TrailerView
  pub rest : List ℕ
  pub has : HasLinesAt message old.offset old.state lines
  pub is : IsFirstTrailer lines trailer rest
  pub state : new.state ≡ 1
  pub within : new.offset ≤ length message
  pub moved : drop new.offset message ≡ rest
  pub token_fits : token_len ≤ length token
  pub token_is : take token_len token ≡ trailer.token
  pub value_fits : value_len ≤ length value
  pub value_is : take value_len value ≡ trailer.value

pub has_written : (message : List ℕ) (old new : Cursor) (a b c d : List ℕ) (i m j n status : ℕ) → IsTrailerCall message old new a b i m c d j n status
    → status ≡ 0 → HasWritten message old new b m d n
has_written message old new a b c d i m j n status (inl (lines, trailer, rest, has, is, inl (_, one, within, moved), (same, other, inl (_, x, y)))) zero =
    record {
      lines = lines;
      trailer = trailer;
      rest = rest;
      has = has;
      is = is;
      state = one;
      within = within;
      moved = moved;
      token_fits = written_fits trailer.token a b m same x;
      token_is = written_is trailer.token a b m same x;
      value_fits = written_fits trailer.value c d n other y;
      value_is = written_is trailer.value c d n other y;
    }
has_written message old new a b c d i m j n status (inl (_, _, _, _, _, inl _, (_, _, inr (five, _, _, _)))) zero = absurd (cc (zero, five))
has_written message old new a b c d i m j n status (inl (lines, trailer, rest, has, is, inr (five, _), _)) zero = absurd (cc (zero, five))
has_written message old new a b c d i m j n status (inr (inl (lines, has, inl (one, _)), _, _, _, _, _)) zero = absurd (cc (zero, one))
has_written message old new a b c d i m j n status (inr (inl (lines, has, inr (three, _)), _, _, _, _, _)) zero = absurd (cc (zero, three))
has_written message old new a b c d i m j n status (inr (inr (inl (six, _, _)), _, _, _, _, _)) zero = absurd (cc (zero, six))
has_written message old new a b c d i m j n status (inr (inr (inr (four, _)), _, _, _, _, _)) zero = absurd (cc (zero, four))

pub has_found_next : (message : List ℕ) (old new : Cursor) (token : List ℕ) (token_len : ℕ) (value : List ℕ) (value_len : ℕ) (items more : List FoundTrailer)
    (item : FoundTrailer)
    → HasFound message old items → HasWritten message old new token token_len value value_len → item.token.items ≡ take token_len token
    → item.value.items ≡ take value_len value → more ≡ items ++ item ∷ [] → HasFound message new more
has_found_next message old new token token_len value value_len items more item found it token_same value_same same =
    let up_to = up_to_rest message it.lines items it.trailer it.rest item (up_to_lines message old items it.lines found it.has) it.is
    (token_same ∙ it.token_is, value_same ∙ it.value_is) in
    subst (λ (all : List FoundTrailer). HasFound message new all) (sym same)
    (inr (it.state, it.within, subst (λ (lines : List ℕ). FoundUpTo message lines (items ++ item ∷ [])) (sym it.moved) up_to))

-- ---- how the calls end

pub all_trailers : (message : List ℕ) (old new : Cursor) (items : List FoundTrailer) (a b c d : List ℕ) (i m j n status : ℕ) → HasFound message old items
    → IsTrailerCall message old new a b i m c d j n status → status ≡ 1 → AreTrailersOf message items
all_trailers message old new items a b c d i m j n status found (inl (lines, trailer, rest, has, is, inl (zero, _, _, _), _)) one = absurd (cc (zero, one))
all_trailers message old new items a b c d i m j n status found (inl (lines, trailer, rest, has, is, inr (five, _), _)) one = absurd (cc (five, one))
all_trailers message old new items a b c d i m j n status found (inr (inl (lines, has, inl (_, none)), _, _, _, _, _)) one =
    let up_to = up_to_lines message old items lines found has in
    let all : trailers_of_bytes up_to.block ≡ up_to.found =
    up_to.trailers ∙ ap (λ (it : List TrailerView). up_to.found ++ it) none ∙ append-nil up_to.found in
    (up_to.found, (up_to.block, up_to.has, sym all), up_to.each)
all_trailers message old new items a b c d i m j n status found (inr (inl (lines, has, inr (three, _)), _, _, _, _, _)) one = absurd (cc (three, one))
all_trailers message old new items a b c d i m j n status found (inr (inr (inl (six, _, _)), _, _, _, _, _)) one = absurd (cc (six, one))
all_trailers message old new items a b c d i m j n status found (inr (inr (inr (four, _)), _, _, _, _, _)) one = absurd (cc (four, one))

long_trailer : (message lines : List ℕ) (items : List FoundTrailer) (trailer : TrailerView) (rest : List ℕ) (token_size value_size : ℕ)
    → FoundUpTo message lines items
    → IsFirstTrailer lines trailer rest → (token_size < length trailer.token) ⊎ (value_size < length trailer.value)
    → HasLongTrailer message token_size value_size
long_trailer message lines items trailer rest token_size value_size up_to is long = record {
  before = up_to.found;
  trailer = trailer;
  after = trailers_of_bytes rest;
  has = (up_to.block, up_to.has, sym (up_to.trailers ∙ ap (λ (it : List TrailerView). up_to.found ++ it) is.trailers));
  long = long;
}

some_block : (message lines : List ℕ) (items : List FoundTrailer) → FoundUpTo message lines items → 0 < length lines → HasSomeBlock message
some_block message lines items up_to some = let within = up_to.within in (up_to.block, up_to.has, omega (arith, some, within))

folded_is_some : (lines : List ℕ) → first_is_folded (lines_of lines) ≡ true → 0 < length lines
folded_is_some [] folded = let none : first_is_folded (lines_of []) ≡ false = ap first_is_folded lines-nil in absurd (cc (folded, none))
folded_is_some (first ∷ lines) folded = omega arith

state_below : (message : List ℕ) (cursor : Cursor) (items : List FoundTrailer) → HasFound message cursor items → 1 < cursor.state → ⊥
state_below message cursor items (inl (zero, _, _)) more = omega (arith, zero, more)
state_below message cursor items (inr (one, _, _)) more = omega (arith, one, more)

offset_within : (message : List ℕ) (cursor : Cursor) (items : List FoundTrailer) → HasFound message cursor items → length message < cursor.offset → ⊥
offset_within message cursor items (inl (_, zero, _)) far = omega (arith, zero, far)
offset_within message cursor items (inr (_, within, _)) far = omega (arith, within, far)

pub status_of_trailer_run : (message : List ℕ) (old new : Cursor) (items : List FoundTrailer) (a b c d : List ℕ) (i m j n token_size value_size status : ℕ)
    → HasFound message old items → IsTrailerCall message old new a b i m c d j n status → length a ≡ token_size → length c ≡ value_size
    → (status ≡ 1 → ⊥) → (status ≡ 0 → ⊥) → IsTrailerRunStatus message token_size value_size status
status_of_trailer_run message old new items a b c d i m j n p q status up (inl (lines, it, rest, has, is, _, (_, _, inl (zero, _, _)))) e f some bad =
    absurd (bad zero)
status_of_trailer_run message old new items a b c d i m j n p q status up (inl (lines, it, rest, has, is, _, (_, _, inr (five, inl long, _, _)))) e f some bad =
    inl (
      five,
      long_trailer message lines items it rest p q (up_to_lines message old items lines up has) is
          (inl (omega (arith, long, e))),
    )
status_of_trailer_run message old new items a b c d i m j n p q status up (inl (lines, it, rest, has, is, _, (_, _, inr (five, inr long, _, _)))) e f some bad =
    inl (
      five,
      long_trailer message lines items it rest p q (up_to_lines message old items lines up has) is
          (inr (omega (arith, long, f))),
    )
status_of_trailer_run message old new items a b c d i m j n p q status up (inr (inl (lines, has, inl (one, _)), _, _, _, _, _)) e f some bad =
    absurd (some one)
status_of_trailer_run message old new items a b c d i m j n p q status up (inr (inl (lines, has, inr (three, folded)), _, _, _, _, _)) e f some bad =
    inr (three, some_block message lines items (up_to_lines message old items lines up has) (folded_is_some lines folded))
status_of_trailer_run message old new items a b c d i m j n p q status up (inr (inr (inl (six, _, far)), _, _, _, _, _)) e f some bad =
    absurd (offset_within message old items up far)
status_of_trailer_run message old new items a b c d i m j n p q status up (inr (inr (inr (four, more)), _, _, _, _, _)) e f some bad =
    absurd (state_below message old items up more)

-- without memory for a found trailer
pub no_memory_for_trailer : (message : List ℕ) (old new : Cursor) (items : List FoundTrailer) (token : List ℕ) (token_len : ℕ) (value : List ℕ)
    (value_len token_size value_size : ℕ)
    → HasFound message old items → HasWritten message old new token token_len value value_len → IsTrailerRunStatus message token_size value_size 3
no_memory_for_trailer message old new items token token_len value value_len token_size value_size found it =
    let shorter = it.is.shorter in
    inr (refl, some_block message it.lines items (up_to_lines message old items it.lines found it.has) (omega (arith, shorter)))

-- ---- the calls end

pub trailer_calls_advance : (message : List ℕ) (old new : Cursor) (token : List ℕ) (token_len : ℕ) (value : List ℕ) (value_len : ℕ)
    → HasWritten message old new token token_len value value_len → length message - new.offset < length message - old.offset
trailer_calls_advance message old new token token_len value value_len it =
    let shorter = it.is.shorter in
    let within = lines_len message old.offset old.state it.lines it.has in
    omega (arith, shorter, within, ap length it.moved, length-drop new.offset message)
