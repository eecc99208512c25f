-- The error of a write of a part is an error of the write of all parts; used by the proofs of commits, tags and
-- trees.
use Rattle.std.proofs.Common.{◌≡◌, ◌≤◌, ◌<◌, ◌+◌, ◌⊎◌, ⊎_elim, ℕ, List, [], ◌++◌, Result, Ok, Err, Some, ap, arith, inl, inr, length, length-append, subst}
use Rattle.std.specs.Prelude.{IfErr}
use Rattle.std.specs.declared.alloc.Global.{Global}
use Rattle.std.specs.declared.vec.Vec.{Vec}
use Rattle.std.specs.declared.io.ErrorKind.TheVariants.{OutOfMemory}
use Rattle.gixobj_streams.specs.Streams.{AppendsAll, AppendsPrefix, SinkView, list_view}
use Rattle.std.specs.declared.io.Error as io
use Rattle.gixobj_streams.specs.declared.encode.Error.{Error}
use Rattle.gixobj_streams.specs.declared.encode.Error.TheVariants as error
use Rattle.gixobj_streams.specs.Writing.{FailsAsSink, IsEncodingError, IsWritingError, LacksRoom, RejectedValue, RejectsNothing, StopsAt}
use Rattle.gixobj_streams.proofs.Appends.{prefix_with_more_room, appends_prefix_middle, appends_all_append, appends_with_more_room}

stops_at_append : (R Q : RejectedValue → List ℕ → Type 0) (a b c : SinkView) (prefix : List ℕ) → AppendsAll a b prefix
    → ((value : RejectedValue) (parts : List ℕ) → R value parts → Q value (prefix ++ parts)) → (value : RejectedValue) → StopsAt R b c value
    → StopsAt Q a c value
stops_at_append R Q a b c prefix p step value s = (prefix ++ s.0, step value s.0 s.1, appends_all_append a b c prefix s.0 p s.2)

-- the error of a part after a written prefix is an error of the entire encoding
pub writing_error_append : (R Q : RejectedValue → List ℕ → Type 0) (a b c : SinkView) (prefix part entire : List ℕ) → AppendsAll a b prefix
    → ((value : RejectedValue) (parts : List ℕ) → R value parts → Q value (prefix ++ parts))
    → ((cause : io.Error) → AppendsPrefix b c part cause → AppendsPrefix a c entire cause)
    → (e : Error) → IsWritingError R b c part e → IsWritingError Q a c entire e
writing_error_append R Q a b c prefix part entire p step fails (error.Writer cause) s = fails cause s
writing_error_append R Q a b c prefix part entire p step fails (error.NewlineInHeaderValue value) s = stops_at_append R Q a b c prefix p step _ s
writing_error_append R Q a b c prefix part entire p step fails error.EmptyValue s = stops_at_append R Q a b c prefix p step _ s
writing_error_append R Q a b c prefix part entire p step fails error.StartsWithDash s = stops_at_append R Q a b c prefix p step _ s
writing_error_append R Q a b c prefix part entire p step fails (error.InvalidRefName fault) s = stops_at_append R Q a b c prefix p step _ s
writing_error_append R Q a b c prefix part entire p step fails (error.NullbyteInFilename name) s = stops_at_append R Q a b c prefix p step _ s
writing_error_append R Q a b c prefix part entire p step fails error.IllegalActor s = stops_at_append R Q a b c prefix p step _ s
writing_error_append R Q a b c prefix part entire p step fails error.OutOfMemory (value, inl s) = (value, inl (stops_at_append R Q a b c prefix p step _ s))
writing_error_append R Q a b c prefix part entire p step fails error.OutOfMemory (value, inr s) = (value, inr (stops_at_append R Q a b c prefix p step _ s))

-- the error of a part between a written prefix and the rest is an error of all three
pub writing_error_within : (R Q : RejectedValue → List ℕ → Type 0) (a b c : SinkView) (prefix part rest : List ℕ) → AppendsAll a b prefix
    → ((value : RejectedValue) (parts : List ℕ) → R value parts → Q value (prefix ++ parts)) → (e : Error) → IsWritingError R b c part e
    → IsWritingError Q a c (prefix ++ (part ++ rest)) e
writing_error_within R Q a b c prefix part rest p step e s =
    writing_error_append R Q a b c prefix part (prefix ++ (part ++ rest)) p step
    (λ cause. appends_prefix_middle a b c prefix part rest p) e s

-- the error of a part is an error of a longer encoding that has the part's proper prefixes
pub writing_error_longer : (R : RejectedValue → List ℕ → Type 0) (a b : SinkView) (part entire : List ℕ)
    → ((cause : io.Error) → AppendsPrefix a b part cause → AppendsPrefix a b entire cause)
    → (e : Error) → IsWritingError R a b part e → IsWritingError R a b entire e
writing_error_longer R a b part entire fails (error.Writer cause) s = fails cause s
writing_error_longer R a b part entire fails (error.NewlineInHeaderValue value) s = s
writing_error_longer R a b part entire fails error.EmptyValue s = s
writing_error_longer R a b part entire fails error.StartsWithDash s = s
writing_error_longer R a b part entire fails (error.InvalidRefName fault) s = s
writing_error_longer R a b part entire fails (error.NullbyteInFilename name) s = s
writing_error_longer R a b part entire fails error.IllegalActor s = s
writing_error_longer R a b part entire fails error.OutOfMemory s = s

stops_at_of_more_room : (R : RejectedValue → List ℕ → Type 0) (a b c : SinkView) → a.held ≡ b.held → a.room ≤ b.room → (value : RejectedValue)
    → StopsAt R b c value → StopsAt R a c value
stops_at_of_more_room R a b c same less value s = (s.0, s.1, appends_with_more_room a b c s.0 same less s.2)

-- the error of a write to a sink with more room is an error of the sink before it had that room
pub rejects_with_more_room : (R : RejectedValue → List ℕ → Type 0) (a b c : SinkView) (bytes : List ℕ) → a.held ≡ b.held → a.room ≤ b.room → (e : Error)
    → IsWritingError R b c bytes e → IsWritingError R a c bytes e
rejects_with_more_room R a b c bytes same less (error.Writer cause) s = prefix_with_more_room a b c bytes same less s
rejects_with_more_room R a b c bytes same less (error.NewlineInHeaderValue value) s = stops_at_of_more_room R a b c same less _ s
rejects_with_more_room R a b c bytes same less error.EmptyValue s = stops_at_of_more_room R a b c same less _ s
rejects_with_more_room R a b c bytes same less error.StartsWithDash s = stops_at_of_more_room R a b c same less _ s
rejects_with_more_room R a b c bytes same less (error.InvalidRefName fault) s = stops_at_of_more_room R a b c same less _ s
rejects_with_more_room R a b c bytes same less (error.NullbyteInFilename name) s = stops_at_of_more_room R a b c same less _ s
rejects_with_more_room R a b c bytes same less error.IllegalActor s = stops_at_of_more_room R a b c same less _ s
rejects_with_more_room R a b c bytes same less error.OutOfMemory (value, inl s) = (value, inl (stops_at_of_more_room R a b c same less _ s))
rejects_with_more_room R a b c bytes same less error.OutOfMemory (value, inr s) = (value, inr (stops_at_of_more_room R a b c same less _ s))

-- a sink that lacks room also lacked it before it had more
pub lacks_room_with_more_room : (R : RejectedValue → List ℕ → Type 0) (a b : SinkView) → a.room ≤ b.room → (e : Error) → LacksRoom R b e → LacksRoom R a e
lacks_room_with_more_room R a b less (error.Writer cause) short = λ value parts rejected. omega (arith, less, short value parts rejected)
lacks_room_with_more_room R a b less (error.NewlineInHeaderValue value) short = tt
lacks_room_with_more_room R a b less error.EmptyValue short = tt
lacks_room_with_more_room R a b less error.StartsWithDash short = tt
lacks_room_with_more_room R a b less (error.InvalidRefName fault) short = tt
lacks_room_with_more_room R a b less (error.NullbyteInFilename name) short = tt
lacks_room_with_more_room R a b less error.IllegalActor short = tt
lacks_room_with_more_room R a b less error.OutOfMemory short = tt

-- a sink that failed in a piece after a written prefix lacks room, if nothing is rejected before the end of the piece
pub lacks_room_in_piece : {cause : io.Error} (Q : RejectedValue → List ℕ → Type 0) (a b c : SinkView) (prefix piece : List ℕ) → AppendsAll a b prefix
    → AppendsPrefix b c piece cause
    → ((value : RejectedValue) (parts : List ℕ) → Q value parts → length prefix + length piece ≤ length parts)
    → (value : RejectedValue) (parts : List ℕ) → Q value parts → a.room < length parts
lacks_room_in_piece Q a b c prefix piece first part later =
    λ value parts rejected. omega (arith, first.room, part.short, later value parts rejected)

-- the error of a piece after a written prefix is one for lack of room, if each rejected value is one of the
-- piece or comes after it
pub lacks_room_after : (R Q : RejectedValue → List ℕ → Type 0) (a b c : SinkView) (prefix piece : List ℕ) → AppendsAll a b prefix
    → ((value : RejectedValue) (parts : List ℕ) → Q value parts
    → ((begun : List ℕ) × R value begun × (parts ≡ prefix ++ begun)) ⊎ (length prefix + length piece ≤ length parts))
    → (e : Error) → IsWritingError R b c piece e → LacksRoom R b e → LacksRoom Q a e
lacks_room_after R Q a b c prefix piece first back (error.Writer cause) part short = λ value parts rejected.
    ⊎_elim (λ within. omega (arith, first.room, short value within.0 within.1, length-append prefix within.0, ap length within.2))
    (λ later. omega (arith, first.room, part.short, later)) (back value parts rejected)
lacks_room_after R Q a b c prefix piece first back (error.NewlineInHeaderValue value) part short = tt
lacks_room_after R Q a b c prefix piece first back error.EmptyValue part short = tt
lacks_room_after R Q a b c prefix piece first back error.StartsWithDash part short = tt
lacks_room_after R Q a b c prefix piece first back (error.InvalidRefName fault) part short = tt
lacks_room_after R Q a b c prefix piece first back (error.NullbyteInFilename name) part short = tt
lacks_room_after R Q a b c prefix piece first back error.IllegalActor part short = tt
lacks_room_after R Q a b c prefix piece first back error.OutOfMemory part short = tt

-- a result that lacks room after a prefix lacks room for the bytes after the prefix, or for the prefix and the next piece
pub lacks_room_of_result : {T : Type 0} (result : Result T Error) (R Q : RejectedValue → List ℕ → Type 0) (a b c : SinkView) (prefix piece : List ℕ)
    → AppendsAll a b prefix
    → ((value : RejectedValue) (parts : List ℕ) → Q value parts
    → ((begun : List ℕ) × R value begun × (parts ≡ prefix ++ begun)) ⊎ (length prefix + length piece ≤ length parts))
    → IfErr result (IsWritingError R b c piece) → IfErr result (LacksRoom R b) → IfErr result (LacksRoom Q a)
lacks_room_of_result (Ok value) R Q a b c prefix piece first back says short = tt
lacks_room_of_result (Err e) R Q a b c prefix piece first back says short = lacks_room_after R Q a b c prefix piece first back e says short

-- fewer rejected values need no more room
pub lacks_room_of_fewer : (R Q : RejectedValue → List ℕ → Type 0) (a : SinkView) → ((value : RejectedValue) (parts : List ℕ) → Q value parts → R value parts)
    → (e : Error) → LacksRoom R a e → LacksRoom Q a e
lacks_room_of_fewer R Q a fewer (error.Writer cause) short = λ value parts rejected. short value parts (fewer value parts rejected)
lacks_room_of_fewer R Q a fewer (error.NewlineInHeaderValue value) short = tt
lacks_room_of_fewer R Q a fewer error.EmptyValue short = tt
lacks_room_of_fewer R Q a fewer error.StartsWithDash short = tt
lacks_room_of_fewer R Q a fewer (error.InvalidRefName fault) short = tt
lacks_room_of_fewer R Q a fewer (error.NullbyteInFilename name) short = tt
lacks_room_of_fewer R Q a fewer error.IllegalActor short = tt
lacks_room_of_fewer R Q a fewer error.OutOfMemory short = tt

no_stop_of_rejects_nothing : (R : RejectedValue → List ℕ → Type 0) (a b : SinkView) (value : RejectedValue) → RejectsNothing R → StopsAt R a b value → ⊥
no_stop_of_rejects_nothing R a b value nothing s = nothing value s.0 s.1

-- a writer that rejects no value fails as its sink does
pub fails_as_sink_of_error : (R : RejectedValue → List ℕ → Type 0) (a b : SinkView) (bytes : List ℕ) (e : Error) → RejectsNothing R
    → IsWritingError R a b bytes e
    → FailsAsSink a b bytes e
fails_as_sink_of_error R a b bytes (error.Writer cause) nothing s = s
fails_as_sink_of_error R a b bytes (error.NewlineInHeaderValue value) nothing s = no_stop_of_rejects_nothing R a b _ nothing s
fails_as_sink_of_error R a b bytes error.EmptyValue nothing s = no_stop_of_rejects_nothing R a b _ nothing s
fails_as_sink_of_error R a b bytes error.StartsWithDash nothing s = no_stop_of_rejects_nothing R a b _ nothing s
fails_as_sink_of_error R a b bytes (error.InvalidRefName fault) nothing s = no_stop_of_rejects_nothing R a b _ nothing s
fails_as_sink_of_error R a b bytes (error.NullbyteInFilename name) nothing s = no_stop_of_rejects_nothing R a b _ nothing s
fails_as_sink_of_error R a b bytes error.IllegalActor nothing s = no_stop_of_rejects_nothing R a b _ nothing s
fails_as_sink_of_error R a b bytes error.OutOfMemory nothing (value, inl s) = no_stop_of_rejects_nothing R a b _ nothing s
fails_as_sink_of_error R a b bytes error.OutOfMemory nothing (value, inr s) = no_stop_of_rejects_nothing R a b _ nothing s

-- an error of a writer to a list that is empty and has allocated nothing
pub encoding_error_of_list : (Rejects : RejectedValue → List ℕ → Type 0) (bytes items : List ℕ) (room : ℕ) (after : Vec ℕ Global) (e : Error)
    → items ≡ [] → room ≡ 0 → IsWritingError Rejects (record { held = Some items; room = room; failure = Some OutOfMemory }) (list_view after) bytes e
    → IsEncodingError Rejects bytes e
encoding_error_of_list Rejects bytes items room after e none full is =
    let At : List ℕ → ℕ → Type 0 = λ xs n. IsWritingError Rejects (record { held = Some xs; room = n; failure = Some OutOfMemory }) (list_view after) bytes e in
    (after, subst (λ (n : ℕ). At [] n) full (subst (λ (xs : List ℕ). At xs room) none is))
