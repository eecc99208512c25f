-- Sizes, rejected values and errors of the writers of objects.
use Rattle.std.specs.Option.{SomeIff}
use Rattle.std.specs.Prelude.{◌⊎◌, ◌<◌, ◌+◌, ◌^◌, ℕ, List, Option, length, ⊤}
use Rattle.std.specs.declared.alloc.Global.{Global}
use Rattle.std.specs.declared.vec.Vec.{Vec}
use Rattle.bstr.specs.Owned.{bstring_bytes}
use Rattle.gixobj_streams.specs.Streams.{AppendsAll, AppendsPrefix, SinkView, empty_sink, list_view}
use Rattle.gixobj_streams.specs.declared.encode.Error.{Error}
use Rattle.gixobj_streams.specs.declared.encode.Error.TheVariants as error
use Rattle.gixobj_streams.specs.declared.encode.RefNameFault.{RefNameFault}

-- a rejected value: of a header, a tag, a tree's entry or an actor
pub data RejectedValue : Type 0 where
  header_with_newline : List ℕ → RejectedValue
  empty_header : RejectedValue
  name_with_dash : RejectedValue
  bad_name : RefNameFault → RejectedValue
  name_with_zero_byte : List ℕ → RejectedValue
  illegal_actor : RejectedValue

-- the length of the bytes, or none if it exceeds 64 bits
abbrev pub IsSize : Option ℕ → List ℕ → Type 0
IsSize result bytes = SomeIff result (length bytes < 2 ^ 64) (length bytes)

-- the sum of a size and the length of the bytes, or none if it exceeds 64 bits
abbrev pub AddsSize : Option ℕ → ℕ → List ℕ → Type 0
AddsSize result size bytes = SomeIff result (size + length bytes < 2 ^ 64) (size + length bytes)

-- no value is rejected
abbrev pub RejectsNothing : (RejectedValue → List ℕ → Type 0) → Type 0
RejectsNothing Rejects = (value : RejectedValue) (parts : List ℕ) → ¬ Rejects value parts

-- this value is rejected, and exactly the parts before it were appended
abbrev pub StopsAt : (RejectedValue → List ℕ → Type 0) → SinkView → SinkView → RejectedValue → Type 0
StopsAt Rejects before after value = (parts : List ℕ) × Rejects value parts × AppendsAll before after parts

-- the error of a writer of these bytes with these rejected values; Writer: the sink failed with this error;
-- OutOfMemory: the copy of a rejected value failed to allocate; any other: this value was rejected
abbrev pub IsWritingError : (RejectedValue → List ℕ → Type 0) → SinkView → SinkView → List ℕ → Error → Type 0
IsWritingError Rejects before after bytes (error.Writer cause) = AppendsPrefix before after bytes cause
IsWritingError Rejects before after bytes (error.NewlineInHeaderValue value) =
    StopsAt Rejects before after (header_with_newline (bstring_bytes value))
IsWritingError Rejects before after bytes error.EmptyValue = StopsAt Rejects before after empty_header
IsWritingError Rejects before after bytes error.StartsWithDash = StopsAt Rejects before after name_with_dash
IsWritingError Rejects before after bytes (error.InvalidRefName fault) = StopsAt Rejects before after (bad_name fault)
IsWritingError Rejects before after bytes (error.NullbyteInFilename name) =
    StopsAt Rejects before after (name_with_zero_byte (bstring_bytes name))
IsWritingError Rejects before after bytes error.IllegalActor = StopsAt Rejects before after illegal_actor
IsWritingError Rejects before after bytes error.OutOfMemory =
    (value : List ℕ) × (StopsAt Rejects before after (header_with_newline value)
    ⊎ StopsAt Rejects before after (name_with_zero_byte value))

-- Writer: the room of the sink was less than the parts before each rejected value; of any other error it says nothing
abbrev pub LacksRoom : (RejectedValue → List ℕ → Type 0) → SinkView → Error → Type 0
LacksRoom Rejects before (error.Writer cause) =
    (value : RejectedValue) (parts : List ℕ) → Rejects value parts → before.room < length parts
LacksRoom Rejects before other = ⊤

-- the error of a writer of these bytes to an empty list, which has no room yet; Writer: of kind OutOfMemory
abbrev pub IsEncodingError : (RejectedValue → List ℕ → Type 0) → List ℕ → Error → Type 0
IsEncodingError Rejects bytes error =
    (after : Vec ℕ Global) × IsWritingError Rejects empty_sink (list_view after) bytes error

-- the error is that of the sink, to which a proper prefix of the bytes was appended
abbrev pub FailsAsSink : SinkView → SinkView → List ℕ → Error → Type 0
FailsAsSink before after bytes (error.Writer cause) = AppendsPrefix before after bytes cause
FailsAsSink before after bytes other = ⊥
