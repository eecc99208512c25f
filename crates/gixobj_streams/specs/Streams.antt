-- The bytes that sinks hold and accept.
use Rattle.std.specs.Prelude.{◌≡◌, ◌<◌, ◌≤◌, ◌+◌, ◌-◌, ◌++◌, ℕ, IfSome, List, [], MatchResult, None, Option, Result}
use Rattle.std.specs.Prelude.{Some, length, vec_capacity, vec_len}
use Rattle.std.specs.Io.KnownBytes.{Appends}
use Rattle.std.specs.IoError.{error_kind}
use Rattle.std.specs.declared.alloc.Global.{Global}
use Rattle.std.specs.declared.vec.Vec.{Vec}
use Rattle.std.specs.declared.io.Error.{Error}
use Rattle.std.specs.declared.io.ErrorKind.{ErrorKind}
use Rattle.std.specs.declared.io.ErrorKind.TheVariants.{OutOfMemory}

-- a sink as contracts see it: its bytes, if they are known, how many more are certain to be accepted, and the kind of
-- its errors, if it is known
pub record SinkView : Type 0 where
  pub held : Option (List ℕ)
  pub room : ℕ
  pub failure : Option ErrorKind

-- a list as a sink, which is certain to accept as many bytes as fit its capacity, and fails only for want of memory
abbrev pub list_view : Vec ℕ Global → SinkView
list_view list = record { held = Some list.items; room = vec_capacity list - vec_len list; failure = Some OutOfMemory }

-- a sink without bytes and room, as an empty list that has allocated nothing
abbrev pub empty_sink : SinkView
empty_sink = record { held = Some []; room = 0; failure = Some OutOfMemory }

-- a writer of known or unknown bytes as a sink, which may always fail with any error
abbrev pub writer_view : Option (List ℕ) → SinkView
writer_view held = record { held = held; room = 0; failure = None }

-- all the bytes were appended
pub record AppendsAll (before after : SinkView) (bytes : List ℕ) : Type 0 where
  pub held : Appends before.held after.held bytes
  pub room : before.room ≤ after.room + length bytes

-- the sink had no room for all the bytes, a proper prefix of them was appended, and the sink failed with this error,
-- which is of the known kind
pub record AppendsPrefix (before after : SinkView) (bytes : List ℕ) (cause : Error) : Type 0 where
  pub prefix : List ℕ
  pub rest : List ℕ
  pub joined : bytes ≡ prefix ++ rest
  pub missing : 0 < length rest
  pub held : Appends before.held after.held prefix
  pub short : before.room < length bytes
  pub of_kind : IfSome after.failure (λ kind. error_kind cause ≡ kind)

-- the sink failed, and a proper prefix of the bytes was appended
abbrev pub FailsToAppend : SinkView → SinkView → List ℕ → Type 0
FailsToAppend before after bytes = (cause : Error) × AppendsPrefix before after bytes cause

-- all the bytes were appended; at an error of the sink, a proper prefix of them
abbrev pub AppendsOrFails : {T : Type 0} → Result T Error → SinkView → SinkView → List ℕ → Type 0
AppendsOrFails result before after bytes = MatchResult result (λ _. AppendsAll before after bytes)
    (AppendsPrefix before after bytes)
