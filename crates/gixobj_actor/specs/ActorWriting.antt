-- The encoding of actors, and the errors of writing them.
use Rattle.std.specs.Prelude.{◌≡◌, ℕ, List, [], ◌∷◌, ◌++◌}
use Rattle.bstr.specs.BStr.{bstr_bytes}
use Rattle.bstr.specs.Owned.{bstring_bytes}
use Rattle.gixobj_actor.specs.Actor.{IsActor, IsTimeOrDefault, IsWritable, encode_actor}
use Rattle.gixobj_actor.specs.Date.{encode_time}
use Rattle.gixobj_streams.specs.Writing.{RejectedValue, illegal_actor}
use Rattle.gixobj_actor.specs.declared.actor.Signature.{Signature}
use Rattle.gixobj_actor.specs.declared.actor.SignatureRef.{SignatureRef}
use Rattle.gixobj_actor.specs.declared.date.Time.{Time}
use Rattle.gixobj_streams.specs.declared.encode.Error.{Error}
use Rattle.gixobj_streams.specs.declared.encode.Error.TheVariants.{IllegalActor, Writer}
use Rattle.gixobj_hash.specs.Bytes.{space}
use Rattle.std.specs.declared.io.Error as io

-- the encoding of a borrowed actor
abbrev pub encode_borrowed_actor : SignatureRef → List ℕ
encode_borrowed_actor actor = encode_actor (bstr_bytes actor.name) (bstr_bytes actor.email) (bstr_bytes actor.time)

-- the encoding of an owned actor
abbrev pub encode_owned_actor : Signature → List ℕ
encode_owned_actor actor = encode_actor (bstring_bytes actor.name) (bstring_bytes actor.email)
    (encode_time actor.time.seconds actor.time.offset)

-- an actor with this name and this email can be written
abbrev pub IsLegalActor : List ℕ → List ℕ → Type 0
IsLegalActor name email = IsWritable name × IsWritable email

-- an owned actor can be written
abbrev pub IsLegal : Signature → Type 0
IsLegal actor = IsLegalActor (bstring_bytes actor.name) (bstring_bytes actor.email)

-- why an actor is not written: it is illegal, and its output is unchanged; or the writer failed with this error, and a
-- proper prefix is written
abbrev pub IsActorError : List ℕ → List ℕ → Type 0 → (io.Error → Type 0) → Error → Type 0
IsActorError name email unchanged appends_prefix IllegalActor = ¬ (IsLegalActor name email) × unchanged
IsActorError name email unchanged appends_prefix (Writer cause) = IsLegalActor name email × appends_prefix cause
IsActorError name email unchanged appends_prefix other = ⊥

-- the actor of a field is illegal; the name of the field and a space are written before it
abbrev pub IsActorFieldError : List ℕ → Signature → RejectedValue → List ℕ → Type 0
IsActorFieldError name actor value parts = ¬ (IsLegal actor) × (value ≡ illegal_actor) × (parts ≡ name ++ space ∷ [])

-- the canonical encoding of the line's actor: its name, its email, and its encoded time or the default one
pub record IsCanonical (line written : List ℕ) : Type 0 where
  pub name : List ℕ
  pub email : List ℕ
  pub time : List ℕ
  pub time_or_default : Time
  pub read : IsActor line name email time
  pub is_time : IsTimeOrDefault time time_or_default
  pub encodes : written ≡ encode_actor name email (encode_time time_or_default.seconds time_or_default.offset)

-- the line is an actor whose name or email can't be written
abbrev pub IsUnwritable : List ℕ → Type 0
IsUnwritable line = (name email time : List ℕ) × IsActor line name email time × ¬ (IsLegalActor name email)
