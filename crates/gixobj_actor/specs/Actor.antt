-- How lines decode to an actor and a time (git-commit-tree, "Commit Information"; git-fast-import, "author").
use Rattle.std.specs.Prelude.{◌≡◌, ◌≢◌, ◌⊎◌, ◌||◌, ◌==◌, ℕ, Bool, List, [], ◌∷◌, ◌++◌, IsFalse, pos, ⊤, codes}
use Rattle.std.specs.Char.{is_ascii_digit}
use Rattle.std.specs.List.{AllPass}
use Rattle.bstr.specs.BStr.{bstr_bytes}
use Rattle.bstr.specs.Owned.{bstring_bytes}
use Rattle.gixobj_actor.specs.Date.{IsMalformedTime, DecodesToTime}
use Rattle.gixobj_hash.specs.ByteStrings.{IsByteFree, trimmed}
use Rattle.gixobj_actor.specs.declared.actor.Signature.{Signature}
use Rattle.gixobj_actor.specs.declared.actor.SignatureRef.{SignatureRef}
use Rattle.gixobj_actor.specs.declared.date.Time.{Time}
use Rattle.gixobj_hash.specs.Bytes.{greater_than, less_than, minus, newline, plus, space, tab}

-- a byte of a time: a digit, a plus, a minus, a space or a tab
abbrev pub is_time_byte : ℕ → Bool
is_time_byte byte = is_ascii_digit byte || byte == plus || byte == minus || byte == space || byte == tab

-- a time ends here: at the end, or before a byte that no time has
abbrev pub EndsTime : List ℕ → Type 0
EndsTime [] = ⊤
EndsTime (byte ∷ rest) = IsFalse (is_time_byte byte)

-- the name is the bytes without one final space, if they have one
abbrev pub IsNameOf : List ℕ → List ℕ → Type 0
IsNameOf name_bytes name = (name_bytes ≡ name ++ space ∷ [])
    ⊎ ((name_bytes ≡ name) × ((prefix : List ℕ) → name_bytes ≢ prefix ++ space ∷ []))

-- the gap is one space, or empty if no space follows
abbrev pub IsGap : List ℕ → List ℕ → Type 0
IsGap gap after = (gap ≡ space ∷ []) ⊎ ((gap ≡ []) × ((rest : List ℕ) → after ≢ space ∷ rest))

-- the line decodes to an actor and a rest: the bytes of the name before the first `<`, the email up to the last `>`,
-- a gap, the longest time, and the rest
pub record IsActorLine (line name email time rest : List ℕ) : Type 0 where
  pub name_bytes : List ℕ
  pub gap : List ℕ
  pub joined : line ≡ name_bytes ++ less_than ∷ email ++ greater_than ∷ gap ++ time ++ rest
  pub one_line : IsByteFree newline line
  pub first : IsByteFree less_than name_bytes
  pub last : IsByteFree greater_than (gap ++ time ++ rest)
  pub named : IsNameOf name_bytes name
  pub spaced : IsGap gap (time ++ rest)
  pub timed : AllPass is_time_byte time
  pub ends : EndsTime rest

-- the line decodes to no actor
abbrev pub IsMalformedActorLine : List ℕ → Type 0
IsMalformedActorLine line = (name email time rest : List ℕ) → ¬ IsActorLine line name email time rest

-- the line begins with an actor; bytes may follow its time
abbrev pub BeginsWithActor : List ℕ → Type 0
BeginsWithActor line = (name email time rest : List ℕ) × IsActorLine line name email time rest

-- the time that the bytes decode to; for malformed bytes it is the start of 1970 in UTC
abbrev pub IsTimeOrDefault : List ℕ → Time → Type 0
IsTimeOrDefault bytes time = DecodesToTime bytes time.seconds time.offset
    ⊎ (IsMalformedTime bytes × (time.seconds ≡ pos 0) × (time.offset ≡ pos 0))

-- a name or an email that can be written: it has no `<`, no `>` and no newline
abbrev pub IsWritable : List ℕ → Type 0
IsWritable bytes = IsByteFree less_than bytes × IsByteFree greater_than bytes × IsByteFree newline bytes

-- the encoding of an actor: the name, ` <`, the email, `> ` and the time
abbrev pub encode_actor : List ℕ → List ℕ → List ℕ → List ℕ
encode_actor name email time = name ++ codes " <" ++ email ++ codes "> " ++ time

-- the line is this actor, and nothing follows the time
abbrev pub IsActor : List ℕ → List ℕ → List ℕ → List ℕ → Type 0
IsActor line name email time = IsActorLine line name email time []

-- the bytes of an actor's name, email and time
pub record ActorView : Type 0 where
  pub name : List ℕ
  pub email : List ℕ
  pub time : List ℕ

-- the bytes of a borrowed actor's parts
abbrev pub actor_view : SignatureRef → ActorView
actor_view actor = record { name = bstr_bytes actor.name; email = bstr_bytes actor.email; time = bstr_bytes actor.time }

-- the line decodes to the actor of these parts, and the rest follows its time
abbrev pub IsActorLineOf : List ℕ → ActorView → List ℕ → Type 0
IsActorLineOf line actor rest = IsActorLine line actor.name actor.email actor.time rest

-- the line is the actor of these parts, and nothing follows the time
abbrev pub IsActorOf : List ℕ → ActorView → Type 0
IsActorOf line actor = IsActorLineOf line actor []

-- the line is malformed, or bytes follow the time of its actor
abbrev pub IsNoActor : List ℕ → Type 0
IsNoActor line = (name email time : List ℕ) → ¬ IsActor line name email time

-- the line is an actor, and nothing follows its time
abbrev pub NamesActor : List ℕ → Type 0
NamesActor line = (name email time : List ℕ) × IsActor line name email time

-- the actor of the line, without white space at the ends of its parts
pub record IsTrimmedActor (line : List ℕ) (actor : SignatureRef) : Type 0 where
  pub name : List ℕ
  pub email : List ℕ
  pub time : List ℕ
  pub read : IsActor line name email time
  pub trimmed_name : bstr_bytes actor.name ≡ trimmed name
  pub trimmed_email : bstr_bytes actor.email ≡ trimmed email
  pub trimmed_time : bstr_bytes actor.time ≡ trimmed time

-- the actor of the line, untrimmed, with its decoded time or the default one
pub record IsOwnedActor (line : List ℕ) (actor : Signature) : Type 0 where
  pub time : List ℕ
  pub read : IsActor line (bstring_bytes actor.name) (bstring_bytes actor.email) time
  pub time_or_default : IsTimeOrDefault time actor.time
