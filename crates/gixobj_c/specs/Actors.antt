-- Results of the call about the actor of a line.
use Rattle.std.specs.Prelude.{◌≡◌, ◌-◌, ◌⊎◌, ℕ, List, length, pos}
use Rattle.gixobj_actor.specs.Actor.{ActorView, IsActorLineOf, IsMalformedActorLine}
use Rattle.gixobj_actor.specs.Date.{DecodesToTime, IsMalformedTime}
use Rattle.gixobj_c_codes.specs.Codes.{done, malformed}
use Rattle.gixobj_c.specs.Spans.{IsSpanAtStart, IsSpanBefore}
use Rattle.gixobj_c.specs.declared.actors.Actor.{Actor}
use Rattle.gixobj_hash.specs.ByteStrings.{SplitsAt}
use Rattle.gixobj_hash.specs.Bytes.{less_than}

-- the time that the bytes decode to, or that they decode to none
abbrev pub IsTimeOf : List ℕ → Actor → Type 0
IsTimeOf time out = ((out.has_time ≡ 1) × DecodesToTime time out.seconds out.offset)
    ⊎ ((out.has_time ≡ 0) × IsMalformedTime time × (out.seconds ≡ pos 0) × (out.offset ≡ pos 0))

-- the positions of the actor's parts, and its time: the name comes first, the email after the first `<`, and the rest
-- after the time
pub record IsActorAt (line : List ℕ) (actor : ActorView) (rest : List ℕ) (out : Actor) : Type 0 where
  pub before : List ℕ
  pub after : List ℕ
  pub split : SplitsAt less_than line before after
  pub name : IsSpanAtStart line actor.name out.name
  pub email : IsSpanBefore line actor.email (length after - length actor.email) out.email
  pub time : IsSpanBefore line actor.time (length rest) out.time
  pub decoded : IsTimeOf actor.time out

-- the actor of the line, or that it decodes to none
abbrev pub IsActorCall : List ℕ → Actor → Actor → ℕ → Type 0
IsActorCall line before after status =
    ((status ≡ done) × ((actor : ActorView) × (rest : List ℕ) × IsActorLineOf line actor rest
    × IsActorAt line actor rest after))
    ⊎ ((status ≡ malformed) × IsMalformedActorLine line × (after ≡ before))
