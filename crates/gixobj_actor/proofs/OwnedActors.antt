-- The owned actor of a line encodes canonically. If it is illegal, the line is unwritable.
use Rattle.std.proofs.Common.{ℕ, List, refl}
use Rattle.bstr.specs.Owned.{bstring_bytes}
use Rattle.gixobj_actor.specs.Actor.{IsOwnedActor}
use Rattle.gixobj_actor.specs.ActorWriting.{IsCanonical, IsLegal, IsUnwritable, encode_owned_actor}
use Rattle.gixobj_actor.specs.declared.actor.Signature.{Signature}

pub encode_owned_actor_is_canonical : (line : List ℕ) (actor : Signature) → IsOwnedActor line actor → IsCanonical line (encode_owned_actor actor)
encode_owned_actor_is_canonical line actor is = record {
  name = bstring_bytes actor.name;
  email = bstring_bytes actor.email;
  time = is.time;
  time_or_default = actor.time;
  read = is.read;
  is_time = is.time_or_default;
  encodes = refl;
}

pub is_unwritable_of_error : (line : List ℕ) (actor : Signature) → IsOwnedActor line actor → ¬ (IsLegal actor) → IsUnwritable line
is_unwritable_of_error line actor is illegal = (bstring_bytes actor.name, bstring_bytes actor.email, is.time, is.read, illegal)
