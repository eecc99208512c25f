-- Positions of the parts of an actor.
use Rattle.std.proofs.Common.{◌≡◌, ◌≤◌, ◌-◌, ℕ, List, [], ◌∷◌, ◌++◌, ap, append_assoc, arith, inl, inr, length, length-append, refl, subst, sym, ◌∙◌}
use Rattle.gixobj_actor.specs.Actor.{ActorView, IsActorLine, IsActorLineOf, IsMalformedActorLine, IsNameOf}
use Rattle.gixobj_c.specs.Spans.{BeginsWithPiece, HasPieceBefore}
use Rattle.gixobj_hash.proofs.Splits.{no_split_of_byte_free, split_parts_unique}
use Rattle.gixobj_hash.specs.ByteStrings.{IsByteFree, SplitsAt}

abbrev after_email : (name email time rest line : List ℕ) → IsActorLine line name email time rest → List ℕ
after_email name email time rest line is = 62 ∷ (is.gap ++ (time ++ rest))

line_joined : (line name email time rest : List ℕ) (is : IsActorLine line name email time rest)
    → line ≡ is.name_bytes ++ 60 ∷ (email ++ after_email name email time rest line is)
line_joined line name email time rest is =
    let flat : is.name_bytes ++ 60 ∷ email ++ 62 ∷ is.gap ++ time ++ rest ≡ is.name_bytes ++ 60 ∷ (email ++ 62 ∷ (is.gap ++ (time ++ rest))) =
    simp append_assoc in
    is.joined ∙ flat

name_prefix : (line name_bytes name rest : List ℕ) → line ≡ name_bytes ++ rest → IsNameOf name_bytes name → BeginsWithPiece line name
name_prefix line name_bytes name rest joined (inl spaced) =
    record { rest = 32 ∷ rest; joined = joined ∙ ap (λ (it : List ℕ). it ++ rest) spaced ∙ append_assoc name (32 ∷ []) rest }
name_prefix line name_bytes name rest joined (inr (same, none)) = record { rest = rest; joined = joined ∙ ap (λ (it : List ℕ). it ++ rest) same }

pub name_is_prefix : (line : List ℕ) (actor : ActorView) (rest : List ℕ) → IsActorLineOf line actor rest → BeginsWithPiece line actor.name
name_is_prefix line actor rest is =
    name_prefix line is.name_bytes actor.name (60 ∷ (actor.email ++ after_email actor.name actor.email actor.time rest line is))
    (line_joined line actor.name actor.email actor.time rest is) is.named

email_joined : (line before after : List ℕ) (actor : ActorView) (rest : List ℕ) (is : IsActorLineOf line actor rest) → SplitsAt 60 line before after
    → after ≡ actor.email ++ after_email actor.name actor.email actor.time rest line is
email_joined line before after actor rest is split =
    let parts = split_parts_unique 60 before after is.name_bytes (actor.email ++ after_email actor.name actor.email actor.time rest line is) split.first
    is.first
    (sym split.joined ∙ line_joined line actor.name actor.email actor.time rest is) in
    parts.1

pub email_fits : (line before after : List ℕ) (actor : ActorView) (rest : List ℕ) → IsActorLineOf line actor rest → SplitsAt 60 line before after
    → length actor.email ≤ length after
email_fits line before after actor rest is split =
    let all = ap length (email_joined line before after actor rest is split) in
    omega (arith, all, length-append actor.email (after_email actor.name actor.email actor.time rest line is))

pub email_before : (line before after : List ℕ) (actor : ActorView) (rest : List ℕ) (len : ℕ) → IsActorLineOf line actor rest → SplitsAt 60 line before after
    → len ≡ length actor.email → HasPieceBefore line actor.email (length after - len)
email_before line before after actor rest len is split same =
    let tail : List ℕ = after_email actor.name actor.email actor.time rest line is in
    let all = ap length (email_joined line before after actor rest is split) in
    let flat : is.name_bytes ++ 60 ∷ (actor.email ++ tail) ≡ (is.name_bytes ++ 60 ∷ []) ++ (actor.email ++ tail) = simp append_assoc in
    record {
      prefix = is.name_bytes ++ 60 ∷ [];
      rest = tail;
      joined = line_joined line actor.name actor.email actor.time rest is ∙ flat;
      remaining = omega (arith, all, same, length-append actor.email tail);
    }

pub time_before : (line : List ℕ) (actor : ActorView) (rest : List ℕ) → IsActorLineOf line actor rest → HasPieceBefore line actor.time (length rest)
time_before line actor rest is =
    let flat : is.name_bytes ++ 60 ∷ actor.email ++ 62 ∷ is.gap ++ actor.time ++ rest
    ≡ (is.name_bytes ++ 60 ∷ (actor.email ++ 62 ∷ is.gap)) ++ (actor.time ++ rest) = simp append_assoc in
    record { prefix = is.name_bytes ++ 60 ∷ (actor.email ++ 62 ∷ is.gap); rest = rest; joined = is.joined ∙ flat; remaining = refl }

pub no_actor_of_byte_free : (line : List ℕ) → IsByteFree 60 line → IsMalformedActorLine line
no_actor_of_byte_free line free = λ name email time rest is.
    no_split_of_byte_free 60 is.name_bytes (email ++ after_email name email time rest line is)
    (subst (λ (it : List ℕ). IsByteFree 60 it) (line_joined line name email time rest is) free)
