-- A line decodes to at most one actor, and the parts that the decoder splits are its parts. The decoder of lines, the
-- law of unique decoding and the proofs of commit and tag tokens use it.
use Rattle.std.proofs.Common.{◌≡◌, ◌≢◌, ◌==◌, arith, false, length, inl, inr, ℕ, true, false, List, [], ◌∷◌, ◌++◌, refl, sym, ap, subst, ◌∙◌, append_assoc}
use Rattle.std.proofs.lemmas.Bool.{true≢false}
use Rattle.std.proofs.lemmas.Bool.Decides.{nat_tests}
use Rattle.std.proofs.lemmas.List.Elements.{All-head, All-nil, All-tail}
use Rattle.std.specs.List.{AllPass}
use Rattle.gixobj_hash.proofs.Splits.{no_split_of_byte_free, split_parts_unique, last_split_unique}
use Rattle.gixobj_actor.specs.Actor.{ActorView, EndsTime, IsActorLine, IsActorLineOf, IsGap, IsNameOf, IsNoActor, IsMalformedActorLine, is_time_byte}
use Rattle.gixobj_hash.specs.ByteStrings.{IsByteFree, SplitsAt, SplitsAtLast}

actor_line_append_assoc : (name_bytes email gap time rest : List ℕ) → name_bytes ++ 60 ∷ (email ++ 62 ∷ (gap ++ (time ++ rest)))
    ≡ name_bytes ++ 60 ∷ email ++ 62 ∷ gap
    ++ time ++ rest
actor_line_append_assoc name_bytes email gap time rest = simp append_assoc

-- the parts of a line, split from the left
pub record SplitsActorLine (line name email time rest : List ℕ) : Type 0 where
  pub name_bytes : List ℕ
  pub following : List ℕ
  pub after : List ℕ
  pub gap : List ℕ
  pub tail : List ℕ
  pub one_line : IsByteFree 10 line
  pub first : SplitsAt 60 line name_bytes following
  pub last : SplitsAtLast 62 following email after
  pub skipped : after ≡ gap ++ tail
  pub spaced : IsGap gap tail
  pub joined : tail ≡ time ++ rest
  pub named : IsNameOf name_bytes name
  pub timed : AllPass is_time_byte time
  pub ends : EndsTime rest

pub line_of_splits : (line name email time rest : List ℕ) → SplitsActorLine line name email time rest → IsActorLine line name email time rest
line_of_splits line name email time rest splits =
    let after : splits.after ≡ splits.gap ++ (time ++ rest) = splits.skipped ∙ ap (λ it. splits.gap ++ it) splits.joined in
    let F : List ℕ → Type 0 = IsByteFree 62 in
    let G : List ℕ → Type 0 = IsGap splits.gap in
    record {
      name_bytes = splits.name_bytes;
      gap = splits.gap;
      joined = splits.first.joined ∙ ap (λ it. splits.name_bytes ++ 60 ∷ it) (splits.last.joined ∙ ap (λ it. email ++ 62 ∷ it) after)
          ∙ actor_line_append_assoc splits.name_bytes email splits.gap time rest;
      one_line = splits.one_line;
      first = splits.first.first;
      last = subst F (after ∙ sym (append_assoc splits.gap time rest)) splits.last.last;
      named = splits.named;
      spaced = subst G splits.joined splits.spaced;
      timed = splits.timed;
      ends = splits.ends;
    }

-- the bytes after the first `<` of an actor line are its email, gap, time and rest
actor_line_splits_at_opening_bracket : (line name email time rest name_bytes after_less_than : List ℕ) (actor : IsActorLine line name email time rest)
    → SplitsAt 60 line name_bytes after_less_than
    → (actor.name_bytes ≡ name_bytes) × (email ++ 62 ∷ (actor.gap ++ (time ++ rest)) ≡ after_less_than)
actor_line_splits_at_opening_bracket line name email time rest name_bytes after_less_than actor split =
    split_parts_unique 60 actor.name_bytes (email ++ 62 ∷ (actor.gap ++ (time ++ rest))) name_bytes after_less_than actor.first split.first
    (actor_line_append_assoc actor.name_bytes email actor.gap time rest ∙ sym actor.joined ∙ split.joined)

pub malformed_without_opening_bracket : (line : List ℕ) → IsByteFree 60 line → IsMalformedActorLine line
malformed_without_opening_bracket line free name email time rest actor =
    let joined : line ≡ actor.name_bytes ++ 60 ∷ (email ++ 62 ∷ (actor.gap ++ (time ++ rest))) =
    actor.joined ∙ sym (actor_line_append_assoc actor.name_bytes email actor.gap time rest) in
    no_split_of_byte_free 60 actor.name_bytes (email ++ 62 ∷ (actor.gap ++ (time ++ rest))) (let P : List ℕ → Type 0 = IsByteFree 60 in subst P joined free)

pub malformed_without_closing_bracket : (line name_bytes after_less_than : List ℕ) → SplitsAt 60 line name_bytes after_less_than → IsByteFree 62 after_less_than
    → IsMalformedActorLine line
malformed_without_closing_bracket line name_bytes after_less_than split free name email time rest actor =
    let same = actor_line_splits_at_opening_bracket line name email time rest name_bytes after_less_than actor split in
    no_split_of_byte_free 62 email (actor.gap ++ (time ++ rest)) (let P : List ℕ → Type 0 = IsByteFree 62 in subst P (sym same.1) free)

-- unique decoding of each part
actor_name_unique : (name_bytes a b : List ℕ) → IsNameOf name_bytes a → IsNameOf name_bytes b → a ≡ b
actor_name_unique name_bytes a b (inl first) (inl second) =
    let same_split = last_split_unique 32 a [] b [] (All-nil (λ it. it ≢ 32)) (All-nil (λ it. it ≢ 32)) (sym first ∙ second) in same_split.0
actor_name_unique name_bytes a b (inl first) (inr second) = absurd (second.1 a first)
actor_name_unique name_bytes a b (inr first) (inl second) = absurd (first.1 b second)
actor_name_unique name_bytes a b (inr first) (inr second) = sym first.0 ∙ second.0

gap_append_unique : (gap a gap' b : List ℕ) → IsGap gap a → IsGap gap' b → gap ++ a ≡ gap' ++ b → a ≡ b
gap_append_unique gap a gap' b (inl first) (inl second) same =
    let joined : 32 ∷ a ≡ 32 ∷ b = sym (ap (λ it. it ++ a) first) ∙ same ∙ ap (λ it. it ++ b) second in cc
gap_append_unique gap a gap' b (inl first) (inr second) same =
    absurd (second.1 a (sym (ap (λ it. it ++ b) second.0) ∙ sym same ∙ ap (λ it. it ++ a) first))
gap_append_unique gap a gap' b (inr first) (inl second) same =
    absurd (first.1 b (sym (ap (λ it. it ++ a) first.0) ∙ same ∙ ap (λ it. it ++ b) second))
gap_append_unique gap a gap' b (inr first) (inr second) same =
    sym (ap (λ it. it ++ a) first.0) ∙ same ∙ ap (λ it. it ++ b) second.0

-- a time byte does not begin the bytes at which a time ends
time_end_is_no_time_byte : (byte : ℕ) (time rest after : List ℕ) → AllPass is_time_byte (byte ∷ time) → EndsTime rest → rest ≡ byte ∷ after → ⊥
time_end_is_no_time_byte byte time rest after passes ends same =
    let fails : is_time_byte byte ≡ false = (let P : List ℕ → Type 0 = EndsTime in subst P same ends) in
    true≢false (sym (All-head (λ it. is_time_byte it ≡ true) byte time passes) ∙ fails)

time_append_unique : (a x b y : List ℕ) → AllPass is_time_byte a → AllPass is_time_byte b → EndsTime x → EndsTime y → a ++ x ≡ b ++ y → (a ≡ b) × (x ≡ y)
time_append_unique [] x [] y pass_a pass_b ends_x ends_y same = (refl, same)
time_append_unique [] x (byte ∷ b) y pass_a pass_b ends_x ends_y same = absurd (time_end_is_no_time_byte byte b x (b ++ y) pass_b ends_x same)
time_append_unique (byte ∷ a) x [] y pass_a pass_b ends_x ends_y same = absurd (time_end_is_no_time_byte byte a y (a ++ x) pass_a ends_y (sym same))
time_append_unique (byte ∷ a) x (other ∷ b) y pass_a pass_b ends_x ends_y same =
    let tails : a ++ x ≡ b ++ y = cc same in
    let heads : byte ≡ other = cc same in
    let P : ℕ → Type 0 = λ it. is_time_byte it ≡ true in
    let rest = time_append_unique a x b y (All-tail P byte a pass_a) (All-tail P other b pass_b) ends_x ends_y tails in
    (cc (heads, rest.0), rest.1)

pub actor_line_unique : (line name email time rest name' email' time' rest' : List ℕ)
    → IsActorLine line name email time rest → IsActorLine line name' email' time' rest'
    → (name ≡ name') × (email ≡ email') × (time ≡ time') × (rest ≡ rest')
actor_line_unique line name email time rest name' email' time' rest' first second =
    let after_less_than = email ++ 62 ∷ (first.gap ++ (time ++ rest)) in
    let split : SplitsAt 60 line first.name_bytes after_less_than =
    record { joined = first.joined ∙ sym (actor_line_append_assoc first.name_bytes email first.gap time rest); first = first.first } in
    let same_split = actor_line_splits_at_opening_bracket line name' email' time' rest' first.name_bytes after_less_than second split in
    let F : List ℕ → Type 0 = IsByteFree 62 in
    let close = last_split_unique 62 email (first.gap ++ (time ++ rest)) email' (second.gap ++ (time' ++ rest'))
    (subst F (append_assoc first.gap time rest) first.last) (subst F (append_assoc second.gap time' rest') second.last) (sym same_split.1) in
    let tails = gap_append_unique first.gap (time ++ rest) second.gap (time' ++ rest') first.spaced second.spaced close.1 in
    let times = time_append_unique time rest time' rest' first.timed second.timed first.ends second.ends tails in
    let N : List ℕ → Type 0 = λ it. IsNameOf it name' in (
      actor_name_unique first.name_bytes name name' first.named (subst N same_split.0 second.named),
      close.0,
      times.0,
      times.1,
    )

abbrev of_parts : List ℕ → List ℕ → List ℕ → ActorView
of_parts name email time = record { name = name; email = email; time = time }

pub actor_view_unique : (line : List ℕ) (a b : ActorView) (x y : List ℕ) → IsActorLineOf line a x → IsActorLineOf line b y → a ≡ b
actor_view_unique line a b x y first second =
    let same = actor_line_unique line a.name a.email a.time x b.name b.email b.time y first second in
    ap (λ (it : List ℕ). of_parts it a.email a.time) same.0 ∙ ap (λ (it : List ℕ). of_parts b.name it a.time) same.1
    ∙ ap (λ (it : List ℕ). of_parts b.name b.email it) same.2

-- ---- actors that fill their line

pub no_actor_of_malformed_line : (line : List ℕ) → IsMalformedActorLine line → IsNoActor line
no_actor_of_malformed_line line bad name email time actor = bad name email time [] actor

pub no_actor_of_rest_after_time : (line name email time rest : List ℕ) → IsActorLine line name email time rest → (length rest == 0) ≡ false → IsNoActor line
no_actor_of_rest_after_time line name email time rest first more name' email' time' second =
    let same = actor_line_unique line name email time rest name' email' time' [] first second in
    let none : length rest ≡ 0 = ap length same.3 in
    absurd (grind (arith, nat_tests, more, none))
