-- The line of an actor without a fault decodes to an actor.
use Rattle.std.proofs.Common.{◌≡◌, ◌≢◌, ◌⊎◌, ◌||◌, ◌&&◌, ◌==◌, ℕ, Bool, true, false, cond, List, [], ◌∷◌, ◌++◌, Ok, inl, inr, refl, sym, ap, subst, ◌∙◌, arith}
use Rattle.std.specs.Prelude.{nat_le}
use Rattle.std.specs.List.{AllPass, list_all}
use Rattle.std.proofs.lemmas.Bool.{true≢false, and_parts}
use Rattle.std.proofs.lemmas.Bool.Decides.{nat_tests}
use Rattle.std.proofs.lemmas.List.Elements.{All-cons, All-head, All-nil, All-tail}
use Rattle.gixobj_actor.proofs.ActorLines.{line_of_splits}
use Rattle.gixobj_actor.specs.Actor.{BeginsWithActor, EndsTime, IsActorLine, is_time_byte}
use Rattle.gixobj_hash.specs.ByteStrings.{IsByteFree, SplitsAt}
use Rattle.gixobj_fsck.specs.Actors.{ActorPart, EndsInSpace, IsAfterLine}
use Rattle.gixobj_fsck.specs.Dates.{BeginsWithNumber, BeginsWithZone, without_sign}
use Rattle.gixobj_fsck.specs.Spans.{is_of_class}
use Rattle.gixobj_fsck.specs.declared.spans.Class.{Class}
use Rattle.gixobj_fsck.specs.declared.spans.Class.TheVariants as class

-- ---- the bytes of a date

-- a byte of a date in C's sense: a byte of a time, or other white space
abbrev pub is_date_byte : ℕ → Bool
is_date_byte byte = is_time_byte byte || (nat_le 10 byte && nat_le byte 13)

-- a newline comes, and the bytes before it are of a date
abbrev pub DatesLine : List ℕ → Type 0
DatesLine [] = ⊥
DatesLine (byte ∷ rest) = (byte ≡ 10) ⊎ ((is_date_byte byte ≡ true) × DatesLine rest)

white_is_of_date : (byte : ℕ) → is_of_class class.White byte ≡ true → is_date_byte byte ≡ true
white_is_of_date byte is = grind (arith, nat_tests)

digit_is_of_date : (byte : ℕ) → is_of_class class.Digit byte ≡ true → is_date_byte byte ≡ true
digit_is_of_date byte is = grind (arith, nat_tests)

sign_is_of_date : (byte : ℕ) → (byte == 43 || byte == 45) ≡ true → is_date_byte byte ≡ true
sign_is_of_date byte is = grind (arith, nat_tests)

dates_after : (class : Class) (bytes rest : List ℕ) → ((byte : ℕ) → is_of_class class byte ≡ true → is_date_byte byte ≡ true)
    → list_all (is_of_class class) bytes ≡ true → DatesLine rest → DatesLine (bytes ++ rest)
dates_after class [] rest of_date all dates = dates
dates_after class (byte ∷ bytes) rest of_date all dates =
    let parts = and_parts (is_of_class class byte) (list_all (is_of_class class) bytes) all in
    inr (of_date byte parts.0, dates_after class bytes rest of_date parts.1 dates)

dates_of_zone : (zone rest : List ℕ) → BeginsWithZone zone rest → DatesLine zone
dates_of_zone zone rest it = subst DatesLine (sym it.joined) (
    inr (
      sign_is_of_date it.sign it.signed,
      inr (
        digit_is_of_date it.first it.one,
        inr (
          digit_is_of_date it.second it.two,
          inr (digit_is_of_date it.third it.three, inr (digit_is_of_date it.fourth it.four, inl refl)),
        ),
      ),
    )
    )

dates_with_sign : (signed : List ℕ) → DatesLine (without_sign signed) → DatesLine signed
dates_with_sign [] dates = dates
dates_with_sign (byte ∷ rest) dates = go (byte == 43 || byte == 45) refl dates
  where
    go : (test : Bool) → (byte == 43 || byte == 45) ≡ test → DatesLine (cond test rest (byte ∷ rest)) → DatesLine (byte ∷ rest)
    go true is dates = inr (sign_is_of_date byte is, dates)
    go false is dates = dates

-- a number, a space and a zone are of a date
dates_of_number : (date zone rest : List ℕ) (number : ℕ) → BeginsWithNumber date number (32 ∷ zone) → BeginsWithZone zone rest → DatesLine date
dates_of_number date zone rest number it ends =
    let digits = dates_after class.Digit it.digits (32 ∷ zone) digit_is_of_date it.counted.within (inr (refl, dates_of_zone zone rest ends)) in
    let signed = dates_with_sign it.signed (subst DatesLine (sym it.counted.joined) digits) in
    subst DatesLine (sym it.skipped.joined) (dates_after class.White it.white it.signed white_is_of_date it.skipped.within signed)

-- the line that the newline ends is of a date
dates_all : (date line rest : List ℕ) → date ≡ line ++ 10 ∷ rest → IsByteFree 10 line → DatesLine date → AllPass is_date_byte line
dates_all date [] rest joined free dates = All-nil (λ it. is_date_byte it ≡ true)
dates_all date (byte ∷ line) rest joined free dates =
    let more = dates_all (line ++ 10 ∷ rest) line rest refl (All-tail (λ it. it ≢ 10) byte line free) in
    elim (subst DatesLine joined dates) [
      | inl ends ↦ absurd (All-head (λ it. it ≢ 10) byte line free ends)
      | inr both ↦ All-cons (λ it. is_date_byte it ≡ true) byte line both.0 (more both.1)
    ]

dates_newline : (date : List ℕ) → DatesLine date → IsByteFree 10 date → ⊥
dates_newline [] dates free = dates
dates_newline (byte ∷ date) (inl ends) free = All-head (λ it. it ≢ 10) byte date free ends
dates_newline (byte ∷ date) (inr both) free = dates_newline date both.1 (All-tail (λ it. it ≢ 10) byte date free)

-- ---- the longest time

time_split : (bytes : List ℕ) → (time rest : List ℕ) × (bytes ≡ time ++ rest) × AllPass is_time_byte time × EndsTime rest
time_split [] = ([], [], refl, All-nil (λ it. is_time_byte it ≡ true), tt)
time_split (byte ∷ bytes) = go (time_split bytes) (is_time_byte byte) refl
  where
    go : ((time rest : List ℕ) × (bytes ≡ time ++ rest) × AllPass is_time_byte time × EndsTime rest) → (test : Bool) → is_time_byte byte ≡ test
        → (time rest : List ℕ) × (byte ∷ bytes ≡ time ++ rest) × AllPass is_time_byte time × EndsTime rest
    go more true is = (
      byte ∷ more.0,
      more.1,
      ap (λ (it : List ℕ). byte ∷ it) more.2,
      All-cons (λ it. is_time_byte it ≡ true) byte more.0 is more.3,
      more.4,
    )
    go more false is = ([], byte ∷ bytes, refl, All-nil (λ it. is_time_byte it ≡ true), is)

-- ---- the parts of a line

-- bytes of a name are no `<` and no newline
pub name_bytes_free : (bytes : List ℕ) → list_all (is_of_class class.Name) bytes ≡ true → IsByteFree 60 bytes × IsByteFree 10 bytes
name_bytes_free [] all = (All-nil (λ it. it ≢ 60), All-nil (λ it. it ≢ 10))
name_bytes_free (byte ∷ bytes) all =
    let parts = and_parts (is_of_class class.Name byte) (list_all (is_of_class class.Name) bytes) all in
    let more = name_bytes_free bytes parts.1 in
    (All-cons (λ it. it ≢ 60) byte bytes (not_less byte parts.0) more.0, All-cons (λ it. it ≢ 10) byte bytes (not_newline byte parts.0) more.1)
  where
    not_less : (byte : ℕ) → is_of_class class.Name byte ≡ true → byte ≢ 60
    not_less byte is = grind (arith, nat_tests)

    not_newline : (byte : ℕ) → is_of_class class.Name byte ≡ true → byte ≢ 10
    not_newline byte is = grind (arith, nat_tests)

-- the line of an input has all of a prefix without newline
pub line_after_prefix : (prefix input line rest : List ℕ) → IsByteFree 10 prefix → prefix ++ input ≡ line ++ 10 ∷ rest
    → (more : List ℕ) × (line ≡ prefix ++ more) × (input ≡ more ++ 10 ∷ rest)
line_after_prefix [] input line rest free joined = (line, refl, joined)
line_after_prefix (byte ∷ prefix) input [] rest free joined = let same : byte ≡ 10 = cc joined in absurd (All-head (λ it. it ≢ 10) byte prefix free same)
line_after_prefix (byte ∷ prefix) input (first ∷ line) rest free joined =
    let tails : prefix ++ input ≡ line ++ 10 ∷ rest = cc joined in
    let heads : byte ≡ first = cc joined in
    let more = line_after_prefix prefix input line rest (All-tail (λ it. it ≢ 10) byte prefix free) tails in
    (more.0, cc (heads, more.1), more.2)

-- the line of an actor without a fault: a name that ends in a space, an email, and bytes of a date
pub record SoundLine (line : List ℕ) : Type 0 where
  pub name : List ℕ
  pub email : List ℕ
  pub date : List ℕ
  pub joined : line ≡ (name ++ 32 ∷ []) ++ 60 ∷ (email ++ 62 ∷ (32 ∷ date))
  pub one_line : IsByteFree 10 line
  pub first : IsByteFree 60 (name ++ 32 ∷ [])
  pub of_date : AllPass is_date_byte date

-- bytes without a byte have a tail without it
pub free_of_tail : (prefix bytes : List ℕ) → IsByteFree 10 (prefix ++ bytes) → IsByteFree 10 bytes
free_of_tail [] bytes free = free
free_of_tail (byte ∷ prefix) bytes free = free_of_tail prefix bytes (All-tail (λ it. it ≢ 10) byte (prefix ++ bytes) free)

append_tail : (a b c d : List ℕ) → a ≡ b ++ c → c ≡ d → a ≡ b ++ d
append_tail a b c d one other = one ∙ ap (λ (it : List ℕ). b ++ it) other

-- the line of an actor whose parts come
sound_line : (actor named email date line rest : List ℕ) → actor ≡ named ++ 60 ∷ (email ++ 62 ∷ (32 ∷ date))
    → IsByteFree 60 named × IsByteFree 10 named → IsByteFree 10 email → EndsInSpace named → DatesLine date → SplitsAt 10 actor line rest → SoundLine line
sound_line actor named email date line rest joined free one spaced dates split =
    let a = line_after_prefix named (60 ∷ (email ++ 62 ∷ (32 ∷ date))) line rest free.1 (sym joined ∙ split.joined) in
    let cons : (byte : ℕ) (bytes : List ℕ) → byte ≢ 10 → IsByteFree 10 bytes → IsByteFree 10 (byte ∷ bytes) = All-cons (λ it. it ≢ 10) in
    let b = line_after_prefix (60 ∷ email) (62 ∷ (32 ∷ date)) a.0 rest (cons 60 email (λ same. omega (arith, same)) one) a.2 in
    let c = line_after_prefix (62 ∷ (32 ∷ [])) date b.0 rest
    (cons 62 (32 ∷ []) (λ same. omega (arith, same)) (cons 32 [] (λ same. omega (arith, same)) (All-nil (λ it. it ≢ 10)))) b.2 in
    let tail : a.0 ≡ 60 ∷ (email ++ 62 ∷ (32 ∷ c.0)) = append_tail a.0 (60 ∷ email) b.0 (62 ∷ (32 ∷ c.0)) b.1 c.1 in
    let all : line ≡ named ++ 60 ∷ (email ++ 62 ∷ (32 ∷ c.0)) = append_tail line named a.0 (60 ∷ (email ++ 62 ∷ (32 ∷ c.0))) a.1 tail in
    record {
      name = spaced.0;
      email = email;
      date = c.0;
      joined = all ∙ ap (λ (it : List ℕ). it ++ 60 ∷ (email ++ 62 ∷ (32 ∷ c.0))) spaced.1;
      one_line = split.first;
      first = subst (IsByteFree 60) spaced.1 free.0;
      of_date = dates_all date c.0 rest c.2 (free_of_more line named a.0 email b.0 c.0 split.first a.1 b.1 c.1) dates;
    }
  where
    free_of_more : (line named a email b c : List ℕ) → IsByteFree 10 line → line ≡ named ++ a → a ≡ (60 ∷ email) ++ b → b ≡ (62 ∷ (32 ∷ [])) ++ c
        → IsByteFree 10 c
    free_of_more line named a email b c free one two three =
        let first = free_of_tail named a (subst (IsByteFree 10) one free) in
        let second = free_of_tail (60 ∷ email) b (subst (IsByteFree 10) two first) in
        free_of_tail (62 ∷ (32 ∷ [])) c (subst (IsByteFree 10) three second)

-- an actor without a fault has such a line
pub sound_line_of_actor : (actor sound rest : List ℕ) → ActorPart actor (Ok sound) → IsAfterLine actor rest
    → (line : List ℕ) × SplitsAt 10 actor line rest × SoundLine line
sound_line_of_actor actor sound rest (b1, named, (b2, mailed, (date, start, (zone, number, ends)))) after =
    let tail : b1 ≡ mailed.0 ++ 62 ∷ (32 ∷ date) = append_tail b1 mailed.0 (62 ∷ b2) (62 ∷ (32 ∷ date)) mailed.1.joined
    (ap (λ (it : List ℕ). 62 ∷ it) start.0) in
    let joined : actor ≡ named.0 ++ 60 ∷ (mailed.0 ++ 62 ∷ (32 ∷ date)) = append_tail actor named.0 (60 ∷ b1)
    (60 ∷ (mailed.0 ++ 62 ∷ (32 ∷ date))) named.1.joined (ap (λ (it : List ℕ). 60 ∷ it) tail) in
    let dates = dates_of_number date zone sound number.0 number.1 ends in
    go joined dates after
  where
    go : actor ≡ named.0 ++ 60 ∷ (mailed.0 ++ 62 ∷ (32 ∷ date)) → DatesLine date → IsAfterLine actor rest
        → (line : List ℕ) × SplitsAt 10 actor line rest × SoundLine line
    go joined dates (inl split) = (
      split.0,
      split.1,
      sound_line actor named.0 mailed.0 date split.0 rest joined (name_bytes_free named.0 named.1.within) (name_bytes_free mailed.0 mailed.1.within).1
          named.2 dates split.1,
    )
    go joined dates (inr none) =
        let first = free_of_tail named.0 (60 ∷ (mailed.0 ++ 62 ∷ (32 ∷ date))) (subst (IsByteFree 10) joined none.0) in
        let second = free_of_tail (60 ∷ mailed.0) (62 ∷ (32 ∷ date)) first in
        absurd (dates_newline date dates (free_of_tail (62 ∷ (32 ∷ [])) date second))

-- ---- the actor of a line

no_bracket_of_date : (bytes : List ℕ) → AllPass is_date_byte bytes → IsByteFree 62 bytes
no_bracket_of_date [] all = All-nil (λ it. it ≢ 62)
no_bracket_of_date (byte ∷ bytes) all =
    let P : ℕ → Type 0 = λ it. is_date_byte it ≡ true in
    All-cons (λ it. it ≢ 62) byte bytes (other byte (All-head P byte bytes all)) (no_bracket_of_date bytes (All-tail P byte bytes all))
  where
    other : (byte : ℕ) → is_date_byte byte ≡ true → byte ≢ 62
    other byte is same = let e : is_date_byte 62 ≡ true = subst (λ (it : ℕ). is_date_byte it ≡ true) same is in true≢false (sym e)

-- no bracket follows the email
pub last_of_sound : (line : List ℕ) (it : SoundLine line) → IsByteFree 62 (32 ∷ it.date)
last_of_sound line it = All-cons (λ byte. byte ≢ 62) 32 it.date (λ same. omega (arith, same)) (no_bracket_of_date it.date it.of_date)

-- the line begins with the actor of its name and email, with the longest time
pub actor_of_sound : (line : List ℕ) (it : SoundLine line) (time rest : List ℕ) → it.date ≡ time ++ rest → AllPass is_time_byte time → EndsTime rest
    → IsActorLine line it.name it.email time rest
actor_of_sound line it time rest joined timed ends =
    line_of_splits line it.name it.email time rest record {
      name_bytes = it.name ++ 32 ∷ [];
      following = it.email ++ 62 ∷ (32 ∷ it.date);
      after = 32 ∷ it.date;
      gap = 32 ∷ [];
      tail = it.date;
      one_line = it.one_line;
      first = record { joined = it.joined; first = it.first };
      last = record { joined = refl; last = last_of_sound line it };
      skipped = refl;
      spaced = inl refl;
      joined = joined;
      named = inl refl;
      timed = timed;
      ends = ends;
    }

-- so it begins with an actor
pub begins_of_sound : (line : List ℕ) → SoundLine line → BeginsWithActor line
begins_of_sound line it = let split = time_split it.date in
    (it.name, it.email, split.0, split.1, actor_of_sound line it split.0 split.1 split.2 split.3 split.4)
