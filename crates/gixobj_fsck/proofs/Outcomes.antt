-- Each part of an object has at most one outcome.
use Rattle.std.proofs.Common.{◌≡◌, ◌≢◌, ◌⊎◌, ◌<◌, ◌≤◌, ◌^◌, ℕ, List, [], ◌∷◌, ◌++◌, Ok, Err, inl, inr, refl, sym, ap, subst, ◌∙◌, arith, append_assoc}
use Rattle.std.specs.Prelude.{Result}
use Rattle.std.proofs.lemmas.List.{append_cancel_left}
use Rattle.std.proofs.lemmas.Bool.{false≢true}
use Rattle.std.specs.Str.Parse.{digits_value}
use Rattle.gixobj_hash.specs.ByteStrings.{IsByteFree}
use Rattle.gixobj_hash.specs.declared.hash.kind.Kind.{Kind}
use Rattle.gixobj_hash.proofs.Splits.{no_split_of_byte_free, splits_at_unique}
use Rattle.gixobj_parse.specs.HeaderReading.{BeginsWithIdField}
use Rattle.gixobj_parse.proofs.HeaderFields.{field_unique, first_bytes_eq}
use Rattle.gixobj_fsck.specs.Actors.{ActorPart, EmailPart, EndsInSpace, IsAfterLine, NamePart}
use Rattle.gixobj_fsck.specs.Dates.{BeginsWithByte, BeginsWithNoNumber, BeginsWithNumber, DateNumber, IsZeroPadded, DateStart, ZonePart, is_negative, number_of}
use Rattle.gixobj_fsck.specs.Dates.{without_sign}
use Rattle.gixobj_fsck.specs.Headers.{HeaderPart}
use Rattle.gixobj_fsck.specs.Lines.{ActorLine, BeginsWithName, IdLine}
use Rattle.gixobj_fsck.specs.Spans.{EndsSpan, IsSpan}
use Rattle.gixobj_fsck.specs.Steps.{IsDeterministic, Then}
use Rattle.gixobj_fsck.specs.declared.spans.Class.TheVariants as class
use Rattle.gixobj_fsck_messages.specs.declared.message.Message.{Message}
use Rattle.gixobj_fsck_messages.specs.declared.message.Message.TheVariants as message
use Rattle.gixobj_fsck.proofs.Parts.{then_deterministic}
use Rattle.gixobj_fsck.proofs.SpanParts.{span_unique}

-- ---- headers

pub header_deterministic : IsDeterministic HeaderPart
header_deterministic input (Ok x) (Ok y) one other = ap Ok (one.2 ∙ sym other.2)
header_deterministic input (Ok x) (Err b) one (inl other) = absurd (one.0 other.0)
header_deterministic input (Ok x) (Err b) one (inr other) = absurd (one.1 other.1)
header_deterministic input (Err a) (Ok y) (inl one) other = absurd (other.0 one.0)
header_deterministic input (Err a) (Ok y) (inr one) other = absurd (other.1 one.1)
header_deterministic input (Err a) (Err b) (inl one) (inl other) = ap Err (one.1 ∙ sym other.1)
header_deterministic input (Err a) (Err b) (inl one) (inr other) = absurd (other.0 one.0)
header_deterministic input (Err a) (Err b) (inr one) (inl other) = absurd (one.0 other.0)
header_deterministic input (Err a) (Err b) (inr one) (inr other) = ap Err (one.2 ∙ sym other.2)

-- ---- names and emails

-- the outcome of a name, by the span of the name and what follows it
data NameShape (name rest : List ℕ) : Result (List ℕ) Message → Type 0 where
  person : (after : List ℕ) → rest ≡ 60 ∷ after → EndsInSpace name → NameShape name rest (Ok after)
  nameless : (after : List ℕ) → rest ≡ 60 ∷ after → name ≡ [] → NameShape name rest (Err message.MissingNameBeforeEmail)
  closed : (after : List ℕ) → rest ≡ 62 ∷ after → NameShape name rest (Err message.BadName)
  lineless : (¬ BeginsWithByte 60 rest) → (¬ BeginsWithByte 62 rest) → NameShape name rest (Err message.MissingEmail)
  unspaced : (after : List ℕ) → rest ≡ 60 ∷ after → name ≢ [] → (¬ EndsInSpace name) → NameShape name rest (Err message.MissingSpaceBeforeEmail)

-- a name that is empty doesn't end in a space
empty_not_spaced : (name : List ℕ) → name ≡ [] → EndsInSpace name → ⊥
empty_not_spaced name none (before, joined) = go before (sym joined ∙ none)
  where
    go : (before : List ℕ) → before ++ 32 ∷ [] ≡ [] → ⊥
    go [] same = cc same
    go (byte ∷ before) same = cc same

-- a input doesn't begin with both `<` and `>`
less_ne_greater : (rest x y : List ℕ) → rest ≡ 60 ∷ x → rest ≡ 62 ∷ y → ⊥
less_ne_greater rest x y less greater = let e = first_bytes_eq 60 62 x y (sym less ∙ greater) in omega (arith, e)

shape_unique : (name rest : List ℕ) (one other : Result (List ℕ) Message) → NameShape name rest one → NameShape name rest other → one ≡ other
shape_unique name rest _ _ (person after1 is1 spaced1) (person after2 is2 spaced2) = let e : after1 ≡ after2 = cc (is1, is2) in ap Ok e
shape_unique name rest _ _ (person after1 is1 spaced1) (nameless after2 is2 empty2) = absurd (empty_not_spaced name empty2 spaced1)
shape_unique name rest _ _ (person after1 is1 spaced1) (closed after2 is2) = absurd (less_ne_greater rest after1 after2 is1 is2)
shape_unique name rest _ _ (person after1 is1 spaced1) (lineless open2 close2) = absurd (open2 (after1, is1))
shape_unique name rest _ _ (person after1 is1 spaced1) (unspaced after2 is2 filled2 unspaced_name2) = absurd (unspaced_name2 spaced1)
shape_unique name rest _ _ (nameless after1 is1 empty1) (person after2 is2 spaced2) = absurd (empty_not_spaced name empty1 spaced2)
shape_unique name rest _ _ (nameless after1 is1 empty1) (nameless after2 is2 empty2) = refl
shape_unique name rest _ _ (nameless after1 is1 empty1) (closed after2 is2) = absurd (less_ne_greater rest after1 after2 is1 is2)
shape_unique name rest _ _ (nameless after1 is1 empty1) (lineless open2 close2) = absurd (open2 (after1, is1))
shape_unique name rest _ _ (nameless after1 is1 empty1) (unspaced after2 is2 filled2 unspaced_name2) = absurd (filled2 empty1)
shape_unique name rest _ _ (closed after1 is1) (person after2 is2 spaced2) = absurd (less_ne_greater rest after2 after1 is2 is1)
shape_unique name rest _ _ (closed after1 is1) (nameless after2 is2 empty2) = absurd (less_ne_greater rest after2 after1 is2 is1)
shape_unique name rest _ _ (closed after1 is1) (closed after2 is2) = refl
shape_unique name rest _ _ (closed after1 is1) (lineless open2 close2) = absurd (close2 (after1, is1))
shape_unique name rest _ _ (closed after1 is1) (unspaced after2 is2 filled2 unspaced_name2) = absurd (less_ne_greater rest after2 after1 is2 is1)
shape_unique name rest _ _ (lineless open1 close1) (person after2 is2 spaced2) = absurd (open1 (after2, is2))
shape_unique name rest _ _ (lineless open1 close1) (nameless after2 is2 empty2) = absurd (open1 (after2, is2))
shape_unique name rest _ _ (lineless open1 close1) (closed after2 is2) = absurd (close1 (after2, is2))
shape_unique name rest _ _ (lineless open1 close1) (lineless open2 close2) = refl
shape_unique name rest _ _ (lineless open1 close1) (unspaced after2 is2 filled2 unspaced_name2) = absurd (open1 (after2, is2))
shape_unique name rest _ _ (unspaced after1 is1 filled1 unspaced_name1) (person after2 is2 spaced2) = absurd (unspaced_name1 spaced2)
shape_unique name rest _ _ (unspaced after1 is1 filled1 unspaced_name1) (nameless after2 is2 empty2) = absurd (filled1 empty2)
shape_unique name rest _ _ (unspaced after1 is1 filled1 unspaced_name1) (closed after2 is2) = absurd (less_ne_greater rest after1 after2 is1 is2)
shape_unique name rest _ _ (unspaced after1 is1 filled1 unspaced_name1) (lineless open2 close2) = absurd (open2 (after1, is1))
shape_unique name rest _ _ (unspaced after1 is1 filled1 unspaced_name1) (unspaced after2 is2 filled2 unspaced_name2) = refl

-- a input that begins with `<` has an empty name
empty_name : (input after : List ℕ) → input ≡ 60 ∷ after → IsSpan class.Name input [] input
empty_name input after is = record { joined = refl; within = refl; ends = subst (EndsSpan class.Name) (sym is) (λ holds. absurd (false≢true holds)) }

name_shape : (input : List ℕ) (outcome : Result (List ℕ) Message) → NamePart input outcome
    → (name : List ℕ) × (rest : List ℕ) × IsSpan class.Name input name rest × NameShape name rest outcome
name_shape input (Ok after) it = (it.0, 60 ∷ after, it.1, person after refl it.2)
name_shape input (Err fault) (inl it) = (
  [],
  input,
  empty_name input it.0.0 it.0.1,
  subst (λ (m : Message). NameShape [] input (Err m)) (sym it.1) (nameless it.0.0 it.0.1 refl),
)
name_shape input (Err fault) (inr (inl it)) = (
  it.0,
  62 ∷ it.1,
  it.2,
  subst (λ (m : Message). NameShape it.0 (62 ∷ it.1) (Err m)) (sym it.3) (closed it.1 refl),
)
name_shape input (Err fault) (inr (inr (inl it))) = (
  it.0,
  it.1,
  it.2,
  subst (λ (m : Message). NameShape it.0 it.1 (Err m)) (sym it.5) (lineless it.3 it.4),
)
name_shape input (Err fault) (inr (inr (inr it))) = (
  it.0,
  60 ∷ it.1,
  it.2,
  subst (λ (m : Message). NameShape it.0 (60 ∷ it.1) (Err m)) (sym it.5) (unspaced it.1 refl it.3 it.4),
)

pub name_deterministic : IsDeterministic NamePart
name_deterministic input one other first second =
    let a = name_shape input one first in
    let b = name_shape input other second in
    let same = span_unique class.Name input a.0 a.1 b.0 b.1 a.2 b.2 in
    shape_unique b.0 b.1 one other
    (subst (λ (it : List ℕ). NameShape it b.1 one) same.0 (subst (λ (it : List ℕ). NameShape a.0 it one) same.1 a.3)) b.3

-- two spans of a name in one input end alike
ends_of_names : (input a x b y : List ℕ) → IsSpan class.Name input a x → IsSpan class.Name input b y → x ≡ y
ends_of_names input a x b y one other = (span_unique class.Name input a x b y one other).1

pub email_deterministic : IsDeterministic EmailPart
email_deterministic input (Ok x) (Ok y) one other =
    let e = ends_of_names input one.0 (62 ∷ x) other.0 (62 ∷ y) one.1 other.1 in
    let tails : x ≡ y = cc e in ap Ok tails
email_deterministic input (Ok x) (Err b) one other = absurd (other.3 (x, ends_of_names input other.0 other.1 one.0 (62 ∷ x) other.2 one.1))
email_deterministic input (Err a) (Ok y) one other = absurd (one.3 (y, ends_of_names input one.0 one.1 other.0 (62 ∷ y) one.2 other.1))
email_deterministic input (Err a) (Err b) one other = ap Err (one.4 ∙ sym other.4)

-- ---- dates

pub date_start_deterministic : IsDeterministic DateStart
date_start_deterministic input (Ok x) (Ok y) one other = let tails : x ≡ y = cc (one.0, other.0) in ap Ok tails
date_start_deterministic input (Ok x) (Err b) one (inl other) = absurd (other.0 (x, one.0))
date_start_deterministic input (Ok x) (Err b) one (inr other) =
    let tails : other.0 ≡ x = cc (one.0, other.1) in absurd (one.1 (subst IsZeroPadded tails other.2))
date_start_deterministic input (Err a) (Ok y) (inl one) other = absurd (one.0 (y, other.0))
date_start_deterministic input (Err a) (Ok y) (inr one) other =
    let tails : one.0 ≡ y = cc (one.1, other.0) in absurd (other.1 (subst IsZeroPadded tails one.2))
date_start_deterministic input (Err a) (Err b) (inl one) (inl other) = ap Err (one.1 ∙ sym other.1)
date_start_deterministic input (Err a) (Err b) (inl one) (inr other) = absurd (one.0 (other.0, other.1))
date_start_deterministic input (Err a) (Err b) (inr one) (inl other) = absurd (other.0 (one.0, one.1))
date_start_deterministic input (Err a) (Err b) (inr one) (inr other) = ap Err (one.3 ∙ sym other.3)

-- a date begins with one number
number_unique : (date : List ℕ) (a b : ℕ) (x y : List ℕ) → BeginsWithNumber date a x → BeginsWithNumber date b y → (a ≡ b) × (x ≡ y)
number_unique date a b x y one other =
    let start = (span_unique class.White date one.white one.signed other.white other.signed one.skipped other.skipped).1 in
    let counted = subst (λ (it : List ℕ). IsSpan class.Digit (without_sign it) one.digits x) start one.counted in
    let same = span_unique class.Digit (without_sign other.signed) one.digits x other.digits y counted other.counted in
    let value = ap (λ (it : List ℕ). number_of (is_negative it) (digits_value 10 one.digits)) start in
    let digits = ap (λ (it : List ℕ). number_of (is_negative other.signed) (digits_value 10 it)) same.0 in
    (one.value ∙ value ∙ digits ∙ sym other.value, same.1)

-- the outcome of a date with a number
data NumberShape (number : ℕ) (rest : List ℕ) : Result (List ℕ) Message → Type 0 where
  bounded : (zone : List ℕ) → number < 2 ^ 63 → rest ≡ 32 ∷ zone → NumberShape number rest (Ok zone)
  large : 2 ^ 63 ≤ number → NumberShape number rest (Err message.BadDateOverflow)
  endless : number < 2 ^ 63 → (¬ BeginsWithByte 32 rest) → NumberShape number rest (Err message.BadDate)

number_shape_unique : (number : ℕ) (rest : List ℕ) (one other : Result (List ℕ) Message) → NumberShape number rest one → NumberShape number rest other
    → one ≡ other
number_shape_unique number rest _ _ (bounded x below is) (bounded y below' is') = let tails : x ≡ y = cc (is, is') in ap Ok tails
number_shape_unique number rest _ _ (bounded x below is) (large above) = absurd (omega (arith, below, above))
number_shape_unique number rest _ _ (bounded x below is) (endless below' other) = absurd (other (x, is))
number_shape_unique number rest _ _ (large above) (bounded y below is) = absurd (omega (arith, below, above))
number_shape_unique number rest _ _ (large above) (large above') = refl
number_shape_unique number rest _ _ (large above) (endless below other) = absurd (omega (arith, below, above))
number_shape_unique number rest _ _ (endless below other) (bounded y below' is) = absurd (other (y, is))
number_shape_unique number rest _ _ (endless below other) (large above) = absurd (omega (arith, below, above))
number_shape_unique number rest _ _ (endless below other) (endless below' other') = refl

number_shape : (date : List ℕ) (outcome : Result (List ℕ) Message) → DateNumber date outcome
    → ((number : ℕ) × (rest : List ℕ) × BeginsWithNumber date number rest × NumberShape number rest outcome)
    ⊎ (BeginsWithNoNumber date × (outcome ≡ Err message.BadDate))
number_shape date (Ok zone) it = inl (it.0, 32 ∷ zone, it.1, bounded zone it.2 refl)
number_shape date (Err fault) (inl it) = inl (it.0, it.1, it.2, subst (λ (m : Message). NumberShape it.0 it.1 (Err m)) (sym it.4) (large it.3))
number_shape date (Err fault) (inr (inl it)) = inr (it.0, ap Err it.1)
number_shape date (Err fault) (inr (inr it)) = inl (it.0, it.1, it.2, subst (λ (m : Message). NumberShape it.0 it.1 (Err m)) (sym it.5) (endless it.3 it.4))

pub number_deterministic : IsDeterministic DateNumber
number_deterministic date one other first second = go (number_shape date one first) (number_shape date other second)
  where
    go : ((number : ℕ) × (rest : List ℕ) × BeginsWithNumber date number rest × NumberShape number rest one)
        ⊎ (BeginsWithNoNumber date × (one ≡ Err message.BadDate))
        → ((number : ℕ) × (rest : List ℕ) × BeginsWithNumber date number rest × NumberShape number rest other)
        ⊎ (BeginsWithNoNumber date × (other ≡ Err message.BadDate)) → one ≡ other
    go (inl a) (inl b) =
        let same = number_unique date a.0 b.0 a.1 b.1 a.2 b.2 in
        number_shape_unique b.0 b.1 one other
        (subst (λ (it : ℕ). NumberShape it b.1 one) same.0 (subst (λ (it : List ℕ). NumberShape a.0 it one) same.1 a.3)) b.3
    go (inl a) (inr b) = absurd (b.0 a.0 a.1 a.2)
    go (inr a) (inl b) = absurd (a.0 b.0 b.1 b.2)
    go (inr a) (inr b) = a.1 ∙ sym b.1

pub zone_deterministic : IsDeterministic ZonePart
zone_deterministic input (Ok x) (Ok y) one other = let tails : x ≡ y = cc (one.joined, other.joined) in ap Ok tails
zone_deterministic input (Ok x) (Err b) one other = absurd (other.0 x one)
zone_deterministic input (Err a) (Ok y) one other = absurd (one.0 y other)
zone_deterministic input (Err a) (Err b) one other = ap Err (one.1 ∙ sym other.1)

-- an actor has one outcome
pub actor_deterministic : IsDeterministic ActorPart
actor_deterministic = then_deterministic NamePart (Then EmailPart (Then DateStart (Then DateNumber ZonePart))) name_deterministic
    (then_deterministic EmailPart (Then DateStart (Then DateNumber ZonePart)) email_deterministic
    (then_deterministic DateStart (Then DateNumber ZonePart) date_start_deterministic
    (then_deterministic DateNumber ZonePart number_deterministic zone_deterministic)))

-- ---- lines

pub after_line_unique : (input x y : List ℕ) → IsAfterLine input x → IsAfterLine input y → x ≡ y
after_line_unique input x y (inl one) (inl other) = (splits_at_unique 10 input one.0 x other.0 y one.1 other.1).1
after_line_unique input x y (inl one) (inr other) = absurd (no_split_of_byte_free 10 one.0 x (subst (IsByteFree 10) one.1.joined other.0))
after_line_unique input x y (inr one) (inl other) = absurd (no_split_of_byte_free 10 other.0 y (subst (IsByteFree 10) other.1.joined one.0))
after_line_unique input x y (inr one) (inr other) = one.1 ∙ sym other.1

-- what follows a name and a space
pub after_name_unique : (name input x y : List ℕ) → input ≡ name ++ 32 ∷ x → input ≡ name ++ 32 ∷ y → x ≡ y
after_name_unique name input x y one other =
    let e : 32 ∷ x ≡ 32 ∷ y = append_cancel_left name (32 ∷ x) (32 ∷ y) (sym one ∙ other) in cc e

-- the line of an id begins with its name
pub name_of_id_field : (name : List ℕ) (kind : Kind) (input hex rest : List ℕ) → BeginsWithIdField name kind input hex rest → BeginsWithName name input
name_of_id_field name kind input hex rest field = (hex ++ 10 ∷ rest, field.0.joined ∙ simp append_assoc)

pub id_line_deterministic : (name : List ℕ) (kind : Kind) (missing bad : Message) → IsDeterministic (IdLine name kind missing bad)
id_line_deterministic name kind missing bad input (Ok x) (Ok y) one other = ap Ok (field_unique name input one.0 x other.0 y one.1.0 other.1.0).1
id_line_deterministic name kind missing bad input (Ok x) (Err b) one (inl other) =
    let named = name_of_id_field name kind input one.0 x one.1 in absurd (other.0 named.0 named.1)
id_line_deterministic name kind missing bad input (Ok x) (Err b) one (inr other) = absurd (other.1 one.0 x one.1)
id_line_deterministic name kind missing bad input (Err a) (Ok y) (inl one) other =
    let named = name_of_id_field name kind input other.0 y other.1 in absurd (one.0 named.0 named.1)
id_line_deterministic name kind missing bad input (Err a) (Ok y) (inr one) other = absurd (one.1 other.0 y other.1)
id_line_deterministic name kind missing bad input (Err a) (Err b) (inl one) (inl other) = ap Err (one.1 ∙ sym other.1)
id_line_deterministic name kind missing bad input (Err a) (Err b) (inl one) (inr other) = absurd (one.0 other.0.0 other.0.1)
id_line_deterministic name kind missing bad input (Err a) (Err b) (inr one) (inl other) = absurd (other.0 one.0.0 one.0.1)
id_line_deterministic name kind missing bad input (Err a) (Err b) (inr one) (inr other) = ap Err (one.2 ∙ sym other.2)

pub actor_line_deterministic : (name : List ℕ) (missing : Message) → IsDeterministic (ActorLine name missing)
actor_line_deterministic name missing input (Ok x) (Ok y) one other =
    let same = after_name_unique name input one.0 other.0 one.2 other.2 in
    ap Ok (after_line_unique other.0 x y (subst (λ (it : List ℕ). IsAfterLine it x) same one.4) other.4)
actor_line_deterministic name missing input (Ok x) (Err b) one (inl other) = absurd (other.0 one.0 one.2)
actor_line_deterministic name missing input (Ok x) (Err b) one (inr other) =
    let same = after_name_unique name input one.0 other.0 one.2 other.1 in
    let e = actor_deterministic other.0 (Ok one.1) (Err b) (subst (λ (it : List ℕ). ActorPart it (Ok one.1)) same one.3) other.2 in cc e
actor_line_deterministic name missing input (Err a) (Ok y) (inl one) other = absurd (one.0 other.0 other.2)
actor_line_deterministic name missing input (Err a) (Ok y) (inr one) other =
    let same = after_name_unique name input one.0 other.0 one.1 other.2 in
    let e = actor_deterministic other.0 (Err a) (Ok other.1) (subst (λ (it : List ℕ). ActorPart it (Err a)) same one.2) other.3 in cc e
actor_line_deterministic name missing input (Err a) (Err b) (inl one) (inl other) = ap Err (one.1 ∙ sym other.1)
actor_line_deterministic name missing input (Err a) (Err b) (inl one) (inr other) = absurd (one.0 other.0 other.1)
actor_line_deterministic name missing input (Err a) (Err b) (inr one) (inl other) = absurd (other.0 one.0 one.1)
actor_line_deterministic name missing input (Err a) (Err b) (inr one) (inr other) =
    let same = after_name_unique name input one.0 other.0 one.1 other.1 in
    actor_deterministic other.0 (Err a) (Err b) (subst (λ (it : List ℕ). ActorPart it (Err a)) same one.2) other.2
