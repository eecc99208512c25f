-- The lines of a tag have at most one outcome.
use Rattle.std.proofs.Common.{◌≡◌, ◌⊎◌, ℕ, List, ◌∷◌, ◌++◌, Ok, Err, inl, inr, sym, ap, subst, ◌∙◌, append_assoc}
use Rattle.std.specs.Prelude.{codes, ◌↔◌}
use Rattle.gixobj_hash.specs.HeaderFormat.{BeginsWithField}
use Rattle.gixobj_hash.specs.Kind.{kind_name}
use Rattle.gixobj_hash.specs.declared.hash.kind.Kind.{Kind}
use Rattle.gixobj_parse.proofs.HeaderFields.{field_unique}
use Rattle.gixobj_fsck.specs.Actors.{IsAfterLine}
use Rattle.gixobj_fsck.specs.Headers.{HeaderPart}
use Rattle.gixobj_fsck.specs.Lines.{BeginsWithName, IdLine}
use Rattle.gixobj_fsck.specs.Steps.{IsDeterministic, Then}
use Rattle.gixobj_fsck_messages.specs.declared.message.Message.{Message}
use Rattle.gixobj_fsck_messages.specs.declared.message.Message.TheVariants as message
use Rattle.gixobj_fsck_tags.specs.Tags.{IsAfterTagger, IsBadName, IsTagMessage, NameLine, NamePart, TaggerLine, TargetPart, TypeLine}
use Rattle.gixobj_fsck.proofs.Outcomes.{after_line_unique, after_name_unique, header_deterministic, id_line_deterministic}
use Rattle.gixobj_fsck.proofs.Parts.{then_deterministic}

-- a field begins with its name
name_of_field : (name input value rest : List ℕ) → BeginsWithField name input value rest → BeginsWithName name input
name_of_field name input value rest field = (value ++ 10 ∷ rest, field.joined ∙ simp append_assoc)

type_deterministic : IsDeterministic TypeLine
type_deterministic input (Ok x) (Ok y) one other = ap Ok (field_unique (codes "type") input (kind_name one.0) x (kind_name other.0) y one.1 other.1).1
type_deterministic input (Ok x) (Err b) one (inl other) =
    let named = name_of_field (codes "type") input (kind_name one.0) x one.1 in absurd (other.0 named.0 named.1)
type_deterministic input (Ok x) (Err b) one (inr (inl other)) = absurd (other.1 (kind_name one.0) x one.1)
type_deterministic input (Ok x) (Err b) one (inr (inr other)) =
    absurd (other.3 one.0 (field_unique (codes "type") input other.0 other.1 (kind_name one.0) x other.2 one.1).0)
type_deterministic input (Err a) (Ok y) (inl one) other =
    let named = name_of_field (codes "type") input (kind_name other.0) y other.1 in absurd (one.0 named.0 named.1)
type_deterministic input (Err a) (Ok y) (inr (inl one)) other = absurd (one.1 (kind_name other.0) y other.1)
type_deterministic input (Err a) (Ok y) (inr (inr one)) other =
    absurd (one.3 other.0 (field_unique (codes "type") input one.0 one.1 (kind_name other.0) y one.2 other.1).0)
type_deterministic input (Err a) (Err b) (inl one) (inl other) = ap Err (one.1 ∙ sym other.1)
type_deterministic input (Err a) (Err b) (inl one) (inr (inl other)) = absurd (one.0 other.0.0 other.0.1)
type_deterministic input (Err a) (Err b) (inl one) (inr (inr other)) =
    let named = name_of_field (codes "type") input other.0 other.1 other.2 in absurd (one.0 named.0 named.1)
type_deterministic input (Err a) (Err b) (inr (inl one)) (inl other) = absurd (other.0 one.0.0 one.0.1)
type_deterministic input (Err a) (Err b) (inr (inl one)) (inr (inl other)) = ap Err (one.2 ∙ sym other.2)
type_deterministic input (Err a) (Err b) (inr (inl one)) (inr (inr other)) = absurd (one.1 other.0 other.1 other.2)
type_deterministic input (Err a) (Err b) (inr (inr one)) (inl other) =
    let named = name_of_field (codes "type") input one.0 one.1 one.2 in absurd (other.0 named.0 named.1)
type_deterministic input (Err a) (Err b) (inr (inr one)) (inr (inl other)) = absurd (other.1 one.0 one.1 one.2)
type_deterministic input (Err a) (Err b) (inr (inr one)) (inr (inr other)) = ap Err (one.4 ∙ sym other.4)

name_line_deterministic : IsDeterministic NameLine
name_line_deterministic input (Ok x) (Ok y) one other = ap Ok (field_unique (codes "tag") input one.0 x other.0 y one.1 other.1).1
name_line_deterministic input (Ok x) (Err b) one (inl other) =
    let named = name_of_field (codes "tag") input one.0 x one.1 in absurd (other.0 named.0 named.1)
name_line_deterministic input (Ok x) (Err b) one (inr other) = absurd (other.1 one.0 x one.1)
name_line_deterministic input (Err a) (Ok y) (inl one) other =
    let named = name_of_field (codes "tag") input other.0 y other.1 in absurd (one.0 named.0 named.1)
name_line_deterministic input (Err a) (Ok y) (inr one) other = absurd (one.1 other.0 y other.1)
name_line_deterministic input (Err a) (Err b) (inl one) (inl other) = ap Err (one.1 ∙ sym other.1)
name_line_deterministic input (Err a) (Err b) (inl one) (inr other) = absurd (one.0 other.0.0 other.0.1)
name_line_deterministic input (Err a) (Err b) (inr one) (inl other) = absurd (other.0 one.0.0 one.0.1)
name_line_deterministic input (Err a) (Err b) (inr one) (inr other) = ap Err (one.2 ∙ sym other.2)

target_deterministic : (kind : Kind) → IsDeterministic (TargetPart kind)
target_deterministic kind =
    then_deterministic HeaderPart (Then (IdLine (codes "object") kind message.MissingObject message.BadObjectSha1) TypeLine) header_deterministic
    (then_deterministic (IdLine (codes "object") kind message.MissingObject message.BadObjectSha1) TypeLine
    (id_line_deterministic (codes "object") kind message.MissingObject message.BadObjectSha1) type_deterministic)

pub name_part_deterministic : (kind : Kind) → IsDeterministic (NamePart kind)
name_part_deterministic kind = then_deterministic (TargetPart kind) NameLine (target_deterministic kind) name_line_deterministic

-- the first fault up to the name is the only message
pub only_fault : (kind : Kind) (input : List ℕ) (fault : Message) → NamePart kind input (Err fault) → (it : Message) → IsTagMessage kind input it
    → it ≡ fault
only_fault kind input fault here it (inl other) = let e = name_part_deterministic kind input (Err it) (Err fault) other here in cc e
only_fault kind input fault here it (inr (inl other)) =
    let e = name_part_deterministic kind input (Ok other.2) (Err fault) (other.0, other.3, (other.1, other.4)) here in cc e
only_fault kind input fault here it (inr (inr other)) = let e = name_part_deterministic kind input (Ok other.0) (Err fault) other.1 here in cc e

-- without a fault up to the name, the messages are those of the name and of the tagger
pub messages_after_name : (kind : Kind) (input start name rest : List ℕ) (it : Message) → TargetPart kind input (Ok start)
    → BeginsWithField (codes "tag") start name rest → IsTagMessage kind input it ↔ (IsBadName name it ⊎ TaggerLine rest (Err it))
messages_after_name kind input start name rest it target field = (go, back)
  where
    go : IsTagMessage kind input it → IsBadName name it ⊎ TaggerLine rest (Err it)
    go (inl fault) = let e = name_part_deterministic kind input (Err it) (Ok rest) fault (start, target, (name, field)) in cc e
    go (inr (inl other)) =
        let starts : other.0 ≡ start = let e = target_deterministic kind input (Ok other.0) (Ok start) other.3 target in cc e in
        let same = field_unique (codes "tag") start other.1 other.2 name rest
        (subst (λ (at : List ℕ). BeginsWithField (codes "tag") at other.1 other.2) starts other.4) field in
        inl (subst (λ (at : List ℕ). IsBadName at it) same.0 other.5)
    go (inr (inr other)) =
        let rests : other.0 ≡ rest = let e = name_part_deterministic kind input (Ok other.0) (Ok rest) other.1 (start, target, (name, field)) in cc e in
        inr (subst (λ (at : List ℕ). TaggerLine at (Err it)) rests other.2)

    back : IsBadName name it ⊎ TaggerLine rest (Err it) → IsTagMessage kind input it
    back (inl bad) = inr (inl (start, name, rest, target, field, bad))
    back (inr bad) = inr (inr (rest, (start, target, (name, field)), bad))

pub after_tagger_unique : (input x y : List ℕ) → IsAfterTagger input x → IsAfterTagger input y → x ≡ y
after_tagger_unique input x y (inl one) (inl other) = one.1 ∙ sym other.1
after_tagger_unique input x y (inl one) (inr other) = absurd (one.0 other.0 other.1)
after_tagger_unique input x y (inr one) (inl other) = absurd (other.0 one.0 one.1)
after_tagger_unique input x y (inr one) (inr other) =
    let same = after_name_unique (codes "tagger") input one.0 other.0 one.1 other.1 in
    after_line_unique other.0 x y (subst (λ (at : List ℕ). IsAfterLine at x) same one.2) other.2
