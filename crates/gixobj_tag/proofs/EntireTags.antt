-- Lemmas that lines and body of a tag join to its encoding, which decodes uniquely, for `read_tag`, tokens, mergetags
-- and laws.
use Rattle.std.proofs.Common.{◌≡◌, ℕ, List, ◌∷◌, ◌++◌, IsTrue, Option, Some, None, append_assoc, ap, arith, refl, subst, sym, ◌∙◌}
use Rattle.std.proofs.lemmas.Bool.{true≢false}
use Rattle.std.specs.Prelude.{codes}
use Rattle.gixobj_parse.proofs.HeaderFields.{hex_digits_newline_free, first_bytes_eq, field_unique}
use Rattle.gixobj_parse.specs.HeaderReading.{BeginsWithIdField, BeginsWithNoIdField, BeginsWithNoKindField}
use Rattle.gixobj_hash.specs.HeaderFormat.{BeginsWithField, BeginsWithOtherName}
use Rattle.gixobj_hash.specs.FieldFormat.{encode_field}
use Rattle.gixobj_hash.proofs.Headers.{kind_keyword_injective}
use Rattle.gixobj_hash.specs.Kind.{kind_name}
use Rattle.gixobj_hash.specs.declared.hash.kind.Kind as hash
use Rattle.gixobj_hash.specs.declared.kind.Kind.{Kind}
use Rattle.gixobj_hash.specs.declared.kind.Kind.TheVariants as object
use Rattle.gixobj_tag.proofs.Bodies.{body_unique}
use Rattle.gixobj_grammar.proofs.TagLines.{tagger_unique}
use Rattle.gixobj_grammar.specs.TagLines.{BeginsWithTagName, BeginsWithNoTagName, BeginsWithMalformedTagger, BeginsWithTagger}
use Rattle.gixobj_tag.specs.TagFormat.{IsMalformedTag, DecodesToTag, IsTaggerLine, TagLines, encode_tagger}
use Rattle.gixobj_grammar.specs.TagBodies.{IsMalformedBody, IsBody, are_newlines, after_a_newline, newlines_alone}
use Rattle.gixobj_hash.proofs.Splits.{byte_free_of_all_pass}
use Rattle.gixobj_hash.specs.ByteStrings.{IsByteFree}

-- the lines of a tag, decoded in turn, and its body
pub record Reads (kind : hash.Kind) (bytes : List ℕ) (tag : TagLines) : Type 0 where
  pub after_target : List ℕ
  pub after_kind : List ℕ
  pub after_name : List ℕ
  pub body : List ℕ
  pub target : BeginsWithIdField (codes "object") kind bytes tag.target after_target
  pub target_kind : BeginsWithField (codes "type") after_target (kind_name tag.target_kind) after_kind
  pub name : BeginsWithTagName after_kind tag.name after_name
  pub tagger : BeginsWithTagger after_name tag.tagger body
  pub parted : IsBody body tag.message tag.signature

-- ---- joined

tag_parts_append_assoc : (bytes target a kind b name c tagger body : List ℕ) → bytes ≡ target ++ a → a ≡ kind ++ b → b ≡ name ++ c → c ≡ tagger ++ body
    → bytes ≡ (((target ++ kind) ++ name) ++ tagger) ++ body
tag_parts_append_assoc bytes target a kind b name c tagger body one two three four = rw (one, two, three, four) (sym (simp append_assoc))

begins_with_tagger_eq_append : (tagger : Option (List ℕ)) (input rest : List ℕ) → BeginsWithTagger input tagger rest → input ≡ encode_tagger tagger ++ rest
begins_with_tagger_eq_append None input rest (lacks, same) = sym same
begins_with_tagger_eq_append (Some line) input rest (field, actor) = field.joined

is_tagger_line_of_begins_with_tagger : (tagger : Option (List ℕ)) (input rest : List ℕ) → BeginsWithTagger input tagger rest → IsTaggerLine tagger
is_tagger_line_of_begins_with_tagger None input rest has = tt
is_tagger_line_of_begins_with_tagger (Some line) input rest (field, actor) = actor

pub decodes_tag_of_parts : (kind : hash.Kind) (bytes : List ℕ) (tag : TagLines) → Reads kind bytes tag → DecodesToTag kind bytes tag
decodes_tag_of_parts kind bytes tag reads =
    record {
      body = reads.body;
      joined = tag_parts_append_assoc bytes (encode_field (codes "object") tag.target) reads.after_target
          (encode_field (codes "type") (kind_name tag.target_kind))
          reads.after_kind (encode_field (codes "tag") tag.name) reads.after_name
          (encode_tagger tag.tagger) reads.body reads.target.0.joined reads.target_kind.joined reads.name.0.joined
          (begins_with_tagger_eq_append tag.tagger reads.after_name reads.body reads.tagger);
      target = reads.target.1;
      name = (reads.name.1, reads.name.0.one_line);
      tagger = is_tagger_line_of_begins_with_tagger tag.tagger reads.after_name reads.body reads.tagger;
      parted = reads.parted;
    }

-- ---- split

-- no body begins as a tagger line does
body_begins_with_no_tagger : (body message : List ℕ) (signature : Option (List ℕ)) → IsBody body message signature → BeginsWithOtherName (codes "tagger") body
body_begins_with_no_tagger body message signature (newlines_alone _ are) rest same =
    let all : IsTrue (are_newlines (codes "tagger" ++ 32 ∷ rest)) = subst (λ (it : List ℕ). IsTrue (are_newlines it)) same are in
    true≢false (sym all)
body_begins_with_no_tagger body message signature (after_a_newline _ bytes _ _ joined more parted) rest same =
    let first : 116 ≡ 10 = first_bytes_eq 116 10 _ _ (sym same ∙ joined) in absurd (omega (arith, first))

kind_name_newline_free : (kind : Kind) → IsByteFree 10 (kind_name kind)
kind_name_newline_free object.Tree = byte_free_of_all_pass 10 (kind_name object.Tree) refl
kind_name_newline_free object.Blob = byte_free_of_all_pass 10 (kind_name object.Blob) refl
kind_name_newline_free object.Commit = byte_free_of_all_pass 10 (kind_name object.Commit) refl
kind_name_newline_free object.Tag = byte_free_of_all_pass 10 (kind_name object.Tag) refl

begins_with_field_of_encode_field : (name input value rest : List ℕ) → input ≡ encode_field name value ++ rest → IsByteFree 10 value
    → BeginsWithField name input value rest
begins_with_field_of_encode_field name input value rest joined free = record { joined = joined; one_line = free }

begins_with_tagger_of_encode_tagger : (tagger : Option (List ℕ)) (body message : List ℕ) (signature : Option (List ℕ)) → IsTaggerLine tagger
    → IsBody body message signature
    → BeginsWithTagger (encode_tagger tagger ++ body) tagger body
begins_with_tagger_of_encode_tagger None body message signature begins parted = (body_begins_with_no_tagger body message signature parted, refl)
begins_with_tagger_of_encode_tagger (Some line) body message signature (name, email, time, rest, actor) parted = (
  begins_with_field_of_encode_field (codes "tagger") (encode_field (codes "tagger") line ++ body) line body refl actor.one_line,
  (name, email, time, rest, actor),
)

pub parts_of_decoded_tag : (kind : hash.Kind) (bytes : List ℕ) (tag : TagLines) → DecodesToTag kind bytes tag → Reads kind bytes tag
parts_of_decoded_tag kind bytes tag is =
    let target = encode_field (codes "object") tag.target in
    let kind_line = encode_field (codes "type") (kind_name tag.target_kind) in
    let name = encode_field (codes "tag") tag.name in
    let tagger = encode_tagger tag.tagger in
    let flat : (((target ++ kind_line) ++ name) ++ tagger) ++ is.body ≡ target ++ (kind_line ++ (name ++ (tagger ++ is.body))) = simp append_assoc in
    record {
      after_target = kind_line ++ (name ++ (tagger ++ is.body));
      after_kind = name ++ (tagger ++ is.body);
      after_name = tagger ++ is.body;
      body = is.body;
      target = (
        begins_with_field_of_encode_field (codes "object") bytes tag.target (kind_line ++ (name ++ (tagger ++ is.body))) (is.joined ∙ flat)
            (hex_digits_newline_free tag.target is.target.1),
        is.target,
      );
      target_kind = begins_with_field_of_encode_field (codes "type") (kind_line ++ (name ++ (tagger ++ is.body))) (kind_name tag.target_kind)
          (name ++ (tagger ++ is.body)) refl
          (kind_name_newline_free tag.target_kind);
      name = (begins_with_field_of_encode_field (codes "tag") (name ++ (tagger ++ is.body)) tag.name (tagger ++ is.body) refl is.name.1, is.name.0);
      tagger = begins_with_tagger_of_encode_tagger tag.tagger is.body tag.message tag.signature is.tagger is.parted;
      parted = is.parted;
    }

-- ---- malformed tags

pub malformed_without_target : (kind : hash.Kind) (bytes : List ℕ) → BeginsWithNoIdField (codes "object") kind bytes → IsMalformedTag kind bytes
malformed_without_target kind bytes none tag is = let reads = parts_of_decoded_tag kind bytes tag is in none tag.target reads.after_target reads.target

-- after the decoded lines, the tag continues as the bytes do
after_target_unique : (kind : hash.Kind) (bytes hex after : List ℕ) (tag : TagLines) → BeginsWithIdField (codes "object") kind bytes hex after
    → (reads : Reads kind bytes tag)
    → reads.after_target ≡ after
after_target_unique kind bytes hex after tag has reads = (field_unique (codes "object") bytes tag.target reads.after_target hex after reads.target.0 has.0).1

pub malformed_without_kind : (kind : hash.Kind) (bytes hex after : List ℕ) → BeginsWithIdField (codes "object") kind bytes hex after
    → BeginsWithNoKindField (codes "type") after
    → IsMalformedTag kind bytes
malformed_without_kind kind bytes hex after has none tag is =
    let reads = parts_of_decoded_tag kind bytes tag is in
    let here = after_target_unique kind bytes hex after tag has reads in
    none tag.target_kind reads.after_kind
    (subst (λ (it : List ℕ). BeginsWithField (codes "type") it (kind_name tag.target_kind) reads.after_kind) here reads.target_kind)

kind_and_after_kind_unique : (kind : hash.Kind) (bytes hex after token following : List ℕ) (tag : TagLines)
    → BeginsWithIdField (codes "object") kind bytes hex after
    → BeginsWithField (codes "type") after token following → (reads : Reads kind bytes tag)
    → (kind_name tag.target_kind ≡ token) × (reads.after_kind ≡ following)
kind_and_after_kind_unique kind bytes hex after token following tag has typed reads =
    let here = after_target_unique kind bytes hex after tag has reads in
    let there = subst (λ (it : List ℕ). BeginsWithField (codes "type") it (kind_name tag.target_kind) reads.after_kind) here reads.target_kind in
    field_unique (codes "type") after (kind_name tag.target_kind) reads.after_kind token following there typed

pub malformed_without_name : (kind : hash.Kind) (bytes hex after token following : List ℕ) → BeginsWithIdField (codes "object") kind bytes hex after
    → BeginsWithField (codes "type") after token following → BeginsWithNoTagName following → IsMalformedTag kind bytes
malformed_without_name kind bytes hex after token following has typed none tag is =
    let reads = parts_of_decoded_tag kind bytes tag is in
    let here = (kind_and_after_kind_unique kind bytes hex after token following tag has typed reads).1 in
    none tag.name reads.after_name (subst (λ (it : List ℕ). BeginsWithTagName it tag.name reads.after_name) here reads.name)

pub tag_name_unique : (kind : hash.Kind) (bytes hex after token following name rest : List ℕ) (tag : TagLines)
    → BeginsWithIdField (codes "object") kind bytes hex after
    → BeginsWithField (codes "type") after token following → BeginsWithTagName following name rest
    → (reads : Reads kind bytes tag) → (tag.name ≡ name) × (reads.after_name ≡ rest)
tag_name_unique kind bytes hex after token following name rest tag has typed named reads =
    let here = (kind_and_after_kind_unique kind bytes hex after token following tag has typed reads).1 in
    let there = subst (λ (it : List ℕ). BeginsWithTagName it tag.name reads.after_name) here reads.name in
    field_unique (codes "tag") following tag.name reads.after_name name rest there.0 named.0

pub malformed_without_tagger : (kind : hash.Kind) (bytes hex after token following name rest : List ℕ) → BeginsWithIdField (codes "object") kind bytes hex after
    → BeginsWithField (codes "type") after token following → BeginsWithTagName following name rest → BeginsWithMalformedTagger rest
    → IsMalformedTag kind bytes
malformed_without_tagger kind bytes hex after token following name rest has typed named none tag is =
    let reads = parts_of_decoded_tag kind bytes tag is in
    let here = (tag_name_unique kind bytes hex after token following name rest tag has typed named reads).1 in
    none tag.tagger reads.body (subst (λ (it : List ℕ). BeginsWithTagger it tag.tagger reads.body) here reads.tagger)

pub malformed_without_body : (kind : hash.Kind) (bytes hex after token following name rest : List ℕ) (tagger : Option (List ℕ)) (body : List ℕ)
    → BeginsWithIdField (codes "object") kind bytes hex after → BeginsWithField (codes "type") after token following
    → BeginsWithTagName following name rest → BeginsWithTagger rest tagger body → IsMalformedBody body → IsMalformedTag kind bytes
malformed_without_body kind bytes hex after token following name rest tagger body has typed named tagged none tag is =
    let reads = parts_of_decoded_tag kind bytes tag is in
    let here = (tag_name_unique kind bytes hex after token following name rest tag has typed named reads).1 in
    let there = subst (λ (it : List ℕ). BeginsWithTagger it tag.tagger reads.body) here reads.tagger in
    let same = (tagger_unique rest tag.tagger tagger reads.body body there tagged).1 in
    none tag.message tag.signature (subst (λ (it : List ℕ). IsBody it tag.message tag.signature) same reads.parted)

-- ---- unique decoding

abbrev made : List ℕ → Kind → List ℕ → Option (List ℕ) → List ℕ → Option (List ℕ) → TagLines
made target target_kind name tagger message signature =
    record { target = target; target_kind = target_kind; name = name; tagger = tagger; message = message; signature = signature }

tag_lines_eq_of_fields : (a b : TagLines) → a.target ≡ b.target → a.target_kind ≡ b.target_kind → a.name ≡ b.name → a.tagger ≡ b.tagger → a.message ≡ b.message
    → a.signature ≡ b.signature → a ≡ b
tag_lines_eq_of_fields a b target target_kind name tagger message signature =
    ap (λ (it : List ℕ). made it a.target_kind a.name a.tagger a.message a.signature) target
    ∙ ap (λ (it : Kind). made b.target it a.name a.tagger a.message a.signature) target_kind
    ∙ ap (λ (it : List ℕ). made b.target b.target_kind it a.tagger a.message a.signature) name
    ∙ ap (λ (it : Option (List ℕ)). made b.target b.target_kind b.name it a.message a.signature) tagger
    ∙ ap (λ (it : List ℕ). made b.target b.target_kind b.name b.tagger it a.signature) message
    ∙ ap (λ (it : Option (List ℕ)). made b.target b.target_kind b.name b.tagger b.message it) signature

pub tag_unique : (kind : hash.Kind) (bytes : List ℕ) (a b : TagLines) → DecodesToTag kind bytes a → DecodesToTag kind bytes b → a ≡ b
tag_unique kind bytes a b is is' =
    let first = parts_of_decoded_tag kind bytes a is in
    let second = parts_of_decoded_tag kind bytes b is' in
    let target = field_unique (codes "object") bytes a.target first.after_target b.target second.after_target first.target.0 second.target.0 in
    let typed = subst (λ (it : List ℕ). BeginsWithField (codes "type") it (kind_name a.target_kind) first.after_kind) target.1 first.target_kind in
    let token = field_unique (codes "type") second.after_target (kind_name a.target_kind) first.after_kind
    (kind_name b.target_kind) second.after_kind typed
    second.target_kind in
    let named = tag_name_unique kind bytes b.target second.after_target (kind_name b.target_kind) second.after_kind b.name second.after_name a
    second.target
    second.target_kind second.name first in
    let tagged = tagger_unique second.after_name a.tagger b.tagger first.body second.body
    (subst (λ (it : List ℕ). BeginsWithTagger it a.tagger first.body) named.1 first.tagger) second.tagger in
    let parted = body_unique second.body a.message b.message a.signature b.signature
    (subst (λ (it : List ℕ). IsBody it a.message a.signature) tagged.1 first.parted) second.parted in
    tag_lines_eq_of_fields a b target.0 (kind_keyword_injective a.target_kind b.target_kind token.0) named.0 tagged.0 parted.0 parted.1
