-- The lines of a tag join to its encoding and are decoded in turn; which bytes are no tag. `is_tag` uses it.
use Rattle.std.proofs.Common.{◌≡◌, ℕ, List, [], ◌∷◌, ◌++◌, Option, Some, None, append_assoc, ap, arith, refl, subst, sym, ◌∙◌}
use Rattle.std.specs.Prelude.{Bool, MatchBool, codes, false, true}
use Rattle.gixobj_parse.proofs.HeaderFields.{hex_digits_newline_free, first_bytes_eq, field_unique}
use Rattle.gixobj_parse.specs.HeaderReading.{BeginsWithIdField, BeginsWithNoIdField, BeginsWithNoKindField}
use Rattle.gixobj_hash.specs.HeaderFormat.{BeginsWithField, BeginsWithOtherName}
use Rattle.gixobj_hash.specs.FieldFormat.{encode_field}
use Rattle.gixobj_hash.proofs.Splits.{byte_free_of_all_pass}
use Rattle.gixobj_hash.specs.Kind.{kind_name}
use Rattle.gixobj_hash.specs.ByteStrings.{IsByteFree}
use Rattle.gixobj_hash.specs.declared.hash.kind.Kind as hash
use Rattle.gixobj_hash.specs.declared.kind.Kind.{Kind}
use Rattle.gixobj_hash.specs.declared.kind.Kind.TheVariants as object
use Rattle.gixobj_grammar.proofs.TagLines.{tagger_unique}
use Rattle.gixobj_grammar.specs.TagLines.{BeginsWithTagName, BeginsWithNoTagName, BeginsWithMalformedTagger, BeginsWithTagger}
use Rattle.gixobj_grammar.specs.TagPrefix.{BeginsTag, IsTagBody, IsTag, IsTaggerLine, encode_tagger}

-- the lines of a tag, decoded in turn, up to its body
pub record ReadsPrefix (kind : hash.Kind) (bytes body : List ℕ) : Type 0 where
  pub target : List ℕ
  pub target_kind : Kind
  pub name : List ℕ
  pub tagger : Option (List ℕ)
  pub after_target : List ℕ
  pub after_kind : List ℕ
  pub after_name : List ℕ
  pub has_target : BeginsWithIdField (codes "object") kind bytes target after_target
  pub has_kind : BeginsWithField (codes "type") after_target (kind_name target_kind) after_kind
  pub has_name : BeginsWithTagName after_kind name after_name
  pub has_tagger : BeginsWithTagger after_name tagger body

-- ---- joined

tag_lines_append_assoc : (bytes target a kind b name c tagger body : List ℕ) → bytes ≡ target ++ a → a ≡ kind ++ b → b ≡ name ++ c → c ≡ tagger ++ body
    → bytes ≡ (((target ++ kind) ++ name) ++ tagger) ++ body
tag_lines_append_assoc bytes target a kind b name c tagger body one two three four = rw (one, two, three, four) (sym (simp append_assoc))

input_of_begins_with_tagger : (tagger : Option (List ℕ)) (input rest : List ℕ) → BeginsWithTagger input tagger rest → input ≡ encode_tagger tagger ++ rest
input_of_begins_with_tagger None input rest (lacks, same) = sym same
input_of_begins_with_tagger (Some line) input rest (field, actor) = field.joined

tagger_line_of_begins_with_tagger : (tagger : Option (List ℕ)) (input rest : List ℕ) → BeginsWithTagger input tagger rest → IsTaggerLine tagger
tagger_line_of_begins_with_tagger None input rest has = tt
tagger_line_of_begins_with_tagger (Some line) input rest (field, actor) = actor

pub parts_append : (kind : hash.Kind) (bytes body : List ℕ) → ReadsPrefix kind bytes body → BeginsTag kind bytes body
parts_append kind bytes body reads =
    record {
      target = reads.target;
      target_kind = reads.target_kind;
      name = reads.name;
      tagger = reads.tagger;
      joined = tag_lines_append_assoc bytes (encode_field (codes "object") reads.target) reads.after_target
          (encode_field (codes "type") (kind_name reads.target_kind))
          reads.after_kind (encode_field (codes "tag") reads.name) reads.after_name
          (encode_tagger reads.tagger) body reads.has_target.0.joined reads.has_kind.joined reads.has_name.0.joined
          (input_of_begins_with_tagger reads.tagger reads.after_name body reads.has_tagger);
      is_target = reads.has_target.1;
      is_name = (reads.has_name.1, reads.has_name.0.one_line);
      is_tagger = tagger_line_of_begins_with_tagger reads.tagger reads.after_name body reads.has_tagger;
    }

-- ---- split

-- no body begins as a tagger line does
tag_body_has_other_name : (body : List ℕ) → IsTagBody body → BeginsWithOtherName (codes "tagger") body
tag_body_has_other_name [] is rest same = cc same
tag_body_has_other_name (byte ∷ more) is rest same = let first : 116 ≡ 10 = first_bytes_eq 116 10 _ _ (sym same ∙ ap (λ (it : ℕ). it ∷ more) is) in absurd
    (omega (arith, first))

kind_name_is_newline_free : (kind : Kind) → IsByteFree 10 (kind_name kind)
kind_name_is_newline_free object.Tree = byte_free_of_all_pass 10 (kind_name object.Tree) refl
kind_name_is_newline_free object.Blob = byte_free_of_all_pass 10 (kind_name object.Blob) refl
kind_name_is_newline_free object.Commit = byte_free_of_all_pass 10 (kind_name object.Commit) refl
kind_name_is_newline_free object.Tag = byte_free_of_all_pass 10 (kind_name object.Tag) refl

begins_with_field_of_encode_field : (name input value rest : List ℕ) → input ≡ encode_field name value ++ rest → IsByteFree 10 value
    → BeginsWithField name input value rest
begins_with_field_of_encode_field name input value rest joined free = record { joined = joined; one_line = free }

begins_with_tagger_of_encode_tagger : (tagger : Option (List ℕ)) (body : List ℕ) → IsTaggerLine tagger → IsTagBody body
    → BeginsWithTagger (encode_tagger tagger ++ body) tagger body
begins_with_tagger_of_encode_tagger None body begins is = (tag_body_has_other_name body is, refl)
begins_with_tagger_of_encode_tagger (Some line) body (name, email, time, rest, actor) is = (
  begins_with_field_of_encode_field (codes "tagger") (encode_field (codes "tagger") line ++ body) line body refl actor.one_line,
  (name, email, time, rest, actor),
)

pub take_apart : (kind : hash.Kind) (bytes body : List ℕ) → BeginsTag kind bytes body → IsTagBody body → ReadsPrefix kind bytes body
take_apart kind bytes body it is =
    let target = encode_field (codes "object") it.target in
    let kind_line = encode_field (codes "type") (kind_name it.target_kind) in
    let name = encode_field (codes "tag") it.name in
    let tagger = encode_tagger it.tagger in
    let flat : (((target ++ kind_line) ++ name) ++ tagger) ++ body ≡ target ++ (kind_line ++ (name ++ (tagger ++ body))) = simp append_assoc in
    record {
      target = it.target;
      target_kind = it.target_kind;
      name = it.name;
      tagger = it.tagger;
      after_target = kind_line ++ (name ++ (tagger ++ body));
      after_kind = name ++ (tagger ++ body);
      after_name = tagger ++ body;
      has_target = (
        begins_with_field_of_encode_field (codes "object") bytes it.target (kind_line ++ (name ++ (tagger ++ body))) (it.joined ∙ flat)
            (hex_digits_newline_free it.target it.is_target.1),
        it.is_target,
      );
      has_kind = begins_with_field_of_encode_field (codes "type") (kind_line ++ (name ++ (tagger ++ body))) (kind_name it.target_kind)
          (name ++ (tagger ++ body)) refl
          (kind_name_is_newline_free it.target_kind);
      has_name = (begins_with_field_of_encode_field (codes "tag") (name ++ (tagger ++ body)) it.name (tagger ++ body) refl it.is_name.1, it.is_name.0);
      has_tagger = begins_with_tagger_of_encode_tagger it.tagger body it.is_tagger is;
    }

-- ---- whether bytes are a tag

pub all_read : (kind : hash.Kind) (bytes target typed : List ℕ) (target_kind : Kind) (named name tagged : List ℕ) (tagger : Option (List ℕ)) (body : List ℕ)
    → BeginsWithIdField (codes "object") kind bytes target typed
    → BeginsWithField (codes "type") typed (kind_name target_kind) named → BeginsWithTagName named name tagged → BeginsWithTagger tagged tagger body
    → IsTagBody body
    → IsTag kind bytes
all_read kind bytes target typed target_kind named name tagged tagger body has_target has_kind has_name has_tagger is =
    let reads : ReadsPrefix kind bytes body =
    record {
      target = target;
      target_kind = target_kind;
      name = name;
      tagger = tagger;
      after_target = typed;
      after_kind = named;
      after_name = tagged;
      has_target = has_target;
      has_kind = has_kind;
      has_name = has_name;
      has_tagger = has_tagger;
    } in
    (body, parts_append kind bytes body reads, is)

pub no_target : (kind : hash.Kind) (bytes : List ℕ) → BeginsWithNoIdField (codes "object") kind bytes → ¬ IsTag kind bytes
no_target kind bytes none (body, begins, is) = let reads = take_apart kind bytes body begins is in none reads.target reads.after_target reads.has_target

-- after the decoded lines, the tag continues as the bytes do
after_target_unique : (kind : hash.Kind) (bytes target typed body : List ℕ) → BeginsWithIdField (codes "object") kind bytes target typed
    → (reads : ReadsPrefix kind bytes body)
    → reads.after_target ≡ typed
after_target_unique kind bytes target typed body has reads = (field_unique
    (codes "object") bytes reads.target reads.after_target target typed reads.has_target.0
    has.0).1

pub no_kind : (kind : hash.Kind) (bytes target typed : List ℕ) → BeginsWithIdField (codes "object") kind bytes target typed
    → BeginsWithNoKindField (codes "type") typed
    → ¬ IsTag kind bytes
no_kind kind bytes target typed has none (body, begins, is) =
    let reads = take_apart kind bytes body begins is in
    none reads.target_kind reads.after_kind (subst (λ (it : List ℕ). BeginsWithField (codes "type") it (kind_name reads.target_kind) reads.after_kind)
    (after_target_unique kind bytes target typed body has reads) reads.has_kind)

after_kind_unique : (kind : hash.Kind) (bytes target typed token named body : List ℕ) → BeginsWithIdField (codes "object") kind bytes target typed
    → BeginsWithField (codes "type") typed token named → (reads : ReadsPrefix kind bytes body) → reads.after_kind ≡ named
after_kind_unique kind bytes target typed token named body has has_kind reads =
    let there = subst (λ (it : List ℕ). BeginsWithField (codes "type") it (kind_name reads.target_kind) reads.after_kind)
    (after_target_unique kind bytes target typed body has reads) reads.has_kind in
    (field_unique (codes "type") typed (kind_name reads.target_kind) reads.after_kind token named there has_kind).1

pub no_name : (kind : hash.Kind) (bytes target typed token named : List ℕ) → BeginsWithIdField (codes "object") kind bytes target typed
    → BeginsWithField (codes "type") typed token named → BeginsWithNoTagName named → ¬ IsTag kind bytes
no_name kind bytes target typed token named has has_kind none (body, begins, is) =
    let reads = take_apart kind bytes body begins is in
    none reads.name reads.after_name (subst (λ (it : List ℕ). BeginsWithTagName it reads.name reads.after_name)
    (after_kind_unique kind bytes target typed token named body has has_kind reads) reads.has_name)

after_name_unique : (kind : hash.Kind) (bytes target typed token named name tagged body : List ℕ) → BeginsWithIdField (codes "object") kind bytes target typed
    → BeginsWithField (codes "type") typed token named → BeginsWithTagName named name tagged
    → (reads : ReadsPrefix kind bytes body) → reads.after_name ≡ tagged
after_name_unique kind bytes target typed token named name tagged body has has_kind has_name reads =
    let there = subst (λ (it : List ℕ). BeginsWithTagName it reads.name reads.after_name)
    (after_kind_unique kind bytes target typed token named body has has_kind reads)
    reads.has_name in
    (field_unique (codes "tag") named reads.name reads.after_name name tagged there.0 has_name.0).1

pub no_tagger : (kind : hash.Kind) (bytes target typed token named name tagged : List ℕ) → BeginsWithIdField (codes "object") kind bytes target typed
    → BeginsWithField (codes "type") typed token named → BeginsWithTagName named name tagged → BeginsWithMalformedTagger tagged
    → ¬ IsTag kind bytes
no_tagger kind bytes target typed token named name tagged has has_kind has_name none (body, begins, is) =
    let reads = take_apart kind bytes body begins is in
    none reads.tagger body (subst (λ (it : List ℕ). BeginsWithTagger it reads.tagger body)
    (after_name_unique kind bytes target typed token named name tagged body has has_kind has_name reads) reads.has_tagger)

pub no_body : (kind : hash.Kind) (bytes target typed token named name tagged : List ℕ) (tagger : Option (List ℕ)) (remaining : List ℕ)
    → BeginsWithIdField (codes "object") kind bytes target typed → BeginsWithField (codes "type") typed token named → BeginsWithTagName named name tagged
    → BeginsWithTagger tagged tagger remaining → ¬ IsTagBody remaining → ¬ IsTag kind bytes
no_body kind bytes target typed token named name tagged tagger remaining has has_kind has_name has_tagger bad (body, begins, is) =
    let reads = take_apart kind bytes body begins is in
    let there = subst (λ (it : List ℕ). BeginsWithTagger it reads.tagger body)
    (after_name_unique kind bytes target typed token named name tagged body has has_kind has_name reads) reads.has_tagger in
    bad (subst IsTagBody (tagger_unique tagged reads.tagger tagger body remaining there has_tagger).1 is)

-- after all lines, the body decides
pub by_body : (kind : hash.Kind) (bytes target typed : List ℕ) (target_kind : Kind) (named name tagged : List ℕ) (tagger : Option (List ℕ)) (body : List ℕ)
    (result : Bool) → BeginsWithIdField (codes "object") kind bytes target typed
    → BeginsWithField (codes "type") typed (kind_name target_kind) named → BeginsWithTagName named name tagged → BeginsWithTagger tagged tagger body
    → MatchBool result (IsTagBody body) (¬ IsTagBody body) → MatchBool result (IsTag kind bytes) (¬ IsTag kind bytes)
by_body kind bytes target typed target_kind named name tagged tagger body true has has_kind has_name has_tagger is = all_read kind bytes target typed
    target_kind named name tagged tagger body has has_kind has_name has_tagger is
by_body kind bytes target typed target_kind named name tagged tagger body false has has_kind has_name has_tagger bad = no_body kind bytes target typed
    (kind_name target_kind) named name tagged tagger body has has_kind has_name has_tagger bad
