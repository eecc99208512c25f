-- Objects that lookups find, the targets of tags, and one more tag that leads on; the calls on stores use it.
use Rattle.std.proofs.Common.{◌≡◌, ◌∙◌, ℕ, zero, suc, List, ◌++◌, Option, Some, ap, append_assoc, refl, subst, sym}
use Rattle.std.specs.Option.{option_map}
use Rattle.std.specs.Prelude.{codes}
use Rattle.gixobj_hash.specs.FieldFormat.{encode_field}
use Rattle.gixobj_hash.specs.Hash.{DecodesToId}
use Rattle.gixobj_hash.specs.HeaderFormat.{BeginsWithField}
use Rattle.gixobj_hash.specs.Kind.{kind_name}
use Rattle.gixobj_hash.specs.declared.hash.kind.Kind as hash
use Rattle.gixobj_hash.specs.declared.hash.object_id.ObjectId.{ObjectId}
use Rattle.gixobj_parse.proofs.HeaderFields.{field_unique, hex_digits_newline_free}
use Rattle.gixobj_parse.specs.HeaderReading.{BeginsWithIdField}
use Rattle.gixobj_grammar.specs.TagPrefix.{BeginsTag, IsTag, encode_tagger}
use Rattle.gixobj_store.specs.Stores.{IsFound, Names, Objects, stored}
use Rattle.gixobj_store.specs.declared.«data».Data.{Data}
use Rattle.gixobj_walks_commits.specs.Tags.{IsTagOf, NamesTagOf, TagsLeadTo}

pub names_of_found : (objects : Objects) (id looked_up : ObjectId) (it : Data) (found : Option Data) → found ≡ Some it → looked_up ≡ id
    → IsFound objects looked_up found → Names objects id (stored it)
names_of_found objects id looked_up it found is same has =
    subst (λ (id : ObjectId). Names objects id (stored it)) same (sym has ∙ ap (λ (it : Option Data). option_map stored it) is)

target_append : (target kind name tagger body : List ℕ) → ((target ++ kind) ++ name ++ tagger) ++ body ≡ target ++ (kind ++ (name ++ (tagger ++ body)))
target_append target kind name tagger body = simp append_assoc

-- the target line comes first
pub target_comes_first : (kind : hash.Kind) (bytes body : List ℕ) → (tag : BeginsTag kind bytes body)
    → BeginsWithField (codes "object") bytes tag.target
    (encode_field (codes "type") (kind_name tag.target_kind) ++ (encode_field (codes "tag") tag.name ++ (encode_tagger tag.tagger ++ body)))
target_comes_first kind bytes body tag = record {
  joined = tag.joined ∙ target_append (encode_field (codes "object") tag.target) (encode_field (codes "type") (kind_name tag.target_kind))
      (encode_field (codes "tag") tag.name) (encode_tagger tag.tagger) body;
  one_line = hex_digits_newline_free tag.target tag.is_target.1;
}

pub tag_of_target : (kind : hash.Kind) (bytes hex rest : List ℕ) (id : ObjectId) → IsTag kind bytes → BeginsWithIdField (codes "object") kind bytes hex rest
    → DecodesToId hex id → IsTagOf kind bytes id
tag_of_target kind bytes hex rest id (body, tag, is) has decodes =
    let same = field_unique (codes "object") bytes tag.target _ hex rest (target_comes_first kind bytes body tag) has.0 in
    record {
      body = body;
      tag = tag;
      is_body = is;
      tagged = subst (λ (hex : List ℕ). DecodesToId hex id) (sym same.0) decodes;
    }

pub tags_lead_snoc : (objects : Objects) (n : ℕ) (id oid target : ObjectId) → TagsLeadTo objects n id oid → NamesTagOf objects oid target
    → TagsLeadTo objects (suc n) id target
tags_lead_snoc objects zero id oid target same tag = (target, subst (λ (id : ObjectId). NamesTagOf objects id target) (sym same) tag, refl)
tags_lead_snoc objects (suc n) id oid target (next, first, more) tag = (next, first, tags_lead_snoc objects n next oid target more tag)
