-- Tags as contracts see them, borrowed or owned.
use Rattle.std.specs.Prelude.{ℕ, List, Option, Some, None}
use Rattle.bstr.specs.BStr.{bstr_bytes}
use Rattle.bstr.specs.Owned.{bstring_bytes}
use Rattle.gixobj_actor.specs.ActorWriting.{encode_owned_actor}
use Rattle.gixobj_actor.specs.declared.actor.Signature.{Signature}
use Rattle.gixobj_hash.specs.Hash.{encode_id_hex}
use Rattle.gixobj_tag.specs.TagFormat.{TagLines}
use Rattle.gixobj_tag.specs.declared.tag.Tag.{Tag}
use Rattle.gixobj_tag.specs.declared.tag.TagRef.{TagRef}
use Rattle.gixobj_hash.specs.Optional.{bytes_if_some, owned_bytes_if_some}

-- the fields of a borrowed tag
abbrev pub tag_lines : TagRef → TagLines
tag_lines tag = record {
  target = bstr_bytes tag.target;
  target_kind = tag.target_kind;
  name = bstr_bytes tag.name;
  tagger = bytes_if_some tag.tagger;
  message = bstr_bytes tag.message;
  signature = bytes_if_some tag.signature;
}

-- the value of the tagger line that an owned tagger writes
abbrev pub owned_tagger : Option Signature → Option (List ℕ)
owned_tagger None = None
owned_tagger (Some actor) = Some (encode_owned_actor actor)

-- the fields of an owned tag: its id in lower case, its tagger and the time as they are written
abbrev pub owned_tag_lines : Tag → TagLines
owned_tag_lines tag = record {
  target = encode_id_hex tag.target;
  target_kind = tag.target_kind;
  name = bstring_bytes tag.name;
  tagger = owned_tagger tag.tagger;
  message = bstring_bytes tag.message;
  signature = owned_bytes_if_some tag.signature;
}
