use Rattle.gixobj_codec.proofs.TagsExtracted.{signed_data_is_payload_of_tag, signed_tag_has_marker}
use Rattle.gixobj_codec.proofs.signed.tag_payloads_are_signed.Goals as goal

pub returns-clause-found : goal.returns-clause-found
returns-clause-found c = signed_tag_has_marker

pub returns-clause-payload : goal.returns-clause-payload
returns-clause-payload c = signed_data_is_payload_of_tag
