-- The decoder's error says that the bytes are no tag, and the encoder's that a value is rejected.
use Rattle.gixobj_c_reencode.proofs.Reencoded.{failure_of_encoder, failure_of_malformed_tag}
use Rattle.gixobj_c_reencode.proofs.reencoding.reencoded_tag.Goals as goal
use Rattle.gixobj_hash.specs.declared.kind.Kind.TheVariants as kind
use Rattle.gixobj_tag.proofs.Recognized.{is_tag}
use Rattle.gixobj_tag.specs.TagViews.{tag_lines}
use Rattle.gixobj_tag.specs.TagWriting.{IsTagLinesError}

pub returns-in-Err-clause-error : goal.returns-in-Err-clause-error
returns-in-Err-clause-error c = failure_of_malformed_tag _ _ _ _ c.in-Err.ensures.error.0 c.in-Err.ensures.error.1 c.decoding_failure.ensures

pub returns-in-Err-write_to_vec-clause-error : goal.returns-in-Err-write_to_vec-clause-error
returns-in-Err-write_to_vec-clause-error c =
    let tag = tag_lines c.in-Ok.tag in
    failure_of_encoder c.args.hash kind.Tag c.args.bytes.now (IsTagLinesError tag) _ _ _ _ _
    (is_tag c.args.hash c.args.bytes.now tag c.in-Ok.ensures.found) (λ rejected. (tag, c.in-Ok.ensures.found, rejected))
    c.in-Err-write_to_vec.ensures.error c.encoding_failure.ensures
