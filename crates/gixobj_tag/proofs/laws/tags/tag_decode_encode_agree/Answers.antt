use Rattle.std.proofs.Common.{◌++◌, ◌∙◌, List, ℕ, ap}
use Rattle.gixobj_streams.proofs.Errors.{fails_as_sink_of_error}
use Rattle.gixobj_tag.proofs.Reencoded.{decoded_tag_rejects_nothing, tag_reencodes_identically}
use Rattle.gixobj_tag.specs.TagViews.{tag_lines}
use Rattle.gixobj_tag.specs.TagWriting.{IsTagLinesError, encode_tag}
use Rattle.gixobj_tag.proofs.laws.tags.tag_decode_encode_agree.Goals as goal

pub returns-in-Ok-clause-same_bytes : goal.returns-in-Ok-clause-same_bytes
returns-in-Ok-clause-same_bytes c = λ kind content is keeps. c.in-Ok.ensures.written ∙ ap (λ (bytes : List ℕ). c.args.out.now.items ++ bytes)
    (tag_reencodes_identically kind content (tag_lines c.args.tag.now) is keeps)

pub returns-in-Err-clause-fails_as_sink : goal.returns-in-Err-clause-fails_as_sink
returns-in-Err-clause-fails_as_sink c = λ valid.
    fails_as_sink_of_error (IsTagLinesError (tag_lines c.args.tag.now)) _ _ (encode_tag (tag_lines c.args.tag.now)) c.in-Err.error
    (decoded_tag_rejects_nothing (tag_lines c.args.tag.now) valid) c.in-Err.ensures.error
