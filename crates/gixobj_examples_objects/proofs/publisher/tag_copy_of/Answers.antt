use Rattle.std.proofs.Common.{ℕ, List, ◌++◌, ap, subst, sym, ◌∙◌}
use Rattle.gix_object.specs.Streams.{list_view}
use Rattle.gix_object.specs.TagFormat.{TagLines}
use Rattle.gix_object.specs.TagViews.{tag_lines}
use Rattle.gix_object.specs.TagWriting.{IsTagLinesError, encode_tag}
use Rattle.gix_object.specs.Writing.{RejectsNothing}
use Rattle.gixobj_examples_objects.proofs.Errors.{fails_for_room_of_write}
use Rattle.gixobj_examples_objects.proofs.publisher.tag_copy_of.Goals as goal

pub returns-in-Err-clause-error : goal.returns-in-Err-clause-error
returns-in-Err-clause-error c = λ tag is valid. absurd (c.in-Err.ensures.error.1 tag is)

pub returns-in-Ok-write_to_vec-clause-same_bytes : goal.returns-in-Ok-write_to_vec-clause-same_bytes
returns-in-Ok-write_to_vec-clause-same_bytes c = λ tag is keeps.
    let same = c.tag_decodes_uniquely.ensures c.args.kind c.args.bytes.now tag (tag_lines c.in-Ok.tag) is c.in-Ok.ensures.found in
    let bytes = c.tag_reencodes_identically.ensures.same_bytes c.args.kind c.args.bytes.now tag is keeps in
    c.in-Ok-write_to_vec.ensures.written ∙ ap (λ (it : List ℕ). it ++ encode_tag (tag_lines c.in-Ok.tag)) c.new-copy.ensures.items
    ∙ ap (λ (it : TagLines). encode_tag it) (sym same) ∙ bytes

pub returns-in-Err-write_to_vec-clause-error : goal.returns-in-Err-write_to_vec-clause-error
returns-in-Err-write_to_vec-clause-error c = λ tag is valid.
    let same = c.tag_decodes_uniquely.ensures c.args.kind c.args.bytes.now tag (tag_lines c.in-Ok.tag) is c.in-Ok.ensures.found in
    let nothing = subst (λ (it : TagLines). RejectsNothing (IsTagLinesError it)) same (c.tag_reencodes_identically.ensures.no_error tag valid) in
    let fails = c.write_error_implies_sink_error.ensures (list_view c.new-copy.result) (list_view c.write_to_vec.new.out) c.in-Err-write_to_vec.error nothing
    c.in-Err-write_to_vec.ensures.error in
    fails_for_room_of_write (list_view c.new-copy.result) c.write_to_vec.new.out
    (encode_tag (tag_lines c.in-Ok.tag)) c.in-Err-write_to_vec.error fails
