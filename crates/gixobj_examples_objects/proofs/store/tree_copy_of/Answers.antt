use Rattle.std.proofs.Common.{ℕ, List, ◌++◌, ap, sym, ◌∙◌}
use Rattle.gix_object.specs.Streams.{list_view}
use Rattle.gix_object.specs.TreeEncoding.{encode_tree}
use Rattle.gix_object.specs.TreeViews.{tree_entries}
use Rattle.gixobj_examples_objects.proofs.Errors.{tree_fails_for_room, fails_for_room_of_write}
use Rattle.gixobj_examples_objects.proofs.store.tree_copy_of.Goals as goal

pub returns-in-Err-clause-error : goal.returns-in-Err-clause-error
returns-in-Err-clause-error c = λ entries is. tree_fails_for_room c.args.kind c.args.bytes.now entries c.in-Err.error c.in-Err.ensures.error is

pub returns-in-Ok-write_to_vec-clause-same_bytes : goal.returns-in-Ok-write_to_vec-clause-same_bytes
returns-in-Ok-write_to_vec-clause-same_bytes c = λ entries own.
    let decoded = c.tree_reencodes_identically.ensures.same_bytes c.args.kind c.args.bytes.now entries own in
    let same = c.tree_decodes_uniquely.ensures.one_tree c.args.kind c.args.bytes.now entries (tree_entries c.in-Ok.tree) decoded.0 c.in-Ok.ensures.found in
    c.in-Ok-write_to_vec.ensures.written ∙ ap (λ (it : List ℕ). it ++ encode_tree (tree_entries c.in-Ok.tree)) c.new-written.ensures.items
    ∙ ap encode_tree (sym same) ∙ decoded.1

pub returns-clause-error : goal.returns-clause-error
returns-clause-error c = λ entries is.
    let nothing = c.tree_reencodes_identically.ensures.no_error c.args.kind c.args.bytes.now (tree_entries c.in-Ok.tree) c.in-Ok.ensures.found in
    let fails = c.write_error_implies_sink_error.ensures (list_view c.new-written.result) (list_view c.write_to_vec.new.out) c.in-Err-write_to_vec.error nothing
    c.in-Err-write_to_vec.ensures.error in
    fails_for_room_of_write (list_view c.new-written.result) c.write_to_vec.new.out
    (encode_tree (tree_entries c.in-Ok.tree)) c.in-Err-write_to_vec.error fails
