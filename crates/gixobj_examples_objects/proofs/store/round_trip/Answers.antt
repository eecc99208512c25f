use Rattle.std.proofs.Common.{◌≡◌, ◌-◌, ℕ, List, ◌++◌, ap, arith, subst, sym, ◌∙◌}
use Rattle.std.specs.Prelude.{vec_capacity, vec_len}
use Rattle.gix_object.specs.Streams.{list_view}
use Rattle.gix_object.specs.TreeDecoding.{DecodesToTree, IsTreeDecodeError}
use Rattle.gix_object.specs.TreeEncoding.{IsTreeEncodeError, encode_tree}
use Rattle.gix_object.specs.TreeViews.{tree_entries}
use Rattle.gixobj_examples_objects.proofs.Errors.{encoding_error_of_new_list, fails_for_room_of_write, round_trip_error_of_read, tree_fails_for_room}
use Rattle.gixobj_examples_objects.proofs.store.round_trip.Goals as goal

pub returns-in-Err-clause-error : goal.returns-in-Err-clause-error
returns-in-Err-clause-error c = λ all.
    let is = c.tree_round_trips.ensures c.args.kind c.args.tree.now all in
    let nothing = c.tree_reencodes_identically.ensures.no_error c.args.kind (encode_tree c.args.tree.now) c.args.tree.now is in
    let fails = c.write_error_implies_sink_error.ensures (list_view c.new-bytes.result) (list_view c.write_to_vec.new.out) c.in-Err.error nothing
    c.in-Err.ensures.error in
    fails_for_room_of_write (list_view c.new-bytes.result) c.write_to_vec.new.out (encode_tree c.args.tree.now) c.in-Err.error fails

pub returns-in-Err-from_bytes-clause-error : goal.returns-in-Err-from_bytes-clause-error
returns-in-Err-from_bytes-clause-error c = λ all.
    let is = c.tree_round_trips.ensures c.args.kind c.args.tree.now all in
    let written : c.deref.result.now ≡ encode_tree c.args.tree.now =
    c.deref.ensures.value ∙ c.in_default.ensures.written ∙ ap (λ (it : List ℕ). it ++ encode_tree c.args.tree.now) c.new-bytes.ensures.items in
    tree_fails_for_room c.args.kind (encode_tree c.args.tree.now) c.args.tree.now c.in-Err-from_bytes.error
    (subst (λ (it : List ℕ). IsTreeDecodeError c.args.kind it c.in-Err-from_bytes.error) written c.in-Err-from_bytes.ensures.error) is

pub returns-in-Ok-into_owned-clause-unchanged : goal.returns-in-Ok-into_owned-clause-unchanged
returns-in-Ok-into_owned-clause-unchanged c = λ all.
    let is = c.tree_round_trips.ensures c.args.kind c.args.tree.now all in
    let written : c.deref.result.now ≡ encode_tree c.args.tree.now =
    c.deref.ensures.value ∙ c.in_default.ensures.written ∙ ap (λ (it : List ℕ). it ++ encode_tree c.args.tree.now) c.new-bytes.ensures.items in
    let read = subst (λ (it : List ℕ). DecodesToTree c.args.kind it (tree_entries c.in-Ok.decoded)) written c.in-Ok.ensures.found in
    c.in-Ok-into_owned.ensures.owned ∙ c.tree_decodes_uniquely.ensures.one_tree c.args.kind (encode_tree c.args.tree.now)
    (tree_entries c.in-Ok.decoded) c.args.tree.now read is

pub returns-in-Err-clause-cause : goal.returns-in-Err-clause-cause
returns-in-Err-clause-cause c =
    let tree = c.args.tree.now in
    let bytes = c.new-bytes.result in
    let full : vec_capacity bytes - vec_len bytes ≡ 0 = omega arith in
    encoding_error_of_new_list (IsTreeEncodeError tree) (encode_tree tree) bytes c.write_to_vec.new.out c.in-Err.error c.new-bytes.ensures.items full
    c.in-Err.ensures.error

pub returns-in-Err-from_bytes-clause-cause : goal.returns-in-Err-from_bytes-clause-cause
returns-in-Err-from_bytes-clause-cause c =
    let tree = c.args.tree.now in
    let written : c.deref.result.now ≡ encode_tree tree =
    c.deref.ensures.value ∙ c.in_default.ensures.written ∙ ap (λ (it : List ℕ). it ++ encode_tree tree) c.new-bytes.ensures.items in
    round_trip_error_of_read c.args.kind tree c.deref.result.now c.in-Err-from_bytes.error written c.in_default.ensures.no_error
    c.in-Err-from_bytes.ensures.error

pub returns-in-Ok-into_owned-clause-decoded : goal.returns-in-Ok-into_owned-clause-decoded
returns-in-Ok-into_owned-clause-decoded c =
    let tree = c.args.tree.now in
    let written : c.deref.result.now ≡ encode_tree tree =
    c.deref.ensures.value ∙ c.in_default.ensures.written ∙ ap (λ (it : List ℕ). it ++ encode_tree tree) c.new-bytes.ensures.items in
    let read = subst (λ (it : List ℕ). DecodesToTree c.args.kind it (tree_entries c.in-Ok.decoded)) written c.in-Ok.ensures.found in
    (c.in_default.ensures.no_error, subst (DecodesToTree c.args.kind (encode_tree tree)) (sym c.in-Ok-into_owned.ensures.owned) read)
