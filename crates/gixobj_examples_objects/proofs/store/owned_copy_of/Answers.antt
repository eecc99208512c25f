use Rattle.std.proofs.Common.{ℕ, List, ◌++◌, ap, subst, ◌∙◌}
use Rattle.gix_object.specs.Commit.{CommitLines}
use Rattle.gix_object.specs.CommitViews.{commit_lines, owned_commit_lines}
use Rattle.gix_object.specs.CommitWriting.{encode_commit}
use Rattle.gix_object.specs.Streams.{list_view}
use Rattle.gixobj_examples_objects.specs.Copies.{FailsForPart}
use Rattle.gixobj_examples_objects.specs.declared.store.CopyError.TheVariants.{Write}
use Rattle.gixobj_examples_objects.proofs.Errors.{fails_for_part_of_write, fails_for_part_of_read}
use Rattle.gixobj_examples_objects.proofs.store.owned_copy_of.Goals as goal

pub returns-in-Err-clause-error : goal.returns-in-Err-clause-error
returns-in-Err-clause-error c = λ commit is. fails_for_part_of_read c.args.kind c.args.bytes.now commit commit c.in-Err.error c.in-Err.ensures.error is

pub returns-in-Ok-write_to_vec-clause-parts : goal.returns-in-Ok-write_to_vec-clause-parts
returns-in-Ok-write_to_vec-clause-parts c =
    let own = owned_commit_lines c.in-Ok-into_owned.owned in (
      commit_lines c.in-Ok.commit,
      own,
      c.in-Ok.ensures.found,
      c.owned_commit_has_same_parts.ensures.parts (commit_lines c.in-Ok.commit) c.in-Ok-into_owned.owned c.in-Ok-into_owned.ensures.owned,
      c.in-Ok-write_to_vec.ensures.written ∙ ap (λ (it : List ℕ). it ++ encode_commit own) c.new-copy.ensures.items,
    )

pub returns-clause-error : goal.returns-clause-error
returns-clause-error c = λ commit is.
    let lines = commit_lines c.in-Ok.commit in
    let own = c.in-Ok-into_owned.owned in
    let before = list_view c.new-copy.result in
    let after = list_view c.write_to_vec.new.out in
    let same = c.commit_decodes_uniquely.ensures c.args.kind c.args.bytes.now lines commit c.in-Ok.ensures.found is in
    let rejected = c.owned_commit_has_same_parts.ensures.error c.args.kind c.args.bytes.now lines own before after c.in-Err-write_to_vec.error
    c.in-Ok.ensures.found c.in-Ok-into_owned.ensures.owned c.in-Err-write_to_vec.ensures.error in
    subst (λ (it : CommitLines). FailsForPart it (Write c.in-Err-write_to_vec.error)) same
    (fails_for_part_of_write lines before c.write_to_vec.new.out (encode_commit (owned_commit_lines own)) c.in-Err-write_to_vec.error rejected)
