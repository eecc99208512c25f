use Rattle.std.proofs.Common.{Ok, subst, sym}
use Rattle.std.proofs.lemmas.Iterator.{items_from_collect}
use Rattle.std.specs.List.{AllZip}
use Rattle.std.specs.declared.alloc.AllocError.{AllocError}
use Rattle.gix_object.specs.Hash.{DecodesToId}
use Rattle.gix_object.specs.CommitTokenSteps.{IsAtStartOfCommit}
use Rattle.gixobj_examples_objects.proofs.walker.parents_of.Goals as goal

pub returns : goal.returns
returns c =
    let start = subst (IsAtStartOfCommit c.args.kind c.args.bytes.now) (sym c.parent_ids.ensures) c.from_bytes.ensures in
    λ commit is.
    let (ids, spelled, listed) = c.id_search_complete.ensures.parents c.args.kind c.args.bytes.now commit c.parent_ids.result is start in
    subst (AllZip DecodesToId commit.parents) (sym (items_from_collect {E = AllocError} (Ok c.in_ok-ids.ids) c.in_ok-ids.ensures.ran listed)) spelled
