use Rattle.std.proofs.Common.{◌∙◌, List, ap, inr, refl, subst}
use Rattle.std.proofs.lemmas.Result.{err_from_is_err_and}
use Rattle.std.specs.List.{flat_map}
use Rattle.gix_object.specs.Memory.{memory_objects}
use Rattle.gix_object.specs.hash.hash.object_id.ObjectId.{ObjectId}
use Rattle.gixobj_cli_batch.specs.Lines.{commit_line}
use Rattle.gixobj_cli_batch.specs.Objects.{never_fails}
use Rattle.gixobj_walks_commits.specs.Nodes.{CommitGraph}
use Rattle.gixobj_walks_graph.specs.Walks.{IsWalk}
use Rattle.gixobj_walks_store.specs.Errors.{IsWalkError}
use Rattle.gixobj_cli_batch.proofs.walks.list_walk.Goals as goal

pub returns-clause-printed : goal.returns-clause-printed
returns-clause-printed c =
    let G = CommitGraph (memory_objects c.args.store.now) in
    let ids = c.in_ok-ids.ids.items in record {
      tips = c.in_ok-tips.tips.items;
      hides = c.in_ok-hides.hides.items;
      ids = ids;
      tip_peeled = c.in_ok-tips.ensures.peeled;
      hidden_peeled = c.in_ok-hides.ensures.peeled;
      walk = λ acyclic. subst (λ (tips : List ObjectId). IsWalk G c.args.order tips c.in_ok-hides.hides.items ids) c.deref.ensures.value
          (subst (λ (hides : List ObjectId). IsWalk G c.args.order c.deref.result.now hides ids) c.deref-2.ensures.value (c.in_ok-ids.ensures.walk acyclic));
      unhidden = λ none. subst (λ (tips : List ObjectId). IsWalk G c.args.order tips c.in_ok-hides.hides.items ids) c.deref.ensures.value
          (subst (λ (hides : List ObjectId). IsWalk G c.args.order c.deref.result.now hides ids) c.deref-2.ensures.value
          (c.in_ok-ids.ensures.unhidden (c.deref-2.ensures.value ∙ none)));
      printed = c.in_ok-lines.ensures ∙ ap (flat_map commit_line) c.deref-3.ensures.value;
      no_fault = refl;
    }

pub returns-in_err-ids-clause-error : goal.returns-in_err-ids-clause-error
returns-in_err-ids-clause-error c =
    let objects = memory_objects c.args.store.now in
    let p = err_from_is_err_and c.from_residual-in_err-ids.result c.from_residual-in_err-ids.ensures.1 in
    let failed = subst (λ (tips : List ObjectId). IsWalkError objects never_fails tips c.in_ok-hides.hides.items c.in_err-ids.field-0.0)
    c.deref.ensures.value
    (subst (λ (hides : List ObjectId). IsWalkError objects never_fails c.deref.result.now hides c.in_err-ids.field-0.0)
    c.deref-2.ensures.value c.in_err-ids.ensures.error) in
    rw (p.1, p.2) (inr (inr (record {
      tips = c.in_ok-tips.tips.items;
      hides = c.in_ok-hides.hides.items;
      tip_peeled = c.in_ok-tips.ensures.peeled;
      hidden_peeled = c.in_ok-hides.ensures.peeled;
      error = failed;
    })))
