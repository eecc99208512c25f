use Rattle.std.proofs.Common.{ap, refl, subst, ◌∙◌, ℕ, List}
use Rattle.gixobj_hash.specs.Hash.{id_of}
use Rattle.gixobj_hash.specs.declared.kind.Kind.TheVariants.{Commit}
use Rattle.gixobj_hash.specs.declared.hash.object_id.ObjectId.{ObjectId}
use Rattle.gixobj_store_keep.specs.Keeping.{IsKeepCommitError, with_commit}
use Rattle.gixobj_editor_import.specs.Commits.{encode_step}
use Rattle.gixobj_editor_import.proofs.Causes.{commit_cause_of_encode_error}
use Rattle.gixobj_editor_import.proofs.Digests.{have_hex_of_id, digest_id_kind}
use Rattle.gixobj_editor_import.proofs.LegalActors.{encode_step_decodes}
use Rattle.gixobj_editor_import.proofs.Stepping.{encoding_failed}
use Rattle.gixobj_editor_import.proofs.commits.keep_commit_of.Goals as goal
use Rattle.gixobj_store.specs.Stores.{store_model}

pub returns-in-Ok-keep_commit-clause-stored : goal.returns-in-Ok-keep_commit-clause-stored
returns-in-Ok-keep_commit-clause-stored g c =
    let model = store_model g.S.Store.objects g.S.Store.may_fail in
    let commit = c.compute_hash-commit.result in
    let content = encode_step c.args.step.now c.args.tree c.args.parent in
    record {
      author = c.names_actor.ensures;
      committer = c.names_actor-2.ensures;
      id = c.compute_hash-commit.ensures ∙ ap (λ (bytes : List ℕ). id_of c.args.hash Commit bytes) (c.deref.ensures.value ∙ c.in-Ok.ensures.encoded);
      hex = have_hex_of_id c.args.hash commit c.hex_round_trips.ensures.is_hex c.hex_round_trips.ensures.same_id c.is_an_id.ensures
          (digest_id_kind c.args.hash Commit c.deref.result.now commit c.compute_hash-commit.ensures);
      decodes = λ hex. encode_step_decodes c.args.hash c.args.step.now c.args.tree c.args.parent c.names_actor.ensures c.names_actor-2.ensures hex;
      rest = refl;
      stored = c.in-Ok-keep_commit.ensures.stored ∙ ap (λ (bytes : List ℕ). with_commit commit bytes (model.objects c.store_mut.result.now))
          (c.deref-2.ensures.value ∙ c.in-Ok.ensures.encoded)
          ∙ ap (λ (s : g.row.S.Denot). with_commit commit content (model.objects s)) c.store_mut.ensures.value;
      may_fail = λ id. c.keep_commit.ensures.same_may_fail id ∙ ap (λ (s : g.row.S.Denot). model.may_fail s id) c.store_mut.ensures.value;
    }

pub returns-in-Err-clause-error : goal.returns-in-Err-clause-error
returns-in-Err-clause-error g c =
    encoding_failed (store_model g.S.Store.objects g.S.Store.may_fail) c.args.hash c.args.step.now c.args.tree c.args.parent c.args.editor.now c.args.editor.now
    c.in-Err.error c.in-Err.ensures.error refl

pub returns-clause-error : goal.returns-clause-error
returns-clause-error g c =
    let model = store_model g.S.Store.objects g.S.Store.may_fail in
    let commit = c.compute_hash-commit.result in
    record {
      cause =
          subst (λ (id : ObjectId). IsKeepCommitError (model.may_fail c.args.editor.now.store) id c.in-Err-keep_commit.error)
          (c.compute_hash-commit.ensures ∙ ap (λ (bytes : List ℕ). id_of c.args.hash Commit bytes) (c.deref.ensures.value ∙ c.in-Ok.ensures.encoded))
          (subst (λ (s : g.row.S.Denot). IsKeepCommitError (model.may_fail s) commit c.in-Err-keep_commit.error) c.store_mut.ensures.value
          c.in-Err-keep_commit.ensures.error);
      rest = refl;
      unchanged = c.in-Err-keep_commit.ensures.unchanged ∙ ap (λ (s : g.row.S.Denot). model.objects s) c.store_mut.ensures.value;
      may_fail = λ id. c.keep_commit.ensures.same_may_fail id ∙ ap (λ (s : g.row.S.Denot). model.may_fail s id) c.store_mut.ensures.value;
    }

pub returns-clause-cause : goal.returns-clause-cause
returns-clause-cause g c =
    let errors = g.S.KeepCommit.keep_commit_errors in
    let error = c.in-Err-keep_commit.error in
    let content = encode_step c.args.step.now c.args.tree c.args.parent in
    subst (λ (id : ObjectId). errors c.args.editor.now.store id content error)
    (c.compute_hash-commit.ensures ∙ ap (λ (bytes : List ℕ). id_of c.args.hash Commit bytes) (c.deref.ensures.value ∙ c.in-Ok.ensures.encoded))
    (subst (λ (bytes : List ℕ). errors c.args.editor.now.store c.compute_hash-commit.result bytes error) (c.deref-2.ensures.value ∙ c.in-Ok.ensures.encoded)
    (subst (λ (s : g.row.S.Denot). errors s c.compute_hash-commit.result c.deref-2.result.now error) c.store_mut.ensures.value
    c.in-Err-keep_commit.ensures.cause))

pub returns-in-Err-clause-cause : goal.returns-in-Err-clause-cause
returns-in-Err-clause-cause g c =
    commit_cause_of_encode_error g.S.KeepCommit.keep_commit_errors c.args.editor.now.store c.args.hash c.args.step.now c.args.tree c.args.parent
    c.in-Err.error c.in-Err.ensures.error
