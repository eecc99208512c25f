use Rattle.gixobj_tag.proofs.EntireTags.{malformed_without_body, malformed_without_kind, malformed_without_name, malformed_without_tagger, decodes_tag_of_parts}
use Rattle.gixobj_tag.proofs.tag.decode.read_tag.Goals as goal

pub returns-in_err-target_kind-clause-none : goal.returns-in_err-target_kind-clause-none
returns-in_err-target_kind-clause-none c =
    rw c.from_residual-in_err-target_kind.ensures
    (malformed_without_kind c.args.hash_kind c.args.bytes.now _ c.in_ok-target.rest.now c.in_ok-target.ensures.found c.in_err-target_kind.ensures.none)

pub returns-in_err-name-clause-none : goal.returns-in_err-name-clause-none
returns-in_err-name-clause-none c =
    rw c.from_residual-in_err-name.ensures
    (malformed_without_name c.args.hash_kind c.args.bytes.now _ c.in_ok-target.rest.now _ c.in_ok-target_kind.rest.now c.in_ok-target.ensures.found
    c.in_ok-target_kind.ensures.found c.in_err-name.ensures.none)

pub returns-in_err-tagger-clause-none : goal.returns-in_err-tagger-clause-none
returns-in_err-tagger-clause-none c =
    rw c.from_residual-in_err-tagger.ensures
    (malformed_without_tagger c.args.hash_kind c.args.bytes.now _ c.in_ok-target.rest.now _ c.in_ok-target_kind.rest.now _ c.in_ok-name.rest.now
    c.in_ok-target.ensures.found
    c.in_ok-target_kind.ensures.found c.in_ok-name.ensures.found c.in_err-tagger.ensures.none)

pub returns-in_err-message-clause-none : goal.returns-in_err-message-clause-none
returns-in_err-message-clause-none c =
    rw c.from_residual-in_err-message.ensures
    (malformed_without_body c.args.hash_kind c.args.bytes.now _ c.in_ok-target.rest.now _ c.in_ok-target_kind.rest.now _ c.in_ok-name.rest.now _
    c.in_ok-tagger.rest.now
    c.in_ok-target.ensures.found
    c.in_ok-target_kind.ensures.found c.in_ok-name.ensures.found c.in_ok-tagger.ensures.found c.in_err-message.ensures.none)

pub returns-clause-found : goal.returns-clause-found
returns-clause-found c =
    decodes_tag_of_parts c.args.hash_kind c.args.bytes.now _ (record {
      after_target = c.in_ok-target.rest.now;
      after_kind = c.in_ok-target_kind.rest.now;
      after_name = c.in_ok-name.rest.now;
      body = c.in_ok-tagger.rest.now;
      target = c.in_ok-target.ensures.found;
      target_kind = c.in_ok-target_kind.ensures.found;
      name = c.in_ok-name.ensures.found;
      tagger = rw c.line_of.ensures c.in_ok-tagger.ensures.found;
      parted = c.in_ok-message.ensures.found;
    })
