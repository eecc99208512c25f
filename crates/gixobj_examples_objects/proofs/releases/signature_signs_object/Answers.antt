use Rattle.gixobj_examples_objects.proofs.Audited.{object_signed}
use Rattle.gixobj_examples_objects.proofs.releases.signature_signs_object.Goals as goal

pub returns : goal.returns
returns c signature signed has =
    object_signed c.received_commits_are_signed.ensures.signed c.received_tags_are_signed.ensures c.args.kind c.args.hash_kind c.args.bytes.now signature signed
    has
