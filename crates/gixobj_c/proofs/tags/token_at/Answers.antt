-- The parts of a body are at the end of the tag.
use Rattle.gixobj_c.proofs.TagParts.{parts_of_body, token_of_variant}
use Rattle.gixobj_c.proofs.tags.token_at.Goals as goal

pub body_token-requires : goal.body_token-requires
body_token-requires c = parts_of_body c.args.tag.now c.args.offset _ _ c.args.rest.now
    (token_of_variant c.args.tag.now c.args.offset _ _ c.args.rest.now c.in-Body.is c.requires)
