-- The content follows the header and has the length that the header states.
use Rattle.std.proofs.Common.{refl}
use Rattle.gixobj_hash.proofs.Contents.{has_content_of_header, begins_with_header_of_rest}
use Rattle.gixobj_hash.proofs.decode.loose_content.Goals as goal

pub returns-then-size-following-clause-error : goal.returns-then-size-following-clause-error
returns-then-size-following-clause-error c =
    (c.in_ok-kind.kind, _, begins_with_header_of_rest _ _ _ _ c.in_ok-kind.ensures.found, c.if-size-following.true)

pub returns-clause-found : goal.returns-clause-found
returns-clause-found c = has_content_of_header _ _ _ _ _ (begins_with_header_of_rest _ _ _ _ c.in_ok-kind.ensures.found) c.if-size-following.false refl
