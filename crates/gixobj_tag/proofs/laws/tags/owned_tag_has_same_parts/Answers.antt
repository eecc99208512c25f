use Rattle.gixobj_tag.proofs.Reencoded.{owned_parts_are_normalized, owned_error_is_normalized}
use Rattle.gixobj_tag.proofs.laws.tags.owned_tag_has_same_parts.Goals as goal

pub returns-clause-parts : goal.returns-clause-parts
returns-clause-parts c = owned_parts_are_normalized

pub returns-clause-error : goal.returns-clause-error
returns-clause-error c = owned_error_is_normalized
