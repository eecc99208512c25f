use Rattle.gixobj_codec.proofs.Reencoding.{no_actor_error_of_decoded, owned_parts_are_normalized, owned_error_is_normalized}
use Rattle.gixobj_codec.proofs.laws.commits.owned_commit_has_same_parts.Goals as goal

pub returns-clause-parts : goal.returns-clause-parts
returns-clause-parts c = owned_parts_are_normalized

pub returns-clause-owned : goal.returns-clause-owned
returns-clause-owned c = no_actor_error_of_decoded

pub returns-clause-error : goal.returns-clause-error
returns-clause-error c = owned_error_is_normalized
