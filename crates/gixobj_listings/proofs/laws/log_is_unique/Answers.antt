use Rattle.gixobj_listings.proofs.UniqueLogs.{logs_are_unique}
use Rattle.gixobj_listings.proofs.laws.log_is_unique.Goals as goal

pub returns : goal.returns
returns c = logs_are_unique c.commit_decodes_uniquely.ensures c.actor_line_decodes_uniquely.ensures.one_actor c.hex_decodes_uniquely.ensures.no_other
