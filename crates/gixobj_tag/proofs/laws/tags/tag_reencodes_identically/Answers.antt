use Rattle.gixobj_tag.proofs.Reencoded.{tag_reencodes_identically}
use Rattle.gixobj_tag.proofs.laws.tags.tag_reencodes_identically.Goals as goal

pub returns-clause-same_bytes : goal.returns-clause-same_bytes
returns-clause-same_bytes c = tag_reencodes_identically
