use Rattle.gixobj_examples_audits.proofs.PathEntries.{leads_to_unique}
use Rattle.gixobj_examples_audits.proofs.laws.path_leads_to_one_entry.Goals as goal

pub returns : goal.returns
returns c = leads_to_unique c.tree_decodes_uniquely.ensures.one_entry
