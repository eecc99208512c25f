use Rattle.gixobj_fsck_object_laws.proofs.CleanTags as law
use Rattle.gixobj_fsck_object_laws.proofs.laws.clean_tag_decodes.Goals as goal

pub returns : goal.returns
returns c = law.tag_of_clean
