use Rattle.gixobj_tag.proofs.Recognized.{is_tag, some_tag}
use Rattle.gixobj_tag.proofs.laws.tags.tag_recognition_agrees.Goals as goal

pub returns-clause-decodes : goal.returns-clause-decodes
returns-clause-decodes c = some_tag

pub returns-clause-recognized : goal.returns-clause-recognized
returns-clause-recognized c = is_tag
