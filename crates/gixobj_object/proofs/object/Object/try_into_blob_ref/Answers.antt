use Rattle.std.proofs.Common.{rules}
use Rattle.gixobj_object.proofs.object.Object.try_into_blob_ref.Goals as goal

pub returns-in-Blob : goal.returns-in-Blob
returns-in-Blob c = search rules
