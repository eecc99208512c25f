-- The error of an encoding to an empty list is that of a write.
use Rattle.std.proofs.Common.{◌≡◌, ℕ, Err, List, [], refl}
use Rattle.std.specs.declared.alloc.Global.{Global}
use Rattle.std.specs.declared.vec.Vec.{Vec}
use Rattle.gixobj_streams.specs.Streams.{list_view}
use Rattle.gixobj_streams.specs.Writing.{IsWritingError, RejectedValue}
use Rattle.gixobj_streams.specs.declared.encode.Error as encode
use Rattle.gixobj_store_keep.specs.declared.write.Error.TheVariants.{Encode}
use Rattle.gixobj_store_find.specs.Writers.{CannotEncode}

pub cannot_encode_to_list : (Rejects : RejectedValue → List ℕ → Type 0) (content : List ℕ) (before after : Vec ℕ Global) (cause : encode.Error)
    → before.items ≡ [] → IsWritingError Rejects (list_view before) (list_view after) content cause → CannotEncode Rejects content (Err (Encode cause))
cannot_encode_to_list Rejects content before after cause empty is = (cause, refl, (before, after, empty, is))
