-- The error of a loose object's content is an error of the object.
use Rattle.std.proofs.Common.{ℕ, List, inl, inr, subst, sym}
use Rattle.gixobj_hash.specs.Decode.{IsLooseContentError}
use Rattle.gixobj_hash.specs.declared.decode.LooseContentError.{LooseContentError}
use Rattle.gixobj_hash.specs.declared.decode.LooseContentError.TheVariants as content
use Rattle.gixobj_hash.specs.declared.hash.kind.Kind as hash
use Rattle.gixobj_object.specs.LooseObjects.{ConvertsContentError, IsTooLarge, IsLooseObjectError}
use Rattle.gixobj_object.specs.declared.object.borrowed.decode.LooseDecodeError.{LooseDecodeError}
use Rattle.gixobj_object.specs.declared.object.borrowed.decode.LooseDecodeError.TheVariants.{InvalidContent, InvalidHeader, OutOfMemory}

pub loose_object_error_of_header : (kinds : hash.Kind) (input : List ℕ) (cause : LooseContentError) (error : LooseDecodeError)
    → IsLooseContentError input cause → ConvertsContentError cause error → IsLooseObjectError kinds input error
loose_object_error_of_header kinds input (content.Header cause) error rejected is =
    subst (λ (it : LooseDecodeError). IsLooseObjectError kinds input it) (sym is) (inl rejected)
loose_object_error_of_header kinds input (content.Short size) (InvalidHeader error) (kind, rest, begins, less) is = inr ((kind, size, rest, begins, less), is)
loose_object_error_of_header kinds input (content.Short size) (OutOfMemory said) (kind, rest, begins, less) is =
    subst (λ (it : ℕ). IsTooLarge input it) (sym is.1) (kind, rest, begins, is.0)
loose_object_error_of_header kinds input (content.Short size) (InvalidContent error) rejected is = absurd is
