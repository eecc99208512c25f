-- An unknown kind is an error of the header, and so is an invalid size after a kind; used by the proofs of
-- `decode_kind` and `decode_size_part`.
use Rattle.std.proofs.Common.{◌≡◌, ◌+◌, ◌∙◌, inl, inr, ℕ, List, ◌∷◌, ◌++◌, length, ap, arith, subst, sym}
use Rattle.bstr.specs.Owned.{bstring_bytes}
use Rattle.gixobj_hash.proofs.Headers.{loose_header_of_parts}
use Rattle.gixobj_hash.specs.Decode.{DecodesToSize, HasLooseHeaderOfLength, HasSizeFault, IsLooseHeaderError, IsSizeError}
use Rattle.gixobj_hash.specs.Decode.Errors.{header_error}
use Rattle.gixobj_hash.specs.Kind.{IsUnknownKindName, kind_name}
use Rattle.gixobj_hash.specs.Kind.NameError.{IsKindNameError}
use Rattle.gixobj_hash.specs.ByteStrings.{SplitsAt}
use Rattle.gixobj_hash.specs.declared.decode.LooseHeaderDecodeError.{LooseHeaderDecodeError}
use Rattle.gixobj_hash.specs.declared.decode.LooseHeaderDecodeError.TheVariants.{InvalidHeader, ObjectHeader, OutOfMemory, ParseIntegerError}
use Rattle.gixobj_hash.specs.declared.kind.Error as kind
use Rattle.gixobj_hash.specs.declared.kind.Error.TheVariants as kind_error
use Rattle.gixobj_hash.specs.declared.kind.Kind.{Kind}

pub header_error_of_name_error : (input token after : List ℕ) (e : kind.Error) → SplitsAt 32 input token after → IsKindNameError token e
    → IsLooseHeaderError input (header_error e)
header_error_of_name_error input token after (kind_error.InvalidObjectKind copy) split (unknown, same) = (
  after,
  subst (λ (it : List ℕ). SplitsAt 32 input it after) (sym same) split,
  subst IsUnknownKindName (sym same) unknown,
)
header_error_of_name_error input token after kind_error.OutOfMemory split unknown = inl (token, (after, split, unknown))

pub header_error_of_size_error : (input : List ℕ) (kind : Kind) (after bytes rest : List ℕ) (e : LooseHeaderDecodeError)
    → input ≡ kind_name kind ++ 32 ∷ after → SplitsAt 0 after bytes rest → IsSizeError bytes e → IsLooseHeaderError input e
header_error_of_size_error input kind after bytes rest (ParseIntegerError fault message copy) joined split (has, same) = (
  kind,
  after,
  rest,
  joined,
  subst (λ (it : List ℕ). SplitsAt 0 after it rest) (sym same) split,
  subst (λ (it : List ℕ). HasSizeFault it fault) (sym same) has,
)
header_error_of_size_error input kind after bytes rest OutOfMemory joined split (fault, has) = inr (bytes, fault, (kind, after, rest, joined, split, has))
header_error_of_size_error input kind after bytes rest (InvalidHeader message) joined split never = absurd never
header_error_of_size_error input kind after bytes rest (ObjectHeader error) joined split never = absurd never

-- a kind, a space, a size and a zero byte are a header
pub header_of_size : (input : List ℕ) (kind : Kind) (after bytes rest : List ℕ) (size : ℕ) → input ≡ kind_name kind ++ 32 ∷ after
    → SplitsAt 0 after bytes rest → DecodesToSize bytes size
    → HasLooseHeaderOfLength input kind size (length (kind_name kind) + (length bytes + 2))
header_of_size input kind after bytes rest size joined split decodes =
    loose_header_of_parts input kind size (length (kind_name kind) + (length bytes + 2)) record {
      size_bytes = bytes;
      rest = rest;
      joined = joined ∙ ap (λ (it : List ℕ). kind_name kind ++ 32 ∷ it) split.joined;
      decodes = decodes;
      len = omega arith;
    }
