-- Results of the call about the header of a loose object (gitformat-loose, "Loose object format").
use Rattle.std.specs.Prelude.{◌≡◌, ◌⊎◌, ◌∷◌, ◌++◌, ℕ, List}
use Rattle.gixobj_c_codes.specs.Codes.{done, invalid_size, kind_code, malformed, unknown_kind}
use Rattle.gixobj_c.specs.declared.loose.LooseHeader.{LooseHeader}
use Rattle.gixobj_hash.specs.Bytes.{space}
use Rattle.gixobj_hash.specs.ByteStrings.{IsByteFree, SplitsAt}
use Rattle.gixobj_hash.specs.Decode.{DecodesToSize, HasLooseHeaderOfLength, HasNoZeroByte, HasUnknownKind}
use Rattle.gixobj_hash.specs.Kind.{kind_name}
use Rattle.gixobj_hash.specs.declared.kind.Kind.{Kind}

-- the bytes decode to no size
abbrev pub IsInvalidSize : List ℕ → Type 0
IsInvalidSize bytes = (size : ℕ) → ¬ DecodesToSize bytes size

-- a kind's name and a space come first, and the bytes between them and the next zero byte are an invalid size
pub record HasInvalidSize (input : List ℕ) : Type 0 where
  pub kind : Kind
  pub after : List ℕ
  pub bytes : List ℕ
  pub rest : List ℕ
  pub joined : input ≡ kind_name kind ++ space ∷ after
  pub split : SplitsAt 0 after bytes rest
  pub invalid : IsInvalidSize bytes

-- why the input begins with no loose header
abbrev pub IsLooseHeaderStatus : List ℕ → ℕ → Type 0
IsLooseHeaderStatus input status = ((status ≡ malformed) × (IsByteFree space input ⊎ HasNoZeroByte input))
    ⊎ (((status ≡ unknown_kind) × ((token : List ℕ) × HasUnknownKind input token))
    ⊎ ((status ≡ invalid_size) × HasInvalidSize input))

-- the loose header with which the input begins, or why there is none
abbrev pub IsLooseHeaderCall : List ℕ → LooseHeader → LooseHeader → ℕ → Type 0
IsLooseHeaderCall input before after status =
    ((status ≡ done)
    × ((kind : Kind) × HasLooseHeaderOfLength input kind after.size after.len × (after.kind ≡ kind_code kind)))
    ⊎ (IsLooseHeaderStatus input status × (after ≡ before))
