-- Header fields of commits and tags (gitdatamodel, "commits" and "tag objects"; gitformat-signature,
-- "Commit signatures").
use Rattle.std.specs.Prelude.{◌≡◌, ◌≢◌, ℕ, List, [], ◌∷◌, ◌++◌, All, ⊤}
use Rattle.std.specs.List.{flat_map}
use Rattle.gixobj_hash.specs.ByteStrings.{IsByteFree}
use Rattle.gixobj_hash.specs.Bytes.{newline, space}
use Rattle.gixobj_hash.specs.FieldFormat.{encode_field, encode_line}

-- a continuation line of a header: a space and the line
abbrev pub encode_continuation : List ℕ → List ℕ
encode_continuation line = space ∷ encode_line line

-- the input begins with the field of this name and this value, which has no newline, and the rest follows
pub record BeginsWithField (name input value rest : List ℕ) : Type 0 where
  pub joined : input ≡ encode_field name value ++ rest
  pub one_line : IsByteFree newline value

-- the input does not begin with a field of this name
abbrev pub BeginsWithNoField : List ℕ → List ℕ → Type 0
BeginsWithNoField name input = (value rest : List ℕ) → ¬ BeginsWithField name input value rest

-- the input does not begin with this name and a space
abbrev pub BeginsWithOtherName : List ℕ → List ℕ → Type 0
BeginsWithOtherName name input = (rest : List ℕ) → input ≢ name ++ space ∷ rest

-- a header: a name, and a value of one line or of several
pub record Header : Type 0 where
  pub name : List ℕ
  pub value : List ℕ

-- a valid name of a header: not empty, and without space and newline
pub record IsHeaderName (name : List ℕ) : Type 0 where
  pub not_empty : name ≢ []
  pub no_space : IsByteFree space name
  pub no_newline : IsByteFree newline name

-- the value of a header with these lines: a single line without its newline, or all the lines with their newlines
abbrev pub value_of_lines : List ℕ → List (List ℕ) → List ℕ
value_of_lines first [] = first
value_of_lines first (second ∷ more) = flat_map encode_line (first ∷ second ∷ more)

-- the bytes are the encoding of the header: its name, a space, its first line and its continuation lines
pub record DecodesToHeader (encoded : List ℕ) (header : Header) : Type 0 where
  pub first : List ℕ
  pub more : List (List ℕ)
  pub joined : encoded ≡ header.name ++ space ∷ encode_line first ++ flat_map encode_continuation more
  pub named : IsHeaderName header.name
  pub one_line : IsByteFree newline first
  pub each_one_line : All (λ line. IsByteFree newline line) more
  pub value : header.value ≡ value_of_lines first more

-- the input does not begin with a continuation line, so the header before it has ended
abbrev pub EndsHeader : List ℕ → Type 0
EndsHeader [] = ⊤
EndsHeader (byte ∷ rest) = byte ≢ space

-- the input begins with all lines of this header, and the rest follows
pub record BeginsWithHeader (input : List ℕ) (header : Header) (rest : List ℕ) : Type 0 where
  pub encoded : List ℕ
  pub joined : input ≡ encoded ++ rest
  pub written : DecodesToHeader encoded header
  pub ends : EndsHeader rest

-- the input does not begin with a header
abbrev pub BeginsWithNoHeader : List ℕ → Type 0
BeginsWithNoHeader input = (header : Header) (rest : List ℕ) → ¬ BeginsWithHeader input header rest

-- the input begins with the name of a header and its first line
pub record BeginsWithHeaderLine (input : List ℕ) : Type 0 where
  pub name : List ℕ
  pub first : List ℕ
  pub rest : List ℕ
  pub joined : input ≡ encode_field name first ++ rest
  pub named : IsHeaderName name
  pub one_line : IsByteFree newline first

-- the input begins with the name of a header, its first line, and the space that begins a continuation line
pub record BeginsWithSeveralLines (input : List ℕ) : Type 0 where
  pub name : List ℕ
  pub first : List ℕ
  pub rest : List ℕ
  pub joined : input ≡ encode_field name first ++ space ∷ rest
  pub named : IsHeaderName name
  pub one_line : IsByteFree newline first
