-- An input begins with at most one loose header, and an input that begins with one is accepted. The proofs of
-- `Kind::from_bytes` and `loose_header` use it, as do those of tags, tag tokens and the program's `show`.
use Rattle.std.proofs.Common.{◌≡◌, ◌<◌, ◌+◌, inl, inr, ℕ, List, [], ◌∷◌, ◌++◌, length, take, drop, slice_index, subst, arith, refl, ap, sym, ◌∙◌, append_assoc}
use Rattle.std.proofs.Common.{length-append}
use Rattle.std.proofs.Math.Seq.{take-append_seam}
use Rattle.std.proofs.lemmas.List.{take-append-drop, length-take-le}
use Rattle.bstr.specs.Owned.{bstring_bytes}
use Rattle.gixobj_hash.proofs.DecodedSizes.{no_size_fault_of_digits, size_bytes_zero_free, decimal_decodes_to_size}
use Rattle.gixobj_hash.proofs.Splits.{byte_free_of_all_pass, no_split_of_byte_free, split_parts_unique}
use Rattle.std.specs.Prelude.{◌^◌, ◌==◌, decimal, if◌then◌else◌, IfErr, IfOk, Result, Ok, Err}
use Rattle.gixobj_hash.specs.Decode.{HasFaultySize, HasLooseHeaderOfLength, HasSizeFault, HasUnknownKind, DecodesToSize, IsLooseHeaderError}
use Rattle.gixobj_hash.specs.Encode.{encode_loose_header}
use Rattle.gixobj_hash.specs.Kind.{kind_name}
use Rattle.gixobj_hash.specs.ByteStrings.{IsByteFree}
use Rattle.gixobj_hash.specs.declared.decode.LooseHeaderDecodeError.{LooseHeaderDecodeError}
use Rattle.gixobj_hash.specs.declared.decode.LooseHeaderDecodeError.TheVariants.{InvalidHeader, ObjectHeader, OutOfMemory, ParseIntegerError}
use Rattle.gixobj_hash.specs.declared.decode.ParseIntegerErrorKind.{ParseIntegerErrorKind}
use Rattle.gixobj_hash.specs.declared.kind.Error.TheVariants as kind_error
use Rattle.gixobj_hash.specs.declared.kind.Kind.{Kind}
use Rattle.gixobj_hash.specs.declared.kind.Kind.TheVariants.{Tree, Blob, Commit, Tag}

-- the kind of a name, by its length and its first byte
kind_of_name : List ℕ → Kind
kind_of_name token = if length token == 3 then Tag else if length token == 6 then Commit else if slice_index token 0 == 98 then Blob else Tree

kind_of_name-kind_keyword : (kind : Kind) → kind_of_name (kind_name kind) ≡ kind
unfolding kind_of_name
kind_of_name-kind_keyword Tree = refl
kind_of_name-kind_keyword Blob = refl
kind_of_name-kind_keyword Commit = refl
kind_of_name-kind_keyword Tag = refl

pub kind_keyword_injective : (a b : Kind) → kind_name a ≡ kind_name b → a ≡ b
kind_keyword_injective a b same = sym (kind_of_name-kind_keyword a) ∙ ap kind_of_name same ∙ kind_of_name-kind_keyword b

-- the name of a kind has no space
kind_name_is_space_free : (kind : Kind) → IsByteFree 32 (kind_name kind)
kind_name_is_space_free Tree = byte_free_of_all_pass 32 (kind_name Tree) refl
kind_name_is_space_free Blob = byte_free_of_all_pass 32 (kind_name Blob) refl
kind_name_is_space_free Commit = byte_free_of_all_pass 32 (kind_name Commit) refl
kind_name_is_space_free Tag = byte_free_of_all_pass 32 (kind_name Tag) refl

-- an input that begins with a loose header, with the parts of the header
pub record Parts (input : List ℕ) (kind : Kind) (size used : ℕ) : Type 0 where
  pub size_bytes : List ℕ
  pub rest : List ℕ
  pub joined : input ≡ kind_name kind ++ 32 ∷ (size_bytes ++ 0 ∷ rest)
  pub decodes : DecodesToSize size_bytes size
  pub len : used ≡ length (kind_name kind) + length size_bytes + 2

loose_header_append_assoc : (token size_bytes rest : List ℕ) → ((token ++ 32 ∷ size_bytes) ++ 0 ∷ []) ++ rest ≡ token ++ 32 ∷ (size_bytes ++ 0 ∷ rest)
loose_header_append_assoc token size_bytes rest = simp append_assoc

loose_header_len : (token size_bytes : List ℕ) → length ((token ++ 32 ∷ size_bytes) ++ 0 ∷ []) ≡ length token + length size_bytes + 2
loose_header_len token size_bytes = simp length-append (omega arith)

pub parts_of_loose_header : (input : List ℕ) (kind : Kind) (size used : ℕ) → HasLooseHeaderOfLength input kind size used → Parts input kind size used
parts_of_loose_header input kind size used header =
    let prefix = header.1 in
    record {
      size_bytes = prefix.size_bytes;
      rest = drop used input;
      joined = sym (take-append-drop used input) ∙ ap (λ taken. taken ++ drop used input) prefix.joined
          ∙ loose_header_append_assoc (kind_name kind) prefix.size_bytes
          (drop used input);
      decodes = prefix.decodes;
      len = sym (length-take-le used input header.0) ∙ ap length prefix.joined ∙ loose_header_len (kind_name kind) prefix.size_bytes;
    }

pub loose_header_of_parts : (input : List ℕ) (kind : Kind) (size used : ℕ) → Parts input kind size used → HasLooseHeaderOfLength input kind size used
loose_header_of_parts input kind size used parts =
    let prefix = (kind_name kind ++ 32 ∷ parts.size_bytes) ++ 0 ∷ [] in
    let entire : input ≡ prefix ++ parts.rest = parts.joined ∙ sym (loose_header_append_assoc (kind_name kind) parts.size_bytes parts.rest) in
    let len : used ≡ length prefix = parts.len ∙ sym (loose_header_len (kind_name kind) parts.size_bytes) in
    let taken : take used input ≡ prefix = ap (λ n. take n input) len ∙ ap (take (length prefix)) entire ∙ take-append_seam prefix parts.rest in
    (omega (arith, length-append prefix parts.rest, ap length entire), record { size_bytes = parts.size_bytes; joined = taken; decodes = parts.decodes })

-- each split of the input at the space and the zero byte has the header's parts
parts_unique : (input : List ℕ) (kind : Kind) (size used : ℕ) (parts : Parts input kind size used) (other : Kind) (after : List ℕ)
    → input ≡ kind_name other ++ 32 ∷ after → (kind ≡ other) × (after ≡ parts.size_bytes ++ 0 ∷ parts.rest)
parts_unique input kind size used parts other after joined =
    let same_parts = split_parts_unique 32 (kind_name kind) (parts.size_bytes ++ 0 ∷ parts.rest) (kind_name other) after (kind_name_is_space_free kind)
    (kind_name_is_space_free other)
    (sym parts.joined ∙ joined) in
    (kind_keyword_injective kind other same_parts.0, sym same_parts.1)

pub loose_header_unique : (input : List ℕ) (kind : Kind) (size used : ℕ) (other : Kind) (size' used' : ℕ)
    → Parts input kind size used → Parts input other size' used' → (kind ≡ other) × (size ≡ size') × (used ≡ used')
loose_header_unique input kind size used other size' used' first second =
    let same = parts_unique input kind size used first other (second.size_bytes ++ 0 ∷ second.rest) second.joined in
    let same_parts = split_parts_unique 0 second.size_bytes second.rest first.size_bytes first.rest
    (size_bytes_zero_free second.size_bytes size' second.decodes)
    (size_bytes_zero_free first.size_bytes size first.decodes) same.1 in (
      same.0,
      cc (first.decodes.value, second.decodes.value, same_parts.0),
      cc (first.len, second.len, same_parts.0, same.0),
    )

no_unknown_kind_of_parts : (input : List ℕ) (kind : Kind) (size used : ℕ) (token : List ℕ) → Parts input kind size used → HasUnknownKind input token → ⊥
no_unknown_kind_of_parts input kind size used token parts unknown =
    let same_parts = split_parts_unique 32 token unknown.0 (kind_name kind) (parts.size_bytes ++ 0 ∷ parts.rest) unknown.1.first (kind_name_is_space_free kind)
    (sym unknown.1.joined ∙ parts.joined) in
    unknown.2 kind same_parts.0

no_size_fault_of_parts : (input : List ℕ) (kind : Kind) (size used : ℕ) (size_bytes : List ℕ) (fault : ParseIntegerErrorKind) → Parts input kind size used
    → HasFaultySize input size_bytes fault → ⊥
no_size_fault_of_parts input kind size used size_bytes fault parts faulty =
    let same = parts_unique input kind size used parts faulty.0 faulty.1 faulty.3 in
    let same_parts = split_parts_unique 0 size_bytes faulty.2 parts.size_bytes parts.rest faulty.4.first
    (size_bytes_zero_free parts.size_bytes size parts.decodes)
    (sym faulty.4.joined ∙ same.1) in
    no_size_fault_of_digits parts.size_bytes size fault parts.decodes (let P : List ℕ → Type 0 = λ it. HasSizeFault it fault in subst P same_parts.0 faulty.5)

pub no_error_of_loose_header : (input : List ℕ) (kind : Kind) (size used : ℕ) (error : LooseHeaderDecodeError) → Parts input kind size used
    → IsLooseHeaderError input error
    → ⊥
no_error_of_loose_header input kind size used (InvalidHeader message) parts (inl free) =
    no_split_of_byte_free 32 (kind_name kind) (parts.size_bytes ++ 0 ∷ parts.rest) (let P : List ℕ → Type 0 = IsByteFree 32 in subst P parts.joined free)
no_error_of_loose_header input kind size used (InvalidHeader message) parts (inr lacks) =
    let same = parts_unique input kind size used parts lacks.0 lacks.1 lacks.2 in
    no_split_of_byte_free 0 parts.size_bytes parts.rest (let P : List ℕ → Type 0 = IsByteFree 0 in subst P same.1 lacks.3)
no_error_of_loose_header input kind size used (ObjectHeader (kind_error.InvalidObjectKind copy)) parts unknown =
    no_unknown_kind_of_parts input kind size used (bstring_bytes copy) parts unknown
no_error_of_loose_header input kind size used (ObjectHeader kind_error.OutOfMemory) parts never = never
no_error_of_loose_header input kind size used (ParseIntegerError fault message copy) parts faulty =
    no_size_fault_of_parts input kind size used (bstring_bytes copy) fault parts faulty
no_error_of_loose_header input kind size used OutOfMemory parts (inl (size_bytes, unknown)) =
    no_unknown_kind_of_parts input kind size used size_bytes parts unknown
no_error_of_loose_header input kind size used OutOfMemory parts (inr faulty) = no_size_fault_of_parts input kind size used faulty.0 faulty.1 parts faulty.2

-- a decoder whose results and errors are right accepts each header
pub decode_header_of_loose_header : (input : List ℕ) (result : Result (Kind × ℕ × ℕ) LooseHeaderDecodeError)
    → IfOk result (λ header. HasLooseHeaderOfLength input header.0 header.1 header.2) → IfErr result (IsLooseHeaderError input)
    → (kind : Kind) (size used : ℕ) → HasLooseHeaderOfLength input kind size used → result ≡ Ok (kind, size, used)
decode_header_of_loose_header input (Ok (kind', size', used')) found failure kind size used header =
    let same = loose_header_unique _ _ _ _ _ _ _ (parts_of_loose_header _ kind' size' used' found) (parts_of_loose_header _ kind size used header) in
    cc (same.0, same.1, same.2)
decode_header_of_loose_header input (Err error) found failure kind size used header =
    absurd (no_error_of_loose_header _ kind size used error (parts_of_loose_header _ kind size used header) failure)

pub encode_loose_header_decodes : (kind : Kind) (size : ℕ) (rest : List ℕ) → size < 2 ^ 64
    → HasLooseHeaderOfLength (encode_loose_header kind size ++ rest) kind size (length (encode_loose_header kind size))
encode_loose_header_decodes kind size rest fits =
    let header_bytes = encode_loose_header kind size in (
      omega (arith, length-append header_bytes rest),
      record {
        size_bytes = decimal size;
        joined = take-append_seam header_bytes rest;
        decodes = decimal_decodes_to_size size fits;
      },
    )
