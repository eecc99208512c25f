-- Decoded commits re-encode identically; the laws `commit_reencodes_identically` and `commit_decode_encode_agree` use it.
use Rattle.std.proofs.Common.{◌≡◌, ◌≢◌, ℕ, List, [], ◌∷◌, ◌++◌, All, Option, Some, None, map, refl, ap, sym, ◌∙◌, inl, inr, codes}
use Rattle.std.specs.List.{AllPass, flat_map}
use Rattle.std.specs.Str.{str_to_ascii_lowercase}
use Rattle.std.proofs.lemmas.List.Elements.{All-head, All-tail}
use Rattle.gixobj_hash.specs.Hash.{is_lower_hex_digit}
use Rattle.gixobj_hash.specs.HeaderFormat.{Header}
use Rattle.gixobj_hash.specs.FieldFormat.{encode_field}
use Rattle.gixobj_streams.specs.Writing.{RejectedValue, RejectsNothing}
use Rattle.gixobj_hash.specs.declared.hash.kind.Kind.{Kind}
use Rattle.gixobj_encode.proofs.FieldWrites.{no_byte_of_byte_free}
use Rattle.gixobj_encode.proofs.HeadersRoundTrip.{header_round_trips}
use Rattle.gixobj_hash.proofs.HexCase.{lower_case_of_lower_hex}
use Rattle.gixobj_grammar.specs.Commit.{DecodesToHeaders, CommitLines, DecodesToCommit, IsEncoding, encode_encoding, encode_parent}
use Rattle.gixobj_commit.specs.CommitWriting.{IsMessageEncodingError, IsCommitLinesError, encode_commit, in_lower_case}
use Rattle.gixobj_encode.specs.FieldWriting.{encode_header}

encode_decoded_headers : (bytes : List ℕ) (headers : List Header) → DecodesToHeaders bytes headers → flat_map encode_header headers ≡ bytes
encode_decoded_headers bytes [] none = sym none
encode_decoded_headers bytes (header ∷ headers) (first, rest, joined, one, more) =
    ap (λ (it : List ℕ). it ++ flat_map encode_header headers) (header_round_trips first header one)
    ∙ ap (λ (it : List ℕ). first ++ it) (encode_decoded_headers rest headers more)
    ∙ sym joined

-- ---- a commit

all_lower_case_of_lower_hex : (encodings : List (List ℕ)) → All (λ bytes. AllPass is_lower_hex_digit bytes) encodings
    → map str_to_ascii_lowercase encodings ≡ encodings
all_lower_case_of_lower_hex [] lower = refl
all_lower_case_of_lower_hex (bytes ∷ encodings) lower =
    let P : List ℕ → Type 0 = λ it. AllPass is_lower_hex_digit it in
    let first = lower_case_of_lower_hex bytes (All-head P bytes encodings lower) in
    let rest = all_lower_case_of_lower_hex encodings (All-tail P bytes encodings lower) in
    cc (first, rest)

-- the encoding of a commit, from its parts
abbrev of_parts : List ℕ → List (List ℕ) → CommitLines → List ℕ → List ℕ
of_parts tree parents commit headers = encode_field (codes "tree") tree ++ flat_map encode_parent parents
    ++ encode_field (codes "author") commit.author ++ encode_field (codes "committer") commit.committer
    ++ encode_encoding commit.encoding ++ headers ++ 10 ∷ commit.message

-- a decoded commit re-encodes identically if its ids are in lower case
pub commit_reencodes_identically : (kind : Kind) (bytes : List ℕ) (commit : CommitLines) → DecodesToCommit kind bytes commit
    → AllPass is_lower_hex_digit commit.tree → All (λ hex. AllPass is_lower_hex_digit hex) commit.parents → encode_commit (in_lower_case commit) ≡ bytes
commit_reencodes_identically kind bytes commit it tree parents =
    ap (λ (hex : List ℕ). of_parts hex (map str_to_ascii_lowercase commit.parents) commit (flat_map encode_header commit.extra_headers))
    (lower_case_of_lower_hex commit.tree tree)
    ∙ ap (λ (hexes : List (List ℕ)). of_parts commit.tree hexes commit (flat_map encode_header commit.extra_headers))
    (all_lower_case_of_lower_hex commit.parents parents)
    ∙ ap (λ (headers : List ℕ). of_parts commit.tree commit.parents commit headers)
    (encode_decoded_headers it.headers_encoding commit.extra_headers it.extra_headers)
    ∙ sym it.joined

encoding_rejects_nothing : (encoding : Option (List ℕ)) (headers : List Header) → IsEncoding encoding headers → encoding ≢ Some [] → (value : RejectedValue)
    → IsMessageEncodingError encoding value → ⊥
encoding_rejects_nothing None headers is some value rejected = rejected
encoding_rejects_nothing (Some encoding) headers is some value (inl (none, same)) = some (ap Some none)
encoding_rejects_nothing (Some encoding) headers is some value (inr (has, same)) = no_byte_of_byte_free 10 encoding is has

-- the encoder of a decoded commit rejects only an empty message encoding
pub decoded_commit_rejects_nothing : (kind : Kind) (bytes : List ℕ) (commit : CommitLines) → DecodesToCommit kind bytes commit → commit.encoding ≢ Some []
    → RejectsNothing (IsCommitLinesError (in_lower_case commit))
decoded_commit_rejects_nothing kind bytes commit it some value parts rejected =
    encoding_rejects_nothing commit.encoding commit.extra_headers it.encoding some value rejected.0
