-- States which parts an owned copy has, and why encoding it fails; the law `owned_commit_has_same_parts` uses it.
use Rattle.std.proofs.Common.{◌≡◌, ◌⊎◌, inl, inr, ℕ, List, [], ◌∷◌, Option, Some, None, refl, ap, subst}
use Rattle.std.specs.Prelude.{map}
use Rattle.std.specs.List.{AllZip}
use Rattle.std.specs.Str.{str_to_ascii_lowercase}
use Rattle.std.proofs.lemmas.List.Elements.{All-contains}
use Rattle.bstr.specs.Owned.{bstring_bytes}
use Rattle.gixobj_actor.proofs.OwnedActors.{encode_owned_actor_is_canonical, is_unwritable_of_error}
use Rattle.gixobj_actor.specs.ActorWriting.{IsUnwritable}
use Rattle.gixobj_hash.specs.Hash.{DecodesToId, encode_id_hex}
use Rattle.gixobj_hash.specs.HeaderFormat.{Header}
use Rattle.gixobj_streams.specs.Streams.{SinkView}
use Rattle.gixobj_streams.specs.Writing.{RejectedValue, IsWritingError, bad_name, empty_header, header_with_newline, illegal_actor, name_with_dash}
use Rattle.gixobj_streams.specs.Writing.{name_with_zero_byte}
use Rattle.gixobj_hash.specs.declared.decode.Error.TheVariants.{Malformed}
use Rattle.gixobj_streams.specs.declared.encode.Error.{Error}
use Rattle.gixobj_streams.specs.declared.encode.Error.TheVariants as encode
use Rattle.gixobj_hash.specs.declared.hash.kind.Kind.{Kind}
use Rattle.gixobj_hash.specs.declared.hash.object_id.ObjectId.{ObjectId}
use Rattle.gixobj_hash.proofs.HexCase.{encode_id_hex_lower_case}
use Rattle.gixobj_grammar.specs.Commit.{CommitLines, DecodesToCommit, IsEncoding}
use Rattle.gixobj_commit.specs.CommitOwned.{IsOwnedFormOfCommit, IsIntoOwnedCommitError}
use Rattle.gixobj_commit.specs.CommitViews.{owned_commit_lines}
use Rattle.gixobj_commit.specs.CommitWriting.{IsMessageEncodingError, IsOwnedCommitError, encode_commit}
use Rattle.gixobj_commit.specs.Rewriting.{AreNormalizedPartsOfCommit, HasEmptyEncoding, IsNormalizedCommitError}
use Rattle.gixobj_commit.specs.declared.commit.Commit.{Commit}

-- ---- the owned copy

encode_decoded_ids_lower_case : (hexes : List (List ℕ)) (ids : List ObjectId) → AllZip DecodesToId hexes ids
    → map encode_id_hex ids ≡ map str_to_ascii_lowercase hexes
encode_decoded_ids_lower_case [] [] are = refl
encode_decoded_ids_lower_case [] (id ∷ ids) are = absurd are
encode_decoded_ids_lower_case (hex ∷ hexes) [] are = absurd are
encode_decoded_ids_lower_case (hex ∷ hexes) (id ∷ ids) are = let one = encode_id_hex_lower_case hex id are.0 in let more =
    encode_decoded_ids_lower_case hexes ids are.1 in cc (one, more)

pub owned_parts_are_normalized : (lines : CommitLines) (commit : Commit) → IsOwnedFormOfCommit lines commit
    → AreNormalizedPartsOfCommit lines (owned_commit_lines commit)
owned_parts_are_normalized lines commit is =
    record {
      tree = encode_id_hex_lower_case lines.tree commit.tree is.tree;
      parents = encode_decoded_ids_lower_case lines.parents commit.parents.items is.parents;
      author = encode_owned_actor_is_canonical lines.author commit.author is.author;
      committer = encode_owned_actor_is_canonical lines.committer commit.committer is.committer;
      encoding = is.encoding;
      extra_headers = is.extra_headers;
      message = is.message;
    }

-- ---- errors

-- what is rejected of the message encoding of a decoded commit
encoding_error_is_empty_header : (encoding : Option (List ℕ)) (headers : List Header) (value : RejectedValue) → IsEncoding encoding headers
    → IsMessageEncodingError encoding value
    → (value ≡ empty_header) × (encoding ≡ Some [])
encoding_error_is_empty_header None headers value is rejected = absurd rejected
encoding_error_is_empty_header (Some encoding) headers value is (inl (none, is_empty)) = (is_empty, ap (λ (it : List ℕ). Some it) none)
encoding_error_is_empty_header (Some encoding) headers value is (inr (has, is_newline)) =
    absurd (All-contains (λ (it : ℕ). it ≡ 10 → ⊥) encoding 10 is has refl)

-- what is rejected of the owned copy of a decoded commit
abbrev WhatIsRejected : CommitLines → RejectedValue → Type 0
WhatIsRejected lines value = ((value ≡ illegal_actor) × (IsUnwritable lines.author ⊎ IsUnwritable lines.committer))
    ⊎ ((value ≡ empty_header) × HasEmptyEncoding lines)

what_is_rejected_of_commit_error : (kind : Kind) (bytes : List ℕ) (lines : CommitLines) (commit : Commit) (value : RejectedValue) (parts : List ℕ)
    → DecodesToCommit kind bytes lines → IsOwnedFormOfCommit lines commit → IsOwnedCommitError commit value parts → WhatIsRejected lines value
what_is_rejected_of_commit_error kind bytes lines commit value parts read own (inl (illegal, is, before)) =
    inl (is, inl (is_unwritable_of_error lines.author commit.author own.author illegal))
what_is_rejected_of_commit_error kind bytes lines commit value parts read own (inr (inl (legal, illegal, is, before))) =
    inl (is, inr (is_unwritable_of_error lines.committer commit.committer own.committer illegal))
what_is_rejected_of_commit_error kind bytes lines commit value parts read own (inr (inr (legal, other, rejected))) =
    inr (encoding_error_is_empty_header lines.encoding lines.extra_headers value read.encoding
    (subst (λ (it : Option (List ℕ)). IsMessageEncodingError it value) own.encoding rejected.0))

rejected_value_cases : (lines : CommitLines) (value : RejectedValue) → WhatIsRejected lines value → (value ≡ illegal_actor → ⊥) → (value ≡ empty_header → ⊥) → ⊥
rejected_value_cases lines value (inl (is, actor)) no_actor no_encoding = no_actor is
rejected_value_cases lines value (inr (is, encoding)) no_actor no_encoding = no_encoding is

is_unwritable_of_rejected_actor : (lines : CommitLines) → WhatIsRejected lines illegal_actor → IsUnwritable lines.author ⊎ IsUnwritable lines.committer
is_unwritable_of_rejected_actor lines (inl (is, actor)) = actor
is_unwritable_of_rejected_actor lines (inr (is, encoding)) = cc

has_empty_encoding_of_rejected : (lines : CommitLines) → WhatIsRejected lines empty_header → HasEmptyEncoding lines
has_empty_encoding_of_rejected lines (inl (is, actor)) = cc
has_empty_encoding_of_rejected lines (inr (is, encoding)) = encoding

pub owned_error_is_normalized : (kind : Kind) (content : List ℕ) (lines : CommitLines) (commit : Commit) (before after : SinkView) (error : Error)
    → DecodesToCommit kind content lines → IsOwnedFormOfCommit lines commit
    → IsWritingError (IsOwnedCommitError commit) before after (encode_commit (owned_commit_lines commit)) error
    → IsNormalizedCommitError lines before after (encode_commit (owned_commit_lines commit)) error
owned_error_is_normalized kind content lines commit before after (encode.Writer cause) read own says = says
owned_error_is_normalized kind content lines commit before after encode.IllegalActor read own (parts, rejected, inserts) =
    is_unwritable_of_rejected_actor lines (what_is_rejected_of_commit_error kind content lines commit illegal_actor parts read own rejected)
owned_error_is_normalized kind content lines commit before after encode.EmptyValue read own (parts, rejected, inserts) =
    has_empty_encoding_of_rejected lines (what_is_rejected_of_commit_error kind content lines commit empty_header parts read own rejected)
owned_error_is_normalized kind content lines commit before after (encode.NewlineInHeaderValue value) read own (parts, rejected, inserts) =
    rejected_value_cases lines _ (what_is_rejected_of_commit_error kind content lines commit
    (header_with_newline (bstring_bytes value)) parts read own rejected) (λ e. cc)
    (λ e. cc)
owned_error_is_normalized kind content lines commit before after encode.StartsWithDash read own (parts, rejected, inserts) =
    rejected_value_cases lines _ (what_is_rejected_of_commit_error kind content lines commit name_with_dash parts read own rejected) (λ e. cc) (λ e. cc)
owned_error_is_normalized kind content lines commit before after (encode.InvalidRefName fault) read own (parts, rejected, inserts) =
    rejected_value_cases lines _ (what_is_rejected_of_commit_error kind content lines commit (bad_name fault) parts read own rejected) (λ e. cc) (λ e. cc)
owned_error_is_normalized kind content lines commit before after (encode.NullbyteInFilename name) read own (parts, rejected, inserts) =
    rejected_value_cases lines _ (what_is_rejected_of_commit_error kind content lines commit
    (name_with_zero_byte (bstring_bytes name)) parts read own rejected) (λ e. cc)
    (λ e. cc)
owned_error_is_normalized kind content lines commit before after encode.OutOfMemory read own (value, inl (parts, rejected, inserts)) =
    rejected_value_cases lines _ (what_is_rejected_of_commit_error kind content lines commit (header_with_newline value) parts read own rejected) (λ e. cc)
    (λ e. cc)
owned_error_is_normalized kind content lines commit before after encode.OutOfMemory read own (value, inr (parts, rejected, inserts)) =
    rejected_value_cases lines _ (what_is_rejected_of_commit_error kind content lines commit (name_with_zero_byte value) parts read own rejected) (λ e. cc)
    (λ e. cc)

-- the actor lines of a decoded commit are valid
pub no_actor_error_of_decoded : (kind : Kind) (content : List ℕ) (lines : CommitLines) → DecodesToCommit kind content lines
    → IsIntoOwnedCommitError lines Malformed
    → ⊥
no_actor_error_of_decoded kind content lines read (inl bad) = let (name, email, time, is) = read.author in bad name email time is
no_actor_error_of_decoded kind content lines read (inr bad) = let (name, email, time, is) = read.committer in bad name email time is
