-- Results of the call that decodes an object and encodes it again.
use Rattle.std.specs.Prelude.{◌≡◌, ◌⊎◌, ℕ, List, Option, Some, ⊤}
use Rattle.gixobj_c_codes.specs.Buffers.{WritesBytes}
use Rattle.gixobj_c_codes.specs.Codes.{malformed, not_encodable, out_of_memory, unknown_code}
use Rattle.gixobj_c_reencode.specs.declared.reencoding.Failure.{Failure}
use Rattle.gixobj_c_reencode.specs.declared.reencoding.Failure.TheVariants as failure
use Rattle.gixobj_commit.specs.CommitWriting.{IsCommitLinesError, encode_commit, in_lower_case}
use Rattle.gixobj_streams.specs.Writing.{RejectedValue}
use Rattle.gixobj_streams.specs.declared.encode.Error as encode
use Rattle.gixobj_streams.specs.declared.encode.Error.TheVariants as encode_error
use Rattle.gixobj_hash.specs.declared.decode.Error.{Error}
use Rattle.gixobj_hash.specs.declared.decode.Error.TheVariants as error
use Rattle.gixobj_hash.specs.declared.hash.kind.Kind as hash
use Rattle.gixobj_hash.specs.declared.kind.Kind.{Kind}
use Rattle.gixobj_hash.specs.declared.kind.Kind.TheVariants as kind
use Rattle.gixobj_grammar.specs.Commit.{CommitLines, DecodesToCommit, IsCommit, IsCommitDecodeError}
use Rattle.gixobj_grammar.specs.TagPrefix.{IsTag}
use Rattle.gixobj_tag.specs.TagFormat.{DecodesToTag, TagLines}
use Rattle.gixobj_tag.specs.TagWriting.{IsTagLinesError, encode_tag}
use Rattle.gixobj_tree_entries.specs.Entries.{EntryView}
use Rattle.gixobj_tree_entries.specs.TreeDecoding.{BeginsWithEntry, DecodesToTree}
use Rattle.gixobj_tree.specs.TreeEncoding.{IsTreeEncodeError, encode_tree}

-- the bytes are the encoding of some object of this kind; of a blob all bytes are
abbrev pub IsObject : hash.Kind → Kind → List ℕ → Type 0
IsObject hash kind.Tree bytes = (entries : List EntryView) × DecodesToTree hash bytes entries
IsObject hash kind.Blob bytes = ⊤
IsObject hash kind.Commit bytes = IsCommit hash bytes
IsObject hash kind.Tag bytes = IsTag hash bytes

-- the bytes decode to an object of this kind, which has this encoding
abbrev pub IsReencoded : hash.Kind → Kind → List ℕ → List ℕ → Type 0
IsReencoded hash kind.Tree bytes encoded =
    (entries : List EntryView) × DecodesToTree hash bytes entries × (encoded ≡ encode_tree entries)
IsReencoded hash kind.Blob bytes encoded = encoded ≡ bytes
IsReencoded hash kind.Commit bytes encoded =
    (commit : CommitLines) × DecodesToCommit hash bytes commit × (encoded ≡ encode_commit (in_lower_case commit))
IsReencoded hash kind.Tag bytes encoded =
    (tag : TagLines) × DecodesToTag hash bytes tag × (encoded ≡ encode_tag tag)

-- the encoder rejects a value
abbrev pub RejectsSome : (RejectedValue → List ℕ → Type 0) → Type 0
RejectsSome Rejects = (value : RejectedValue) × (parts : List ℕ) × Rejects value parts

-- the bytes decode to an object of this kind, of which a value can't be encoded
abbrev pub IsUnencodable : hash.Kind → Kind → List ℕ → Type 0
IsUnencodable hash kind.Tree bytes =
    (entries : List EntryView) × DecodesToTree hash bytes entries × RejectsSome (IsTreeEncodeError entries)
IsUnencodable hash kind.Blob bytes = ⊥
IsUnencodable hash kind.Commit bytes =
    (commit : CommitLines) × DecodesToCommit hash bytes commit × RejectsSome (IsCommitLinesError (in_lower_case commit))
IsUnencodable hash kind.Tag bytes =
    (tag : TagLines) × DecodesToTag hash bytes tag × RejectsSome (IsTagLinesError tag)

-- the failure of a decoder's error
abbrev pub failure_of_decoding : Error → Failure
failure_of_decoding error.Malformed = failure.Malformed
failure_of_decoding error.OutOfMemory = failure.OutOfMemory

-- the failure of an encoder's error
abbrev pub failure_of_encoding : encode.Error → Failure
failure_of_encoding (encode_error.Writer cause) = failure.OutOfMemory
failure_of_encoding encode_error.OutOfMemory = failure.OutOfMemory
failure_of_encoding (encode_error.NewlineInHeaderValue value) = failure.NotEncodable
failure_of_encoding encode_error.EmptyValue = failure.NotEncodable
failure_of_encoding encode_error.StartsWithDash = failure.NotEncodable
failure_of_encoding (encode_error.InvalidRefName fault) = failure.NotEncodable
failure_of_encoding (encode_error.NullbyteInFilename name) = failure.NotEncodable
failure_of_encoding encode_error.IllegalActor = failure.NotEncodable

-- an allocation is tried: for the first entry of a tree; for a second parent or an extra header of a commit; or for
-- the new encoding of a commit or a tag
abbrev pub Allocates : hash.Kind → Kind → List ℕ → Type 0
Allocates hash kind.Tree bytes = (e : EntryView) × (rest : List ℕ) × BeginsWithEntry hash bytes e rest
Allocates hash kind.Blob bytes = ⊥
Allocates hash kind.Commit bytes = IsCommitDecodeError hash bytes error.OutOfMemory ⊎ IsCommit hash bytes
Allocates hash kind.Tag bytes = IsTag hash bytes

-- why an object has no new encoding
abbrev pub IsFailure : hash.Kind → Kind → List ℕ → Failure → Type 0
IsFailure hash kind bytes failure.Malformed = ¬ IsObject hash kind bytes
IsFailure hash kind bytes failure.OutOfMemory = Allocates hash kind bytes
IsFailure hash kind bytes failure.NotEncodable = IsUnencodable hash kind bytes

-- the status of a failure
abbrev pub failure_status : Failure → ℕ
failure_status failure.Malformed = malformed
failure_status failure.OutOfMemory = out_of_memory
failure_status failure.NotEncodable = not_encodable

-- the new encoding is written, or the status says why there is none, and then nothing is written
abbrev pub IsReencodeCall : Option hash.Kind → Option Kind → List ℕ → List ℕ → List ℕ → ℕ → ℕ → ℕ → Type 0
IsReencodeCall (Some hash) (Some kind) bytes before after len_before len status =
    ((encoded : List ℕ) × IsReencoded hash kind bytes encoded × WritesBytes encoded before after len status)
    ⊎ ((failure : Failure) × IsFailure hash kind bytes failure × (status ≡ failure_status failure)
    × (after ≡ before) × (len ≡ len_before))
IsReencodeCall _ _ bytes before after len_before len status =
    (status ≡ unknown_code) × (after ≡ before) × (len ≡ len_before)
