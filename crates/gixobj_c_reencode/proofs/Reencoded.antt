-- A call writes the encoding of what its bytes decode to, and each of its failures is the error of the decoder or of
-- the encoder; the proofs of `reencoded_tree`, `reencoded_commit` and `reencoded_tag` use it.
use Rattle.std.proofs.Common.{◌≡◌, ◌∷◌, ℕ, List, [], ap, arith, inl, length, length-append, subst, sym, ⊎_elim, ◌∙◌}
use Rattle.std.specs.List.{concat}
use Rattle.std.specs.Prelude.{Some}
use Rattle.gixobj_c_codes.specs.Buffers.{WritesBytes}
use Rattle.gixobj_c_reencode.specs.Reencoding.{Allocates, IsFailure, IsReencodeCall, IsReencoded, IsUnencodable, RejectsSome, failure_of_decoding}
use Rattle.gixobj_c_reencode.specs.Reencoding.{failure_of_encoding}
use Rattle.gixobj_c_reencode.specs.declared.reencoding.Failure.{Failure}
use Rattle.gixobj_c_reencode.specs.declared.reencoding.Failure.TheVariants as failure
use Rattle.gixobj_streams.specs.Streams.{SinkView}
use Rattle.gixobj_streams.specs.Writing.{IsWritingError, RejectedValue, StopsAt}
use Rattle.gixobj_streams.specs.declared.encode.Error.{Error}
use Rattle.gixobj_streams.specs.declared.encode.Error.TheVariants as error
use Rattle.gixobj_hash.specs.declared.decode.Error as decoding
use Rattle.gixobj_hash.specs.declared.decode.Error.TheVariants as decode
use Rattle.gixobj_hash.specs.declared.hash.kind.Kind as hash
use Rattle.gixobj_hash.specs.declared.kind.Kind.{Kind}
use Rattle.gixobj_hash.specs.declared.kind.Kind.TheVariants as kind
use Rattle.gixobj_grammar.specs.Commit.{IsCommitDecodeError}
use Rattle.gixobj_tag.proofs.Recognized.{some_tag}
use Rattle.gixobj_tag.specs.TagFormat.{IsMalformedTag}
use Rattle.gixobj_tree_entries.specs.Entries.{EntryView}
use Rattle.gixobj_tree_entries.specs.TreeDecoding.{DecodesToTree, IsTreeDecodeError}
use Rattle.gixobj_tree.specs.TreeEncoding.{IsTreeEncodeError, encode_tree}

pub reencode_call_of_written : (hash : hash.Kind) (kind : Kind) (bytes encoded items before after : List ℕ) (len_before len status : ℕ)
    → IsReencoded hash kind bytes items
    → encoded ≡ items → WritesBytes encoded before after len status → IsReencodeCall (Some hash) (Some kind) bytes before after len_before len status
reencode_call_of_written hash kind bytes encoded items before after len_before len status is same writes =
    inl (encoded, subst (λ (it : List ℕ). IsReencoded hash kind bytes it) (sym same) is, writes)

rejects_some_of_stop : (Rejects : RejectedValue → List ℕ → Type 0) (before after : SinkView) (value : RejectedValue) → StopsAt Rejects before after value
    → RejectsSome Rejects
rejects_some_of_stop Rejects before after value stops = (value, stops.0, stops.1)

never_malformed : (error : Error) → failure_of_encoding error ≡ failure.Malformed → ⊥
never_malformed (error.Writer cause) same = cc same
never_malformed (error.NewlineInHeaderValue value) same = cc same
never_malformed error.EmptyValue same = cc same
never_malformed error.StartsWithDash same = cc same
never_malformed (error.InvalidRefName fault) same = cc same
never_malformed (error.NullbyteInFilename name) same = cc same
never_malformed error.IllegalActor same = cc same
never_malformed error.OutOfMemory same = cc same

-- an encoder's error whose failure is `NotEncodable` has a rejected value
pub rejects_some_of_failure : (Rejects : RejectedValue → List ℕ → Type 0) (before after : SinkView) (bytes : List ℕ) (error : Error)
    → IsWritingError Rejects before after bytes error → failure_of_encoding error ≡ failure.NotEncodable → RejectsSome Rejects
rejects_some_of_failure Rejects before after bytes (error.Writer cause) is same = absurd (cc same)
rejects_some_of_failure Rejects before after bytes (error.NewlineInHeaderValue value) is same = rejects_some_of_stop Rejects before after _ is
rejects_some_of_failure Rejects before after bytes error.EmptyValue is same = rejects_some_of_stop Rejects before after _ is
rejects_some_of_failure Rejects before after bytes error.StartsWithDash is same = rejects_some_of_stop Rejects before after _ is
rejects_some_of_failure Rejects before after bytes (error.InvalidRefName fault) is same = rejects_some_of_stop Rejects before after _ is
rejects_some_of_failure Rejects before after bytes (error.NullbyteInFilename name) is same = rejects_some_of_stop Rejects before after _ is
rejects_some_of_failure Rejects before after bytes error.IllegalActor is same = rejects_some_of_stop Rejects before after _ is
rejects_some_of_failure Rejects before after bytes error.OutOfMemory is same = absurd (cc same)

-- ---- errors of decoders

pub failure_of_tree_error : (hash : hash.Kind) (bytes : List ℕ) (error : decoding.Error) (failure : Failure) → IsTreeDecodeError hash bytes error
    → failure ≡ failure_of_decoding error → IsFailure hash kind.Tree bytes failure
failure_of_tree_error hash bytes decode.Malformed failure is same = rw same (λ it. is it.0 it.1)
failure_of_tree_error hash bytes decode.OutOfMemory failure is same = rw same is

pub failure_of_commit_error : (hash : hash.Kind) (bytes : List ℕ) (error : decoding.Error) (failure : Failure) → IsCommitDecodeError hash bytes error
    → failure ≡ failure_of_decoding error → IsFailure hash kind.Commit bytes failure
failure_of_commit_error hash bytes decode.Malformed failure is same = rw same (λ it. is it.0 it.1)
failure_of_commit_error hash bytes decode.OutOfMemory failure is same = rw same (inl is)

pub failure_of_malformed_tag : (hash : hash.Kind) (bytes : List ℕ) (error : decoding.Error) (failure : Failure) → error ≡ decode.Malformed
    → IsMalformedTag hash bytes
    → failure ≡ failure_of_decoding error → IsFailure hash kind.Tag bytes failure
failure_of_malformed_tag hash bytes error failure is none same =
    rw (same ∙ ap failure_of_decoding is) (λ it. let tag = some_tag hash bytes it in none tag.0 tag.1)

-- ---- errors of encoders

pub failure_of_encoder : (hash : hash.Kind) (kind : Kind) (bytes : List ℕ) (Rejects : RejectedValue → List ℕ → Type 0) (before after : SinkView)
    (encoded : List ℕ) (error : Error) (failure : Failure) → Allocates hash kind bytes → (RejectsSome Rejects → IsUnencodable hash kind bytes)
    → IsWritingError Rejects before after encoded error → failure ≡ failure_of_encoding error → IsFailure hash kind bytes failure
failure_of_encoder hash kind bytes Rejects before after encoded error failure.Malformed allocates rejected is same =
    absurd (never_malformed error (sym same))
failure_of_encoder hash kind bytes Rejects before after encoded error failure.OutOfMemory allocates rejected is same = allocates
failure_of_encoder hash kind bytes Rejects before after encoded error failure.NotEncodable allocates rejected is same =
    rejected (rejects_some_of_failure Rejects before after encoded error is (sym same))

-- ---- trees

nil_rejects_nothing : (value : RejectedValue) (parts : List ℕ) → ¬ IsTreeEncodeError [] value parts
nil_rejects_nothing value parts is =
    let none = ap length is.joined in
    absurd (omega (arith, none, length-append is.prefix (is.entry ∷ is.rest)))

nil_has_no_stop : (before after : SinkView) (value : RejectedValue) → ¬ StopsAt (IsTreeEncodeError []) before after value
nil_has_no_stop before after value is = nil_rejects_nothing value is.0 is.1

nil_has_no_error : (before after : SinkView) (error : Error) → ¬ IsWritingError (IsTreeEncodeError []) before after [] error
nil_has_no_error before after (error.Writer cause) is =
    let none = ap length is.joined in
    absurd (omega (arith, none, length-append is.prefix is.rest, is.missing))
nil_has_no_error before after (error.NewlineInHeaderValue value) is = nil_has_no_stop before after _ is
nil_has_no_error before after error.EmptyValue is = nil_has_no_stop before after _ is
nil_has_no_error before after error.StartsWithDash is = nil_has_no_stop before after _ is
nil_has_no_error before after (error.InvalidRefName fault) is = nil_has_no_stop before after _ is
nil_has_no_error before after (error.NullbyteInFilename name) is = nil_has_no_stop before after _ is
nil_has_no_error before after error.IllegalActor is = nil_has_no_stop before after _ is
nil_has_no_error before after error.OutOfMemory is = ⊎_elim (nil_has_no_stop before after _) (nil_has_no_stop before after _) is.1

-- a tree whose encoder fails has a first entry
pub tree_allocates : (hash : hash.Kind) (bytes : List ℕ) (entries : List EntryView) (before after : SinkView) (error : Error)
    → DecodesToTree hash bytes entries → IsWritingError (IsTreeEncodeError entries) before after (encode_tree entries) error
    → Allocates hash kind.Tree bytes
tree_allocates hash bytes [] before after error decodes is = absurd (nil_has_no_error before after error is)
tree_allocates hash bytes (e ∷ entries) before after error ([], joined, zip) is = absurd zip
tree_allocates hash bytes (e ∷ entries) before after error (first ∷ rest, joined, zip) is = (e, concat rest, (first, joined, zip.0))
