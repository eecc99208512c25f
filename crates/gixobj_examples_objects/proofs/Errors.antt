-- Errors of callers, by cases of the errors of their calls.
use Rattle.std.proofs.Common.{◌≡◌, ◌-◌, ℕ, List, [], Result, Ok, Err, Some, refl, subst}
use Rattle.std.specs.Prelude.{IfErr, IfOk, vec_capacity, vec_len}
use Rattle.std.specs.declared.alloc.Global.{Global}
use Rattle.std.specs.declared.vec.Vec.{Vec}
use Rattle.std.specs.declared.io.ErrorKind.TheVariants as io
use Rattle.gix_object.specs.Commit.{CommitLines, DecodesToCommit, IsMalformedCommit, IsCommitDecodeError}
use Rattle.gix_object.specs.Entries.{EntryView}
use Rattle.gix_object.specs.Hash.{DecodesToId}
use Rattle.gix_object.specs.Rewriting.{IsNormalizedCommitError}
use Rattle.gix_object.specs.Streams.{SinkView, empty_sink, list_view}
use Rattle.gix_object.specs.TokenSearch.{EndsSearch, IsMessageToken, optional_error}
use Rattle.gix_object.specs.TreeDecoding.{DecodesToTree, IsMalformedTree, IsTreeDecodeError}
use Rattle.gix_object.specs.TreeEncoding.{IsEncodableTree, encode_tree}
use Rattle.gix_object.specs.Writing.{FailsAsSink, IsEncodingError, IsWritingError, RejectedValue}
use Rattle.gix_object.specs.ref_iter.commit.CommitRefIter.{CommitRefIter}
use Rattle.gix_object.specs.fields.encode.Error as encode
use Rattle.gix_object.specs.fields.encode.Error.TheVariants as written
use Rattle.gix_object.specs.hash.decode.Error.{Error}
use Rattle.gix_object.specs.hash.decode.Error.TheVariants.{Malformed, OutOfMemory}
use Rattle.gix_object.specs.hash.hash.kind.Kind.{Kind}
use Rattle.gix_object.specs.hash.hash.object_id.ObjectId.{ObjectId}
use Rattle.gixobj_examples_objects.specs.Copies.{FailsForPart, FailsForRoom, IsRoundTripError}
use Rattle.gixobj_examples_objects.specs.declared.store.CopyError.TheVariants.{Read, Write}

-- the bytes of a commit fail to decode only for memory
pub fails_for_room_of_read : (kind : Kind) (bytes : List ℕ) (commit : CommitLines) (error : Error) → IsCommitDecodeError kind bytes error
    → DecodesToCommit kind bytes commit
    → FailsForRoom (Read error)
fails_for_room_of_read kind bytes commit Malformed rejected is = rejected commit is
fails_for_room_of_read kind bytes commit OutOfMemory rejected is = tt

pub fails_for_part_of_read : (kind : Kind) (bytes : List ℕ) (commit other : CommitLines) (error : Error) → IsCommitDecodeError kind bytes error
    → DecodesToCommit kind bytes commit → FailsForPart other (Read error)
fails_for_part_of_read kind bytes commit other Malformed rejected is = absurd (rejected commit is)
fails_for_part_of_read kind bytes commit other OutOfMemory rejected is = tt

-- the failure of a list
pub fails_for_room_of_write : (before : SinkView) (after : Vec ℕ Global) (bytes : List ℕ) (error : encode.Error)
    → FailsAsSink before (list_view after) bytes error → FailsForRoom (Write error)
fails_for_room_of_write before after bytes (written.Writer cause) fails = fails.of_kind
fails_for_room_of_write before after bytes (written.NewlineInHeaderValue value) fails = fails
fails_for_room_of_write before after bytes written.EmptyValue fails = fails
fails_for_room_of_write before after bytes written.StartsWithDash fails = fails
fails_for_room_of_write before after bytes (written.InvalidRefName fault) fails = fails
fails_for_room_of_write before after bytes (written.NullbyteInFilename name) fails = fails
fails_for_room_of_write before after bytes written.IllegalActor fails = fails
fails_for_room_of_write before after bytes written.OutOfMemory fails = fails

pub fails_for_part_of_write : (commit : CommitLines) (before : SinkView) (after : Vec ℕ Global) (bytes : List ℕ) (error : encode.Error)
    → IsNormalizedCommitError commit before (list_view after) bytes error → FailsForPart commit (Write error)
fails_for_part_of_write commit before after bytes (written.Writer cause) fails = fails.of_kind
fails_for_part_of_write commit before after bytes (written.NewlineInHeaderValue value) fails = fails
fails_for_part_of_write commit before after bytes written.EmptyValue fails = fails
fails_for_part_of_write commit before after bytes written.StartsWithDash fails = fails
fails_for_part_of_write commit before after bytes (written.InvalidRefName fault) fails = fails
fails_for_part_of_write commit before after bytes (written.NullbyteInFilename name) fails = fails
fails_for_part_of_write commit before after bytes written.IllegalActor fails = fails
fails_for_part_of_write commit before after bytes written.OutOfMemory fails = fails

-- the search of a message that exists fails only for memory
pub message_error_is_memory : (reader : CommitRefIter) (error : Error) → (EndsSearch IsMessageToken reader (optional_error Malformed) → ⊥)
    → EndsSearch IsMessageToken reader (optional_error error) → error ≡ OutOfMemory
message_error_is_memory reader Malformed has fault = absurd (has fault)
message_error_is_memory reader OutOfMemory has fault = refl

-- the tree of each commit to which the bytes decode
pub tree_id_of_commit : (kind : Kind) (bytes : List ℕ) (result : Result ObjectId Error)
    → ((commit : CommitLines) → DecodesToCommit kind bytes commit → (id : ObjectId) × (result ≡ Ok id) × DecodesToId commit.tree id)
    → IfOk result (λ id. (commit : CommitLines) → DecodesToCommit kind bytes commit → DecodesToId commit.tree id)
tree_id_of_commit kind bytes (Ok id) found = λ commit is. let (other, same, spells) = found commit is in let this : other ≡ id =
    cc same in subst (DecodesToId commit.tree) this spells
tree_id_of_commit kind bytes (Err error) found = tt

pub malformed_commit_of_error : (kind : Kind) (bytes : List ℕ) (result : Result ObjectId Error)
    → ((commit : CommitLines) → DecodesToCommit kind bytes commit → (id : ObjectId) × (result ≡ Ok id) × DecodesToId commit.tree id)
    → IfErr result (λ error. IsMalformedCommit kind bytes)
malformed_commit_of_error kind bytes (Ok id) found = tt
malformed_commit_of_error kind bytes (Err error) found = λ commit is. let same = (found commit is).1 in cc same

-- equal results have equal ids, and an error has none
pub some_of_ok : (a b : ObjectId) → ◌≡◌ {A = Result ObjectId Error} (Ok a) (Ok b) → Some a ≡ Some b
some_of_ok a b same = cc same

pub err_ne_ok : (error : Error) (id : ObjectId) → ◌≡◌ {A = Result ObjectId Error} (Err error) (Ok id) → ⊥
err_ne_ok error id same = cc same

-- the bytes of a tree fail to decode only for memory
pub tree_fails_for_room : (kind : Kind) (bytes : List ℕ) (entries : List EntryView) (error : Error) → IsTreeDecodeError kind bytes error
    → DecodesToTree kind bytes entries → FailsForRoom (Read error)
tree_fails_for_room kind bytes entries Malformed rejected is = rejected entries is
tree_fails_for_room kind bytes entries OutOfMemory rejected is = tt

-- the error of writing to a new list is that of the encoding
pub encoding_error_of_new_list : (Rejects : RejectedValue → List ℕ → Type 0) (bytes : List ℕ) (before after : Vec ℕ Global) (error : encode.Error)
    → before.items ≡ [] → vec_capacity before - vec_len before ≡ 0 → IsWritingError Rejects (list_view before) (list_view after) bytes error
    → IsEncodingError Rejects bytes error
encoding_error_of_new_list Rejects bytes before after error none full is =
    let same : list_view before ≡ empty_sink = λ i. record { held = Some (none i); room = full i; failure = Some io.OutOfMemory } in
    (after, subst (λ (view : SinkView). IsWritingError Rejects view (list_view after) bytes error) same is)

-- the error of decoding the encoding of a tree that is encoded
pub round_trip_error_of_read : (kind : Kind) (entries : List EntryView) (bytes : List ℕ) (error : Error) → bytes ≡ encode_tree entries
    → IsEncodableTree entries → IsTreeDecodeError kind bytes error → IsRoundTripError kind entries (Read error)
round_trip_error_of_read kind entries bytes Malformed same encodable rejected = (encodable, subst (IsMalformedTree kind) same rejected)
round_trip_error_of_read kind entries bytes OutOfMemory same encodable rejected = encodable
