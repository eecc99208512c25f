-- Errors of copies, which decode an object and then encode it.
use Rattle.std.specs.Prelude.{◌≡◌, ◌⊎◌, List, ⊤}
use Rattle.std.specs.IoError.{error_kind}
use Rattle.std.specs.declared.io.ErrorKind.TheVariants.{OutOfMemory}
use Rattle.gix_object.specs.ActorWriting.{IsUnwritable}
use Rattle.gix_object.specs.Commit.{CommitLines}
use Rattle.gix_object.specs.Entries.{EntryView}
use Rattle.gix_object.specs.Rewriting.{HasEmptyEncoding}
use Rattle.gix_object.specs.TreeDecoding.{IsMalformedTree}
use Rattle.gix_object.specs.TreeEncoding.{IsEncodableTree, IsTreeEncodeError, encode_tree}
use Rattle.gix_object.specs.Writing.{IsEncodingError}
use Rattle.gix_object.specs.fields.encode.Error.TheVariants as encode
use Rattle.gix_object.specs.hash.decode.Error.TheVariants as decode
use Rattle.gix_object.specs.hash.hash.kind.Kind.{Kind}
use Rattle.gixobj_examples_objects.specs.declared.store.CopyError.{CopyError}
use Rattle.gixobj_examples_objects.specs.declared.store.CopyError.TheVariants.{Read, Write}

-- out of memory, in decoding or in the list
abbrev pub FailsForRoom : CopyError → Type 0
FailsForRoom (Read decode.OutOfMemory) = ⊤
FailsForRoom (Write (encode.Writer cause)) = error_kind cause ≡ OutOfMemory
FailsForRoom _ = ⊥

-- out of memory, in decoding or in the list, or an invalid part of the commit
abbrev pub FailsForPart : CommitLines → CopyError → Type 0
FailsForPart commit (Read decode.OutOfMemory) = ⊤
FailsForPart commit (Write (encode.Writer cause)) = error_kind cause ≡ OutOfMemory
FailsForPart commit (Write encode.IllegalActor) = IsUnwritable commit.author ⊎ IsUnwritable commit.committer
FailsForPart commit (Write encode.EmptyValue) = HasEmptyEncoding commit
FailsForPart commit _ = ⊥

-- the error of encoding a tree and decoding that: that of the encoding; or the tree is encoded, and no tree has its
-- encoding; or out of memory
abbrev pub IsRoundTripError : Kind → List EntryView → CopyError → Type 0
IsRoundTripError kind entries (Write cause) = IsEncodingError (IsTreeEncodeError entries) (encode_tree entries) cause
IsRoundTripError kind entries (Read decode.Malformed) = IsEncodableTree entries
    × IsMalformedTree kind (encode_tree entries)
IsRoundTripError kind entries (Read decode.OutOfMemory) = IsEncodableTree entries
