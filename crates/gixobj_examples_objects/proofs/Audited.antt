-- A signature of an object signs what the object says, by the laws on received commits and tags, for an audit.
use Rattle.std.proofs.Common.{ℕ, List}
use Rattle.gix_object.specs.Commit.{CommitLines, DecodesToCommit}
use Rattle.gix_object.specs.CommitSignatures.{HasCommitSignature}
use Rattle.gix_object.specs.ReceivedSignatures.{SignsCommit, SignsTag}
use Rattle.gix_object.specs.TagSignatures.{HasTagSignature}
use Rattle.gix_object.specs.TagFormat.{DecodesToTag, TagLines}
use Rattle.gix_object.specs.hash.hash.kind.Kind as hash
use Rattle.gix_object.specs.hash.kind.Kind.{Kind}
use Rattle.gix_object.specs.hash.kind.Kind.TheVariants as kind
use Rattle.gix_object.specs.formats.signature.Format.{Format}
use Rattle.gixobj_examples_objects.specs.AcceptedSignatures.{IsObjectSignature, SignsObject}

module _ (commits : (ids : hash.Kind) (content : List ℕ) (commit : CommitLines) (signature signed : List ℕ) → DecodesToCommit ids content commit
    → HasCommitSignature ids content signature signed → SignsCommit ids commit signature signed)
    (tags : (ids : hash.Kind) (content : List ℕ) (tag : TagLines) (signature signed : List ℕ) (format : Format) → DecodesToTag ids content tag
    → HasTagSignature content signature signed format → SignsTag ids tag signature signed) where
  pub object_signed : (of : Kind) (ids : hash.Kind) (bytes signature signed : List ℕ) → IsObjectSignature of ids bytes signature signed
      → SignsObject of ids bytes signature signed
  object_signed kind.Commit ids bytes signature signed has = λ commit is. commits ids bytes commit signature signed is has
  object_signed kind.Tag ids bytes signature signed (format, has) = λ tag is. tags ids bytes tag signature signed format is has
  object_signed kind.Tree ids bytes signature signed has = has
  object_signed kind.Blob ids bytes signature signed has = has
