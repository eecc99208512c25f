-- Whether the content of an object is the encoding of one of its kind, for `is_well_encoded`.
use Rattle.std.proofs.Common.{◌≡◌, ℕ, List, refl}
use Rattle.std.specs.Prelude.{Bool, MatchBool, false, true}
use Rattle.gixobj_hash.specs.declared.decode.Error.TheVariants.{Malformed}
use Rattle.gixobj_hash.specs.declared.hash.kind.Kind as hash
use Rattle.gixobj_hash.specs.declared.kind.Kind.{Kind}
use Rattle.gixobj_hash.specs.declared.kind.Kind.TheVariants as kind
use Rattle.gixobj_grammar.specs.Commit.{IsCommit, IsMalformedCommit}
use Rattle.gixobj_grammar.specs.TagPrefix.{IsTag}
use Rattle.gixobj_store_keep.specs.ExistingTrees.{IsStoredContentError, IsEncodingOf}

-- the result says whether the content is the encoding of an object of this kind
abbrev pub Decides : hash.Kind → Kind → List ℕ → Bool → Type 0
Decides hash of content result = MatchBool result (IsEncodingOf hash of content) (IsStoredContentError hash of content Malformed)

pub decides_blob : (hash : hash.Kind) (of : Kind) (content : List ℕ) → of ≡ kind.Blob → Decides hash of content true
decides_blob hash of content is = rw is tt

pub decides_commit : (hash : hash.Kind) (of : Kind) (content : List ℕ) (result : Bool) → of ≡ kind.Commit
    → MatchBool result (IsCommit hash content) (IsMalformedCommit hash content) → Decides hash of content result
decides_commit hash of content true is it = rw is it
decides_commit hash of content false is it = rw is (refl, it)

pub decides_tag : (hash : hash.Kind) (of : Kind) (content : List ℕ) (result : Bool) → of ≡ kind.Tag
    → MatchBool result (IsTag hash content) (¬ IsTag hash content) → Decides hash of content result
decides_tag hash of content true is it = rw is it
decides_tag hash of content false is it = rw is (refl, it)
