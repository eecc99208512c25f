-- Tags in the headers of a commit (git-merge, "MERGING TAG").
use Rattle.std.specs.Prelude.{◌≡◌, ℕ, List, Option, None, Some, Result, Ok, Err}
use Rattle.bstr.specs.BStr.{bstr_bytes}
use Rattle.bstr.specs.declared.bstr.BStr.{BStr}
use Rattle.gixobj_hash.specs.HeaderFormat.{Header}
use Rattle.gixobj_commit.specs.ExtraHeaders.{NextOfAll, searched, searched_name, values_named}
use Rattle.gixobj_commit.specs.declared.extra_headers.FindAll.{FindAll}
use Rattle.gixobj_commit.specs.declared.extra_headers.Mergetags.{Mergetags}
use Rattle.gixobj_hash.specs.declared.decode.Error.{Error}
use Rattle.gixobj_hash.specs.declared.decode.Error.TheVariants.{Malformed}
use Rattle.gixobj_hash.specs.declared.hash.kind.Kind.{Kind}
use Rattle.gixobj_tag.specs.TagFormat.{IsMalformedTag, DecodesToTag, TagLines}
use Rattle.gixobj_tag.specs.TagViews.{tag_lines}
use Rattle.gixobj_tag.specs.declared.tag.TagRef.{TagRef}

-- the values that are decoded as tags
abbrev pub mergetag_values : {I : Type 0} → Mergetags I → FindAll I
mergetag_values tags = tags.values

-- the kind of the ids of their targets
abbrev pub mergetag_kind : {I : Type 0} → Mergetags I → Kind
mergetag_kind tags = tags.hash_kind

-- the tag that these bytes encode, or `Malformed` if they encode none
abbrev pub IsTagOf : Kind → List ℕ → Result TagRef Error → Type 0
IsTagOf kind value (Ok tag) = DecodesToTag kind value (tag_lines tag)
IsTagOf kind value (Err error) = (error ≡ Malformed) × IsMalformedTag kind value

-- the result for the next value: its tag or an error; none if there is no value
abbrev pub ReadsValue : Kind → Option BStr → Option (Result TagRef Error) → Type 0
ReadsValue kind (Some value) (Some tag) = IsTagOf kind (bstr_bytes value) tag
ReadsValue kind (Some value) None = ⊥
ReadsValue kind None result = result ≡ None

-- one step: the next value of a `mergetag` header, decoded as a tag
abbrev pub NextMergetag : {S : Type 0} → (S → Option (BStr × BStr) → S → Type 0) → Mergetags S
    → Option (Result TagRef Error) → Mergetags S → Type 0
NextMergetag steps before result after = (value : Option BStr) × NextOfAll steps (mergetag_values before) value
    (mergetag_values after) × ReadsValue (mergetag_kind before) value result
    × (mergetag_kind after ≡ mergetag_kind before)

-- ---- all values

-- the values of the remaining `mergetag` headers, of the headers that remain in the iterator
abbrev pub remaining_mergetags : {S : Type 0} → (S → List Header) → Mergetags S → List (List ℕ)
remaining_mergetags headers tags = values_named (searched_name (mergetag_values tags))
    (headers (searched (mergetag_values tags)))

-- the tag of a result, or none for an error
abbrev pub tag_if_ok : Result TagRef Error → Option TagLines
tag_if_ok (Ok tag) = Some (tag_lines tag)
tag_if_ok (Err error) = None

-- the bytes are the encoding of this tag, or of no tag
abbrev pub IsTagOrNone : Kind → List ℕ → Option TagLines → Type 0
IsTagOrNone kind content (Some tag) = DecodesToTag kind content tag
IsTagOrNone kind content None = IsMalformedTag kind content
