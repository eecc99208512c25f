-- Remaining tokens of a tag reader.
use Rattle.std.specs.Prelude.{List}
use Rattle.gix_object.specs.Runs.{complete}
use Rattle.gix_object.specs.TagTokenSteps.{YieldsTagTokens, tag_reader_state}
use Rattle.gix_object.specs.TagTokens.{TagTokenView}
use Rattle.gix_object.specs.ref_iter.tag.TagRefIter.{TagRefIter}

-- these tokens remain, to the end of the reader's bytes
abbrev pub IsToYield : TagRefIter → List TagTokenView → Type 0
IsToYield reader tokens = YieldsTagTokens (tag_reader_state reader).kind (tag_reader_state reader).state
    (tag_reader_state reader).bytes tokens complete
