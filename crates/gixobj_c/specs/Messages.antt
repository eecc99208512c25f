-- Results of the calls about messages.
use Rattle.std.specs.Prelude.{◌≡◌, ◌⊎◌, ℕ, List, None, Option, Some, true}
use Rattle.gixobj_c_codes.specs.Buffers.{WritesBytes}
use Rattle.gixobj_c_codes.specs.Codes.{out_of_memory}
use Rattle.gixobj_c.specs.Spans.{IsEmptyAt, IsSpanAtStart, IsSpanBefore}
use Rattle.gixobj_c.specs.declared.messages.Message.{Message}
use Rattle.gixobj_text.specs.SummaryPieces.{is_multiline}
use Rattle.gixobj_text.specs.Titles.{SplitsTitle, summary_of}

-- the positions of the title, at the beginning of the message, and of the body, at its end
abbrev pub IsMessageOf : List ℕ → Message → Type 0
IsMessageOf message out =
    ((out.has_body ≡ 0) × IsEmptyAt 0 out.body
    × ((title : List ℕ) × IsSpanAtStart message title out.title × SplitsTitle message title None))
    ⊎ ((out.has_body ≡ 1) × ((title body : List ℕ) × IsSpanAtStart message title out.title
    × IsSpanBefore message body 0 out.body × SplitsTitle message title (Some body)))

-- the title of the message on one line is written; without memory for a title of several lines nothing is
abbrev pub IsSummaryCall : List ℕ → List ℕ → List ℕ → ℕ → ℕ → ℕ → Type 0
IsSummaryCall message before after len_before len status =
    (title : List ℕ) × (body : Option (List ℕ)) × SplitsTitle message title body
    × (WritesBytes (summary_of title) before after len status
    ⊎ ((status ≡ out_of_memory) × (is_multiline title ≡ true) × (after ≡ before) × (len ≡ len_before)))
