-- Worked examples of titles and bodies, checked against the definitions.
use Rattle.std.proofs.Common.{◌∷◌, inl, inr, refl, [], Some, None, codes}
use Rattle.bstr.proofs.Computing.{computing}
use Rattle.gixobj_text.specs.Titles.{SplitsTitle}
use Rattle.gixobj_text.specs.Titles.IsBreak.{alone, after_return}
use Rattle.gixobj_text.proofs.SplitTitles.{title_split_is_first, no_breaks_of_unsplit}

splits_title_and_body : SplitsTitle (codes "hello\n\nbody") (codes "hello") (Some (codes "body"))
unfolding computing
splits_title_and_body = (
  record {
    here = record { first = 10 ∷ []; second = 10 ∷ []; breaks = (alone, alone); joined = refl };
    minimum = λ prefix rest it. title_split_is_first 5 (codes "hello\n\nbody") prefix rest refl it;
  },
  λ none. cc none,
)

splits_at_mixed_breaks : SplitsTitle (codes "hello\r\n\n\r\nbody") (codes "hello") (Some (codes "\r\nbody"))
unfolding computing
splits_at_mixed_breaks = (
  record {
    here = record { first = 13 ∷ 10 ∷ []; second = 10 ∷ []; breaks = (after_return, alone); joined = refl };
    minimum = λ prefix rest it. title_split_is_first 5 (codes "hello\r\n\n\r\nbody") prefix rest refl it;
  },
  λ none. cc none,
)

splits_title_without_body : SplitsTitle (codes "hello\n\n") (codes "hello") None
unfolding computing
splits_title_without_body = inl (record {
  here = record { first = 10 ∷ []; second = 10 ∷ []; breaks = (alone, alone); joined = refl };
  minimum = λ prefix rest it. title_split_is_first 5 (codes "hello\n\n") prefix rest refl it;
})

title_is_entire_without_breaks : SplitsTitle (codes "hello\nthere\n") (codes "hello\nthere\n") None
unfolding computing
title_is_entire_without_breaks = inr (refl, λ prefix rest it. no_breaks_of_unsplit (codes "hello\nthere\n") prefix rest refl it)
