-- Worked examples of trailers and summaries, checked against the definitions.
use Rattle.std.proofs.Common.{◌≡◌, ◌++◌, ℕ, List, [], ◌∷◌, codes, refl}
use Rattle.std.specs.Prelude.{false}
use Rattle.bstr.proofs.Computing.{computing}
use Rattle.bstr.specs.Text.{lines_of}
use Rattle.gixobj_text.specs.Titles.{summary_of}
use Rattle.gixobj_text.specs.TrailerBlocks.{count_others, trailer_count}
use Rattle.gixobj_text.specs.Trailers.{TrailerView, trailers_of_bytes}

abbrev only : List ℕ → List ℕ → List TrailerView
only token value = (record { token = token; value = value }) ∷ []

trailer_of_plain_line : trailers_of_bytes (codes "foo: bar\n") ≡ only (codes "foo") (codes "bar")
unfolding computing
trailer_of_plain_line = refl

trailer_with_gap : trailers_of_bytes (codes "foo :  bar") ≡ only (codes "foo") (codes "bar")
unfolding computing
trailer_with_gap = refl

trailer_with_dash : trailers_of_bytes (codes "hello-foo: bar there   \n") ≡ only (codes "hello-foo") (codes "bar there")
unfolding computing
trailer_with_dash = refl

trailer_before_carriage_return : trailers_of_bytes (codes "foo: bar\r\n") ≡ only (codes "foo") (codes "bar")
unfolding computing
trailer_before_carriage_return = refl

no_trailer_of_non_ascii_token : trailers_of_bytes (240 ∷ 159 ∷ 164 ∷ 151 ∷ codes ": " ++ 240 ∷ 159 ∷ 142 ∷ 137 ∷ []) ≡ []
unfolding computing
no_trailer_of_non_ascii_token = refl

trailer_is_unfolded : trailers_of_bytes (codes "foo: bar\n continued\r\n  here") ≡ only (codes "foo") (codes "bar continued here")
unfolding computing
trailer_is_unfolded = refl

trailer_with_empty_first_line : trailers_of_bytes (codes "foo:\n bar\n") ≡ only (codes "foo") (codes "bar")
unfolding computing
trailer_with_empty_first_line = refl

summary_joins_two_lines : summary_of (codes "a \n b\n\nc") ≡ codes "a  b"
unfolding computing
summary_joins_two_lines = refl

summary_skips_empty_lines : summary_of (codes "\n\na") ≡ codes "a"
unfolding computing
summary_skips_empty_lines = refl

-- one trailer and three other lines
one_trailer_in_four_lines : trailer_count (lines_of (codes "Signed-off-by: A <a@b>\nnot a trailer\nnot a trailer\nnot a trailer\n")) ≡ 1
unfolding computing
one_trailer_in_four_lines = refl

three_others_in_four_lines : count_others false (lines_of (codes "Signed-off-by: A <a@b>\nnot a trailer\nnot a trailer\nnot a trailer\n")) ≡ 3
unfolding computing
three_others_in_four_lines = refl
