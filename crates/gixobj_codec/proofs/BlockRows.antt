-- Worked examples of trailer blocks, checked against the definitions.
use Rattle.std.proofs.Common.{◌≡◌, inl, inr, ◌∷◌, arith, refl, ℕ, List, [], codes, length, lit<, lit≤}
use Rattle.std.proofs.lemmas.List.Elements.{All-cons, All-nil}
use Rattle.std.specs.Prelude.{false, IsFalse, IsTrue}
use Rattle.bstr.proofs.Computing.{computing}
use Rattle.bstr.specs.Text.{lines_of}
use Rattle.gixobj_text.specs.BodyLines.{is_blank}
use Rattle.gixobj_text.specs.TrailerBlocks.{IsTrailerBlock, IsTrailerBlockStart, count_others, trailer_count}
use Rattle.gixobj_text.proofs.LastRuns.{no_block_of_parts, parts_of}

abbrev F : List ℕ → Type 0
F line = IsFalse (is_blank line)

abbrev B : List ℕ → Type 0
B line = IsTrue (is_blank line)

abbrev two : List (List ℕ)
two = codes "A: 1\n" ∷ codes "B: 2\n" ∷ []

-- two trailers after a line and a blank line
block_starts_at_two_trailers : IsTrailerBlockStart (codes "m\n\nA: 1\nB: 2\n") 1
unfolding computing
block_starts_at_two_trailers = inl (record {
  before = codes "m\n" ∷ codes "\n" ∷ [];
  run = two;
  after = [];
  last = record {
    joined = refl;
    some = λ none. cc none;
    none_blank = All-cons F (codes "A: 1\n") (codes "B: 2\n" ∷ []) refl (All-cons F (codes "B: 2\n") [] refl (All-nil F));
    all_blank = All-nil B;
    ends = inr (codes "m\n" ∷ [], codes "\n", refl, refl);
  };
  block = inl (lit< tt, refl);
  starts = inr (inr ([], codes "m\n", codes "\n", refl, refl));
})

-- a sign-off makes a trailer block of lines with another line among them
block_starts_at_sign_off_with_note : IsTrailerBlockStart (codes "Signed-off-by: A\nnote\nB: 2\n") 0
unfolding computing
block_starts_at_sign_off_with_note = inl (record {
  before = [];
  run = codes "Signed-off-by: A\n" ∷ codes "note\n" ∷ codes "B: 2\n" ∷ [];
  after = [];
  last = record {
    joined = refl;
    some = λ none. cc none;
    none_blank = All-cons F (codes "Signed-off-by: A\n") (codes "note\n" ∷ codes "B: 2\n" ∷ []) refl
        (All-cons F (codes "note\n") (codes "B: 2\n" ∷ []) refl (All-cons F (codes "B: 2\n") [] refl (All-nil F)));
    all_blank = All-nil B;
    ends = inl refl;
  };
  block = inr (refl, lit≤ tt);
  starts = inl (refl, refl);
})

abbrev long : List ℕ
long = codes "text\n\nSigned-off-by: A <a@b>\nnot a trailer\nnot a trailer\nnot a trailer\nnot a trailer\n"

-- one trailer and four other lines
abbrev IsOneOfFive : List (List ℕ) → Type 0
IsOneOfFive run = (trailer_count run ≡ 1) × (count_others false run ≡ 4)

no_block_of_one_of_five : (run : List (List ℕ)) → IsOneOfFive run → ¬ IsTrailerBlock run
no_block_of_one_of_five run five (inl (some, none)) = omega arith
no_block_of_one_of_five run five (inr (known, bound)) = omega arith

-- the last run of `long` has one trailer and four other lines
long_run_is_one_of_five : IsOneOfFive (parts_of (lines_of long)).run
unfolding computing
long_run_is_one_of_five = (refl, refl)

long_len_is_85 : ◌≡◌ {A = ℕ} 85 (length long)
long_len_is_85 = refl

block_of_long_starts_at_end : IsTrailerBlockStart long 85
block_of_long_starts_at_end = inr (
  no_block_of_parts (lines_of long) (no_block_of_one_of_five (parts_of (lines_of long)).run long_run_is_one_of_five),
  long_len_is_85,
)
