-- A message that is assembled part by part is its title, body and trailer lines, one after the other; the proofs of
-- `message_of` and `message_with_description` use it.
use Rattle.std.proofs.Common.{◌≡◌, ◌≢◌, ◌∙◌, ◌+◌, ◌<◌, ◌≤◌, ◌++◌, ◌∷◌, ℕ, [], List, Some, ap, append-nil, append_assoc, arith, drop, drop-cons, get_or, length}
use Rattle.std.proofs.Common.{subst, suc, sym, take}
use Rattle.std.proofs.lemmas.List.{length-take-le, take-append-drop, take_all, take_more}
use Rattle.std.proofs.lemmas.List.Elements.{All-append, All-cons, All-nil}
use Rattle.std.specs.Prelude.{All}
use Rattle.gix_object.specs.BodyLines.{without_last_byte}
use Rattle.gix_object.specs.MessageTrailers.{HasTrailers}
use Rattle.gix_object.specs.Titles.{SplitsTitle}
use Rattle.gix_object.specs.TrailerBlocks.{IsTrailerBlockStart}
use Rattle.gix_object.specs.Trailers.{TrailerView}
use Rattle.gixobj_examples_objects.specs.Assembled.{IsFirstOther, IsLineTrailer, IsMessageOf, IsDescribedMessageOf, IsTitleLine, assembled_message}
use Rattle.gixobj_examples_objects.specs.Assembled.{described_body, described_message, trailer_body, trailer_line, trailer_lines, trailer_section}

pub lines_snoc : (trailers : List TrailerView) (trailer : TrailerView)
    → trailer_lines (trailers ++ trailer ∷ []) ≡ trailer_lines trailers ++ trailer_line trailer
lines_snoc [] trailer = append-nil (trailer_line trailer)
lines_snoc (first ∷ trailers) trailer =
    ap (λ (l : List ℕ). trailer_line first ++ l) (lines_snoc trailers trailer)
    ∙ sym (append_assoc (trailer_line first) (trailer_lines trailers) (trailer_line trailer))

-- the trailers with one more
take_snoc : (trailers : List TrailerView) (index : ℕ) (trailer : TrailerView) → index < length trailers → trailer ≡ get_or trailers index trailer
    → take (index + 1) trailers ≡ take index trailers ++ trailer ∷ []
take_snoc trailers index trailer within is = take_more trailers index trailer within ∙ ap (λ (it : TrailerView). take index trailers ++ it ∷ []) (sym is)

pub lines_take : (begun before after : List ℕ) (trailers : List TrailerView) (index : ℕ) (trailer : TrailerView) → index < length trailers
    → trailer ≡ get_or trailers index trailer → before ≡ begun ++ trailer_lines (take index trailers) → after ≡ before ++ trailer_line trailer
    → after ≡ begun ++ trailer_lines (take (index + 1) trailers)
lines_take begun before after trailers index trailer within is lines appended =
    appended
    ∙ ap (λ (l : List ℕ). l ++ trailer_line trailer) lines
    ∙ append_assoc begun (trailer_lines (take index trailers)) (trailer_line trailer)
    ∙ ap (λ (l : List ℕ). begun ++ l) (sym (lines_snoc (take index trailers) trailer))
    ∙ ap (λ (ts : List TrailerView). begun ++ trailer_lines ts) (sym (take_snoc trailers index trailer within is))

pub all_snoc : (trailers : List TrailerView) (index : ℕ) (trailer : TrailerView) → index < length trailers → trailer ≡ get_or trailers index trailer
    → All IsLineTrailer (take index trailers) → IsLineTrailer trailer → All IsLineTrailer (take (index + 1) trailers)
all_snoc trailers index trailer within is all last = subst (λ (ts : List TrailerView). All IsLineTrailer ts) (sym (take_snoc trailers index trailer within is))
    (All-append IsLineTrailer (take index trailers) (trailer ∷ []) all (All-cons IsLineTrailer trailer [] last (All-nil IsLineTrailer)))

-- the first trailer that isn't one line
pub first_other : (trailers : List TrailerView) (index : ℕ) (trailer : TrailerView) → index < length trailers → trailer ≡ get_or trailers index trailer
    → All IsLineTrailer (take index trailers) → ¬ IsLineTrailer trailer → IsFirstOther trailers index
first_other trailers index trailer within is all other =
    let rest : drop index trailers ≡ trailer ∷ drop (suc index) trailers =
    drop-cons trailers index trailer within ∙ ap (λ (it : TrailerView). it ∷ drop (suc index) trailers) (sym is) in (
      take index trailers,
      drop (suc index) trailers,
      trailer,
      sym (take-append-drop index trailers) ∙ ap (λ (ts : List TrailerView). take index trailers ++ ts) rest,
      length-take-le index trailers (omega arith),
      all,
      other,
    )

-- all lines
pub lines_of_all : (begun bytes : List ℕ) (trailers : List TrailerView) (index : ℕ) → length trailers ≤ index
    → bytes ≡ begun ++ trailer_lines (take index trailers) → bytes ≡ begun ++ trailer_lines trailers
lines_of_all begun bytes trailers index over lines = lines ∙ ap (λ (ts : List TrailerView). begun ++ trailer_lines ts) (take_all index trailers over)

pub all_of_take : (trailers : List TrailerView) (index : ℕ) → length trailers ≤ index → All IsLineTrailer (take index trailers) → All IsLineTrailer trailers
all_of_take trailers index over all = subst (λ (ts : List TrailerView). All IsLineTrailer ts) (take_all index trailers over) all

-- the laws of an assembled message
abbrev pub MessageSplits : Type 0
MessageSplits = (title : List ℕ) (trailers : List TrailerView) → IsTitleLine title
    → SplitsTitle (assembled_message title trailers) title (trailer_body trailers)

abbrev pub MessageHasTrailers : Type 0
MessageHasTrailers = (title : List ℕ) (trailers : List TrailerView) → IsTitleLine title → All IsLineTrailer trailers
    → HasTrailers (assembled_message title trailers) trailers

pub message_of_parts : MessageSplits → MessageHasTrailers → (title begun bytes : List ℕ) (trailers : List TrailerView) → IsTitleLine title
    → begun ≡ title ++ 10 ∷ 10 ∷ [] → bytes ≡ begun ++ trailer_lines trailers → All IsLineTrailer trailers → IsMessageOf title trailers bytes
message_of_parts splits has title begun bytes trailers one first second lines =
    let message : bytes ≡ assembled_message title trailers =
    second ∙ ap (λ (l : List ℕ). l ++ trailer_lines trailers) first ∙ append_assoc title (10 ∷ 10 ∷ []) (trailer_lines trailers) in
    record {
      message = message;
      one_line = one;
      lines = lines;
      split = subst (λ (it : List ℕ). SplitsTitle it title (trailer_body trailers)) (sym message) (splits title trailers one);
      has = subst (λ (it : List ℕ). HasTrailers it trailers) (sym message) (has title trailers one lines);
    }

-- ---- a message with a description

abbrev pub DescribedMessageSplits : Type 0
DescribedMessageSplits = (title description : List ℕ) (trailers : List TrailerView) → IsTitleLine title
    → SplitsTitle (described_message title description trailers) title (Some (described_body description trailers))

abbrev pub DescriptionHasBlock : Type 0
DescriptionHasBlock = (description : List ℕ) (trailers : List TrailerView) → without_last_byte 13 description ≡ description → trailers ≢ []
    → All IsLineTrailer trailers
    → IsTrailerBlockStart (described_body description trailers) (length description)

abbrev pub DescribedMessageHasTrailers : Type 0
DescribedMessageHasTrailers = (title description : List ℕ) (trailers : List TrailerView) → IsTitleLine title → trailers ≢ [] → All IsLineTrailer trailers
    → HasTrailers (described_message title description trailers) trailers

described_message_assoc : (title description section : List ℕ)
    → (((title ++ 10 ∷ 10 ∷ []) ++ description) ++ 10 ∷ []) ++ section ≡ title ++ 10 ∷ 10 ∷ (description ++ 10 ∷ section)
described_message_assoc title description section = simp append_assoc

pub described_message_of_parts : DescribedMessageSplits → DescriptionHasBlock → DescribedMessageHasTrailers
    → (title description a b c bytes : List ℕ) (trailers : List TrailerView)
    → IsTitleLine title → a ≡ title ++ 10 ∷ 10 ∷ [] → b ≡ a ++ description → c ≡ b ++ 10 ∷ [] → bytes ≡ c ++ trailer_section trailers
    → All IsLineTrailer trailers → IsDescribedMessageOf title description trailers bytes
described_message_of_parts splits starts has title description a b c bytes trailers one first second third fourth lines =
    let joined : bytes ≡ (((title ++ 10 ∷ 10 ∷ []) ++ description) ++ 10 ∷ []) ++ trailer_section trailers = cc (first, second, third, fourth) in
    let message : bytes ≡ described_message title description trailers = joined ∙ described_message_assoc title description (trailer_section trailers) in
    record {
      message = message;
      one_line = one;
      lines = lines;
      split = subst (λ (it : List ℕ). SplitsTitle it title (Some (described_body description trailers))) (sym message) (splits title description trailers one);
      start = λ some kept. starts description trailers kept some lines;
      has = λ some. subst (λ (it : List ℕ). HasTrailers it trailers) (sym message) (has title description trailers one some lines);
    }
