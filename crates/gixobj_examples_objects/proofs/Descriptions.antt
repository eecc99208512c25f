-- The trailers after a description are the trailer block of their message; the law `described_message_has_parts` uses it.
use Rattle.std.proofs.Common.{◌≡◌, ◌≢◌, ◌⊎◌, ◌∙◌, ◌+◌, ◌==◌, ◌++◌, ◌∷◌, ℕ, [], Bool, List, Some, ap, append-nil, append_assoc, arith, cond, drop, false, inl}
use Rattle.std.proofs.Common.{inr, length, length-append, map, refl, subst, sym, true}
use Rattle.std.proofs.lemmas.Bool.{cases_eq}
use Rattle.std.proofs.lemmas.Bool.Decides.{nat_tests}
use Rattle.std.proofs.lemmas.List.Elements.{All-cons, All-nil}
use Rattle.std.proofs.lemmas.List.Prefix.{front_rest}
use Rattle.std.specs.List.{concat, take_while}
use Rattle.std.specs.Prelude.{All, IsTrue}
use Rattle.bstr.specs.Text.{lines_of}
use Rattle.bstr.proofs.lemmas.LineLemmas.{lines-append}
use Rattle.bstr.proofs.lemmas.RestLemmas.{concat-lines_of}
use Rattle.gix_object.specs.BodyLines.{is_blank, is_continuation_line, trailer_parts, trimmed_line, without_last_byte}
use Rattle.gix_object.specs.ByteStrings.{IsByteFree}
use Rattle.gix_object.specs.MessageTrailers.{HasTrailers}
use Rattle.gix_object.specs.TrailerBlocks.{HasBlock, IsTrailerBlockStart}
use Rattle.gix_object.specs.Trailers.{TrailerView, trailers_of, trailers_of_bytes, with_trailer}
use Rattle.gixobj_examples_objects.proofs.AssembledBlocks.{TrailerLineDecodes, ends_line, lines_of_line_append, lines_of_trailers, map_not_nil, no_others}
use Rattle.gixobj_examples_objects.proofs.AssembledBlocks.{none_blank, some_trailers, trailers_of_lines, without_last_append}
use Rattle.gixobj_examples_objects.proofs.AssembledTitles.{title_of_described_message}
use Rattle.gixobj_examples_objects.proofs.CarriageReturns.{without_last_same}
use Rattle.gixobj_examples_objects.specs.Assembled.{IsLineTrailer, IsTitleLine, described_body, described_message, trailer_line, trailer_lines, trailer_section}

-- ---- the last line of a description

-- the description has no newline, or it splits at its last one
abbrev AtNewline : List ℕ → Type 0
AtNewline description = IsByteFree 10 description ⊎ ((before last : List ℕ) × (description ≡ (before ++ 10 ∷ []) ++ last) × IsByteFree 10 last)

at_newline_cons : (x : ℕ) (description : List ℕ) → AtNewline description → (x ≡ 10) ⊎ (x ≡ 10 → ⊥) → AtNewline (x ∷ description)
at_newline_cons x description (inl free) (inl is) = inr ([], description, ap (λ (k : ℕ). k ∷ description) is, free)
at_newline_cons x description (inl free) (inr other) = inl (All-cons (λ (it : ℕ). it ≢ 10) x description other free)
at_newline_cons x description (inr (before, last, joined, free)) either = inr (x ∷ before, last, ap (λ (l : List ℕ). x ∷ l) joined, free)

at_newline : (description : List ℕ) → AtNewline description
at_newline [] = inl (All-nil (λ (it : ℕ). it ≢ 10))
at_newline (x ∷ description) = at_newline_cons x description (at_newline description) (cases_eq x 10)

-- the lines of a description before its last line, which no newline ends
record EndsInLine (description : List ℕ) : Type 0 where
  lines : List (List ℕ)
  last : List ℕ
  joined : description ≡ concat lines ++ last
  free : IsByteFree 10 last
  split : (rest : List ℕ) → lines_of (description ++ rest) ≡ lines ++ lines_of (last ++ rest)

ends_in_line_of_split : (description : List ℕ) → AtNewline description → EndsInLine description
ends_in_line_of_split description (inl free) = record { lines = []; last = description; joined = refl; free = free; split = λ rest. refl }
ends_in_line_of_split description (inr (before, last, joined, free)) =
    let ended = before ++ 10 ∷ [] in record {
      lines = lines_of ended;
      last = last;
      joined = joined ∙ ap (λ (l : List ℕ). l ++ last) (sym (concat-lines_of ended));
      free = free;
      split = λ rest. ap (λ (l : List ℕ). lines_of (l ++ rest)) joined ∙ ap lines_of (append_assoc ended last rest)
          ∙ lines-append (length ended) ended (last ++ rest) (omega arith) (inr (ends_line before));
    }

ends_in_line : (description : List ℕ) → EndsInLine description
ends_in_line description = ends_in_line_of_split description (at_newline description)

-- ---- the lines of the body

-- a line, an empty line and trailers
lines_of_section : (last : List ℕ) (trailers : List TrailerView) → IsByteFree 10 last → All IsLineTrailer trailers
    → lines_of (last ++ 10 ∷ 10 ∷ trailer_lines trailers) ≡ (last ++ 10 ∷ []) ∷ (10 ∷ []) ∷ map trailer_line trailers
lines_of_section last trailers free all =
    ap lines_of (sym (append_assoc last (10 ∷ []) (10 ∷ trailer_lines trailers)))
    ∙ lines_of_line_append last (10 ∷ trailer_lines trailers) free
    ∙ ap (λ (ls : List (List ℕ)). (last ++ 10 ∷ []) ∷ ls) (lines_of_line_append [] (trailer_lines trailers) (All-nil (λ (it : ℕ). it ≢ 10)))
    ∙ ap (λ (ls : List (List ℕ)). (last ++ 10 ∷ []) ∷ (10 ∷ []) ∷ ls) (lines_of_trailers trailers all)

section_of_some : (trailers : List TrailerView) → trailers ≢ [] → trailer_section trailers ≡ 10 ∷ trailer_lines trailers
section_of_some [] some = absurd (some refl)
section_of_some (trailer ∷ trailers) some = refl

body_of_some : (description : List ℕ) (trailers : List TrailerView) → trailers ≢ []
    → described_body description trailers ≡ description ++ 10 ∷ 10 ∷ trailer_lines trailers
body_of_some description trailers some = ap (λ (l : List ℕ). description ++ 10 ∷ l) (section_of_some trailers some)

lines_of_body : (description : List ℕ) (it : EndsInLine description) (trailers : List TrailerView) → trailers ≢ [] → All IsLineTrailer trailers
    → lines_of (described_body description trailers) ≡ it.lines ++ (it.last ++ 10 ∷ []) ∷ (10 ∷ []) ∷ map trailer_line trailers
lines_of_body description it trailers some all =
    ap lines_of (body_of_some description trailers some) ∙ it.split (10 ∷ 10 ∷ trailer_lines trailers)
    ∙ ap (λ (ls : List (List ℕ)). it.lines ++ ls) (lines_of_section it.last trailers it.free all)

-- ---- the block

block_of_description : TrailerLineDecodes → (description : List ℕ) (it : EndsInLine description) (trailers : List TrailerView) → trailers ≢ []
    → All IsLineTrailer trailers
    → HasBlock (lines_of (described_body description trailers)) (length (concat it.lines) + length (trimmed_line (it.last ++ 10 ∷ [])))
block_of_description decodes description it trailers some all =
    let line = it.last ++ 10 ∷ [] in
    let run = map trailer_line trailers in
    let before = it.lines ++ line ∷ (10 ∷ []) ∷ [] in record {
      before = before;
      run = run;
      after = [];
      last = record {
        joined = lines_of_body description it trailers some all ∙ sym (append_assoc it.lines (line ∷ (10 ∷ []) ∷ []) run) ∙ sym (append-nil (before ++ run));
        some = map_not_nil trailers some;
        none_blank = none_blank decodes trailers all;
        all_blank = All-nil (λ (line : List ℕ). IsTrue (is_blank line));
        ends = inr (it.lines ++ line ∷ [], 10 ∷ [], sym (append_assoc it.lines (line ∷ []) ((10 ∷ []) ∷ [])), refl);
      };
      block = inl (some_trailers decodes trailers some all, no_others decodes false trailers all);
      starts = inr (inr (it.lines, line, 10 ∷ [], refl, refl));
    }

trimmed_of_line : (last : List ℕ) → trimmed_line (last ++ 10 ∷ []) ≡ without_last_byte 13 last
trimmed_of_line last = ap (λ (l : List ℕ). without_last_byte 13 l) (without_last_same 10 last)

-- the last line of a description without a final carriage return has none
len_of_kept : (xs last : List ℕ) → without_last_byte 13 (xs ++ last) ≡ xs ++ last → length (without_last_byte 13 last) ≡ length last
len_of_kept xs [] kept = refl
len_of_kept xs (y ∷ last) kept =
    let same : xs ++ without_last_byte 13 (y ∷ last) ≡ xs ++ y ∷ last = sym (without_last_append 13 y xs last) ∙ kept in
    omega (arith, ap length same, length-append xs (without_last_byte 13 (y ∷ last)), length-append xs (y ∷ last))

pub start_of_description : TrailerLineDecodes → (description : List ℕ) (trailers : List TrailerView) → without_last_byte 13 description ≡ description
    → trailers ≢ []
    → All IsLineTrailer trailers → IsTrailerBlockStart (described_body description trailers) (length description)
start_of_description decodes description trailers kept some all =
    let it = ends_in_line description in
    let last_kept : length (without_last_byte 13 it.last) ≡ length it.last =
    len_of_kept (concat it.lines) it.last (subst (λ (l : List ℕ). without_last_byte 13 l ≡ l) it.joined kept) in
    let len : length (concat it.lines) + length (trimmed_line (it.last ++ 10 ∷ [])) ≡ length description =
    omega (arith, ap length (trimmed_of_line it.last), last_kept, ap length it.joined, length-append (concat it.lines) it.last) in
    inl (subst (λ (n : ℕ). HasBlock (lines_of (described_body description trailers)) n) len (block_of_description decodes description it trailers some all))

-- ---- the trailers

-- what a line has after its content, before its newline
record HasReturn (last : List ℕ) : Type 0 where
  rest : List ℕ
  joined : last ≡ without_last_byte 13 last ++ rest
  free : IsByteFree 10 rest
  blank : trimmed_line (rest ++ 10 ∷ []) ≡ []

has_return_cons : (x y : ℕ) (last : List ℕ) → HasReturn (y ∷ last) → HasReturn (x ∷ y ∷ last)
has_return_cons x y last it = record { rest = it.rest; joined = ap (λ (l : List ℕ). x ∷ l) it.joined; free = it.free; blank = it.blank }

has_return_one : (x : ℕ) (b : Bool) → (x == 13) ≡ b → HasReturn (x ∷ [])
has_return_one x true is =
    let same : x ≡ 13 = grind (arith, nat_tests) in record {
      rest = x ∷ [];
      joined = ap (λ (b : Bool). cond b [] (x ∷ []) ++ x ∷ []) (sym is);
      free = All-cons (λ (it : ℕ). it ≢ 10) x [] (λ ten. omega (arith, same, ten)) (All-nil (λ (it : ℕ). it ≢ 10));
      blank = ap (λ (k : ℕ). trimmed_line (k ∷ 10 ∷ [])) same;
    }
has_return_one x false is = record {
  rest = [];
  joined = ap (λ (b : Bool). cond b [] (x ∷ []) ++ []) (sym is);
  free = All-nil (λ (it : ℕ). it ≢ 10);
  blank = refl;
}

has_return : (last : List ℕ) → HasReturn last
has_return [] = record { rest = []; joined = refl; free = All-nil (λ (it : ℕ). it ≢ 10); blank = refl }
has_return (x ∷ []) = has_return_one x (x == 13) refl
has_return (x ∷ y ∷ last) = has_return_cons x y last (has_return (y ∷ last))

-- two blank lines before trailers add none
trailers_after_blank : TrailerLineDecodes → (rest : List ℕ) (trailers : List TrailerView) → trimmed_line (rest ++ 10 ∷ []) ≡ [] → IsByteFree 10 rest
    → All IsLineTrailer trailers → trailers_of_bytes (rest ++ 10 ∷ 10 ∷ trailer_lines trailers) ≡ trailers
trailers_after_blank decodes rest trailers blank free all =
    let lines = (10 ∷ []) ∷ map trailer_line trailers in
    ap trailers_of (lines_of_section rest trailers free all)
    ∙ ap (λ (l : List ℕ). with_trailer (trailer_parts l) (take_while is_continuation_line lines) (trailers_of lines)) blank
    ∙ trailers_of_lines decodes trailers all

-- the bytes from the start of the block on
rest_of_body : (description : List ℕ) (it : EndsInLine description) (trailers : List TrailerView) → trailers ≢ []
    → drop (length (concat it.lines) + length (trimmed_line (it.last ++ 10 ∷ []))) (described_body description trailers)
    ≡ (has_return it.last).rest ++ 10 ∷ 10 ∷ trailer_lines trailers
rest_of_body description it trailers some =
    let content = without_last_byte 13 it.last in
    let rest = (has_return it.last).rest in
    let tail = 10 ∷ 10 ∷ trailer_lines trailers in
    let joined : description ≡ (concat it.lines ++ content) ++ rest =
    it.joined ∙ ap (λ (l : List ℕ). concat it.lines ++ l) (has_return it.last).joined ∙ sym (append_assoc (concat it.lines) content rest) in
    let body : described_body description trailers ≡ (concat it.lines ++ content) ++ (rest ++ tail) =
    body_of_some description trailers some ∙ ap (λ (l : List ℕ). l ++ tail) joined ∙ append_assoc (concat it.lines ++ content) rest tail in
    let len : length (concat it.lines) + length (trimmed_line (it.last ++ 10 ∷ [])) ≡ length (concat it.lines ++ content) =
    omega (arith, ap length (trimmed_of_line it.last), length-append (concat it.lines) content) in
    ap (λ (n : ℕ). drop n (described_body description trailers)) len
    ∙ front_rest (described_body description trailers) (concat it.lines ++ content) (rest ++ tail) body

pub trailers_of_described_message : TrailerLineDecodes → (title description : List ℕ) (trailers : List TrailerView) → IsTitleLine title → trailers ≢ []
    → All IsLineTrailer trailers → HasTrailers (described_message title description trailers) trailers
trailers_of_described_message decodes title description trailers is some all =
    let it = ends_in_line description in
    let body = described_body description trailers in
    let start = length (concat it.lines) + length (trimmed_line (it.last ++ 10 ∷ [])) in
    let after = has_return it.last in (
      drop start body,
      record {
        title = title;
        body = Some body;
        split = title_of_described_message title description trailers is;
        has = (start, inl (block_of_description decodes description it trailers some all), refl);
      },
      sym (ap trailers_of_bytes (rest_of_body description it trailers some) ∙ trailers_after_blank decodes after.rest trailers after.blank after.free all),
    )
