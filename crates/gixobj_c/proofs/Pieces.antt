-- Positions of pieces in the input.
use Rattle.std.proofs.Common.{◌≡◌, ◌≤◌, ◌+◌, ◌-◌, ℕ, List, [], ◌++◌, ◌∷◌, ap, append_assoc, arith, drop, length, length-append, refl, sym, take, ◌∙◌}
use Rattle.std.proofs.lemmas.List.{append-nil, drop_at, take-append-drop, take_at}
use Rattle.gixobj_c.specs.Spans.{BeginsWithPiece, HasPieceBefore, IsSpanAtStart, IsSpanBefore}
use Rattle.gixobj_c.specs.declared.spans.Span.{Span}

input_len : (input piece : List ℕ) (after : ℕ) (has : HasPieceBefore input piece after) → length input ≡ length has.prefix + (length piece + after)
input_len input piece after has =
    let all : length input ≡ length (has.prefix ++ (piece ++ has.rest)) = ap length has.joined in
    omega (arith, all, length-append has.prefix (piece ++ has.rest), length-append piece has.rest, has.remaining)

pub piece_fits : (input piece : List ℕ) (after : ℕ) → HasPieceBefore input piece after → after + length piece ≤ length input
piece_fits input piece after has = let all = input_len input piece after has in omega (arith, all)

pub is_span_before : (input piece : List ℕ) (after : ℕ) (span : Span) → HasPieceBefore input piece after → span.start ≡ length input - after - length piece
    → span.len ≡ length piece → IsSpanBefore input piece after span
is_span_before input piece after span has start len =
    let all = input_len input piece after has in
    let prefix : length has.prefix ≡ span.start = omega (arith, all, start) in
    record {
      ends = omega (arith, all, start, len);
      bytes = ap (λ (it : List ℕ). take span.len (drop span.start it)) has.joined
          ∙ ap (take span.len) (drop_at has.prefix (piece ++ has.rest) span.start prefix)
          ∙ take_at piece has.rest span.len (sym len);
    }

pub is_span_at_start : (input piece : List ℕ) (span : Span) → BeginsWithPiece input piece → span.start ≡ 0 → span.len ≡ length piece
    → IsSpanAtStart input piece span
is_span_at_start input piece span has start len =
    let all : length input ≡ length (piece ++ has.rest) = ap length has.joined in
    record {
      start = start;
      within = omega (arith, all, length-append piece has.rest, len);
      bytes = ap (take span.len) has.joined ∙ take_at piece has.rest span.len (sym len);
    }

nil_of_len : (it : List ℕ) → length it ≡ 0 → it ≡ []
nil_of_len [] len = refl
nil_of_len (first ∷ more) len = cc len

pub rest_of_drop : (input rest : List ℕ) (n : ℕ) → HasPieceBefore input rest 0 → n ≡ length input - length rest → drop n input ≡ rest
rest_of_drop input rest n has same =
    let all = input_len input rest 0 has in
    let prefix : length has.prefix ≡ n = omega (arith, all, same) in
    let none : has.rest ≡ [] = nil_of_len has.rest has.remaining in
    ap (drop n) has.joined ∙ drop_at has.prefix (rest ++ has.rest) n prefix ∙ ap (λ (it : List ℕ). rest ++ it) none ∙ append-nil rest

-- a piece of the bytes from an offset on is a piece of the input
pub piece_of_tail : (input : List ℕ) (offset : ℕ) (prefix piece rest : List ℕ) (after : ℕ) → drop offset input ≡ prefix ++ (piece ++ rest) → length rest ≡ after
    → HasPieceBefore input piece after
piece_of_tail input offset prefix piece rest after joined len =
    let flat : take offset input ++ (prefix ++ (piece ++ rest)) ≡ (take offset input ++ prefix) ++ (piece ++ rest) = simp append_assoc in
    record {
      prefix = take offset input ++ prefix;
      rest = rest;
      joined = sym (take-append-drop offset input) ∙ ap (λ (it : List ℕ). take offset input ++ it) joined ∙ flat;
      remaining = len;
    }

-- the rest of the bytes from an offset on is a rest of the input
pub rest_of_tail : (input : List ℕ) (offset : ℕ) (piece rest : List ℕ) → drop offset input ≡ piece ++ rest → HasPieceBefore input rest 0
rest_of_tail input offset piece rest joined =
    piece_of_tail input offset piece rest [] 0 (joined ∙ ap (λ (it : List ℕ). piece ++ it) (sym (append-nil rest))) refl
