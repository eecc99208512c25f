-- Positions of the parts of a tag; the proofs of `gixobj_tag_token`, `token_at` and `field_span` use them.
use Rattle.std.proofs.Common.{◌≡◌, ◌≤◌, ◌+◌, ◌-◌, ℕ, List, [], ◌∷◌, ◌++◌, ap, append_assoc, arith, drop, length, length-append, refl, subst, sym, ◌∙◌}
use Rattle.std.proofs.lemmas.List.{append-nil, length-drop}
use Rattle.std.specs.Prelude.{Option, codes}
use Rattle.gixobj_c.proofs.Lines.{value_of_field}
use Rattle.gixobj_c.proofs.Pieces.{is_span_before, piece_of_tail, rest_of_tail}
use Rattle.gixobj_c.specs.Spans.{HasPieceBefore}
use Rattle.gixobj_c.specs.Tags.{BeginsWithTokenAt, HasBodyParts, IsFieldSpan}
use Rattle.gixobj_c.specs.declared.spans.Span.{Span}
use Rattle.gixobj_hash.specs.HeaderFormat.{BeginsWithField}
use Rattle.gixobj_hash.specs.FieldFormat.{encode_field}
use Rattle.gixobj_hash.specs.Kind.{kind_name}
use Rattle.gixobj_hash.specs.declared.hash.kind.Kind.{Kind}
use Rattle.gixobj_grammar.specs.TagTokens.{BeginsWithTagToken, TagTokenView, body_comes, body_token, kind_comes, name_comes, no_tagger_comes, tag_token_view}
use Rattle.gixobj_grammar.specs.TagTokens.{tagger_comes, target_comes}
use Rattle.gixobj_grammar.specs.declared.tokens.State.{State}
use Rattle.gixobj_grammar.specs.declared.tokens.Token.{Token}
use Rattle.gixobj_grammar.specs.TagBodies.{IsBody, IsParted, after_a_newline, newlines_alone, signed, signed_at_once, unsigned}

-- ---- fields

field_len : (name tag : List ℕ) (offset : ℕ) (value rest : List ℕ) → BeginsWithField name (drop offset tag) value rest
    → length (drop offset tag) ≡ length name + (1 + (length value + (1 + length rest)))
field_len name tag offset value rest has =
    let flat : encode_field name value ++ rest ≡ name ++ (32 ∷ (value ++ (10 ∷ rest))) = simp append_assoc in
    let all = ap length (has.joined ∙ flat) in
    omega (arith, all, length-append name (32 ∷ (value ++ (10 ∷ rest))), length-append value (10 ∷ rest))

pub field_fits : (name tag : List ℕ) (offset : ℕ) (rest : List ℕ) → (value : List ℕ) × BeginsWithField name (drop offset tag) value rest
    → (offset + length name + 1 + (length rest + 1) ≤ length tag) × (length rest + 1 ≤ length tag)
field_fits name tag offset rest (value, has) =
    let all = field_len name tag offset value rest has in
    let less = length-drop offset tag in
    (omega (arith, all, less), omega (arith, all, less))

pub is_field_span : (name tag : List ℕ) (offset : ℕ) (rest : List ℕ) (span : Span) → (value : List ℕ) × BeginsWithField name (drop offset tag) value rest
    → span.start ≡ offset + length name + 1 → span.len ≡ length tag - length rest - 1 - span.start → IsFieldSpan name tag offset rest span
is_field_span name tag offset rest span (value, has) start len =
    let all = field_len name tag offset value rest has in
    let less = length-drop offset tag in
    record {
      value = value;
      begins = has;
      bytes = is_span_before tag value (length rest + 1) span (value_of_field name tag offset value rest has) (omega (arith, all, less, start))
          (omega (arith, all, less, start, len));
    }

-- ---- bodies

parted_parts : (tag : List ℕ) (offset : ℕ) (content message : List ℕ) (signature : Option (List ℕ)) → drop offset tag ≡ 10 ∷ content
    → IsParted content message signature → HasBodyParts tag message signature
parted_parts tag offset content message signature joined (unsigned _ none) = rest_of_tail tag offset (10 ∷ []) content joined
parted_parts tag offset content message signature joined (signed_at_once _ format is) = (
  piece_of_tail tag offset [] [] (10 ∷ content) (length content + 1) joined (omega arith),
  rest_of_tail tag offset (10 ∷ []) content joined,
)
parted_parts tag offset content message signature joined (signed _ _ own format same is) =
    let flat : 10 ∷ (message ++ (10 ∷ own)) ≡ (10 ∷ (message ++ (10 ∷ []))) ++ own = simp append_assoc in (
      piece_of_tail tag offset (10 ∷ []) message (10 ∷ own) (length own + 1) (joined ∙ ap (λ (it : List ℕ). 10 ∷ it) same) (omega arith),
      rest_of_tail tag offset (10 ∷ (message ++ (10 ∷ []))) own (joined ∙ ap (λ (it : List ℕ). 10 ∷ it) same ∙ flat),
    )

body_parts : (tag : List ℕ) (offset : ℕ) (input message : List ℕ) (signature : Option (List ℕ)) → drop offset tag ≡ input → IsBody input message signature
    → HasBodyParts tag message signature
body_parts tag offset input message signature from (newlines_alone _ all) = rest_of_tail tag offset [] input from
body_parts tag offset input message signature from (after_a_newline _ content _ _ joined other parted) =
    parted_parts tag offset content message signature (from ∙ joined) parted

pub parts_of_body : (tag : List ℕ) (offset : ℕ) (message : List ℕ) (signature : Option (List ℕ)) (rest : List ℕ)
    → BeginsWithTokenAt tag offset (body_token message signature) rest → HasBodyParts tag message signature
parts_of_body tag offset message signature rest (kind, _, _, body_comes _ _ _ some is) = body_parts tag offset (drop offset tag) message signature refl is

pub token_of_variant : (tag : List ℕ) (offset : ℕ) (it other : Token) (rest : List ℕ) → it ≡ other → BeginsWithTokenAt tag offset (tag_token_view it) rest
    → BeginsWithTokenAt tag offset (tag_token_view other) rest
token_of_variant tag offset it other rest is has = subst (λ (it : Token). BeginsWithTokenAt tag offset (tag_token_view it) rest) is has

-- ---- the rest

rest_at_token : (kind : Kind) (before : State) (tag : List ℕ) (offset : ℕ) (token : TagTokenView) (after : State) (rest : List ℕ)
    → BeginsWithTagToken kind before (drop offset tag) token after rest → HasPieceBefore tag rest 0
rest_at_token kind before tag offset token after rest (target_comes _ hex _ id has is) =
    rest_of_tail tag offset (encode_field (codes "object") hex) rest has.0.joined
rest_at_token kind before tag offset token after rest (kind_comes _ _ of has) =
    rest_of_tail tag offset (encode_field (codes "type") (kind_name of)) rest has.joined
rest_at_token kind before tag offset token after rest (name_comes _ name _ has) =
    rest_of_tail tag offset (encode_field (codes "tag") name) rest has.0.joined
rest_at_token kind before tag offset token after rest (tagger_comes _ line _ actor following has is) =
    rest_of_tail tag offset (encode_field (codes "tagger") line) rest has.joined
rest_at_token kind before tag offset token after rest (no_tagger_comes _ some other) = rest_of_tail tag offset [] (drop offset tag) refl
rest_at_token kind before tag offset token after rest (body_comes _ message signature some is) =
    rest_of_tail tag offset (drop offset tag) [] (sym (append-nil (drop offset tag)))

pub rest_of_token : (kind : Kind) (before : State) (tag : List ℕ) (offset : ℕ) (input : List ℕ) (token : TagTokenView) (after : State) (rest : List ℕ)
    → input ≡ drop offset tag → BeginsWithTagToken kind before input token after rest → HasPieceBefore tag rest 0
rest_of_token kind before tag offset input token after rest from has =
    rest_at_token kind before tag offset token after rest (subst (λ (it : List ℕ). BeginsWithTagToken kind before it token after rest) from has)
