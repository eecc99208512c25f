-- The value of each line of a commit is at the offset and of the length that the line's token says; `token_of_line`,
-- `extra_header` and `gixobj_commit_token` use it, and so do the proofs of tags.
use Rattle.std.proofs.Common.{◌≡◌, ◌≤◌, ◌+◌, ◌-◌, ℕ, List, [], ◌∷◌, ◌++◌, ap, append_assoc, arith, drop, length, length-append, refl, subst, sym, take, ◌∙◌}
use Rattle.std.proofs.lemmas.List.{append-nil, drop-drop, drop_at, length-drop, take_at}
use Rattle.std.specs.List.{flat_map}
use Rattle.std.specs.Prelude.{codes}
use Rattle.gixobj_c.proofs.Pieces.{piece_of_tail, rest_of_tail}
use Rattle.gixobj_c.specs.Commits.{BeginsWithLineAt, IsTokenOfLine}
use Rattle.gixobj_c.specs.Spans.{HasPieceBefore}
use Rattle.gixobj_c.specs.declared.commits.CommitToken.{CommitToken}
use Rattle.gixobj_hash.specs.HeaderFormat.{BeginsWithField, BeginsWithHeader, Header, encode_continuation}
use Rattle.gixobj_hash.specs.FieldFormat.{encode_field, encode_line}
use Rattle.gixobj_hash.specs.declared.hash.kind.Kind.{Kind}
use Rattle.gixobj_grammar.specs.Lines.{BeginsWithLine, LineView, author_comes, author_line, committer_comes, committer_line, encoding_comes, encoding_line}
use Rattle.gixobj_grammar.specs.Lines.{first_header_comes, first_message_comes, header_comes, header_line, line_view, message_comes, message_line, parent_comes}
use Rattle.gixobj_grammar.specs.Lines.{parent_line, tree_comes, tree_line}
use Rattle.gixobj_grammar.specs.declared.lines.Line.{Line}
use Rattle.gixobj_grammar.specs.declared.lines.State.{State}

-- ---- lines of one value

pub value_of_field : (name commit : List ℕ) (offset : ℕ) (value rest : List ℕ) → BeginsWithField name (drop offset commit) value rest
    → HasPieceBefore commit value (length rest + 1)
value_of_field name commit offset value rest has =
    let flat : encode_field name value ++ rest ≡ (name ++ 32 ∷ []) ++ (value ++ (10 ∷ rest)) = simp append_assoc in
    piece_of_tail commit offset (name ++ 32 ∷ []) value (10 ∷ rest) (length rest + 1) (has.joined ∙ flat) (omega arith)

pub tree_value : (commit : List ℕ) (offset : ℕ) (hex rest : List ℕ) → BeginsWithLineAt commit offset (tree_line hex) rest
    → HasPieceBefore commit hex (length rest + 1)
tree_value commit offset hex rest (kind, _, _, tree_comes _ _ _ has) = value_of_field _ commit offset hex rest has.0

pub parent_value : (commit : List ℕ) (offset : ℕ) (hex rest : List ℕ) → BeginsWithLineAt commit offset (parent_line hex) rest
    → HasPieceBefore commit hex (length rest + 1)
parent_value commit offset hex rest (kind, _, _, parent_comes _ _ _ has) = value_of_field _ commit offset hex rest has.0

pub author_value : (commit : List ℕ) (offset : ℕ) (actor rest : List ℕ) → BeginsWithLineAt commit offset (author_line actor) rest
    → HasPieceBefore commit actor (length rest + 1)
author_value commit offset actor rest (kind, _, _, author_comes _ _ _ has) = value_of_field _ commit offset actor rest has.0

pub committer_value : (commit : List ℕ) (offset : ℕ) (actor rest : List ℕ) → BeginsWithLineAt commit offset (committer_line actor) rest
    → HasPieceBefore commit actor (length rest + 1)
committer_value commit offset actor rest (kind, _, _, committer_comes _ _ _ has) = value_of_field _ commit offset actor rest has.0

pub encoding_value : (commit : List ℕ) (offset : ℕ) (name rest : List ℕ) → BeginsWithLineAt commit offset (encoding_line name) rest
    → HasPieceBefore commit name (length rest + 1)
encoding_value commit offset name rest (kind, _, _, encoding_comes _ _ _ has) = value_of_field _ commit offset name rest has

pub message_value : (commit : List ℕ) (offset : ℕ) (message rest : List ℕ) → BeginsWithLineAt commit offset (message_line message) rest
    → HasPieceBefore commit message 0
message_value commit offset message rest (kind, _, _, first_message_comes _ _ is) = rest_of_tail commit offset (10 ∷ []) message is
message_value commit offset message rest (kind, _, _, message_comes _ _ is) = rest_of_tail commit offset (10 ∷ []) message is

pub line_of_variant : (commit : List ℕ) (offset : ℕ) (it other : Line) (rest : List ℕ) → it ≡ other → BeginsWithLineAt commit offset (line_view it) rest
    → BeginsWithLineAt commit offset (line_view other) rest
line_of_variant commit offset it other rest is has = subst (λ (it : Line). BeginsWithLineAt commit offset (line_view it) rest) is has

pub header_of_line : (commit : List ℕ) (offset : ℕ) (header : Header) (rest : List ℕ) → BeginsWithLineAt commit offset (header_line header) rest
    → BeginsWithHeader (drop offset commit) header rest
header_of_line commit offset header rest (kind, _, _, first_header_comes _ _ _ has other) = has
header_of_line commit offset header rest (kind, _, _, header_comes _ _ _ has) = has

-- ---- the rest

rest_at_line : (kind : Kind) (before : State) (commit : List ℕ) (offset : ℕ) (line : LineView) (after : State) (rest : List ℕ)
    → BeginsWithLine kind before (drop offset commit) line after rest → HasPieceBefore commit rest 0
rest_at_line kind before commit offset line after rest (tree_comes _ hex _ has) = rest_of_tail commit offset (encode_field (codes "tree") hex) rest has.0.joined
rest_at_line kind before commit offset line after rest (parent_comes _ hex _ has) =
    rest_of_tail commit offset (encode_field (codes "parent") hex) rest has.0.joined
rest_at_line kind before commit offset line after rest (author_comes _ bytes _ has) =
    rest_of_tail commit offset (encode_field (codes "author") bytes) rest has.0.joined
rest_at_line kind before commit offset line after rest (committer_comes _ bytes _ has) =
    rest_of_tail commit offset (encode_field (codes "committer") bytes) rest has.0.joined
rest_at_line kind before commit offset line after rest (encoding_comes _ bytes _ has) =
    rest_of_tail commit offset (encode_field (codes "encoding") bytes) rest has.joined
rest_at_line kind before commit offset line after rest (first_header_comes _ header _ has other) = rest_of_tail commit offset has.encoded rest has.joined
rest_at_line kind before commit offset line after rest (header_comes _ header _ has) = rest_of_tail commit offset has.encoded rest has.joined
rest_at_line kind before commit offset line after rest (first_message_comes _ message is) = rest_of_tail commit offset (10 ∷ message) [] (is
    ∙ sym (append-nil (10 ∷ message)))
rest_at_line kind before commit offset line after rest (message_comes _ message is) = rest_of_tail commit offset (10 ∷ message) [] (is
    ∙ sym (append-nil (10 ∷ message)))

pub rest_of_line : (kind : Kind) (before : State) (commit : List ℕ) (offset : ℕ) (input : List ℕ) (line : LineView) (after : State) (rest : List ℕ)
    → input ≡ drop offset commit → BeginsWithLine kind before input line after rest → HasPieceBefore commit rest 0
rest_of_line kind before commit offset input line after rest from has =
    rest_at_line kind before commit offset line after rest (subst (λ (it : List ℕ). BeginsWithLine kind before it line after rest) from has)

-- ---- headers

header_joined : (commit : List ℕ) (offset : ℕ) (header : Header) (rest : List ℕ) (it : BeginsWithHeader (drop offset commit) header rest)
    → drop offset commit ≡ header.name ++ (32 ∷ ((encode_line it.written.first ++ flat_map encode_continuation it.written.more) ++ rest))
header_joined commit offset header rest it =
    let is = it.written in
    let flat : (header.name ++ 32 ∷ encode_line is.first ++ flat_map encode_continuation is.more) ++ rest ≡ header.name ++ (32 ∷ ((encode_line is.first ++
    flat_map encode_continuation is.more) ++ rest)) = simp append_assoc in
    it.joined ∙ ap (λ (bytes : List ℕ). bytes ++ rest) is.joined ∙ flat

header_len : (commit : List ℕ) (offset : ℕ) (header : Header) (rest : List ℕ) (it : BeginsWithHeader (drop offset commit) header rest)
    → length (drop offset commit) ≡ length header.name + (1 + (length (encode_line it.written.first ++ flat_map encode_continuation it.written.more) + length
    rest))
header_len commit offset header rest it =
    let is = it.written in
    let one = ap length (header_joined commit offset header rest it) in
    omega (
      arith,
      one,
      length-append header.name (32 ∷ ((encode_line is.first ++ flat_map encode_continuation is.more) ++ rest)),
      length-append (encode_line
          is.first ++ flat_map encode_continuation is.more) rest,
    )

pub header_fits : (commit : List ℕ) (offset : ℕ) (header : Header) (rest : List ℕ) → BeginsWithHeader (drop offset commit) header rest
    → (offset + length header.name + 1 + length rest ≤ length commit) × (length rest ≤ length commit) × (offset + length header.name + 1 ≤ length commit -
    length rest)
header_fits commit offset header rest it =
    let all = header_len commit offset header rest it in
    let less = length-drop offset commit in
    (omega (arith, all, less), omega (arith, all, less), omega (arith, all, less))

lines_at_value : (commit : List ℕ) (offset : ℕ) (header : Header) (rest : List ℕ) (it : BeginsWithHeader (drop offset commit) header rest) (n : ℕ)
    → n ≡ offset + length header.name + 1
    → drop n commit ≡ (encode_line it.written.first ++ flat_map encode_continuation it.written.more) ++ rest
lines_at_value commit offset header rest it n same =
    let lines : List ℕ = encode_line it.written.first ++ flat_map encode_continuation it.written.more in
    let sum : n ≡ offset + (length header.name + 1) = omega (arith, same) in
    let len : length (header.name ++ 32 ∷ []) ≡ length header.name + 1 = omega (arith, length-append header.name (32 ∷ [])) in
    ap (λ (k : ℕ). drop k commit) sum ∙ sym (drop-drop (length header.name + 1) offset commit)
    ∙ ap (drop (length header.name + 1)) (header_joined commit offset header rest it ∙ sym (append_assoc header.name (32 ∷ []) (lines ++ rest)))
    ∙ drop_at (header.name ++ 32 ∷ []) (lines ++ rest) (length header.name + 1) len

pub is_token_of_header : (commit : List ℕ) (offset : ℕ) (header : Header) (rest : List ℕ) (token : CommitToken)
    → BeginsWithHeader (drop offset commit) header rest
    → token.kind ≡ 6 → token.name.start ≡ offset → token.name.len ≡ length header.name → token.value.start ≡ offset + length header.name + 1
    → token.value.len ≡ length commit - length rest - token.value.start → IsTokenOfLine commit offset (header_line header) rest token
is_token_of_header commit offset header rest token it is_kind start len value_start value_len =
    let lines : List ℕ = encode_line it.written.first ++ flat_map encode_continuation it.written.more in
    let all = header_len commit offset header rest it in
    let less = length-drop offset commit in
    let long : length lines ≡ token.value.len = omega (arith, all, less, value_start, value_len) in
    record {
      bytes = lines;
      kind = is_kind;
      start = start;
      name = record {
        ends = omega (arith, all, less, start, len);
        bytes = ap (λ (n : ℕ). take token.name.len (drop n commit)) start ∙ ap (take token.name.len) (header_joined commit offset header rest it)
            ∙ take_at header.name (32 ∷ (lines ++ rest)) token.name.len (sym len);
      };
      value = record {
        ends = omega (arith, all, less, value_start, value_len, long);
        bytes = ap (take token.value.len) (lines_at_value commit offset header rest it token.value.start value_start)
            ∙ take_at lines rest token.value.len long;
      };
      lines = record {
        first = it.written.first;
        more = it.written.more;
        joined = refl;
        one_line = it.written.one_line;
        each_one_line = it.written.each_one_line;
        decoded = it.written.value;
      };
    }

-- a token of the line of a variant is one of the line that equals it
pub is_token_of_same_line : (commit : List ℕ) (offset : ℕ) (it other : Line) (rest : List ℕ) (token result : CommitToken) → it ≡ other → result ≡ token
    → IsTokenOfLine commit offset (line_view other) rest token → IsTokenOfLine commit offset (line_view it) rest result
is_token_of_same_line commit offset it other rest token result is same is_token =
    subst (λ (it : Line). IsTokenOfLine commit offset (line_view it) rest result) (sym is)
    (subst (λ (it : CommitToken). IsTokenOfLine commit offset (line_view other) rest it) (sym same) is_token)
