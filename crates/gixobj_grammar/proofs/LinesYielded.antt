-- The encoding of a commit yields its lines; `EntireCommits`, the proofs of tokens and those of received commits use it.
use Rattle.std.proofs.Common.{◌≡◌, ◌≢◌, ℕ, List, [], ◌∷◌, ◌++◌, All, Option, Some, None, arith, refl, sym, ap, subst, ◌∙◌, append_assoc}
use Rattle.std.proofs.lemmas.List.Elements.{All-head, All-tail}
use Rattle.std.specs.List.{flat_map}
use Rattle.std.specs.Prelude.{codes, map}
use Rattle.gixobj_parse.proofs.HeaderFields.{hex_digits_newline_free}
use Rattle.gixobj_hash.specs.HeaderFormat.{EndsHeader, BeginsWithField, BeginsWithHeader, Header, DecodesToHeader, encode_continuation}
use Rattle.gixobj_hash.specs.FieldFormat.{encode_field}
use Rattle.gixobj_hash.specs.Runs.{Yields, complete, yields_end, yields_piece}
use Rattle.gixobj_hash.specs.Hash.Hex.{IsIdHexOfKind}
use Rattle.gixobj_hash.specs.declared.hash.kind.Kind.{Kind}
use Rattle.gixobj_grammar.specs.Commit.{DecodesToHeaders, CommitLines, DecodesToCommit, IsEncoding, encoding_lines, encode_encoding, lines_of_commit}
use Rattle.gixobj_grammar.specs.Commit.{encode_parent}
use Rattle.gixobj_grammar.specs.Lines.{BeginsWithLine, LineView, author_comes, author_line, committer_comes, committer_line, encoding_comes, encoding_line}
use Rattle.gixobj_grammar.specs.Lines.{first_header_comes, first_message_comes, header_comes, header_line, message_comes, message_line, parent_comes}
use Rattle.gixobj_grammar.specs.Lines.{parent_line, tree_comes, tree_line}
use Rattle.gixobj_actor.specs.Actor.{NamesActor}
use Rattle.gixobj_grammar.specs.declared.lines.State.TheVariants as state
use Rattle.gixobj_hash.specs.ByteStrings.{IsByteFree}

-- ---- fields

pub has_field_of_encode_field : (name value rest : List ℕ) → IsByteFree 10 value → BeginsWithField name (encode_field name value ++ rest) value rest
has_field_of_encode_field name value rest free = record { joined = refl; one_line = free }

-- ---- headers

ends_header_of_name : (name rest : List ℕ) → name ≢ [] → IsByteFree 32 name → EndsHeader (name ++ rest)
ends_header_of_name [] rest some free = absurd (some refl)
ends_header_of_name (byte ∷ name) rest some free = All-head (λ (it : ℕ). it ≢ 32) byte name free

ends_header_of_headers : (bytes message : List ℕ) (headers : List Header) → DecodesToHeaders bytes headers → EndsHeader (bytes ++ 10 ∷ message)
ends_header_of_headers bytes message [] is = rw is (λ same. grind (arith, same))
ends_header_of_headers bytes message (header ∷ headers) (first, rest, joined, is, others) =
    let flat : bytes ++ 10 ∷ message ≡ header.name ++ ((32 ∷ (is.first ++ 10 ∷ flat_map encode_continuation is.more)) ++ (rest ++ 10 ∷ message)) =
    ap (λ (it : List ℕ). it ++ 10 ∷ message) (joined ∙ ap (λ (it : List ℕ). it ++ rest) is.joined) ∙ simp append_assoc in
    subst EndsHeader (sym flat) (ends_header_of_name header.name _ is.named.not_empty is.named.no_space)

begins_with_header_of_headers : (bytes first rest message : List ℕ) (header : Header) (headers : List Header) → bytes ≡ first ++ rest
    → DecodesToHeader first header
    → DecodesToHeaders rest headers
    → BeginsWithHeader (bytes ++ 10 ∷ message) header (rest ++ 10 ∷ message)
begins_with_header_of_headers bytes first rest message header headers joined is others =
    record {
      encoded = first;
      joined = ap (λ (it : List ℕ). it ++ 10 ∷ message) joined ∙ append_assoc first rest (10 ∷ message);
      written = is;
      ends = ends_header_of_headers rest message headers others;
    }

yields_lines_of_headers : (kind : Kind) (bytes message : List ℕ) (headers : List Header) → DecodesToHeaders bytes headers
    → Yields (BeginsWithLine kind) state.ExtraHeaders (bytes ++ 10 ∷ message) (map header_line headers ++ message_line message ∷ []) complete
yields_lines_of_headers kind bytes message [] is =
    rw is (yields_piece state.ExtraHeaders state.End (10 ∷ message) [] (message_line message) [] complete (message_comes _ message refl)
    (yields_end state.End))
yields_lines_of_headers kind bytes message (header ∷ headers) (first, rest, joined, is, others) =
    yields_piece state.ExtraHeaders state.ExtraHeaders (bytes ++ 10 ∷ message) (rest ++ 10 ∷ message) (header_line header)
    (map header_line headers ++ message_line message ∷ []) complete
    (header_comes _ header _ (begins_with_header_of_headers bytes first rest message header headers joined is others))
    (yields_lines_of_headers kind rest message headers others)

yields_lines_of_encoding : (kind : Kind) (encoding : Option (List ℕ)) (bytes message : List ℕ) (headers : List Header) → IsEncoding encoding headers
    → DecodesToHeaders bytes headers
    → Yields (BeginsWithLine kind) state.Encoding (encode_encoding encoding ++ (bytes ++ 10 ∷ message))
    (encoding_lines encoding ++ (map header_line headers ++ message_line message ∷ [])) complete
yields_lines_of_encoding kind (Some encoding) bytes message headers free are =
    yields_piece state.Encoding state.ExtraHeaders (encode_field (codes "encoding") encoding ++ (bytes ++ 10 ∷ message)) (bytes ++ 10 ∷ message)
    (encoding_line encoding) (map header_line headers ++ message_line message ∷ []) complete
    (encoding_comes _ encoding _ (has_field_of_encode_field (codes "encoding") encoding (bytes ++ 10 ∷ message) free))
    (yields_lines_of_headers kind bytes message headers are)
yields_lines_of_encoding kind None bytes message [] free are =
    rw are (yields_piece state.Encoding state.End (10 ∷ message) [] (message_line message) [] complete (first_message_comes _ message refl)
    (yields_end state.End))
yields_lines_of_encoding kind None bytes message (header ∷ headers) other (first, rest, joined, is, others) =
    yields_piece state.Encoding state.ExtraHeaders (bytes ++ 10 ∷ message) (rest ++ 10 ∷ message) (header_line header)
    (map header_line headers ++ message_line message ∷ []) complete
    (first_header_comes _ header _ (begins_with_header_of_headers bytes first rest message header headers joined is others) other)
    (yields_lines_of_headers kind rest message headers others)

yields_lines_of_parents : (kind : Kind) (hexes : List (List ℕ)) (rest : List ℕ) (lines : List LineView) → All (IsIdHexOfKind kind) hexes
    → Yields (BeginsWithLine kind) state.Parents rest lines complete
    → Yields (BeginsWithLine kind) state.Parents (flat_map encode_parent hexes ++ rest) (map parent_line hexes ++ lines) complete
yields_lines_of_parents kind [] rest lines are seen = seen
yields_lines_of_parents kind (hex ∷ hexes) rest lines are seen =
    let P : List ℕ → Type 0 = IsIdHexOfKind kind in
    let one = All-head P hex hexes are in
    rw (append_assoc (encode_parent hex) (flat_map encode_parent hexes) rest)
    (yields_piece state.Parents state.Parents (encode_parent hex ++ (flat_map encode_parent hexes ++ rest)) (flat_map encode_parent hexes ++ rest)
    (parent_line hex) (map parent_line hexes ++ lines) complete
    (parent_comes _ hex _ (has_field_of_encode_field (codes "parent") hex (flat_map encode_parent hexes ++ rest) (hex_digits_newline_free hex one.1), one))
    (yields_lines_of_parents kind hexes rest lines (All-tail P hex hexes are) seen))

pub encode_fields_append_assoc : (tree author committer headers message : List ℕ) (parents : List (List ℕ)) (encoding : Option (List ℕ))
    → encode_field (codes "tree") tree ++ flat_map encode_parent parents ++ encode_field (codes "author") author ++ encode_field
    (codes "committer") committer
    ++ encode_encoding encoding ++ headers ++ 10 ∷ message
    ≡ encode_field (codes "tree") tree
    ++ (flat_map encode_parent parents
    ++ (encode_field (codes "author") author
    ++ (encode_field (codes "committer") committer ++ (encode_encoding encoding ++ (headers ++ 10 ∷ message)))))
encode_fields_append_assoc tree author committer headers message parents encoding = simp append_assoc

actor_line_is_newline_free : (line : List ℕ) → NamesActor line → IsByteFree 10 line
actor_line_is_newline_free line (name, email, time, is) = is.one_line

pub yields_lines_of_commit : (kind : Kind) (bytes : List ℕ) (commit : CommitLines) → DecodesToCommit kind bytes commit
    → Yields (BeginsWithLine kind) state.Tree bytes (lines_of_commit commit) complete
yields_lines_of_commit kind bytes commit is =
    let after = yields_lines_of_encoding kind commit.encoding is.headers_encoding commit.message commit.extra_headers is.encoding is.extra_headers in
    let committed = yields_piece state.Committer state.Encoding _ _ (committer_line commit.committer) _ complete
    (committer_comes _ commit.committer _ (
      has_field_of_encode_field (codes "committer") commit.committer _ (actor_line_is_newline_free commit.committer is.committer),
      is.committer,
    )) after in
    let authored = yields_piece state.Parents state.Committer _ _ (author_line commit.author) _ complete
    (author_comes _ commit.author _ (
      has_field_of_encode_field (codes "author") commit.author _
          (actor_line_is_newline_free commit.author is.author),
      is.author,
    ))
    committed in
    let parented = yields_lines_of_parents kind commit.parents _ _ is.parents authored in
    let entire = yields_piece state.Tree state.Parents _ _ (tree_line commit.tree) _ complete
    (tree_comes _ commit.tree _ (has_field_of_encode_field (codes "tree") commit.tree _ (hex_digits_newline_free commit.tree is.tree.1), is.tree)) parented in
    rw (is.joined ∙ encode_fields_append_assoc commit.tree commit.author commit.committer is.headers_encoding commit.message commit.parents commit.encoding)
    entire
