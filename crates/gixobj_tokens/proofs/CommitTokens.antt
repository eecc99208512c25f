-- States that an input begins with at most one token, and that lines and tokens correspond, for the laws and searches
-- on commits.
use Rattle.std.proofs.Common.{◌≡◌, ℕ, List, [], ◌∷◌, ◌++◌, refl, sym, ap, subst, ◌∙◌}
use Rattle.std.proofs.lemmas.List.{append-nil}
use Rattle.std.specs.List.{AllZip}
use Rattle.std.specs.Prelude.{codes}
use Rattle.gixobj_actor.proofs.ActorLines.{actor_view_unique}
use Rattle.gixobj_actor.specs.Actor.{ActorView}
use Rattle.gixobj_parse.proofs.HeaderFields.{has_field_of_encoded, is_id_hex_of_decoded}
use Rattle.gixobj_hash.specs.HeaderFormat.{BeginsWithHeader, Header}
use Rattle.gixobj_hash.specs.Runs.{complete, yields_end, yields_piece}
use Rattle.gixobj_hash.specs.Runs as runs
use Rattle.gixobj_hash.proofs.HexIds.{decoded_id_unique, decoded_id_decodes}
use Rattle.gixobj_hash.specs.Hash.Hex.{decoded_id}
use Rattle.gixobj_hash.specs.declared.hash.kind.Kind.{Kind}
use Rattle.gixobj_grammar.proofs.OneLine.{no_line_of_nil, line_unique}
use Rattle.gixobj_grammar.specs.Lines.{BeginsWithLine, LineView, author_comes, committer_comes, encoding_comes, first_header_comes, first_message_comes}
use Rattle.gixobj_grammar.specs.Lines.{header_comes, message_comes, parent_comes, tree_comes}
use Rattle.gixobj_grammar.specs.declared.lines.State.{State}
use Rattle.gixobj_tokens.specs.CommitRuns.{YieldsCommitTokens}
use Rattle.gixobj_tokens.specs.CommitTokens.{BeginsWithCommitToken, DecodesToCommitToken, IsTokenOfLine, CommitTokenView, author_token, committer_token}
use Rattle.gixobj_tokens.specs.CommitTokens.{encoding_token, header_token, message_token, parent_token, yields_author, yields_committer, yields_encoding}
use Rattle.gixobj_tokens.specs.CommitTokens.{yields_header, yields_message, yields_parent, yields_tree, tree_token}

-- ---- at most one token

token_of_line_unique : (line : LineView) (a b : CommitTokenView) → IsTokenOfLine line a → IsTokenOfLine line b → a ≡ b
token_of_line_unique line a b (yields_tree hex id is) (yields_tree _ id' is') =
    ap tree_token (decoded_id_unique hex id is ∙ sym (decoded_id_unique hex id' is'))
token_of_line_unique line a b (yields_parent hex id is) (yields_parent _ id' is') =
    ap parent_token (decoded_id_unique hex id is ∙ sym (decoded_id_unique hex id' is'))
token_of_line_unique line a b (yields_author bytes actor is) (yields_author _ actor' is') = ap author_token (actor_view_unique bytes actor actor' [] [] is is')
token_of_line_unique line a b (yields_committer bytes actor is) (yields_committer _ actor' is') =
    ap committer_token (actor_view_unique bytes actor actor' [] [] is is')
token_of_line_unique line a b (yields_encoding encoding) (yields_encoding _) = refl
token_of_line_unique line a b (yields_header header) (yields_header _) = refl
token_of_line_unique line a b (yields_message message) (yields_message _) = refl

pub commit_token_unique : (kind : Kind) (before : State) (input : List ℕ) (a b : CommitTokenView) (s t : State) (x y : List ℕ)
    → BeginsWithCommitToken kind before input a s x
    → BeginsWithCommitToken kind before input b t y → (a ≡ b) × (s ≡ t) × (x ≡ y)
commit_token_unique kind before input a b s t x y (line, has, yields) (line', has', yields') =
    let same = line_unique kind before input line line' s t x y has has' in
    (token_of_line_unique line' a b (subst (λ (it : LineView). IsTokenOfLine it a) same.0 yields) yields', same.1, same.2)

pub no_commit_token_of_nil : (kind : Kind) (before : State) (input : List ℕ) (token : CommitTokenView) (after : State) (rest : List ℕ) → input ≡ []
    → BeginsWithCommitToken kind before input token after rest → ⊥
no_commit_token_of_nil kind before input token after rest none (line, has, yields) = no_line_of_nil kind before input line after rest none has

-- ---- the encoding of a token

encoded_header_begins_with_header : (input : List ℕ) (header : Header) (rest : List ℕ) → (has : BeginsWithHeader input header rest)
    → BeginsWithHeader has.encoded header []
encoded_header_begins_with_header input header rest has = record {
  encoded = has.encoded;
  joined = sym (append-nil has.encoded);
  written = has.written;
  ends =
      tt;
}

line_bytes_exist : (kind : Kind) (before : State) (input : List ℕ) (line : LineView) (after : State) (rest : List ℕ)
    → BeginsWithLine kind before input line after rest
    → (bytes : List ℕ) × (input ≡ bytes ++ rest) × BeginsWithLine kind before bytes line after []
line_bytes_exist kind before input line after rest (tree_comes _ hex _ has) =
    (_, has.0.joined, tree_comes _ hex [] (has_field_of_encoded (codes "tree") input hex rest has.0, has.1))
line_bytes_exist kind before input line after rest (parent_comes _ hex _ has) =
    (_, has.0.joined, parent_comes _ hex [] (has_field_of_encoded (codes "parent") input hex rest has.0, has.1))
line_bytes_exist kind before input line after rest (author_comes _ actor _ has) =
    (_, has.0.joined, author_comes _ actor [] (has_field_of_encoded (codes "author") input actor rest has.0, has.1))
line_bytes_exist kind before input line after rest (committer_comes _ actor _ has) =
    (_, has.0.joined, committer_comes _ actor [] (has_field_of_encoded (codes "committer") input actor rest has.0, has.1))
line_bytes_exist kind before input line after rest (encoding_comes _ encoding _ has) =
    (_, has.joined, encoding_comes _ encoding [] (has_field_of_encoded (codes "encoding") input encoding rest has))
line_bytes_exist kind before input line after rest (first_header_comes _ header _ has other) =
    (has.encoded, has.joined, first_header_comes _ header [] (encoded_header_begins_with_header input header rest has) other)
line_bytes_exist kind before input line after rest (header_comes _ header _ has) =
    (has.encoded, has.joined, header_comes _ header [] (encoded_header_begins_with_header input header rest has))
line_bytes_exist kind before input line after rest (first_message_comes _ message is) =
    (input, sym (append-nil input), first_message_comes input message is)
line_bytes_exist kind before input line after rest (message_comes _ message is) = (input, sym (append-nil input), message_comes input message is)

pub commit_token_bytes_exist : (kind : Kind) (before : State) (input : List ℕ) (token : CommitTokenView) (after : State) (rest : List ℕ)
    → BeginsWithCommitToken kind before input token after rest
    → (bytes : List ℕ) × (input ≡ bytes ++ rest) × DecodesToCommitToken kind token bytes
commit_token_bytes_exist kind before input token after rest (line, has, yields) =
    let alone = line_bytes_exist kind before input line after rest has in (alone.0, alone.1, (before, after, (line, alone.2, yields)))

-- ---- lines yield tokens

token_of_line_exists : (kind : Kind) (before : State) (input : List ℕ) (line : LineView) (after : State) (rest : List ℕ)
    → BeginsWithLine kind before input line after rest
    → (token : CommitTokenView) × IsTokenOfLine line token
token_of_line_exists kind before input line after rest (tree_comes _ hex _ has) =
    (tree_token (decoded_id hex), yields_tree hex (decoded_id hex) (decoded_id_decodes hex (is_id_hex_of_decoded kind hex has.1)))
token_of_line_exists kind before input line after rest (parent_comes _ hex _ has) =
    (parent_token (decoded_id hex), yields_parent hex (decoded_id hex) (decoded_id_decodes hex (is_id_hex_of_decoded kind hex has.1)))
token_of_line_exists kind before input line after rest (author_comes _ bytes _ (field, (name, email, time, is))) =
    let actor : ActorView = record { name = name; email = email; time = time } in (author_token actor, yields_author bytes actor is)
token_of_line_exists kind before input line after rest (committer_comes _ bytes _ (field, (name, email, time, is))) =
    let actor : ActorView = record { name = name; email = email; time = time } in (committer_token actor, yields_committer bytes actor is)
token_of_line_exists kind before input line after rest (encoding_comes _ encoding _ has) = (encoding_token encoding, yields_encoding encoding)
token_of_line_exists kind before input line after rest (first_header_comes _ header _ has other) = (header_token header, yields_header header)
token_of_line_exists kind before input line after rest (header_comes _ header _ has) = (header_token header, yields_header header)
token_of_line_exists kind before input line after rest (first_message_comes _ message is) = (message_token message, yields_message message)
token_of_line_exists kind before input line after rest (message_comes _ message is) = (message_token message, yields_message message)

pub tokens_of_lines_exist : (kind : Kind) (before : State) (input : List ℕ) (lines : List LineView)
    → runs.Yields (BeginsWithLine kind) before input lines complete
    → (tokens : List CommitTokenView) × YieldsCommitTokens kind before input tokens complete × AllZip IsTokenOfLine lines tokens
tokens_of_lines_exist kind before input lines (yields_end _) = ([], yields_end before, tt)
tokens_of_lines_exist kind before input lines (yields_piece _ after _ rest line others _ has seen) =
    let first = token_of_line_exists kind before input line after rest has in
    let more = tokens_of_lines_exist kind after rest others seen in
    (first.0 ∷ more.0, yields_piece before after input rest first.0 more.0 complete (line, has, first.1) more.1, (first.1, more.2))

pub lines_of_tokens_exist : (kind : Kind) (before : State) (input : List ℕ) (tokens : List CommitTokenView)
    → YieldsCommitTokens kind before input tokens complete
    → (lines : List LineView) × runs.Yields (BeginsWithLine kind) before input lines complete × AllZip IsTokenOfLine lines tokens
lines_of_tokens_exist kind before input tokens (yields_end _) = ([], yields_end before, tt)
lines_of_tokens_exist kind before input tokens (yields_piece _ after _ rest token others _ (line, has, yields) seen) =
    let more = lines_of_tokens_exist kind after rest others seen in
    (line ∷ more.0, yields_piece before after input rest line more.0 complete has more.1, (yields, more.2))
