-- States that bytes decode as at most one commit, and why decoding fails, for `CommitRef::from_bytes`, its law and the
-- tokens.
use Rattle.std.proofs.Common.{◌≡◌, ◌≢◌, ◌<◌, ◌⊎◌, length, ℕ, List, [], ◌∷◌, ◌++◌, All, Option, Some, None, inl, inr, refl, sym, ap, subst, ◌∙◌, append_assoc}
use Rattle.std.proofs.lemmas.List.{append-nil}
use Rattle.std.proofs.lemmas.List.Elements.{All-cons, All-head, All-nil, All-tail}
use Rattle.std.specs.List.{flat_map}
use Rattle.std.specs.Prelude.{codes, map}
use Rattle.gixobj_parse.proofs.HeaderFields.{is_id_hex_of_decoded}
use Rattle.gixobj_hash.proofs.Runs.{yields_after_pieces, one_run, begins_with_pieces_snoc}
use Rattle.gixobj_hash.specs.HeaderFormat.{BeginsWithSeveralLines, Header, DecodesToHeader, BeginsWithOtherName}
use Rattle.gixobj_hash.specs.FieldFormat.{encode_field}
use Rattle.gixobj_hash.specs.Runs.{HasNoPiece, BeginsWithPieces, Yields, complete, yields_end, yields_piece}
use Rattle.gixobj_hash.specs.Hash.{IsIdHex}
use Rattle.gixobj_hash.specs.Hash.Hex.{IsIdHexOfKind}
use Rattle.gixobj_hash.specs.declared.decode.Error.{Error}
use Rattle.gixobj_hash.specs.declared.decode.Error.TheVariants.{Malformed, OutOfMemory}
use Rattle.gixobj_hash.specs.declared.hash.kind.Kind.{Kind}
use Rattle.gixobj_grammar.proofs.CommitsRead.{Reads, is_encoding_snoc, is_encoding_snoc_first, begins_commit_gather_header, reads_gathered_of_empty}
use Rattle.gixobj_grammar.proofs.CommitsRead.{reads_gather, headers_snoc_not_nil}
use Rattle.gixobj_grammar.proofs.LinesYielded.{yields_lines_of_commit}
use Rattle.gixobj_grammar.proofs.OneLine.{line_len_lt, no_line_of_nil, line_unique}
use Rattle.gixobj_grammar.specs.Commit.{CommitLines, DecodesToCommit, IsCommit, IsMalformedCommit, ReachesHeader, ReachesSecondParent, IsCommitDecodeError}
use Rattle.gixobj_grammar.specs.Commit.{encoding_lines, lines_of_commit, encode_parent}
use Rattle.gixobj_grammar.specs.CommitBuilding.{Gathers, Allocates, gather, gathered, empty_commit}
use Rattle.gixobj_grammar.specs.Lines.{BeginsWithLine, BeginsWithSomeLine, LineView, MayFold, IsLineError, author_comes, author_line, committer_comes}
use Rattle.gixobj_grammar.specs.Lines.{committer_line, encoding_comes, first_header_comes, first_message_comes, header_comes, header_line, message_comes}
use Rattle.gixobj_grammar.specs.Lines.{message_line, parent_comes, parent_line, tree_comes, tree_line}
use Rattle.gixobj_hash.specs.ByteStrings.{IsByteFree}
use Rattle.gixobj_grammar.specs.declared.lines.State.{State}
use Rattle.gixobj_grammar.specs.declared.lines.State.TheVariants as state

-- ---- the commit built from its lines

abbrev made : List ℕ → List (List ℕ) → List ℕ → List ℕ → Option (List ℕ) → List Header → List ℕ → CommitLines
made tree parents author committer encoding headers message =
    record { tree = tree; parents = parents; author = author; committer = committer; encoding = encoding; extra_headers = headers; message = message }

gathered_parents_append : (tree : List ℕ) (prefix parents : List (List ℕ)) (rest : List LineView) → gathered (made tree prefix [] [] None [] [])
    (map parent_line parents ++ rest) ≡ gathered (made tree (prefix ++ parents) [] [] None [] []) rest
gathered_parents_append tree prefix [] rest = ap (λ (it : List (List ℕ)). gathered (made tree it [] [] None [] []) rest) (sym (append-nil prefix))
gathered_parents_append tree prefix (hex ∷ parents) rest =
    gathered_parents_append tree (prefix ++ hex ∷ []) parents rest ∙ ap (λ (it : List (List ℕ)). gathered (made tree it [] [] None [] []) rest)
    (append_assoc prefix (hex ∷ []) parents)

gathered_encoding_append : (tree : List ℕ) (parents : List (List ℕ)) (author committer : List ℕ) (encoding : Option (List ℕ)) (rest : List LineView)
    → gathered (made tree parents author committer None [] []) (encoding_lines encoding ++ rest) ≡ gathered
    (made tree parents author committer encoding [] [])
    rest
gathered_encoding_append tree parents author committer None rest = refl
gathered_encoding_append tree parents author committer (Some encoding) rest = refl

gathered_headers_append : (tree : List ℕ) (parents : List (List ℕ)) (author committer : List ℕ) (encoding : Option (List ℕ)) (prefix headers : List Header)
    (rest : List LineView)
    → gathered (made tree parents author committer encoding prefix []) (map header_line headers ++ rest) ≡ gathered
    (made tree parents author committer encoding (prefix ++ headers) []) rest
gathered_headers_append tree parents author committer encoding prefix [] rest =
    ap (λ (it : List Header). gathered (made tree parents author committer encoding it []) rest) (sym (append-nil prefix))
gathered_headers_append tree parents author committer encoding prefix (header ∷ headers) rest =
    gathered_headers_append tree parents author committer encoding (prefix ++ header ∷ []) headers rest
    ∙ ap (λ (it : List Header). gathered (made tree parents author committer encoding it []) rest) (append_assoc prefix (header ∷ []) headers)

gathered_lines_of_commit : (commit : CommitLines) → gathered empty_commit (lines_of_commit commit) ≡ commit
gathered_lines_of_commit commit =
    gathered_parents_append commit.tree [] commit.parents _ ∙ gathered_encoding_append commit.tree commit.parents commit.author commit.committer
    commit.encoding _
    ∙ gathered_headers_append commit.tree commit.parents commit.author commit.committer commit.encoding [] commit.extra_headers
    (message_line commit.message ∷ [])

-- bytes are the encoding of at most one commit
pub commit_unique : (kind : Kind) (bytes : List ℕ) (a b : CommitLines) → DecodesToCommit kind bytes a → DecodesToCommit kind bytes b → a ≡ b
commit_unique kind bytes a b is is' =
    let seen = yields_lines_of_commit kind bytes a is in
    let same = (one_run (BeginsWithLine kind) (line_unique kind) (no_line_of_nil kind) state.Tree bytes (lines_of_commit a)
    (lines_of_commit b) complete complete seen
    (yields_lines_of_commit kind bytes b is')).0 in
    sym (gathered_lines_of_commit a) ∙ ap (λ (it : List LineView). gathered empty_commit it) same ∙ gathered_lines_of_commit b

-- ---- without a line before the end there is no commit

state_after_message_is_end : (kind : Kind) (before : State) (input message : List ℕ) (following : State) (rest : List ℕ)
    → BeginsWithLine kind before input (message_line message) following rest → following ≡ state.End
state_after_message_is_end kind before input message following rest (first_message_comes _ _ is) = refl
state_after_message_is_end kind before input message following rest (message_comes _ _ is) = refl

-- after lines that end with a message, the decoder is at the end
pub end_state_of_message : (kind : Kind) (before : State) (input : List ℕ) (lines prefix : List LineView) (message : List ℕ) (following : State)
    (rest : List ℕ)
    → BeginsWithPieces (BeginsWithLine kind) before input lines following rest
    → lines ≡ prefix ++ message_line message ∷ [] → following ≡ state.End
end_state_of_message kind before input [] [] message following rest begins_with is = cc is
end_state_of_message kind before input [] (first ∷ prefix) message following rest begins_with is = cc is
end_state_of_message kind before input (line ∷ lines) [] message following rest (next, after, has, more) is =
    let first : line ≡ message_line message = cc is in
    let none : lines ≡ [] = cc is in
    let at_end : BeginsWithPieces (BeginsWithLine kind) next after [] following rest =
    subst (λ (it : List LineView). BeginsWithPieces (BeginsWithLine kind) next after it following rest) none more in
    sym at_end.0 ∙ state_after_message_is_end kind before input message next after
    (subst (λ (it : LineView). BeginsWithLine kind before input it next after) first has)
end_state_of_message kind before input (line ∷ lines) (first ∷ prefix) message following rest (next, after, has, more) is =
    let others : lines ≡ prefix ++ message_line message ∷ [] =
    cc is in end_state_of_message kind next after lines prefix message following rest more others

pub lines_end_with_message : (commit : CommitLines) → (prefix : List LineView) × (lines_of_commit commit ≡ prefix ++ message_line commit.message ∷ [])
lines_end_with_message commit = (
  tree_line commit.tree ∷ (map parent_line commit.parents
      ++ (author_line commit.author ∷ committer_line commit.committer ∷ (encoding_lines commit.encoding ++ map header_line commit.extra_headers))),
  sym (simp append_assoc),
)

no_complete_yield_before_end : (kind : Kind) (bytes : List ℕ) (lines others : List LineView) (following : State) (rest : List ℕ) (commit : CommitLines)
    → BeginsWithPieces (BeginsWithLine kind) state.Tree bytes lines following rest → HasNoPiece (BeginsWithLine kind) following rest → following ≢ state.End
    → lines_of_commit commit ≡ lines ++ others → Yields (BeginsWithLine kind) following rest others complete → ⊥
no_complete_yield_before_end kind bytes lines others following rest commit begins_with none going is (yields_end _) =
    let last = lines_end_with_message commit in
    going (end_state_of_message kind state.Tree bytes lines last.0 commit.message following rest begins_with (sym (append-nil lines) ∙ sym is ∙ last.1))
no_complete_yield_before_end kind bytes lines others following rest commit begins_with none going is (yields_piece _ next _ after line more _ has seen) =
    none line next after has

pub malformed_commit_of_no_line : (kind : Kind) (bytes : List ℕ) (lines : List LineView) (following : State) (rest : List ℕ)
    → BeginsWithPieces (BeginsWithLine kind) state.Tree bytes lines following rest → HasNoPiece (BeginsWithLine kind) following rest → following ≢ state.End
    → IsMalformedCommit kind bytes
malformed_commit_of_no_line kind bytes lines following rest begins_with none going commit is =
    let at = yields_after_pieces (BeginsWithLine kind) (line_unique kind) (no_line_of_nil kind) state.Tree following bytes rest lines
    (lines_of_commit commit) complete begins_with (yields_lines_of_commit kind bytes commit is) in
    no_complete_yield_before_end kind bytes lines at.others following rest commit begins_with none going at.joined at.yielded

-- ---- allocation

reaches_second_parent_snoc : (kind : Kind) (bytes tree hex rest : List ℕ) (parents : List (List ℕ)) → parents ≢ []
    → bytes ≡ encode_field (codes "tree") tree ++ flat_map encode_parent (parents ++ hex ∷ []) ++ rest → IsIdHexOfKind kind tree
    → All (IsIdHexOfKind kind) (parents ++ hex ∷ [])
    → ReachesSecondParent kind bytes
reaches_second_parent_snoc kind bytes tree hex rest [] some is of_tree of_parents = absurd (some refl)
reaches_second_parent_snoc kind bytes tree hex rest (first ∷ []) some is of_tree of_parents =
    record {
      tree = tree;
      first = first;
      second = hex;
      rest = rest;
      joined = is ∙ simp (append_assoc, append-nil);
      ids = All-cons (IsIdHexOfKind kind) tree
          (first ∷ hex ∷ []) of_tree of_parents;
    }
reaches_second_parent_snoc kind bytes tree hex rest (first ∷ second ∷ parents) some is of_tree of_parents =
    let P : List ℕ → Type 0 = IsIdHexOfKind kind in
    let more = All-tail P first (second ∷ (parents ++ hex ∷ [])) of_parents in
    record {
      tree = tree;
      first = first;
      second = second;
      rest = flat_map encode_parent (parents ++ hex ∷ []) ++ rest;
      joined = is ∙ simp append_assoc;
      ids = All-cons P tree (first ∷ second ∷ []) of_tree
          (All-cons P first (second ∷ []) (All-head P first (second ∷ (parents ++ hex ∷ [])) of_parents)
          (All-cons P second [] (All-head P second (parents ++ hex ∷ []) more) (All-nil P)));
    }

abbrev first_header : {input : List ℕ} → BeginsWithSeveralLines input → Header
first_header several = record { name = several.name; value = several.first }

first_line_decodes_to_header : (input : List ℕ) → (several : BeginsWithSeveralLines input) → DecodesToHeader (encode_field several.name several.first)
    (first_header several)
first_line_decodes_to_header input several =
    record {
      first = several.first;
      more = [];
      joined = sym (append-nil (encode_field several.name several.first));
      named = several.named;
      one_line = several.one_line;
      each_one_line = All-nil (λ line. IsByteFree 10 line);
      value = refl;
    }

other_name_ne_encoding : (input : List ℕ) → (several : BeginsWithSeveralLines input) → BeginsWithOtherName (codes "encoding") input
    → several.name ≢ codes "encoding"
other_name_ne_encoding input several lacks same =
    let flat : encode_field several.name several.first ++ 32 ∷ several.rest ≡ several.name ++ 32 ∷ (several.first ++ 10 ∷ (32 ∷ several.rest)) =
    simp append_assoc in
    lacks _ (several.joined ∙ flat ∙ ap (λ (name : List ℕ). name ++ 32 ∷ (several.first ++ 10 ∷ (32 ∷ several.rest))) same)

-- a header of several lines is reached
reaches_header_of_several_lines : (kind : Kind) (bytes : List ℕ) (before : State) (input : List ℕ) (commit : CommitLines) → Reads kind bytes before input commit
    → MayFold before input → BeginsWithSeveralLines input → ReachesHeader kind bytes
reaches_header_of_several_lines kind bytes state.Tree input commit reads may several = absurd may
reaches_header_of_several_lines kind bytes state.Parents input commit reads may several = absurd may
reaches_header_of_several_lines kind bytes state.Committer input commit reads may several = absurd may
reaches_header_of_several_lines kind bytes state.Encoding input commit (begins, lacks) may several =
    let named = is_encoding_snoc_first commit.encoding commit.extra_headers (first_header several) lacks.0 lacks.1
    (other_name_ne_encoding input several may) in (
      _,
      _,
      begins_commit_gather_header kind bytes input _ _ commit (first_header several) begins several.joined (first_line_decodes_to_header input several) named,
      headers_snoc_not_nil commit.extra_headers (first_header several),
    )
reaches_header_of_several_lines kind bytes state.ExtraHeaders input commit (begins, filled) may several =
    let named = is_encoding_snoc commit.encoding commit.extra_headers (first_header several) begins.encoding filled in (
      _,
      _,
      begins_commit_gather_header kind bytes input _ _ commit (first_header several) begins several.joined (first_line_decodes_to_header input several) named,
      headers_snoc_not_nil commit.extra_headers (first_header several),
    )
reaches_header_of_several_lines kind bytes state.End input commit reads may several = absurd may

-- ---- lines added one by one

gathered_snoc : (commit : CommitLines) (lines : List LineView) (line : LineView) → gathered commit (lines ++ line ∷ []) ≡ gather
    (gathered commit lines) line
gathered_snoc commit [] line = refl
gathered_snoc commit (first ∷ lines) line = gathered_snoc (gather commit first) lines line

pub gathers_snoc : (kind : Kind) (bytes : List ℕ) (commit after : CommitLines) (before following : State) (input rest : List ℕ) (line : LineView)
    → Gathers kind bytes before input commit
    → BeginsWithLine kind before input line following rest → after ≡ gather commit line → Gathers kind bytes following rest after
gathers_snoc kind bytes commit after before following input rest line (lines, begins_with, is) has grown = (
  lines ++ line ∷ [],
  begins_with_pieces_snoc (BeginsWithLine kind) state.Tree before following bytes input rest lines line begins_with has,
  grown
      ∙ ap (λ (it : CommitLines). gather it line) is ∙ sym (gathered_snoc empty_commit lines line),
)

reads_of_gathers : (kind : Kind) (bytes : List ℕ) (following : State) (rest : List ℕ) (commit : CommitLines) → Gathers kind bytes following rest commit
    → Reads kind bytes following rest commit
reads_of_gathers kind bytes following rest commit (lines, begins_with, is) = subst (λ (it : CommitLines). Reads kind bytes following rest it) (sym is)
    (reads_gathered_of_empty kind bytes lines following rest begins_with)

-- at the end the commit is complete
pub decodes_commit_of_gathered : (kind : Kind) (bytes : List ℕ) (following : State) (rest : List ℕ) (commit : CommitLines)
    → Gathers kind bytes following rest commit
    → following ≡ state.End → DecodesToCommit kind bytes commit
decodes_commit_of_gathered kind bytes following rest commit gathers at_end = subst (λ (it : State). Reads kind bytes it rest commit) at_end
    (reads_of_gathers kind bytes following rest commit gathers)

pub decode_error_of_line_error : (kind : Kind) (bytes : List ℕ) (before : State) (input : List ℕ) (commit : CommitLines) (error reason : Error) → error ≡ reason
    → Gathers kind bytes before input commit → before ≢ state.End → IsLineError kind before input reason
    → IsCommitDecodeError kind bytes error
decode_error_of_line_error kind bytes before input commit error Malformed same (lines, begins_with, is) going none =
    rw same (malformed_commit_of_no_line kind bytes lines before input begins_with none going)
decode_error_of_line_error kind bytes before input commit error OutOfMemory same gathers going (may, several) =
    rw same (inr (reaches_header_of_several_lines kind bytes before input commit (reads_of_gathers kind bytes before input commit gathers) may several))

pub reaches_second_parent_or_header : (kind : Kind) (bytes : List ℕ) (commit : CommitLines) (before following : State) (input rest : List ℕ) (line : LineView)
    → Gathers kind bytes before input commit → BeginsWithLine kind before input line following rest → Allocates commit line
    → ReachesSecondParent kind bytes ⊎ ReachesHeader kind bytes
reaches_second_parent_or_header kind bytes commit before following input rest line gathers (tree_comes _ hex _ has) takes = absurd takes
reaches_second_parent_or_header kind bytes commit before following input rest line gathers (parent_comes _ hex _ has) takes =
    let reads = reads_gather kind bytes commit before input (parent_line hex) following rest (parent_comes input hex rest has)
    (reads_of_gathers kind bytes before input commit gathers) in
    inl (reaches_second_parent_snoc kind bytes commit.tree hex rest commit.parents takes reads.0 reads.1.tree reads.1.parents)
reaches_second_parent_or_header kind bytes commit before following input rest line gathers (author_comes _ actor _ has) takes = absurd takes
reaches_second_parent_or_header kind bytes commit before following input rest line gathers (committer_comes _ actor _ has) takes = absurd takes
reaches_second_parent_or_header kind bytes commit before following input rest line gathers (encoding_comes _ encoding _ has) takes = absurd takes
reaches_second_parent_or_header kind bytes commit before following input rest line gathers (first_header_comes _ header _ has other) takes =
    let reads = reads_gather kind bytes commit before input (header_line header) following rest (first_header_comes input header rest has other)
    (reads_of_gathers kind bytes before input commit gathers) in
    inr (_, _, reads.0, headers_snoc_not_nil commit.extra_headers header)
reaches_second_parent_or_header kind bytes commit before following input rest line gathers (header_comes _ header _ has) takes =
    let reads = reads_gather kind bytes commit before input (header_line header) following rest (header_comes input header rest has)
    (reads_of_gathers kind bytes before input commit gathers) in
    inr (_, _, reads.0, headers_snoc_not_nil commit.extra_headers header)
reaches_second_parent_or_header kind bytes commit before following input rest line gathers (first_message_comes _ message is) takes = absurd takes
reaches_second_parent_or_header kind bytes commit before following input rest line gathers (message_comes _ message is) takes = absurd takes

-- ---- the ids of a decoded commit

pub parents_are_id_hex : (kind : Kind) (hexes : List (List ℕ)) → All (IsIdHexOfKind kind) hexes → All IsIdHex hexes
parents_are_id_hex kind [] are = All-nil IsIdHex
parents_are_id_hex kind (hex ∷ hexes) are = All-cons IsIdHex hex hexes (is_id_hex_of_decoded kind hex (All-head (IsIdHexOfKind kind) hex hexes are))
    (parents_are_id_hex kind hexes (All-tail (IsIdHexOfKind kind) hex hexes are))

-- ---- whether bytes are a commit

-- the bytes begin with some lines of a commit, and the rest follows in this state
abbrev pub Reaches : Kind → List ℕ → State → List ℕ → Type 0
Reaches kind bytes after rest = (lines : List LineView) × BeginsWithPieces (BeginsWithLine kind) state.Tree bytes lines after rest

pub reaches_start : (kind : Kind) (bytes : List ℕ) → Reaches kind bytes state.Tree bytes
reaches_start kind bytes = ([], (refl, refl))

pub reaches_more : (kind : Kind) (bytes : List ℕ) (before following : State) (input rest : List ℕ) → Reaches kind bytes before input
    → BeginsWithSomeLine kind before input following rest → Reaches kind bytes following rest
reaches_more kind bytes before following input rest (lines, begins_with) (line, has) =
    (lines ++ line ∷ [], begins_with_pieces_snoc (BeginsWithLine kind) state.Tree before following bytes input rest lines line begins_with has)

pub reaches_end : (kind : Kind) (bytes : List ℕ) (following : State) (rest : List ℕ) → Reaches kind bytes following rest → following ≡ state.End
    → IsCommit kind bytes
reaches_end kind bytes following rest (lines, begins_with) at_end = (
  gathered empty_commit lines,
  subst (λ (it : State). Reads kind bytes it rest (gathered empty_commit lines)) at_end (reads_gathered_of_empty kind bytes lines following rest begins_with),
)

pub reaches_none : (kind : Kind) (bytes : List ℕ) (before : State) (input : List ℕ) → Reaches kind bytes before input
    → HasNoPiece (BeginsWithLine kind) before input → before ≢ state.End → IsMalformedCommit kind bytes
reaches_none kind bytes before input (lines, begins_with) none going = malformed_commit_of_no_line kind bytes lines before input begins_with none going

pub some_line_shortens : (kind : Kind) (before : State) (input : List ℕ) (following : State) (rest : List ℕ)
    → BeginsWithSomeLine kind before input following rest → length rest < length input
some_line_shortens kind before input following rest (line, has) = line_len_lt kind before input line following rest has
