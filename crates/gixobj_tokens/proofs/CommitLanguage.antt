-- The token iterator over commits and the decoder of entire commits accept the same language.
use Rattle.std.proofs.Common.{◌≡◌, ℕ, List, [], ◌∷◌, ◌++◌, refl, ap, subst}
use Rattle.std.specs.List.{AllZip}
use Rattle.gixobj_hash.specs.Runs as runs
use Rattle.gixobj_hash.specs.Runs.{BeginsWithPieces, complete, yields_end, yields_piece}
use Rattle.gixobj_hash.specs.declared.hash.kind.Kind.{Kind}
use Rattle.gixobj_grammar.proofs.LinesYielded.{yields_lines_of_commit}
use Rattle.gixobj_grammar.proofs.EntireCommits.{end_state_of_message, lines_end_with_message, decodes_commit_of_gathered}
use Rattle.gixobj_grammar.specs.Commit.{CommitLines, DecodesToCommit}
use Rattle.gixobj_grammar.specs.CommitBuilding.{gathered, empty_commit}
use Rattle.gixobj_grammar.specs.Lines.{BeginsWithLine, LineView, message_line}
use Rattle.gixobj_grammar.specs.declared.lines.State.{State}
use Rattle.gixobj_grammar.specs.declared.lines.State.TheVariants as state
use Rattle.gixobj_tokens.proofs.CommitRuns.{token_run_unique}
use Rattle.gixobj_tokens.proofs.CommitTokens.{lines_of_tokens_exist, tokens_of_lines_exist}
use Rattle.gixobj_tokens.specs.CommitRuns.{YieldsCommitTokens}
use Rattle.gixobj_tokens.specs.CommitTokens.{IsTokenOfLine, CommitTokenView, message_token, yields_message}
use Rattle.gixobj_tokens.specs.Readers.{AreTokensOfCommit, EndsInMessage}

-- ---- a message last

last_line_of_message_token : (lines : List LineView) (prefix : List CommitTokenView) (message : List ℕ)
    → AllZip IsTokenOfLine lines (prefix ++ message_token message ∷ [])
    → (before : List LineView) × (lines ≡ before ++ message_line message ∷ [])
last_line_of_message_token [] [] message zips = absurd zips
last_line_of_message_token [] (token ∷ prefix) message zips = absurd zips
last_line_of_message_token (_ ∷ []) [] message (yields_message _, more) = ([], refl)
last_line_of_message_token (line ∷ next ∷ lines) [] message (yields, more) = absurd more
last_line_of_message_token (line ∷ lines) (token ∷ prefix) message (yields, more) = let it =
    last_line_of_message_token lines prefix message more in (line ∷ it.0, ap (λ (others : List LineView). line ∷ others) it.1)

ends_in_message_of_message_line : (tokens : List CommitTokenView) (prefix : List LineView) (message : List ℕ)
    → AllZip IsTokenOfLine (prefix ++ message_line message ∷ []) tokens
    → EndsInMessage tokens
ends_in_message_of_message_line [] [] message zips = absurd zips
ends_in_message_of_message_line [] (line ∷ prefix) message zips = absurd zips
ends_in_message_of_message_line (_ ∷ []) [] message (yields_message _, more) = ([], message, refl)
ends_in_message_of_message_line (token ∷ next ∷ tokens) [] message (yields, more) = absurd more
ends_in_message_of_message_line (token ∷ tokens) (line ∷ prefix) message (yields, more) =
    let it = ends_in_message_of_message_line tokens prefix message more in (token ∷ it.0, it.1, ap (λ (others : List CommitTokenView). token ∷ others) it.2)

-- ---- a complete run is consumed to its end

begins_with_pieces_of_yields_complete : (kind : Kind) (before : State) (input : List ℕ) (lines : List LineView)
    → runs.Yields (BeginsWithLine kind) before input lines complete → (following : State)
    × BeginsWithPieces (BeginsWithLine kind) before input lines following []
begins_with_pieces_of_yields_complete kind before input lines (yields_end _) = (before, (refl, refl))
begins_with_pieces_of_yields_complete kind before input lines (yields_piece _ next _ after line others _ has yields_decoded) = let more =
    begins_with_pieces_of_yields_complete kind next after others yields_decoded in
    (more.0, (next, after, has, more.1))

-- ---- the law

pub yields_tokens_of_commit : (kind : Kind) (bytes : List ℕ) (commit : CommitLines) → DecodesToCommit kind bytes commit
    → (tokens : List CommitTokenView) × YieldsCommitTokens kind state.Tree bytes tokens complete × AreTokensOfCommit commit tokens × EndsInMessage tokens
yields_tokens_of_commit kind bytes commit is =
    let it = tokens_of_lines_exist kind state.Tree bytes _ (yields_lines_of_commit kind bytes commit is) in
    let last = lines_end_with_message commit in (
      it.0,
      it.1,
      it.2,
      ends_in_message_of_message_line it.0 last.0 commit.message
          (subst (λ (lines : List LineView). AllZip IsTokenOfLine lines it.0) last.1 it.2),
    )

pub commit_of_tokens_exists : (kind : Kind) (bytes : List ℕ) (tokens : List CommitTokenView) → YieldsCommitTokens kind state.Tree bytes tokens complete
    → EndsInMessage tokens
    → (commit : CommitLines) × DecodesToCommit kind bytes commit × AreTokensOfCommit commit tokens
commit_of_tokens_exists kind bytes tokens yields (prefix, message, ends) =
    let it = lines_of_tokens_exist kind state.Tree bytes tokens yields in
    let last = last_line_of_message_token it.0 prefix message (subst (λ (all : List CommitTokenView). AllZip IsTokenOfLine it.0 all) ends it.2) in
    let begins_with = begins_with_pieces_of_yields_complete kind state.Tree bytes it.0 it.1 in
    let at_end = end_state_of_message kind state.Tree bytes it.0 last.0 message begins_with.0 [] begins_with.1 last.1 in
    let is = decodes_commit_of_gathered kind bytes begins_with.0 [] (gathered empty_commit it.0) (it.0, begins_with.1, refl) at_end in
    let other = yields_tokens_of_commit kind bytes (gathered empty_commit it.0) is in
    let same = token_run_unique kind state.Tree bytes other.0 tokens complete complete other.1 yields in
    (gathered empty_commit it.0, is, subst (λ (all : List CommitTokenView). AreTokensOfCommit (gathered empty_commit it.0) all) same.0 other.2)
