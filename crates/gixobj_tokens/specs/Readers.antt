-- A commit and its tokens (gitdatamodel, "commits").
use Rattle.std.specs.Prelude.{◌≡◌, ℕ, List, [], ◌∷◌, ◌++◌}
use Rattle.std.specs.List.{AllZip}
use Rattle.gixobj_grammar.specs.Commit.{CommitLines, lines_of_commit}
use Rattle.gixobj_tokens.specs.CommitTokens.{IsTokenOfLine, CommitTokenView, message_token}

-- the last token is a message
abbrev pub EndsInMessage : List CommitTokenView → Type 0
EndsInMessage tokens = (prefix : List CommitTokenView) × (message : List ℕ)
    × (tokens ≡ prefix ++ message_token message ∷ [])

-- the tokens are those of the commit, one for each of its lines
abbrev pub AreTokensOfCommit : CommitLines → List CommitTokenView → Type 0
AreTokensOfCommit commit tokens = AllZip IsTokenOfLine (lines_of_commit commit) tokens
