-- The run of a token iterator over a commit, from its state to its end (gitdatamodel, "commits").
use Rattle.std.specs.Prelude.{ℕ, List}
use Rattle.gixobj_hash.specs.Runs as runs
use Rattle.gixobj_hash.specs.Runs.{Ending}
use Rattle.gixobj_hash.specs.declared.hash.kind.Kind.{Kind}
use Rattle.gixobj_tokens.specs.CommitTokens.{BeginsWithCommitToken, CommitTokenView}
use Rattle.gixobj_grammar.specs.declared.lines.State.{State}

-- the complete run from this state over this input yields these tokens, and has this ending
abbrev pub YieldsCommitTokens : Kind → State → List ℕ → List CommitTokenView → Ending → Type 0
YieldsCommitTokens kind before input tokens ending = runs.Yields (BeginsWithCommitToken kind) before input tokens ending
