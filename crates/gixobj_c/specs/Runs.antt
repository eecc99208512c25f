-- Calls from a cursor of zeros on, one after another: they find what a reader yields.
use Rattle.std.specs.Prelude.{◌≡◌, ◌⊎◌, ℕ, List, [], ◌∷◌, Option, Some, None}
use Rattle.gixobj_c.specs.Commits.{IsTokenOfLine}
use Rattle.gixobj_c.specs.Tags.{IsTokenOfTag}
use Rattle.gixobj_c.specs.declared.commits.CommitToken.{CommitToken}
use Rattle.gixobj_c.specs.declared.tags.TagToken.{TagToken}
use Rattle.gixobj_c_codes.specs.Codes.{malformed, out_of_memory, unknown_code}
use Rattle.gixobj_grammar.specs.Lines.{BeginsWithLine, BeginsWithSomeLine, LineView}
use Rattle.gixobj_grammar.specs.TagTokens.{BeginsWithTagToken, TagTokenView}
use Rattle.gixobj_grammar.specs.declared.lines.State as line
use Rattle.gixobj_grammar.specs.declared.lines.State.TheVariants as line_state
use Rattle.gixobj_grammar.specs.declared.tokens.State as token
use Rattle.gixobj_grammar.specs.declared.tokens.State.TheVariants as token_state
use Rattle.gixobj_hash.specs.Runs as runs
use Rattle.gixobj_hash.specs.Runs.{broken, complete}
use Rattle.gixobj_hash.specs.declared.hash.kind.Kind.{Kind}

-- as many items as pieces, each related to the piece at its position
abbrev pub AreOf : {P T : Type 0} → (P → T → Type 0) → List P → List T → Type 0
AreOf Is [] [] = Unit {0}
AreOf Is (piece ∷ pieces) (item ∷ items) = Is piece item × AreOf Is pieces items
AreOf Is [] (item ∷ items) = ⊥
AreOf Is (piece ∷ pieces) [] = ⊥

-- the token is that of this line, at some offset of the commit
abbrev pub IsTokenIn : List ℕ → LineView → CommitToken → Type 0
IsTokenIn commit line token = (offset : ℕ) × (rest : List ℕ) × IsTokenOfLine commit offset line rest token

-- the tokens are those of all lines of the commit, from the first on
pub record AreCommitTokens (kind : Kind) (commit : List ℕ) (tokens : List CommitToken) : Type 0 where
  pub lines : List LineView
  pub yields : runs.Yields (BeginsWithLine kind) line_state.Tree commit lines complete
  pub each : AreOf (IsTokenIn commit) lines tokens

-- the token is this one, at some offset of the tag
abbrev pub IsTagTokenIn : List ℕ → TagTokenView → TagToken → Type 0
IsTagTokenIn tag found token = (offset : ℕ) × (rest : List ℕ) × IsTokenOfTag tag offset found rest token

-- the tokens are all of the tag, from the first on
pub record AreTagTokens (kind : Kind) (tag : List ℕ) (tokens : List TagToken) : Type 0 where
  pub found : List TagTokenView
  pub yields : runs.Yields (BeginsWithTagToken kind) token_state.Target tag found complete
  pub each : AreOf (IsTagTokenIn tag) found tokens

-- of a known hash function, all tokens; no call succeeds with another number
abbrev pub AreCommitTokensOf : Option Kind → List ℕ → List CommitToken → Type 0
AreCommitTokensOf (Some kind) commit tokens = AreCommitTokens kind commit tokens
AreCommitTokensOf None commit tokens = ⊥

abbrev pub AreTagTokensOf : Option Kind → List ℕ → List TagToken → Type 0
AreTagTokensOf (Some kind) tag tokens = AreTagTokens kind tag tokens
AreTagTokensOf None tag tokens = ⊥

-- why not all tokens of the commit are found: after some lines the bytes do not begin with another; or an allocation
-- failed, for a header or for the tokens, so there is a line
abbrev pub IsCommitRunStatus : Option Kind → List ℕ → ℕ → Type 0
IsCommitRunStatus (Some kind) commit status = ((status ≡ malformed)
    × ((lines : List LineView) × runs.Yields (BeginsWithLine kind) line_state.Tree commit lines broken))
    ⊎ ((status ≡ out_of_memory)
    × ((after : line.State) × (rest : List ℕ) × BeginsWithSomeLine kind line_state.Tree commit after rest))
IsCommitRunStatus None commit status = status ≡ unknown_code

-- why not all tokens of the tag are found: after some tokens the bytes do not begin with another; or an allocation for
-- the tokens failed, so there is one
abbrev pub IsTagRunStatus : Option Kind → List ℕ → ℕ → Type 0
IsTagRunStatus (Some kind) tag status = ((status ≡ malformed)
    × ((found : List TagTokenView) × runs.Yields (BeginsWithTagToken kind) token_state.Target tag found broken))
    ⊎ ((status ≡ out_of_memory) × ((first : TagTokenView) × (after : token.State) × (rest : List ℕ)
    × BeginsWithTagToken kind token_state.Target tag first after rest))
IsTagRunStatus None tag status = status ≡ unknown_code
