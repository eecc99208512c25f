-- A commit built from its lines, one by one.
use Rattle.std.specs.Prelude.{◌≡◌, ◌≢◌, ℕ, List, [], ◌∷◌, ◌++◌, Some, None, ⊤}
use Rattle.gixobj_hash.specs.Runs.{BeginsWithPieces}
use Rattle.gixobj_hash.specs.declared.hash.kind.Kind.{Kind}
use Rattle.gixobj_grammar.specs.Commit.{CommitLines}
use Rattle.gixobj_grammar.specs.Lines.{BeginsWithLine, LineView, author_line, committer_line, encoding_line}
use Rattle.gixobj_grammar.specs.Lines.{header_line, message_line, parent_line, tree_line}
use Rattle.gixobj_grammar.specs.declared.lines.State.{State}
use Rattle.gixobj_grammar.specs.declared.lines.State.TheVariants as state

-- the commit with this line: a parent or a header is appended, any other line sets its field
abbrev pub gather : CommitLines → LineView → CommitLines
gather commit (tree_line hex) = record commit { tree = hex }
gather commit (parent_line hex) = record commit { parents = commit.parents ++ hex ∷ [] }
gather commit (author_line line) = record commit { author = line }
gather commit (committer_line line) = record commit { committer = line }
gather commit (encoding_line encoding) = record commit { encoding = Some encoding }
gather commit (header_line header) = record commit { extra_headers = commit.extra_headers ++ header ∷ [] }
gather commit (message_line message) = record commit { message = message }

-- the commit with all these lines, in order
abbrev pub gathered : CommitLines → List LineView → CommitLines
gathered commit [] = commit
gathered commit (line ∷ lines) = gathered (gather commit line) lines

-- a commit without any line
abbrev pub empty_commit : CommitLines
empty_commit = record {
  tree = [];
  parents = [];
  author = [];
  committer = [];
  encoding = None;
  extra_headers = [];
  message = [];
}

-- the line allocates: it is a parent after the first, or an extra header
abbrev pub Allocates : CommitLines → LineView → Type 0
Allocates commit (parent_line hex) = commit.parents ≢ []
Allocates commit (header_line header) = ⊤
Allocates commit _ = ⊥

-- the bytes begin with the lines of the commit that was built so far, and the rest follows in this state
abbrev pub Gathers : Kind → List ℕ → State → List ℕ → CommitLines → Type 0
Gathers kind bytes after rest commit =
    (lines : List LineView) × BeginsWithPieces (BeginsWithLine kind) state.Tree bytes lines after rest
    × (commit ≡ gathered empty_commit lines)
