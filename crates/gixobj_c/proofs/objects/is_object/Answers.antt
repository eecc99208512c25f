-- A malformed commit is no commit.
use Rattle.std.proofs.Common.{ℕ, List, Bool, true, false}
use Rattle.std.specs.Prelude.{MatchBool}
use Rattle.gixobj_c.proofs.objects.is_object.Goals as goal
use Rattle.gixobj_hash.specs.declared.hash.kind.Kind.{Kind}
use Rattle.gixobj_grammar.specs.Commit.{IsCommit, IsMalformedCommit}

is_commit_or_not : (kind : Kind) (bytes : List ℕ) (result : Bool) → MatchBool result (IsCommit kind bytes) (IsMalformedCommit kind bytes)
    → MatchBool result (IsCommit kind bytes) (¬ IsCommit kind bytes)
is_commit_or_not kind bytes true is = is
is_commit_or_not kind bytes false none = λ it. none it.0 it.1

pub returns-in-Commit : goal.returns-in-Commit
returns-in-Commit c = rw c.in-Commit.is (is_commit_or_not _ _ _ c.is_commit.ensures)
