use Rattle.std.proofs.Common.{◌≡◌, ◌∙◌, [], None, Some, append-nil, inl, subst, sym}
use Rattle.std.proofs.lemmas.Result.{MatchResult-weaker}
use Rattle.gixobj_editor_files.specs.Files.{Path}
use Rattle.gixobj_editor_open.specs.Paths.{names_of}
use Rattle.gixobj_editor_open.specs.Nested.{dirs_of}
use Rattle.gixobj_editor_lookups.proofs.removal.check_reached.Goals as goal

pub returns-in_default-clause-accepted : goal.returns-in_default-clause-accepted
returns-in_default-clause-accepted c = inl
    (subst (λ (p : Path). dirs_of c.args.root.now p ≡ None) (append-nil (names_of c.args.directory.now)) ((c.in_default.ensures {u = tt}).none []))

pub returns-clause-error : goal.returns-clause-error
returns-clause-error c =
    let reached = c.in-Some.ensures {u = tt} in
    MatchResult-weaker c.validate_names.result c.validate_names.ensures.error (λ _ u. u)
    (λ error bad. (
      reached.root.0,
      subst (λ (p : Path). dirs_of c.args.root.now p ≡ Some reached.root.0) (append-nil (names_of c.args.directory.now))
          (sym (reached.found []) ∙ reached.root.1),
      bad,
    ))
