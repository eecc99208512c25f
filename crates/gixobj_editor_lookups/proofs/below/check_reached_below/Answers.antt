use Rattle.std.proofs.Common.{◌≡◌, ◌∙◌, inl, inr, sym}
use Rattle.std.proofs.lemmas.Result.{MatchResult-weaker}
use Rattle.gixobj_editor_open.specs.Paths.{names_of}
use Rattle.gixobj_editor_lookups.proofs.below.check_reached_below.Goals as goal

pub returns-in_default-clause-accepted : goal.returns-in_default-clause-accepted
returns-in_default-clause-accepted c = inl ((c.in_default.ensures {u = tt}).none (names_of c.args.directory.now))

pub returns-clause-accepted : goal.returns-clause-accepted
returns-clause-accepted c = MatchResult-weaker c.check_reached.result c.check_reached.ensures.accepted (λ _ came.
    elim came [
      | inl none ↦ inl (sym ((c.in-Some.ensures {u = tt}).found (names_of c.args.directory.now)) ∙ none)
      | inr names ↦ inr names
    ]) (λ _ u. u)

pub returns-clause-error : goal.returns-clause-error
returns-clause-error c = MatchResult-weaker c.check_reached.result c.check_reached.ensures.error (λ _ u. u) (λ error bad. (
  bad.0,
  sym ((c.in-Some.ensures {u = tt}).found (names_of c.args.directory.now)) ∙ bad.1,
  bad.2,
))
