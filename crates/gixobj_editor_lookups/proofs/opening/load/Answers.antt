-- A tree that is opened as empty, and one that is looked up.
use Rattle.std.proofs.Common.{◌∙◌, inl, inr, [], ◌∷◌, refl, sym, subst}
use Rattle.std.proofs.lemmas.Result.{IfOk-weaker}
use mathlib.Core.Bool.{true≢false}
use Rattle.gixobj_tree.specs.WellFormed.{IsWellFormed}
use Rattle.gixobj_editor_files.proofs.WrittenTrees.{on_err_of}
use Rattle.gixobj_editor_lookups.proofs.opening.load.Goals as goal

pub returns-then-is_not_looked_up-clause-found : goal.returns-then-is_not_looked_up-clause-found
returns-then-is_not_looked_up-clause-found g c =
    λ trees fits. (
      [],
      (
        subst IsWellFormed (sym c.empty.ensures) (record { names = tt; apart = tt; ascending = tt }),
        inl
            (c.is_not_looked_up.ensures.0 c.if-is_not_looked_up.true, c.empty.ensures, refl),
      ),
      refl,
    )

pub returns-clause-found : goal.returns-clause-found
returns-clause-found g c =
    IfOk-weaker c.find_copied.result _ _ (λ it named trees fits. (
      c.args.id ∷ [],
      (
        named.1,
        inr (
          (λ empty. true≢false (sym (c.is_not_looked_up.ensures.1 empty) ∙ c.if-is_not_looked_up.false)),
          (fits c.args.id it.0).1 named,
          refl,
        ),
      ),
      c.saturating_add.ensures,
    )) c.find_copied.ensures.found

pub returns-clause-lookups : goal.returns-clause-lookups
returns-clause-lookups g c =
    on_err_of c.find_copied.result _ ((λ empty. true≢false (sym (c.is_not_looked_up.ensures.1 empty) ∙ c.if-is_not_looked_up.false)), c.saturating_add.ensures)
