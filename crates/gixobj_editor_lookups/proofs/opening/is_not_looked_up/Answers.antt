-- The null id, or the id of the empty tree.
use mathlib.Core.Bool.{true≢false}
use Rattle.std.proofs.Common.{◌∙◌, ⊎_elim, inl, inr, sym}
use Rattle.gixobj_editor_files.proofs.NullIds.{is_null_of_test}
use Rattle.gixobj_editor_lookups.proofs.opening.is_not_looked_up.Goals as goal

pub returns-then-is_null : goal.returns-then-is_null
returns-then-is_null c = ((λ _. inl (sym (is_null_of_test c.args.id c.is_null.result c.is_null.ensures) ∙ c.if-is_null.true)), λ _. c.if-is_null.true)

pub returns-else-is_null : goal.returns-else-is_null
returns-else-is_null c = (
  (λ empty. inr (c.is_empty_tree.ensures.0 empty)),
  ⊎_elim (λ null. absurd (true≢false (sym null ∙ sym (is_null_of_test c.args.id c.is_null.result c.is_null.ensures) ∙ c.if-is_null.false)))
      c.is_empty_tree.ensures.1,
)
