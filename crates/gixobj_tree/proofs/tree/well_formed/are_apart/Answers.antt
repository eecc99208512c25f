use borrow.Author.Tests.{tests}
use Rattle.std.proofs.Common.{not, rules}
use Rattle.std.proofs.lemmas.Iterator.{cases_from_any, YieldsList-from_slice}
use Rattle.gixobj_tree.specs.WellFormed.{AreApart, HasNamesake}
use Rattle.gixobj_tree.proofs.WellFormed.{are_apart_of_test, iff_of_test}
use Rattle.gixobj_tree.proofs.tree.well_formed.are_apart.Goals as goal

pub returns : goal.returns
returns c =
    let entries = c.args.entries.now in
    iff_of_test (not c.any.result) (AreApart entries)
    (are_apart_of_test entries c.any.result c.requires.names c.requires.ascending
    (cases_from_any _ _ _ (HasNamesake entries) (λ e. HasNamesake entries e → ⊥) c.any.ensures.ran (YieldsList-from_slice entries cc)
    (λ x q k. search (rules, tests)) (λ x q k. search (rules, tests))))
