use Rattle.std.proofs.Common.{rules}
use Rattle.std.specs.Ordering.{is_lt, nat_cmp}
use Rattle.std.specs.Cmp.Lexicographic.{slice_cmp}
use Rattle.std.proofs.lemmas.Fn.{always_returns_same}
use Rattle.gixobj_tree_entries.specs.KeyOrder.{ComesBefore, entry_key}
use Rattle.gixobj_tree.specs.WellFormed.{EachLater}
use Rattle.gixobj_tree.proofs.WellFormed.{each_later_of_test, iff_of_test}
use Rattle.gixobj_tree.proofs.tree.well_formed.ascend.Goals as goal

pub returns : goal.returns
returns c =
    iff_of_test c.is_sorted_by.result (EachLater ComesBefore c.args.entries.now)
    (each_later_of_test c.args.entries.now c.is_sorted_by.result (c.is_sorted_by.ensures.cases (λ x y. is_lt (slice_cmp nat_cmp (entry_key x) (entry_key y)))
    (always_returns_same _ _ _ (λ a r f k. search rules))))
