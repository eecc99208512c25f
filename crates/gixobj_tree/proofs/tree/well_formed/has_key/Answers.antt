use Rattle.std.proofs.Common.{rules}
use Rattle.std.specs.Ordering.{nat_cmp}
use Rattle.std.specs.Cmp.Lexicographic.{slice_cmp}
use Rattle.std.proofs.lemmas.Fn.{always_returns_same}
use Rattle.gixobj_tree_entries.specs.KeyOrder.{entry_key}
use Rattle.gixobj_tree.specs.WellFormed.{HasKey}
use Rattle.gixobj_tree.proofs.WellFormed.{has_key_of_test, iff_of_test}
use Rattle.gixobj_tree.proofs.tree.well_formed.has_key.Goals as goal

pub returns : goal.returns
returns c =
    let search_result = c.binary_search_by.result in
    iff_of_test c.is_ok.result (HasKey c.args.entries.now c.args.key.now)
    (has_key_of_test c.args.entries.now c.args.key.now search_result c.is_ok.result c.is_ok.ensures.value c.requires c.binary_search_by.ensures.bound
    (c.binary_search_by.ensures.position (λ e. slice_cmp nat_cmp (entry_key e) c.args.key.now) (always_returns_same _ _ _ (λ a r f k. search rules))))
