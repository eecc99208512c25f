-- If the allocation of a line fails, an entry was decoded.
use Rattle.std.proofs.Common.{inr}
use Rattle.gixobj_tree.specs.TreeViews.{tree_entries}
use Rattle.gixobj_cli_tree.proofs.FirstEntry.{first_entry_exists}
use Rattle.gixobj_cli_tree.proofs.tree.listing.Goals as goal

pub returns-in-Ok-clause-error : goal.returns-in-Ok-clause-error
returns-in-Ok-clause-error c =
    let content = c.in_ok-content.content.now in
    let first = first_entry_exists c.args.hash content (tree_entries c.in-Ok.tree) c.in-Ok.ensures.found c.in-Err.ensures.allocates in
    inr (content, first.0, first.1, c.in_ok-content.ensures.found, first.2)
