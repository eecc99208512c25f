use Rattle.std.proofs.Common.{◌∙◌, List, ℕ, sym, ap}
use Rattle.bstr.specs.Owned.{bstring_bytes}
use Rattle.std.specs.List.{find}
use Rattle.gixobj_tree_entries.specs.Entries.{EntryView}
use Rattle.gixobj_editor_lookups.proofs.OpeningSteps.{is_entry_of_first_tree, is_tree_false_of_none, is_tree_named, option_of_copied_none}
use Rattle.gixobj_editor_lookups.proofs.OpeningSteps.{option_of_copied_some, if_none_weaken}
use Rattle.gixobj_editor_lookups.proofs.opening.tree_id.Goals as goal

pub returns-in_err-entry-clause-none : goal.returns-in_err-entry-clause-none
returns-in_err-entry-clause-none c =
    let found = c.find_tree.ensures ∙ ap (λ (n : List ℕ). find (is_tree_named n) c.args.entries.now) c.as_bytes.ensures in
    if_none_weaken c.from_residual.result _ c.from_residual.ensures
    (is_tree_false_of_none (bstring_bytes c.args.name.now) c.args.entries.now (option_of_copied_none c.find_tree.result _ found c.in_err-entry.was))

pub returns-clause-found : goal.returns-clause-found
returns-clause-found c =
    let found = c.find_tree.ensures ∙ ap (λ (n : List ℕ). find (is_tree_named n) c.args.entries.now) c.as_bytes.ensures in
    let e = c.in_ok-entry.entry.now in
    let one = is_entry_of_first_tree (bstring_bytes c.args.name.now) c.args.entries.now e
    (option_of_copied_some c.find_tree.result _ c.in_ok-entry.entry found c.in_ok-entry.was) c.requires.apart in
    (e, one.0, one.1, ap (λ (x : EntryView). x.id) (sym c.entry.view_is))
