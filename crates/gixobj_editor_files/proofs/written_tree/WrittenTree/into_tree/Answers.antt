use Rattle.std.proofs.Common.{◌≡◌, ◌++◌, List, drop}
use Rattle.std.proofs.lemmas.List.{take-append-drop}
use Rattle.gixobj_tree_entries.specs.Entries.{EntryView}
use Rattle.gixobj_editor_files.specs.WrittenTrees.{so_far}
use Rattle.gixobj_editor_files.proofs.WrittenTrees.{on_err_of}
use Rattle.gixobj_editor_files.proofs.written_tree.WrittenTree.into_tree.Goals as goal

pub returns-in_err-entries-in-Prefix-clause-prefix_len : goal.returns-in_err-entries-in-Prefix-clause-prefix_len
returns-in_err-entries-in-Prefix-clause-prefix_len c =
    let base = c.args.base.now in
    let prefix : (rest : List EntryView) × (so_far base c.args.self ++ rest ≡ base) =
    (drop c.in-Prefix.same base, rw c.in-Prefix.is (take-append-drop c.in-Prefix.same base)) in
    on_err_of c.from_residual.result _ prefix
