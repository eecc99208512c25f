use Rattle.std.proofs.Common.{◌≡◌, ◌++◌, drop}
use Rattle.gixobj_editor_files.proofs.entries.copies.Given as goal

abbrev pub invariant-loop-entry : goal.invariant-loop-entry
invariant-loop-entry l = l.copied.items ++ drop l.entry-index l.entries ≡ l.entries
