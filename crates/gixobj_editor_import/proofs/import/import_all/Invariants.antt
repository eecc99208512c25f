use Rattle.std.proofs.Common.{◌≡◌, ◌≤◌, length, take, vec_capacity, vec_len}
use Rattle.gixobj_editor_import.specs.Steps.{AreImported}
use Rattle.gixobj_editor_import.proofs.import.import_all.Given as goal
use Rattle.gixobj_store.specs.Stores.{store_model}

-- the steps before this number are imported, and the list has capacity for the others
abbrev pub invariant-loop-step : goal.invariant-loop-step
invariant-loop-step g l = record {
  imported : AreImported (store_model g.S.Store.objects g.S.Store.may_fail) l.fn.importer (take l.step-index l.steps) l.imported.items l.importer;
  count : length l.imported.items ≡ l.step-index;
  same_count : vec_len l.imported ≡ l.step-index;
  room : length l.steps ≤ vec_capacity l.imported;
}
