use Rattle.std.proofs.Common.{take}
use Rattle.gixobj_editor_import.specs.Edited.{AreDone}
use Rattle.gixobj_editor_import.proofs.edits.do_edits.Given as goal
use Rattle.gixobj_store.specs.Stores.{store_model}

-- the edits before this number are done
abbrev pub invariant-loop-index : goal.invariant-loop-index
invariant-loop-index g l = AreDone (store_model g.S.Store.objects g.S.Store.may_fail) l.fn.editor (take l.index l.edits) l.editor
