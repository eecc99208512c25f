use Rattle.std.proofs.Common.{List, subst}
use Rattle.gixobj_fsck_trees.specs.EntryMessages.{HasFault}
use Rattle.gixobj_fsck_trees.specs.FirstOffsets.{FindsOffset, IsFirstOffset}
use Rattle.gixobj_fsck_trees.specs.RawEntries.{ending_of}
use Rattle.gixobj_fsck_trees.specs.RawViews.{raw_entry_views}
use Rattle.gixobj_fsck_trees.specs.declared.raw_entry.RawEntry.{RawEntry}
use Rattle.gixobj_fsck_tree_findings.proofs.FaultOffsets.{default_offset}
use Rattle.gixobj_fsck_tree_findings.proofs.faults.fault_offset.Goals as goal

pub returns-in_default : goal.returns-in_default
returns-in_default c =
    let Finds : List RawEntry → Type 0 =
    λ entries. FindsOffset (IsFirstOffset (λ e. HasFault e c.args.message) (raw_entry_views entries)) c.first_fault.result in
    record {
      found = default_offset c.args.strict (raw_entry_views c.args.tree.now.entries.items) (ending_of c.args.tree.now.is_broken) c.args.message
          c.first_fault.result c.in_default.not-BadTree c.in_default.not-BadFilemode c.in_default.not-DuplicateEntries
          c.in_default.not-TreeNotSorted (subst Finds c.deref-in_default.ensures.value c.first_fault.ensures);
      error = tt;
    }
