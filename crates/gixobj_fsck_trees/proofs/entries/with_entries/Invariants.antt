use Rattle.std.proofs.Common.{◌↔◌, ◌⊎◌, drop}
use Rattle.gixobj_fsck_messages.specs.Sets.{HasMessage}
use Rattle.gixobj_fsck_messages.specs.declared.message.Message.{Message}
use Rattle.gixobj_fsck_trees.specs.EntryMessages.{HasEntryMessage}
use Rattle.gixobj_fsck_trees.specs.RawViews.{raw_entry_views}
use Rattle.gixobj_fsck_trees.specs.TreeMessages.{HasEntry}
use Rattle.gixobj_fsck_trees.proofs.entries.with_entries.Given as goal

-- the messages so far, and those about the rest, are all
abbrev pub invariant-loop-entry : goal.invariant-loop-entry
invariant-loop-entry l = (it : Message)
    → (HasMessage l.found it ⊎ HasEntry (λ e. HasEntryMessage e it) (raw_entry_views (drop l.entry-index l.entries)))
    ↔ (HasMessage l.fn.messages it ⊎ HasEntry (λ e. HasEntryMessage e it) (raw_entry_views l.entries))
