use Rattle.std.proofs.Common.{◌↔◌, ℕ, List, Bor, drop}
use Rattle.std.specs.BTreeSet.{contains}
use Rattle.gixobj_fsck_trees.proofs.NamesSeen.{IsSeen, bytes_order}
use Rattle.gixobj_fsck_trees.specs.FirstOffsets.{IsNoName, IsRepeatOffset}
use Rattle.gixobj_fsck_trees.specs.RawViews.{raw_entry_views}
use Rattle.gixobj_fsck_trees.proofs.name_twice.first_repeat.Given as goal

-- the first repeat in the rest, of a name in the set or not, is the first one of all
abbrev pub invariant-loop-entry : goal.invariant-loop-entry
invariant-loop-entry l = (offset : ℕ)
    → IsRepeatOffset (IsSeen (λ (name : Bor (List ℕ)). contains bytes_order l.names name)) (raw_entry_views (drop l.entry-index l.entries)) offset
    ↔ IsRepeatOffset IsNoName (raw_entry_views l.entries) offset
