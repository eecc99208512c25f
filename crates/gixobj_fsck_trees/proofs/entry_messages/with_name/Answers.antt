use Rattle.std.proofs.Common.{inl, inr}
use Rattle.gixobj_fsck_trees.specs.RawViews.{raw_entry_view}
use Rattle.gixobj_fsck_trees.proofs.PlainNames.{no_name_message_of_plain}
use Rattle.gixobj_fsck_trees.proofs.entry_messages.with_name.Goals as goal

pub returns-then-is_plain : goal.returns-then-is_plain
returns-then-is_plain c = λ it. (
  λ old. inl old,
  λ either. elim either [
    | inl old ↦ old
    | inr named ↦ absurd (no_name_message_of_plain (raw_entry_view c.args.entry.now) it (c.is_plain.ensures c.if-is_plain.true) named)
  ],
)
