use Rattle.std.proofs.Common.{◌∙◌, sym}
use Rattle.gixobj_editor_files.proofs.EitherKind.{find_tree_none_of_key, find_tree_of_key, find_tree_slashed}
use Rattle.gixobj_editor_files.proofs.open_entries.Entries.find_tree.Goals as goal

pub find-requires : goal.find-requires
find-requires c = rw (c.entries_of-first.ensures, c.deref-more.ensures.value)
    (record { ascending = c.self.invariant.formed.ascending; non_empty = c.self.invariant.non_empty })

pub returns-in-None : goal.returns-in-None
returns-in-None c = rw (← c.self.view_is) (sym (find_tree_none_of_key c.args.name.now _
    (sym (rw (c.entries_of-first.ensures, c.deref-more.ensures.value) at (c.in-None.ensures {u = tt})))))

pub returns-then-has_byte : goal.returns-then-has_byte
returns-then-has_byte c = rw (← c.self.view_is)
    (sym (find_tree_slashed _ c.self.invariant.formed c.args.name.now (c.if-has_byte.ensures {u = tt})))

pub returns-else-has_byte : goal.returns-else-has_byte
returns-else-has_byte c = rw (← c.self.view_is) ((rw (c.entries_of-first.ensures, c.deref-more.ensures.value) at (c.in-Some.ensures {u = tt}))
    ∙ find_tree_of_key c.args.name.now (c.if-has_byte.ensures {u = tt}) _ c.self.invariant.formed)
