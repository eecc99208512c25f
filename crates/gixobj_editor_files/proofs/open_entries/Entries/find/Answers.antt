use Rattle.std.proofs.Common.{◌∙◌, sym}
use Rattle.gixobj_editor_files.proofs.EitherKind.{find_of_file, find_of_no_file, find_slashed}
use Rattle.gixobj_editor_files.proofs.open_entries.Entries.find.Goals as goal

pub returns-then-has_byte : goal.returns-then-has_byte
returns-then-has_byte c = rw (← c.self.view_is) (sym (find_slashed _ c.self.invariant.formed c.args.name.now (c.if-has_byte.ensures {u = tt})))

pub find-requires : goal.find-requires
find-requires c = rw (c.entries_of-first.ensures, c.deref-more.ensures.value)
    (record { ascending = c.self.invariant.formed.ascending; non_empty = c.self.invariant.non_empty })

pub find-requires-in-None : goal.find-requires-in-None
find-requires-in-None c = rw (c.entries_of-first.ensures, c.deref-more.ensures.value)
    (record { ascending = c.self.invariant.formed.ascending; non_empty = c.self.invariant.non_empty })

pub returns-in-Some : goal.returns-in-Some
returns-in-Some c = rw (← c.self.view_is) (find_of_file c.args.name.now (c.if-has_byte.ensures {u = tt}) _ c.self.invariant.formed c.in-Some.file.now
    (rw (c.entries_of-first.ensures, c.deref-more.ensures.value) at (c.in-Some.ensures {u = tt})))

pub returns-in-None : goal.returns-in-None
returns-in-None c = c.find-in-None.ensures ∙ rw (c.entries_of-first.ensures, c.deref-more.ensures.value, ← c.self.view_is)
    (find_of_no_file c.args.name.now (c.if-has_byte.ensures {u = tt}) _ c.self.invariant.formed
    (rw (c.entries_of-first.ensures, c.deref-more.ensures.value) at (c.in-None.ensures {u = tt})))
