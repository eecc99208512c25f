-- The entries before the current one are written, and their names have no zero byte.
use Rattle.std.proofs.Common.{◌≡◌, take, map}
use Rattle.gixobj_streams.specs.Streams.{AppendsAll}
use Rattle.gixobj_tree.proofs.TreeWrites.{AreFree}
use Rattle.gixobj_tree.specs.TreeEncoding.{encode_tree}
use Rattle.gixobj_tree.proofs.tree.borrowed.write.TreeRefWriteTo.write_into.Given as goal
use Rattle.gixobj_tree_entries.specs.EntryViews.{entry_view}

abbrev pub invariant-loop-entry : goal.invariant-loop-entry
invariant-loop-entry g l =
    record {
      write_bytes : AppendsAll (g.S.Sink.view l.fn.sink) (g.S.Sink.view l.sink) (encode_tree (take l.entry-index (map entry_view l.entry-items)));
      free : AreFree (take l.entry-index (map entry_view l.entry-items));
      same : l.entry-items ≡ l.self.entries.items;
      same_loan : g.S.Sink.loan l.sink ≡ g.S.Sink.loan l.fn.sink;
    }
