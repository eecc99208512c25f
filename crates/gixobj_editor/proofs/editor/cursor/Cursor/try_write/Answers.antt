-- The directory at the prefix is still open.
use Rattle.std.proofs.lemmas.Result.{IfOk-weaker}
use Rattle.gixobj_editor.proofs.WrittenBelow.{written_prefix_is_open, write_keeps_prefix}
use Rattle.gixobj_editor.proofs.editor.cursor.Cursor.try_write.Goals as goal

pub invariant_of-self : goal.invariant_of-self
invariant_of-self g c =
    let old = c.args.self.now.editor.now in
    let new = c.write_below.new.self in
    record {
      is_open = written_prefix_is_open c.write_below.result old new
          (IfOk-weaker c.write_below.result _ _ (λ it emitted. (emitted.written_tree, emitted.dirs)) c.write_below.ensures.written)
          c.write_below.ensures.unchanged
          (write_keeps_prefix c.write_below.result old new (IfOk-weaker c.write_below.result _ _ (λ it emitted. emitted.rest) c.write_below.ensures.written)
          c.write_below.ensures.unchanged) c.args.self.now.is_open;
    }

pub returns-clause-prefix : goal.returns-clause-prefix
returns-clause-prefix g c = write_keeps_prefix c.write_below.result c.args.self.now.editor.now c.write_below.new.self
    (IfOk-weaker c.write_below.result _ _ (λ it emitted. emitted.rest) c.write_below.ensures.written) c.write_below.ensures.unchanged
