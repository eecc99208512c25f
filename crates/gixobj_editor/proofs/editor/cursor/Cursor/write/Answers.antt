use Rattle.std.proofs.lemmas.Result.{IfOk-weaker, MatchResult-weaker}
use Rattle.gixobj_editor.proofs.editor.cursor.Cursor.write.Goals as goal

pub returns-clause-written : goal.returns-clause-written
returns-clause-written g c = IfOk-weaker c.try_write.result _ _ (λ it emitted. (c.try_write.new.out, emitted)) c.try_write.ensures.written

pub returns-clause-error : goal.returns-clause-error
returns-clause-error g c = MatchResult-weaker c.try_write.result c.try_write.ensures.error (λ _ u. u) (λ error halt. (c.try_write.new.out, halt))
