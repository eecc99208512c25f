-- No byte follows a newline, so the last byte decides whether the line ends in one.
use Rattle.std.proofs.Common.{Some, ap, sym, ◌∙◌}
use Rattle.std.proofs.lemmas.List.{append-nil}
use Rattle.gixobj_encode.proofs.FieldWrites.{folded_of_last_line, folded_of_open_line}
use Rattle.gixobj_encode.proofs.encode.missing_newline.Goals as goal

pub returns-then-last-eq10 : goal.returns-then-last-eq10
returns-then-last-eq10 c =
    folded_of_last_line c.args.line.now c.requires (sym c.in-Some.ensures.value ∙ ap Some c.if-last-eq10.true) ∙ sym (append-nil c.args.line.now)

pub returns-else-last-eq10 : goal.returns-else-last-eq10
returns-else-last-eq10 c = folded_of_open_line c.args.line.now c.requires c.in-Some.last.now (sym c.in-Some.ensures.value) c.if-last-eq10.false
