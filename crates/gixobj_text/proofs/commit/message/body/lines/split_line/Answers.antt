use Rattle.std.proofs.Common.{◌<◌, ◌∙◌, ap, arith, ℕ, length, take, drop}
use Rattle.std.proofs.lemmas.Bool.Decides.{nat_tests}
use Rattle.gixobj_text.proofs.FirstLines.{is_first_line_of_len}
use Rattle.gixobj_text.proofs.commit.message.body.lines.split_line.Goals as goal

pub returns : goal.returns
returns c =
    let some : 0 < length c.args.content.now = grind (arith, nat_tests) in
    is_first_line_of_len c.args.content.now c.split_at.result.0.now c.split_at.result.1.now some
    (c.split_at.ensures.front ∙ ap (λ (n : ℕ). take n c.args.content.now) c.first_line_len.ensures.len)
    (c.split_at.ensures.back ∙ ap (λ (n : ℕ). drop n c.args.content.now) c.first_line_len.ensures.len)
