use Rattle.gixobj_text.proofs.Sums.{split_rest_len_lt, pieces_of_split}
use Rattle.gixobj_text.proofs.commit.message.summary.split_newline.Goals as goal

pub returns-in-Some : goal.returns-in-Some
returns-in-Some c = (
  pieces_of_split c.args.content.now c.split_at.result.0.now c.split_at-in-Some.result.1.now c.in-Some.position c.in-Some.ensures c.split_at.ensures.front
      c.split_at-in-Some.ensures.back,
  split_rest_len_lt c.args.content.now c.split_at-in-Some.result.1.now c.in-Some.position c.in-Some.ensures c.split_at-in-Some.ensures.back,
)
