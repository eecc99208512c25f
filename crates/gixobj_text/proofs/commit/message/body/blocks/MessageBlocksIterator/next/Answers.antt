use Rattle.std.proofs.Common.{◌≢◌, ◌<◌, ◌∙◌, [], List, ℕ, subst, sym, rules, length}
use Rattle.bstr.specs.BStr.{bstr_bytes}
use Rattle.gixobj_text.specs.MessageBlocks.{IsFirstMessageBlock}
use Rattle.gixobj_text.proofs.Steps.{block_rest_len_lt, is_first_block_of_steps, not_nil_of_some}
use Rattle.gixobj_text.proofs.commit.message.body.blocks.MessageBlocksIterator.next.Goals as goal

pub returns-clause-steps : goal.returns-clause-steps
returns-clause-steps c =
    let some : c.args.self.now.cursor.now ≢ [] = not_nil_of_some c.args.self.now.cursor.now c.is_empty.result c.if-is_empty.false c.is_empty.ensures in
    let shorter : length c.skip_trailers-rest.result.now < length c.args.self.now.cursor.now =
    block_rest_len_lt c.args.self.now.trailer_start c.args.self.now.cursor.now c.split_at.result.1.now c.at_trailer-trailers.result.now
    c.skip_trailers-rest.result.now
    some c.split_at.ensures.back c.at_trailer-trailers.ensures c.skip_trailers-rest.ensures in (
      subst (λ (rest : List ℕ). IsFirstMessageBlock c.args.self.now.trailer_start c.args.self.now.cursor.now
          (record { message = bstr_bytes c.new.result; trailers = c.prefix_before-2.result.now }) rest) (sym c.new-2.ensures.remaining)
          (is_first_block_of_steps c.args.self.now.trailer_start c.args.self.now.cursor.now c.split_at.result.1.now c.at_trailer-trailers.result.now
          c.skip_trailers-rest.result.now
          (bstr_bytes c.new.result) c.prefix_before-2.result.now some c.split_at.ensures.back c.at_trailer-trailers.ensures c.skip_trailers-rest.ensures
          (c.new.ensures ∙ c.prefix_before.ensures) c.prefix_before-2.ensures),
      c.new-2.ensures.start,
      subst (λ (content : List ℕ). length content < length c.args.self.now.cursor.now) (sym c.new-2.ensures.remaining) shorter,
    )

pub returns-clause-goes : goal.returns-clause-goes
returns-clause-goes c =
    let some : c.args.self.now.cursor.now ≢ [] = not_nil_of_some c.args.self.now.cursor.now c.is_empty.result c.if-is_empty.false c.is_empty.ensures in
    let shorter : length c.skip_trailers-rest.result.now < length c.args.self.now.cursor.now =
    block_rest_len_lt c.args.self.now.trailer_start c.args.self.now.cursor.now c.split_at.result.1.now c.at_trailer-trailers.result.now
    c.skip_trailers-rest.result.now
    some c.split_at.ensures.back c.at_trailer-trailers.ensures c.skip_trailers-rest.ensures in
    let less : length c.new-2.result.cursor.now < length c.args.self.now.cursor.now =
    subst (λ (content : List ℕ). length content < length c.args.self.now.cursor.now) (sym c.new-2.ensures.remaining) shorter in
    search rules
