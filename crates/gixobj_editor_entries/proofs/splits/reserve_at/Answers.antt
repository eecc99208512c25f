use Rattle.std.proofs.Common.{◌∙◌, ◌-◌, ◌<◌, length, ap, arith}
use Rattle.std.specs.Prelude.{vec_capacity, vec_len}
use Rattle.std.proofs.lemmas.List.{get_or_default}
use Rattle.gixobj_editor_entries.proofs.Joined.{holds_at_piece_of_set, map_set_same}
use Rattle.gixobj_editor_entries.proofs.splits.reserve_at.Goals as goal

pub index-requires : goal.index-requires
index-requires g c = omega (arith, c.requires, c.if-at-eq0.false)

pub index_mut-requires : goal.index_mut-requires
index_mut-requires g c = omega (arith, c.requires, c.if-at-eq0.false)

pub returns-in_err-reserve-2-clause-more : goal.returns-in_err-reserve-2-clause-more
returns-in_err-reserve-2-clause-more g c =
    let more = c.args.more.now.items in
    let i = c.args.at - 1 in
    let low : i < length more = omega (arith, c.requires, c.if-at-eq0.false) in
    let q = c.reserve-2.new.self in
    map_set_same (λ p. p.items) more i q
    (c.reserve-2.ensures.items ∙ ap (λ p. p.items) (c.index_mut.ensures.value ∙ get_or_default more i c.index_mut.result.now q low))

pub returns-clause-more : goal.returns-clause-more
returns-clause-more g c =
    let more = c.args.more.now.items in
    let i = c.args.at - 1 in
    let low : i < length more = omega (arith, c.requires, c.if-at-eq0.false) in
    let q = c.reserve-2.new.self in
    map_set_same (λ p. p.items) more i q
    (c.reserve-2.ensures.items ∙ ap (λ p. p.items) (c.index_mut.ensures.value ∙ get_or_default more i c.index_mut.result.now q low))

pub returns-clause-has_capacity : goal.returns-clause-has_capacity
returns-clause-has_capacity g c =
    let more = c.args.more.now.items in
    let i = c.args.at - 1 in
    let low : i < length more = omega (arith, c.requires, c.if-at-eq0.false) in
    holds_at_piece_of_set (λ p. vec_len p < vec_capacity p) c.args.first.now more c.args.at i (omega (arith, c.if-at-eq0.false)) c.reserve-2.new.self low
    (omega (arith, c.in_ok-reserve-2.ensures.ok, c.items_to_reserve-count.ensures))
