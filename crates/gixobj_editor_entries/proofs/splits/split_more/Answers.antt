use Rattle.std.proofs.Common.{◌≡◌, ◌∙◌, ◌+◌, ◌<◌, suc, ℕ, is_ok, true, set, length, ap, subst, arith}
use Rattle.std.specs.List.{flat_map, insert}
use Rattle.std.proofs.lemmas.List.{get_or_default}
use Rattle.gixobj_editor_entries.proofs.Joined.{flat_map_set_same, flat_map_split}
use Rattle.gixobj_editor_entries.proofs.splits.split_more.Goals as goal

pub returns-in_err-back-clause-unchanged : goal.returns-in_err-back-clause-unchanged
returns-in_err-back-clause-unchanged g c =
    let rs = c.reserve.new.self.items in
    let i = c.args.at in
    let q = c.split.new.piece in
    let low : i < length rs = omega (arith, c.requires.within, ap length c.in_ok-reserve.ensures.items) in
    flat_map_set_same (λ p. p.items) rs i q
    (c.in_err-back.ensures.unchanged ∙ ap (λ p. p.items) (c.index_mut.ensures.value ∙ get_or_default rs i c.index_mut.result.now q low))
    ∙ ap (flat_map (λ p. p.items)) c.in_ok-reserve.ensures.items

pub returns-clause-unchanged : goal.returns-clause-unchanged
returns-clause-unchanged g c =
    let rs = c.reserve.new.self.items in
    let i = c.args.at in
    let q = c.split.new.piece in
    let back = c.in_ok-back.back in
    let low : i < length rs = omega (arith, c.requires.within, ap length c.in_ok-reserve.ensures.items) in
    let ok : is_ok c.insert.result ≡ true = c.insert.ensures.succeeds (omega (arith, c.in_ok-reserve.ensures.ok)) in
    let is : c.insert.new.self.items ≡ insert (set rs i q) (i + 1) back = rw ok at c.insert.ensures.items in
    let split : flat_map (λ p. p.items) (insert (set rs i q) (i + 1) back) ≡ flat_map (λ p. p.items) rs =
    subst (λ (j : ℕ). flat_map (λ p. p.items) (insert (set rs i q) j back) ≡ flat_map (λ p. p.items) rs) {x = suc i} (omega arith)
    (flat_map_split (λ p. p.items) rs i q back low
    (c.in_ok-back.ensures.parts.0 ∙ ap (λ p. p.items) (c.index_mut.ensures.value ∙ get_or_default rs i c.index_mut.result.now q low))) in
    ap (flat_map (λ p. p.items)) is ∙ split ∙ ap (flat_map (λ p. p.items)) c.in_ok-reserve.ensures.items
