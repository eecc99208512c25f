use Rattle.std.proofs.Common.{◌≡◌, ◌≤◌, ◌∙◌, ◌+◌, ◌++◌, inl, inr, is_ok, length, length-append, true, refl, sym, ap, arith}
use mathlib.Core.List.{append-nil}
use Rattle.std.specs.Prelude.{vec_capacity, vec_len}
use Rattle.std.specs.List.{flat_map}
use Rattle.gixobj_editor_entries.specs.Pieces.{joined}
use Rattle.gixobj_editor_entries.proofs.pieces.settle.Goals as goal

pub returns-then-has_no_items-clause-unchanged : goal.returns-then-has_no_items-clause-unchanged
returns-then-has_no_items-clause-unchanged g c =
    let first = c.args.first.now.items in
    let none = sym c.deref.ensures.value ∙ c.if-has_no_items.ensures.empty refl in
    sym (ap (λ l. first ++ flat_map (λ p. p.items) l) none ∙ append-nil first)

pub returns-then-has_no_items-clause-settled : goal.returns-then-has_no_items-clause-settled
returns-then-has_no_items-clause-settled g c = sym c.deref.ensures.value ∙ c.if-has_no_items.ensures.empty refl

pub append_all-requires : goal.append_all-requires
append_all-requires g c =
    let first = c.args.first.now.items in
    let more = c.args.more.now.items in
    let room : length (joined (λ p. p.items) first more) ≤ vec_capacity c.args.spare.now =
    elim c.requires.has_capacity [
      | inl none ↦ absurd (c.if-has_no_items.ensures.non_empty refl (c.deref.ensures.value ∙ none))
      | inr fits ↦ fits
    ] in
    let fits : vec_len c.args.spare.now + vec_len c.args.first.now ≤ vec_capacity c.args.spare.now =
    omega (arith, room, ap length c.requires.spare, length-append first (flat_map (λ p. p.items) more)) in
    let ok : is_ok c.append.result ≡ true = c.append.ensures.succeeds fits in
    let is : c.append.new.self.items ≡ first = (rw ok at c.append.ensures.items) ∙ ap (λ l. l ++ first) c.requires.spare in
    let all : joined (λ p. p.items) c.append.new.self.items c.deref_mut.result.now ≡ joined (λ p. p.items) first more =
    ap (λ l. l ++ flat_map (λ p. p.items) c.deref_mut.result.now) is ∙ ap (λ l. first ++ flat_map (λ p. p.items) l) c.deref_mut.ensures.value in
    omega (arith, room, ap length all, c.append.ensures.capacity)
