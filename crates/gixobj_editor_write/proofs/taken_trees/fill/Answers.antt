use Rattle.std.proofs.Common.{arith, ◌≡◌, ◌∙◌, ◌+◌, ◌<◌, suc, [], ◌∷◌, ◌++◌, drop, take, length, refl, sym, ap, subst, add-one, append_assoc, drop-cons}
use Rattle.std.specs.Prelude.{reverse, slice_set}
use Rattle.std.proofs.lemmas.List.{drop-set-lt, take_more_set}
use Rattle.gixobj_tree_entries.specs.Entries.{Pair}
use Rattle.gixobj_editor_write.specs.TakenTrees.{Fills}
use Rattle.gixobj_editor_write.proofs.taken_trees.fill.Goals as goal

pub loop-pair-init : goal.loop-pair-init
loop-pair-init c = λ all fills. (all, refl, fills)

pub loop-pair-preserved : goal.loop-pair-preserved
loop-pair-preserved c = λ all fills.
    let i = c.loop-pair.pair-index in
    let es = c.loop-pair.pairs in
    let e = c.pair-item.result in
    let new = c.fill_one.new.pair in
    let so = c.loop-pair.invariant all fills in
    let low : i < length es = omega (arith, c.loop-pair-test.true, c.loop-pair.auto.pairs) in
    let here : drop i es ≡ e ∷ drop (i + 1) es = rw add-one (drop-cons es i e low ∙ ap (λ x. x ∷ drop (suc i) es) (sym c.pair-item.is)) in
    let ts = reverse c.loop-pair.trees.items in
    let mine : Fills (e ∷ drop (i + 1) es) ts so.0 = subst (λ xs. Fills xs ts so.0) here so.2 in
    let one = c.fill_one.ensures (drop (i + 1) es) so.0 (subst (λ (x : Pair). Fills (x ∷ drop (i + 1) es) ts so.0) c.pair-item.is mine) in
    let tail : drop (i + 1) (slice_set es i new) ≡ drop (i + 1) es = drop-set-lt (i + 1) es i new (omega arith) in (
      one.0,
      so.1 ∙ ap (λ xs. take i es ++ xs) one.1 ∙ sym (append_assoc (take i es) (new ∷ []) one.0) ∙ ap (λ xs. xs ++ one.0) (sym (take_more_set es i new low)),
      subst (λ xs. Fills xs (reverse c.fill_one.new.trees.items) one.0) (sym tail) one.2,
    )
