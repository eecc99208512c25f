use Rattle.std.proofs.Common.{arith, ◌≡◌, ◌≤◌, ◌∙◌, ◌+◌, ◌<◌, suc, ◌∷◌, ◌++◌, drop, is_ok, length, length-append, true, sym, ap, subst, add-one, append_assoc}
use Rattle.std.proofs.Common.{drop-cons}
use Rattle.std.specs.Prelude.{slice_set, vec_capacity, vec_len}
use Rattle.std.specs.List.{flat_map}
use Rattle.std.proofs.lemmas.List.{drop-set-lt}
use Rattle.gixobj_editor_entries.specs.Pieces.{joined}
use Rattle.gixobj_editor_entries.proofs.pieces.append_all.Goals as goal

pub loop-piece-preserved : goal.loop-piece-preserved
loop-piece-preserved g c =
    let i = c.loop-piece.piece-index in
    let ps = c.loop-piece.more in
    let p = c.piece-item.result in
    let q = c.append.new.other in
    let xs = c.loop-piece.first.items in
    let so = c.loop-piece.invariant in
    let low : i < length ps = omega (arith, c.loop-piece-test.true, c.loop-piece.auto.more) in
    let here : drop i ps ≡ p ∷ drop (i + 1) ps = rw add-one (drop-cons ps i p low ∙ ap (λ x. x ∷ drop (suc i) ps) (sym c.piece-item.is)) in
    let tail : drop (i + 1) (slice_set ps i q) ≡ drop (i + 1) ps = drop-set-lt (i + 1) ps i q (omega arith) in
    let rest = flat_map (λ v. v.items) (drop (i + 1) ps) in
    let all : xs ++ (p.items ++ rest) ≡ joined (λ v. v.items) c.args.first.now.items c.args.more.now =
    ap (λ l. xs ++ flat_map (λ v. v.items) l) (sym here) ∙ so.moved in
    let fits : vec_len c.loop-piece.first + vec_len p ≤ vec_capacity c.loop-piece.first =
    omega (arith, ap length all, length-append xs (p.items ++ rest), length-append p.items rest, c.requires, so.capacity) in
    let ok : is_ok c.append.result ≡ true = c.append.ensures.succeeds
    (subst (λ v. vec_len c.loop-piece.first + vec_len v ≤ vec_capacity c.loop-piece.first) c.piece-item.is fits) in
    record {
      moved = ap (λ l. c.append.new.self.items ++ flat_map (λ v. v.items) l) tail
          ∙ ap (λ l. l ++ rest) ((rw ok at c.append.ensures.items) ∙ ap (λ v. xs ++ v.items) (sym c.piece-item.is)) ∙ append_assoc xs p.items rest ∙ all;
      capacity = omega (arith, so.capacity, c.append.ensures.capacity);
    }
