-- The loop of a copy over its frames meets its contract: each begins, waits and ends.
use Rattle.std.proofs.Common.{◌≡◌, ◌∙◌, ◌∷◌, [], refl, sym, ap, subst, arith}
use Rattle.std.specs.Prelude.{reverse}
use Rattle.std.proofs.lemmas.List.{reverse-append}
use Rattle.bstr.specs.Owned.{bstring_bytes}
use Rattle.gixobj_editor_open.specs.Children.{remaining_list}
use Rattle.gixobj_editor_open.specs.Copies.{IsCopiedInPart}
use Rattle.gixobj_editor_open.specs.Nested.{parts}
use Rattle.gixobj_editor_open.specs.declared.copying.Copying.{Copying}
use Rattle.gixobj_editor_open.specs.declared.open.Child.{Child}
use Rattle.gixobj_editor_open.proofs.CopiedFrames.{AllCopied, copying_weight, copying_weight_begun, copying_weights, copying_weights_pop, half_copied_begun}
use Rattle.gixobj_editor_open.proofs.CopiedFrames.{half_copied_ended, view_of_copied}
use Rattle.gixobj_editor_open.proofs.PieceEnds.{nil_of_length}
use Rattle.gixobj_editor_open.proofs.copying.copied.Goals as goal

pub frames-init : goal.frames-init
frames-init c =
    let root = c.args.node.now in (
      root,
      subst (λ xs. AllCopied root (reverse xs) (bstring_bytes c.in_ok-frame.frame.name) root) (sym c.new-above.ensures.items) refl,
      (c.in_ok-frame.ensures {u = tt}).half,
    )

pub frames-preserved-in-Continue-branch-4 : goal.frames-preserved-in-Continue-branch-4
frames-preserved-in-Continue-branch-4 c =
    let root = c.args.node.now in
    let so = c.frames.invariant in
    let f = c.frames.frame in
    let r = c.next.result.1 in
    let child = c.in-Some.child.now in
    let next = (rw c.in-Some.is at c.next.ensures.some) in
    let h : Copying = record { name = f.name; entries = f.entries; base = f.base; copies = f.copies; remaining = r } in
    let begun = c.in_ok-inner-in-Some.ensures {u = tt} in
    let waits = c.in_ok-wait-in-Some.ensures {u = tt} in
    let named : bstring_bytes c.in_ok-name-in-Some.name ≡ bstring_bytes child.name = (c.in_ok-name-in-Some.ensures {u = tt}) ∙ c.as_bytes.ensures in
    let half = half_copied_begun f r child so.0 next c.next.ensures.filled so.2 in (
      child.open,
      subst (λ xs. AllCopied root xs (bstring_bytes c.wait.new.frame.name) child.open)
          (sym (ap reverse waits.waits ∙ reverse-append c.frames.above.items (h ∷ []))) (
            so.0,
            so.1,
            subst (λ n. IsCopiedInPart h ((n, child.open) ∷ parts (remaining_list r)) so.0)
                (sym (ap (λ (x : Copying). bstring_bytes x.name) waits.begun ∙ ap bstring_bytes begun.name ∙ named)) half,
          ),
      subst (λ (x : Copying). IsCopiedInPart x (parts (remaining_list x.remaining)) child.open) (sym waits.begun) begun.half,
    )

pub frames-smaller-in-Continue-branch-4 : goal.frames-smaller-in-Continue-branch-4
frames-smaller-in-Continue-branch-4 c =
    let f = c.frames.frame in
    let r = c.next.result.1 in
    let next = (rw c.in-Some.is at c.next.ensures.some) in
    let begun = c.in_ok-inner-in-Some.ensures {u = tt} in
    let waits = c.in_ok-wait-in-Some.ensures {u = tt} in
    omega (
      arith,
      ap copying_weights waits.waits,
      copying_weights_pop c.frames.above.items (record { name = f.name; entries = f.entries; base = f.base; copies = f.copies; remaining = r }),
      ap copying_weight waits.begun,
      begun.fewer,
      copying_weight_begun f r c.in-Some.child.now next,
    )

pub returns-in_default : goal.returns-in_default
returns-in_default c =
    let so = c.frames.invariant in
    let f = c.frames.frame in
    let none : c.frames.above.items ≡ [] = nil_of_length c.frames.above.items (omega (arith, (c.in_default.ensures {u = tt}).cases.0, c.frames.above.ok.0)) in
    let root = subst (λ xs. AllCopied c.args.node.now (reverse xs) (bstring_bytes f.name) so.0) none so.1 in
    c.finish-name.ensures.node ∙ view_of_copied f so.0 (rw c.in-None.is at c.next.ensures.none) so.2 ∙ sym root

pub frames-preserved : goal.frames-preserved
frames-preserved c =
    let so = c.frames.invariant in
    let f = c.frames.frame in
    let parent = c.in-Some-pop.parent in
    let child : Child = record { name = c.finish-name.result.0; «open» = c.finish-name.result.1 } in
    let there = c.finish-name.ensures.node ∙ view_of_copied f so.0 (rw c.in-None.is at c.next.ensures.none) so.2 in
    let all = subst (λ xs. AllCopied c.args.node.now xs (bstring_bytes f.name) so.0)
    (ap reverse c.in-Some-pop.ensures.items ∙ reverse-append c.pop.new.self.items (parent ∷ [])) so.1 in (
      all.0,
      all.1,
      half_copied_ended parent c.push.new.self child all.0 so.0 (bstring_bytes f.name) (c.in_ok-push-in-None.ensures {u = tt}).items
          (ap bstring_bytes c.finish-name.ensures.name) there all.2,
    )

pub frames-smaller : goal.frames-smaller
frames-smaller c = omega (arith, copying_weights_pop c.pop.new.self.items c.in-Some-pop.parent, ap copying_weights c.in-Some-pop.ensures.items)
