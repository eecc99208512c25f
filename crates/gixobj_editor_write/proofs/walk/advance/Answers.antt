-- What a step of a write emits by its entry: the directory has ended, the directory of the entry begins, or the entry
-- is visited. They are the clauses of `advance`.
use Rattle.std.proofs.Common.{◌≡◌, ◌∙◌, ◌+◌, ◌++◌, ◌<◌, ◌≤◌, ℕ, [], List, Ok, Err, get_or, length, refl, sym, ap, subst, arith, append-nil}
use Rattle.std.specs.Fn.{CalledAt}
use Rattle.std.specs.Option.{option_copied}
use Rattle.std.proofs.lemmas.List.{drop_all}
use Rattle.gixobj_tree_entries.specs.Entries.{EntryView}
use Rattle.gixobj_editor_files.specs.Emission.{entry_unless_null}
use Rattle.gixobj_editor_write.specs.Frames.{EmitsNext, HasEmitted, Waits, held_entries}
use Rattle.gixobj_editor_write.specs.TakenTrees.{child_leaf_trees}
use Rattle.gixobj_editor_open.specs.Nested.{base_side, entries_side}
use Rattle.gixobj_editor_write.specs.WriteErrors.{EmitsEntry, IsWriteError, child_side}
use Rattle.gixobj_editor_write.specs.declared.frames.Frame.{Frame}
use Rattle.gixobj_editor_open.proofs.Results.{if_err_weaken}
use Rattle.gixobj_editor_write.proofs.Emitting.{stopped_after_folds, stopped_at_call}
use Rattle.gixobj_editor_write.proofs.BegunFrames.{emits_next_of_entry, has_come_visited, lighter_begun, lighter_visited, waits_for_child}
use Rattle.gixobj_editor_write.proofs.TakenTrees.{adds_nil}
use Rattle.gixobj_editor_write.proofs.walk.advance.Goals as goal

pub returns-then-frame-entries-clause-emitted : goal.returns-then-frame-entries-clause-emitted
returns-then-frame-entries-clause-emitted g c =
    let f = c.args.frame.now in
    let high : length (held_entries f.tree) ≤ f.next = subst (λ xs. length xs ≤ f.next) c.entries-entries.ensures c.if-frame-entries.true in (
      [],
      [],
      adds_nil c.args.pairs.now.items,
      refl,
      λ ps ts count come. (
        subst (λ x. HasEmitted f x (ts ++ []) count) (sym (append-nil ps)) (subst (λ x. HasEmitted f ps x count) (sym (append-nil ts)) come),
        drop_all f.next (held_entries f.tree) high,
      ),
    )

pub returns-in_err-inner-clause-error : goal.returns-in_err-inner-clause-error
returns-in_err-inner-clause-error g c =
    let f = c.args.frame.now in
    let e = c.index-entries-frame.result in
    let items : c.entries-entries.result.now ≡ held_entries f.tree = c.entries-entries.ensures in
    let low : f.next < length (held_entries f.tree) = subst (λ xs. f.next < length xs) items c.if-frame-entries.false in
    let is : e ≡ get_or (held_entries f.tree) f.next e = c.index-entries-frame.is ∙ ap (λ xs. get_or xs f.next e) items in
    let next = option_copied c.next_of.result.0 in
    let r = c.next_of.result.1 in
    let inside = child_side entries_side next in
    let based = child_side base_side next in
    if_err_weaken c.from_residual.result _ _ c.from_residual.ensures.1
    (λ error is_error. subst (IsWriteError (λ f p h. CalledAt g.F.FnMut f p.1 (Ok p.0) h) (λ f tree x h. CalledAt g.F.FnMut f tree (Err x) h)
    (EmitsNext f) c.args.out.now c.visit_entry.new.out) (sym is_error)
    (stopped_after_folds (λ f p h. CalledAt g.F.FnMut f p.1 (Ok p.0) h) (λ f tree x h. CalledAt g.F.FnMut f tree (Err x) h)
    (λ inner. (kept : List EntryView) × (n : ℕ) × EmitsEntry inside based e inner kept n) (EmitsNext f)
    c.args.out.now c.args.out.now c.visit_entry.new.out [] refl
    (λ qs seen. emits_next_of_entry f e low is next r c.next_of.ensures.next c.next_of.ensures.following qs seen.0 seen.1 seen.2)
    c.in_err-inner.field-0.0 c.in_err-inner.ensures.error))

pub returns-in-Begins-clause-emitted : goal.returns-in-Begins-clause-emitted
returns-in-Begins-clause-emitted g c =
    let f = c.args.frame.now in
    let e = c.index-entries-frame.result in
    let items : c.entries-entries.result.now ≡ held_entries f.tree = c.entries-entries.ensures in
    let low : f.next < length (held_entries f.tree) = subst (λ xs. f.next < length xs) items c.if-frame-entries.false in
    let is : e ≡ get_or (held_entries f.tree) f.next e = c.index-entries-frame.is ∙ ap (λ xs. get_or xs f.next e) items in
    let next = option_copied c.next_of.result.0 in
    let r = c.next_of.result.1 in
    let node = c.in-Begins.inner.now in
    let h : Frame = record { node = f.node; base = f.base; tree = f.tree; next = f.next; remaining = r; written_tree = f.written_tree } in
    let ok = (rw c.in-Begins.is at (c.in_ok-inner.ensures {u = tt}).emitted) in (
      ok.0,
      [],
      ok.2,
      ok.3,
      λ ps ts count come. subst (λ x. Waits h node (ps ++ x) (ts ++ []) count) (sym ok.1.1)
          (subst (λ x. Waits h node x (ts ++ []) count) (sym (append-nil ps))
          (subst (λ x. Waits h node ps x count) (sym (append-nil ts))
          (waits_for_child f e low is next r c.next_of.ensures.next c.next_of.ensures.following c.next_of.ensures.filled node ok.1.0 ps ts count come))),
    )

pub returns-in-Begins-clause-lighter : goal.returns-in-Begins-clause-lighter
returns-in-Begins-clause-lighter g c =
    let f = c.args.frame.now in
    let e = c.index-entries-frame.result in
    let items : c.entries-entries.result.now ≡ held_entries f.tree = c.entries-entries.ensures in
    let low : f.next < length (held_entries f.tree) = subst (λ xs. f.next < length xs) items c.if-frame-entries.false in
    let is : e ≡ get_or (held_entries f.tree) f.next e = c.index-entries-frame.is ∙ ap (λ xs. get_or xs f.next e) items in
    let next = option_copied c.next_of.result.0 in
    let r = c.next_of.result.1 in
    let ok = (rw c.in-Begins.is at (c.in_ok-inner.ensures {u = tt}).emitted) in
    lighter_begun f e low is next r c.next_of.ensures.next c.next_of.ensures.following c.in-Begins.inner.now ok.1.0

pub returns-in_err-append_unless_null-clause-error : goal.returns-in_err-append_unless_null-clause-error
returns-in_err-append_unless_null-clause-error g c =
    let f = c.args.frame.now in
    let e = c.index-entries-frame.result in
    let items : c.entries-entries.result.now ≡ held_entries f.tree = c.entries-entries.ensures in
    let low : f.next < length (held_entries f.tree) = subst (λ xs. f.next < length xs) items c.if-frame-entries.false in
    let is : e ≡ get_or (held_entries f.tree) f.next e = c.index-entries-frame.is ∙ ap (λ xs. get_or xs f.next e) items in
    let next = option_copied c.next_of.result.0 in
    let r = c.next_of.result.1 in
    let ok = (rw c.in-Id.is at (c.in_ok-inner.ensures {u = tt}).emitted) in
    let more = emits_next_of_entry f e low is next r c.next_of.ensures.next c.next_of.ensures.following ok.0 (entry_unless_null e c.in-Id.id) 0 ok.1 in
    if_err_weaken c.from_residual-in_err-append_unless_null.result _ _ c.from_residual-in_err-append_unless_null.ensures.1
    (stopped_at_call (λ f p h. CalledAt g.F.FnMut f p.1 (Ok p.0) h) (λ f tree x h. CalledAt g.F.FnMut f tree (Err x) h)
    (EmitsNext f) c.args.out.now c.visit_entry.new.out ok.0 more.0 ok.3 more.1)

pub returns-clause-emitted : goal.returns-clause-emitted
returns-clause-emitted g c =
    let f = c.args.frame.now in
    let e = c.index-entries-frame.result in
    let items : c.entries-entries.result.now ≡ held_entries f.tree = c.entries-entries.ensures in
    let low : f.next < length (held_entries f.tree) = subst (λ xs. f.next < length xs) items c.if-frame-entries.false in
    let is : e ≡ get_or (held_entries f.tree) f.next e = c.index-entries-frame.is ∙ ap (λ xs. get_or xs f.next e) items in
    let next = option_copied c.next_of.result.0 in
    let r = c.next_of.result.1 in
    let o = c.append_unless_null.new.written_tree in
    let h : Frame = record { node = f.node; base = f.base; tree = f.tree; next = f.next + 1; remaining = r; written_tree = o } in
    let ok = (rw c.in-Id.is at (c.in_ok-inner.ensures {u = tt}).emitted) in
    let kept = c.in_ok-append_unless_null.ensures {u = tt} in (
      ok.0,
      child_leaf_trees next,
      ok.2,
      ok.3,
      λ ps ts count come. let same : count + 0 ≡ count = omega arith in
          subst (λ k. HasEmitted h (ps ++ ok.0) (ts ++ child_leaf_trees next) k) same
          (has_come_visited f e low is next r c.next_of.ensures.next c.next_of.ensures.following c.next_of.ensures.filled o ok.0
          (entry_unless_null e c.in-Id.id) 0 ok.1 kept.entries kept.shares_base ps ts count come),
    )

pub returns-clause-lighter : goal.returns-clause-lighter
returns-clause-lighter g c =
    let f = c.args.frame.now in
    let e = c.index-entries-frame.result in
    let items : c.entries-entries.result.now ≡ held_entries f.tree = c.entries-entries.ensures in
    let low : f.next < length (held_entries f.tree) = subst (λ xs. f.next < length xs) items c.if-frame-entries.false in
    let is : e ≡ get_or (held_entries f.tree) f.next e = c.index-entries-frame.is ∙ ap (λ xs. get_or xs f.next e) items in
    let next = option_copied c.next_of.result.0 in
    let r = c.next_of.result.1 in
    lighter_visited f e low is next r c.next_of.ensures.next c.next_of.ensures.following c.append_unless_null.new.written_tree
