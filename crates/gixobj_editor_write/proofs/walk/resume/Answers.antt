use Rattle.std.proofs.Common.{◌≡◌, ◌∙◌, ◌<◌, ℕ, [], List, Ok, Err, get_or, length, refl, sym, ap, subst}
use Rattle.std.specs.Fn.{CalledAt}
use Rattle.gixobj_tree_entries.specs.Entries.{EntryView}
use Rattle.gixobj_editor_write.specs.Frames.{EmitsAfter, EmitsWritten, held_entries, written_entries}
use Rattle.gixobj_editor_write.specs.WriteErrors.{IsWriteError, entry_if_some}
use Rattle.gixobj_editor_open.proofs.Results.{if_err_weaken}
use Rattle.gixobj_editor_write.proofs.Emitting.{stopped_after_folds, stopped_at_call}
use Rattle.gixobj_editor_write.proofs.BegunFrames.{emits_after_written, has_resumed, lighter_resumed, storable_of_ended}
use Rattle.gixobj_editor_write.proofs.walk.resume.Goals as goal

pub bounds-entries-parent : goal.bounds-entries-parent
bounds-entries-parent g c = let so = c.requires.waits.3 in
    subst (λ xs. c.args.parent.now.next < length xs) (sym c.entries-entries.ensures) so.low

pub written_id-requires-clause-shares_base : goal.written_id-requires-clause-shares_base
written_id-requires-clause-shares_base g c = c.requires.come.3.in_step.shares_base

pub append_unless_null-requires : goal.append_unless_null-requires
append_unless_null-requires g c = c.requires.waits.3.in_step.shares_base

pub written_id-requires-clause-storable : goal.written_id-requires-clause-storable
written_id-requires-clause-storable g c = let so = c.requires.come in storable_of_ended c.args.done c.requires.ended so.0 so.1 so.2 so.3

pub returns-in_err-id-clause-error : goal.returns-in_err-id-clause-error
returns-in_err-id-clause-error g c =
    let old = c.args.parent.now in
    let done = c.args.done in
    let e = c.index-entries-parent.result in
    let is : e ≡ get_or (held_entries old.tree) old.next e =
    c.index-entries-parent.is ∙ ap (λ xs. get_or xs old.next e) c.entries-entries.ensures in
    if_err_weaken c.from_residual.result _ _ c.from_residual.ensures.1
    (λ error is_error. subst (IsWriteError (λ f p h. CalledAt g.F.FnMut f p.1 (Ok p.0) h) (λ f tree x h. CalledAt g.F.FnMut f tree (Err x) h)
    (EmitsAfter old done) c.args.out.now c.written_id.new.out) (sym is_error)
    (stopped_after_folds (λ f p h. CalledAt g.F.FnMut f p.1 (Ok p.0) h) (λ f tree x h. CalledAt g.F.FnMut f tree (Err x) h)
    (λ more. (kept : List EntryView) × (n : ℕ) × EmitsWritten done.base.now e (written_entries done) more kept n) (EmitsAfter old done)
    c.args.out.now c.args.out.now c.written_id.new.out [] refl
    (λ qs seen. emits_after_written old done e is c.requires.ended qs seen.0 seen.1 seen.2)
    c.in_err-id.field-0.0 c.in_err-id.ensures.error))

pub returns-in_err-append_unless_null-clause-error : goal.returns-in_err-append_unless_null-clause-error
returns-in_err-append_unless_null-clause-error g c =
    let old = c.args.parent.now in
    let done = c.args.done in
    let e = c.index-entries-parent.result in
    let is : e ≡ get_or (held_entries old.tree) old.next e =
    c.index-entries-parent.is ∙ ap (λ xs. get_or xs old.next e) c.entries-entries.ensures in
    let ok = (c.in_ok-id.ensures {u = tt}).emitted in
    let more = emits_after_written old done e is c.requires.ended ok.0 (entry_if_some e c.in_ok-id.id) ok.1 ok.5 in
    if_err_weaken c.from_residual-in_err-append_unless_null.result _ _ c.from_residual-in_err-append_unless_null.ensures.1
    (stopped_at_call (λ f p h. CalledAt g.F.FnMut f p.1 (Ok p.0) h) (λ f tree x h. CalledAt g.F.FnMut f tree (Err x) h)
    (EmitsAfter old done) c.args.out.now c.written_id.new.out ok.0 more.0 ok.4 more.1)

pub returns-clause-emitted : goal.returns-clause-emitted
returns-clause-emitted g c =
    let old = c.args.parent.now in
    let done = c.args.done in
    let e = c.index-entries-parent.result in
    let is : e ≡ get_or (held_entries old.tree) old.next e =
    c.index-entries-parent.is ∙ ap (λ xs. get_or xs old.next e) c.entries-entries.ensures in
    let ok = (c.in_ok-id.ensures {u = tt}).emitted in
    let kept = c.in_ok-append_unless_null.ensures {u = tt} in (
      ok.0,
      ok.1,
      ok.2,
      ok.3,
      ok.4,
      has_resumed old done e is c.requires.ended ok.0 (entry_if_some e c.in_ok-id.id) ok.1 ok.5 c.append_unless_null.new.written_tree kept.entries
          kept.shares_base,
    )

pub returns-clause-lighter : goal.returns-clause-lighter
returns-clause-lighter g c = lighter_resumed c.args.parent.now c.append_unless_null.new.written_tree c.requires.waits.3.low
