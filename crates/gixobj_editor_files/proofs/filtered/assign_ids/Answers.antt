use Rattle.std.proofs.Common.{arith, ◌≡◌, ◌≢◌, ◌∙◌, ◌+◌, ◌<◌, suc, [], ◌∷◌, ◌++◌, drop, take, length, refl, sym, ap, subst, add-one, append_assoc, drop-cons}
use Rattle.std.specs.Prelude.{IsFalse, not, slice_set}
use Rattle.std.proofs.lemmas.List.{drop-set-lt, take_more_set}
use Rattle.std.proofs.lemmas.List.Elements.{filter-append, recursion_from_All}
use Rattle.gixobj_tree_entries.specs.Entries.{EntryView}
use Rattle.gixobj_tree.specs.WellFormed.{EachLater}
use Rattle.gixobj_editor_files.specs.Editing.{non_null_entries}
use Rattle.gixobj_editor_files.specs.Files.{is_null}
use Rattle.gixobj_editor_files.specs.FilteredTrees.{IsFilteredTree, first_id_if_named, after_first_if_named}
use Rattle.gixobj_editor_files.specs.WrittenTrees.{with_id}
use Rattle.gixobj_editor_files.proofs.FilteredEntries.{AreFilled, filters_step}
use Rattle.gixobj_editor_files.proofs.filtered.assign_ids.Goals as goal

pub loop-entry-init : goal.loop-entry-init
loop-entry-init c = record {
  done = refl;
  apart = c.requires.apart;
  is_filtered = c.requires.filtered;
  filled = recursion_from_All (λ (e : EntryView). IsFalse (is_null e.id)) c.args.written_tree.now c.requires.non_null;
}

pub loop-entry-preserved : goal.loop-entry-preserved
loop-entry-preserved c =
    let i = c.loop-entry.entry-index in
    let es = c.loop-entry.entries in
    let e = c.entry-item.result in
    let new = c.assign_id-pending.new.entry in
    let pending = c.loop-entry.pending.now in
    let after = c.assign_id-pending.result.now in
    let so = c.loop-entry.invariant in
    let differ = λ (x y : EntryView). x.name ≢ y.name in
    let low : i < length es = omega (arith, c.loop-entry-test.true, c.loop-entry.auto.entries) in
    let here : drop i es ≡ e ∷ drop (i + 1) es = rw add-one (drop-cons es i e low ∙ ap (λ x. x ∷ drop (suc i) es) (sym c.entry-item.is)) in
    let apart : EachLater differ (e ∷ drop (i + 1) es) = subst (EachLater differ) here so.apart in
    let go = filters_step e (drop (i + 1) es) pending apart.0 so.filled (subst (IsFilteredTree pending) here so.is_filtered) in
    let tail : drop (i + 1) (slice_set es i new) ≡ drop (i + 1) es = drop-set-lt (i + 1) es i new (omega arith) in
    let made : new ≡ with_id e (first_id_if_named e.name pending) =
    c.assign_id-pending.ensures.id ∙ ap (λ (x : EntryView). with_id x (first_id_if_named x.name pending))
    (sym c.entry-item.is) in
    let on : after ≡ after_first_if_named e.name pending = c.assign_id-pending.ensures.remaining ∙ ap (λ (x : EntryView). after_first_if_named x.name pending)
    (sym c.entry-item.is) in
    let one : non_null_entries (new ∷ []) ++ after ≡ pending = ap (λ (x : EntryView). non_null_entries (x ∷ []) ++ after) made
    ∙ ap (λ xs. non_null_entries (with_id e (first_id_if_named e.name pending) ∷ []) ++ xs) on ∙ go.here in
    record {
      done = ap (λ xs. non_null_entries xs ++ after) (take_more_set es i new low)
          ∙ ap (λ xs. xs ++ after) (filter-append (λ (x : EntryView). not (is_null x.id)) (take i es) (new ∷ []))
          ∙ append_assoc (non_null_entries (take i es)) (non_null_entries (new ∷ [])) after
          ∙ ap (λ xs. non_null_entries (take i es) ++ xs) one
          ∙ so.done;
      apart = subst (EachLater differ) (sym tail) apart.1;
      is_filtered = subst (λ xs. IsFilteredTree xs (drop (i + 1) (slice_set es i new))) (sym on)
          (subst (IsFilteredTree (after_first_if_named e.name pending)) (sym tail) go.is_filtered);
      filled = subst AreFilled (sym on) go.filled;
    }
