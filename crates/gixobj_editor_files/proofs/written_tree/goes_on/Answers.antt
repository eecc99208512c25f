use Rattle.std.proofs.Common.{◌≡◌, ◌∙◌, Some, length, true, refl, sym, ap, subst}
use Rattle.std.specs.Prelude.{slice_get}
use Rattle.std.proofs.lemmas.Option.{slice_get_read}
use Rattle.gixobj_tree_entries.specs.EntryOrder.{same_entry}
use Rattle.gixobj_tree_entries.specs.EntryOrderLaws.{entry_equiv}
use Rattle.gixobj_editor_files.specs.WrittenTrees.{with_id}
use Rattle.gixobj_editor_files.proofs.SameTrees.{same_entry_eq}
use Rattle.gixobj_editor_files.proofs.written_tree.goes_on.Goals as goal

pub returns : goal.returns
returns c =
    let base = c.args.base.now in
    let next = c.in-Some.next.now in
    let this = with_id c.args.entry.now c.args.id in
    let there : slice_get base c.args.same ≡ Some next =
    slice_get_read base (length base) c.args.same next refl c.in-Some.ensures.lookup.3.0 c.in-Some.ensures.lookup.1 in (
      λ same. there ∙ ap Some (same_entry_eq next this (sym c.is_same.ensures ∙ same)),
      λ is. c.is_same.ensures ∙ subst (λ x. same_entry next x ≡ true)
          (let one : next ≡ this = cc (is, there) in one) (entry_equiv.refl next),
    )
