-- The last import of the list.
use Rattle.std.proofs.Common.{None, subst}
use Rattle.gix_object.specs.Imports.{AreCommitsOf, HaveFilesOfNothing}
use Rattle.gix_object.specs.hash.hash.kind.Kind.{Kind}
use Rattle.gixobj_examples_edits.proofs.Tips.{is_tip_of_option, tip_none_iff_no_steps}
use Rattle.gixobj_examples_edits.proofs.archive.tip_of.Goals as goal

pub returns-in-Ok-clause-none : goal.returns-in-Ok-clause-none
returns-in-Ok-clause-none g c =
    let final = g.S.Store.objects c.import_all.new.importer.editor.store in
    tip_none_iff_no_steps final c.new-importer.result.hash c.args.steps.now c.in-Ok.imported.items c.pop.new.self.items c.pop.result _ c.pop.ensures.items
    c.in-Ok.imported.ok.0 c.pop.ensures.variant ((c.in-Ok.ensures {u = tt}).commits c.new-importer.ensures.new)

pub returns-in-Ok-clause-tip : goal.returns-in-Ok-clause-tip
returns-in-Ok-clause-tip g c =
    let done = c.in-Ok.ensures {u = tt} in
    let imported = c.in-Ok.imported.items in
    let final = g.S.Store.objects c.import_all.new.importer.editor.store in
    is_tip_of_option (g.S.Store.objects c.args.store) final c.args.hash c.args.steps.now imported c.pop.new.self.items c.pop.result c.pop.ensures.items
    (subst (λ (k : Kind). AreCommitsOf k None c.args.steps.now imported final) c.new-importer.ensures.hash (done.commits c.new-importer.ensures.new))
    (subst (λ (s : g.row.S.Denot). HaveFilesOfNothing (g.S.Store.objects s) c.args.steps.now imported) c.new-importer.ensures.store
    (done.files c.new-importer.ensures.new))

pub returns-clause-cause : goal.returns-clause-cause
returns-clause-cause g c = record {
  start = c.new-importer.result;
  after = c.import_all.new.importer;
  done = c.in-Err.stopped.done.items;
  is_new = c.new-importer.ensures.new;
  over = c.new-importer.ensures.store;
  ids = c.new-importer.ensures.hash;
  cause = (c.in-Err.ensures {u = tt}).cause;
}
