-- Two imports of the same steps.
use Rattle.gix_object.specs.Stores.{StoreModel}
use Rattle.gixobj_examples_audits.proofs.SameImports.{same_imports}
use Rattle.gixobj_examples_audits.proofs.imports.import_twice.Goals as goal

pub returns-in-Ok-import_into-clause-same : goal.returns-in-Ok-import_into-clause-same
returns-in-Ok-import_into-clause-same g c = λ objects.
    let model : StoreModel g.row.S.Denot = record { objects = g.S.Store.objects; may_fail = g.S.Store.may_fail } in
    let other_model : StoreModel g.row.R.Denot = record { objects = g.R.Store.objects; may_fail = g.R.Store.may_fail } in
    same_imports model other_model c.store_has_tree_map.ensures c.args.store c.args.other c.args.hash c.args.steps.now c.in-Ok.imported.items
    c.in-Ok-import_into.again.items objects (c.in-Ok.ensures {u = tt}).imported (c.in-Ok-import_into.ensures {u = tt}).imported
