-- The import by a new importer over the store.
use Rattle.gixobj_examples_audits.proofs.imports.import_into.Goals as goal

pub returns-in-Ok : goal.returns-in-Ok
returns-in-Ok g c =
    let new = c.new-importer.ensures in
    record {
      imported = record {
        start = c.new-importer.result;
        after = c.import_all.new.importer;
        is_new = new.new;
        over = new.store;
        ids = new.hash;
        imported_steps = (c.in-Ok.ensures {u = tt}).imported;
      };
      error = tt;
    }

pub returns : goal.returns
returns g c =
    let new = c.new-importer.ensures in
    record {
      imported = tt;
      error = record {
        start = c.new-importer.result;
        after = c.import_all.new.importer;
        done = c.in-Err.stopped.done.items;
        is_new = new.new;
        over = new.store;
        ids = new.hash;
        stops = (c.in-Err.ensures {u = tt}).error;
      };
    }
