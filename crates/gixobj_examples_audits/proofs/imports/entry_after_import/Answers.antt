-- The entry in the tree of the last import.
use Rattle.std.proofs.Common.{◌∙◌, ◌∷◌, ◌++◌, ◌≡◌, [], Option, ap, map, subst}
use Rattle.std.specs.Option.{option_to_list}
use Rattle.std.specs.Prelude.{IfErr, IfOk}
use Rattle.bstr.specs.Owned.{bstring_bytes}
use Rattle.gix_object.specs.Imports.{HaveFilesOfNothing}
use Rattle.gix_object.specs.Stores.{StoreModel}
use Rattle.gix_object.specs.import.import.Imported.{Imported}
use Rattle.gixobj_examples_audits.proofs.EntryAfterImport.{entry_of_last_result, entry_of_none, lookup_error_of_last, nil_of_popped}
use Rattle.gixobj_examples_audits.specs.Imports.{IsFoundIn, IsFoundInError, IsImportOf}
use Rattle.gixobj_examples_audits.proofs.imports.entry_after_import.Goals as goal

pub returns-in-Some-clause-found : goal.returns-in-Some-clause-found
returns-in-Some-clause-found g c =
    let model : StoreModel g.row.S.Denot = record { objects = g.S.Store.objects; may_fail = g.S.Store.may_fail } in
    let names = map bstring_bytes c.args.path.now in
    let imported = c.in-Ok.imported.items in
    let new = c.new-importer.ensures in
    let ran = c.in-Ok.ensures {u = tt} in
    let done : IsImportOf model c.args.store c.args.hash c.args.steps.now imported = record {
      start = c.new-importer.result;
      after = c.import_all.new.importer;
      is_new = new.new;
      over = new.store;
      ids = new.hash;
      imported_steps = ran.imported;
    } in
    let files = subst (λ (s : g.row.S.Denot). HaveFilesOfNothing (g.S.Store.objects s) c.args.steps.now imported) new.store (ran.files new.new) in
    let is : imported ≡ c.pop.new.self.items ++ c.in-Some.last ∷ [] =
    c.pop.ensures.items ∙ ap (λ (o : Option Imported). c.pop.new.self.items ++ option_to_list o) c.in-Some.is in
    entry_of_last_result model c.args.store c.args.hash c.args.steps.now names c.path_leads_to_one_entry.ensures c.file_is_looked_up.ensures imported done files
    c.pop.new.self.items c.in-Some.last is c.entry_in.result
    (subst (λ (s : g.row.S.Denot). IfOk c.entry_in.result (IsFoundIn (g.S.Store.objects s) c.in-Some.last.written.id names)) c.store_mut.ensures.value
    c.entry_in.ensures.found)

pub returns-in-Some-clause-error : goal.returns-in-Some-clause-error
returns-in-Some-clause-error g c =
    let model : StoreModel g.row.S.Denot = record { objects = g.S.Store.objects; may_fail = g.S.Store.may_fail } in
    let names = map bstring_bytes c.args.path.now in
    let imported = c.in-Ok.imported.items in
    let new = c.new-importer.ensures in
    let ran = c.in-Ok.ensures {u = tt} in
    let done : IsImportOf model c.args.store c.args.hash c.args.steps.now imported = record {
      start = c.new-importer.result;
      after = c.import_all.new.importer;
      is_new = new.new;
      over = new.store;
      ids = new.hash;
      imported_steps = ran.imported;
    } in
    let files = subst (λ (s : g.row.S.Denot). HaveFilesOfNothing (g.S.Store.objects s) c.args.steps.now imported) new.store (ran.files new.new) in
    let is : imported ≡ c.pop.new.self.items ++ c.in-Some.last ∷ [] =
    c.pop.ensures.items ∙ ap (λ (o : Option Imported). c.pop.new.self.items ++ option_to_list o) c.in-Some.is in
    lookup_error_of_last model c.args.store c.args.hash c.args.steps.now names c.path_leads_to_one_entry.ensures c.file_is_looked_up.ensures imported done files
    c.pop.new.self.items c.in-Some.last is c.entry_in.result
    (subst (λ (s : g.row.S.Denot). IfErr c.entry_in.result (IsFoundInError (g.S.Store.objects s) (g.S.Store.may_fail s) c.in-Some.last.written.id names))
    c.store_mut.ensures.value c.entry_in.ensures.error)

pub returns-clause-found : goal.returns-clause-found
returns-clause-found g c =
    let model : StoreModel g.row.S.Denot = record { objects = g.S.Store.objects; may_fail = g.S.Store.may_fail } in
    let names = map bstring_bytes c.args.path.now in
    let imported = c.in-Ok.imported.items in
    let new = c.new-importer.ensures in
    let ran = c.in-Ok.ensures {u = tt} in
    let done : IsImportOf model c.args.store c.args.hash c.args.steps.now imported = record {
      start = c.new-importer.result;
      after = c.import_all.new.importer;
      is_new = new.new;
      over = new.store;
      ids = new.hash;
      imported_steps = ran.imported;
    } in
    let files = subst (λ (s : g.row.S.Denot). HaveFilesOfNothing (g.S.Store.objects s) c.args.steps.now imported) new.store (ran.files new.new) in
    entry_of_none model c.args.store c.args.hash c.args.steps.now names c.path_leads_to_one_entry.ensures c.file_is_looked_up.ensures imported done files
    (nil_of_popped imported c.pop.result _ c.in-Ok.imported.ok.0 c.pop.ensures.variant c.in-None.is)
