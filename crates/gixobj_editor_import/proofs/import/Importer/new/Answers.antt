use Rattle.std.proofs.Common.{◌∙◌, List, [], ap, refl, sym}
use Rattle.gixobj_editor_files.specs.State.{State, new_state}
use Rattle.gixobj_tree_entries.specs.Entries.{EntryView}
use Rattle.gixobj_editor_import.proofs.import.Importer.new.Goals as goal

pub returns-clause-new : goal.returns-clause-new
returns-clause-new g c =
    let is = c.new.ensures.state ∙ ap (λ (root : List EntryView). new_state root c.args.store c.args.hash) c.empty.ensures in
    record {
      editor = is ∙ ap (λ (store : g.row.S.Denot). new_state [] store c.args.hash) (sym (ap (λ (s : State _). s.store) is));
      last = refl;
      ready = refl;
    }

pub returns-clause-store : goal.returns-clause-store
returns-clause-store g c = ap (λ (s : State _). s.store) c.new.ensures.state
