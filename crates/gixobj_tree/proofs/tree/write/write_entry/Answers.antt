-- A written prefix of a part is a proper prefix of the entry.
use Rattle.std.proofs.Common.{rules}
use Rattle.std.proofs.lemmas.Result.{err_from_is_err_and}
use Rattle.gixobj_hash.specs.Hash.Borrowed.{borrowed_id}
use Rattle.gixobj_tree_entries.specs.Mode.{mode_bits}
use Rattle.gixobj_tree.proofs.TreeWrites.{appends_prefix_of_entry, appends_all_of_entry, appends_prefix_of_mode, entry_error_of_copy}
use Rattle.gixobj_tree_entries.specs.Entries.{entry_of}
use Rattle.gixobj_tree.proofs.tree.write.write_entry.Goals as goal

pub returns-in_err-write_mode-clause-error : goal.returns-in_err-write_mode-clause-error
returns-in_err-write_mode-clause-error g c =
    let p = err_from_is_err_and c.from_residual.result c.from_residual.ensures.1 in
    rw (p.1, p.2) (appends_prefix_of_mode _ _ (entry_of (mode_bits c.args.mode) c.args.name.now (borrowed_id c.args.id)) c.in_err-write_mode.ensures.appended)

pub returns-in_err-name-clause-error : goal.returns-in_err-name-clause-error
returns-in_err-name-clause-error g c =
    let p = err_from_is_err_and c.from_residual-in_err-name.result c.from_residual-in_err-name.ensures.1 in
    rw (p.1, p.2) (entry_error_of_copy _ _ (entry_of (mode_bits c.args.mode) c.args.name.now (borrowed_id c.args.id))
    (search rules) c.in_ok-write_mode.ensures.appended)

pub returns-in_err-write_name_and_id-clause-error :
    goal.returns-in_err-write_name_and_id-clause-error
returns-in_err-write_name_and_id-clause-error g c =
    let p = err_from_is_err_and c.from_residual-in_err-write_name_and_id.result c.from_residual-in_err-write_name_and_id.ensures.1 in
    rw (p.1, p.2) (appends_prefix_of_entry _ _ _ (entry_of (mode_bits c.args.mode) c.args.name.now (borrowed_id c.args.id)) c.in_ok-write_mode.ensures.appended
    c.in_err-write_name_and_id.ensures.appended)

pub returns-clause-written : goal.returns-clause-written
returns-clause-written g c =
    appends_all_of_entry _ _ _ (entry_of (mode_bits c.args.mode) c.args.name.now (borrowed_id c.args.id)) c.in_ok-write_mode.ensures.appended
    c.in_ok-write_name_and_id.ensures.appended

pub returns-clause-encodable : goal.returns-clause-encodable
returns-clause-encodable g c = search rules
