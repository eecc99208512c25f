-- A lookup finds the entry to which the names of the path lead, or fails with an error of that path. They are the
-- clauses of `lookup_entry_by_path` and of its loop.
use Rattle.std.proofs.Common.{rules, ◌≡◌, None, Option, Some, refl, subst, sym}
use Rattle.std.proofs.lemmas.Result.{err_from_is_err_and}
use Rattle.std.specs.declared.ops.ControlFlow.TheVariants.{Break, Continue}
use Rattle.gixobj_hash.specs.declared.hash.object_id.ObjectId.{ObjectId}
use Rattle.gixobj_tree_entries.specs.Entries.{EntryView}
use Rattle.gixobj_store.proofs.PathBytes.{are_names_of_path, path_names}
use Rattle.gixobj_store.proofs.Paths.{follows_nil, follows_snoc, path_error_of_lookup}
use Rattle.gixobj_store.proofs.Steps.{path_error_of_copy, is_at_path_none, is_at_path_found, path_names_len_lt, is_step_of_reader, named_stored}
use Rattle.gixobj_store.proofs.Steps.{is_at_path_of_reader, is_step_of_path_names, kind_is_tree_of_step}
use Rattle.gixobj_store.specs.Lookups.{IsAtPath, remaining_tree}
use Rattle.gixobj_store.specs.Stores.{IsFindError, stored}
use Rattle.gixobj_store.proofs.tree.TreeRefIter.lookup_entry_by_path.Goals as goal

pub returns-in_err-owned-in-Break-clause-error : goal.returns-in_err-owned-in-Break-clause-error
returns-in_err-owned-in-Break-clause-error g c =
    let path = c.args.path.now in
    let in_list = is_step_of_path_names (stored c.new-tree.result) path c.next_entry_in_bytes.new.path.now (Break c.in-Break.found)
    (c.in-Break.ensures.step c.new-tree.ensures.kind) in
    let step = is_step_of_reader c.new-tree.result c.args.self.now (path_names path) (Break c.in-Break.found) c.new-tree.ensures.content c.new-tree.ensures.kind
    c.new-tree.ensures.object_hash (λ is_tree. in_list.0) in
    let rejected = path_error_of_copy (g.S.Store.objects c.args.store.now) (g.S.Store.may_fail c.args.store.now) c.args.self.now
    (path_names path) c.in-Break.found step c.in_err-owned-in-Break.ensures.error in
    let from = err_from_is_err_and c.from_residual.result c.from_residual.ensures.1 in
    rw (from.1, from.2) (path_names path, are_names_of_path path, rejected)

pub returns-in-Break-clause-found : goal.returns-in-Break-clause-found
returns-in-Break-clause-found g c =
    let path = c.args.path.now in
    let in_list = is_step_of_path_names (stored c.new-tree.result) path c.next_entry_in_bytes.new.path.now (Break c.in-Break.found)
    (c.in-Break.ensures.step c.new-tree.ensures.kind) in
    let step = is_step_of_reader c.new-tree.result c.args.self.now (path_names path) (Break c.in-Break.found) c.new-tree.ensures.content c.new-tree.ensures.kind
    c.new-tree.ensures.object_hash (λ is_tree. in_list.0) in
    let at = is_at_path_of_reader (g.S.Store.objects c.args.store.now) c.args.self.now (path_names path) c.in-Break.found step in (
      path_names path,
      are_names_of_path path,
      subst (λ (it : Option EntryView). IsAtPath (g.S.Store.objects c.args.store.now) (Some (remaining_tree c.args.self.now))
          (path_names path) it) (sym c.in_ok-owned-in-Break.ensures.found) at,
    )

pub loop-tree-init : goal.loop-tree-init
loop-tree-init g c =
    let path = c.args.path.now in
    let rest = c.next_entry_in_bytes.new.path.now in
    let in_list = is_step_of_path_names (stored c.new-tree.result) path rest (Continue c.in-Continue.id) (c.in-Continue.ensures.step c.new-tree.ensures.kind) in
    let step = is_step_of_reader c.new-tree.result c.args.self.now (path_names path)
    (Continue c.in-Continue.id) c.new-tree.ensures.content c.new-tree.ensures.kind
    c.new-tree.ensures.object_hash (λ is_tree. in_list.0) in
    follows_nil (g.S.Store.objects c.args.store.now) (remaining_tree c.args.self.now) (path_names path) (path_names rest) c.in-Continue.id refl step in_list.1

pub returns-in_default-clause-found : goal.returns-in_default-clause-found
returns-in_default-clause-found g c =
    let path = c.args.path.now in
    let none : c.in_ok-tree.field-0 ≡ None = search rules in
    let at = is_at_path_none (g.S.Store.objects c.args.store.now) (Some (remaining_tree c.args.self.now)) (path_names path)
    (path_names c.loop-tree.rest.now) _ c.loop-tree.id c.in_ok-tree.field-0 c.loop-tree.invariant c.in_ok-tree.ensures.found c.as_oid.ensures none in
    (path_names path, are_names_of_path path, at)

pub loop-tree-preserved : goal.loop-tree-preserved
loop-tree-preserved g c =
    let before = c.loop-tree.rest.now in
    let after = c.next_entry_in_bytes-in-loop-tree.new.path.now in
    let there = named_stored (g.S.Store.objects c.args.store.now) _ c.loop-tree.id c.in_ok-tree.field-0 c.in-Some.tree c.in_ok-tree.ensures.found
    c.as_oid.ensures c.in-Some.is in
    let is_tree = kind_is_tree_of_step c.in-Some.tree c.in-Continue-next_entry_in_bytes.next
    (λ other. (c.in-Continue-next_entry_in_bytes.ensures.no_tree other).0) in
    let in_list = is_step_of_path_names (stored c.in-Some.tree) before after (Continue c.in-Continue-next_entry_in_bytes.next)
    (c.in-Continue-next_entry_in_bytes.ensures.step is_tree) in
    follows_snoc (g.S.Store.objects c.args.store.now) (Some (remaining_tree c.args.self.now)) (path_names c.args.path.now) (path_names before)
    (path_names after) c.loop-tree.id c.in-Continue-next_entry_in_bytes.next
    (stored c.in-Some.tree) c.loop-tree.invariant there is_tree in_list.0 in_list.1

pub loop-tree-smaller : goal.loop-tree-smaller
loop-tree-smaller g c =
    let before = c.loop-tree.rest.now in
    let after = c.next_entry_in_bytes-in-loop-tree.new.path.now in
    let is_tree = kind_is_tree_of_step c.in-Some.tree c.in-Continue-next_entry_in_bytes.next
    (λ other. (c.in-Continue-next_entry_in_bytes.ensures.no_tree other).0) in
    let in_list = is_step_of_path_names (stored c.in-Some.tree) before after (Continue c.in-Continue-next_entry_in_bytes.next)
    (c.in-Continue-next_entry_in_bytes.ensures.step is_tree) in
    path_names_len_lt before after c.loop-tree.invariant.more in_list.1

pub returns-in-Break-next_entry_in_bytes-clause-found : goal.returns-in-Break-next_entry_in_bytes-clause-found
returns-in-Break-next_entry_in_bytes-clause-found g c =
    let path = c.args.path.now in
    let before = c.loop-tree.rest.now in
    let there = named_stored (g.S.Store.objects c.args.store.now) _ c.loop-tree.id c.in_ok-tree.field-0 c.in-Some.tree c.in_ok-tree.ensures.found
    c.as_oid.ensures c.in-Some.is in
    let at = is_at_path_found (g.S.Store.objects c.args.store.now) (Some (remaining_tree c.args.self.now)) (path_names path)
    (path_names before) c.loop-tree.id c.in-Some.tree c.in-Break-next_entry_in_bytes.found c.loop-tree.invariant there
    (λ other. (c.in-Break-next_entry_in_bytes.ensures.no_tree other).0)
    (λ is_tree. (is_step_of_path_names (stored c.in-Some.tree) before c.next_entry_in_bytes-in-loop-tree.new.path.now
    (Break c.in-Break-next_entry_in_bytes.found)
    (c.in-Break-next_entry_in_bytes.ensures.step is_tree)).0) in (
      path_names path,
      are_names_of_path path,
      subst (λ (it : Option EntryView). IsAtPath (g.S.Store.objects c.args.store.now) (Some (remaining_tree c.args.self.now))
          (path_names path) it) (sym c.in_ok-owned-in-Break-next_entry_in_bytes.ensures.found) at,
    )

pub returns-in_err-tree-clause-error : goal.returns-in_err-tree-clause-error
returns-in_err-tree-clause-error g c =
    let path = c.args.path.now in
    let fails = subst (λ (it : ObjectId). IsFindError (g.S.Store.may_fail c.args.store.now) it c.in_err-tree.field-0.0) c.as_oid.ensures
    c.in_err-tree.ensures.error in
    let rejected = path_error_of_lookup (g.S.Store.objects c.args.store.now) (g.S.Store.may_fail c.args.store.now) (Some (remaining_tree c.args.self.now))
    (path_names path) (path_names c.loop-tree.rest.now) c.loop-tree.id c.in_err-tree.field-0.0 c.loop-tree.invariant fails in
    let from = err_from_is_err_and c.from_residual-in_err-tree.result c.from_residual-in_err-tree.ensures.1 in
    rw (from.1, from.2) (path_names path, are_names_of_path path, rejected)

pub returns-in_err-owned-in-Break-next_entry_in_bytes-clause-error : goal.returns-in_err-owned-in-Break-next_entry_in_bytes-clause-error
returns-in_err-owned-in-Break-next_entry_in_bytes-clause-error g c =
    let from = err_from_is_err_and c.from_residual-in_err-owned-in-Break-next_entry_in_bytes.result
    c.from_residual-in_err-owned-in-Break-next_entry_in_bytes.ensures.1 in
    rw (from.1, from.2) (path_names c.args.path.now, are_names_of_path c.args.path.now, c.loop-tree.invariant.found)
