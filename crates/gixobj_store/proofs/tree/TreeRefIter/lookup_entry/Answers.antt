use Rattle.std.proofs.Common.{rules, ◌≡◌, map, None, Option, Some, refl, subst, sym}
use Rattle.std.proofs.lemmas.Result.{err_from_is_err_and}
use Rattle.std.specs.declared.ops.ControlFlow.TheVariants.{Break, Continue}
use Rattle.bstr.specs.Owned.{bstring_bytes}
use Rattle.gixobj_tree_entries.specs.Entries.{EntryView}
use Rattle.gixobj_store.proofs.Paths.{follows_nil, follows_snoc}
use Rattle.gixobj_store.proofs.Steps.{path_error_of_copy, is_at_path_none, is_at_path_found, is_step_of_reader, named_stored, names_drop_one}
use Rattle.gixobj_store.proofs.Steps.{is_at_path_of_reader, kind_is_tree_of_step}
use Rattle.gixobj_store.specs.Lookups.{IsAtPath, remaining_tree}
use Rattle.gixobj_store.specs.Stores.{stored}
use Rattle.gixobj_store.proofs.tree.TreeRefIter.lookup_entry.Goals as goal

pub returns-in_err-owned-in-Break-clause-error : goal.returns-in_err-owned-in-Break-clause-error
returns-in_err-owned-in-Break-clause-error g c =
    let step = is_step_of_reader c.new-tree.result c.args.self.now (map bstring_bytes c.args.path.now) (Break c.in-Break.found) c.new-tree.ensures.content
    c.new-tree.ensures.kind c.new-tree.ensures.object_hash c.in-Break.ensures.step in
    let rejected = path_error_of_copy (g.S.Store.objects c.args.store.now) (g.S.Store.may_fail c.args.store.now) c.args.self.now
    (map bstring_bytes c.args.path.now) c.in-Break.found step c.in_err-owned-in-Break.ensures.error in
    let from = err_from_is_err_and c.from_residual.result c.from_residual.ensures.1 in
    rw (from.1, from.2) rejected

pub returns-in-Break-clause-found : goal.returns-in-Break-clause-found
returns-in-Break-clause-found g c =
    let step = is_step_of_reader c.new-tree.result c.args.self.now (map bstring_bytes c.args.path.now) (Break c.in-Break.found) c.new-tree.ensures.content
    c.new-tree.ensures.kind c.new-tree.ensures.object_hash c.in-Break.ensures.step in
    let at = is_at_path_of_reader (g.S.Store.objects c.args.store.now) c.args.self.now (map bstring_bytes c.args.path.now) c.in-Break.found step in
    subst (λ (it : Option EntryView). IsAtPath (g.S.Store.objects c.args.store.now) (Some (remaining_tree c.args.self.now))
    (map bstring_bytes c.args.path.now) it) (sym c.in_ok-owned-in-Break.ensures.found) at

pub loop-tree-init : goal.loop-tree-init
loop-tree-init g c =
    let step = is_step_of_reader c.new-tree.result c.args.self.now (map bstring_bytes c.args.path.now) (Continue c.in-Continue.id) c.new-tree.ensures.content
    c.new-tree.ensures.kind c.new-tree.ensures.object_hash c.in-Continue.ensures.step in
    let remaining = names_drop_one c.args.path.now c.next_entry.new.components.now (c.in-Continue.ensures.one_name c.new-tree.ensures.kind) in
    follows_nil (g.S.Store.objects c.args.store.now) (remaining_tree c.args.self.now) (map bstring_bytes c.args.path.now)
    (map bstring_bytes c.next_entry.new.components.now) c.in-Continue.id refl step remaining

pub returns-in_default-clause-found : goal.returns-in_default-clause-found
returns-in_default-clause-found g c =
    let none : c.in_ok-tree.field-0 ≡ None = search rules in
    is_at_path_none (g.S.Store.objects c.args.store.now) (Some (remaining_tree c.args.self.now)) (map bstring_bytes c.args.path.now)
    (map bstring_bytes c.loop-tree.names.now) _ c.loop-tree.id c.in_ok-tree.field-0 c.loop-tree.invariant c.in_ok-tree.ensures.found c.as_oid.ensures none

pub loop-tree-preserved : goal.loop-tree-preserved
loop-tree-preserved g c =
    let there = named_stored (g.S.Store.objects c.args.store.now) _ c.loop-tree.id c.in_ok-tree.field-0 c.in-Some.tree c.in_ok-tree.ensures.found
    c.as_oid.ensures c.in-Some.is in
    let is_tree = kind_is_tree_of_step c.in-Some.tree c.in-Continue-next_entry.next (λ other. (c.in-Continue-next_entry.ensures.no_tree other).0) in
    let remaining = names_drop_one c.loop-tree.names.now c.next_entry-in-loop-tree.new.components.now (c.in-Continue-next_entry.ensures.one_name is_tree) in
    follows_snoc (g.S.Store.objects c.args.store.now) (Some (remaining_tree c.args.self.now)) (map bstring_bytes c.args.path.now)
    (map bstring_bytes c.loop-tree.names.now) (map bstring_bytes c.next_entry-in-loop-tree.new.components.now) c.loop-tree.id c.in-Continue-next_entry.next
    (stored c.in-Some.tree) c.loop-tree.invariant there is_tree (c.in-Continue-next_entry.ensures.step is_tree) remaining

pub returns-in-Break-next_entry-clause-found : goal.returns-in-Break-next_entry-clause-found
returns-in-Break-next_entry-clause-found g c =
    let there = named_stored (g.S.Store.objects c.args.store.now) _ c.loop-tree.id c.in_ok-tree.field-0 c.in-Some.tree c.in_ok-tree.ensures.found
    c.as_oid.ensures c.in-Some.is in
    let at = is_at_path_found (g.S.Store.objects c.args.store.now) (Some (remaining_tree c.args.self.now)) (map bstring_bytes c.args.path.now)
    (map bstring_bytes c.loop-tree.names.now) c.loop-tree.id c.in-Some.tree c.in-Break-next_entry.found
    c.loop-tree.invariant there (λ other. (c.in-Break-next_entry.ensures.no_tree other).0) c.in-Break-next_entry.ensures.step in
    subst (λ (it : Option EntryView). IsAtPath (g.S.Store.objects c.args.store.now) (Some (remaining_tree c.args.self.now))
    (map bstring_bytes c.args.path.now) it) (sym c.in_ok-owned-in-Break-next_entry.ensures.found) at
