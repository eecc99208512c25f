-- Each name that is split off is the next name of the path, and a path without names ends the loop.
use Rattle.std.proofs.Common.{rules, ◌≡◌, ◌++◌, ◌∷◌, List, [], ap, map, subst, ◌∙◌}
use Rattle.std.proofs.lemmas.List.{append-nil, map-append}
use Rattle.std.proofs.lemmas.Result.{err_from_is_err_and}
use Rattle.bstr.specs.Owned.{bstring_bytes}
use Rattle.gixobj_store.specs.Lookups.{AreNamesOf, Name}
use Rattle.gixobj_store.proofs.PathBytes.{are_names_of_path, path_has_names, path_names, path_names_snoc, path_names_unique, rest_names_len_lt}
use Rattle.gixobj_store.proofs.tree.lookup.path_names.Goals as goal

pub returns-in_err-from_slice-clause-error : goal.returns-in_err-from_slice-clause-error
returns-in_err-from_slice-clause-error c =
    let from = err_from_is_err_and c.from_residual.result c.from_residual.ensures.1 in
    rw from.1 (path_has_names c.args.path.now c.loop-name.rest.now c.in-Some.name.now c.in-Some.following.now
    (map bstring_bytes c.loop-name.names.items) c.loop-name.invariant c.in-Some.ensures.found)

pub returns-in_err-push-clause-error : goal.returns-in_err-push-clause-error
returns-in_err-push-clause-error c =
    let from = err_from_is_err_and c.from_residual-in_err-push.result c.from_residual-in_err-push.ensures.1 in
    rw from.1 (path_has_names c.args.path.now c.loop-name.rest.now c.in-Some.name.now c.in-Some.following.now
    (map bstring_bytes c.loop-name.names.items) c.loop-name.invariant c.in-Some.ensures.found)

pub loop-name-smaller : goal.loop-name-smaller
loop-name-smaller c = rest_names_len_lt c.loop-name.rest.now c.in-Some.name.now c.in-Some.following.now c.in-Some.ensures.found

pub loop-name-preserved : goal.loop-name-preserved
loop-name-preserved c =
    let more = path_names_snoc c.args.path.now c.loop-name.rest.now c.in-Some.name.now c.in-Some.following.now
    (map bstring_bytes c.loop-name.names.items) c.loop-name.invariant c.in-Some.ensures.found in
    let copied : bstring_bytes c.in_ok-from_slice.field-0 ≡ c.in-Some.name.now = search rules in
    let items : c.push.new.self.items ≡ c.loop-name.names.items ++ c.in_ok-from_slice.field-0 ∷ [] = search rules in
    rw (items, map-append, copied) more

pub returns-clause-found : goal.returns-clause-found
returns-clause-found c =
    let none = path_names_unique c.loop-name.rest.now (path_names c.loop-name.rest.now) [] (are_names_of_path c.loop-name.rest.now) c.in_default.ensures.none in
    subst (λ (it : List Name). AreNamesOf c.args.path.now it)
    (c.loop-name.invariant ∙ ap (λ (it : List Name). map bstring_bytes c.loop-name.names.items ++ it) none ∙ append-nil _)
    (are_names_of_path c.args.path.now)
