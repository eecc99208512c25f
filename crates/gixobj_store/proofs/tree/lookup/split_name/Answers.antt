use Rattle.std.proofs.Common.{rules, ◌≡◌, ◌≢◌, [], length, refl}
use Rattle.gixobj_store.proofs.PathBytes.{splits_name_at_end, splits_name_at_slash, are_names_of_slashes}
use Rattle.gixobj_store.proofs.tree.lookup.split_name.Goals as goal

pub returns-then-is_empty-clause-none : goal.returns-then-is_empty-clause-none
returns-then-is_empty-clause-none c =
    let none : length c.without_slashes-names.result.now ≡ 0 = search rules in
    are_names_of_slashes c.args.path.now c.without_slashes-names.result.now c.without_slashes-names.ensures.names none

pub returns-in-Some-clause-found : goal.returns-in-Some-clause-found
returns-in-Some-clause-found c =
    splits_name_at_slash c.args.path.now c.without_slashes-names.result.now c.in-Some.name.now c.in-Some.following.now c.without_slashes.result.now
    c.without_slashes-names.ensures.names c.without_slashes-names.ensures.no_slash c.in-Some.ensures.found
    c.without_slashes.ensures.names c.without_slashes.ensures.no_slash

pub returns-in-None-clause-found : goal.returns-in-None-clause-found
returns-in-None-clause-found c =
    let some : c.without_slashes-names.result.now ≢ [] = search rules in
    splits_name_at_end c.args.path.now c.without_slashes-names.result.now _ c.without_slashes-names.ensures.names some c.in-None.ensures.none refl
