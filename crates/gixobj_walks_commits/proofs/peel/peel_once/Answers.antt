use Rattle.std.proofs.Common.{refl, inl, inr}
use Rattle.gixobj_store.specs.Stores.{stored}
use Rattle.gixobj_walks_commits.proofs.Lookups.{names_of_found}
use Rattle.gixobj_walks_commits.proofs.peel.peel_once.Goals as goal

pub returns-in-Commit-clause-found : goal.returns-in-Commit-clause-found
returns-in-Commit-clause-found g c = (
  stored c.in-Ok-Some.it,
  names_of_found (g.S.Store.objects c.args.store.now) c.args.id _ c.in-Ok-Some.it c.in-Ok-Some.field-0 c.in-Ok-Some.field-0-is c.as_oid.ensures
      c.in-Ok-Some.ensures.found,
  c.in-Commit.is,
)

pub returns-in-Tree-clause-found : goal.returns-in-Tree-clause-found
returns-in-Tree-clause-found g c = inl (
  stored c.in-Ok-Some.it,
  names_of_found (g.S.Store.objects c.args.store.now) c.args.id _ c.in-Ok-Some.it c.in-Ok-Some.field-0 c.in-Ok-Some.field-0-is c.as_oid.ensures
      c.in-Ok-Some.ensures.found,
  c.in-Tree.is,
)

pub returns-in-Blob-clause-found : goal.returns-in-Blob-clause-found
returns-in-Blob-clause-found g c = inr (
  stored c.in-Ok-Some.it,
  names_of_found (g.S.Store.objects c.args.store.now) c.args.id _ c.in-Ok-Some.it c.in-Ok-Some.field-0 c.in-Ok-Some.field-0-is c.as_oid.ensures
      c.in-Ok-Some.ensures.found,
  c.in-Blob.is,
)

pub returns-in-Some-clause-found : goal.returns-in-Some-clause-found
returns-in-Some-clause-found g c = record {
  object = stored c.in-Ok-Some.it;
  named = names_of_found (g.S.Store.objects c.args.store.now) c.args.id _ c.in-Ok-Some.it c.in-Ok-Some.field-0 c.in-Ok-Some.field-0-is c.as_oid.ensures
      c.in-Ok-Some.ensures.found;
  kind = c.in-Tag.is;
  tag = c.in-Some.ensures.found;
}

pub returns-in-None-clause-error : goal.returns-in-None-clause-error
returns-in-None-clause-error g c = (
  refl,
  refl,
  (
    stored c.in-Ok-Some.it,
    names_of_found (g.S.Store.objects c.args.store.now) c.args.id _ c.in-Ok-Some.it c.in-Ok-Some.field-0 c.in-Ok-Some.field-0-is c.as_oid.ensures
        c.in-Ok-Some.ensures.found,
    c.in-Tag.is,
    c.in-None.ensures.none,
  ),
)
