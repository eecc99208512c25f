use Rattle.std.proofs.Common.{suc, arith}
use Rattle.gixobj_hash.specs.Hash.Borrowed.{borrowed_id}
use Rattle.gixobj_walks_commits.specs.Tags.{NamesTagOf}
use Rattle.gixobj_walks_commits.proofs.Lookups.{tags_lead_snoc}
use Rattle.gixobj_walks_commits.proofs.peel.peel_to_commit.Goals as goal

pub tags-preserved : goal.tags-preserved
tags-preserved g c =
    let tag : NamesTagOf (g.S.Store.objects c.args.store.now) c.tags.oid c.in-Ok-Tag.field-0-0 = rw c.in-Ok-Tag.field-0-is at c.in-Ok-Tag.ensures.found in (
      suc c.tags.invariant.0,
      omega (arith, c.tags.invariant.1),
      tags_lead_snoc (g.S.Store.objects c.args.store.now) c.tags.invariant.0 (borrowed_id c.args.id) c.tags.oid c.in-Ok-Tag.field-0-0
          c.tags.invariant.2 tag,
    )
