-- The tags that were followed lead to this object.
use Rattle.std.proofs.Common.{◌≡◌, ◌+◌, ℕ}
use Rattle.gixobj_hash.specs.Hash.Borrowed.{borrowed_id}
use Rattle.gixobj_walks_commits.specs.Tags.{TagsLeadTo}
use Rattle.gixobj_walks_commits.proofs.peel.peel_to_commit.Given as goal

abbrev pub invariant-tags : goal.invariant-tags
invariant-tags g l = (n : ℕ) × (n + l.remaining ≡ l.max_tags) × TagsLeadTo (g.S.Store.objects l.store) n (borrowed_id l.id) l.oid

abbrev pub decreases-tags : goal.decreases-tags
decreases-tags g l = l.remaining
