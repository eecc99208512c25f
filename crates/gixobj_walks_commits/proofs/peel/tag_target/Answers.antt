use Rattle.gixobj_walks_commits.proofs.Lookups.{tag_of_target}
use Rattle.gixobj_walks_commits.proofs.peel.tag_target.Goals as goal

pub returns-clause-found : goal.returns-clause-found
returns-clause-found c = tag_of_target c.args.hash_kind c.args.bytes.now _ _ c.id_of_hex.result c.if-not-is_tag.ensures c.in-Some.ensures.found
    c.id_of_hex.ensures.decodes
