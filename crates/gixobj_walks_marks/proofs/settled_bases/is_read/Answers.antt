use Rattle.std.proofs.Common.{length, refl}
use Rattle.std.proofs.lemmas.Option.{slice_get_read}
use Rattle.gixobj_walks_marks.proofs.Kept.{read_test}
use Rattle.gixobj_walks_marks.proofs.settled_bases.is_read.Goals as goal

pub returns : goal.returns
returns c = read_test c.args.nodes.now c.args.number c.index-nodes-number.result
    (slice_get_read c.args.nodes.now (length c.args.nodes.now) c.args.number c.index-nodes-number.result refl c.requires
    c.index-nodes-number.is)
    c.is_some.result c.is_some.ensures
