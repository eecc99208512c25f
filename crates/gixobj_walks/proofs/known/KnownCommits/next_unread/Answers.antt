-- The number that is next has a name.
use Rattle.std.proofs.Common.{◌<◌, None, subst}
use Rattle.gixobj_walks.proofs.NamedPaths.{below_of_name, contained_of_position}
use Rattle.gixobj_walks.proofs.known.KnownCommits.next_unread.Goals as goal

pub id_of-requires : goal.id_of-requires
id_of-requires c = subst (λ n. c.in-Some.number < n) c.requires
    (below_of_name c.args.self.now.reading.nodes c.in-Some.number None c.in-Some.ensures.unread)

pub returns-in-Some-clause-known : goal.returns-in-Some-clause-known
returns-in-Some-clause-known c = contained_of_position c.args.self.now.names c.id_of.result c.in-Some.number c.id_of.ensures
