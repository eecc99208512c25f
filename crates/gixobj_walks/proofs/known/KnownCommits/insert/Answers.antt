-- The commit is read over the numbers with those of its parents, and the names stay.
use Rattle.std.proofs.Common.{◌≡◌, ◌<◌, ◌-◌, None, arith, false, length, subst, sym}
use Rattle.gixobj_walks.proofs.Machines.{below_of_zip, given_walk, walking_given, wanted_number}
use Rattle.gixobj_walks.proofs.LargerGraphs.{all_weaker}
use Rattle.gixobj_walks.specs.Named.{Names}
use Rattle.gixobj_walks.proofs.NamedPaths.{below_of_name}
use Rattle.gixobj_walks.proofs.known.KnownCommits.insert.Goals as goal

pub read-requires-clause-parents : goal.read-requires-clause-parents
read-requires-clause-parents c = all_weaker (λ number. number < length c.numbers_in.new.names) _
    (λ number less. omega (arith, less, c.len.ensures.len, c.len-2.ensures))
    c.in_ok-parents.parents.items (below_of_zip c.numbers_in.new.names c.in_ok-parents.parents.items _ c.in_ok-parents.ensures.named)

pub returns-clause-kept : goal.returns-clause-kept
returns-clause-kept c = λ left right settled walking.
    let inside : c.in-Some.number < length c.args.self.reading.nodes =
    below_of_name c.args.self.reading.nodes c.in-Some.number None c.in-Some.ensures.unread in
    walking_given c.args.self.names c.numbers_in.new.names c.args.self.reading c.in_ok-reading.reading
    left right settled c.in-Some.number (c.len.result - c.len-2.result)
    c.in_ok-parents.parents.items c.args.seconds walking c.in_ok-parents.ensures.extended c.len.ensures.distinct inside
    (omega (arith, c.len.ensures.len, c.len-2.ensures))
    (below_of_zip c.numbers_in.new.names c.in_ok-parents.parents.items _ c.in_ok-parents.ensures.named)
    c.in_ok-reading.ensures.nodes c.in_ok-reading.ensures.left c.in_ok-reading.ensures.right

pub returns-clause-given : goal.returns-clause-given
returns-clause-given c = λ id commit node wanted.
    let it = wanted_number false c.args.self.names c.args.self.reading.next commit wanted in
    let same : c.in-Some.number ≡ it.0 = cc (c.in-Some.ensures.next, it.2) in
    given_walk c.args.self.names c.numbers_in.new.names c.args.self.reading.nodes c.in_ok-reading.reading.nodes
    (c.len.result - c.len-2.result) c.in-Some.number c.in_ok-parents.parents.items c.args.seconds commit c.args.parents.now
    c.in_ok-parents.ensures.extended c.requires.known c.requires.lengths
    (subst (λ n. Names c.args.self.names n commit) (sym same) it.3)
    c.in-Some.ensures.unread c.in_ok-parents.ensures.named c.in_ok-reading.ensures.nodes id node
