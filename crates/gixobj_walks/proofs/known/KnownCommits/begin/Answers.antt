-- The starts have numbers and marks, and no commit is read.
use Rattle.std.proofs.Common.{◌≡◌, ◌∙◌, ◌++◌, ◌<◌, [], None, ap, length, replicate, subst, sym}
use Rattle.std.specs.List.{AllByRecursion}
use Rattle.gixobj_walks_marks.specs.Marks.{HasMarks}
use Rattle.gixobj_walks.proofs.Machines.{below_extends, below_of_zip}
use Rattle.gixobj_walks.proofs.KnownIds.{known_starts}
use Rattle.gixobj_walks.proofs.NamedLists.{names_extend}
use Rattle.gixobj_walks.proofs.Starts.{nothing_given, unread_length, walking_begun}
use Rattle.gixobj_walks.proofs.known.KnownCommits.begin.Goals as goal

pub mark_left-requires-clause-known : goal.mark_left-requires-clause-known
mark_left-requires-clause-known c =
    let nodes : c.in_ok-reading.reading.nodes ≡ [] ++ replicate c.len.result None =
    c.in_ok-reading.ensures.nodes ∙ ap (λ it. it ++ replicate c.len.result None) c.new.ensures.nodes in
    let length_is : length c.in_ok-reading.reading.nodes ≡ length c.numbers_in-2.new.names =
    unread_length c.in_ok-reading.reading.nodes c.len.result nodes ∙ c.len.ensures.len in
    subst (λ it. AllByRecursion (λ start. start < length c.in_ok-reading.reading.nodes) it) (sym c.deref.ensures.value)
    (subst (λ n. AllByRecursion (λ start. start < n) c.in_ok-left.left.items) (sym length_is)
    (below_extends c.numbers_in.new.names c.numbers_in-2.new.names c.in_ok-right.ensures.extended c.in_ok-left.left.items
    (below_of_zip c.numbers_in.new.names c.in_ok-left.left.items c.args.left.now c.in_ok-left.ensures.named)))

pub mark_left-requires-clause-none : goal.mark_left-requires-clause-none
mark_left-requires-clause-none c = c.in_ok-reading.ensures.left [] c.new.ensures.left

pub mark_right-requires-clause-known : goal.mark_right-requires-clause-known
mark_right-requires-clause-known c =
    let nodes : c.in_ok-reading-2.reading.nodes ≡ [] ++ replicate c.len.result None =
    c.in_ok-reading-2.ensures.nodes ∙ c.in_ok-reading.ensures.nodes ∙ ap (λ it. it ++ replicate c.len.result None) c.new.ensures.nodes in
    let length_is : length c.in_ok-reading-2.reading.nodes ≡ length c.numbers_in-2.new.names =
    unread_length c.in_ok-reading-2.reading.nodes c.len.result nodes ∙ c.len.ensures.len in
    subst (λ it. AllByRecursion (λ start. start < length c.in_ok-reading-2.reading.nodes) it) (sym c.deref-2.ensures.value)
    (subst (λ n. AllByRecursion (λ start. start < n) c.in_ok-right.right.items) (sym length_is)
    (below_of_zip c.numbers_in-2.new.names c.in_ok-right.right.items c.args.right.now c.in_ok-right.ensures.named))

pub mark_right-requires-clause-none : goal.mark_right-requires-clause-none
mark_right-requires-clause-none c =
    subst (λ it. HasMarks c.in_ok-reading-2.reading.nodes [] it) (sym c.in_ok-reading-2.ensures.right)
    (subst (λ it. HasMarks it [] c.in_ok-reading.reading.right) (sym c.in_ok-reading-2.ensures.nodes)
    (c.in_ok-reading.ensures.right [] c.new.ensures.right))

pub returns-clause-left : goal.returns-clause-left
returns-clause-left c = names_extend c.numbers_in.new.names c.numbers_in-2.new.names c.in_ok-right.ensures.extended
    c.in_ok-left.left.items c.args.left.now c.in_ok-left.ensures.named

pub returns-clause-kept : goal.returns-clause-kept
returns-clause-kept c =
    let nodes : c.in_ok-reading-3.reading.nodes ≡ [] ++ replicate c.len.result None =
    c.in_ok-reading-3.ensures.nodes ∙ c.in_ok-reading-2.ensures.nodes ∙ c.in_ok-reading.ensures.nodes
    ∙ ap (λ it. it ++ replicate c.len.result None) c.new.ensures.nodes in
    walking_begun c.numbers_in-2.new.names c.in_ok-reading-3.reading c.in_ok-left.left.items c.in_ok-right.right.items c.len.result
    nodes c.len.ensures.len c.len.ensures.distinct
    (below_extends c.numbers_in.new.names c.numbers_in-2.new.names c.in_ok-right.ensures.extended c.in_ok-left.left.items
    (below_of_zip c.numbers_in.new.names c.in_ok-left.left.items c.args.left.now c.in_ok-left.ensures.named))
    (below_of_zip c.numbers_in-2.new.names c.in_ok-right.right.items c.args.right.now c.in_ok-right.ensures.named)
    (subst (λ it. HasMarks c.in_ok-reading-3.reading.nodes it c.in_ok-reading-3.reading.left) c.deref.ensures.value
    (subst (λ it. HasMarks c.in_ok-reading-3.reading.nodes c.deref.result.now it) (sym c.in_ok-reading-3.ensures.left)
    (subst (λ it. HasMarks it c.deref.result.now c.in_ok-reading-2.reading.left) (sym c.in_ok-reading-3.ensures.nodes)
    c.in_ok-reading-2.ensures.left)))
    (subst (λ it. HasMarks c.in_ok-reading-3.reading.nodes it c.in_ok-reading-3.reading.right) c.deref-2.ensures.value
    c.in_ok-reading-3.ensures.right)

pub returns-clause-given : goal.returns-clause-given
returns-clause-given c = λ id node given.
    let nodes : c.in_ok-reading-3.reading.nodes ≡ [] ++ replicate c.len.result None =
    c.in_ok-reading-3.ensures.nodes ∙ c.in_ok-reading-2.ensures.nodes ∙ c.in_ok-reading.ensures.nodes
    ∙ ap (λ it. it ++ replicate c.len.result None) c.new.ensures.nodes in
    nothing_given c.numbers_in-2.new.names c.in_ok-reading-3.reading.nodes c.len.result nodes id node given

pub returns-clause-known : goal.returns-clause-known
returns-clause-known c = known_starts c.new-names.result c.numbers_in.new.names c.numbers_in-2.new.names c.args.left.now c.args.right.now
    c.new-names.ensures c.in_ok-left.ensures.known c.in_ok-right.ensures.known
